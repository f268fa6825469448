-- How long lists are that were read.
use Rattle.std.specs.Prelude.{◌≡◌, ◌≤◌, ◌<◌, ◌+◌, ℕ, List, Some, length}
use Rattle.payloads.specs.Form.{Form, list_form}
use Rattle.payloads.specs.Laws.{AreBytes}

-- no value is spelled with no byte
abbrev pub HasBytes : {A : Type 0} → Form A → Type 0
HasBytes {A} form = (x : A) → 0 < length (form.spell x)

-- A list that is read takes the eight bytes of its count and a byte at least for each item.
abbrev pub EndsByBytes : {A : Type 0} → Form A → Type 0
EndsByBytes {A} form = (bytes : List ℕ) (xs : List A) (rest : List ℕ) → AreBytes bytes → (list_form form).read bytes ≡ Some (xs, rest) → 8 + length xs + length rest ≤ length bytes
