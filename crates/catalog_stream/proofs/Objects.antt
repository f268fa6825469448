-- What reading says of the object that some bytes are.
use Rattle.std.proofs.Common.{◌≡◌, ℕ, List, Bool, true, false, Some, None, IsUtf8, refl, sym, ap, ◌∙◌, cond, is_some}
use Rattle.std.specs.Option.{option_and_then}
use Rattle.std.specs.Str.{is_utf8}
use Rattle.std.proofs.lemmas.Str.{is_utf8-from_IsUtf8, IsUtf8-from_is_utf8}
use Rattle.serde_json.specs.Data.{Data}
use Rattle.serde_json.specs.Find.{as_object}
use Rattle.serde_json.specs.Read.{read}
use Rattle.catalog_stream.specs.Stream.{object_of, if_object}

pub object_of_read : (bytes : List ℕ) (d : Data) → IsUtf8 bytes → read bytes ≡ Some d → object_of bytes ≡ if_object d
unfolding object_of
object_of_read bytes d u e = ap (λ b. cond b (option_and_then if_object (read bytes)) None) (is_utf8-from_IsUtf8 bytes u) ∙ ap (option_and_then if_object) e

none_at : (bytes : List ℕ) (b : Bool) → is_utf8 bytes ≡ b → (IsUtf8 bytes → read bytes ≡ None) → cond b (option_and_then if_object (read bytes)) None ≡ None
none_at bytes true e h = ap (option_and_then if_object) (h (IsUtf8-from_is_utf8 bytes e))
none_at bytes false e h = refl

pub object_of_none : (bytes : List ℕ) → (IsUtf8 bytes → read bytes ≡ None) → object_of bytes ≡ None
unfolding object_of
object_of_none bytes h = none_at bytes (is_utf8 bytes) refl h

pub object_there : (bytes : List ℕ) (d : Data) (b : Bool) → IsUtf8 bytes → read bytes ≡ Some d → b ≡ is_some (as_object d) → b ≡ true → Some d ≡ object_of bytes
object_there bytes d b u e h t = sym (object_of_read bytes d u e ∙ ap (λ v. cond v (Some d) None) (sym h ∙ t))

pub no_object : (bytes : List ℕ) (d : Data) (b : Bool) → IsUtf8 bytes → read bytes ≡ Some d → b ≡ is_some (as_object d) → b ≡ false → None ≡ object_of bytes
no_object bytes d b u e h t = sym (object_of_read bytes d u e ∙ ap (λ v. cond v (Some d) None) (sym h ∙ t))
