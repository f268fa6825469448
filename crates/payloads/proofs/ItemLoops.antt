-- Reading so many values, one after the other.
use Rattle.std.proofs.Common.{◌≡◌, ◌<◌, ◌+◌, ◌-◌, ℕ, suc, List, [], ◌∷◌, ◌++◌, Option, Some, None, refl, sym, ap, ◌∙◌, arith, append_assoc, Err}
use Rattle.std.proofs.lemmas.List.{append-nil}
use Rattle.payloads.specs.Form.{Form, ◌>>=◌, read_items}
use Rattle.payloads.specs.Reading.{Reads}
use Rattle.payloads.specs.declared.stored.ReadFault.{ReadFault}
use Rattle.payloads.specs.declared.stored.ReadFault.TheVariants.{NoSpelling, Memory}
use Rattle.payloads.proofs.Combinators.{bind_is, bind_none}

-- what is read, behind what was read before
abbrev pub with_front : {A : Type 0} → List A → Option (List A × List ℕ) → Option (List A × List ℕ)
with_front front read = read >>= λ x. Some (front ++ x.0, x.1)

with_front-nil : {A : Type 0} (read : Option (List A × List ℕ)) → with_front [] read ≡ read
with_front-nil None = refl
with_front-nil (Some x) = refl

with_front-cons : {A : Type 0} (front : List A) (x : A) (read : Option (List A × List ℕ)) → with_front front (read >>= λ xs. Some (x ∷ xs.0, xs.1)) ≡ with_front (front ++ x ∷ []) read
with_front-cons front x None = refl
with_front-cons front x (Some xs) = ap (λ l. Some (l, xs.1)) (sym (append_assoc front (x ∷ []) xs.0))

pub items_begin : {A : Type 0} (form : Form A) (count : ℕ) (bytes : List ℕ) (front : List A) → front ≡ [] → with_front front (read_items form (count - 0) bytes) ≡ read_items form count bytes
items_begin {A} form count bytes front none =
    let all : count - 0 ≡ count = omega arith in
    ap (λ (l : List A). with_front l (read_items form (count - 0) bytes)) none ∙ ap (λ n. with_front [] (read_items form n bytes)) all ∙ with_front-nil (read_items form count bytes)

pub items_go_on : {A : Type 0} (form : Form A) (count counter : ℕ) (bytes rest behind : List ℕ) (front new : List A) (x : A) → counter < count → new ≡ front ++ x ∷ []
    → with_front front (read_items form (count - counter) rest) ≡ read_items form count bytes → form.read rest ≡ Some (x, behind)
    → with_front new (read_items form (count - (counter + 1)) behind) ≡ read_items form count bytes
items_go_on {A} form count counter bytes rest behind front new x below one_more so_far read =
    let more : count - counter ≡ suc (count - (counter + 1)) = omega arith in
    ap (λ (l : List A). with_front l (read_items form (count - (counter + 1)) behind)) one_more
    ∙ sym (with_front-cons front x (read_items form (count - (counter + 1)) behind))
    ∙ ap (with_front front) (sym (bind_is (form.read rest) (λ y. read_items form (count - (counter + 1)) y.1 >>= λ xs. Some (y.0 ∷ xs.0, xs.1)) (x, behind) read))
    ∙ ap (λ n. with_front front (read_items form n rest)) (sym more)
    ∙ so_far

pub items_end : {A : Type 0} (form : Form A) (count counter : ℕ) (bytes rest : List ℕ) (front : List A) → counter ≡ count
    → with_front front (read_items form (count - counter) rest) ≡ read_items form count bytes → read_items form count bytes ≡ Some (front, rest)
items_end form count counter bytes rest front at_end so_far =
    let no_more : count - counter ≡ 0 = omega arith in
    sym so_far ∙ ap (λ n. with_front front (read_items form n rest)) no_more ∙ ap (λ l. Some (l, rest)) (append-nil front)

pub items_fail : {A : Type 0} (form : Form A) (count counter : ℕ) (bytes rest : List ℕ) (front : List A) (fault : ReadFault) → counter < count
    → with_front front (read_items form (count - counter) rest) ≡ read_items form count bytes → Reads (form.read rest) (Err fault) → Reads (read_items form count bytes) (Err fault)
items_fail form count counter bytes rest front Memory below so_far read = tt
items_fail form count counter bytes rest front NoSpelling below so_far read =
    let more : count - counter ≡ suc (count - (counter + 1)) = omega arith in
    sym so_far ∙ ap (λ n. with_front front (read_items form n rest)) more
    ∙ ap (with_front front) (bind_none (form.read rest) (λ y. read_items form (count - (counter + 1)) y.1 >>= λ xs. Some (y.0 ∷ xs.0, xs.1)) read)
