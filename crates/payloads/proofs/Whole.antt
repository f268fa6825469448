-- What all of the bytes spell.
use Rattle.std.proofs.Common.{◌≡◌, ℕ, List, [], ◌∷◌, ◌++◌, Option, Some, None, Result, Ok, Err, refl, sym, ap, ◌∙◌, subst}
use Rattle.std.specs.Prelude.{◌≢◌, IfOk, IfSome, IfNone}
use Rattle.std.proofs.lemmas.List.{append-nil}
use Rattle.payloads.specs.Form.{Form, Spells, whole, alone}
use Rattle.payloads.specs.Laws.{AreBytes, IsForm}
use Rattle.payloads.proofs.Combinators.{bind_some, bind_is}

pub whole_again : {A : Type 0} (form : Form A) → IsForm form → (x : A) (bytes : List ℕ) → Spells form x bytes → whole form bytes ≡ Some x
whole_again form laws x bytes spells =
    ap (whole form) (spells.1 ∙ sym (append-nil (form.spell x)))
    ∙ bind_is (form.read (form.spell x ++ [])) (λ y. alone y.0 y.1) (x, []) (laws.again x [] spells.0)

alone_is : {A : Type 0} (y x : A) (rest : List ℕ) → alone y rest ≡ Some x → (y ≡ x) × (rest ≡ [])
alone_is y x [] e = (cc, refl)
alone_is y x (b ∷ rest) e = absurd cc

pub whole_only : {A : Type 0} (form : Form A) → IsForm form → (x : A) (bytes : List ℕ) → AreBytes bytes → whole form bytes ≡ Some x → Spells form x bytes
whole_only {A} form laws x bytes are e =
    let a = bind_some (form.read bytes) (λ y. alone y.0 y.1) x e in
    let ends = alone_is a.0.0 x a.0.1 a.2 in
    let it = laws.only bytes a.0.0 a.0.1 are a.1 in
    let spelled : bytes ≡ form.spell a.0.0 = it.1 ∙ ap (λ (l : List ℕ). form.spell a.0.0 ++ l) ends.1 ∙ append-nil (form.spell a.0.0) in
    subst (λ (y : A). Spells form y bytes) ends.0 (it.0, spelled)

not_alone : {A : Type 0} (x : A) (more : List ℕ) → more ≢ [] → alone x more ≡ None
not_alone x [] some = absurd (some refl)
not_alone x (b ∷ more) some = refl

pub whole_alone : {A : Type 0} (form : Form A) → IsForm form → (x : A) (bytes more : List ℕ) → Spells form x bytes → more ≢ [] → whole form (bytes ++ more) ≡ None
whole_alone form laws x bytes more spells some =
    ap (λ (l : List ℕ). whole form (l ++ more)) spells.1
    ∙ bind_is (form.read (form.spell x ++ more)) (λ y. alone y.0 y.1) (x, more) (laws.again x more spells.0)
    ∙ not_alone x more some

-- where nothing is read, the bytes are no value's spelling
pub whole_none : {A : Type 0} (form : Form A) → IsForm form → (bytes : List ℕ) → whole form bytes ≡ None → (x : A) → Spells form x bytes → ⊥
whole_none form laws bytes none x spells = let e = sym none ∙ whole_again form laws x bytes spells in cc

-- what a call found that answers the whole
pub found_whole : {A E : Type 0} (form : Form A) → IsForm form → (bytes : List ℕ) → AreBytes bytes → (r : Result (Option A) E)
    → IfOk r (λ found. found ≡ whole form bytes) → IfOk r (λ found. IfSome found (λ x. Spells form x bytes))
found_whole form laws bytes are (Ok (Some x)) h = whole_only form laws x bytes are (sym h)
found_whole form laws bytes are (Ok None) h = tt
found_whole form laws bytes are (Err e) h = h

pub none_whole : {A E : Type 0} (form : Form A) → IsForm form → (bytes : List ℕ) → (r : Result (Option A) E)
    → IfOk r (λ found. found ≡ whole form bytes) → IfOk r (λ found. IfNone found ((x : A) → ¬ Spells form x bytes))
none_whole form laws bytes (Ok (Some x)) h = tt
none_whole form laws bytes (Ok None) h = whole_none form laws bytes (sym h)
none_whole form laws bytes (Err e) h = h
