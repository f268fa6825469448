-- A trail's literals, and what is known of each variable.
use Rattle.std.proofs.Common.{◌≡◌, ℕ, zero, suc, ◌<◌, ◌==◌, Bool, true, false, not, ◌||◌, List, [], ◌∷◌, ◌++◌, length, map, reverse, refl, sym, ap, ◌∙◌, subst, inl, inr, ◌⊎◌, arith, Option, Some, None, set, get_or, get_or-set_other, get_or-set_same, length-set, replicate, eqb, eq-eqb, ne_eqb}
use Rattle.std.proofs.Math.Bool.{or-false}
use Rattle.std.proofs.lemmas.Bool.{cases_eq, cases_Bool, or_parts, or_left, or_right, eqb-true}
use Rattle.std.proofs.lemmas.List.{reverse-append, get_or-reverse}
use mathlib.Core.Bool.{beq}
use Rattle.op_constraints.specs.declared.Lit.{Lit}
use Rattle.derivations.specs.Clauses.{positive, negative, denial, is_same, is_in}
use Rattle.clause_trail.specs.declared.Entry.{Entry}
use Rattle.clause_trail.specs.Trails.{literals, IsUnknown, IsKnown, IsOrdered}
use Rattle.clause_trail.specs.Kept.{says, is_said, IsKept}

pub none_said : (n v : ℕ) (b : Bool) → says (get_or (replicate n None) v None) b ≡ false
none_said zero v b = refl
none_said (suc n) zero b = refl
none_said (suc n) (suc v) b = none_said n v b

pub kept-empty : (n : ℕ) (l : Lit) → is_in (literals []) l ≡ is_said (replicate n None) l
kept-empty n l = sym (none_said n l.var l.positive)

unsaid : (o : Option Bool) → says o true ≡ false → says o false ≡ false → o ≡ None
unsaid None t f = refl
unsaid (Some true) t f = absurd (let bad : true ≡ false = t in cc)
unsaid (Some false) t f = absurd (let bad : true ≡ false = f in cc)

both_unsaid : (o : Option Bool) (b : Bool) → says o b ≡ false → says o (not b) ≡ false → o ≡ None
both_unsaid o true t f = unsaid o t f
both_unsaid o false t f = unsaid o f t

agrees-set : (known : List (Option Bool)) (trail : List Lit) (l : Lit) → ((m : Lit) → is_in trail m ≡ is_said known m) → l.var < length known → IsUnknown trail l → (m : Lit) → is_in (l ∷ trail) m ≡ is_said (set known l.var (Some l.positive)) m
agrees-set known trail l a h u m =
    let none : get_or known l.var None ≡ None = both_unsaid (get_or known l.var None) l.positive (sym (a l) ∙ u.0) (sym (a (denial l)) ∙ u.1) in
    elim (cases_eq l.var m.var) [
      | inl same ↦
          (let read : get_or (set known l.var (Some l.positive)) m.var None ≡ Some l.positive = subst (λ k. get_or (set known l.var (Some l.positive)) k None ≡ Some l.positive) same (get_or-set_same known l.var (Some l.positive) None h) in
          let old : is_in trail m ≡ false = a m ∙ ap (λ o. says o m.positive) (subst (λ k. get_or known k None ≡ None) same none) in
          let here : eqb l.var m.var ≡ true = eq-eqb l.var m.var same in
          rw read (rw here (rw old (or-false (beq l.positive m.positive)))))
      | inr other ↦
          (let read : get_or (set known l.var (Some l.positive)) m.var None ≡ get_or known m.var None = get_or-set_other known l.var m.var (Some l.positive) None (λ s. other (sym s)) in
          let there : eqb l.var m.var ≡ false = ne_eqb l.var m.var other in
          rw read (rw there (a m)))
    ]

same-sign : (a b : Bool) → (beq a b ≡ true) ⊎ (beq (not a) b ≡ true)
same-sign true true = inl refl
same-sign true false = inr refl
same-sign false true = inr refl
same-sign false false = inl refl

beq_same : (a b : Bool) → beq a b ≡ true → a ≡ b
beq_same true true e = refl
beq_same true false e = cc
beq_same false true e = cc
beq_same false false e = refl

-- of a variable of which nothing is known, no literal is true
silent : (trail : List Lit) (l : Lit) (v : ℕ) (b : Bool) → l.var ≡ v → IsUnknown trail l → is_in trail (record { var = v; positive = b }) ≡ false
silent trail l v b same u =
    elim (same-sign l.positive b) [
      | inl e ↦ (let sign : l.positive ≡ b = beq_same l.positive b e in ap (λ w. is_in trail (record { var = w; positive = b })) (sym same) ∙ (ap (λ s. is_in trail (record { var = l.var; positive = s })) (sym sign) ∙ u.0))
      | inr e ↦ (let sign : not l.positive ≡ b = beq_same (not l.positive) b e in ap (λ w. is_in trail (record { var = w; positive = b })) (sym same) ∙ (ap (λ s. is_in trail (record { var = l.var; positive = s })) (sym sign) ∙ u.1))
    ]

agrees-unset : (known : List (Option Bool)) (trail : List Lit) (l : Lit) → ((m : Lit) → is_in (l ∷ trail) m ≡ is_said known m) → l.var < length known → IsUnknown trail l → (m : Lit) → is_in trail m ≡ is_said (set known l.var None) m
agrees-unset known trail l a h u m =
    elim (cases_eq l.var m.var) [
      | inl same ↦
          (let read : get_or (set known l.var None) m.var None ≡ None = subst (λ k. get_or (set known l.var None) k None ≡ None) same (get_or-set_same known l.var None None h) in
          rw read (silent trail l m.var m.positive same u))
      | inr other ↦
          (let read : get_or (set known l.var None) m.var None ≡ get_or known m.var None = get_or-set_other known l.var m.var None None (λ s. other (sym s)) in
          let there : eqb l.var m.var ≡ false = ne_eqb l.var m.var other in
          let was = rw there at (a m) in
          rw read was)
    ]

-- the entries of a trail that is pushed
pub pushed : (entries : List Entry) (e : Entry) → reverse (entries ++ e ∷ []) ≡ e ∷ reverse entries
pushed entries e = reverse-append entries (e ∷ [])

pub kept-push : (known : List (Option Bool)) (entries : List Entry) (e : Entry) → IsKept known entries → e.lit.var < length known → IsUnknown (literals entries) e.lit → IsKept (set known e.lit.var (Some e.lit.positive)) (e ∷ entries)
kept-push known entries e k h u =
    let size : length (set known e.lit.var (Some e.lit.positive)) ≡ length known = length-set known e.lit.var (Some e.lit.positive) in
    record {
      few = omega (arith, size, k.few);
      ordered = subst (λ n. IsOrdered n (e ∷ entries)) (sym size) (h, u, k.ordered);
      agrees = agrees-set known (literals entries) e.lit k.agrees h u;
    }

pub kept-pop : (known : List (Option Bool)) (entries : List Entry) (e : Entry) → IsKept known (e ∷ entries) → IsKept (set known e.lit.var None) entries
kept-pop known entries e k =
    let size : length (set known e.lit.var None) ≡ length known = length-set known e.lit.var None in
    record {
      few = omega (arith, size, k.few);
      ordered = subst (λ n. IsOrdered n entries) (sym size) k.ordered.2;
      agrees = agrees-unset known (literals entries) e.lit k.agrees k.ordered.0 k.ordered.1;
    }

known_either : (o : Option Bool) → (o ≡ None → ⊥) → (says o true || says o false) ≡ true
known_either None h = absurd (h refl)
known_either (Some true) h = refl
known_either (Some false) h = refl

pub kept-known : (known : List (Option Bool)) (entries : List Entry) (v : ℕ) → IsKept known entries → (get_or known v None ≡ None → ⊥) → IsKnown (literals entries) v
kept-known known entries v k h = rw (k.agrees (positive v)) (rw (k.agrees (negative v)) (known_either (get_or known v None) h))

pub kept-unknown : (known : List (Option Bool)) (entries : List Entry) (v : ℕ) → IsKept known entries → get_or known v None ≡ None → IsUnknown (literals entries) (negative v)
kept-unknown known entries v k none =
    (k.agrees (negative v) ∙ ap (λ o. says o false) none, k.agrees (positive v) ∙ ap (λ o. says o true) none)
