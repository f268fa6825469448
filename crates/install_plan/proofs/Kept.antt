-- The first ones of a list with one step more.
use Rattle.std.proofs.Common.{◌≡◌, ◌&&◌, ◌||◌, ℕ, Bool, true, false, not, if◌then◌else◌, List, [], ◌∷◌, ◌++◌, refl, sym, ap, ◌∙◌, inl, inr}
use Rattle.std.specs.Prelude.{filter}
use Rattle.std.specs.List.{list_any}
use Rattle.std.proofs.lemmas.Bool.{cases_Bool, and_parts, false_from_ne_true}
use Rattle.std.proofs.lemmas.Cmp.{nat_list_eq_equiv}
use Rattle.std.proofs.lemmas.List.{append-nil}
use Rattle.std.proofs.lemmas.List.Elements.{filter-append}
use Rattle.cluster_objects.specs.Keys.{same_key, same_text}
use Rattle.cluster_objects.specs.declared.keys.Key.{Key}
use Rattle.cluster_objects.specs.declared.plans.Step.{Step}
use Rattle.cluster_objects.proofs.Ordering.{same_key-refl, same_key-true}
use Rattle.cluster_objects.proofs.Stamping.{same_text-true}
use Rattle.install_plan.specs.Plans.{is_same_step, first_ones}

abbrev Shown : Type 0
Shown = Key × List ℕ

shown : Step → Shown
shown step = (step.key, step.body)

same_shown : Shown → Shown → Bool
same_shown a b = same_key a.0 b.0 && same_text a.1 b.1

same_self : (step : Step) → is_same_step step step ≡ true
same_self step = let k = same_key-refl step.key in let b = nat_list_eq_equiv.refl step.body in rw k b

shown_is : (a b : Step) → is_same_step a b ≡ true → shown a ≡ shown b
unfolding shown
shown_is a b h =
    let (keys, bodies) = and_parts (same_key a.key b.key) (same_text a.body b.body) h in
    ap (λ (key : Key). (key, a.body)) (same_key-true a.key b.key keys) ∙ ap (λ (body : List ℕ). (b.key, body)) (same_text-true a.body b.body bodies)

-- what is the same step as one of two that are the same
second_same : (c a b : Step) → is_same_step a b ≡ true → is_same_step c a ≡ is_same_step c b
unfolding shown
second_same c a b h = ap (λ (s : Shown). same_key c.key s.0 && same_text c.body s.1) (shown_is a b h)

turned_true : (a b : Step) → is_same_step a b ≡ true → is_same_step b a ≡ true
turned_true a b h = second_same b a b h ∙ same_self b

differ : (a b : Step) → is_same_step a b ≡ false → is_same_step b a ≡ false
differ a b h =
    false_from_ne_true (is_same_step b a) (λ is.
    absurd (let bad : true ≡ false = sym (turned_true b a is) ∙ h in cc))

-- where another step is left out, a step is among the others as before
among_others : (step other : Step) (steps : List Step) → is_same_step step other ≡ false
    → list_any (is_same_step step) (filter (λ s. not (is_same_step other s)) steps) ≡ list_any (is_same_step step) steps
among_others step other [] h = refl
among_others step other (s ∷ steps) h =
    let rest = among_others step other steps h in
    elim (cases_Bool (is_same_step other s)) [
      | inl equal ↦ (let out : is_same_step step s ≡ false = sym (second_same step other s equal) ∙ h in rw equal (rw out rest))
      | inr unequal ↦ rw unequal (ap (λ b. is_same_step step s || b) rest)
    ]

-- one step more at the end
pub first_ones_more : (steps : List Step) (step : Step)
    → first_ones (steps ++ step ∷ []) ≡ (if list_any (is_same_step step) (first_ones steps) then first_ones steps else first_ones steps ++ step ∷ [])
first_ones_more [] step = refl
first_ones_more (s ∷ steps) step =
    let others : List Step → List Step = filter (λ t. not (is_same_step s t)) in
    let more = first_ones_more steps step in
    elim (cases_Bool (list_any (is_same_step step) (first_ones steps))) [
      | inl there ↦
          (let kept : first_ones (steps ++ step ∷ []) ≡ first_ones steps = rw there at more in
          elim (cases_Bool (is_same_step step s)) [
            | inl equal ↦ rw equal (ap (λ ss. s ∷ others ss) kept)
            | inr unequal ↦ (let among = among_others step s (first_ones steps) unequal in rw unequal (rw among (rw there (ap (λ ss. s ∷ others ss) kept))))
          ])
      | inr absent ↦
          (let grown : first_ones (steps ++ step ∷ []) ≡ first_ones steps ++ step ∷ [] = rw absent at more in
          let parts = filter-append (λ t. not (is_same_step s t)) (first_ones steps) (step ∷ []) in
          elim (cases_Bool (is_same_step step s)) [
            | inl equal ↦
                (let turned : is_same_step s step ≡ true = turned_true step s equal in
                rw equal (ap (λ ss. s ∷ others ss) grown ∙ ap (λ ss. s ∷ ss) (parts ∙ (rw turned (append-nil (others (first_ones steps)))))))
            | inr unequal ↦
                (let turned = differ step s unequal in
                let among = among_others step s (first_ones steps) unequal in
                rw unequal (rw among (rw absent (ap (λ ss. s ∷ others ss) grown ∙ ap (λ ss. s ∷ ss) (parts ∙ (rw turned refl))))))
          ])
    ]
