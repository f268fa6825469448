-- What a tree's keys say of the names in a set.
use Rattle.std.proofs.Common.{◌≡◌, ◌||◌, ◌&&◌, ℕ, Bool, true, false, cond, List, [], ◌∷◌, refl, sym, ap, ◌∙◌}
use Rattle.std.specs.Cmp.Lexicographic.{slice_cmp, texts_ties}
use Rattle.std.specs.List.{list_any}
use Rattle.std.specs.Ordering.{is_eq, nat_cmp, ordering_then}
use Rattle.std.specs.declared.cmp.Ordering.{Ordering}
use Rattle.std.specs.declared.cmp.Ordering.TheVariants.{Less, Equal, Greater}
use Rattle.name_tables.specs.Sets.{same}

-- two tests that agree on each item
pub agreed : {T : Type 0} (test other : T → Bool) → ((item : T) → test item ≡ other item) → (items : List T) → list_any test items ≡ list_any other items
agreed test other each [] = refl
agreed test other each (item ∷ items) = ap (λ b. b || list_any test items) (each item) ∙ ap (λ b. other item || b) (agreed test other each items)

pub turned : (a b : Bool) → cond a true b ≡ (b || a)
turned true true = refl
turned true false = refl
turned false true = refl
turned false false = refl

-- names are the same where their order ties them
pub tied : (a b : List ℕ) → is_eq (slice_cmp nat_cmp a b) ≡ same a b
tied a b = sym (texts_ties a b)

then_tied : (a b : Ordering) → is_eq (ordering_then a b) ≡ (is_eq a && is_eq b)
then_tied Less b = refl
then_tied Equal b = refl
then_tied Greater b = refl

-- of two parts each, they are the same where both parts are
pub both_tied : (a b c d : List ℕ) → is_eq (ordering_then (slice_cmp nat_cmp a b) (slice_cmp nat_cmp c d)) ≡ (same a b && same c d)
both_tied a b c d =
    then_tied (slice_cmp nat_cmp a b) (slice_cmp nat_cmp c d) ∙ ap (λ x. x && is_eq (slice_cmp nat_cmp c d)) (tied a b)
    ∙ ap (λ x. same a b && x) (tied c d)

-- what a set has with one more name
pub joined : {new tie seen is_same had : Bool} → new ≡ cond tie true seen → tie ≡ is_same → seen ≡ had → new ≡ (had || is_same)
joined {seen = seen} {is_same = is_same} {had = had} put h k =
    put ∙ ap (λ b. cond b true seen) h ∙ ap (cond is_same true) k ∙ turned is_same had
