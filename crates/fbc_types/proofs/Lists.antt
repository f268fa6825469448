-- Lists of breaks that are empty.
use Rattle.std.proofs.Common.{◌≡◌, ◌||◌, Bool, true, false, not, List, [], ◌∷◌, ◌++◌, refl}
use Rattle.std.specs.List.{All, AllByRecursion, flat_map}
use Rattle.std.proofs.lemmas.List.Elements.{All-from_recursion}
use Rattle.fbc_types.specs.Rules.{where_broken}
use Rattle.fbc_types.specs.declared.fault.CheckFault.{CheckFault}

pub nil_of_append : {A : Type 0} (xs ys : List A) → xs ++ ys ≡ [] → (xs ≡ []) × (ys ≡ [])
nil_of_append [] ys h = (refl, h)
nil_of_append (x ∷ xs) ys h = absurd (let bad : x ∷ (xs ++ ys) ≡ [] = h in cc)

pub unbroken : (is_broken : Bool) (fault : CheckFault) → where_broken is_broken fault ≡ [] → is_broken ≡ false
unbroken false fault h = refl
unbroken true fault h = absurd (let bad : fault ∷ [] ≡ [] = h in cc)

pub true_of_not : (b : Bool) → not b ≡ false → b ≡ true
true_of_not true h = refl
true_of_not false h = absurd (let bad : true ≡ false = h in cc)

pub false_of_or : (a b : Bool) → (a || b) ≡ false → (a ≡ false) × (b ≡ false)
false_of_or false b h = (refl, h)
false_of_or true b h = absurd (let bad : true ≡ false = h in cc)

module _ {A : Type 0} (report : A → List CheckFault) (P : A → Type 0) (each : (x : A) → report x ≡ [] → P x) where
  each_by_recursion : (xs : List A) → flat_map report xs ≡ [] → AllByRecursion P xs
  each_by_recursion [] h = tt
  each_by_recursion (x ∷ xs) h =
      let parts = nil_of_append (report x) (flat_map report xs) h in
      (each x parts.0, each_by_recursion xs parts.1)

  -- what holds of each item of which nothing is said
  pub each_unbroken : (xs : List A) → flat_map report xs ≡ [] → All P xs
  each_unbroken xs h = All-from_recursion P xs (each_by_recursion xs h)
