-- What holds of the members of lists.
use Rattle.std.proofs.Common.{◌≡◌, ℕ, zero, suc, Bool, true, false, List, [], ◌∷◌, ◌++◌, map, Option, Some, None, if◌then◌else◌, slice_get, refl, sym, ap, subst}
use Rattle.std.specs.Prelude.{filter}
use Rattle.std.specs.List.{AllByRecursion, cons_option, filter_map, flat_map}
use Rattle.upgrade_graph.specs.Sorting.{put_in, sorted}

pub none_is_some : {A : Type 0} (x : A) → ◌≡◌ {A = Option A} None (Some x) → ⊥
none_is_some x e = cc e

pub all_append : {A : Type 0} (P : A → Type 0) (xs ys : List A) → AllByRecursion P xs → AllByRecursion P ys → AllByRecursion P (xs ++ ys)
all_append P [] ys all more = more
all_append P (x ∷ xs) ys all more = (all.0, all_append P xs ys all.1 more)

pub all_filter : {A : Type 0} (P : A → Type 0) (keep : A → Bool) (xs : List A) → AllByRecursion P xs → AllByRecursion P (filter keep xs)
all_filter P keep [] all = tt
all_filter {A} P keep (x ∷ xs) all =
    let go : (b : Bool) → AllByRecursion P (if b then x ∷ filter keep xs else filter keep xs) =
    λ b. elim b as (λ b. AllByRecursion P (if b then x ∷ filter keep xs else filter keep xs)) [
      | true ↦ (all.0, all_filter P keep xs all.1)
      | false ↦ all_filter P keep xs all.1
    ] in
    go (keep x)

kept_one : {B : Type 0} (P : B → Type 0) (found : Option B) (more : List B) → ((y : B) → found ≡ Some y → P y) → AllByRecursion P more → AllByRecursion P (cons_option found more)
kept_one P None more one all = all
kept_one P (Some y) more one all = (one y refl, all)

pub all_there : {B : Type 0} (P : B → Type 0) (xs : List (Option B)) → AllByRecursion (λ found. (y : B) → found ≡ Some y → P y) xs
    → AllByRecursion P (filter_map (λ found. found) xs)
all_there P [] all = tt
all_there P (found ∷ xs) all = kept_one P found (filter_map (λ found. found) xs) all.0 (all_there P xs all.1)

pub all_flat : {A B : Type 0} (P : B → Type 0) (f : A → List B) → ((x : A) → AllByRecursion P (f x)) → (xs : List A) → AllByRecursion P (flat_map f xs)
all_flat P f each [] = tt
all_flat P f each (x ∷ xs) = all_append P (f x) (flat_map f xs) (each x) (all_flat P f each xs)

pub all_map : {A B : Type 0} (P : A → Type 0) (Q : B → Type 0) (f : A → B) → ((x : A) → P x → Q (f x)) → (xs : List A) → AllByRecursion P xs → AllByRecursion Q (map f xs)
all_map P Q f each [] all = tt
all_map P Q f each (x ∷ xs) all = (each x all.0, all_map P Q f each xs all.1)

pub all_each : {A : Type 0} (P : A → Type 0) → ((x : A) → P x) → (xs : List A) → AllByRecursion P xs
all_each P each [] = tt
all_each P each (x ∷ xs) = (each x, all_each P each xs)

all_put : {A : Type 0} (P : A → Type 0) (before : A → A → Bool) (x : A) (xs : List A) → P x → AllByRecursion P xs → AllByRecursion P (put_in before x xs)
all_put P before x [] one all = (one, tt)
all_put {A} P before x (y ∷ ys) one all =
    let go : (b : Bool) → AllByRecursion P (if b then y ∷ put_in before x ys else x ∷ y ∷ ys) =
    λ b. elim b as (λ b. AllByRecursion P (if b then y ∷ put_in before x ys else x ∷ y ∷ ys)) [
      | true ↦ (all.0, all_put P before x ys one all.1)
      | false ↦ (one, all)
    ] in
    go (before y x)

pub all_sorted : {A : Type 0} (P : A → Type 0) (before : A → A → Bool) (xs : List A) → AllByRecursion P xs → AllByRecursion P (sorted before xs)
all_sorted P before [] all = tt
all_sorted P before (x ∷ xs) all = all_put P before x (sorted before xs) all.0 (all_sorted P before xs all.1)

pub all_at : {A : Type 0} (P : A → Type 0) (xs : List A) → AllByRecursion P xs → (i : ℕ) (x : A) → slice_get xs i ≡ Some x → P x
all_at P [] all i x e = absurd (none_is_some x e)
all_at P (y ∷ ys) all zero x e = subst P (some_is y x e) all.0
  where
    some_is : {A : Type 0} (a b : A) → ◌≡◌ {A = Option A} (Some a) (Some b) → a ≡ b
    some_is a b e = cc e
all_at P (y ∷ ys) all (suc i) x e = all_at P ys all.1 i x e
