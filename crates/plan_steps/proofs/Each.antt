-- Each plan has one write at most.
use Rattle.std.proofs.Common.{◌≡◌, ◌&&◌, Bool, true, false, leb, if◌then◌else◌, ℕ, List, [], ◌∷◌, ◌++◌, Option, Some, None, map, refl, sym, ap, subst}
use Rattle.std.specs.List.{cons_option, filter_map, slice_get}
use Rattle.std.specs.Option.{option_map}
use Rattle.std.specs.List.Sorted.{IsPermutation}
use Rattle.std.proofs.lemmas.List.Sorted.{IsPermutation-cons, IsPermutation-map, IsPermutation-middle, IsPermutation-refl, IsPermutation-trans}
use Rattle.cluster_objects.specs.Keys.{same_text}
use Rattle.cluster_objects.specs.Kinds.{is_plan_key}
use Rattle.cluster_objects.specs.declared.keys.Key.{Key}
use Rattle.cluster_objects.specs.declared.objects.Object.{Object}
use Rattle.cluster_objects.specs.declared.objects.Status.{Status}
use Rattle.cluster_objects.specs.declared.objects.Status.TheVariants as status
use Rattle.cluster_objects.specs.declared.objects.Write.{Write}
use Rattle.cluster_history.specs.History.{Slots}
use Rattle.cluster_history.specs.Views.{View}
use Rattle.cluster_history.specs.declared.slots.Slot.{Slot}
use Rattle.lawful_history.specs.Installing.{Numbered, by_number, entry_write, entry_writes, installer_writes, move_write, next_move, numbered, placed}
use Rattle.plan_steps.specs.Laws.{write_at, writes_by_key}

-- one write beside a number at most
IsOne : List Numbered → Type 0
IsOne ws = (n : ℕ) × (w : Option Write) × (ws ≡ numbered n w)

module _ (view : View) (key : Key) (version : ℕ) where
  by_test : (b : Bool) (n : ℕ) (w : Option Write) → IsOne (if b then numbered n w else [])
  unfolding IsOne
  by_test true n w = (n, w, refl)
  by_test false n w = (0, None, refl)

  by_status : (object : Object) (s : Status)
      → IsOne (elim s [ status.Plan plan ↦ (if is_plan_key key && same_text key.namespace view.namespace then numbered plan.number (move_write view key version object plan (next_move plan)) else []) | _ ↦ [] ])
  unfolding IsOne
  by_status object (status.Plan plan) =
      by_test (is_plan_key key && same_text key.namespace view.namespace) plan.number (move_write view key version object plan (next_move plan))
  by_status object _ = (0, None, refl)

  by_object : (o : Option Object)
      → IsOne (elim o [ None ↦ [] | Some object ↦ (elim object.status [ status.Plan plan ↦ (if is_plan_key key && same_text key.namespace view.namespace then numbered plan.number (move_write view key version object plan (next_move plan)) else []) | _ ↦ [] ]) ])
  unfolding IsOne
  by_object None = (0, None, refl)
  by_object (Some object) = by_status object object.status

entry_one : (view : View) (key : Key) (there : Slot) → IsOne (entry_write view key there)
entry_one view key there = by_object view key there.version there.object

picked : (n : ℕ) (w : Option Write) (more : List Numbered) (rest : List Write) → rest ≡ map (λ (x : Numbered). x.1) more
    → cons_option (option_map (λ (x : Numbered). x.1) (slice_get (numbered n w) 0)) rest ≡ map (λ (x : Numbered). x.1) (numbered n w ++ more)
picked n None more rest h = h
picked n (Some w) more rest h = ap (λ (ws : List Write). w ∷ ws) h

picked_one : (ws more : List Numbered) (rest : List Write) → IsOne ws → rest ≡ map (λ (x : Numbered). x.1) more
    → cons_option (option_map (λ (x : Numbered). x.1) (slice_get ws 0)) rest ≡ map (λ (x : Numbered). x.1) (ws ++ more)
unfolding IsOne
picked_one ws more rest (n, w, is) h =
    subst (λ (ws : List Numbered). cons_option (option_map (λ (x : Numbered). x.1) (slice_get ws 0)) rest ≡ map (λ (x : Numbered). x.1) (ws ++ more)) (sym is) (picked n w more rest h)

writes_are : (view : View) (slots : Slots) → filter_map (write_at view) slots ≡ map (λ (x : Numbered). x.1) (entry_writes view slots)
writes_are view [] = refl
writes_are view (e ∷ slots) =
    picked_one (entry_write view e.0 e.1) (entry_writes view slots) (filter_map (write_at view) slots) (entry_one view e.0 e.1) (writes_are view slots)

placed_permutes : (x : Numbered) (ys : List Numbered) → IsPermutation (x ∷ ys) (placed x ys)
placed_permutes x [] = IsPermutation-refl (x ∷ [])
placed_permutes x (y ∷ ys) =
    elim (leb x.0 y.0) as (λ b. IsPermutation (x ∷ y ∷ ys) (if b then x ∷ y ∷ ys else y ∷ placed x ys)) [
      | true ↦ IsPermutation-refl (x ∷ y ∷ ys)
      | false ↦ IsPermutation-trans _ _ _ (IsPermutation-middle (x ∷ []) y ys) (IsPermutation-cons y (x ∷ ys) (placed x ys) (placed_permutes x ys))
    ]

by_number_permutes : (xs : List Numbered) → IsPermutation xs (by_number xs)
by_number_permutes [] = IsPermutation-refl []
by_number_permutes (x ∷ xs) = IsPermutation-trans _ _ _ (IsPermutation-cons x xs (by_number xs) (by_number_permutes xs)) (placed_permutes x (by_number xs))

pub one_each : (view : View) → IsPermutation (writes_by_key view) (installer_writes view)
one_each view =
    subst (λ (ws : List Write). IsPermutation ws (installer_writes view)) (sym (writes_are view view.slots))
    (IsPermutation-map (λ (x : Numbered). x.1) (entry_writes view view.slots) (by_number (entry_writes view view.slots)) (by_number_permutes (entry_writes view view.slots)))
