-- A view's edges are writes of distinct keys.
use Rattle.std.proofs.Common.{◌≡◌, List, [], ◌∷◌, ℕ, zero, suc, Option, Some, None, refl, sym, ap, ◌∙◌, subst, slice_get}
use Rattle.std.specs.List.{AllByRecursion, cons_option, filter_map}
use Rattle.std.specs.Option.{option_map}
use Rattle.std.specs.declared.cmp.Ordering.TheVariants.{Equal, Less}
use Rattle.std.proofs.lemmas.Cmp.{tied_itself}
use Rattle.cluster_objects.specs.Keys.{key_cmp}
use Rattle.cluster_objects.specs.declared.keys.Key.{Key}
use Rattle.cluster_objects.specs.declared.objects.Write.{Write}
use Rattle.cluster_objects.specs.declared.statuses.CsvPhase.{CsvPhase}
use Rattle.cluster_objects.proofs.Ordering.{keys_total}
use Rattle.std.specs.List.Sorted.{IsStrictlySortedBy}
use Rattle.std.specs.Map.{keys_of}
use Rattle.cluster_history.specs.History.{IsInOrder, Slots}
use Rattle.cluster_history.specs.declared.slots.Slot.{Slot}
use Rattle.cluster_history.specs.Views.{View}
use Rattle.csv_phases.specs.Csvs.{Csv, csv_entry, csvs}
use Rattle.csv_phases.specs.Edges.{chosen, row}
use Rattle.csv_phases.specs.Phases.{edge_write, edge_writes}
use Rattle.csv_phases.proofs.Keys.{csv_place}
use Rattle.csv_phases.proofs.Members.{inside, made}

-- Each item is so related to all that stand behind it.
pub AllPairsAre : {X : Type 0} → (X → X → Type 0) → List X → Type 0
AllPairsAre R [] = Unit {0}
AllPairsAre R (x ∷ xs) = AllByRecursion (R x) xs × AllPairsAre R xs

-- What is picked of a list of which all pairs are related is related too.
module _ {X Y : Type 0} (pick : X → Option Y) (R : X → X → Type 0) (S : Y → Y → Type 0)
    (related : (d e : X) (x y : Y) → pick d ≡ Some x → pick e ≡ Some y → R d e → S x y) where
  behind : (d : X) (x : Y) → pick d ≡ Some x → (es : List X) → AllByRecursion (R d) es → AllByRecursion (S x) (filter_map pick es)
  behind d x is [] all = tt
  behind d x is (e ∷ es) all =
      let go : (o : Option Y) → pick e ≡ o → AllByRecursion (S x) (cons_option o (filter_map pick es)) =
      λ o. elim o as (λ o. pick e ≡ o → AllByRecursion (S x) (cons_option o (filter_map pick es))) [
        | None ↦ λ h. behind d x is es all.1
        | Some y ↦ λ h. (related d e x y is h all.0, behind d x is es all.1)
      ] in
      go (pick e) refl

  picked_again : (es : List X) → AllPairsAre R es → AllPairsAre S (filter_map pick es)
  unfolding AllPairsAre
  picked_again [] all = tt
  picked_again (e ∷ es) all =
      let go : (o : Option Y) → pick e ≡ o → AllPairsAre S (cons_option o (filter_map pick es)) =
      λ o. elim o as (λ o. pick e ≡ o → AllPairsAre S (cons_option o (filter_map pick es))) [
        | None ↦ λ h. picked_again es all.1
        | Some x ↦ λ h. (behind e x h es all.0, picked_again es all.1)
      ] in
      go (pick e) refl

later : (e : Key × Slot) (es : Slots) → AllByRecursion (λ k. key_cmp e.0 k ≡ Less) (keys_of es)
    → AllByRecursion (λ (d : Key × Slot). key_cmp e.0 d.0 ≡ Less) es
later e [] all = tt
later e (d ∷ es) all = (all.0, later e es all.1)

-- the slots of a view by their keys
by_keys : (slots : Slots) → IsInOrder slots → AllPairsAre (λ (d e : Key × Slot). key_cmp d.0 e.0 ≡ Less) slots
unfolding AllPairsAre IsStrictlySortedBy
by_keys [] up = tt
by_keys (e ∷ es) up = (later e es up.0, by_keys es up.1)

at_one : {X : Type 0} (P : X → Type 0) (xs : List X) (i : ℕ) (x : X) → AllByRecursion P xs → slice_get xs i ≡ Some x → P x
at_one P [] i x all h = absurd (let bad : None ≡ Some x = h in cc)
at_one P (y ∷ ys) zero x all h = subst P (ap (λ o. elim o [ None ↦ y | Some z ↦ z ]) h) all.0
at_one P (y ∷ ys) (suc i) x all h = at_one P ys i x all.1 h

abbrev Before : Write → Write → Type 0
Before v w = key_cmp v.key w.key ≡ Less

never : (a b : Key) → key_cmp a b ≡ Less → a ≡ b → ⊥
never a b less same =
    absurd (let bad : Equal ≡ Less = sym (tied_itself keys_total a) ∙ ap (key_cmp a) same ∙ less in cc)

first_of : (v w : Write) → Some v ≡ Some w → v ≡ w
first_of v w e = ap (λ o. elim o [ None ↦ v | Some x ↦ x ]) e

one_place : (ws : List Write) → AllPairsAre Before ws → (i j : ℕ) (v w : Write) → slice_get ws i ≡ Some v → slice_get ws j ≡ Some w
    → v.key ≡ w.key → i ≡ j
unfolding AllPairsAre
one_place [] all i j v w at here same = absurd (let bad : None ≡ Some v = at in cc)
one_place (x ∷ ws) all zero zero v w at here same = refl
one_place (x ∷ ws) all zero (suc j) v w at here same =
    absurd (never x.key w.key (at_one (Before x) ws j w all.0 here) (ap (λ (y : Write). y.key) (first_of x v at) ∙ same))
one_place (x ∷ ws) all (suc i) zero v w at here same =
    absurd (never x.key v.key (at_one (Before x) ws i v all.0 at) (ap (λ (y : Write). y.key) (first_of x w here) ∙ sym same))
one_place (x ∷ ws) all (suc i) (suc j) v w at here same = ap suc (one_place ws all.1 i j v w at here same)

made_key : (view : View) (csv : Csv) (to : Option CsvPhase) → (made view csv to).key ≡ csv.key
made_key view csv None = refl
made_key view csv (Some new) = refl

edge_key : (view : View) (csv : Csv) (w : Write) → option_map (edge_write view csv) (chosen view csv) ≡ Some w → w.key ≡ csv.key
edge_key view csv w h =
    let (edge, takes, is) = inside (edge_write view csv) (chosen view csv) w h in
    ap (λ (x : Write). x.key) (sym is) ∙ made_key view csv (row view csv edge).to

pub one_each : (view : View) (i j : ℕ) (v w : Write) → IsInOrder view.slots → slice_get (edge_writes view) i ≡ Some v
    → slice_get (edge_writes view) j ≡ Some w → v.key ≡ w.key → i ≡ j
one_each view i j v w up at here same =
    let of_csvs : AllPairsAre (λ x y. key_cmp x.key y.key ≡ Less) (csvs view) =
    picked_again (csv_entry view) (λ d e. key_cmp d.0 e.0 ≡ Less) (λ x y. key_cmp x.key y.key ≡ Less)
    (λ d e x y p q less.
    ap (λ k. key_cmp k y.key) (csv_place view d x p).0 ∙ ap (key_cmp d.0) (csv_place view e y q).0 ∙ less)
    view.slots (by_keys view.slots up) in
    let of_writes =
    picked_again (λ csv. option_map (edge_write view csv) (chosen view csv)) (λ x y. key_cmp x.key y.key ≡ Less) Before
    (λ d e x y p q less.
    ap (λ k. key_cmp k y.key) (edge_key view d x p) ∙ ap (key_cmp d.key) (edge_key view e y q) ∙ less)
    (csvs view) of_csvs in
    one_place (edge_writes view) of_writes i j v w at here same
