-- Entries after an insert that is undone.
use Rattle.std.proofs.Common.{◌≡◌, true, cond, List, [], ◌∷◌, ◌++◌, Option, Some, None, Result, Ok, Err, OnOk, OnErr, refl, sym, ap, ◌∙◌, arith}
use Rattle.std.specs.Map.{lookup, keys_of, remove_entry}
use Rattle.std.specs.List.Sorted.{IsStrictlySortedBy}
use Rattle.std.specs.BTreeMap.{insert_entry, is_at}
use Rattle.std.specs.Cmp.{IsTotalOrder}
use Rattle.std.specs.Option.{unwrap_or}
use Rattle.std.specs.Ordering.{match_ordering, is_eq}
use Rattle.std.specs.declared.cmp.Ordering.{Ordering}
use Rattle.std.specs.declared.cmp.Ordering.TheVariants.{Equal, Less, Greater}
use Rattle.std.proofs.lemmas.Map.Entries.{lookup_at_gap}
use Rattle.cluster_objects.specs.Keys.{key_cmp, same_key}
use Rattle.cluster_objects.specs.declared.keys.Key.{Key}
use Rattle.cluster_objects.specs.declared.objects.Write.{Write}
use Rattle.cluster_objects.proofs.Ordering.{keys_total, same_key-refl}
use Rattle.cluster_history.specs.History.{Slots, IsInOrder}
use Rattle.cluster_history.specs.declared.slots.Slot.{Slot}
use Rattle.cluster_history.proofs.State.{lookup-insert_entry}
use Rattle.object_store.specs.Seen.{slot_seen}

some_none : {X : Type 0} (o : Option X) (v : X) → o ≡ None → o ≡ Some v → ⊥
some_none o v none some = cc (none, some)

module _ {K X : Type 0} {R : K → K → Ordering} (o : IsTotalOrder R) where
  -- a key below the first one stands nowhere
  below_all : (e : K × X) (es : List (K × X)) (k : K) → IsStrictlySortedBy R (keys_of (e ∷ es)) → R k e.0 ≡ Less → lookup (is_at (R k)) (e ∷ es) ≡ None
  below_all e es k sorted less = lookup_at_gap o k (e ∷ es) 0 sorted (λ j f lt is. absurd (omega (arith, lt))) (λ f is. cc (is, less))

  pub insert_again : (es : List (K × X)) (k : K) (w v : X) → IsStrictlySortedBy R (keys_of es) → lookup (is_at (R k)) es ≡ Some v → insert_entry R (insert_entry R es k w) k v ≡ es
  unfolding IsStrictlySortedBy
  insert_again [] k w v sorted is = absurd (some_none None v refl is)
  insert_again (e ∷ es) k w v sorted is = by_order (insert_again es k w v sorted.1) (R k e.0) refl
    where
      by_order : (lookup (is_at (R k)) es ≡ Some v → insert_entry R (insert_entry R es k w) k v ≡ es) → (r : Ordering) → R k e.0 ≡ r
          → insert_entry R (match_ordering r ((k, w) ∷ e ∷ es) ((e.0, w) ∷ es) (e ∷ insert_entry R es k w)) k v ≡ e ∷ es
      by_order rest Less h = absurd (some_none _ v (below_all e es k sorted h) is)
      by_order rest Equal h =
          ap (λ r. match_ordering r ((k, v) ∷ (e.0, w) ∷ es) ((e.0, v) ∷ es) ((e.0, w) ∷ insert_entry R es k v)) h
          ∙ ap (λ (o : Option X). (e.0, unwrap_or o v) ∷ es) (sym is ∙ ap (λ r. cond (is_eq r) (Some e.1) (lookup (is_at (R k)) es)) h)
      by_order rest Greater h =
          ap (λ r. match_ordering r ((k, v) ∷ e ∷ insert_entry R es k w) ((e.0, v) ∷ insert_entry R es k w) (e ∷ insert_entry R (insert_entry R es k w) k v)) h
          ∙ ap (λ (xs : List (K × X)). e ∷ xs) (rest (sym (ap (λ r. cond (is_eq r) (Some e.1) (lookup (is_at (R k)) es)) h) ∙ is))

  pub remove_again : (es : List (K × X)) (k : K) (w : X) → is_at (R k) k ≡ true → lookup (is_at (R k)) es ≡ None → remove_entry (is_at (R k)) (insert_entry R es k w) ≡ es
  remove_again [] k w same is = ap (λ b. cond b [] ((k, w) ∷ [])) same
  remove_again (e ∷ es) k w same is = by_order (remove_again es k w same) (R k e.0) refl
    where
      by_order : (lookup (is_at (R k)) es ≡ None → remove_entry (is_at (R k)) (insert_entry R es k w) ≡ es) → (r : Ordering) → R k e.0 ≡ r
          → remove_entry (is_at (R k)) (match_ordering r ((k, w) ∷ e ∷ es) ((e.0, w) ∷ es) (e ∷ insert_entry R es k w)) ≡ e ∷ es
      by_order rest Less h = ap (λ b. cond b (e ∷ es) ((k, w) ∷ remove_entry (is_at (R k)) (e ∷ es))) same
      by_order rest Equal h = absurd (some_none _ e.1 is (ap (λ r. cond (is_eq r) (Some e.1) (lookup (is_at (R k)) es)) h))
      by_order rest Greater h =
          ap (λ r. cond (is_eq r) (insert_entry R es k w) (e ∷ remove_entry (is_at (R k)) (insert_entry R es k w))) h
          ∙ ap (λ (xs : List (K × X)). e ∷ xs) (rest (sym (ap (λ r. cond (is_eq r) (Some e.1) (lookup (is_at (R k)) es)) h) ∙ is))

at_itself : (key : Key) → is_at (key_cmp key) key ≡ true
unfolding same_key
at_itself key = same_key-refl key

-- The entries as they were, whether the insert of what stood there succeeds or fails: it can't fail where an entry is.
pub put_again : {A E : Type 0} (es old new : Slots) (key : Key) (made slot : Slot) (before : Option Slot) (result : Result A E) → IsInOrder es → old ≡ insert_entry key_cmp es key made → before ≡ slot_seen es key → before ≡ Some slot
    → OnOk result (new ≡ insert_entry key_cmp old key slot) → OnErr result (slot_seen old key ≡ None) → new ≡ es
put_again es old new key made slot before (Ok x) sorted was seen is put absent =
    put ∙ ap (λ (s : Slots). insert_entry key_cmp s key slot) was ∙ insert_again keys_total es key made slot sorted (sym seen ∙ is)
put_again es old new key made slot before (Err x) sorted was seen is put absent =
    let there : slot_seen old key ≡ Some made = ap (λ (s : Slots). slot_seen s key) was ∙ lookup-insert_entry keys_total es key made key ∙ ap (λ b. cond b (Some made) (slot_seen es key)) (at_itself key) in
    absurd (some_none (slot_seen old key) made absent there)

pub taken_out : (es old new : Slots) (key : Key) (made : Slot) (before : Option Slot) → old ≡ insert_entry key_cmp es key made → before ≡ slot_seen es key → before ≡ None → new ≡ remove_entry (is_at (key_cmp key)) old → new ≡ es
taken_out es old new key made before was seen is removed =
    removed ∙ ap (remove_entry (is_at (key_cmp key))) was ∙ remove_again keys_total es key made (at_itself key) (sym seen ∙ is)

-- the last write, and those before it
pub last_is : (xs ys : List Write) (x y : Write) → xs ++ x ∷ [] ≡ ys ++ y ∷ [] → (xs ≡ ys) × (x ≡ y)
last_is [] [] x y e = (refl, cc)
last_is [] (b ∷ ys) x y e = absurd (no_nil ys y (cc (e)))
  where
    no_nil : (ys : List Write) (y : Write) → [] ≡ ys ++ y ∷ [] → ⊥
    no_nil [] y e = cc
    no_nil (c ∷ ys) y e = cc
last_is (a ∷ xs) [] x y e = absurd (no_nil xs x (cc (e)))
  where
    no_nil : (ys : List Write) (y : Write) → ys ++ y ∷ [] ≡ [] → ⊥
    no_nil [] y e = cc
    no_nil (c ∷ ys) y e = cc
last_is (a ∷ xs) (b ∷ ys) x y e =
    let rest = last_is xs ys x y (cc (e)) in
    let head : a ≡ b = cc (e) in
    (ap (λ z. z ∷ xs) head ∙ ap (λ zs. b ∷ zs) rest.0, rest.1)
