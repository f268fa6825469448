-- The state after one write more.
use Rattle.cluster_history.specs.History.{History, Start, After, position, base_of, IsInOrder}
use Rattle.std.proofs.Common.{◌≡◌, ◌≢◌, ◌+◌, Bool, true, false, cond, List, [], ◌∷◌, Option, Some, None, refl, sym, ap, ◌∙◌}
use Rattle.std.specs.Option.{unwrap_or}
use Rattle.std.specs.Map.{lookup, keys_of}
use Rattle.std.specs.List.{AllByRecursion}
use Rattle.std.specs.List.Sorted.{IsStrictlySortedBy}
use Rattle.std.proofs.lemmas.List.Elements.{All-from_recursion, recursion_from_All}
use Rattle.std.proofs.lemmas.Map.Views.{All-keys-insert_entry}
use Rattle.std.specs.BTreeMap.{insert_entry, is_at}
use Rattle.std.specs.Cmp.{IsTotalOrder, IsEquivalence, eq_by_cmp_equiv}
use Rattle.std.specs.Ordering.{eq_by_cmp, match_ordering, is_eq, ordering_reverse}
use Rattle.std.specs.declared.cmp.Ordering.{Ordering}
use Rattle.std.specs.declared.cmp.Ordering.TheVariants.{Equal, Less, Greater}
use Rattle.cluster_objects.specs.Keys.{key_cmp, same_key}
use Rattle.cluster_history.specs.History.{state, slot, slot_in, never_written, after_write}
use Rattle.cluster_objects.specs.declared.keys.Key.{Key}
use Rattle.cluster_history.specs.declared.slots.Slot.{Slot}
use Rattle.cluster_objects.specs.declared.objects.Write.{Write}
use Rattle.cluster_objects.proofs.Ordering.{keys_total, same_key-refl, same_key-false}

every : {A : Type 0} {P Q : A → Type 0} → ((x : A) → P x → Q x) → (xs : List A) → AllByRecursion P xs → AllByRecursion Q xs
every f [] a = tt
every f (x ∷ xs) a = (f x a.0, every f xs a.1)

cond_same : {A : Type 0} (b c : Bool) (x y z : A) → c ≡ b → cond c x z ≡ cond b x (cond c y z)
cond_same true true x y z h = refl
cond_same false false x y z h = refl
cond_same true false x y z h = cc
cond_same false true x y z h = cc

cond_swap : {A : Type 0} (b c : Bool) (x y z : A) → (b ≡ true → c ≡ false) → cond c y (cond b x z) ≡ cond b x (cond c y z)
cond_swap true true x y z h = let e = h refl in cc
cond_swap true false x y z h = refl
cond_swap false true x y z h = refl
cond_swap false false x y z h = refl

module _ {K X : Type 0} {R : K → K → Ordering} (o : IsTotalOrder R) where
  -- what stands at a key after an insert, in any list of entries
  pub lookup-insert_entry : (es : List (K × X)) (k : K) (v : X) (q : K) → lookup (is_at (R q)) (insert_entry R es k v) ≡ cond (is_at (R k) q) (Some v) (lookup (is_at (R q)) es)
  lookup-insert_entry [] k v q = ap (λ b. cond b (Some v) None) ((eq_by_cmp_equiv o).symm q k)
  lookup-insert_entry (e ∷ es) k v q = by_order (lookup-insert_entry es k v q) (R k e.0) refl
    where
      laws : IsEquivalence (eq_by_cmp R)
      laws = eq_by_cmp_equiv o

      below : R k e.0 ≡ Greater → is_at (R k) q ≡ true → is_at (R q) e.0 ≡ false
      below h at = sym (laws.congr k q e.0 at) ∙ ap is_eq h

      by_order : lookup (is_at (R q)) (insert_entry R es k v) ≡ cond (is_at (R k) q) (Some v) (lookup (is_at (R q)) es) → (r : Ordering) → R k e.0 ≡ r → lookup (is_at (R q)) (match_ordering r ((k, v) ∷ e ∷ es) ((e.0, v) ∷ es) (e ∷ insert_entry R es k v)) ≡ cond (is_at (R k) q) (Some v) (lookup (is_at (R q)) (e ∷ es))
      by_order ih Less h = ap (λ b. cond b (Some v) (lookup (is_at (R q)) (e ∷ es))) (laws.symm q k)
      by_order ih Equal h = cond_same _ _ (Some v) (Some e.1) _ (laws.symm q e.0 ∙ sym (laws.congr k e.0 q (ap is_eq h)))
      by_order ih Greater h =
          ap (λ rest. cond (is_at (R q) e.0) (Some e.1) rest) ih
          ∙ cond_swap (is_at (R k) q) (is_at (R q) e.0) (Some v) (Some e.1) _ (below h)

  -- an insert keeps the keys in order
  pub sorted-insert_entry : (es : List (K × X)) (k : K) (v : X) → IsStrictlySortedBy R (keys_of es) → IsStrictlySortedBy R (keys_of (insert_entry R es k v))
  unfolding IsStrictlySortedBy
  sorted-insert_entry [] k v s = (tt, tt)
  sorted-insert_entry (e ∷ es) k v s = by_order (R k e.0) refl (sorted-insert_entry es k v s.1)
    where
      below : R k e.0 ≡ Greater → R e.0 k ≡ Less
      below h = o.antisymm e.0 k ∙ ap ordering_reverse h

      by_order : (r : Ordering) → R k e.0 ≡ r → IsStrictlySortedBy R (keys_of (insert_entry R es k v)) → IsStrictlySortedBy R (keys_of (match_ordering r ((k, v) ∷ e ∷ es) ((e.0, v) ∷ es) (e ∷ insert_entry R es k v)))
      by_order Less h rest = ((h, every (λ y l. o.trans k e.0 y h l) (keys_of es) s.0), s)
      by_order Equal h rest = s
      by_order Greater h rest =
          (recursion_from_All (λ y. R e.0 y ≡ Less) _ (All-keys-insert_entry R k v (λ y. R e.0 y ≡ Less) es (All-from_recursion (λ y. R e.0 y ≡ Less) (keys_of es) s.0) (below h)), rest)

-- The state's keys are in order, where the base's are.
pub state_sorted : (h : History) → IsInOrder (base_of h).slots → IsInOrder (state h)
unfolding state
state_sorted (Start base) s = s
state_sorted (After w h) s = sorted-insert_entry keys_total (state h) w.key (after_write (slot_in (state h) w.key) (position h + 1) w) (state_sorted h s)

-- the slot of the key that was written, and every other slot
pub slot-put : (w : Write) (h : History) (key : Key) → slot (After w h) key ≡ cond (same_key w.key key) (after_write (slot h w.key) (position h + 1) w) (slot h key)
unfolding slot state same_key
slot-put w h key =
    ap (λ (o : Option Slot). unwrap_or o never_written) (lookup-insert_entry keys_total (state h) w.key (after_write (slot_in (state h) w.key) (position h + 1) w) key)
    ∙ picks (same_key w.key key)
  where
    picks : (b : Bool) → unwrap_or (cond b (Some (after_write (slot_in (state h) w.key) (position h + 1) w)) (lookup (is_at (key_cmp key)) (state h))) never_written ≡ cond b (after_write (slot_in (state h) w.key) (position h + 1) w) (slot_in (state h) key)
    picks true = refl
    picks false = refl

pub slot-written : (w : Write) (h : History) → slot (After w h) w.key ≡ after_write (slot h w.key) (position h + 1) w
slot-written w h = slot-put w h w.key ∙ ap (λ b. cond b (after_write (slot h w.key) (position h + 1) w) (slot h w.key)) (same_key-refl w.key)

pub slot-other : (w : Write) (h : History) (key : Key) → w.key ≢ key → slot (After w h) key ≡ slot h key
slot-other w h key apart = slot-put w h key ∙ ap (λ b. cond b (after_write (slot h w.key) (position h + 1) w) (slot h key)) (same_key-false w.key key apart)
