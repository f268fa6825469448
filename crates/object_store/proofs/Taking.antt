-- The state without the last write.
use Rattle.std.proofs.Common.{◌≡◌, ◌+◌, List, [], ◌∷◌, ◌++◌, Option, refl, sym, ap, subst, ◌∙◌}
use Rattle.std.specs.BTreeMap.{insert_entry}
use Rattle.std.specs.List.Sorted.{IsStrictlySortedBy}
use Rattle.cluster_objects.specs.Keys.{key_cmp}
use Rattle.cluster_objects.specs.declared.keys.Key.{Key}
use Rattle.cluster_objects.specs.declared.objects.Write.{Write}
use Rattle.cluster_history.specs.History.{History, Slots, IsInOrder, Start, After, base_of, empty, after_all, after_write, position, slot_in, state}
use Rattle.cluster_history.specs.declared.slots.Slot.{Slot}
use Rattle.cluster_history.specs.declared.slots.Base.{Base}
use Rattle.cluster_history.proofs.State.{state_sorted}
use Rattle.object_store.specs.Appends.{IsUndoneBy}
use Rattle.object_store.specs.Seen.{slot_seen}
use Rattle.object_store.proofs.Appending.{after_all-push}
use Rattle.object_store.proofs.Undoing.{last_is}

-- a base stays, whatever is written
same_base : (h : History) (ws : List Write) → base_of (after_all h ws) ≡ base_of h
same_base h [] = refl
same_base h (w ∷ ws) = same_base (After w h) ws

in_order : (ws : List Write) → IsInOrder (state (after_all (Start empty) ws))
unfolding IsStrictlySortedBy
in_order ws = state_sorted (after_all (Start empty) ws) (subst (λ (b : Base). IsInOrder b.slots) (sym (same_base (Start empty) ws)) tt)

pub taken_back : (old new : List Write) (kept : Write) (key : Key) (before : Option Slot) (slots after : Slots) → kept.key ≡ key → slots ≡ state (after_all (Start empty) old) → old ≡ new ++ kept ∷ [] → IsUndoneBy before old
    → ((es : Slots) (made : Slot) → IsInOrder es → slots ≡ insert_entry key_cmp es key made → before ≡ slot_seen es key → after ≡ es) → after ≡ state (after_all (Start empty) new)
unfolding state
taken_back old new kept key before slots after same_key was is (earlier, w, ends, seen) back =
    let h = after_all (Start empty) new in
    let same = last_is earlier new w kept (sym ends ∙ is) in
    back (state h) (after_write (slot_in (state h) kept.key) (position h + 1) kept) (in_order new)
    (was ∙ ap (λ ws. state (after_all (Start empty) ws)) is ∙ ap state (after_all-push (Start empty) new kept) ∙ ap (λ k. insert_entry key_cmp (state h) k (after_write (slot_in (state h) kept.key) (position h + 1) kept)) same_key)
    (seen ∙ ap (λ ws. slot_seen (state (after_all (Start empty) ws)) w.key) same.0 ∙ ap (λ (x : Write). slot_seen (state h) x.key) same.1 ∙ ap (slot_seen (state h)) same_key)
