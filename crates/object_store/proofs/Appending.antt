-- The kept state after one write more.
use Rattle.std.proofs.Common.{◌≡◌, ◌+◌, ◌++◌, ◌∷◌, [], ℕ, List, Option, length, ap, refl, sym, ◌∙◌, arith, suc}
use Rattle.std.specs.BTreeMap.{insert_entry}
use Rattle.cluster_objects.specs.Keys.{key_cmp}
use Rattle.cluster_objects.specs.Stamps.{stamps_of}
use Rattle.cluster_history.specs.History.{History, Start, After, Slots, empty, after_all, position, state, slot_in}
use Rattle.cluster_objects.specs.declared.keys.Key.{Key}
use Rattle.cluster_objects.specs.declared.objects.Object.{Object}
use Rattle.cluster_history.specs.declared.slots.Slot.{Slot}
use Rattle.cluster_objects.specs.declared.objects.Write.{Write}

-- a write that is appended is the newest
pub after_all-push : (h : History) (ws : List Write) (w : Write) → after_all h (ws ++ w ∷ []) ≡ After w (after_all h ws)
after_all-push h [] w = refl
after_all-push h (x ∷ ws) w = after_all-push (After x h) ws w

position-all : (h : History) (ws : List Write) → position (after_all h ws) ≡ position h + length ws
position-all h [] = omega arith
position-all h (w ∷ ws) =
    let longer : length (w ∷ ws) ≡ suc (length ws) = refl in
    omega (arith, position-all (After w h) ws, longer)

pub position-kept : (ws : List Write) → position (after_all (Start empty) ws) ≡ length ws
position-kept ws = omega (arith, position-all (Start empty) ws)

abbrev put : Slots → Key → ℕ → Option Object → Slots
put slots key n object = insert_entry key_cmp slots key (record { version = n + 1; object = object; stamps = (slot_in slots key).stamps ++ stamps_of object })

pub append_state : (old : List Write) (kept : Write) (slots after : Slots) (key : Key) (object : Option Object) (slot : Slot) (n : ℕ)
    → slots ≡ state (after_all (Start empty) old) → kept.key ≡ key → kept.object ≡ slot.object → n ≡ length old
    → slot ≡ record { version = n + 1; object = object; stamps = (slot_in slots key).stamps ++ stamps_of object } → after ≡ insert_entry key_cmp slots key slot → after ≡ state (after_all (Start empty) (old ++ kept ∷ []))
unfolding state
append_state old kept slots after key object slot n was same_key same_object size is entries =
    let object_is : object ≡ kept.object = sym (same_object ∙ ap (λ (s : Slot). s.object) is) in
    let h = after_all (Start empty) old in
    entries ∙ ap (insert_entry key_cmp slots key) is
    ∙ ap (λ m. put slots key m object) (size ∙ sym (position-kept old))
    ∙ ap (λ (s : Slots). put s key (position h) object) was
    ∙ ap (λ (k : Key). put (state h) k (position h) object) (sym same_key)
    ∙ ap (λ (o : Option Object). put (state h) kept.key (position h) o) object_is
    ∙ sym (ap state (after_all-push (Start empty) old kept))
