-- What a slot tells of the writes of its key.
use Rattle.std.proofs.Common.{◌≡◌, ◌+◌, Bool, true, false, cond, ◌++◌, refl, ap, ◌∙◌}
use Rattle.cluster_objects.specs.Keys.{same_key}
use Rattle.cluster_objects.specs.Stamps.{stamps_of}
use Rattle.cluster_history.specs.History.{History, Start, After, position, slot, last_position, last_object, all_stamps, state, slot_in}
use Rattle.cluster_objects.specs.declared.keys.Key.{Key}
use Rattle.cluster_history.specs.declared.slots.Slot.{Slot}
use Rattle.cluster_history.specs.declared.slots.Base.{Base}
use Rattle.cluster_objects.proofs.Ordering.{same_key-true}
use Rattle.cluster_history.proofs.State.{slot-put}

-- before the first write the slots are the base's
slot-start : (base : Base) (key : Key) → slot (Start base) key ≡ slot_in base.slots key
unfolding slot state
slot-start base key = refl

-- a part of the slot that was chosen
pick : {A : Type 0} (f : Slot → A) (b : Bool) (x y : Slot) → f (cond b x y) ≡ cond b (f x) (f y)
pick f true x y = refl
pick f false x y = refl

pub version_told : (h : History) (key : Key) → (slot h key).version ≡ last_position h key
version_told (Start base) key = ap (λ (x : Slot). x.version) (slot-start base key)
version_told (After w h) key =
    ap (λ (x : Slot). x.version) (slot-put w h key)
    ∙ pick (λ (x : Slot). x.version) (same_key w.key key) _ _
    ∙ ap (λ n. cond (same_key w.key key) (position h + 1) n) (version_told h key)

pub object_told : (h : History) (key : Key) → (slot h key).object ≡ last_object h key
object_told (Start base) key = ap (λ (x : Slot). x.object) (slot-start base key)
object_told (After w h) key =
    ap (λ (x : Slot). x.object) (slot-put w h key)
    ∙ pick (λ (x : Slot). x.object) (same_key w.key key) _ _
    ∙ ap (λ o. cond (same_key w.key key) w.object o) (object_told h key)

pub stamps_told : (h : History) (key : Key) → (slot h key).stamps ≡ all_stamps h key
stamps_told (Start base) key = ap (λ (x : Slot). x.stamps) (slot-start base key)
stamps_told (After w h) key =
    ap (λ (x : Slot). x.stamps) (slot-put w h key)
    ∙ pick (λ (x : Slot). x.stamps) (same_key w.key key) _ _
    ∙ by_test (stamps_told h key) (same_key w.key key) refl
  where
    by_test : (slot h key).stamps ≡ all_stamps h key → (b : Bool) → same_key w.key key ≡ b → cond b ((slot h w.key).stamps ++ stamps_of w.object) (slot h key).stamps ≡ cond b (all_stamps h key ++ stamps_of w.object) (all_stamps h key)
    by_test so_far true is = ap (λ k. (slot h k).stamps ++ stamps_of w.object) (same_key-true w.key key is) ∙ ap (λ xs. xs ++ stamps_of w.object) so_far
    by_test so_far false is = so_far
