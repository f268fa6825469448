-- Which writes a store has after a put.
use Rattle.std.proofs.Common.{◌≡◌, ◌++◌, ◌∷◌, ◌&&◌, [], ℕ, List, Bool, true, false, cond, not, Some, None, inl, inr, refl, sym, ap, ◌∙◌, append-nil, append_assoc, arith}
use Rattle.std.proofs.lemmas.Bool.{eq-eqb, ne_eqb}
use Rattle.cluster_history.specs.History.{History, Start, After, empty, after_all}
use Rattle.cluster_objects.specs.declared.objects.Write.{Write}
use Rattle.olm_io.specs.Outside.{HasCause}
use Rattle.object_store.specs.declared.cluster.PutAnswer.{PutAnswer}
use Rattle.object_store.specs.declared.cluster.PutAnswer.TheVariants as put
use Rattle.object_store.specs.Puts.{Puts, has_room, put_failed}
use Rattle.object_store.specs.declared.miss.Miss.{Miss}
use Rattle.object_store.specs.Misses.{MemClusterState, CallsPut, Stores, answered, history_of, is_lost, missed, next_miss, written}

abbrev writes_of : History → List Write
writes_of (Start base) = []
writes_of (After w h) = writes_of h ++ w ∷ []

all_writes : (h : History) (ws : List Write) → writes_of (after_all h ws) ≡ writes_of h ++ ws
all_writes h [] = sym (append-nil (writes_of h))
all_writes h (w ∷ ws) = all_writes (After w h) ws ∙ append_assoc (writes_of h) (w ∷ []) ws

pub same_writes : (old new : List Write) → history_of new ≡ history_of old → new ≡ old
same_writes old new e = sym (all_writes (Start empty) new) ∙ ap writes_of e ∙ all_writes (Start empty) old

one_write : (old new : List Write) (w : Write) → history_of new ≡ After w (history_of old) → new ≡ old ++ w ∷ []
one_write old new w e = sym (all_writes (Start empty) new) ∙ ap writes_of e ∙ ap (λ ws. ws ++ w ∷ []) (all_writes (Start empty) old)

both : (a b : Bool) → a ≡ true → b ≡ true → (a && b) ≡ true
both a b e f = rw (e, f) refl

not_first : (a b : Bool) → a ≡ false → (a && b) ≡ false
not_first a b e = rw e refl

not_second : (a b : Bool) → b ≡ false → (a && b) ≡ false
not_second true b e = e
not_second false b e = refl

pair : (a b : ℕ) (xs ys : List Write) → a ≡ b → xs ≡ ys → (let p : ℕ × List Write = (a, xs) in p) ≡ (b, ys)
pair a b xs ys e f = ap (λ (n : ℕ). let p : ℕ × List Write = (n, xs) in p) e ∙ ap (λ (zs : List Write). let p : ℕ × List Write = (b, zs) in p) f

pub stored : (old new : ℕ × List Write) (w : Write) (answer : PutAnswer) → new.0 ≡ old.0
    → Puts (has_room true old.0 (history_of old.1)) (history_of old.1) w (history_of new.1) answer → HasCause 0 0 (put_failed answer ≡ true) → Stores old w new answer
stored old new w (put.Done version) limit (agrees, room, more, at) cause =
    (both _ _ (eq-eqb _ _ agrees) room, pair new.0 old.0 new.1 (old.1 ++ w ∷ []) limit (one_write old.1 new.1 w more))
stored old new w (put.Conflict found) limit (at, differs, same) cause =
    (not_first _ _ (ne_eqb _ _ (λ e. differs (e ∙ sym at))), pair new.0 old.0 new.1 old.1 limit (same_writes old.1 new.1 same))
stored old new w put.Full limit (agrees, room, same) cause =
    (not_second _ _ room, pair new.0 old.0 new.1 old.1 limit (same_writes old.1 new.1 same))
stored old new w put.Failed limit either cause = let up = cause.rose refl in omega (arith, up)
stored old new w put.Memory limit same cause = pair new.0 old.0 new.1 old.1 limit (same_writes old.1 new.1 same)

-- the state with the limit and the writes of a store that never fails
abbrev with_store : MemClusterState → ℕ × List Write → MemClusterState
with_store s after = record s { limit = after.0; writes = after.1 }

pub put_counted : (old new : MemClusterState) (w : Write) (after : ℕ × List Write) (answer : PutAnswer) → next_miss old ≡ None
    → Stores (old.limit, old.writes) w after answer → (answer ≡ put.Memory → ⊥) → new ≡ answered (with_store old after) → CallsPut old w new answer
put_counted old new w after (put.Done version) none is other e = (none, e ∙ ap (λ p. answered (with_store old p)) is.1)
put_counted old new w after (put.Conflict found) none is other e = (none, e ∙ ap (λ p. answered (with_store old p)) is.1)
put_counted old new w after put.Full none is other e = (none, e ∙ ap (λ p. answered (with_store old p)) is.1)
put_counted old new w after put.Failed none is other e = absurd is
put_counted old new w after put.Memory none is other e = absurd (other refl)

-- a put that fails, after what the store that never fails answers
pub put_failing : (room : Bool) (h : History) (w : Write) (new : History) (answer : PutAnswer) → Puts room h w new answer → Puts room h w new put.Failed
put_failing room h w new (put.Done version) (agrees, has, more, at) = inr (agrees, has, more)
put_failing room h w new (put.Conflict found) (at, differs, same) = inl same
put_failing room h w new put.Full (agrees, has, same) = inl same
put_failing room h w new put.Failed either = either
put_failing room h w new put.Memory same = inl same

missed_as : (old : MemClusterState) (w : Write) (after : ℕ × List Write) (b : Bool) → b ≡ true → after ≡ (old.limit, old.writes ++ w ∷ []) → missed (with_store old after) ≡ missed (cond b (written old w) old)
missed_as old w after b made is = ap (λ p. missed (with_store old p)) is ∙ ap (λ t. missed (cond t (written old w) old)) (sym made)

kept_as : (old : MemClusterState) (w : Write) (after : ℕ × List Write) (b : Bool) → b ≡ false → after ≡ (old.limit, old.writes) → missed (with_store old after) ≡ missed (cond b (written old w) old)
kept_as old w after b lost is = ap (λ p. missed (with_store old p)) is ∙ ap (λ t. missed (cond t (written old w) old)) (sym lost)

pub made_counted : (old new : MemClusterState) (w : Write) (after : ℕ × List Write) (answer : PutAnswer) (miss : Miss) → next_miss old ≡ Some miss → miss.applied ≡ true
    → Stores (old.limit, old.writes) w after answer → (answer ≡ put.Memory → ⊥) → new ≡ missed (with_store old after) → CallsPut old w new put.Failed
made_counted old new w after (put.Done version) miss some applied is other e = (miss, some, e ∙ missed_as old w after _ (both _ _ applied is.0) is.1)
made_counted old new w after (put.Conflict found) miss some applied is other e = (miss, some, e ∙ kept_as old w after _ (not_second _ _ is.0) is.1)
made_counted old new w after put.Full miss some applied is other e = (miss, some, e ∙ kept_as old w after _ (not_second _ _ is.0) is.1)
made_counted old new w after put.Failed miss some applied is other e = absurd is
made_counted old new w after put.Memory miss some applied is other e = absurd (other refl)

pub lost_counted : (old new : MemClusterState) (w : Write) (miss : Miss) → next_miss old ≡ Some miss → miss.applied ≡ false → new ≡ missed old → CallsPut old w new put.Failed
lost_counted old new w miss some lost e = (miss, some, e ∙ kept_as old w (old.limit, old.writes) _ (not_first _ _ lost) refl)

pub none_lost : (old : MemClusterState) → next_miss old ≡ None → is_lost (next_miss old) ≡ false
none_lost old none = ap is_lost none

pub made_lost : (old : MemClusterState) (miss : Miss) → next_miss old ≡ Some miss → miss.applied ≡ true → is_lost (next_miss old) ≡ false
made_lost old miss some applied = ap is_lost some ∙ ap not applied

-- a store whose history and limit stay keeps its writes
pub unchanged : (old new : ℕ × List Write) → new.0 ≡ old.0 → history_of new.1 ≡ history_of old.1 → new ≡ old
unchanged old new limit same = pair new.0 old.0 new.1 old.1 limit (same_writes old.1 new.1 same)
