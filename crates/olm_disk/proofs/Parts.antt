-- The parts of a disk in memory, from one call to the next.
use Rattle.std.proofs.Common.{◌≡◌, ◌≤◌, ◌<◌, ◌+◌, ◌-◌, ◌^◌, ℕ, List, [], ◌∷◌, ◌++◌, Bool, true, false, Option, Some, length, refl, sym, ap, ◌∙◌, subst, arith, length-append}
use Rattle.std.specs.List.{take_while, list_all}
use Rattle.olm_io.specs.Outside.{one_more}
use Rattle.olm_disk.specs.Kept.{Kept, begun, after, kept_after}
use Rattle.olm_disk.specs.MemDisk.{MemDiskState, IsMemDisk, Steps, first_content, kept_now, began_by}
use Rattle.olm_disk.specs.declared.change.Change.{Change}
use Rattle.olm_disk.specs.declared.change.Change.TheVariants.{Synced}
use Rattle.olm_disk.specs.declared.change.Stage.{Stage}
use Rattle.olm_disk.proofs.Again.{same_content}
use Rattle.olm_disk.proofs.Stages.{all_later, all_noted, kept_noted, now_all, later_clock, steps_noted, steps_still}

module _ (start : Option (List ℕ)) (content : List ℕ) (stages : List Stage) (room clock : ℕ) (settled : Bool) (is : IsMemDisk start content stages room clock settled) where
  -- a write or a cut was noted
  pub noted : (start' : Option (List ℕ)) (content' : List ℕ) (stages' : List Stage) (room' now : ℕ) (change : Change) → start' ≡ Some (first_content start content) → clock ≤ now
      → content' ≡ (after (begun content) change).content → stages' ≡ stages ++ record { first = now; change = change } ∷ [] → length stages + 2 ≤ room' → IsMemDisk start' content' stages' room' now false
  noted start' content' stages' room' now change kept later changed more roomy = record {
    content_is = changed ∙ ap (λ (l : List ℕ). (after (begun l) change).content) is.content_is ∙ same_content (kept_after (first_content start content) stages) change
        ∙ sym (ap (λ (k : Kept). k.content) (ap (λ s. kept_after (first_content s content') stages') kept ∙ ap (kept_after (first_content start content)) more ∙ kept_noted (first_content start content) stages (record { first = now; change = change })));
    begun_by_now = ap (λ l. list_all (began_by now) l) more ∙ all_noted clock now change stages later is.begun_by_now;
    all_durable = λ lie. (cc);
    has_room = λ so. omega (arith, ap length more, length-append stages (record { first = now; change = change } ∷ []), roomy);
  }

  -- a sync was noted
  pub noted_sync : (stages' : List Stage) (room' now : ℕ) → clock ≤ now → stages' ≡ stages ++ record { first = now; change = Synced } ∷ [] → IsMemDisk start content stages' room' now true
  noted_sync stages' room' now later more =
      let all : kept_after (first_content start content) stages' ≡ begun content =
      ap (kept_after (first_content start content)) more ∙ kept_noted (first_content start content) stages (record { first = now; change = Synced }) ∙ ap begun (sym is.content_is) in
      record {
        content_is = sym (ap (λ (k : Kept). k.content) all);
        begun_by_now = ap (λ l. list_all (began_by now) l) more ∙ all_noted clock now Synced stages later is.begun_by_now;
        all_durable = λ so. all;
        has_room = λ lie. (cc);
      }

  -- nothing was noted
  pub went_on : (now : ℕ) → clock ≤ now → IsMemDisk start content stages room now settled
  went_on now later = record {
    content_is = is.content_is;
    begun_by_now = all_later clock now stages later is.begun_by_now;
    all_durable = is.all_durable;
    has_room = is.has_room;
  }

  -- a disk of these parts, which needs no sync, holds what is all durable
  pub settled_now : (call faults : ℕ) (fails : List ℕ) → settled ≡ true
      → let disk : MemDiskState = record { start = first_content start content; stages = stages; clock = clock; call = call; faults = faults; fails = fails } in kept_now disk ≡ begun (kept_now disk).content
  settled_now call faults fails so =
      let disk : MemDiskState = record { start = first_content start content; stages = stages; clock = clock; call = call; faults = faults; fails = fails } in
      let e : kept_now disk ≡ begun content = now_all disk is.begun_by_now ∙ is.all_durable so in
      e ∙ sym (ap (λ (k : Kept). begun k.content) e)

  -- what a call that noted a change did
  pub noted_steps : (start' : Option (List ℕ)) (content' : List ℕ) (stages' : List Stage) (now : ℕ) (change : Change) (call faults : ℕ) (fails : List ℕ) (call' faults' : ℕ) (fails' : List ℕ)
      → first_content start' content' ≡ first_content start content → clock ≤ 2 ^ 64 - 1 → now ≡ one_more clock → stages' ≡ stages ++ record { first = now; change = change } ∷ []
      → let old : MemDiskState = record { start = first_content start content; stages = stages; clock = clock; call = call; faults = faults; fails = fails } in
      let new : MemDiskState = record { start = first_content start' content'; stages = stages'; clock = now; call = call'; faults = faults'; fails = fails' } in
      Steps old new (after (kept_now old) change)
  noted_steps start' content' stages' now change call faults fails call' faults' fails' same fits rose more =
      let old : MemDiskState = record { start = first_content start content; stages = stages; clock = clock; call = call; faults = faults; fails = fails } in
      let new : MemDiskState = record { start = first_content start' content'; stages = stages'; clock = now; call = call'; faults = faults'; fails = fails' } in
      let staged : stages' ≡ stages ++ record { first = one_more clock; change = change } ∷ [] = subst (λ n. stages' ≡ stages ++ record { first = n; change = change } ∷ []) rose more in
      steps_noted old new change is.begun_by_now fits same staged rose

  -- what a call that noted nothing did
  pub still_steps : (now call faults : ℕ) (fails : List ℕ) (call' faults' : ℕ) (fails' : List ℕ) → clock ≤ 2 ^ 64 - 1 → now ≡ one_more clock
      → let old : MemDiskState = record { start = first_content start content; stages = stages; clock = clock; call = call; faults = faults; fails = fails } in
      let new : MemDiskState = record { start = first_content start content; stages = stages; clock = now; call = call'; faults = faults'; fails = fails' } in
      Steps old new (kept_now old)
  still_steps now call faults fails call' faults' fails' fits rose =
      let old : MemDiskState = record { start = first_content start content; stages = stages; clock = clock; call = call; faults = faults; fails = fails } in
      let new : MemDiskState = record { start = first_content start content; stages = stages; clock = now; call = call'; faults = faults'; fails = fails' } in
      steps_still old new is.begun_by_now fits refl refl rose

-- a step of a disk is one of an equal disk
pub steps_from : (a b new : MemDiskState) (f : Kept → Kept) → a ≡ b → Steps a new (f (kept_now a)) → Steps b new (f (kept_now b))
steps_from a b new f same s = subst (λ (d : MemDiskState). Steps d new (f (kept_now d))) same s

pub steps_settled : (a new : MemDiskState) → kept_now a ≡ begun (kept_now a).content → Steps a new (kept_now a) → Steps a new (begun (kept_now a).content)
steps_settled a new settled s = subst (λ (k : Kept). Steps a new k) settled s
