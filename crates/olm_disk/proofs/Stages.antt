-- The stages of a disk in memory, and what it holds at each moment.
use Rattle.std.proofs.Common.{◌≡◌, ◌≤◌, ◌<◌, ◌+◌, ◌-◌, ◌^◌, ◌⊎◌, inl, inr, ℕ, List, [], ◌∷◌, ◌++◌, Bool, true, false, cond, length, refl, sym, ap, ◌∙◌, subst, arith}
use Rattle.std.proofs.lemmas.List.Folds.{list_all-append}
use Rattle.std.proofs.lemmas.List.Sums.{fold-append, take_while-cons}
use Rattle.std.proofs.lemmas.Bool.{and_parts}
use Rattle.std.proofs.lemmas.Bool.Decides.{nat_tests}
use Rattle.std.specs.Prelude.{nat_le, ◌&&◌}
use Rattle.std.specs.List.{fold, list_all, take_while}
use Rattle.olm_io.specs.Outside.{one_more}
use Rattle.olm_disk.specs.Kept.{Kept, begun, after, kept_after}
use Rattle.olm_disk.specs.MemDisk.{MemDiskState, began_by, kept_at, kept_now, Steps}
use Rattle.olm_disk.specs.declared.change.Change.{Change}
use Rattle.olm_disk.specs.declared.change.Stage.{Stage}

-- where each passes all are taken
pub take_while-all : (p : Stage → Bool) (stages : List Stage) → list_all p stages ≡ true → take_while p stages ≡ stages
take_while-all p [] h = refl
take_while-all p (stage ∷ stages) h =
    let parts = and_parts (p stage) (list_all p stages) h in
    take_while-cons p stage stages ∙ ap (λ b. cond b (stage ∷ take_while p stages) []) parts.0 ∙ ap (λ l. stage ∷ l) (take_while-all p stages parts.1)

-- one that doesn't pass, behind the others, is never taken
pub take_while-front : (p : Stage → Bool) (stages : List Stage) (stage : Stage) → p stage ≡ false → take_while p (stages ++ stage ∷ []) ≡ take_while p stages
take_while-front p [] stage h = take_while-cons p stage [] ∙ ap (λ b. cond b (stage ∷ take_while p []) []) h
take_while-front p (first ∷ stages) stage h =
    take_while-cons p first (stages ++ stage ∷ []) ∙ ap (λ l. cond (p first) (first ∷ l) []) (take_while-front p stages stage h) ∙ sym (take_while-cons p first stages)

pub all_later : (c d : ℕ) (stages : List Stage) → c ≤ d → list_all (began_by c) stages ≡ true → list_all (began_by d) stages ≡ true
all_later c d [] le h = refl
all_later c d (stage ∷ stages) le h =
    let parts = and_parts (began_by c stage) (list_all (began_by c) stages) h in
    let first : nat_le stage.first d ≡ true = grind (arith, nat_tests, parts.0) in
    ap (λ b. b && list_all (began_by d) stages) first ∙ all_later c d stages le parts.1

-- the stages and one that begins at that later moment
pub all_noted : (clock now : ℕ) (change : Change) (stages : List Stage) → clock ≤ now → list_all (began_by clock) stages ≡ true → list_all (began_by now) (stages ++ record { first = now; change = change } ∷ []) ≡ true
all_noted clock now change stages le h =
    let itself : nat_le now now ≡ true = grind (arith, nat_tests) in
    list_all-append (began_by now) stages _ ∙ ap (λ b. b && (nat_le now now && true)) (all_later clock now stages le h) ∙ ap (λ b. b && true) itself

-- one stage more
pub kept_noted : (start : List ℕ) (stages : List Stage) (stage : Stage) → kept_after start (stages ++ stage ∷ []) ≡ after (kept_after start stages) stage.change
kept_noted start stages stage = fold-append (λ (kept : Kept) (s : Stage). after kept s.change) (begun start) stages (stage ∷ [])

-- at present all stages count
pub now_all : (disk : MemDiskState) → list_all (began_by disk.clock) disk.stages ≡ true → kept_now disk ≡ kept_after disk.start disk.stages
now_all disk h = ap (kept_after disk.start) (take_while-all (began_by disk.clock) disk.stages h)

pub later_clock : (clock : ℕ) → clock ≤ 2 ^ 64 - 1 → clock ≤ one_more clock
later_clock clock fits = omega (arith, fits)

-- a call that noted a change
pub steps_noted : (old new : MemDiskState) (change : Change) → list_all (began_by old.clock) old.stages ≡ true → old.clock ≤ 2 ^ 64 - 1 → new.start ≡ old.start → new.stages ≡ old.stages ++ record { first = one_more old.clock; change = change } ∷ [] → new.clock ≡ one_more old.clock → Steps old new (after (kept_now old) change)
steps_noted old new change all fits start stages clock =
    let up = later_clock old.clock fits in
    let stage : Stage = record { first = one_more old.clock; change = change } in
    let all_new : list_all (began_by new.clock) new.stages ≡ true =
    ap (λ c. list_all (began_by c) new.stages) clock ∙ ap (list_all (began_by (one_more old.clock))) stages ∙ all_noted old.clock (one_more old.clock) change old.stages up all in
    record {
      later = subst (λ c. old.clock ≤ c) (sym clock) up;
      clock = clock;
      now = now_all new all_new ∙ ap (λ s. kept_after s new.stages) start ∙ ap (kept_after old.start) stages ∙ kept_noted old.start old.stages stage ∙ ap (λ kept. after kept change) (sym (now_all old all));
      before = λ moment lt.
          let not_yet : nat_le (one_more old.clock) moment ≡ false = grind (arith, nat_tests, lt, clock) in
          ap (λ s. kept_after s (take_while (began_by moment) new.stages)) start
          ∙ ap (λ l. kept_after old.start (take_while (began_by moment) l)) stages
          ∙ ap (kept_after old.start) (take_while-front (began_by moment) old.stages stage not_yet);
    }

-- a call that noted nothing
pub steps_still : (old new : MemDiskState) → list_all (began_by old.clock) old.stages ≡ true → old.clock ≤ 2 ^ 64 - 1 → new.start ≡ old.start → new.stages ≡ old.stages → new.clock ≡ one_more old.clock → Steps old new (kept_now old)
steps_still old new all fits start stages clock =
    let up = later_clock old.clock fits in
    let all_new : list_all (began_by new.clock) new.stages ≡ true =
    ap (λ c. list_all (began_by c) new.stages) clock ∙ ap (list_all (began_by (one_more old.clock))) stages ∙ all_later old.clock (one_more old.clock) old.stages up all in
    record {
      later = subst (λ c. old.clock ≤ c) (sym clock) up;
      clock = clock;
      now = now_all new all_new ∙ ap (λ s. kept_after s new.stages) start ∙ ap (kept_after old.start) stages ∙ sym (now_all old all);
      before = λ moment lt. ap (λ s. kept_after s (take_while (began_by moment) new.stages)) start ∙ ap (λ l. kept_after old.start (take_while (began_by moment) l)) stages;
    }
