-- The stages made once more, one after another.
use Rattle.std.proofs.Common.{◌≡◌, ◌≤◌, ◌<◌, ◌+◌, ℕ, List, [], ◌∷◌, ◌++◌, Bool, true, false, length, take, drop, get_or, refl, sym, ap, ◌∙◌, subst, arith, length-take}
use Rattle.std.proofs.lemmas.List.{take_more, drop-append-le, drop_all}
use Rattle.std.proofs.lemmas.List.Sums.{fold_more}
use Rattle.std.proofs.lemmas.List.Folds.{list_any-append}
use Rattle.std.specs.Prelude.{◌||◌}
use Rattle.olm_disk.specs.Disk.{is_in}
use Rattle.olm_disk.specs.Kept.{Kept, begun, after, kept_after, is_sync, covers, is_covered}
use Rattle.olm_disk.specs.declared.change.Change.{Change}
use Rattle.olm_disk.specs.declared.change.Change.TheVariants.{Wrote, Cut, LostWrite, LostCut, Synced}
use Rattle.olm_disk.specs.declared.change.Stage.{Stage}

-- the content after a change hangs on the content alone
pub same_content : (kept : Kept) (change : Change) → (after (begun kept.content) change).content ≡ (after kept change).content
same_content kept (Wrote at bytes) = refl
same_content kept (Cut len) = refl
same_content kept (LostWrite at count) = refl
same_content kept (LostCut len) = refl
same_content kept Synced = refl

after_sync : (kept : Kept) (change : Change) → is_sync change ≡ true → after kept change ≡ begun kept.content
after_sync kept (Wrote at bytes) h = (cc)
after_sync kept (Cut len) h = (cc)
after_sync kept (LostWrite at count) h = (cc)
after_sync kept (LostCut len) h = (cc)
after_sync kept Synced h = refl

durable_stays : (kept : Kept) (change : Change) → is_sync change ≡ false → (after kept change).durable ≡ kept.durable
durable_stays kept (Wrote at bytes) h = refl
durable_stays kept (Cut len) h = refl
durable_stays kept (LostWrite at count) h = refl
durable_stays kept (LostCut len) h = refl
durable_stays kept Synced h = (cc)

ranges_grow : (kept : Kept) (change : Change) (place : ℕ) → is_sync change ≡ false → is_in (after kept change).pending.ranges place ≡ (covers place change || is_in kept.pending.ranges place)
ranges_grow kept (Wrote at bytes) place h = refl
ranges_grow kept (Cut len) place h = refl
ranges_grow kept (LostWrite at count) place h = refl
ranges_grow kept (LostCut len) place h = refl
ranges_grow kept Synced place h = (cc)

or_swap : (a b : Bool) → (a || b) ≡ (b || (a || false))
or_swap true true = refl
or_swap true false = refl
or_swap false true = refl
or_swap false false = refl

-- how many of the first i stages stand up to the last sync
pub record IsSyncedCount (stages : List Stage) (i synced : ℕ) : Type 0 where
  pub within : synced ≤ i
  pub durable : (start : List ℕ) → (kept_after start (take i stages)).durable ≡ (kept_after start (take synced stages)).content
  pub ranges : (start : List ℕ) (place : ℕ) → is_in (kept_after start (take i stages)).pending.ranges place ≡ is_covered place (drop synced (take i stages))

module _ (stages : List Stage) (i : ℕ) (stage : Stage) (lt : i < length stages) (is : stage ≡ get_or stages i stage) where
  kept_more : (start : List ℕ) → kept_after start (take (i + 1) stages) ≡ after (kept_after start (take i stages)) stage.change
  kept_more start =
      fold_more (λ (kept : Kept) (s : Stage). after kept s.change) (begun start) stages i stage lt
      ∙ ap (λ (s : Stage). after (kept_after start (take i stages)) s.change) (sym is)

  pub replayed : (start content next : List ℕ) → content ≡ (kept_after start (take i stages)).content → next ≡ (after (begun content) stage.change).content → next ≡ (kept_after start (take (i + 1) stages)).content
  replayed start content next before then =
      then ∙ ap (λ (l : List ℕ). (after (begun l) stage.change).content) before ∙ same_content (kept_after start (take i stages)) stage.change ∙ sym (ap (λ (k : Kept). k.content) (kept_more start))

  pub counted_sync : (synced : ℕ) → IsSyncedCount stages i synced → is_sync stage.change ≡ true → IsSyncedCount stages (i + 1) (i + 1)
  counted_sync synced c h = record {
    within = omega arith;
    durable = λ start. ap (λ (k : Kept). k.durable) (here start) ∙ sym (ap (λ (k : Kept). k.content) (here start));
    ranges = λ start place.
        ap (λ (k : Kept). is_in k.pending.ranges place) (here start)
        ∙ sym (ap (is_covered place) (drop_all (i + 1) (take (i + 1) stages) (omega (arith, length-take (i + 1) stages))));
  }
    where
      here : (start : List ℕ) → kept_after start (take (i + 1) stages) ≡ begun (kept_after start (take i stages)).content
      here start = kept_more start ∙ after_sync (kept_after start (take i stages)) stage.change h

  pub counted_other : (synced : ℕ) → IsSyncedCount stages i synced → is_sync stage.change ≡ false → IsSyncedCount stages (i + 1) synced
  counted_other synced c h = record {
    within = omega (arith, c.within);
    durable = λ start. ap (λ (k : Kept). k.durable) (kept_more start) ∙ durable_stays (kept_after start (take i stages)) stage.change h ∙ c.durable start;
    ranges = λ start place.
        ap (λ (k : Kept). is_in k.pending.ranges place) (kept_more start) ∙ ranges_grow (kept_after start (take i stages)) stage.change place h
        ∙ ap (λ b. covers place stage.change || b) (c.ranges start place) ∙ or_swap (covers place stage.change) (is_covered place (drop synced (take i stages)))
        ∙ sym (list_any-append (λ (s : Stage). covers place s.change) (drop synced (take i stages)) (stage ∷ []))
        ∙ ap (is_covered place) (sym (drop-append-le synced (take i stages) (stage ∷ []) (omega (arith, c.within, lt, length-take i stages))) ∙ sym (ap (drop synced) more));
  }
    where
      more : take (i + 1) stages ≡ take i stages ++ stage ∷ []
      more = take_more stages i stage lt ∙ ap (λ (s : Stage). take i stages ++ s ∷ []) (sym is)
