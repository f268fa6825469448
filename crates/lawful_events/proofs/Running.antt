-- What runs of events leave.
use Rattle.std.proofs.Common.{◌≡◌, Bool, true, List, [], ◌∷◌, ◌++◌, ℕ, Option, Some, None, Result, Ok, Err, refl, sym, ap, ◌∙◌, subst, All}
use Rattle.std.specs.List.{AllByRecursion}
use Rattle.std.proofs.lemmas.List.Elements.{All-from_recursion, recursion_from_All}
use Rattle.cluster_objects.specs.declared.objects.Write.{Write}
use Rattle.cluster_history.specs.History.{History, After, after_all}
use Rattle.event_script.specs.Ranges.{IsInRange}
use Rattle.event_script.specs.declared.events.Event.{Event}
use Rattle.event_script.specs.declared.events.Event.TheVariants as event
use Rattle.fbc_read.specs.Bodies.{IsBody, ReadsAs, input_limit}
use Rattle.fbc_read.specs.declared.bodies.BodyFault.{BodyFault}
use Rattle.lawful_history.specs.Sound.{IsLawful}
use Rattle.user_events.specs.declared.refusals.Refusal.{Refusal}
use Rattle.folder_events.specs.Events.{Asks}
use Rattle.event_runs.specs.Runs as run
use Rattle.event_runs.specs.declared.halts.Halt.{Halt}
use Rattle.event_runs.specs.declared.halts.Halt.TheVariants as halt
use Rattle.lawful_events.specs.Asks.{IsUsersWrite}
use Rattle.lawful_events.specs.Runs.{AreUsersWrites, GoesOnByUsers, Accepts}
use Rattle.lawful_events.proofs.Allowed.{stays_lawful}

-- What a folder that tells asks for, some files ask for.
read_somehow : (files : List (List ℕ × List ℕ)) → AllByRecursion (ReadsAs None) files
read_somehow [] = tt
read_somehow (file ∷ files) = (tt, read_somehow files)

some_body : (files : run.Files) (path : List ℕ) (body : Result (List ℕ) BodyFault) → IsBody files path input_limit body → IsBody None path input_limit body
some_body None path body is = is
some_body (Some told) path body (listed, is_listed, is) =
    let below = is_listed.paths in
    (listed, record { paths = (below.0, tt, below.2); bytes = All-from_recursion (ReadsAs None) listed (read_somehow listed) }, is)

some_asks : (files : run.Files) (h : History) (e : Event) (asked : Result Write Refusal) → Asks files h e asked → Asks None h e asked
some_asks files h (event.Apply body) asked is = is
some_asks files h (event.Delete group kind namespace name) asked is = is
some_asks files h (event.Approve namespace name) asked is = is
some_asks files h (event.Catalog namespace name path priority) asked (body, holds, is) = (body, some_body files path body holds, is)
some_asks files h (event.Ready namespace name state) asked is = is
some_asks files h (event.Retry namespace budget) asked is = is
some_asks files h (event.Worker role namespace) asked is = is
some_asks files h (event.Look worker) asked is = is
some_asks files h (event.Act worker) asked is = is
some_asks files h (event.Settle namespace turns) asked is = is
some_asks files h event.Restart asked is = is
some_asks files h (event.Release namespace) asked is = is
some_asks files h (event.Lease worker now keep) asked is = is

-- ---- one event: the history stays, or goes on by one write

pub data GoesBy (h : History) : History → Type 0 where
  Stays : GoesBy h h
  Goes : (w : Write) → IsUsersWrite h w → GoesBy h (After w h)

asked_write : (files : run.Files) (h : History) (e : Event) (w : Write) → IsInRange e → Asks files h e (Ok w) → IsUsersWrite h w
asked_write files h e w ranges asks = (e, ranges, some_asks files h e (Ok w) asks)

module _ (fits : History → Write → Bool) (limit : ℕ) (files : run.Files) where
  reopened : (h new : History) → new ≡ h → GoesBy h new
  reopened h new same = subst (GoesBy h) (sym same) Stays

  passed : (h new : History) (e : Event) (line : List ℕ) → IsInRange e → run.Passes true fits limit files h e new line → GoesBy h new
  passed h _ e _ ranges (run.Written _ w asks room) = Goes w (asked_write files h e w ranges asks)
  passed h _ e _ ranges (run.Refused _ reason asks) = Stays
  passed h new _ _ ranges (run.Restarted _ same) = reopened h new (same refl)

  left_so : (h new : History) (e : Event) → IsInRange e → run.MayLeave true fits limit files h e new → GoesBy h new
  left_so h _ e ranges (run.Nothing _) = Stays
  left_so h _ e ranges (run.Wrote _ w asks room) = Goes w (asked_write files h e w ranges asks)
  left_so h new _ ranges (run.Reopened _ same) = reopened h new (same refl)

  halted : (h new : History) (e : Event) (before now : Option (List ℕ)) (end : Halt) → IsInRange e → run.Halts true fits limit files h e new before now end → GoesBy h new
  halted h new e before now halt.OutputFailed ranges (line, passes, puts) = passed h new e line ranges passes
  halted h new e before now halt.FolderFailed ranges (folder, same, puts) = reopened h new same
  halted h new e before now halt.StoreFailed ranges (key, may, puts) = left_so h new e ranges may
  halted h new e before now (halt.Damaged at) ranges (untold, restart, puts) = absurd (cc)
  halted h new e before now halt.Full ranges (w, asks, room, same, puts) = reopened h new same
  halted h new e before now halt.Memory ranges (may, puts) = left_so h new e ranges may

  -- ---- all events

  nothing_more : (h : History) → GoesOnByUsers h h
  nothing_more h = record { writes = []; users = tt; extends = refl }

  goes_first : (h mid new : History) → GoesBy h mid → GoesOnByUsers mid new → GoesOnByUsers h new
  goes_first h _ new Stays rest = rest
  goes_first h _ new (Goes w users) rest = record { writes = w ∷ rest.writes; users = (users, rest.users); extends = rest.extends }

  goes_on : (h mid new : History) → GoesOnByUsers h mid → GoesOnByUsers mid new → GoesOnByUsers h new
  goes_on h mid new first rest = record {
    writes = first.writes ++ rest.writes;
    users = both h first.writes (subst (λ (x : History). AreUsersWrites x rest.writes) first.extends rest.users) first.users;
    extends = rest.extends ∙ ap (λ (x : History). after_all x rest.writes) first.extends ∙ sym (after_both h first.writes);
  }
    where
      both : (h : History) (ws : List Write) → AreUsersWrites (after_all h ws) rest.writes → AreUsersWrites h ws → AreUsersWrites h (ws ++ rest.writes)
      both h [] more users = more
      both h (w ∷ ws) more users = (users.0, both (After w h) ws more users.1)

      after_both : (h : History) (ws : List Write) → after_all h (ws ++ rest.writes) ≡ after_all (after_all h ws) rest.writes
      after_both h [] = refl
      after_both h (w ∷ ws) = after_both (After w h) ws

  all_go : (h new : History) (es : List Event) (lines : List ℕ) → AllByRecursion IsInRange es → run.AllPass true fits limit files h es new lines → GoesOnByUsers h new
  all_go h _ [] _ ranges (run.NoEvents _) = nothing_more h
  all_go h new (e ∷ es) _ ranges (run.Next _ mid _ _ _ line lines passes all) =
      goes_first h mid new (passed h mid e line ranges.0 passes) (all_go mid new es lines ranges.1 all)

  -- those before one, and that one
  ranges_of : (earlier : List Event) (e : Event) (later : List Event) → AllByRecursion IsInRange (earlier ++ e ∷ later) → AllByRecursion IsInRange earlier × IsInRange e
  ranges_of [] e later ranges = (tt, ranges.0)
  ranges_of (first ∷ earlier) e later ranges =
      let rest = ranges_of earlier e later ranges.1 in
      ((ranges.0, rest.0), rest.1)

  ends : (h new : History) (es : List Event) (before now : Option (List ℕ)) (result : Result Unit Halt) → AllByRecursion IsInRange es → run.Runs true fits limit files h es new before now result → GoesOnByUsers h new
  ends h new es before now (Ok done) ranges (lines, all, puts) = all_go h new es lines ranges all
  ends h new es before now (Err end) ranges halts =
      let r = ranges_of halts.earlier halts.at halts.later (subst (AllByRecursion IsInRange) halts.split ranges) in
      goes_on h halts.mid new (all_go h halts.mid halts.earlier halts.lines r.0 halts.passed)
      (goes_first halts.mid new new (halted halts.mid new halts.at halts.between now end r.1 halts.halted) (nothing_more new))

  pub runs_go_on : (h new : History) (es : List Event) (before now : Option (List ℕ)) (result : Result Unit Halt) → All IsInRange es → run.Runs true fits limit files h es new before now result → GoesOnByUsers h new
  runs_go_on h new es before now result ranges is = ends h new es before now result (recursion_from_All IsInRange es ranges) is

-- a history stays lawful by users' writes
writes_lawful : (is_valid : List ℕ → Bool) (accepts : Accepts is_valid) (h : History) (ws : List Write) → AreUsersWrites h ws → IsLawful is_valid h → IsLawful is_valid (after_all h ws)
writes_lawful is_valid accepts h [] users lawful = lawful
writes_lawful is_valid accepts h (w ∷ ws) users lawful =
    writes_lawful is_valid accepts (After w h) ws users.1 (stays_lawful is_valid accepts None h users.0.0 w users.0.2 lawful)

pub goes_on_lawful : (is_valid : List ℕ → Bool) (accepts : Accepts is_valid) (old new : History) → GoesOnByUsers old new → IsLawful is_valid old → IsLawful is_valid new
goes_on_lawful is_valid accepts old new goes lawful =
    subst (λ (x : History). IsLawful is_valid x) (sym goes.extends) (writes_lawful is_valid accepts old goes.writes goes.users lawful)
