-- A run that ends for the folder has a `catalog` event.
use Rattle.std.proofs.Common.{◌≡◌, ℕ, List, [], ◌∷◌, ◌++◌, Bool, true, false, ◌||◌, Option, Result, Ok, Err, refl, sym, ap, ◌∙◌}
use Rattle.std.specs.List.{list_any}
use Rattle.std.proofs.lemmas.Bool.{false≢true}
use Rattle.cluster_history.specs.History.{History}
use Rattle.cluster_objects.specs.declared.objects.Write.{Write}
use Rattle.log_store.specs.Store as store
use Rattle.object_store.specs.declared.TheConstants.{WRITE_LIMIT}
use Rattle.event_script.specs.declared.events.Event.{Event}
use Rattle.event_runs.specs.Runs as runs
use Rattle.event_runs.specs.declared.halts.Halt.{Halt}
use Rattle.event_runs.specs.declared.halts.Halt.TheVariants as halt
use Rattle.folder_events.specs.Events.{is_of_folder}
use Rattle.file_commands.specs.FileRuns.{FileRuns, folder_failed}
use Rattle.file_commands.specs.declared.faults.RunFault.{RunFault}
use Rattle.file_commands.specs.declared.faults.RunFault.TheVariants as fault

or_true : (b : Bool) → b || true ≡ true
or_true true = refl
or_true false = refl

any_at : (earlier : List Event) (e : Event) (later : List Event) → is_of_folder e ≡ true → list_any is_of_folder (earlier ++ e ∷ later) ≡ true
any_at [] e later is = ap (λ b. b || list_any is_of_folder later) is
any_at (d ∷ earlier) e later is = ap (λ b. is_of_folder d || b) (any_at earlier e later is) ∙ or_true (is_of_folder d)

-- the run of the events
halted : (tells : Bool) (fits : History → Write → Bool) (limit : ℕ) (files : runs.Files) (h new : History) (es : List Event) (before now : Option (List ℕ)) (end : Halt)
    → runs.Runs tells fits limit files h es new before now (Err end) → runs.folder_failed (Err end) ≡ true → list_any is_of_folder es ≡ true
halted tells fits limit files h new es before now halt.OutputFailed ran e = absurd (false≢true e)
halted tells fits limit files h new es before now halt.FolderFailed ran e = ap (list_any is_of_folder) ran.split ∙ any_at ran.earlier ran.at ran.later ran.halted.0
halted tells fits limit files h new es before now halt.StoreFailed ran e = absurd (false≢true e)
halted tells fits limit files h new es before now (halt.Damaged at) ran e = absurd (false≢true e)
halted tells fits limit files h new es before now halt.Full ran e = absurd (false≢true e)
halted tells fits limit files h new es before now halt.Memory ran e = absurd (false≢true e)

pub has_catalog : (tells : Bool) (files : runs.Files) (found left : Result History ℕ) (es : List Event) (before now : Option (List ℕ)) (end : Result Unit RunFault)
    → FileRuns tells files found es left before now end → folder_failed end ≡ true → list_any is_of_folder es ≡ true
has_catalog tells files found left es before now (Ok done) ran e = absurd (false≢true e)
has_catalog tells files found left es before now (Err (fault.Damaged at)) ran e = absurd (false≢true e)
has_catalog tells files found left es before now (Err fault.Failed) ran e = absurd (false≢true e)
has_catalog tells files found left es before now (Err fault.Memory) ran e = absurd (false≢true e)
has_catalog tells files found left es before now (Err (fault.Halted end)) (h, new, found_is, left_is, ran) e = halted tells store.fits WRITE_LIMIT files h new es before now end ran e
