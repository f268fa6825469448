-- What the line of an event says of what came of it.
use Rattle.std.specs.Prelude.{ℕ, Bool, true, false, List, [], ◌++◌, codes, if◌then◌else◌}
use Rattle.std.specs.Fmt.{decimal}
use Rattle.cluster_objects.specs.Keys.{printed}
use Rattle.run_rules.specs.declared.outcomes.Outcome.{Outcome}
use Rattle.run_rules.specs.declared.outcomes.Outcome.TheVariants as outcome

abbrev pub rest_word : Bool → List ℕ
rest_word quiet = if quiet then codes "quiet" else codes "unsettled"

-- what the line says after the words for its event
abbrev pub words : Outcome → List ℕ
words (outcome.Done key version) = codes "version " ++ decimal version
words (outcome.Refused reason) = codes "refused " ++ reason
words (outcome.Arrived number) = decimal number
words (outcome.Looked length) = codes "at " ++ decimal length
words (outcome.Put key version) = codes "put " ++ printed key ++ codes " version " ++ decimal version
words outcome.Idle = codes "idle"
words outcome.NoView = codes "no-view"
words (outcome.Conflict found) = codes "conflict " ++ decimal found
words (outcome.Stale term) = codes "stale " ++ decimal term
words (outcome.Settled writes quiet) = decimal writes ++ codes " " ++ rest_word quiet
words (outcome.Leased term until) = codes "term " ++ decimal term ++ codes " until " ++ decimal until
words (outcome.HeldUntil until) = codes "refused held " ++ decimal until
words outcome.Restarted = []
words outcome.NoWorker = codes "no-worker"
words outcome.Fault = codes "fault"
