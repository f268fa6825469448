-- Acts, by the write that they try.
use Rattle.std.proofs.Common.{◌≡◌, Bool, ℕ, Some, ap, subst, ◌∙◌, inr}
use Rattle.cluster_objects.specs.declared.objects.Write.{Write}
use Rattle.cluster_history.specs.History.{History}
use Rattle.cluster_history.specs.Views.{View}
use Rattle.controller_rules.specs.Enabled.{IsFirst}
use Rattle.controller_rules.specs.declared.roles.Role.{Role}
use Rattle.run_rules.specs.States.{Outside}
use Rattle.run_rules.specs.declared.workers.Worker.{Worker}
use Rattle.controller.specs.Answers.{ActsIn, FencedIn, IsFresh, Tries, outside_of}
use Rattle.controller.specs.declared.answers.Acted.{Acted}
use Rattle.controller.specs.declared.answers.Acted.TheVariants as acted

pub same_outside : (tells before : Bool) (fits : History → Write → Bool) (limit most : ℕ) → tells ≡ before → limit ≡ most
    → outside_of tells fits limit ≡ outside_of before fits most
same_outside tells before fits limit most told kept =
    ap (λ (b : Bool). outside_of b fits limit) told ∙ ap (λ (n : ℕ). outside_of before fits n) kept

-- the write is the role's first one
pub of_write : (outside : Outside) (role : Role) (view : View) (h new : History) (w : Write) (answer : Acted)
    → IsFirst role view (Some w) → Tries outside h w new answer → ActsIn outside role view h new answer
of_write outside role view h new w (acted.Put key version) first tries = (w, first, tries)
of_write outside role view h new w acted.Idle first tries = absurd tries
of_write outside role view h new w acted.NoView first tries = absurd tries
of_write outside role view h new w (acted.Conflict found) first tries = (w, first, tries)
of_write outside role view h new w (acted.Stale term) first tries = absurd tries
of_write outside role view h new w acted.Full first tries = (w, first, tries)
of_write outside role view h new w acted.Failed first tries = (w, first, tries)
of_write outside role view h new w acted.Memory first tries = tries

-- the worker isn't stale
pub of_fresh : (outside : Outside) (worker : Worker) (view : View) (h new : History) (answer : Acted)
    → IsFresh h worker → ActsIn outside worker.role view h new answer → FencedIn outside worker view h new answer
of_fresh outside worker view h new (acted.Put key version) fresh acts = (fresh, acts)
of_fresh outside worker view h new acted.Idle fresh acts = (fresh, acts)
of_fresh outside worker view h new acted.NoView fresh acts = absurd acts
of_fresh outside worker view h new (acted.Conflict found) fresh acts = (fresh, acts)
of_fresh outside worker view h new (acted.Stale term) fresh acts = absurd acts
of_fresh outside worker view h new acted.Full fresh acts = (fresh, acts)
of_fresh outside worker view h new acted.Failed fresh acts = inr (fresh, acts)
of_fresh outside worker view h new acted.Memory fresh acts = acts

-- The same after a call that left the history and what lies outside as they were.
pub of_fresh_then : (before now : Outside) (worker : Worker) (view : View) (h mid new : History) (answer : Acted) → before ≡ now → mid ≡ h
    → IsFresh h worker → ActsIn before worker.role view mid new answer → FencedIn now worker view h new answer
of_fresh_then before now worker view h mid new answer same still fresh acts =
    of_fresh now worker view h new answer fresh
    (subst (λ (o : Outside). ActsIn o worker.role view h new answer) same
    (subst (λ (g : History). ActsIn before worker.role view g new answer) still acts))
