-- The exact answers of what makes plans.
use Rattle.std.specs.Prelude.{◌≡◌, Result, Ok, Err}
use Rattle.cluster_objects.specs.declared.plans.PlanFault.{PlanFault}
use Rattle.install_plan.specs.declared.refusal.PlanRefusal.{PlanRefusal}
use Rattle.install_plan.specs.declared.refusal.PlanRefusal.TheVariants.{Cause, Memory}

-- The answer is the wanted one, and each cause the wanted one. Want of memory alone is free.
abbrev pub Answers : {T : Type 0} → Result T PlanFault → Result T PlanRefusal → Type 0
Answers wanted (Ok value) = wanted ≡ Ok value
Answers wanted (Err (Cause fault)) = wanted ≡ Err fault
Answers wanted (Err Memory) = Unit {0}
