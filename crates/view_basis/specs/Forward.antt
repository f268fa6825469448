-- Which CSVs of a namespace may be upgraded.
use Rattle.std.specs.Prelude.{Bool, true, false, Option}
use Rattle.std.specs.Option.{option_map_or}
use Rattle.cluster_objects.specs.Kinds.{strategy_at}
use Rattle.cluster_objects.specs.Places.{strategy_key}
use Rattle.cluster_objects.specs.declared.groups.StrategyStatus.{StrategyStatus}
use Rattle.cluster_objects.specs.declared.statuses.CsvPhase.TheVariants as phase
use Rattle.cluster_objects.specs.declared.statuses.CsvStatus.{CsvStatus}
use Rattle.cluster_history.specs.History.{slot_in}
use Rattle.cluster_history.specs.Views.{View}

-- The strategy of the view's namespace, if its object of that name is one.
abbrev pub strategy : View → Option StrategyStatus
strategy view =
    let key = strategy_key view.namespace in strategy_at key (slot_in view.slots key).object

-- The namespace is forward where its strategy says so. Without a strategy it isn't.
abbrev pub is_forward : View → Bool
is_forward view = option_map_or (λ status. status.forward) (strategy view) false

-- A CSV may be upgraded where its phase is Succeeded, or where its phase is Failed and its namespace is forward.
abbrev pub may_upgrade : Bool → CsvStatus → Bool
may_upgrade forward csv = elim csv.phase [
  | phase.Nothing ↦ false
  | phase.Pending ↦ false
  | phase.InstallReady ↦ false
  | phase.Installing ↦ false
  | phase.Succeeded ↦ true
  | phase.Failed ↦ forward
  | phase.Replacing ↦ false
  | phase.Deleting ↦ false
]
