-- Which writes are a user's.
use Rattle.std.specs.Prelude.{None, Ok}
use Rattle.cluster_objects.specs.declared.objects.Write.{Write}
use Rattle.cluster_history.specs.History.{History}
use Rattle.event_script.specs.Ranges.{IsInRange}
use Rattle.event_script.specs.declared.events.Event.{Event}
use Rattle.folder_events.specs.Events.{Asks}

-- A user's write is the write of one event, with fields in their ranges, after the history; for a `catalog` event by some files that a folder may hold.
abbrev pub IsUsersWrite : History → Write → Type 0
IsUsersWrite h w = (cause : Event) × IsInRange cause × Asks None h cause (Ok w)
