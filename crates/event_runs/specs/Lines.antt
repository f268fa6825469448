-- The line of an event, by what came of it.
use Rattle.std.specs.Prelude.{ℕ, List, [], ◌++◌, codes}
use Rattle.std.specs.Fmt.{decimal}
use Rattle.cluster_objects.specs.Keys.{printed}
use Rattle.cluster_objects.specs.declared.keys.Key.{Key}
use Rattle.event_script.specs.declared.events.Event.{Event}
use Rattle.event_script.specs.declared.events.Event.TheVariants as event

-- `NAMESPACE/NAME`
abbrev pub placed : List ℕ → List ℕ → List ℕ
placed namespace name = namespace ++ codes "/" ++ name

-- What an event's line begins with. An apply names no key before its body gives one. The events of workers have no line as yet, since no run applies them.
abbrev pub front : Event → List ℕ
front (event.Apply body) = codes "apply"
front (event.Delete group kind namespace name) =
    codes "delete " ++ printed (record { group = group; kind = kind; namespace = namespace; name = name })
front (event.Approve namespace name) = codes "approve " ++ placed namespace name
front (event.Catalog namespace name path priority) = codes "catalog " ++ placed namespace name
front (event.Ready namespace name state) = codes "ready " ++ placed namespace name
front (event.Retry namespace budget) = codes "retry " ++ namespace
front (event.Worker role namespace) = []
front (event.Look worker) = []
front (event.Act worker) = []
front (event.Settle namespace turns) = []
front event.Restart = codes "restart"
front (event.Release namespace) = codes "release " ++ namespace
front (event.Lease worker now keep) = []

-- the same of an event that is done, whose write has this key
abbrev pub done_front : Event → Key → List ℕ
done_front (event.Apply body) key = codes "apply " ++ printed key
done_front (event.Delete group kind namespace name) key = front (event.Delete group kind namespace name)
done_front (event.Approve namespace name) key = front (event.Approve namespace name)
done_front (event.Catalog namespace name path priority) key = front (event.Catalog namespace name path priority)
done_front (event.Ready namespace name state) key = front (event.Ready namespace name state)
done_front (event.Retry namespace budget) key = front (event.Retry namespace budget)
done_front (event.Worker role namespace) key = front (event.Worker role namespace)
done_front (event.Look worker) key = front (event.Look worker)
done_front (event.Act worker) key = front (event.Act worker)
done_front (event.Settle namespace turns) key = front (event.Settle namespace turns)
done_front event.Restart key = front event.Restart
done_front (event.Release namespace) key = front (event.Release namespace)
done_front (event.Lease worker now keep) key = front (event.Lease worker now keep)

-- `.. version V`
abbrev pub done_line : Event → Key → ℕ → List ℕ
done_line event key version = done_front event key ++ codes " version " ++ decimal version ++ codes "\n"

-- `.. refused REASON`
abbrev pub refused_line : Event → List ℕ → List ℕ
refused_line event reason = front event ++ codes " refused " ++ reason ++ codes "\n"

-- `restart`
abbrev pub restart_line : List ℕ
restart_line = front event.Restart ++ codes "\n"
