-- What is so of the resolver in every view.
use Rattle.cluster_objects.specs.declared.objects.Write.{Write}
use Rattle.cluster_history.specs.Views.{View}
use Rattle.controller_rules.specs.Resolving.{HasNoWrite, IsResolversWrite}

-- Where the resolver has no write, no write is one of its.
abbrev pub NoneIsNone : Type 0
NoneIsNone = (view : View) (w : Write) → HasNoWrite view → IsResolversWrite view w → ⊥
