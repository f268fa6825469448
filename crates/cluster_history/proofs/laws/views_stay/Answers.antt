use Rattle.std.proofs.Common.{ap}
use Rattle.std.specs.List.{filter}
use Rattle.cluster_history.specs.History.{History, state}
use Rattle.cluster_history.specs.Views.{View, is_visible}
use Rattle.cluster_history.proofs.Seeing.{first-after_all}
use Rattle.cluster_history.proofs.laws.views_stay.Goals as goal

pub returns : goal.returns
returns c h later namespace a le =
    ap (λ (g : History). let v : View = record { namespace = namespace; length = a; slots = filter (λ e. is_visible namespace e.0) (state g) } in v) (first-after_all h later a le)
