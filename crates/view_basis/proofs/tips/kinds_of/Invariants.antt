use Rattle.std.proofs.Common.{◌≡◌, map, take}
use Rattle.op_properties.specs.Offers.{each_once}
use Rattle.view_basis.specs.Tips.{kind_of}
use Rattle.view_basis.proofs.tips.kinds_of.Given as goal

abbrev pub invariant-definitions : goal.invariant-definitions
invariant-definitions l = l.kinds ≡ each_once (map kind_of (take l.crd-index l.owned))
