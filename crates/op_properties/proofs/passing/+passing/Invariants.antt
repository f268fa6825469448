use Rattle.std.proofs.Common.{◌≡◌, true, false, take}
use Rattle.std.specs.List.{list_all, list_any}
use Rattle.op_properties.specs.Offers.{shown}
use Rattle.op_properties.specs.Passing as spec
use Rattle.op_properties.proofs.passing.+passing.Given as goal

abbrev pub invariant-all_pass-members : goal.invariant-all_pass-members
invariant-all_pass-members l =
    list_all (λ member. spec.passes member (shown l.offer)) (take l.member-index l.requirements) ≡ true

abbrev pub invariant-one_passes-members : goal.invariant-one_passes-members
invariant-one_passes-members l =
    list_any (λ member. spec.passes member (shown l.offer)) (take l.member-index l.requirements) ≡ false
