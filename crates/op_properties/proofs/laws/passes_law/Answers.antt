use Rattle.op_properties.proofs.Cases.{package_case, kind_case, all_case, any_case, not_case, unsupported_case}
use Rattle.op_properties.proofs.laws.passes_law.Goals as goal

pub returns : goal.returns
returns c =
    record { «package» = package_case; kind = kind_case; all = all_case; any = any_case; not = not_case; unsupported = unsupported_case }
