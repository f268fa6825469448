use Rattle.op_properties.proofs.Written.{writes_kind, writes_cel, writes_unknown}
use Rattle.op_properties.proofs.Ordered.{package_written, all_written, any_written, not_written}
use Rattle.op_properties.proofs.laws.constraint_law.Goals as goal

pub returns : goal.returns
returns c =
    record {
      «package» = package_written;
      kind = writes_kind;
      all = all_written;
      any = any_written;
      not = not_written;
      cel = writes_cel;
      unknown = writes_unknown;
    }
