use Rattle.std.proofs.Common.{◌≡◌, ◌++◌, drop}
use Rattle.catalog_lines.specs.Lines.{fault_lines}
use Rattle.catalog_lines.proofs.faults.fault_lines.Given as goal

abbrev pub invariant-faults : goal.invariant-faults
invariant-faults l = l.out.items ++ fault_lines (drop l.fault-index l.faults) ≡ fault_lines l.faults
