-- What a condition's operand stands for.
use Rattle.std.specs.Prelude.{Result, Ok, Err}
use Rattle.semver.specs.Identifiers.{parts_of}
use Rattle.version_ranges.specs.Terms.{Bound, Exact, Span}
use Rattle.version_ranges.specs.declared.condition.Operand.{Operand}
use Rattle.version_ranges.specs.declared.condition.Operand.TheVariants as operand
use Rattle.version_ranges.specs.declared.fault.RangeFault.{RangeFault}

abbrev pub bound_of : Operand → Bound
bound_of (operand.Version version) = Exact (parts_of version)
bound_of (operand.Wildcard wildcard) = Span wildcard

-- What reading a word gave.
abbrev pub shown_word : Result Operand RangeFault → Result Bound RangeFault
shown_word (Ok operand) = Ok (bound_of operand)
shown_word (Err fault) = Err fault
