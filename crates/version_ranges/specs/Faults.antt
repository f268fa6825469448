-- Which faults may come at any time.
use Rattle.std.specs.Prelude.{Bool, true, false}
use Rattle.version_ranges.specs.declared.fault.RangeFault.{RangeFault}
use Rattle.version_ranges.specs.declared.fault.RangeFault.TheVariants.{Empty, BadOperator, BadVersion, BadWildcard, Memory}

-- Want of memory alone is free.
abbrev pub is_free : RangeFault → Bool
is_free (Empty at) = false
is_free (BadOperator at) = false
is_free (BadVersion at) = false
is_free (BadWildcard at) = false
is_free Memory = true
