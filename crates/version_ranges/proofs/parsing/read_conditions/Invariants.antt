use Rattle.std.proofs.Common.{◌≡◌, ◌≤◌, ◌+◌, ◌-◌, length, drop}
use Rattle.version_ranges.specs.Reading.{after_conditions, conditions}
use Rattle.version_ranges.proofs.parsing.read_conditions.Given as goal

-- the conditions so far, before those of the rest, are all
abbrev pub invariant-conditions : goal.invariant-conditions
invariant-conditions l =
    record {
      within : l.at ≤ length l.rest;
      all : after_conditions l.conditions l.at (conditions (l.place + l.at) (drop l.at l.rest)) ≡ conditions l.place l.rest;
    }

abbrev pub decreases-conditions : goal.decreases-conditions
decreases-conditions l = length l.rest - l.at
