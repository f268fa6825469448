use Rattle.std.proofs.Common.{◌≡◌, ◌≤◌, ◌-◌, length, drop}
use Rattle.version_ranges.specs.Reading.{after_alternatives, alternatives, reading}
use Rattle.version_ranges.proofs.parsing.read_alternatives.Given as goal

-- the alternatives so far, before those of the rest, are all
abbrev pub invariant-alternatives : goal.invariant-alternatives
invariant-alternatives l =
    record {
      within : l.at ≤ length l.text;
      all : after_alternatives l.alternatives (alternatives l.at (drop l.at l.text)) ≡ reading l.text;
    }

abbrev pub decreases-alternatives : goal.decreases-alternatives
decreases-alternatives l = length l.text - l.at
