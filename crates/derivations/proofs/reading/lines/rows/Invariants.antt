use Rattle.std.proofs.Common.{◌≡◌, ◌≤◌, ◌+◌, length}
use Rattle.derivations.specs.Reading.{parts, lines}
use Rattle.derivations.proofs.Rows.{with_front}
use Rattle.derivations.proofs.reading.lines.rows.Given as goal

-- the items so far, before those of the rest, are all
abbrev pub invariant-rows : goal.invariant-rows
invariant-rows g l =
    record {
      place : l.place + length l.rest ≤ l.number + length l.text;
      short : length l.items + length l.rest ≤ length l.text;
      all : with_front l.items (lines l.words g.T.Written.meaning l.place (parts 10 l.rest)) ≡ lines l.words g.T.Written.meaning l.number (parts 10 l.text);
    }

abbrev pub decreases-rows : goal.decreases-rows
decreases-rows g l = length l.rest
