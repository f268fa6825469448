use Rattle.log_file.proofs.Turning.{FoldsOn}
use Rattle.log_file.proofs.fold.fold_records.Given as goal

abbrev pub invariant-loop : goal.invariant-loop
invariant-loop l = FoldsOn l.total l.counter l.fn.store l.store l.bytes l.rest
