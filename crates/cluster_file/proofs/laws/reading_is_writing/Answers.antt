use Rattle.std.proofs.Common.{ap, sym, ◌∙◌}
use Rattle.cluster_history.specs.History.{Start, empty}
use Rattle.cluster_file.specs.Files.{Stands}
use Rattle.cluster_file.proofs.RecordForms.{record_is_form}
use Rattle.cluster_file.proofs.Standing.{written, found_writes, stands_short, place-none}
use Rattle.cluster_file.proofs.laws.reading_is_writing.Goals as goal

pub returns : goal.returns
returns c = record {
  written = written;
  read = found_writes;
  short = λ bytes short. stands_short bytes short ∙ ap (Stands (Start empty)) (sym place-none);
  records = record_is_form;
}
