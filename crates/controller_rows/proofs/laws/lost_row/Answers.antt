use Rattle.std.proofs.Common.{refl}
use Rattle.cluster_objects.specs.Keys.{key_cmp, same_key}
use Rattle.cluster_objects.specs.Stamps.{times}
use Rattle.controller_rows.proofs.laws.lost_row.Goals as goal

pub returns : goal.returns
unfolding key_cmp same_key times
returns c = record {
  write_5 = refl;
  write_6 = refl;
  write_7 = refl;
  write_9 = refl;
  write_10 = refl;
}
