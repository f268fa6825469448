use Rattle.std.proofs.Common.{refl}
use Rattle.cluster_objects.specs.Keys.{key_cmp, same_key}
use Rattle.cluster_objects.specs.Stamps.{times}
use Rattle.controller_rows.proofs.laws.manual_row.Goals as goal

pub returns : goal.returns
unfolding key_cmp same_key times
returns c = record {
  write_7 = refl;
  write_8 = refl;
  write_9 = refl;
  write_10 = refl;
  write_11 = refl;
  write_12 = refl;
  write_13 = refl;
  write_14 = refl;
  write_16 = (refl, refl);
  write_17 = (refl, refl);
  write_18 = (refl, refl);
  write_19 = (refl, refl);
}
