use Rattle.std.proofs.Common.{refl}
use Rattle.cluster_objects.specs.Keys.{key_cmp, same_key}
use Rattle.cluster_objects.specs.Stamps.{times}
use Rattle.controller_rows.proofs.laws.forward_row.Goals as goal

pub returns : goal.returns
unfolding key_cmp same_key times
returns c = record {
  write_5 = refl;
  write_6 = refl;
  write_7 = refl;
  write_8 = refl;
  write_9 = refl;
  write_10 = refl;
  write_11 = refl;
  write_12 = refl;
  write_14 = (refl, refl);
  write_15 = (refl, refl);
  write_16 = (refl, refl);
  write_17 = (refl, refl);
  write_20 = (refl, refl);
  write_25 = refl;
  write_26 = refl;
  write_27 = refl;
  write_28 = refl;
  write_29 = refl;
  write_30 = refl;
  write_32 = (refl, refl);
  write_33 = (refl, refl);
  write_34 = (refl, refl);
  write_35 = (refl, refl);
  write_36 = (refl, refl);
  write_38 = (refl, refl);
  write_45 = refl;
  write_46 = refl;
  write_47 = refl;
  write_48 = refl;
  write_49 = refl;
  write_50 = refl;
  write_52 = (refl, refl);
  write_53 = (refl, refl);
  write_54 = (refl, refl);
  write_55 = (refl, refl);
  write_56 = (refl, refl);
  write_59 = (refl, refl);
  write_61 = (refl, refl);
  write_62 = (refl, refl);
  write_63 = (refl, refl);
  write_64 = (refl, refl);
}
