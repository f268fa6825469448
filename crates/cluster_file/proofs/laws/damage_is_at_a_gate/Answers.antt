use Rattle.cluster_file.proofs.Standing.{found_damage, other_header, damaged_after}
use Rattle.cluster_file.proofs.laws.damage_is_at_a_gate.Goals as goal

pub returns : goal.returns
returns c = record {
  damaged = found_damage;
  header = other_header;
  gate = damaged_after;
}
