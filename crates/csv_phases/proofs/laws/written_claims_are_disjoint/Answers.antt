use Rattle.csv_phases.proofs.Taking.{all_claims, of_write}
use Rattle.csv_phases.proofs.laws.written_claims_are_disjoint.Goals as goal

pub returns : goal.returns
returns c view w new is h disjoint = all_claims view w (of_write view w is) new h disjoint
