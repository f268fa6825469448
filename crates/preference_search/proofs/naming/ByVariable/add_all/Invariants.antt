use Rattle.std.proofs.Common.{◌≡◌, ℕ, true, take}
use Rattle.op_constraints.specs.Walks.{is_among}
use Rattle.preference_search.specs.Naming.{IsListed, IsGrown}
use Rattle.preference_search.proofs.naming.ByVariable.add_all.Given as goal

abbrev pub invariant-loop-var : goal.invariant-loop-var
invariant-loop-var g l = record {
  listed : (w : ℕ) → is_among (take l.var-index l.vars) w ≡ true → IsListed l.self w l.item;
  grown : IsGrown l.initial.self l.self;
}
