use Rattle.std.proofs.Common.{◌≡◌, ℕ, List, ◌++◌, ◌∷◌, [], sym, ap, ◌∙◌, length}
use Rattle.op_constraints.specs.Walks.{Walked, zeros}
use Rattle.op_constraints.proofs.Prefixes.{zeros-more}
use Rattle.op_constraints.proofs.walks.Walk.follow_first.Goals as goal

pub loop-members-preserved : goal.loop-members-preserved
loop-members-preserved c =
    let before = c.loop-members.self.numbers in
    let numbers : c.take.new.self.numbers ≡ before ++ 0 ∷ [] =
    ap (λ (w : Walked). w.numbers) c.take.ensures.taken ∙ ap (λ (w : Walked). w.numbers ++ 0 ∷ []) c.in-Some.ensures.same in
    record {
      zeros = numbers ∙ (zeros-more before c.loop-members.invariant.zeros ∙ ap (λ (ks : List ℕ). zeros (length ks)) (sym numbers));
      problem = ap (λ (w : Walked). w.problem) c.take.ensures.taken ∙ (ap (λ (w : Walked). w.problem) c.in-Some.ensures.same ∙ c.loop-members.invariant.problem);
    }
