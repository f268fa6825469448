use Rattle.std.proofs.Common.{◌≡◌, ◌<◌, ℕ, sym, ap, subst, ◌∙◌, ◌++◌, ◌∷◌, [], true, take, get_or, length, arith}
use Rattle.std.proofs.lemmas.List.{take_more, length-set}
use Rattle.op_constraints.specs.Walks.{is_among}
use Rattle.op_constraints.proofs.Standing.{at-add}
use Rattle.op_constraints.proofs.Testing.{all-at}
use Rattle.preference_search.proofs.sets.bits_of.Goals as goal

pub loop-var-preserved : goal.loop-var-preserved
loop-var-preserved c =
    let vars = c.args.vars.now in
    let bits = c.loop-var.bits.items in
    let i = c.loop-var.var-index in
    let v = c.var.inside.0 in
    let in' = c.loop-var-test.true in
    let less : get_or vars i v < length c.args.problem.now = all-at (λ u. u < length c.args.problem.now) vars i v in' c.requires in
    let P : ℕ → Type 0 = λ u. u ≡ get_or vars i u in
    let is : v ≡ get_or vars i v = subst P (sym c.var.view_is) c.var-item.is in
    let size : length bits ≡ length c.args.problem.now = c.loop-var.invariant.size in
    record {
      size = length-set bits v true ∙ size;
      same = at-add bits (take i vars) v (omega (arith, less, is, size)) c.loop-var.invariant.same
          ∙ ap is_among (ap (λ u. take i vars ++ u ∷ []) is ∙ sym (take_more vars i v in'));
    }
