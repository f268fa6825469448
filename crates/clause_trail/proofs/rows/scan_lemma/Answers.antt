use Rattle.std.proofs.Common.{◌≡◌, List, ◌++◌, sym, ap, ◌∙◌, subst}
use Rattle.op_constraints.specs.declared.Lit.{Lit}
use Rattle.derivations.specs.declared.Hint.TheVariants.{Lemma}
use Rattle.clause_trail.specs.Trails.{literals}
use Rattle.clause_trail.specs.Scans.{Reads, ScansClause}
use Rattle.clause_trail.proofs.rows.scan_lemma.Goals as goal

pub returns : goal.returns
returns c =
    let trail = literals c.args.trail.now.entries in
    let is : c.from_vec.result ≡ c.args.lits.now = c.from_vec.ensures ∙ (c.in_ok-extend_from_slice.ensures.items ∙ ap (λ (xs : List Lit). xs ++ c.args.lits.now) c.new-copy.ensures.items) in
    subst (λ (ls : List Lit). ScansClause trail (Lemma c.args.number) ls c.with_reason.result) is
    (c.with_reason.ensures trail (subst (λ (ls : List Lit). Reads trail ls c.status_of-status.result) (sym is) (c.status_of-status.ensures c.args.lits.now c.read.ensures)))
