use Rattle.std.proofs.Common.{◌≡◌, ℕ, List, ◌∷◌, map, sym, ap, ◌∙◌, subst}
use Rattle.op_constraints.specs.declared.Lit.{Lit}
use Rattle.derivations.specs.declared.Hint.TheVariants.{Given}
use Rattle.clause_trail.specs.declared.rows.Status.{Status}
use Rattle.clause_trail.specs.Trails.{literals}
use Rattle.clause_trail.specs.Rows.{scanned}
use Rattle.clause_trail.specs.Scans.{Reads, ScansClause}
use Rattle.clause_trail.proofs.rows.scan_row.Goals as goal

pub returns-in-Settled : goal.returns-in-Settled
returns-in-Settled c =
    let trail = literals c.args.trail.now.entries in
    let others : List Lit = map (λ v. record { var = v; positive = c.args.positive }) c.args.others.now in
    let clause : List Lit = record { var = c.args.var; positive = c.args.first } ∷ others in
    let reads = c.status_of-status.ensures clause (c.read_vars.ensures ∙ ap (λ o. scanned trail o others) c.add-own.ensures) in
    let P : Status → Type 0 = λ s. Reads trail clause s in
    subst P c.in-Settled.is reads

pub returns : goal.returns
returns c =
    let trail = literals c.args.trail.now.entries in
    let others : List Lit = map (λ v. record { var = v; positive = c.args.positive }) c.args.others.now in
    let clause : List Lit = record { var = c.args.var; positive = c.args.first } ∷ others in
    let reads = c.status_of-status.ensures clause (c.read_vars.ensures ∙ ap (λ o. scanned trail o others) c.add-own.ensures) in
    let is : c.in_ok-row.field-0 ≡ clause = c.in_ok-row.ensures in
    let P : List ℕ → Type 0 = λ ms. ScansClause trail (Given c.args.var c.args.place ms) clause c.with_reason.result in
    subst P c.new.ensures
    (subst (λ (ls : List Lit). ScansClause trail (Given c.args.var c.args.place c.new.result) ls c.with_reason.result) is
    (c.with_reason.ensures trail (subst (λ (ls : List Lit). Reads trail ls c.status_of-status.result) (sym is) reads)))
