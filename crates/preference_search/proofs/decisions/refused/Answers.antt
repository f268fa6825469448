use Rattle.std.proofs.Common.{sym, subst}
use Rattle.derivations.specs.declared.Log.{Log}
use Rattle.derivations.specs.declared.Finding.TheVariants as findings
use Rattle.preference_search.specs.declared.Decision.TheVariants.{Refused}
use Rattle.preference_search.specs.Decided.{IsDecision}
use Rattle.preference_search.proofs.Ending.{refused-decision}
use Rattle.preference_search.proofs.decisions.refused.Goals as goal

pub returns : goal.returns
returns c =
    let L : Log → Type 0 = λ l. IsDecision c.args.problem.now c.args.budget (Refused (record { vars = c.len.result; log = l; finding = findings.Refused c.args.refutation })) in
    subst L (sym c.into_log.ensures)
    (refused-decision c.args.problem.now c.args.budget c.len.result c.args.search.log.lemmas c.args.refutation c.len.ensures.count c.requires.sound c.requires.refutes)
