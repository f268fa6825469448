use Rattle.std.proofs.Common.{ℕ, ◌+◌, List, length, sym, ap, ◌∙◌, subst}
use Rattle.op_constraints.specs.Walks.{is_among}
use Rattle.derivations.specs.declared.Log.{Log}
use Rattle.derivations.specs.declared.Refutation.{Refutation}
use Rattle.derivations.specs.declared.Finding.TheVariants as findings
use Rattle.preference_search.specs.declared.Decision.TheVariants.{Chosen}
use Rattle.preference_search.specs.Decided.{IsDecision}
use Rattle.preference_search.proofs.Ending.{found-decision}
use Rattle.preference_search.proofs.decisions.chosen.Goals as goal

pub returns : goal.returns
returns c =
    let s = c.args.search in
    let problem = c.args.problem.now in
    let walk = c.in_ok-walk.walk in
    let set = c.in_ok-set.set in
    let N : List ℕ → Type 0 = λ ns. IsDecision problem c.args.budget (Chosen walk set (record { vars = c.len.result; log = s.log; finding = findings.Chosen ns c.from_vec-2.result })) in
    let S : List (ℕ × ℕ × Refutation) → Type 0 = λ xs. IsDecision problem c.args.budget (Chosen walk set (record { vars = c.len.result; log = s.log; finding = findings.Chosen s.numbers.items xs })) in
    let L : Log → Type 0 = λ l. IsDecision problem c.args.budget (Chosen walk set (record { vars = c.len.result; log = l; finding = findings.Chosen c.from_vec.result c.from_vec-2.result })) in
    subst L (sym c.into_log.ensures) (subst N (sym c.from_vec.ensures) (subst S (sym c.from_vec-2.ensures)
    (found-decision problem c.args.budget c.len.result s.log.lemmas s.numbers.items walk s.chosen.items s.bits.items set s.steps.items 0 (length s.log.lemmas + length s.numbers.items)
    c.len.ensures.kept c.len.ensures.count c.requires.here c.requires.full c.requires.allowed
    (c.in_ok-walk.ensures ∙ c.as_slice-2.ensures.value) c.in_ok-set.ensures.size (c.in_ok-set.ensures.same ∙ ap is_among c.as_slice.ensures.value))))
