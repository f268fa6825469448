use Rattle.std.proofs.Common.{Bool, true, false, not, refl, sym, ◌∙◌, ◌≡◌}
use Rattle.fbc_check.proofs.Twice.{met_twice, named_more, still_once}
use Rattle.fbc_check.proofs.links.has_name_twice.Goals as goal

-- whether a name that was added stood before
known : (is_new had : Bool) → is_new ≡ not had → is_new ≡ false → had ≡ true
known is_new true h k = refl
known is_new false h k = absurd (let bad : true ≡ false = sym h ∙ k in cc)

unknown : (is_new had : Bool) → is_new ≡ not had → is_new ≡ true → had ≡ false
unknown is_new false h k = refl
unknown is_new true h k = absurd (let bad : false ≡ true = sym h ∙ k in cc)

pub returns-then-not-branch : goal.returns-then-not-branch
returns-then-not-branch c =
    met_twice c.args.chain.now c.entries.entry-index c.entry-item.result c.entries-test.true c.entry-item.is
    (sym (c.entries.invariant.met c.entry-item.result.now.name) ∙ known _ _ c.in_ok-add.ensures.is_new c.if-not-branch.true)
    c.entries.invariant.once

pub entries-preserved : goal.entries-preserved
entries-preserved c = record {
  met = λ name. named_more c.args.chain.now c.entries.entry-index c.entry-item.result c.entries-test.true c.entry-item.is name _ _ (c.in_ok-add.ensures.added name) (c.entries.invariant.met name);
  once = still_once c.args.chain.now c.entries.entry-index c.entry-item.result c.entries-test.true c.entry-item.is
      (sym (c.entries.invariant.met c.entry-item.result.now.name) ∙ unknown _ _ c.in_ok-add.ensures.is_new c.if-not-branch.false)
      c.entries.invariant.once;
}
