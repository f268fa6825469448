use Rattle.std.proofs.Common.{sym, ◌∙◌}
use Rattle.std.proofs.lemmas.Bool.{not-true, not-false}
use Rattle.name_tables.specs.Sets.{has}
use Rattle.object_bodies.proofs.Once.{named_more, once_more-new, once_more-seen}
use Rattle.object_bodies.proofs.groups.each_once.Goals as goal
use Rattle.object_bodies.proofs.groups.each_once.Goals.{then-is_new+in_ok-clone+in_ok-push, else-is_new}

pub loop-name-preserved : goal.loop-name-preserved
loop-name-preserved c =
    let names = c.args.names.now in
    let i = c.loop-name.name-index in
    let name = c.name-item.result in
    let below = c.loop-name-test.true in
    let at = c.name-item.is in
    let there = c.loop-name.invariant.names name in
    record {
      names = λ other. named_more names i name below at (has c.loop-name.seen other) _ other (c.in_ok-is_new.ensures.added other) (c.loop-name.invariant.names other);
      once = elim c.if-is_new.branch [
        | then-is_new+in_ok-clone+in_ok-push w ↦
            (let never = sym there ∙ not-true (has c.loop-name.seen name) (sym c.in_ok-is_new.ensures.is_new ∙ w.if-is_new.true) in
            cc (w.in_ok-clone.ensures.cases, w.in_ok-push.ensures.items, w.once-is, once_more-new names i name below at c.loop-name.once.items never c.loop-name.invariant.once))
        | else-is_new w ↦
            (let seen = sym there ∙ not-false (has c.loop-name.seen name) (sym c.in_ok-is_new.ensures.is_new ∙ w.if-is_new.false) in
            cc (w.once-is, once_more-seen names i name below at c.loop-name.once.items seen c.loop-name.invariant.once))
      ];
    }
