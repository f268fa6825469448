use Rattle.std.proofs.Common.{Some, Err, ap, sym, ◌∙◌, subst, arith}
use Rattle.std.proofs.lemmas.Result.{err_from_is_err_and}
use Rattle.payloads.specs.Form.{read_items}
use Rattle.payloads.specs.Reading.{Reads}
use Rattle.payloads.proofs.ItemLoops.{items_begin, items_go_on, items_end, items_fail}
use Rattle.payloads.proofs.joined.read_items_at.Goals as goal

pub loop-init : goal.loop-init
loop-init g c = items_begin g.T.Stored.form c.args.count c.args.bytes.now c.new-items.result.items c.new-items.ensures.items

pub loop-preserved : goal.loop-preserved
loop-preserved g c =
    items_go_on g.T.Stored.form c.args.count c.loop.counter c.args.bytes.now c.loop.rest.now c.in_ok-item.behind.now c.loop.items.items c.push.new.self.items c.in_ok-item.item
    c.loop-test.true c.in_ok-push.ensures.items c.loop.invariant c.in_ok-item.ensures

pub returns : goal.returns
returns g c =
    items_end g.T.Stored.form c.args.count c.loop.counter c.args.bytes.now c.loop.rest.now c.loop.items.items (omega arith) c.loop.invariant
    ∙ ap (λ l. Some (l, c.loop.rest.now)) (sym c.from_vec.ensures)

pub returns-in_err-item : goal.returns-in_err-item
returns-in_err-item g c =
    let form = g.T.Stored.form in
    let passed_on = err_from_is_err_and c.from_residual.result c.from_residual.ensures.1 in
    let is = passed_on.1 ∙ ap (λ f. Err f) passed_on.2 in
    subst (λ r. Reads (read_items form c.args.count c.args.bytes.now) r) (sym is)
    (items_fail form c.args.count c.loop.counter c.args.bytes.now c.loop.rest.now c.loop.items.items c.in_err-item.field-0.0 c.loop-test.true c.loop.invariant c.in_err-item.ensures)
