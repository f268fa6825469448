use Rattle.std.proofs.Common.{◌∙◌, sym, ap, map, take, ◌++◌, ◌∷◌, []}
use Rattle.op_properties.specs.Offers.{each_once, is_among}
use Rattle.view_basis.specs.Tips.{kind_of}
use Rattle.view_basis.proofs.EachOnce.{kinds_pushed, kinds_seen}
use Rattle.view_basis.proofs.tips.kinds_of.Goals as goal
use Rattle.view_basis.proofs.tips.kinds_of.Goals.{then-not-is_among+in_ok-push, else-not-is_among}

pub definitions-preserved : goal.definitions-preserved
definitions-preserved c =
    let all = c.args.owned.now in
    let i = c.definitions.crd-index in
    let kept = c.definitions.invariant in
    let kind = c.in_ok-kind.kind in
    let is = c.in_ok-kind.ensures in
    let asked =
    ap (λ kinds. is_among (kind_of c.crd-item.result) kinds) (sym kept ∙ sym c.as_slice.ensures)
    ∙ ap (λ k. is_among k c.as_slice.result.now) (sym is) ∙ sym c.is_among.ensures in
    elim c.if-not-is_among.branch [
      | then-not-is_among+in_ok-push w ↦
          w.kinds-is ∙ w.in_ok-push.ensures.ok ∙ ap (λ kinds. kinds ++ kind ∷ []) kept
          ∙ ap (λ k. each_once (map kind_of (take i all)) ++ k ∷ []) is
          ∙ sym (kinds_pushed all i c.crd-item.result c.definitions-test.true c.crd-item.is (asked ∙ w.if-not-is_among.true))
      | else-not-is_among w ↦
          w.kinds-is ∙ kept
          ∙ sym (kinds_seen all i c.crd-item.result c.definitions-test.true c.crd-item.is (asked ∙ w.if-not-is_among.false))
    ]
