use Rattle.std.proofs.Common.{◌∙◌, sym, ap, take, ◌++◌, ◌∷◌, []}
use Rattle.op_properties.specs.Offers as spec
use Rattle.op_properties.proofs.Singles.{kinds_pushed, kinds_seen, kinds_passed}
use Rattle.op_properties.proofs.offer.kinds_of.Goals as goal
use Rattle.op_properties.proofs.offer.kinds_of.Goals.{in-Kind+then-not-is_among+in_ok-copy_kind+in_ok-push, in-Kind+else-not-is_among, in_default}

pub properties-preserved : goal.properties-preserved
properties-preserved c =
    let all = c.args.properties.now in
    let i = c.properties.property-index in
    let kept = c.properties.invariant in
    elim c.match-property.branch [
      | in-Kind+then-not-is_among+in_ok-copy_kind+in_ok-push w ↦
          w.kinds-is ∙ w.in_ok-push.ensures.ok
          ∙ ap (λ kinds. kinds ++ w.in_ok-copy_kind.field-0 ∷ []) kept
          ∙ ap (λ kind. spec.kinds_of (take i all) ++ kind ∷ []) w.in_ok-copy_kind.ensures
          ∙ sym (kinds_pushed all i c.property-item.result c.properties-test.true c.property-item.is w.in-Kind.kind w.in-Kind.is
          (ap (λ kinds. spec.is_among w.in-Kind.kind kinds) (sym kept ∙ sym w.as_slice.ensures) ∙ sym w.is_among.ensures ∙ w.if-not-is_among.true))
      | in-Kind+else-not-is_among w ↦
          w.kinds-is ∙ kept
          ∙ sym (kinds_seen all i c.property-item.result c.properties-test.true c.property-item.is w.in-Kind.kind w.in-Kind.is
          (ap (λ kinds. spec.is_among w.in-Kind.kind kinds) (sym kept ∙ sym w.as_slice.ensures) ∙ sym w.is_among.ensures ∙ w.if-not-is_among.false))
      | in_default w ↦ w.kinds-is ∙ kept ∙ sym (kinds_passed all i c.property-item.result c.properties-test.true c.property-item.is w.in_default.not-Kind)
    ]
