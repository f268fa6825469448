-- The resolver writes or has no write.
use Rattle.std.proofs.Common.{◌≡◌, Bool, true, false, Some, None, sym, ap, ◌∙◌, inl, inr, subst}
use Rattle.cluster_objects.specs.declared.objects.Write.{Write}
use Rattle.cluster_objects.specs.declared.resolutions.ResolutionStatus.{ResolutionStatus}
use Rattle.cluster_history.specs.Views.{View}
use Rattle.controller_rules.specs.Resolving.{Decides, HasNoWrite, IsDone, IsDue, IsResolversWrite, Plans, Rests, Stands, has_no_plan, is_resting}

apart : (b : Bool) → b ≡ true → b ≡ false → ⊥
apart true h k = absurd (let bad : true ≡ false = k in cc)
apart false h k = absurd (let bad : false ≡ true = h in cc)

-- what stands isn't due
not_due : (view : View) (found : ResolutionStatus) → Stands view found → IsDue view (Some found) → ⊥
not_due view found stands (inl other) = other stands.basis
not_due view found stands (inr again) = apart found.again again stands.again

same_found : (a b : ResolutionStatus) → Some a ≡ Some b → a ≡ b
same_found a b e = ap (λ o. elim o [ None ↦ a | Some x ↦ x ]) e

pub none_is_none : (view : View) (w : Write) → HasNoWrite view → IsResolversWrite view w → ⊥
none_is_none view w (Rests rests) (Decides awake due new next is) = apart (is_resting view) rests awake
none_is_none view w (Rests rests) (Plans awake found stands wanted is) = apart (is_resting view) rests awake
none_is_none view w (IsDone found stands done) (Decides awake due new next is) =
    not_due view found stands (subst (λ there. IsDue view there) stands.there due)
none_is_none view w (IsDone found stands done) (Plans awake other these wanted is) =
    let one : other ≡ found = same_found other found (sym these.there ∙ stands.there) in
    apart (has_no_plan view found) (subst (λ x. has_no_plan view x ≡ true) one wanted) done
