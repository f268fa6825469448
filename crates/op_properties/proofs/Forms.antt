-- What each form of a requirement asks of an offer.
use Rattle.std.proofs.Common.{◌≡◌, ◌&&◌, ℕ, Bool, false, not, List, sym, ap, ◌∙◌}
use Rattle.std.specs.List.{list_all, list_any}
use Rattle.std.proofs.lemmas.List.Folds.{list_all-map}
use Rattle.version_ranges.specs.Conditions.{holds_of}
use Rattle.version_ranges.specs.Terms.{Term}
use Rattle.olm_base.specs.declared.gvk.Gvk.{Gvk}
use Rattle.fbc_types.proofs.Nested.{any_of_map}
use Rattle.op_properties.specs.Offers.{Provided, is_among, is_of}
use Rattle.op_properties.specs.Passing.{passes, passes_by}
use Rattle.op_properties.specs.declared.requirement.Requirement.{Requirement}
use Rattle.op_properties.specs.declared.requirement.Requirement.TheVariants as requirement
use Rattle.op_properties.specs.declared.requirement.Requirement.TheOpen.{Requirement-F}
use Rattle.op_properties.specs.declared.requirement.Requirement.TheFolds.{fold-roll-Requirement}

pub package_passes : (name : List ℕ) (range : List (List Term)) (p : Provided) → passes (requirement.Package name range) p ≡ (is_of name p.«package» && holds_of range p.version)
unfolding passes
package_passes name range p =
    ap (λ q. passes q p) (sym (requirement.rolls-Package name range))
    ∙ fold-roll-Requirement Bool (passes_by p) (Requirement-F.Package name range)

pub kind_passes : (kind : Gvk) (p : Provided) → passes (requirement.Kind kind) p ≡ is_among kind p.kinds
unfolding passes
kind_passes kind p =
    ap (λ q. passes q p) (sym (requirement.rolls-Kind kind)) ∙ fold-roll-Requirement Bool (passes_by p) (Requirement-F.Kind kind)

pub all_passes : (members : List Requirement) (p : Provided) → passes (requirement.All members) p ≡ list_all (λ member. passes member p) members
unfolding passes
all_passes members p =
    ap (λ q. passes q p) (sym (requirement.rolls-All members))
    ∙ fold-roll-Requirement Bool (passes_by p) (Requirement-F.All members)
    ∙ list_all-map (λ passed. passed) (λ member. passes member p) members

pub any_passes : (members : List Requirement) (p : Provided) → passes (requirement.Any members) p ≡ list_any (λ member. passes member p) members
unfolding passes
any_passes members p =
    ap (λ q. passes q p) (sym (requirement.rolls-Any members))
    ∙ fold-roll-Requirement Bool (passes_by p) (Requirement-F.Any members)
    ∙ any_of_map (λ member. passes member p) members

pub not_passes : (members : List Requirement) (p : Provided) → passes (requirement.Not members) p ≡ not (list_any (λ member. passes member p) members)
unfolding passes
not_passes members p =
    ap (λ q. passes q p) (sym (requirement.rolls-Not members))
    ∙ fold-roll-Requirement Bool (passes_by p) (Requirement-F.Not members)
    ∙ ap not (any_of_map (λ member. passes member p) members)

pub unsupported_passes : (p : Provided) → passes requirement.Unsupported p ≡ false
unfolding passes
unsupported_passes p =
    ap (λ q. passes q p) (sym requirement.rolls-Unsupported) ∙ fold-roll-Requirement Bool (passes_by p) Requirement-F.Unsupported
