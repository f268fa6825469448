-- What each form of a constraint writes, and whether it names a bad range.
use Rattle.std.proofs.Common.{◌≡◌, ℕ, true, false, List, map, sym, ap, ◌∙◌, Option, Some}
use Rattle.std.specs.List.{list_any}
use Rattle.std.specs.Option.{option_map}
use Rattle.olm_base.specs.declared.gvk.Gvk.{Gvk}
use Rattle.fbc_types.specs.Texts.{has_bad_range, is_range}
use Rattle.fbc_types.proofs.Lists.{true_of_not}
use Rattle.fbc_types.proofs.Nested.{bad_package, bad_all, bad_any, bad_not}
use Rattle.fbc_types.specs.declared.property.RawConstraint.{RawConstraint}
use Rattle.fbc_types.specs.declared.property.RawConstraint.TheVariants as raw
use Rattle.fbc_types.specs.declared.property.RawConstraint.TheOpen.{RawConstraint-F}
use Rattle.fbc_types.specs.declared.property.RawConstraint.TheFolds.{fold-roll-RawConstraint}
use Rattle.op_properties.specs.Asked.{each_there, package_in, requirement_by, requirement_of}
use Rattle.op_properties.specs.declared.requirement.Requirement.{Requirement}
use Rattle.op_properties.specs.declared.requirement.Requirement.TheVariants as requirement

pub writes_package : (name range : List ℕ) → requirement_of (raw.Package name range) ≡ package_in name range
unfolding requirement_of
writes_package name range =
    ap requirement_of (sym (raw.rolls-Package name range))
    ∙ fold-roll-RawConstraint (Option Requirement) requirement_by (RawConstraint-F.Package name range)

pub writes_kind : (kind : Gvk) → requirement_of (raw.Kind kind) ≡ Some (requirement.Kind kind)
unfolding requirement_of
writes_kind kind =
    ap requirement_of (sym (raw.rolls-Kind kind)) ∙ fold-roll-RawConstraint (Option Requirement) requirement_by (RawConstraint-F.Kind kind)

pub writes_all : (members : List RawConstraint) → requirement_of (raw.All members) ≡ option_map requirement.All (each_there (map requirement_of members))
unfolding requirement_of
writes_all members =
    ap requirement_of (sym (raw.rolls-All members)) ∙ fold-roll-RawConstraint (Option Requirement) requirement_by (RawConstraint-F.All members)

pub writes_any : (members : List RawConstraint) → requirement_of (raw.Any members) ≡ option_map requirement.Any (each_there (map requirement_of members))
unfolding requirement_of
writes_any members =
    ap requirement_of (sym (raw.rolls-Any members)) ∙ fold-roll-RawConstraint (Option Requirement) requirement_by (RawConstraint-F.Any members)

pub writes_not : (members : List RawConstraint) → requirement_of (raw.Not members) ≡ option_map requirement.Not (each_there (map requirement_of members))
unfolding requirement_of
writes_not members =
    ap requirement_of (sym (raw.rolls-Not members)) ∙ fold-roll-RawConstraint (Option Requirement) requirement_by (RawConstraint-F.Not members)

pub writes_cel : (rule : List ℕ) → requirement_of (raw.Cel rule) ≡ Some requirement.Unsupported
unfolding requirement_of
writes_cel rule =
    ap requirement_of (sym (raw.rolls-Cel rule)) ∙ fold-roll-RawConstraint (Option Requirement) requirement_by (RawConstraint-F.Cel rule)

pub writes_unknown : requirement_of raw.Unknown ≡ Some requirement.Unsupported
unfolding requirement_of
writes_unknown =
    ap requirement_of (sym raw.rolls-Unknown) ∙ fold-roll-RawConstraint (Option Requirement) requirement_by RawConstraint-F.Unknown

module _ (constraint : RawConstraint) (good : has_bad_range constraint ≡ false) where
  pub good_package : (name range : List ℕ) → constraint ≡ raw.Package name range → is_range range ≡ true
  good_package name range is = true_of_not (is_range range) (sym (ap has_bad_range is ∙ bad_package name range) ∙ good)

  pub good_all : (members : List RawConstraint) → constraint ≡ raw.All members → list_any has_bad_range members ≡ false
  good_all members is = sym (ap has_bad_range is ∙ bad_all members) ∙ good

  pub good_any : (members : List RawConstraint) → constraint ≡ raw.Any members → list_any has_bad_range members ≡ false
  good_any members is = sym (ap has_bad_range is ∙ bad_any members) ∙ good

  pub good_not : (members : List RawConstraint) → constraint ≡ raw.Not members → list_any has_bad_range members ≡ false
  good_not members is = sym (ap has_bad_range is ∙ bad_not members) ∙ good
