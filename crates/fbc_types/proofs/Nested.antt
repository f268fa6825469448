-- Ranges of constraints, by their form.
use Rattle.std.proofs.Common.{◌≡◌, ◌||◌, ℕ, Bool, false, not, List, [], ◌∷◌, map, refl, sym, ap, ◌∙◌}
use Rattle.std.specs.List.{list_any}
use Rattle.fbc_types.specs.Texts.{is_range, has_bad_range, names_bad_range}
use Rattle.olm_base.specs.declared.gvk.Gvk.{Gvk}
use Rattle.fbc_types.specs.declared.property.RawConstraint.{RawConstraint}
use Rattle.fbc_types.specs.declared.property.RawConstraint.TheVariants as raw
use Rattle.fbc_types.specs.declared.property.RawConstraint.TheOpen.{RawConstraint-F}
use Rattle.fbc_types.specs.declared.property.RawConstraint.TheFolds.{fold-roll-RawConstraint}

pub any_of_map : {T : Type 0} (test : T → Bool) (items : List T) → list_any (λ found. found) (map test items) ≡ list_any test items
any_of_map test [] = refl
any_of_map test (item ∷ items) = ap (λ others. test item || others) (any_of_map test items)

pub bad_package : (name range : List ℕ) → has_bad_range (raw.Package name range) ≡ not (is_range range)
unfolding has_bad_range
bad_package name range =
    ap has_bad_range (sym (raw.rolls-Package name range)) ∙ fold-roll-RawConstraint Bool names_bad_range (RawConstraint-F.Package name range)

pub bad_kind : (kind : Gvk) → has_bad_range (raw.Kind kind) ≡ false
unfolding has_bad_range
bad_kind kind = ap has_bad_range (sym (raw.rolls-Kind kind)) ∙ fold-roll-RawConstraint Bool names_bad_range (RawConstraint-F.Kind kind)

pub bad_all : (members : List RawConstraint) → has_bad_range (raw.All members) ≡ list_any has_bad_range members
unfolding has_bad_range
bad_all members =
    ap has_bad_range (sym (raw.rolls-All members)) ∙ fold-roll-RawConstraint Bool names_bad_range (RawConstraint-F.All members)
    ∙ any_of_map has_bad_range members

pub bad_any : (members : List RawConstraint) → has_bad_range (raw.Any members) ≡ list_any has_bad_range members
unfolding has_bad_range
bad_any members =
    ap has_bad_range (sym (raw.rolls-Any members)) ∙ fold-roll-RawConstraint Bool names_bad_range (RawConstraint-F.Any members)
    ∙ any_of_map has_bad_range members

pub bad_not : (members : List RawConstraint) → has_bad_range (raw.Not members) ≡ list_any has_bad_range members
unfolding has_bad_range
bad_not members =
    ap has_bad_range (sym (raw.rolls-Not members)) ∙ fold-roll-RawConstraint Bool names_bad_range (RawConstraint-F.Not members)
    ∙ any_of_map has_bad_range members

pub bad_cel : (rule : List ℕ) → has_bad_range (raw.Cel rule) ≡ false
unfolding has_bad_range
bad_cel rule = ap has_bad_range (sym (raw.rolls-Cel rule)) ∙ fold-roll-RawConstraint Bool names_bad_range (RawConstraint-F.Cel rule)

pub bad_unknown : has_bad_range raw.Unknown ≡ false
unfolding has_bad_range
bad_unknown = ap has_bad_range (sym raw.rolls-Unknown) ∙ fold-roll-RawConstraint Bool names_bad_range RawConstraint-F.Unknown
