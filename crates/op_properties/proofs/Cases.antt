-- When each form of a requirement is met.
use Rattle.std.proofs.Common.{◌≡◌, ◌↔◌, ℕ, Bool, true, false, List, [], ◌∷◌, get_or, sym, ap, ◌∙◌, subst, Option, Some, None}
use Rattle.std.specs.List.{Contains, AllByRecursion, list_any}
use Rattle.std.proofs.lemmas.Bool.{and_from, and_parts, or_parts, false_from_ne_true, not-true, not_from_false}
use Rattle.std.proofs.lemmas.List.Elements.{All-from_recursion}
use Rattle.std.proofs.lemmas.List.Folds.{Any-from_list_any, list_any-from_Any, list_any_none}
use Rattle.std.proofs.lemmas.List.Sums.{AllPass-from_list_all, list_all-from_AllPass}
use Rattle.olm_base.specs.declared.gvk.Gvk.{Gvk}
use Rattle.version_ranges.specs.Conditions.{holds_of}
use Rattle.op_properties.specs.Laws.{Passes, PackagePasses, KindPasses, AllPass, AnyPasses, NonePasses, UnsupportedPasses}
use Rattle.op_properties.specs.Offers.{same_kind, is_of}
use Rattle.op_properties.specs.Passing.{passes}
use Rattle.op_properties.specs.declared.requirement.Requirement.{Requirement}
use Rattle.op_properties.proofs.Forms.{package_passes, kind_passes, all_passes, any_passes, not_passes, unsupported_passes}
use Rattle.op_properties.proofs.Singles.{same_self, same_is, same_kind_self, same_kind_is}

of_name : (name : List ℕ) (known : Option (List ℕ)) → is_of name known ≡ true → known ≡ Some name
of_name name None h = absurd (let bad : false ≡ true = h in cc)
of_name name (Some other) h = ap Some (sym (same_is name other h))

pub package_case : PackagePasses
package_case name range provided =
    let form = package_passes name range provided in (
      (λ passed.
          let parts = and_parts (is_of name provided.«package») (holds_of range provided.version) (sym form ∙ passed) in
          (of_name name provided.«package» parts.0, parts.1)),
      λ (known, holds). form ∙ and_from (is_of name provided.«package») (holds_of range provided.version) (ap (is_of name) known ∙ same_self name) holds,
    )

-- a list has a kind where the test finds it
pub found_kind : (kinds : List Gvk) (kind : Gvk) → (list_any (same_kind kind) kinds ≡ true) ↔ Contains kinds kind
found_kind kinds kind = (
  (λ found.
      let (k, other, below, is, same) = Any-from_list_any (same_kind kind) kinds found in
      let turned = sym (same_kind_is kind other same) in
      (k, below, subst (λ q. get_or kinds k q ≡ q) turned is)),
  λ (k, below, is). list_any-from_Any (same_kind kind) kinds (k, kind, below, is, same_kind_self kind),
)

pub kind_case : KindPasses
kind_case kind provided =
    let form = kind_passes kind provided in
    let found = found_kind provided.kinds kind in
    ((λ passed. found.0 (sym form ∙ passed)), λ has. form ∙ found.1 has)

pub all_case : AllPass
all_case members provided =
    let form = all_passes members provided in (
      (λ passed. AllPass-from_list_all (λ member. passes member provided) members (sym form ∙ passed)),
      λ each. form ∙ list_all-from_AllPass (λ member. passes member provided) members each,
    )

pub any_case : AnyPasses
any_case members provided =
    let form = any_passes members provided in (
      (λ passed. Any-from_list_any (λ member. passes member provided) members (sym form ∙ passed)),
      λ one. form ∙ list_any-from_Any (λ member. passes member provided) members one,
    )

denied : {T : Type 0} (test : T → Bool) (items : List T) → list_any test items ≡ false → AllByRecursion (λ item. ¬ (test item ≡ true)) items
denied test [] h = tt
denied test (item ∷ items) h =
    let parts = or_parts (test item) (list_any test items) h in
    ((λ passed. absurd (let bad : true ≡ false = sym passed ∙ parts.0 in cc)), denied test items parts.1)

pub not_case : NonePasses
not_case members provided =
    let form = not_passes members provided in
    let test : Requirement → Bool = λ member. passes member provided in (
      (λ passed. All-from_recursion (λ member. ¬ Passes member provided) members (denied test members (not-true (list_any test members) (sym form ∙ passed)))),
      λ none. form ∙ not_from_false (list_any test members)
          (list_any_none test members (λ k d below. false_from_ne_true (test (get_or members k d)) (none k d below))),
    )

pub unsupported_case : UnsupportedPasses
unsupported_case provided passed = absurd (let bad : false ≡ true = sym (unsupported_passes provided) ∙ passed in cc)
