-- What the bodies need of a catalog that breaks no rule.
use Rattle.std.proofs.Common.{◌≡◌, ◌&&◌, ◌||◌, ℕ, Bool, true, false, List, [], ◌∷◌, Option, Some, None, refl, sym, ap, ◌∙◌, subst, cond}
use Rattle.std.specs.List.{All, AllByRecursion, find, list_any}
use Rattle.std.specs.Option.{IsSome, option_and_then, option_map_or}
use Rattle.std.proofs.lemmas.List.Elements.{recursion_from_All}
use Rattle.std.specs.Prelude.{slice_get}
use Rattle.version_ranges.specs.Words.{version_of}
use Rattle.fbc_types.specs.Laws.{BundlesAreRead, EntriesAreBundles, HasOneVersion, IsBundleOf}
use Rattle.fbc_types.specs.Rules.{broken, is_bundle_of}
use Rattle.fbc_types.specs.Texts.{is_range, same, version_in}
use Rattle.fbc_types.specs.Channels.{has_name_twice}
use Rattle.fbc_types.specs.declared.catalog.Catalog.{Catalog}
use Rattle.fbc_types.specs.declared.catalog.Channel.{Channel}
use Rattle.fbc_types.specs.declared.catalog.Bundle.{Bundle}
use Rattle.upgrade_graph.specs.Order.{channel_named, version_named}
use Rattle.upgrade_graph.specs.Ranks.{HasVersions}

module _ {T : Type 0} (test : T → Bool) where
  found_by_recursion : (P : T → Type 0) (xs : List T) (x : T) → AllByRecursion P xs → find test xs ≡ Some x → P x
  found_by_recursion P [] x all h = absurd (let bad : None ≡ Some x = h in cc)
  found_by_recursion P (y ∷ ys) x all h =
      let go : (b : Bool) → cond b (Some y) (find test ys) ≡ Some x → P x =
      λ b. elim b as (λ b. cond b (Some y) (find test ys) ≡ Some x → P x) [
        | true ↦ λ e. let one : y ≡ x = cc in subst P one all.0
        | false ↦ λ e. found_by_recursion P ys x all.1 e
      ] in
      go (test y) h

  -- what holds of all holds of the one that is found
  pub found_has : (P : T → Type 0) (xs : List T) (x : T) → All P xs → find test xs ≡ Some x → P x
  found_has P xs x all h = found_by_recursion P xs x (recursion_from_All P xs all) h

  -- where one passes, one is found
  pub any_found : (xs : List T) → list_any test xs ≡ true → (x : T) × (find test xs ≡ Some x)
  any_found [] h = absurd (let bad : false ≡ true = h in cc)
  any_found (y ∷ ys) h =
      let go : (b : Bool) → test y ≡ b → (b || list_any test ys) ≡ true → (x : T) × (cond b (Some y) (find test ys) ≡ Some x) =
      λ b. elim b as (λ b. test y ≡ b → (b || list_any test ys) ≡ true → (x : T) × (cond b (Some y) (find test ys) ≡ Some x)) [
        | true ↦ λ e k. (y, refl)
        | false ↦ λ e k. any_found ys k
      ] in
      go (test y) refl h

has_version : (bundle : Bundle) → HasOneVersion bundle → IsSome (version_in bundle)
has_version bundle one =
    subst (λ (texts : List (List ℕ)). IsSome (option_and_then version_of (slice_get texts 0))) (sym one.1) one.2

named_version : (bundles : List Bundle) (owner name : List ℕ) → All HasOneVersion bundles
    → list_any (λ bundle. is_bundle_of owner bundle && same bundle.name name) bundles ≡ true → IsSome (version_named bundles owner name)
unfolding version_named
named_version bundles owner name all h =
    let found = any_found (λ (bundle : Bundle). is_bundle_of owner bundle && same bundle.name name) bundles h in
    let one : HasOneVersion found.0 = found_has (λ (bundle : Bundle). is_bundle_of owner bundle && same bundle.name name) HasOneVersion bundles found.0 all found.1 in
    subst (λ (o : Option Bundle). IsSome (option_and_then version_in o)) (sym found.1) (has_version found.0 one)

-- what a channel's entries have in such a catalog
pub record Usable (bundles : List Bundle) (channel : Channel) : Type 0 where
  pub versions : HasVersions bundles channel.«package» channel.entries
  pub ranges : All (λ entry. option_map_or is_range entry.skip_range true ≡ true) channel.entries

usable_by : (bundles : List Bundle) (channel : Channel) → All HasOneVersion bundles → All (IsBundleOf bundles channel.«package») channel.entries → Usable bundles channel
usable_by bundles channel all entries = record {
  versions = λ k d below. named_version bundles channel.«package» _ all (entries k d below).0;
  ranges = λ k d below. (entries k d below).1;
}

pub usable : BundlesAreRead → EntriesAreBundles → (checked catalog : Catalog) (channels : List Channel) (bundles : List Bundle) (channel : Channel) (owner name : List ℕ)
    → broken checked ≡ [] → catalog ≡ checked → channels ≡ catalog.channels → bundles ≡ catalog.bundles → Some channel ≡ channel_named channels owner name → Usable bundles channel
usable read listed checked catalog channels bundles channel owner name valid same_catalog same_channels same_bundles found =
    let channels' : channels ≡ checked.channels = same_channels ∙ ap (λ (c : Catalog). c.channels) same_catalog in
    let bundles' : bundles ≡ checked.bundles = same_bundles ∙ ap (λ (c : Catalog). c.bundles) same_catalog in
    let found' : channel_named checked.channels owner name ≡ Some channel = ap (λ list. channel_named list owner name) (sym channels') ∙ sym found in
    let all : All HasOneVersion checked.bundles = λ k d below. (read checked valid k d below).0 in
    let entries = found_has _ (λ (c : Channel). (has_name_twice c.entries ≡ false) × All (IsBundleOf checked.bundles c.«package») c.entries) checked.channels channel (listed checked valid) found' in
    subst (λ (list : List Bundle). Usable list channel) (sym bundles') (usable_by checked.bundles channel all entries.1)
