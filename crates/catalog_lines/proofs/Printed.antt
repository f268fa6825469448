-- The lines of a channel, by the entries that were looked up.
use Rattle.std.proofs.Common.{◌≡◌, ℕ, Bool, true, false, List, [], ◌∷◌, ◌++◌, Option, None, Some, refl, sym, ap, ◌∙◌, cond, map}
use Rattle.std.specs.Prelude.{codes}
use Rattle.std.specs.List.{flat_map}
use Rattle.std.specs.Option.{option_and_then, option_map, option_map_or, unwrap_or}
use Rattle.std.proofs.lemmas.List.Folds.{flat_map-map}
use Rattle.semver.specs.Parse.{Parts}
use Rattle.version_ranges.specs.Words.{version_of}
use Rattle.fbc_types.specs.Texts.{is_among, own_version, version_in}
use Rattle.fbc_types.specs.declared.catalog.Bundle.{Bundle}
use Rattle.fbc_types.specs.declared.catalog.Catalog.{Catalog}
use Rattle.fbc_types.specs.declared.catalog.Entry.{Entry}
use Rattle.upgrade_graph.specs.Order.{bundle_named, names, ordered, version_named}
use Rattle.upgrade_graph.specs.Upgrades.{upgrades, upgrades_among}
use Rattle.upgrade_graph.proofs.Placing.{order_is, upgrades_are}
use Rattle.catalog_lines.specs.Lines.{channel_lines, entry_line, entry_lines, sources, upgrades_from, version_text}
use Rattle.catalog_lines.specs.Nodes.{node, node_line, source_word, upgrades_at}

flat_map_same : {X A : Type 0} (f g : X → List A) → ((x : X) → f x ≡ g x) → (xs : List X) → flat_map f xs ≡ flat_map g xs
flat_map_same f g same [] = refl
flat_map_same f g same (x ∷ xs) = ap (λ front. front ++ flat_map f xs) (same x) ∙ ap (λ rest. g x ++ rest) (flat_map_same f g same xs)

kept_word : (b : Bool) (other : List ℕ) (others : List (List ℕ)) → flat_map (λ (name : List ℕ). codes " " ++ name) (cond b (other ∷ others) others) ≡ cond b (codes " " ++ other) [] ++ flat_map (λ (name : List ℕ). codes " " ++ name) others
kept_word true other others = refl
kept_word false other others = refl

module _ (catalog : Catalog) (owner channel : List ℕ) (bundle_of : List ℕ → Option Bundle) (entries : List Entry)
    (bundles : (name : List ℕ) → bundle_of name ≡ bundle_named catalog.bundles owner name) (found : Some entries ≡ ordered catalog owner channel) where
  by_entries : (name : List ℕ) (version : Parts) → names (upgrades_among entries name version) ≡ upgrades catalog owner channel name version
  by_entries name version =
      ap (λ found. option_map_or (λ entries. names (upgrades_among entries name version)) found []) found ∙ sym (upgrades_are catalog owner channel name version)

  by_version : (name : List ℕ) (version : Option Parts) → option_map_or (λ version. names (upgrades_among entries name version)) version [] ≡ option_map_or (upgrades catalog owner channel name) version []
  by_version name None = refl
  by_version name (Some version) = by_entries name version

  by_text : (name : List ℕ) (text : Option (List ℕ)) → option_map_or (upgrades_at entries name) text [] ≡ option_map_or (upgrades catalog owner channel name) (option_and_then version_of text) []
  by_text name None = refl
  by_text name (Some text) = by_version name (version_of text)

  by_bundle : (name : List ℕ) (bundle : Option Bundle) → option_map_or (upgrades_at entries name) (option_and_then own_version bundle) [] ≡ option_map_or (upgrades catalog owner channel name) (option_and_then version_in bundle) []
  by_bundle name None = refl
  by_bundle name (Some bundle) = by_text name (own_version bundle)

  -- the version of an entry that was looked up
  node_version : (name : List ℕ) → (node bundle_of entries name).version ≡ version_text catalog owner name
  node_version name = ap (λ bundle. unwrap_or (option_and_then own_version bundle) []) (bundles name)

  -- its upgrades
  node_upgrades : (name : List ℕ) → (node bundle_of entries name).upgrades ≡ upgrades_from catalog owner channel name
  unfolding version_named
  node_upgrades name =
      ap (λ bundle. option_map_or (upgrades_at entries name) (option_and_then own_version bundle) []) (bundles name)
      ∙ by_bundle name (bundle_named catalog.bundles owner name)

  source_words : (name : List ℕ) (all : List (List ℕ)) → flat_map (λ other. source_word name (node bundle_of entries other)) all ≡ flat_map (λ (other : List ℕ). codes " " ++ other) (sources catalog owner channel all name)
  source_words name [] = refl
  source_words name (other ∷ others) =
      ap (λ (ways : List (List ℕ)). cond (is_among name ways) (codes " " ++ other) [] ++ flat_map (λ from. source_word name (node bundle_of entries from)) others) (node_upgrades other)
      ∙ ap (λ rest. cond (is_among name (upgrades_from catalog owner channel other)) (codes " " ++ other) [] ++ rest) (source_words name others)
      ∙ sym (kept_word (is_among name (upgrades_from catalog owner channel other)) other (sources catalog owner channel others name))

  node_line_is : (all : List (List ℕ)) (name : List ℕ) → node_line (map (node bundle_of entries) all) (node bundle_of entries name) ≡ entry_line catalog owner channel all name
  node_line_is all name =
      ap (λ words. name ++ codes " " ++ (node bundle_of entries name).version ++ codes " <-" ++ words ++ codes "\n")
      (flat_map-map (source_word name) (node bundle_of entries) all ∙ source_words name all)
      ∙ ap (λ version. name ++ codes " " ++ version ++ codes " <-" ++ flat_map (λ (other : List ℕ). codes " " ++ other) (sources catalog owner channel all name) ++ codes "\n") (node_version name)

  node_lines_are : (all : List (List ℕ)) → flat_map (node_line (map (node bundle_of entries) all)) (map (node bundle_of entries) all) ≡ entry_lines catalog owner channel all
  node_lines_are all =
      flat_map-map (node_line (map (node bundle_of entries) all)) (node bundle_of entries) all
      ∙ flat_map_same (λ name. node_line (map (node bundle_of entries) all) (node bundle_of entries name)) (entry_line catalog owner channel all) (node_line_is all) all

  -- the lines of the channel, by the entries in their order
  pub lines_are : (all : List (List ℕ)) → all ≡ names entries → Some (flat_map (node_line (map (node bundle_of entries) all)) (map (node bundle_of entries) all)) ≡ channel_lines catalog owner channel
  lines_are all named =
      ap Some (node_lines_are all ∙ ap (entry_lines catalog owner channel) named)
      ∙ ap (λ found. option_map (entry_lines catalog owner channel) (option_map names found)) found
      ∙ ap (option_map (entry_lines catalog owner channel)) (sym (order_is catalog owner channel))
