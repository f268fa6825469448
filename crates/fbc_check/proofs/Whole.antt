-- Groups of faults, one behind the other.
use Rattle.std.proofs.Common.{◌≡◌, List, [], ◌++◌, ap, ◌∙◌, append_assoc}
use Rattle.std.specs.List.{flat_map}
use Rattle.fbc_types.specs.Rules.{broken, by_earlier, by_entries, repeated_package, repeated_channel, repeated_bundle, repeated_entry, no_channel, no_default, no_bundle, no_entry, no_head, many_heads, circle, stranded, not_one_version, bad_entry, bad_bundle, lost_channel, lost_bundle}
use Rattle.fbc_types.specs.declared.catalog.Catalog.{Catalog}
use Rattle.fbc_types.specs.declared.fault.CheckFault.{CheckFault}

three_then : {F : Type 0} → (a b c rest : List F) → (a ++ (b ++ c)) ++ rest ≡ a ++ (b ++ (c ++ rest))
three_then a b c rest = append_assoc a (b ++ c) rest ∙ ap (λ w. a ++ w) (append_assoc b c rest)

four_then : {F : Type 0} → (a b c d rest : List F) → (a ++ (b ++ (c ++ d))) ++ rest ≡ a ++ (b ++ (c ++ (d ++ rest)))
four_then a b c d rest = append_assoc a (b ++ (c ++ d)) rest ∙ ap (λ w. a ++ w) (three_then b c d rest)

-- groups behind one another are the groups in a row
in_a_row : {F : Type 0} → (a b c d e : List F) → (((a ++ b) ++ c) ++ d) ++ e ≡ a ++ (b ++ (c ++ (d ++ e)))
in_a_row a b c d e =
    append_assoc ((a ++ b) ++ c) d e ∙ append_assoc (a ++ b) c (d ++ e) ∙ append_assoc a b (c ++ (d ++ e))

abbrev repeated : Catalog → List CheckFault
repeated catalog =
    by_earlier repeated_package [] catalog.packages
    ++ (by_earlier repeated_channel [] catalog.channels
    ++ (by_earlier repeated_bundle [] catalog.bundles
    ++ flat_map (λ channel. by_earlier (repeated_entry channel) [] channel.entries) catalog.channels))

abbrev missing : Catalog → List CheckFault
missing catalog =
    flat_map (no_channel catalog.channels) catalog.packages
    ++ (flat_map (no_default catalog.channels) catalog.packages
    ++ (by_entries (no_bundle catalog.bundles) catalog.channels ++ flat_map (no_entry catalog.channels) catalog.bundles))

abbrev chains : Catalog → List CheckFault
chains catalog =
    flat_map no_head catalog.channels
    ++ (flat_map many_heads catalog.channels ++ (flat_map circle catalog.channels ++ flat_map stranded catalog.channels))

abbrev texts : Catalog → List CheckFault
texts catalog =
    flat_map not_one_version catalog.bundles
    ++ (by_entries bad_entry catalog.channels ++ flat_map bad_bundle catalog.bundles)

abbrev lost : Catalog → List CheckFault
lost catalog =
    flat_map (lost_channel catalog.packages) catalog.channels ++ flat_map (lost_bundle catalog.packages) catalog.bundles

in_groups : (catalog : Catalog) → (((repeated catalog ++ missing catalog) ++ chains catalog) ++ texts catalog) ++ lost catalog ≡ broken catalog
unfolding broken
in_groups catalog =
    in_a_row (repeated catalog) (missing catalog) (chains catalog) (texts catalog) (lost catalog)
    ∙ four_then (by_earlier repeated_package [] catalog.packages) (by_earlier repeated_channel [] catalog.channels) (by_earlier repeated_bundle [] catalog.bundles) (flat_map (λ channel. by_earlier (repeated_entry channel) [] channel.entries) catalog.channels) (missing catalog ++ (chains catalog ++ (texts catalog ++ lost catalog)))
    ∙ ap (λ w. by_earlier repeated_package [] catalog.packages ++ (by_earlier repeated_channel [] catalog.channels ++ (by_earlier repeated_bundle [] catalog.bundles ++ (flat_map (λ channel. by_earlier (repeated_entry channel) [] channel.entries) catalog.channels ++ w))))
    (four_then (flat_map (no_channel catalog.channels) catalog.packages) (flat_map (no_default catalog.channels) catalog.packages) (by_entries (no_bundle catalog.bundles) catalog.channels) (flat_map (no_entry catalog.channels) catalog.bundles) (chains catalog ++ (texts catalog ++ lost catalog))
    ∙ ap (λ w. flat_map (no_channel catalog.channels) catalog.packages ++ (flat_map (no_default catalog.channels) catalog.packages ++ (by_entries (no_bundle catalog.bundles) catalog.channels ++ (flat_map (no_entry catalog.channels) catalog.bundles ++ w))))
    (four_then (flat_map no_head catalog.channels) (flat_map many_heads catalog.channels) (flat_map circle catalog.channels) (flat_map stranded catalog.channels) (texts catalog ++ lost catalog)
    ∙ ap (λ w. flat_map no_head catalog.channels ++ (flat_map many_heads catalog.channels ++ (flat_map circle catalog.channels ++ (flat_map stranded catalog.channels ++ w))))
    (append_assoc (flat_map not_one_version catalog.bundles) (by_entries bad_entry catalog.channels ++ flat_map bad_bundle catalog.bundles) (lost catalog))))

-- the groups of faults together are those of the broken rules
pub broken_is : (catalog : Catalog) (f₀ f₁ f₂ f₃ f₄ f₅ : List CheckFault) → f₀ ≡ [] → f₁ ≡ f₀ ++ repeated catalog → f₂ ≡ f₁ ++ missing catalog → f₃ ≡ f₂ ++ chains catalog → f₄ ≡ f₃ ++ texts catalog → f₅ ≡ f₄ ++ lost catalog → f₅ ≡ broken catalog
broken_is catalog f₀ f₁ f₂ f₃ f₄ f₅ e₀ e₁ e₂ e₃ e₄ e₅ =
    e₅ ∙ ap (λ w. w ++ lost catalog) (e₄ ∙ ap (λ w. w ++ texts catalog) (e₃ ∙ ap (λ w. w ++ chains catalog) (e₂ ∙ ap (λ w. w ++ missing catalog) (e₁ ∙ ap (λ w. w ++ repeated catalog) e₀))))
    ∙ in_groups catalog
