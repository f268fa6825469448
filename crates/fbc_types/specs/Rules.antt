-- The rules that a catalog must keep. Each is the list of its breaks, by the blobs in their order, and in a blob by
-- its entries in their order.
use Rattle.std.specs.Prelude.{ℕ, ◌==◌, ◌&&◌, Bool, false, not, nat_le, if◌then◌else◌, List, [], ◌∷◌, ◌++◌, length, Some, None}
use Rattle.std.specs.List.{flat_map, list_any}
use Rattle.std.specs.Option.{option_map_or}
use Rattle.fbc_types.specs.Texts.{same, is_range, is_bad_property, own_versions}
use Rattle.fbc_types.specs.Channels.{heads, chain, has_name, has_name_twice, is_reached}
use Rattle.fbc_types.specs.declared.catalog.Catalog.{Catalog}
use Rattle.fbc_types.specs.declared.catalog.Package.{Package}
use Rattle.fbc_types.specs.declared.catalog.Channel.{Channel}
use Rattle.fbc_types.specs.declared.catalog.Entry.{Entry}
use Rattle.fbc_types.specs.declared.catalog.Bundle.{Bundle}
use Rattle.fbc_types.specs.declared.fault.CheckFault.{CheckFault}

-- What a fault names: a package, a channel, an entry of a channel, or a bundle.
abbrev pub of_package : ℕ → Package → CheckFault
of_package rule blob = record { rule = rule; «package» = blob.name; channel = None; item = None }

abbrev pub of_channel : ℕ → Channel → CheckFault
of_channel rule blob = record { rule = rule; «package» = blob.«package»; channel = Some blob.name; item = None }

abbrev pub of_entry : ℕ → Channel → Entry → CheckFault
of_entry rule blob entry =
    record { rule = rule; «package» = blob.«package»; channel = Some blob.name; item = Some entry.name }

abbrev pub of_bundle : ℕ → Bundle → CheckFault
of_bundle rule blob = record { rule = rule; «package» = blob.«package»; channel = None; item = Some blob.name }

-- The fault, where the rule is broken.
abbrev pub where_broken : Bool → CheckFault → List CheckFault
where_broken is_broken fault = if is_broken then fault ∷ [] else []

-- What is said of each item, given those before it.
abbrev pub by_earlier : {T : Type 0} → (List T → T → List CheckFault) → List T → List T → List CheckFault
by_earlier report earlier [] = []
by_earlier report earlier (item ∷ items) = report earlier item ++ by_earlier report (earlier ++ item ∷ []) items

-- The channel, or the bundle, is of the package of this name.
abbrev pub is_channel_of : List ℕ → Channel → Bool
is_channel_of name blob = same blob.«package» name

abbrev pub is_bundle_of : List ℕ → Bundle → Bool
is_bundle_of name blob = same blob.«package» name

-- A package blob whose name an earlier one has.
abbrev pub repeated_package : List Package → Package → List CheckFault
repeated_package earlier blob =
    where_broken (list_any (λ other. same other.name blob.name) earlier) (of_package 1 blob)

-- A channel blob whose package and name an earlier one has.
abbrev pub repeated_channel : List Channel → Channel → List CheckFault
repeated_channel earlier blob =
    where_broken (list_any (λ other. is_channel_of blob.«package» other && same other.name blob.name) earlier) (of_channel 2 blob)

-- A bundle blob whose package and name an earlier one has.
abbrev pub repeated_bundle : List Bundle → Bundle → List CheckFault
repeated_bundle earlier blob =
    where_broken (list_any (λ other. is_bundle_of blob.«package» other && same other.name blob.name) earlier) (of_bundle 3 blob)

-- An entry whose name an earlier entry of its channel has.
abbrev pub repeated_entry : Channel → List Entry → Entry → List CheckFault
repeated_entry blob earlier entry = where_broken (has_name entry.name earlier) (of_entry 4 blob entry)

-- A package without a channel.
abbrev pub no_channel : List Channel → Package → List CheckFault
no_channel channels blob = where_broken (not (list_any (is_channel_of blob.name) channels)) (of_package 5 blob)

-- A package with channels, none of them its default channel.
abbrev pub no_default : List Channel → Package → List CheckFault
no_default channels blob =
    where_broken
    (list_any (is_channel_of blob.name) channels
    && not (list_any (λ channel. is_channel_of blob.name channel && same channel.name blob.default_channel) channels))
    (of_package 6 blob)

-- An entry without a bundle of its name in the package.
abbrev pub no_bundle : List Bundle → Channel → Entry → List CheckFault
no_bundle bundles blob entry =
    where_broken (not (list_any (λ bundle. is_bundle_of blob.«package» bundle && same bundle.name entry.name) bundles))
    (of_entry 7 blob entry)

-- A bundle that is in no channel of its package.
abbrev pub no_entry : List Channel → Bundle → List CheckFault
no_entry channels blob =
    where_broken (not (list_any (λ channel. is_channel_of blob.«package» channel && has_name blob.name channel.entries) channels))
    (of_bundle 8 blob)

-- A channel without a head.
abbrev pub no_head : Channel → List CheckFault
no_head blob = where_broken (length (heads blob.entries) == 0) (of_channel 9 blob)

-- A channel with two heads or more.
abbrev pub many_heads : Channel → List CheckFault
many_heads blob = where_broken (nat_le 2 (length (heads blob.entries))) (of_channel 10 blob)

-- What is said of a channel with one head, by that head.
abbrev pub by_head : (Entry → List CheckFault) → List Entry → List CheckFault
by_head report [] = []
by_head report (head ∷ []) = report head
by_head report (head ∷ other ∷ others) = []

-- A channel with one head, where following `replaces` from it meets a name twice.
abbrev pub circle : Channel → List CheckFault
circle blob = by_head (λ head. where_broken (has_name_twice (chain blob.entries head)) (of_channel 11 blob)) (heads blob.entries)

-- An entry that is neither on the chain nor skipped, in a channel with one head and no circle.
abbrev pub stranded_entry : Channel → Entry → Entry → List CheckFault
stranded_entry blob head entry = where_broken (not (is_reached blob.entries head entry)) (of_entry 12 blob entry)

abbrev pub stranded : Channel → List CheckFault
stranded blob =
    by_head
    (λ head. if has_name_twice (chain blob.entries head) then [] else flat_map (stranded_entry blob head) blob.entries)
    (heads blob.entries)

-- A bundle without exactly one property that gives a version of its own package.
abbrev pub not_one_version : Bundle → List CheckFault
not_one_version blob = where_broken (not (length (own_versions blob) == 1)) (of_bundle 13 blob)

-- An entry whose `skipRange` is no range.
abbrev pub bad_entry : Channel → Entry → List CheckFault
bad_entry blob entry = where_broken (option_map_or (λ text. not (is_range text)) entry.skip_range false) (of_entry 14 blob entry)

-- A bundle with a version that is none or a range that is none, in any property or constraint; it is named once.
abbrev pub bad_bundle : Bundle → List CheckFault
bad_bundle blob = where_broken (list_any is_bad_property blob.properties) (of_bundle 14 blob)

abbrev pub has_package : List Package → List ℕ → Bool
has_package packages name = list_any (λ blob. same blob.name name) packages

-- A channel or a bundle whose package has no package blob.
abbrev pub lost_channel : List Package → Channel → List CheckFault
lost_channel packages blob = where_broken (not (has_package packages blob.«package»)) (of_channel 15 blob)

abbrev pub lost_bundle : List Package → Bundle → List CheckFault
lost_bundle packages blob = where_broken (not (has_package packages blob.«package»)) (of_bundle 15 blob)

-- What is said of each entry of a channel, and of each entry of each channel.
abbrev pub by_entries : (Channel → Entry → List CheckFault) → List Channel → List CheckFault
by_entries report channels = flat_map (λ channel. flat_map (report channel) channel.entries) channels

-- Every broken rule: by rule, and of one rule the channels and their entries before the bundles.
unfoldable pub broken : Catalog → List CheckFault
broken catalog =
    by_earlier repeated_package [] catalog.packages
    ++ (by_earlier repeated_channel [] catalog.channels
    ++ (by_earlier repeated_bundle [] catalog.bundles
    ++ (flat_map (λ channel. by_earlier (repeated_entry channel) [] channel.entries) catalog.channels
    ++ (flat_map (no_channel catalog.channels) catalog.packages
    ++ (flat_map (no_default catalog.channels) catalog.packages
    ++ (by_entries (no_bundle catalog.bundles) catalog.channels
    ++ (flat_map (no_entry catalog.channels) catalog.bundles
    ++ (flat_map no_head catalog.channels
    ++ (flat_map many_heads catalog.channels
    ++ (flat_map circle catalog.channels
    ++ (flat_map stranded catalog.channels
    ++ (flat_map not_one_version catalog.bundles
    ++ ((by_entries bad_entry catalog.channels ++ flat_map bad_bundle catalog.bundles)
    ++ (flat_map (lost_channel catalog.packages) catalog.channels ++ flat_map (lost_bundle catalog.packages) catalog.bundles))))))))))))))
