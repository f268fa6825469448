-- What the order and the upgrades have, for every catalog that breaks no rule.
use Rattle.std.specs.Prelude.{◌≡◌, ◌≢◌, ◌<◌, ⊤, ℕ, true, List, [], ◌∷◌, ◌++◌, length, Some, get_or}
use Rattle.std.specs.List.{All}
use Rattle.std.specs.List.Sorted.{IsPermutation, IsSortedBy}
use Rattle.semver.specs.Parse.{Parts}
use Rattle.fbc_types.specs.Texts.{is_among}
use Rattle.fbc_types.specs.Channels.{chain, has_name, heads, replaces}
use Rattle.fbc_types.specs.Laws.{IsValid}
use Rattle.fbc_types.specs.declared.catalog.Catalog.{Catalog}
use Rattle.fbc_types.specs.declared.catalog.Channel.{Channel}
use Rattle.fbc_types.specs.declared.catalog.Entry.{Entry}
use Rattle.upgrade_graph.specs.Order.{in_order, is_before, main_chain, off_chain, order}
use Rattle.upgrade_graph.specs.Upgrades.{upgrades}

-- The order has each entry of the channel once.
abbrev pub OrdersListAll : Type 0
OrdersListAll =
    (catalog : Catalog) → IsValid catalog →
    All (λ channel. IsPermutation channel.entries (in_order catalog.bundles channel)) catalog.channels

-- It begins with the channel's one head.
abbrev pub HeadsComeFirst : Type 0
HeadsComeFirst =
    (catalog : Catalog) → IsValid catalog →
    All
    (λ channel.
    (head : Entry) × (rest : List Entry) × (heads channel.entries ≡ head ∷ [])
    × (in_order catalog.bundles channel ≡ head ∷ rest))
    catalog.channels

-- Of two entries on the head's chain, one of which replaces the other, the replacing one comes first.
abbrev pub IsForward : Channel → List Entry → Type 0
IsForward channel entries =
    (head : Entry) (i j : ℕ) (d : Entry) → heads channel.entries ≡ head ∷ [] → i < length entries → j < length entries
    → has_name (get_or entries i d).name (chain channel.entries head) ≡ true
    → has_name (get_or entries j d).name (chain channel.entries head) ≡ true
    → replaces (get_or entries j d).name (get_or entries i d) ≡ true → i < j

abbrev pub ReplacingComesFirst : Type 0
ReplacingComesFirst =
    (catalog : Catalog) → IsValid catalog → All (λ channel. IsForward channel (in_order catalog.bundles channel)) catalog.channels

-- Behind the chain stand the others: just these, none of them behind one that it has to come before.
abbrev pub OthersAreSorted : Type 0
OthersAreSorted =
    (catalog : Catalog) (channel : Channel) →
    (others : List Entry) × (in_order catalog.bundles channel ≡ main_chain channel.entries ++ others)
    × IsPermutation (off_chain channel.entries) others
    × IsSortedBy (is_before catalog.bundles channel.«package») others

-- The name stands in the order, before every place at which the other one stands.
abbrev pub StandsBefore : List (List ℕ) → List ℕ → List ℕ → Type 0
StandsBefore names name other =
    (k : ℕ) × (k < length names) × (get_or names k [] ≡ name)
    × ((j : ℕ) → j < length names → get_or names j [] ≡ other → k < j)

-- Every upgrade is an entry of the channel, and stands before the installed one where that is in the channel.
abbrev pub UpgradesStandBefore : Type 0
UpgradesStandBefore =
    (catalog : Catalog) (owner channel from upgrade : List ℕ) (version : Parts) (names : List (List ℕ))
    → order catalog owner channel ≡ Some names → is_among upgrade (upgrades catalog owner channel from version) ≡ true
    → StandsBefore names upgrade from

-- Each name on the path is an upgrade from the one before it, at some version of that one.
abbrev pub IsUpgradePath : Catalog → List ℕ → List ℕ → List (List ℕ) → Type 0
IsUpgradePath catalog owner channel [] = ⊤
IsUpgradePath catalog owner channel (from ∷ []) = ⊤
IsUpgradePath catalog owner channel (from ∷ next ∷ path) =
    ((version : Parts) × (is_among next (upgrades catalog owner channel from version) ≡ true))
    × IsUpgradePath catalog owner channel (next ∷ path)

-- A path of upgrades never comes back to a name.
abbrev pub UpgradesNeverComeBack : Type 0
UpgradesNeverComeBack =
    (catalog : Catalog) (owner channel : List ℕ) (path : List (List ℕ)) (i j : ℕ) → IsUpgradePath catalog owner channel path
    → i < j → j < length path → get_or path i [] ≢ get_or path j []
