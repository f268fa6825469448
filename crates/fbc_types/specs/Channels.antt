-- Heads of a channel, and the chain that follows `replaces` from one.
use Rattle.std.specs.Prelude.{ℕ, zero, suc, ◌||◌, Bool, false, not, List, [], ◌∷◌, filter, length, Option, Some, None}
use Rattle.std.specs.List.{find, list_any}
use Rattle.std.specs.Option.{option_and_then, option_map_or}
use Rattle.fbc_types.specs.Texts.{same, is_among}
use Rattle.fbc_types.specs.declared.catalog.Entry.{Entry}

-- The entry replaces the bundle of this name.
abbrev pub replaces : List ℕ → Entry → Bool
replaces name entry = option_map_or (λ replaced. same replaced name) entry.replaces false

-- The entry skips the bundle of this name.
abbrev pub skips : List ℕ → Entry → Bool
skips name entry = is_among name entry.skips

abbrev pub takes_over : List ℕ → Entry → Bool
takes_over name entry = replaces name entry || skips name entry

-- A head is an entry that no entry of the channel, itself included, replaces or skips.
abbrev pub is_head : List Entry → Entry → Bool
is_head entries entry = not (list_any (takes_over entry.name) entries)

abbrev pub heads : List Entry → List Entry
heads entries = filter (is_head entries) entries

-- The first entry of this name.
abbrev pub entry_named : List Entry → List ℕ → Option Entry
entry_named entries name = find (λ entry. same entry.name name) entries

-- The next entry on the chain: the first one of the name that this one replaces, where the channel has such.
abbrev pub replaced_by : List Entry → Entry → Option Entry
replaced_by entries entry = option_and_then (entry_named entries) entry.replaces

-- The entries that are met by following `replaces`, in so many steps at most.
abbrev pub chain_from : ℕ → List Entry → Option Entry → List Entry
chain_from zero entries at = []
chain_from (suc steps) entries None = []
chain_from (suc steps) entries (Some entry) = entry ∷ chain_from steps entries (replaced_by entries entry)

-- The chain of a head, which is one of the entries. A channel has no more names than entries, so in one step more
-- than there are entries the chain has ended, or a name was met twice.
unfoldable pub chain : List Entry → Entry → List Entry
chain entries head = chain_from (suc (length entries)) entries (Some head)

-- Some entry has the name of a later one.
abbrev pub has_name_twice : List Entry → Bool
has_name_twice [] = false
has_name_twice (entry ∷ entries) = list_any (λ other. same entry.name other.name) entries || has_name_twice entries

-- Some entry of these has this name.
abbrev pub has_name : List ℕ → List Entry → Bool
has_name name entries = list_any (λ entry. same entry.name name) entries

-- The entry's name is on the chain, or some entry of the channel, itself included, skips it.
abbrev pub is_reached : List Entry → Entry → Entry → Bool
is_reached entries head entry = has_name entry.name (chain entries head) || list_any (skips entry.name) entries
