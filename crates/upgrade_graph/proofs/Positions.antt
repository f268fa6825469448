-- Upgrades stand before what they upgrade.
use Rattle.std.proofs.Common.{◌≡◌, ◌≢◌, ◌+◌, ◌<◌, ◌≤◌, ◌||◌, ℕ, zero, suc, Bool, true, false, not, if◌then◌else◌, cond, List, [], ◌∷◌, length, get_or, take, Option, Some, None, refl, ap, subst, arith}
use Rattle.std.specs.Cmp.Lexicographic.{bytes_decides}
use Rattle.std.specs.List.{filter, list_any, prefix_len}
use Rattle.std.specs.Option.{option_map, option_map_or}
use Rattle.semver.specs.Parse.{Parts}
use Rattle.fbc_types.specs.Texts.{is_among, same}
use Rattle.fbc_types.specs.declared.catalog.Catalog.{Catalog}
use Rattle.fbc_types.specs.declared.catalog.Channel.{Channel}
use Rattle.fbc_types.specs.declared.catalog.Entry.{Entry}
use Rattle.upgrade_graph.specs.Laws.{IsUpgradePath, StandsBefore, UpgradesNeverComeBack, UpgradesStandBefore}
use Rattle.upgrade_graph.specs.Order.{channel_named, in_order, names}
use Rattle.upgrade_graph.specs.Upgrades.{entries_before, takes_place, upgrades_among}

abbrev is_other : List ℕ → Entry → Bool
is_other name entry = not (same entry.name name)

-- the first place of a name, or the length
pub place : List ℕ → List Entry → ℕ
place name entries = prefix_len (is_other name) entries

-- a name among those before another one's place stands before it
place_below : (name other : List ℕ) (entries : List Entry) → list_any (λ entry. same entry.name name) (take (prefix_len (is_other other) entries) entries) ≡ true → place name entries < place other entries
unfolding place
place_below name other [] h = absurd (let bad : false ≡ true = h in cc)
place_below name other (entry ∷ entries) h =
    let more : 1 + prefix_len (is_other other) entries ≡ suc (prefix_len (is_other other) entries) = omega arith in
    let step : (a b : Bool)
    → list_any (λ entry. same entry.name name) (take (cond (not b) (suc (prefix_len (is_other other) entries)) 0) (entry ∷ entries)) ≡ true
    → same entry.name name ≡ a
    → cond (not a) (1 + prefix_len (is_other name) entries) 0 < cond (not b) (1 + prefix_len (is_other other) entries) 0 =
    λ a b. elim b as (λ b. list_any (λ entry. same entry.name name) (take (cond (not b) (suc (prefix_len (is_other other) entries)) 0) (entry ∷ entries)) ≡ true
    → same entry.name name ≡ a
    → cond (not a) (1 + prefix_len (is_other name) entries) 0 < cond (not b) (1 + prefix_len (is_other other) entries) 0) [
      | true ↦ λ k e. absurd (let bad : false ≡ true = k in cc)
      | false ↦ elim a as (λ a. (same entry.name name || list_any (λ entry. same entry.name name) (take (prefix_len (is_other other) entries) entries)) ≡ true
          → same entry.name name ≡ a
          → cond (not a) (1 + prefix_len (is_other name) entries) 0 < 1 + prefix_len (is_other other) entries) [
            | true ↦ λ k e. omega arith
            | false ↦ λ k e. let below = place_below name other entries (rw e at k) in
                let below' : prefix_len (is_other name) entries < prefix_len (is_other other) entries = below in
                omega (arith, below')
          ]
    ] in
    step (same entry.name name) (same entry.name other)
    (subst (λ n. list_any (λ entry. same entry.name name) (take (cond (not (same entry.name other)) n 0) (entry ∷ entries)) ≡ true) more h) refl

-- a name among the names of kept entries is the name of an entry
kept_named : (keep : Entry → Bool) (name : List ℕ) (entries : List Entry) → is_among name (names (filter keep entries)) ≡ true → list_any (λ entry. same entry.name name) entries ≡ true
kept_named keep name [] h = h
kept_named keep name (entry ∷ entries) h =
    let go : (a b : Bool) → same entry.name name ≡ a → is_among name (names (if b then entry ∷ filter keep entries else filter keep entries)) ≡ true → (a || list_any (λ entry. same entry.name name) entries) ≡ true =
    λ a b. elim a as (λ a. same entry.name name ≡ a → is_among name (names (if b then entry ∷ filter keep entries else filter keep entries)) ≡ true → (a || list_any (λ entry. same entry.name name) entries) ≡ true) [
      | true ↦ λ e k. refl
      | false ↦ λ e. elim b as (λ b. is_among name (names (if b then entry ∷ filter keep entries else filter keep entries)) ≡ true → list_any (λ entry. same entry.name name) entries ≡ true) [
        | true ↦ λ k. kept_named keep name entries (rw e at k)
        | false ↦ λ k. kept_named keep name entries k
      ]
    ] in
    go (same entry.name name) (keep entry) refl h

pub upgrade_below : (entries : List Entry) (from upgrade : List ℕ) (version : Parts) → is_among upgrade (names (upgrades_among entries from version)) ≡ true → place upgrade entries < place from entries
upgrade_below entries from upgrade version h =
    place_below upgrade from entries (kept_named (takes_place from version) upgrade (entries_before from entries) h)

place_within : (name : List ℕ) (entries : List Entry) → place name entries ≤ length entries
unfolding place
place_within name [] = omega arith
place_within name (entry ∷ entries) =
    let rest : prefix_len (is_other name) entries ≤ length entries = place_within name entries in
    let go : (b : Bool) → cond b (1 + prefix_len (is_other name) entries) 0 ≤ suc (length entries) =
    λ b. elim b as (λ b. cond b (1 + prefix_len (is_other name) entries) 0 ≤ suc (length entries)) [ true ↦ omega (arith, rest) | false ↦ omega arith ] in
    go (is_other name entry)

-- at its place stands the name
place_has : (name : List ℕ) (entries : List Entry) → place name entries < length entries → get_or (names entries) (place name entries) [] ≡ name
unfolding place
place_has name [] h = absurd (omega (arith, h))
place_has name (entry ∷ entries) h =
    let go : (b : Bool) → same entry.name name ≡ b → cond (not b) (1 + prefix_len (is_other name) entries) 0 < suc (length entries)
    → get_or (entry.name ∷ names entries) (cond (not b) (1 + prefix_len (is_other name) entries) 0) [] ≡ name =
    λ b. elim b as (λ b. same entry.name name ≡ b → cond (not b) (1 + prefix_len (is_other name) entries) 0 < suc (length entries)
    → get_or (entry.name ∷ names entries) (cond (not b) (1 + prefix_len (is_other name) entries) 0) [] ≡ name) [
      | true ↦ λ e k. (bytes_decides entry.name name).0 e
      | false ↦ λ e k.
          let more : 1 + prefix_len (is_other name) entries ≡ suc (prefix_len (is_other name) entries) = omega arith in
          rw more (place_has name entries (omega (arith, k)))
    ] in
    go (same entry.name name) refl h

-- the name stands nowhere before its place
place_first : (name : List ℕ) (entries : List Entry) (j : ℕ) → j < length (names entries) → get_or (names entries) j [] ≡ name → place name entries ≤ j
unfolding place
place_first name [] j h e = absurd (omega (arith, h))
place_first name (entry ∷ entries) zero h e = rw ((bytes_decides entry.name name).1 e) (omega arith)
place_first name (entry ∷ entries) (suc j) h e =
    let rest : prefix_len (is_other name) entries ≤ j = place_first name entries j (omega (arith, h)) e in
    let go : (b : Bool) → cond b (1 + prefix_len (is_other name) entries) 0 ≤ suc j =
    λ b. elim b as (λ b. cond b (1 + prefix_len (is_other name) entries) 0 ≤ suc j) [ true ↦ omega (arith, rest) | false ↦ omega arith ] in
    go (is_other name entry)

named_long : (entries : List Entry) → length (names entries) ≡ length entries
named_long [] = refl
named_long (entry ∷ entries) = ap suc (named_long entries)

stands_before : (entries : List Entry) (from upgrade : List ℕ) (version : Parts) → is_among upgrade (names (upgrades_among entries from version)) ≡ true → StandsBefore (names entries) upgrade from
stands_before entries from upgrade version h =
    let below = upgrade_below entries from upgrade version h in
    let within = place_within from entries in
    let long = named_long entries in (
      place upgrade entries,
      omega (arith, below, within, long),
      place_has upgrade entries (omega (arith, below, within)),
      λ j inside at. let first = place_first from entries j inside at in omega (arith, below, first),
    )

pub upgrades_stand_before : UpgradesStandBefore
upgrades_stand_before catalog owner channel from upgrade version names' is h =
    let go : (found : Option Channel) → option_map (λ blob. names (in_order catalog.bundles blob)) found ≡ Some names'
    → is_among upgrade (option_map_or (λ blob. names (upgrades_among (in_order catalog.bundles blob) from version)) found []) ≡ true
    → StandsBefore names' upgrade from =
    λ found. elim found as (λ found. option_map (λ blob. names (in_order catalog.bundles blob)) found ≡ Some names'
    → is_among upgrade (option_map_or (λ blob. names (upgrades_among (in_order catalog.bundles blob) from version)) found []) ≡ true
    → StandsBefore names' upgrade from) [
      | None ↦ λ e k. absurd (let bad : None ≡ Some names' = e in cc)
      | Some blob ↦ λ e k.
          let same_names : names (in_order catalog.bundles blob) ≡ names' = cc in
          subst (λ list. StandsBefore list upgrade from) same_names (stands_before (in_order catalog.bundles blob) from upgrade version k)
    ] in
    go (channel_named catalog.channels owner channel) is h

-- a step of a path goes to an earlier place
module _ (catalog : Catalog) (owner channel : List ℕ) where
  entries_of : Option Channel → List Entry
  entries_of None = []
  entries_of (Some blob) = in_order catalog.bundles blob

  step_below : (found : Option Channel) (from next : List ℕ) (version : Parts)
      → is_among next (option_map_or (λ blob. names (upgrades_among (in_order catalog.bundles blob) from version)) found []) ≡ true
      → place next (entries_of found) < place from (entries_of found)
  unfolding entries_of
  step_below None from next version h = absurd (let bad : false ≡ true = h in cc)
  step_below (Some blob) from next version h = upgrade_below (in_order catalog.bundles blob) from next version h

  goes : List ℕ → ℕ
  goes name = place name (entries_of (channel_named catalog.channels owner channel))

  path_below : (from : List ℕ) (path : List (List ℕ)) (j : ℕ) → IsUpgradePath catalog owner channel (from ∷ path) → j < length path → goes (get_or path j []) < goes from
  path_below from [] j h inside = absurd (omega (arith, inside))
  path_below from (next ∷ path) zero h inside = unfold goes in step_below (channel_named catalog.channels owner channel) from next h.0.0 h.0.1
  path_below from (next ∷ path) (suc j) h inside =
      let first : goes next < goes from = unfold goes in step_below (channel_named catalog.channels owner channel) from next h.0.0 h.0.1 in
      let others = path_below next path j h.1 (omega (arith, inside)) in
      omega (arith, first, others)

  tail_path : (from : List ℕ) (path : List (List ℕ)) → IsUpgradePath catalog owner channel (from ∷ path) → IsUpgradePath catalog owner channel path
  tail_path from [] h = tt
  tail_path from (next ∷ path) h = h.1

  never_back : (path : List (List ℕ)) (i j : ℕ) → IsUpgradePath catalog owner channel path → i < j → j < length path → get_or path i [] ≢ get_or path j []
  never_back [] i j h before inside e = omega (arith, before, inside)
  never_back (from ∷ path) zero zero h before inside e = omega (arith, before)
  never_back (from ∷ path) zero (suc j) h before inside e =
      let below = path_below from path j h (omega (arith, inside)) in
      let equal : goes from ≡ goes (get_or path j []) = ap goes e in
      omega (arith, below, equal)
  never_back (from ∷ path) (suc i) zero h before inside e = omega (arith, before)
  never_back (from ∷ path) (suc i) (suc j) h before inside e = never_back path i j (tail_path from path h) (omega (arith, before)) (omega (arith, inside)) e

pub upgrades_never_come_back : UpgradesNeverComeBack
upgrades_never_come_back catalog owner channel path i j h before inside = never_back catalog owner channel path i j h before inside
