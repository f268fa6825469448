-- The variables of a problem, their constraints, and what they stand for.
use Rattle.std.specs.Prelude.{ℕ, ◌+◌, ◌<◌, ◌≤◌, Bool, false, ◌&&◌, not, nat_le, nat_eq, if◌then◌else◌, List, [], ◌∷◌, ◌++◌, length, map, Option}
use Rattle.std.specs.Cmp.Lexicographic.{slice_cmp}
use Rattle.std.specs.List.{All, count_by, filter, filter_map, flat_map, list_any, range_with_len}
use Rattle.std.specs.Option.{IfSome, option_map, option_map_or, option_to_list}
use Rattle.std.specs.Ordering.{nat_cmp, ordering_then}
use Rattle.std.specs.declared.cmp.Ordering.{Ordering}
use Rattle.olm_base.specs.declared.gvk.Gvk.{Gvk}
use Rattle.fbc_types.specs.Texts.{same}
use Rattle.cluster_objects.specs.declared.resolutions.Taken.{Taken}
use Rattle.cluster_objects.specs.declared.resolutions.Tip.{Tip}
use Rattle.cluster_objects.specs.declared.statuses.SubSpec.{SubSpec}
use Rattle.op_constraints.specs.declared.Constraint.{Constraint}
use Rattle.op_constraints.specs.declared.Constraint.TheVariants.{Mandatory, Dependency, Conflict, AtMost}
use Rattle.op_constraints.specs.declared.TheConstants.{VAR_LIMIT}
use Rattle.op_properties.specs.Offers.{Provided, is_among, is_of}
use Rattle.op_properties.specs.Passing.{passes}
use Rattle.op_properties.specs.declared.requirement.Requirement.{Requirement}
use Rattle.problem_build.specs.Asking.{installed, is_candidate, is_upgrade}
use Rattle.problem_build.specs.Entries.{Entry}
use Rattle.problem_build.specs.Numbers.{numbers_where, once_in_order}
use Rattle.problem_build.specs.declared.asking.Asked.{Asked}
use Rattle.problem_build.specs.declared.names.VarName.{VarName}
use Rattle.problem_build.specs.declared.names.VarName.TheVariants as name

-- What is chosen from: what the subscriptions ask for, the reached entries in the order of entries, and what the tips provide. A tip asks for nothing.
pub record Choices : Type 0 where
  pub asks : List Asked
  pub entries : List Entry
  pub tips : List Provided

-- The variables are numbered from 0 on: the subscriptions, the entries, the tips, and then the packages and the kinds.
abbrev pub first_entry : Choices → ℕ
first_entry choices = length choices.asks

abbrev pub first_tip : Choices → ℕ
first_tip choices = length choices.asks + length choices.entries

-- What the entries and then the tips provide.
abbrev pub provided : Choices → List Provided
provided choices = map (λ entry. entry.offer) choices.entries ++ choices.tips

abbrev pub entries_where : Choices → (Entry → Bool) → List ℕ
entries_where choices passes = numbers_where (first_entry choices) passes choices.entries

abbrev pub tips_where : Choices → (Provided → Bool) → List ℕ
tips_where choices passes = numbers_where (first_tip choices) passes choices.tips

abbrev pub providers_where : Choices → (Provided → Bool) → List ℕ
providers_where choices passes = numbers_where (first_entry choices) passes (provided choices)

-- The installed one of a subscription, if it has one.
abbrev pub installed_one : Choices → Asked → List ℕ
installed_one choices asked = option_to_list (option_map (λ place. first_tip choices + place) asked.installed)

-- The candidates of a subscription: entries in the order of entries, so in channel order, and then the installed one.
abbrev pub candidates : Choices → Asked → List ℕ
candidates choices asked = entries_where choices (is_candidate asked) ++ installed_one choices asked

abbrev pub of_subscription : Choices → Asked → List Constraint
of_subscription choices asked = Mandatory ∷ Dependency (candidates choices asked) ∷ []

-- The other entry stands in the catalog of this one.
abbrev pub is_beside : Entry → Entry → Bool
is_beside entry other = same other.catalog_namespace entry.catalog_namespace && same other.catalog entry.catalog

-- The other entry passes, and stands in the catalog of this one, or in another catalog.
abbrev pub passes_beside : Entry → Requirement → Entry → Bool
passes_beside entry requirement other = is_beside entry other && passes requirement other.offer

abbrev pub passes_elsewhere : Entry → Requirement → Entry → Bool
passes_elsewhere entry requirement other = not (is_beside entry other) && passes requirement other.offer

-- The list of a requirement: the tips that pass, then the entries of the entry's own catalog that pass, then the others that pass.
abbrev pub passing : Choices → Entry → Requirement → List ℕ
passing choices entry requirement =
    tips_where choices (passes requirement)
    ++ (entries_where choices (passes_beside entry requirement) ++ entries_where choices (passes_elsewhere entry requirement))

abbrev pub need : Choices → Entry → Requirement → Constraint
need choices entry requirement = Dependency (passing choices entry requirement)

-- An upgrade goes against the installed one that it upgrades from.
abbrev pub conflicts_with : Choices → Entry → Asked → List Constraint
conflicts_with choices entry asked = if is_upgrade asked entry then map Conflict (installed_one choices asked) else []

abbrev pub of_entry : Choices → Entry → List Constraint
of_entry choices entry =
    map (need choices entry) entry.requirements
    ++ flat_map (conflicts_with choices entry) choices.asks

-- The tip at this place is the installed one of some subscription.
abbrev pub is_installed_one : List Asked → ℕ → Bool
is_installed_one asks place = list_any (λ asked. option_map_or (nat_eq place) asked.installed false) asks

-- A tip that is no subscription's installed one stays.
abbrev pub of_tip : List Asked → ℕ → List Constraint
of_tip asks place = if is_installed_one asks place then [] else Mandatory ∷ []

-- Two or more of these provide it.
abbrev pub is_shared : List Provided → (Provided → Bool) → Bool
is_shared offers provides = nat_le 2 (count_by provides offers)

abbrev pub is_of_package : List ℕ → Provided → Bool
is_of_package name offer = is_of name offer.«package»

abbrev pub has_kind : Gvk → Provided → Bool
has_kind kind offer = is_among kind offer.kinds

-- The packages of two or more of these, by name.
abbrev pub packages : List Provided → List (List ℕ)
packages offers =
    filter (λ name. is_shared offers (is_of_package name))
    (once_in_order (slice_cmp nat_cmp) (filter_map (λ offer. offer.«package») offers))

-- By group, version and kind.
abbrev pub kind_cmp : Gvk → Gvk → Ordering
kind_cmp a b =
    ordering_then (slice_cmp nat_cmp a.group b.group)
    (ordering_then (slice_cmp nat_cmp a.version b.version) (slice_cmp nat_cmp a.kind b.kind))

-- The kinds that two or more of these provide.
abbrev pub kinds : List Provided → List Gvk
kinds offers =
    filter (λ kind. is_shared offers (has_kind kind)) (once_in_order kind_cmp (flat_map (λ offer. offer.kinds) offers))

-- One at most of these.
abbrev pub one_of : Choices → (Provided → Bool) → List Constraint
one_of choices provides = AtMost 1 (providers_where choices provides) ∷ []

abbrev pub of_package : Choices → List ℕ → List Constraint
of_package choices name = one_of choices (is_of_package name)

abbrev pub of_kind : Choices → Gvk → List Constraint
of_kind choices kind = one_of choices (has_kind kind)

-- The variables with their constraints.
abbrev pub problem : Choices → List (List Constraint)
problem choices =
    map (of_subscription choices) choices.asks
    ++ (map (of_entry choices) choices.entries
    ++ (map (of_tip choices.asks) (range_with_len 0 (length choices.tips))
    ++ (map (of_package choices) (packages (provided choices))
    ++ map (of_kind choices) (kinds (provided choices)))))

-- The problem is no larger than a problem may be, and what is installed is among the tips.
pub record Fits (choices : Choices) : Type 0 where
  pub few : first_tip choices + length choices.tips ≤ VAR_LIMIT
  pub installed : All (λ asked. IfSome asked.installed (λ place. place < length choices.tips)) choices.asks

-- The name of the first tip of a package, if there is one.
abbrev pub replaced : List Tip → List ℕ → Option (List ℕ)
replaced tips name = option_map (λ tip. tip.name) (installed tips name)

-- What taking an entry means: it replaces the first tip of its package.
abbrev pub taken : List Tip → Entry → Taken
taken tips entry =
    record {
      catalog_namespace = entry.catalog_namespace;
      catalog = entry.catalog;
      «package» = entry.«package»;
      channel = entry.channel;
      name = entry.name;
      version = entry.version;
      replaces = replaced tips entry.«package»;
    }

-- What the variables stand for.
abbrev pub names : List (List ℕ × SubSpec) → List Tip → Choices → List VarName
names subscriptions tips choices =
    map (λ subscription. name.Subscription subscription.0) subscriptions
    ++ (map (λ entry. name.Entry (taken tips entry)) choices.entries
    ++ (map (λ tip. name.Installed tip.name) tips
    ++ (map name.OnePackage (packages (provided choices))
    ++ map name.OneKind (kinds (provided choices)))))
