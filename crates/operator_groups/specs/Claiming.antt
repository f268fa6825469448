-- What the namespaces claim: a kind, for the namespaces that their operators act in.
use Rattle.std.specs.Prelude.{◌≡◌, ℕ, Bool, true, false, ◌&&◌, not, List, [], ◌∷◌, ◌++◌, Option, Some, None, slice_get, if◌then◌else◌}
use Rattle.std.specs.Cmp.Lexicographic.{pointwise}
use Rattle.std.specs.List.{filter, find, list_any}
use Rattle.std.specs.Option.{option_map}
use Rattle.cluster_objects.specs.Keys.{same_text}
use Rattle.cluster_objects.specs.declared.groups.Claim.{Claim}
use Rattle.op_properties.specs.Offers.{same_kind}
use Rattle.operator_groups.specs.declared.claiming.Claimed.{Claimed}
use Rattle.operator_groups.specs.declared.claiming.Claimed.TheVariants.{Held, Taken, Next}

-- ---- when two claims share a target

-- The targets of a claim, its own namespace among them; None for all.
abbrev pub reach : Claim → Option (List (List ℕ))
reach claim = option_map (λ targets. claim.namespace ∷ targets) claim.targets

-- One of them is for all, or some name is among both.
abbrev pub meet : Option (List (List ℕ)) → Option (List (List ℕ)) → Bool
meet None others = true
meet (Some names) None = true
meet (Some names) (Some others) = list_any (λ name. list_any (same_text name) others) names

abbrev pub share_target : Claim → Claim → Bool
share_target claim other = meet (reach claim) (reach other)

-- Another namespace has claimed the same kind for a target of this claim.
abbrev pub is_against : Claim → Claim → Bool
is_against claim other =
    same_kind other.kind claim.kind && not (same_text other.namespace claim.namespace) && share_target other claim

-- No two entries of one kind and of different namespaces share a target.
abbrev pub AreDisjoint : List Claim → Type 0
AreDisjoint entries =
    (i j : ℕ) (claim other : Claim) → slice_get entries i ≡ Some claim → slice_get entries j ≡ Some other
    → is_against claim other ≡ false

-- ---- what comes of a claim

-- the same targets in the same order
abbrev pub same_targets : Option (List (List ℕ)) → Option (List (List ℕ)) → Bool
same_targets None None = true
same_targets None (Some others) = false
same_targets (Some targets) None = false
same_targets (Some targets) (Some others) = pointwise same_text targets others

-- The entry is of the claim's kind and namespace.
abbrev pub is_older : Claim → Claim → Bool
is_older claim entry = same_kind entry.kind claim.kind && same_text entry.namespace claim.namespace

-- The entry is this claim: its kind, its namespace and its targets.
abbrev pub is_claim : Claim → Claim → Bool
is_claim claim entry = is_older claim entry && same_targets entry.targets claim.targets

-- The entries but for those of the claim's kind and namespace.
abbrev pub without_older : List Claim → Claim → List Claim
without_older entries claim = filter (λ entry. not (is_older claim entry)) entries

-- The claim comes last, and older ones of its kind and namespace are taken out.
abbrev pub with_claim : List Claim → Claim → List Claim
with_claim entries claim = without_older entries claim ++ claim ∷ []

-- By the first entry against it, if there is one.
abbrev pub claim_against : List Claim → Claim → Option Claim → Claimed
claim_against entries claim (Some other) = Taken other.namespace
claim_against entries claim None = Next (record { entries = with_claim entries claim })

-- A claim is held where it is there. Else it is taken by the first entry against it, or else it comes next.
abbrev pub claim : List Claim → Claim → Claimed
claim entries wanted =
    if list_any (is_claim wanted) entries then Held
    else claim_against entries wanted (find (is_against wanted) entries)
