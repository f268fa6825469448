-- Which histories are lawful where users write by events and by grants, and the roles what they may.
use Rattle.std.specs.Prelude.{◌⊎◌, Bool, ℕ, List}
use Rattle.cluster_objects.specs.declared.objects.Write.{Write}
use Rattle.cluster_history.specs.History.{History}
use Rattle.lawful_events.specs.Asks.{IsUsersWrite}
use Rattle.lease_fence.specs.Grants.{IsGrant}
use Rattle.controller_rules.specs.Lawful.{IsLawfulByRoles}

-- A user's write is that of one of his events, or a grant of a lease.
abbrev pub IsByUser : History → Write → Type 0
IsByUser h w = IsUsersWrite h w ⊎ IsGrant h w

-- The history begins at a sound base, and each write is a user's or one that its role had in a view of this history.
abbrev pub IsKept : (List ℕ → Bool) → History → Type 0
IsKept is_valid h = IsLawfulByRoles IsByUser is_valid h
