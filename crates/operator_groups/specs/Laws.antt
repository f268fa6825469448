-- What is so of all claims.
use Rattle.std.specs.Prelude.{◌≡◌, List, []}
use Rattle.cluster_objects.specs.declared.groups.Claim.{Claim}
use Rattle.cluster_objects.specs.declared.groups.ClaimsStatus.{ClaimsStatus}
use Rattle.operator_groups.specs.Claiming.{AreDisjoint, claim}
use Rattle.operator_groups.specs.declared.claiming.Claimed.TheVariants.{Held, Next}

-- No entries are disjoint.
abbrev pub NoneAreDisjoint : Type 0
NoneAreDisjoint = AreDisjoint []

-- Disjoint claims stay so with the claim that comes next.
abbrev pub ClaimsStayDisjoint : Type 0
ClaimsStayDisjoint =
    (entries : List Claim) (wanted : Claim) (next : ClaimsStatus) → AreDisjoint entries → claim entries wanted ≡ Next next
    → AreDisjoint next.entries

-- Once a claim was made it is held.
abbrev pub MadeIsHeld : Type 0
MadeIsHeld =
    (entries : List Claim) (wanted : Claim) (next : ClaimsStatus) → claim entries wanted ≡ Next next
    → claim next.entries wanted ≡ Held
