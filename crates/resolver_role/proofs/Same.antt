-- Two bases that compare alike are one.
use Rattle.std.proofs.Common.{◌≡◌, ◌&&◌, ◌==◌, Bool, true, false, List, ℕ, Option, Some, None, nat_eq, refl, ap}
use Rattle.std.specs.Bool.{Decides}
use Rattle.std.specs.Cmp.{booleans_Decides, signed_Decides, unsigned_Decides}
use Rattle.std.specs.Cmp.Lexicographic.{bytes_decides, pointwise, pointwise_decides}
use Rattle.std.specs.Option.{option_eq}
use Rattle.std.proofs.lemmas.Bool.Decides.{Decides-and, Decides-like}
use Rattle.olm_base.specs.declared.gvk.Gvk.{Gvk}
use Rattle.olm_base.specs.contracts.gvk.GvkPartialEq.TheImpl as gvk_eq
use Rattle.cluster_objects.specs.declared.resolutions.Basis.{Basis}
use Rattle.cluster_objects.specs.declared.resolutions.Seen.{Seen}
use Rattle.cluster_objects.specs.declared.resolutions.Tip.{Tip}
use Rattle.cluster_objects.specs.declared.statuses.SubSpec.{SubSpec}
use Rattle.cluster_objects.specs.contracts.resolutions.BasisPartialEq.TheImpl as basis_eq
use Rattle.cluster_objects.specs.contracts.resolutions.SeenPartialEq.TheImpl as seen_eq
use Rattle.cluster_objects.specs.contracts.resolutions.TipPartialEq.TheImpl as tip_eq
use Rattle.cluster_objects.specs.contracts.statuses.SubSpecPartialEq.TheImpl as spec_eq

same_some : {T : Type 0} (x y : T) → Some x ≡ Some y → x ≡ y
same_some x y e = cc e

module _ {T : Type 0} {E : T → T → Bool} (each : (a b : T) → Decides (E a b) (a ≡ b)) where
  options_decide : (a b : Option T) → Decides (option_eq E a b) (a ≡ b)
  options_decide None None = (λ h. refl, λ e. refl)
  options_decide None (Some y) = (λ h. cc h, λ e. cc e)
  options_decide (Some x) None = (λ h. cc h, λ e. cc e)
  options_decide (Some x) (Some y) = (λ h. ap Some ((each x y).0 h), λ e. (each x y).1 (same_some x y e))

GvkParts : Gvk → Gvk → Type 0
GvkParts a b = (a.group ≡ b.group) × ((a.version ≡ b.version) × (a.kind ≡ b.kind))

gvk_decides : (a b : Gvk) → Decides ((gvk_eq.ghosts).eq a b) (a ≡ b)
unfolding GvkParts
gvk_decides a b =
    let parts : Decides ((gvk_eq.ghosts).eq a b) (GvkParts a b) =
    Decides-and _ _ (bytes_decides a.group b.group) (Decides-and _ _ (bytes_decides a.version b.version) (bytes_decides a.kind b.kind)) in
    Decides-like ((gvk_eq.ghosts).eq a b) (λ (p : GvkParts a b). λ i. record { group = p.0 i; version = p.1.0 i; kind = p.1.1 i })
    (λ (e : a ≡ b). (ap (λ (x : Gvk). x.group) e, (ap (λ (x : Gvk). x.version) e, ap (λ (x : Gvk). x.kind) e))) parts

SpecParts : SubSpec → SubSpec → Type 0
SpecParts a b =
    (a.«package» ≡ b.«package») × ((a.channel ≡ b.channel) × ((a.source ≡ b.source) × ((a.source_namespace ≡ b.source_namespace)
    × ((a.starting ≡ b.starting) × (a.manual ≡ b.manual)))))

spec_decides : (a b : SubSpec) → Decides ((spec_eq.ghosts).eq a b) (a ≡ b)
unfolding SpecParts
spec_decides a b =
    let parts : Decides ((spec_eq.ghosts).eq a b) (SpecParts a b) =
    Decides-and _ _ (bytes_decides a.«package» b.«package»)
    (Decides-and _ _ (options_decide bytes_decides a.channel b.channel)
    (Decides-and _ _ (bytes_decides a.source b.source)
    (Decides-and _ _ (bytes_decides a.source_namespace b.source_namespace)
    (Decides-and _ _ (options_decide bytes_decides a.starting b.starting) (booleans_Decides a.manual b.manual))))) in
    Decides-like ((spec_eq.ghosts).eq a b)
    (λ (p : SpecParts a b). λ i. record {
      «package» = p.0 i;
      channel = p.1.0 i;
      source = p.1.1.0 i;
      source_namespace = p.1.1.1.0 i;
      starting = p.1.1.1.1.0 i;
      manual = p.1.1.1.1.1 i;
    })
    (λ (e : a ≡ b). (
      ap (λ (x : SubSpec). x.«package») e,
      (
        ap (λ (x : SubSpec). x.channel) e,
        (
          ap (λ (x : SubSpec). x.source) e,
          (
            ap (λ (x : SubSpec). x.source_namespace) e,
            (ap (λ (x : SubSpec). x.starting) e, ap (λ (x : SubSpec). x.manual) e),
          ),
        ),
      ),
    )) parts

TipParts : Tip → Tip → Type 0
TipParts a b =
    (a.name ≡ b.name) × ((a.«package» ≡ b.«package») × ((a.version ≡ b.version) × ((a.kinds ≡ b.kinds) × (a.succeeded ≡ b.succeeded))))

tip_decides : (a b : Tip) → Decides ((tip_eq.ghosts).eq a b) (a ≡ b)
unfolding TipParts
tip_decides a b =
    let parts : Decides ((tip_eq.ghosts).eq a b) (TipParts a b) =
    Decides-and _ _ (bytes_decides a.name b.name)
    (Decides-and _ _ (options_decide bytes_decides a.«package» b.«package»)
    (Decides-and _ _ (bytes_decides a.version b.version)
    (Decides-and _ _ (pointwise_decides gvk_decides a.kinds b.kinds) (booleans_Decides a.succeeded b.succeeded)))) in
    Decides-like ((tip_eq.ghosts).eq a b)
    (λ (p : TipParts a b). λ i. record {
      name = p.0 i;
      «package» = p.1.0 i;
      version = p.1.1.0 i;
      kinds = p.1.1.1.0 i;
      succeeded = p.1.1.1.1 i;
    })
    (λ (e : a ≡ b). (
      ap (λ (x : Tip). x.name) e,
      (
        ap (λ (x : Tip). x.«package») e,
        (ap (λ (x : Tip). x.version) e, (ap (λ (x : Tip). x.kinds) e, ap (λ (x : Tip). x.succeeded) e)),
      ),
    )) parts

SeenParts : Seen → Seen → Type 0
SeenParts a b = (a.namespace ≡ b.namespace) × ((a.name ≡ b.name) × ((a.priority ≡ b.priority) × (a.version ≡ b.version)))

seen_decides : (a b : Seen) → Decides ((seen_eq.ghosts).eq a b) (a ≡ b)
unfolding SeenParts
seen_decides a b =
    let parts : Decides ((seen_eq.ghosts).eq a b) (SeenParts a b) =
    Decides-and _ _ (bytes_decides a.namespace b.namespace)
    (Decides-and _ _ (bytes_decides a.name b.name)
    (Decides-and _ _ (signed_Decides a.priority b.priority) (unsigned_Decides a.version b.version))) in
    Decides-like ((seen_eq.ghosts).eq a b)
    (λ (p : SeenParts a b). λ i. record { namespace = p.0 i; name = p.1.0 i; priority = p.1.1.0 i; version = p.1.1.1 i })
    (λ (e : a ≡ b). (
      ap (λ (x : Seen). x.namespace) e,
      (ap (λ (x : Seen). x.name) e, (ap (λ (x : Seen). x.priority) e, ap (λ (x : Seen). x.version) e)),
    )) parts

named_decides : (a b : List ℕ × SubSpec) → Decides (pointwise nat_eq a.0 b.0 && (spec_eq.ghosts).eq a.1 b.1) (a ≡ b)
named_decides a b =
    let parts : Decides (pointwise nat_eq a.0 b.0 && (spec_eq.ghosts).eq a.1 b.1) ((a.0 ≡ b.0) × (a.1 ≡ b.1)) =
    Decides-and _ _ (bytes_decides a.0 b.0) (spec_decides a.1 b.1) in
    Decides-like (pointwise nat_eq a.0 b.0 && (spec_eq.ghosts).eq a.1 b.1)
    (λ (p : (a.0 ≡ b.0) × (a.1 ≡ b.1)). λ i. (p.0 i, p.1 i))
    (λ (e : a ≡ b). (ap (λ (x : List ℕ × SubSpec). x.0) e, ap (λ (x : List ℕ × SubSpec). x.1) e)) parts

BasisParts : Basis → Basis → Type 0
BasisParts a b = (a.subscriptions ≡ b.subscriptions) × ((a.tips ≡ b.tips) × (a.catalogs ≡ b.catalogs))

pub basis_decides : (a b : Basis) → Decides ((basis_eq.ghosts).eq a b) (a ≡ b)
unfolding BasisParts
basis_decides a b =
    let parts : Decides ((basis_eq.ghosts).eq a b) (BasisParts a b) =
    Decides-and _ _ (pointwise_decides named_decides a.subscriptions b.subscriptions)
    (Decides-and _ _ (pointwise_decides tip_decides a.tips b.tips) (pointwise_decides seen_decides a.catalogs b.catalogs)) in
    Decides-like ((basis_eq.ghosts).eq a b)
    (λ (p : BasisParts a b). λ i. record { subscriptions = p.0 i; tips = p.1.0 i; catalogs = p.1.1 i })
    (λ (e : a ≡ b). (
      ap (λ (x : Basis). x.subscriptions) e,
      (ap (λ (x : Basis). x.tips) e, ap (λ (x : Basis). x.catalogs) e),
    )) parts
