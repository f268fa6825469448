-- Who had a write of a kept history, and in which view; and what stood at its key when it was seen.
use Rattle.std.proofs.Common.{◌≡◌, ◌-◌, inl, inr, Bool, true, List, ℕ, zero, suc, Some, slice_get, sym, ap, ◌∙◌, subst}
use Rattle.std.proofs.lemmas.Bool.{or_left}
use Rattle.cluster_objects.specs.Keys.{same_text}
use Rattle.cluster_objects.specs.declared.keys.Key.{Key}
use Rattle.cluster_objects.specs.declared.objects.Object.{Object}
use Rattle.cluster_objects.specs.declared.objects.Write.{Write}
use Rattle.cluster_objects.specs.declared.objects.Writer.{Writer}
use Rattle.cluster_objects.specs.declared.objects.Writer.TheVariants as writer
use Rattle.cluster_objects.proofs.Stamping.{same_text-refl}
use Rattle.cluster_history.specs.History.{After, History, IsInOrder, Start, base_of, earlier, first_writes, position, slot, slot_in}
use Rattle.cluster_history.specs.Views.{view, is_visible}
use Rattle.object_store.proofs.Showing.{view_in_order}
use Rattle.lawful_history.specs.Installing.{installer_writes}
use Rattle.history_laws.proofs.Keeping.{seen}
use Rattle.lease_fence.specs.Grants.{IsGrant}
use Rattle.lawful_events.specs.Asks.{IsUsersWrite}
use Rattle.lawful_events.proofs.Chains.{none_is_some, some_is}
use Rattle.csv_phases.specs.Laws.{IsPhasesWrite}
use Rattle.controller_rules.specs.Lawful.{ByRemoval, ByRole, ByUser, IsAllowedByRole, IsSoundByRoles, place_of}
use Rattle.controller_rules.specs.Resolving.{IsResolversWrite}
use Rattle.controller_rules.specs.declared.roles.Role.TheVariants.{Installer, Phases, Resolver}
use Rattle.lawful_roles.specs.Roles.{IsByUser, IsKept}
use Rattle.role_laws.specs.Moments.{HadLength}

-- ---- beginnings

earlier_kept : (is_valid : List ℕ → Bool) (n : ℕ) (h : History) → IsKept is_valid h → IsKept is_valid (earlier n h)
earlier_kept is_valid zero h kept = kept
earlier_kept is_valid (suc n) (Start base) kept = kept
earlier_kept is_valid (suc n) (After w h) kept = earlier_kept is_valid n h kept.2

pub first_kept : (is_valid : List ℕ → Bool) (h : History) (a : ℕ) → IsKept is_valid h → IsKept is_valid (first_writes a h)
first_kept is_valid h a kept = earlier_kept is_valid (position h - a) h kept

pub base_sound : (is_valid : List ℕ → Bool) (h : History) → IsKept is_valid h → IsSoundByRoles is_valid (base_of h)
base_sound is_valid (Start base) kept = kept
base_sound is_valid (After w h) kept = base_sound is_valid h kept.2

pub base_in_order : (is_valid : List ℕ → Bool) (h : History) → IsKept is_valid h → IsInOrder (base_of h).slots
base_in_order is_valid h kept = (base_sound is_valid h kept).sound.0.keys

pub kept_in_order : (is_valid : List ℕ → Bool) (h : History) (namespace : List ℕ) (a : ℕ) → IsKept is_valid h → IsInOrder (view h namespace a).slots
kept_in_order is_valid h namespace a kept = view_in_order h namespace a (base_in_order is_valid h kept)

-- ---- what was seen

pub own_visible : (namespace : List ℕ) (key : Key) → key.namespace ≡ namespace → is_visible namespace key ≡ true
own_visible namespace key own = or_left _ _ (subst (λ (ns : List ℕ). same_text key.namespace ns ≡ true) own (same_text-refl key.namespace))

-- what the view shows at the key stands there still, where the write expects the version that the key has in the view
pub found : (is_valid : List ℕ → Bool) (h : History) (w : Write) (namespace : List ℕ) (a : ℕ) → IsKept is_valid (After w h)
    → is_visible namespace w.key ≡ true → w.expect ≡ (slot_in (view h namespace a).slots w.key).version
    → slot_in (view h namespace a).slots w.key ≡ slot h w.key
found is_valid h w namespace a kept visible expects =
    seen h namespace a w.key (base_sound is_valid h kept.2).sound.0 visible (sym expects ∙ kept.0)

-- ---- who had the write

pub record ByResolver (h : History) (w : Write) : Type 0 where
  pub by : w.by ≡ writer.Resolver
  pub namespace : List ℕ
  pub object : Object
  pub puts : w.object ≡ Some object
  pub moment : HadLength h object.seen
  pub enabled : IsResolversWrite (view h namespace object.seen) w

pub record ByInstaller (h : History) (w : Write) : Type 0 where
  pub by : w.by ≡ writer.Installer
  pub namespace : List ℕ
  pub length : ℕ
  pub place : ℕ
  pub moment : HadLength h length
  pub enabled : slice_get (installer_writes (view h namespace length)) place ≡ Some w

-- where it puts an object, that has seen the view
pub record ByPhases (h : History) (w : Write) : Type 0 where
  pub by : w.by ≡ writer.Phases
  pub namespace : List ℕ
  pub length : ℕ
  pub moment : HadLength h length
  pub enabled : IsPhasesWrite (view h namespace length) w
  pub seen : (object : Object) → w.object ≡ Some object → object.seen ≡ length

pub data By (h : History) (w : Write) : Type 0 where
  OfUser : w.by ≡ writer.User → IsUsersWrite h w → By h w
  OfGrant : w.by ≡ writer.User → IsGrant h w → By h w
  OfResolver : ByResolver h w → By h w
  OfInstaller : ByInstaller h w → By h w
  OfPhases : ByPhases h w → By h w

who : (h : History) (w : Write) → IsAllowedByRole IsByUser h w → By h w
who h w (ByUser by (inl event)) = OfUser by event
who h w (ByUser by (inr grant)) = OfGrant by grant
who h w (ByRole Resolver put) =
    OfResolver (record {
      by = put.by;
      namespace = place_of w.key put.object;
      object = put.object;
      puts = put.puts;
      moment = record { since = put.since; until = put.until };
      enabled = put.enabled;
    })
who h w (ByRole Installer put) =
    OfInstaller (record {
      by = put.by;
      namespace = place_of w.key put.object;
      length = put.object.seen;
      place = put.enabled.0;
      moment = record { since = put.since; until = put.until };
      enabled = put.enabled.1;
    })
who h w (ByRole Phases put) =
    OfPhases (record {
      by = put.by;
      namespace = place_of w.key put.object;
      length = put.object.seen;
      moment = record { since = put.since; until = put.until };
      enabled = put.enabled;
      seen = λ object is. ap (λ (x : Object). x.seen) (some_is object put.object (sym is ∙ put.puts));
    })
who h w (ByRemoval removal) =
    OfPhases (record {
      by = removal.by;
      namespace = w.key.namespace;
      length = removal.length;
      moment = record { since = removal.since; until = removal.until };
      enabled = removal.enabled;
      seen = λ object is. absurd (none_is_some object (sym removal.removes ∙ is));
    })

pub who_had : (is_valid : List ℕ → Bool) (h : History) (w : Write) → IsKept is_valid (After w h) → By h w
who_had is_valid h w kept = who h w kept.1

-- no write has two writers
pub other_writer : {T : Type 0} (w : Write) (a b : Writer) → w.by ≡ a → w.by ≡ b → (a ≡ b → ⊥) → T
other_writer w a b is other apart = absurd (apart (sym is ∙ other))
