-- The header, and what stands behind it.
use Rattle.std.proofs.Common.{◌≡◌, ◌≤◌, ◌<◌, true, false, ℕ, [], List, length, take, drop, Result, sym, ap, ◌∙◌, subst}
use Rattle.cluster_objects.specs.Keys.{same_text}
use Rattle.cluster_objects.specs.declared.objects.Write.{Write}
use Rattle.cluster_file.specs.Files.{Damaged, Stands, header, standing_from, stands}
use Rattle.cluster_file.specs.Writing.{history_after}
use Rattle.cluster_file.proofs.Standing.{other_header, same_header, stands_short}
use Rattle.cluster_objects.proofs.Stamping.{same_text-refl, same_text-true}
use Rattle.object_store.specs.declared.cluster.ClusterFault.{ClusterFault}
use Rattle.log_file.specs.Folding.{Folds}

pub folds_none : (ws : List Write) (bytes : List ℕ) → ws ≡ [] → length bytes ≤ 9 → stands bytes ≡ Stands (history_after ws) 8
folds_none ws bytes none short = stands_short bytes short ∙ ap (λ (l : List Write). Stands (history_after l) 8) (sym none)

pub folds_other : (bytes front : List ℕ) → 9 < length bytes → front ≡ take 8 bytes → same_text front header ≡ false → stands bytes ≡ Damaged 0
folds_other bytes front long is other =
    other_header bytes long (λ e. let t : same_text front header ≡ true = ap (λ (l : List ℕ). same_text l header) (is ∙ e) ∙ same_text-refl header in cc)

pub folds_behind : (bytes front rest : List ℕ) (old new : List Write) (result : Result ℕ ClusterFault) → 9 < length bytes → front ≡ take 8 bytes → rest ≡ drop 8 bytes → same_text front header ≡ true → old ≡ []
    → Folds (standing_from (length bytes) (history_after old) 8 rest) new result → Folds (stands bytes) new result
folds_behind bytes front rest old new result long is behind same none folds =
    subst (λ s. Folds s new result)
    (ap (λ (l : List ℕ). standing_from (length bytes) (history_after old) 8 l) behind
    ∙ ap (λ (ws : List Write). standing_from (length bytes) (history_after ws) 8 (drop 8 bytes)) none
    ∙ sym (same_header bytes long (sym is ∙ same_text-true front header same)))
    folds
