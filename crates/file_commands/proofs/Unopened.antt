-- What is answered where no store was opened.
use Rattle.std.proofs.Common.{◌≡◌, ℕ, List, Bool, true, Result, Ok, Err, refl, sym, subst}
use Rattle.cluster_history.specs.History.{History}
use Rattle.cluster_file.specs.Files.{damage_in, stands}
use Rattle.object_store.specs.Puts.{Reopens}
use Rattle.object_store.specs.declared.cluster.ClusterFault.{ClusterFault}
use Rattle.object_store.specs.declared.cluster.ClusterFault.TheVariants as opening
use Rattle.file_commands.specs.Answers.{Answers, NoProblem, fault_of}
use Rattle.file_commands.specs.Opens.{Opens, found_in}
use Rattle.file_commands.specs.declared.faults.FileFault.{FileFault}
use Rattle.file_commands.proofs.Found.{opens_any, opens_damage}

-- an answer of what is found in the file
abbrev pub Told : {T : Type 0} → Bool → List ℕ → (History → T → Type 0) → (History → ℕ → Type 0) → Result T FileFault → Type 0
Told tells content Gives IsTooLarge result = (found : Result History ℕ) × Opens tells content found × Answers Gives IsTooLarge found result

-- where no store was opened
unopened_by : (T : Type 0) (tells : Bool) (content : List ℕ) (Gives : History → Unit {0} → Type 0) (e : ClusterFault) → (tells ≡ true → Reopens {T = T} (damage_in content) (Err e)) → Told tells content Gives NoProblem (Err (fault_of e))
unopened_by T tells content Gives opening.Failed damage = (found_in (stands content), opens_any tells content, tt)
unopened_by T tells content Gives (opening.Damaged at) damage = (Err at, opens_damage tells content at damage, refl)
unopened_by T tells content Gives opening.Memory damage = (found_in (stands content), opens_any tells content, tt)

pub unopened : (T : Type 0) (tells : Bool) (content : List ℕ) (Gives : History → Unit {0} → Type 0) (e : ClusterFault) (r : Result Unit FileFault) → (tells ≡ true → Reopens {T = T} (damage_in content) (Err e)) → r ≡ Err (fault_of e)
    → Told tells content Gives NoProblem r
unopened T tells content Gives e r damage is = subst (Told tells content Gives NoProblem) (sym is) (unopened_by T tells content Gives e damage)
