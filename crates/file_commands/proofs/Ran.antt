-- A run over a store that was opened and is closed again.
use Rattle.std.proofs.Common.{◌≡◌, ℕ, List, Bool, true, Option, None, Result, Ok, Err, refl, sym, subst}
use Rattle.cluster_history.specs.History.{History, IsHistory}
use Rattle.cluster_file.specs.Files.{damage_in, history_in, stands}
use Rattle.event_script.specs.declared.events.Event.{Event}
use Rattle.event_runs.specs.Runs as runs
use Rattle.event_runs.specs.declared.halts.Halt.{Halt}
use Rattle.log_store.specs.Store.{IsWhole, LogClusterState, fits, store_history}
use Rattle.object_store.specs.declared.TheConstants.{WRITE_LIMIT}
use Rattle.object_store.specs.Puts.{Reopens}
use Rattle.object_store.specs.declared.cluster.ClusterFault.{ClusterFault}
use Rattle.object_store.specs.declared.cluster.ClusterFault.TheVariants as opening
use Rattle.file_commands.specs.FileRuns.{FileRuns, RunsBetween, fault_of}
use Rattle.file_commands.specs.Opens.{Opens, found_in}
use Rattle.file_commands.specs.declared.faults.RunFault.{RunFault}
use Rattle.file_commands.proofs.Found.{opens_any, opens_closed, opens_damage, opens_history, opens_same}

module _ {D : Type 0} (tells : D → Bool) (content : D → List ℕ) where
  abbrev pub history_held : D → LogClusterState D → History
  history_held disk s = store_history (tells disk) (content disk) s.writes

  -- The disk at first, the store that was opened and what the run left of it, and the disk that is given back.
  pub ran_between : (disk last : D) (s new : LogClusterState D) (files : runs.Files) (es : List Event) (before now : Option (List ℕ)) (end : Result Unit Halt)
      → (tells disk ≡ true → damage_in (content disk) ≡ None) → (tells disk ≡ true → history_held s.disk s ≡ history_in (content disk)) → IsHistory (history_held s.disk s)
      → tells s.disk ≡ tells disk → s.limit ≡ WRITE_LIMIT
      → runs.Runs (tells s.disk) fits s.limit files (history_held s.disk s) es (history_held new.disk new) before now end
      → last ≡ new.disk → IsWhole (tells last) (content last) → IsHistory (history_held last new)
      → (found : Result History ℕ) × (left : Result History ℕ) × Opens (tells disk) (content disk) found × Opens (tells last) (content last) left × RunsBetween (tells disk) files found es left before now end
  ran_between disk last s new files es before now end whole is history told limit ran last_is left_whole left_history =
      let h = history_held s.disk s in
      let h' = history_held last new in
      let by_disk = subst (λ d. runs.Runs (tells s.disk) fits s.limit files h es (history_held d new) before now end) (sym last_is) ran in
      let by_limit = subst (λ n. runs.Runs (tells s.disk) fits n files h es h' before now end) limit by_disk in (
        Ok h,
        Ok h',
        opens_history (tells disk) (content disk) h whole is history,
        opens_closed (tells last) (content last) new.writes left_whole left_history,
        (h, h', refl, refl, subst (λ t. runs.Runs t fits WRITE_LIMIT files h es h' before now end) told by_limit),
      )

  -- where no store was opened
  unopened_by : (T : Type 0) (disk last : D) (files : runs.Files) (es : List Event) (held : Option (List ℕ)) (e : ClusterFault) → (tells disk ≡ true → Reopens {T = T} (damage_in (content disk)) (Err e))
      → tells last ≡ tells disk → (tells disk ≡ true → stands (content last) ≡ stands (content disk))
      → (found : Result History ℕ) × (left : Result History ℕ) × Opens (tells disk) (content disk) found × Opens (tells last) (content last) left × FileRuns (tells disk) files found es left held held (Err (fault_of e))
  unopened_by T disk last files es held opening.Failed damage told same =
      let found = found_in (stands (content disk)) in
      let opens = opens_any (tells disk) (content disk) in
      (found, found, opens, opens_same (tells disk) (tells last) (content disk) (content last) found told same opens, (refl, refl))
  unopened_by T disk last files es held (opening.Damaged at) damage told same =
      let opens = opens_damage (tells disk) (content disk) at damage in
      (Err at, Err at, opens, opens_same (tells disk) (tells last) (content disk) (content last) (Err at) told same opens, (refl, refl, refl))
  unopened_by T disk last files es held opening.Memory damage told same =
      let found = found_in (stands (content disk)) in
      let opens = opens_any (tells disk) (content disk) in
      (found, found, opens, opens_same (tells disk) (tells last) (content disk) (content last) found told same opens, (refl, refl))

  pub unopened : (T : Type 0) (disk given last : D) (files : runs.Files) (es : List Event) (held : Option (List ℕ)) (e : ClusterFault) (r : Result Unit RunFault) → (tells disk ≡ true → Reopens {T = T} (damage_in (content disk)) (Err e))
      → tells given ≡ tells disk → (tells disk ≡ true → stands (content given) ≡ stands (content disk)) → r ≡ Err (fault_of e) → last ≡ given
      → (found : Result History ℕ) × (left : Result History ℕ) × Opens (tells disk) (content disk) found × Opens (tells last) (content last) left × FileRuns (tells disk) files found es left held held r
  unopened T disk given last files es held e r damage told same is last_is =
      let by_end = subst
      (λ k. (found : Result History ℕ) × (left : Result History ℕ) × Opens (tells disk) (content disk) found × Opens (tells given) (content given) left × FileRuns (tells disk) files found es left held held k)
      (sym is) (unopened_by T disk given files es held e damage told same) in
      subst
      (λ d. (found : Result History ℕ) × (left : Result History ℕ) × Opens (tells disk) (content disk) found × Opens (tells d) (content d) left × FileRuns (tells disk) files found es left held held r)
      (sym last_is) by_end
