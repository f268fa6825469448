-- What one event comes to, by what its write came to and by what was printed of it.
use Rattle.std.proofs.Common.{◌≡◌, ℕ, Bool, true, false, List, [], ◌++◌, Option, Result, Ok, Err, refl, sym, ap, ◌∙◌, subst, inl, inr}
use Rattle.std.proofs.KnownBytes.{Appends-nil}
use Rattle.std.specs.Io.KnownBytes.{Appends}
use Rattle.olm_io.specs.Outside.{AppendsFront}
use Rattle.cluster_objects.specs.declared.keys.Key.{Key}
use Rattle.cluster_objects.specs.declared.objects.Write.{Write}
use Rattle.cluster_history.specs.History.{History, After, position}
use Rattle.event_script.specs.declared.events.Event.{Event}
use Rattle.event_script.specs.declared.events.Event.TheVariants as event
use Rattle.event_script.specs.Running.{RunsNow}
use Rattle.user_events.specs.Answers.{Answers}
use Rattle.user_events.specs.declared.answers.UserAnswer.{UserAnswer}
use Rattle.user_events.specs.declared.answers.UserAnswer.TheVariants as answer
use Rattle.folder_events.specs.Events.{Asks, HasKey, is_of_folder, is_users}
use Rattle.event_runs.specs.Lines.{done_line, refused_line, restart_line}
use Rattle.event_runs.specs.Runs.{Files, Halts, MayLeave, Nothing, Wrote, Reopened, IsReopened, Passes, Written, Refused, Restarted, Prints, Steps}
use Rattle.event_runs.specs.declared.halts.Halt.{Halt}
use Rattle.event_runs.specs.declared.halts.Halt.TheVariants as halt

module _ (tells : Bool) (fits : History → Write → Bool) (limit : ℕ) (files : Files) (h new : History) (e : Event) (before now : Option (List ℕ)) where
  -- An event that went by with a line, and the putting of that line. Where memory ran out the write may stand without it.
  pub printed : (line : List ℕ) → Passes tells fits limit files h e new line → MayLeave tells fits limit files h e new
      → (r : Result Unit Halt) → Prints line before now r → Steps tells fits limit files h e new before now r
  printed line passes may (Ok done) p = (line, passes, p)
  printed line passes may (Err halt.OutputFailed) p = (line, passes, p)
  printed line passes may (Err halt.FolderFailed) p = absurd p
  printed line passes may (Err halt.StoreFailed) p = absurd p
  printed line passes may (Err (halt.Damaged at)) p = absurd p
  printed line passes may (Err halt.Full) p = absurd p
  printed line passes may (Err halt.Memory) p = (may, p)

  pub done_steps : (key : Key) (version : ℕ) → Answers fits limit h (Asks files h e) new (answer.Done key version)
      → (r : Result Unit Halt) → Prints (done_line e key version) before now r → Steps tells fits limit files h e new before now r
  done_steps key version (w, (asks, room, made), same_key, same_version) r p =
      printed (done_line e key version)
      (subst (λ n. Passes tells fits limit files h e n (done_line e key version)) (sym made)
      (subst (λ (k : Key). Passes tells fits limit files h e (After w h) (done_line e k version)) (sym same_key)
      (subst (λ v. Passes tells fits limit files h e (After w h) (done_line e w.key v)) (sym (same_version ∙ ap position made)) (Written e w asks room))))
      (subst (MayLeave tells fits limit files h e) (sym made) (Wrote e w asks room)) r p

  pub refused_steps : (reason : List ℕ) → Answers fits limit h (Asks files h e) new (answer.Refused reason)
      → (r : Result Unit Halt) → Prints (refused_line e reason) before now r → Steps tells fits limit files h e new before now r
  refused_steps reason (asks, same) r p =
      printed (refused_line e reason)
      (subst (λ n. Passes tells fits limit files h e n (refused_line e reason)) (sym same) (Refused e reason asks)) (subst (MayLeave tells fits limit files h e) (sym same) (Nothing e)) r p

-- An event that a run applies and that is no user's is a restart.
no_users : (e : Event) → is_users e ≡ false → RunsNow e → e ≡ event.Restart
no_users (event.Apply body) users run = absurd (cc)
no_users (event.Delete group kind namespace name) users run = absurd (cc)
no_users (event.Approve namespace name) users run = absurd (cc)
no_users (event.Catalog namespace name path priority) users run = absurd (cc)
no_users (event.Ready namespace name state) users run = absurd (cc)
no_users (event.Retry namespace budget) users run = absurd (cc)
no_users (event.Worker role namespace) users run = absurd (cc)
no_users (event.Look worker) users run = absurd (cc)
no_users (event.Act worker) users run = absurd (cc)
no_users (event.Settle namespace turns) users run = absurd (cc)
no_users event.Restart users run = refl
no_users (event.Release namespace) users run = absurd (cc)
no_users (event.Lease worker now keep) users run = absurd (cc)

module _ (tells : Bool) (fits : History → Write → Bool) (limit : ℕ) (files : Files) (h new : History) (e : Event) (users : is_users e ≡ false) (run : RunsNow e) (same : IsReopened tells h new) where
  at_restart : (P : Event → Type 0) → P event.Restart → P e
  at_restart P p = subst P (sym (no_users e users run)) p

  pub restart_steps : (before now : Option (List ℕ)) (r : Result Unit Halt) → Prints restart_line before now r → Steps tells fits limit files h e new before now r
  restart_steps before now r p =
      at_restart (λ e. Steps tells fits limit files h e new before now r)
      (printed tells fits limit files h new event.Restart before now restart_line (Restarted new same) (Reopened new same) r p)

  pub reopen_steps : (before : Option (List ℕ)) → Steps tells fits limit files h e new before before (Err halt.StoreFailed)
  reopen_steps before = at_restart (λ e. Steps tells fits limit files h e new before before (Err halt.StoreFailed)) (tt, Reopened new same, Appends-nil before)

  pub damaged_steps : (before : Option (List ℕ)) (at : ℕ) → tells ≡ false → Steps tells fits limit files h e new before before (Err (halt.Damaged at))
  damaged_steps before at untold = (untold, no_users e users run, Appends-nil before)

  pub unread_steps : (before : Option (List ℕ)) → Steps tells fits limit files h e new before before (Err halt.Memory)
  unread_steps before = at_restart (λ e. Steps tells fits limit files h e new before before (Err halt.Memory)) (Reopened new same, Appends-nil before)

-- Nothing was put.
module _ (tells : Bool) (fits : History → Write → Bool) (limit : ℕ) (files : Files) (h new : History) (e : Event) (before : Option (List ℕ)) where
  pub full_steps : Answers fits limit h (Asks files h e) new answer.Full → Steps tells fits limit files h e new before before (Err halt.Full)
  full_steps (w, asks, room, same) = (w, asks, room, same, Appends-nil before)

  pub lost_steps : HasKey e → Answers fits limit h (Asks files h e) new answer.StoreFailed → Steps tells fits limit files h e new before before (Err halt.StoreFailed)
  lost_steps key (inl same) = (key, subst (MayLeave tells fits limit files h e) (sym same) (Nothing e), Appends-nil before)
  lost_steps key (inr (w, (asks, room, made))) = (key, subst (MayLeave tells fits limit files h e) (sym made) (Wrote e w asks room), Appends-nil before)

  pub folder_steps : is_of_folder e ≡ true → Answers fits limit h (Asks files h e) new answer.FolderFailed → Steps tells fits limit files h e new before before (Err halt.FolderFailed)
  folder_steps folder same = (folder, same, Appends-nil before)

  pub memory_steps : Answers fits limit h (Asks files h e) new answer.Memory → Steps tells fits limit files h e new before before (Err halt.Memory)
  memory_steps same = (subst (MayLeave tells fits limit files h e) (sym same) (Nothing e), Appends-nil before)
