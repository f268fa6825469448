-- The turns of a settle.
use Rattle.std.proofs.Common.{◌≡◌, ◌<◌, ◌+◌, true, false, ℕ, List, Option, Some, None, refl, sym, subst, inl, inr, arith}
use Rattle.std.specs.Option.{is_some}
use Rattle.cluster_objects.specs.declared.objects.Write.{Write}
use Rattle.cluster_history.specs.History.{After, History}
use Rattle.cluster_history.specs.Views.{View}
use Rattle.object_store.specs.Puts.{Agrees}
use Rattle.controller_rules.specs.Enabled.{IsQuiet}
use Rattle.run_rules.specs.Settling.{IsTurn, NoTurn, Turn, Turns}
use Rattle.run_rules.specs.States.{Outside, present}
use Rattle.controller.specs.Answers.{HasMore, IsNext, RestAnswers, SettleAnswers, TakesTurn, TurnAnswers}
use Rattle.controller.specs.declared.answers.Settled.{Settled}
use Rattle.controller.specs.declared.answers.Settled.TheVariants as settled
use Rattle.controller.specs.declared.answers.Turned.{Turned}
use Rattle.controller.specs.declared.answers.Turned.TheVariants as turned

-- the turn has its write
pub of_turn : (outside : Outside) (namespace : List ℕ) (h new : History) (w : Write) (answer : Turned)
    → IsTurn (present h namespace) w → TakesTurn outside h w new answer → TurnAnswers outside namespace h new answer
of_turn outside namespace h new w turned.Made is takes = (w, is, takes)
of_turn outside namespace h new w turned.Quiet is takes = absurd takes
of_turn outside namespace h new w turned.Blocked is takes = (w, is, takes)
of_turn outside namespace h new w turned.Full is takes = (w, is, takes)
of_turn outside namespace h new w turned.Failed is takes = inr (w, is, takes)
of_turn outside namespace h new w turned.Memory is takes = takes

-- The same after a call that left the history and what lies outside as they were.
pub of_turn_then : (before now : Outside) (namespace : List ℕ) (h mid new : History) (w : Write) (answer : Turned) → before ≡ now → mid ≡ h
    → IsTurn (present h namespace) w → TakesTurn before mid w new answer → TurnAnswers now namespace h new answer
of_turn_then before now namespace h mid new w answer same still is takes =
    of_turn now namespace h new w answer is
    (subst (λ (o : Outside). TakesTurn o h w new answer) same
    (subst (λ (g : History). TakesTurn before g w new answer) still takes))

-- what is next in a view
pub next_is_turn : (view : View) (next : Option Write) (w : Write) → next ≡ Some w → IsNext view next → IsTurn view w
next_is_turn view next w is next_is = subst (λ (o : Option Write). IsNext view o) is next_is

pub none_is_quiet : (view : View) (next : Option Write) → next ≡ None → IsNext view next → IsQuiet view
none_is_quiet view next is next_is = subst (λ (o : Option Write). IsNext view o) is next_is

pub some_is_more : (namespace : List ℕ) (h : History) (next : Option Write) → is_some next ≡ true → IsNext (present h namespace) next
    → HasMore namespace h
some_is_more namespace h None is next_is = absurd (let bad : false ≡ true = is in cc)
some_is_more namespace h (Some w) is next_is = (w, next_is)

-- turns, and one more after them
turns_then_one : (outside : Outside) (namespace : List ℕ) (n : ℕ) (h mid : History) (w : Write)
    → Turns outside namespace n h mid → IsTurn (present mid namespace) w → Agrees mid w → outside.has_room mid w ≡ true
    → Turns outside namespace (n + 1) h (After w mid)
turns_then_one outside namespace n h mid w (NoTurn start) is agrees room =
    Turn 0 w start (After w start) is agrees room (NoTurn (After w start))
turns_then_one outside namespace n h mid w (Turn m v start end first agreed roomy more) is agrees room =
    let e : 1 + (m + 1) ≡ 1 + m + 1 = omega arith in
    subst (λ (k : ℕ). Turns outside namespace k start (After w end)) e
    (Turn (m + 1) v start (After w end) first agreed roomy (turns_then_one outside namespace m (After v start) end w more is agrees room))

-- ---- what comes of a turn after so many

module _ (outside : Outside) (namespace : List ℕ) (turns writes : ℕ) (h mid new : History) (all : Turns outside namespace writes h mid) where
  pub one_more : TurnAnswers outside namespace mid new turned.Made → Turns outside namespace (writes + 1) h new
  one_more (w, is, made) =
      subst (λ (g : History). Turns outside namespace (writes + 1) h g) (sym made.2)
      (turns_then_one outside namespace writes h mid w all is made.0 made.1)

  pub ends_quiet : writes < turns → TurnAnswers outside namespace mid new turned.Quiet
      → SettleAnswers outside namespace turns h new (settled.Quiet writes)
  ends_quiet before (quiet, same) =
      subst (λ (g : History). SettleAnswers outside namespace turns h g (settled.Quiet writes)) (sym same)
      (omega arith, all, quiet)

  pub ends_blocked : writes < turns → TurnAnswers outside namespace mid new turned.Blocked
      → SettleAnswers outside namespace turns h new (settled.Unsettled writes)
  ends_blocked before (w, is, takes) =
      subst (λ (g : History). SettleAnswers outside namespace turns h g (settled.Unsettled writes)) (sym takes.1)
      (all, inr (before, (w, is, takes.0)))

  pub ends_full : writes < turns → TurnAnswers outside namespace mid new turned.Full
      → SettleAnswers outside namespace turns h new (settled.Full writes)
  ends_full before (w, is, takes) =
      subst (λ (g : History). SettleAnswers outside namespace turns h g (settled.Full writes)) (sym takes.2)
      (before, all, (w, is, takes.0, takes.1))

  pub ends_failed : writes < turns → TurnAnswers outside namespace mid new turned.Failed
      → SettleAnswers outside namespace turns h new (settled.Failed writes)
  ends_failed before (inl same) = (mid, omega arith, all, inl same)
  ends_failed before (inr (w, is, inl same)) = (mid, omega arith, all, inl same)
  ends_failed before (inr (w, is, inr made)) = (mid, omega arith, all, inr (before, (w, is, made)))

  pub ends_lacking : writes < turns → TurnAnswers outside namespace mid new turned.Memory
      → SettleAnswers outside namespace turns h new (settled.Memory writes)
  ends_lacking before same =
      subst (λ (g : History). SettleAnswers outside namespace turns h g (settled.Memory writes)) (sym same) (omega arith, all)

-- ---- what is found after the last turn

found : (outside : Outside) (namespace : List ℕ) (turns : ℕ) (h mid : History) (answer : Settled) → Turns outside namespace turns h mid
    → RestAnswers namespace turns mid answer → SettleAnswers outside namespace turns h mid answer
found outside namespace turns h mid (settled.Quiet n) all (last, quiet) =
    subst (λ (k : ℕ). SettleAnswers outside namespace turns h mid (settled.Quiet k)) (sym last) (omega arith, all, quiet)
found outside namespace turns h mid (settled.Unsettled n) all (last, more) =
    subst (λ (k : ℕ). SettleAnswers outside namespace turns h mid (settled.Unsettled k)) (sym last) (all, inl (refl, more))
found outside namespace turns h mid (settled.Full n) all is = absurd is
found outside namespace turns h mid (settled.Failed n) all last =
    subst (λ (k : ℕ). SettleAnswers outside namespace turns h mid (settled.Failed k)) (sym last) (mid, omega arith, all, inl refl)
found outside namespace turns h mid (settled.Memory n) all last =
    subst (λ (k : ℕ). SettleAnswers outside namespace turns h mid (settled.Memory k)) (sym last) (omega arith, all)

pub rested : (outside : Outside) (namespace : List ℕ) (turns : ℕ) (h mid new : History) (answer : Settled)
    → Turns outside namespace turns h mid → new ≡ mid → RestAnswers namespace turns mid answer
    → SettleAnswers outside namespace turns h new answer
rested outside namespace turns h mid new answer all same is =
    subst (λ (g : History). SettleAnswers outside namespace turns h g answer) (sym same) (found outside namespace turns h mid answer all is)
