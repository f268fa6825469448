-- What is told of a run: its line, and what may stand behind it.
use Rattle.std.proofs.Common.{◌≡◌, List, ℕ, [], true, ◌++◌, append-nil, refl, sym, subst, Option, Some, None}
use Rattle.olm_io.specs.Outside.{Appends, AppendsFront}
use Rattle.olm_io.proofs.Told.{appends_no_front, then_front}
use Rattle.olm_cli.specs.declared.causes.Cause.{Cause}
use Rattle.olm_cli.specs.declared.causes.Cause.TheVariants.{BadWords, BudgetSpent}
use Rattle.olm_cli.specs.Causes.{exit_of, is_silent}
use Rattle.olm_cli.specs.Lines.{MayFollow, Tells, line_of, told_line}

nothing_follows : (end : Option Cause) → MayFollow end []
nothing_follows None = refl
nothing_follows (Some BadWords) = tt
nothing_follows (Some _) = refl

-- the line alone
pub line_tells : (end : Option Cause) (old new : Option (List ℕ)) → AppendsFront old new (told_line end) → Tells end old new
line_tells end old new p = ([], nothing_follows end, subst (λ line. AppendsFront old new line) (sym (append-nil (told_line end))) p)

-- nothing, of a run that is done
pub nothing_tells : (known : Option (List ℕ)) → Tells None known known
nothing_tells known = line_tells None known known (appends_no_front known [])

-- nothing, of a spent budget
pub silence_tells : (known : Option (List ℕ)) → Tells (Some BudgetSpent) known known
silence_tells known = line_tells (Some BudgetSpent) known known (appends_no_front known [])

-- nothing is told of these causes alone
pub silent_cause : (cause : Cause) → is_silent (exit_of cause) ≡ true → cause ≡ BudgetSpent
silent_cause BudgetSpent e = refl
silent_cause _ e = absurd (cc)

-- the whole line that the words are of no form, and a front of a text
pub words_tell : (old between new : Option (List ℕ)) (text : List ℕ) → Appends old between (line_of BadWords) → AppendsFront between new text → Tells (Some BadWords) old new
words_tell old between new text whole front = (text, tt, then_front old between new (line_of BadWords) text whole front)
