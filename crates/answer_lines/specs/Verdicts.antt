-- What is printed of a text that is to be a certificate of a problem.
use Rattle.std.specs.Prelude.{◌≡◌, ℕ, Bool, true, false, List, ◌++◌, codes, Result, Ok, Err}
use Rattle.std.specs.Fmt.{decimal}
use Rattle.op_constraints.specs.declared.Constraint.{Constraint}
use Rattle.derivations.specs.declared.Certificate.{Certificate}
use Rattle.derivations.specs.declared.LogCause.{LogCause}
use Rattle.derivations.specs.declared.LogCause.TheVariants.{BadClause, NoSuchHint, BadGiven, HintNotUnit, NoConflict}
use Rattle.derivations.specs.declared.reading.cert_text.CertText.{CertText}
use Rattle.derivations.specs.declared.reading.cert_text.CertText.TheVariants as texts
use Rattle.derivations.specs.Accepted.{IsAccepted}
use Rattle.derivations.specs.Laws.{IsRight}
use Rattle.derivations.specs.Reading.{certificate_of}
use Rattle.derivations.specs.Text.{token}
use Rattle.derivation_check.specs.declared.CertFault.{CertFault}
use Rattle.derivation_check.specs.declared.CertFault.TheVariants.{WrongSize, Lemma, Walk, NotMet, Missing, Extra, Denies, Step, WholeDenies, WholeStep}
use Rattle.derivation_check.specs.declared.Verdict.{Verdict}
use Rattle.derivation_check.specs.declared.Verdict.TheVariants.{Chosen, Refused, Undecided}
use Rattle.derivation_check.specs.Faults.{unless, first_fault, verdict_of}

abbrev pub verdict_text : Verdict → List ℕ
verdict_text (Chosen length) = codes "chosen" ++ token (decimal length)
verdict_text Refused = codes "refused"
verdict_text (Undecided lemmas) = codes "undecided" ++ token (decimal lemmas)

abbrev pub cause_text : LogCause → List ℕ
cause_text BadClause = codes "bad-clause"
cause_text NoSuchHint = codes "no-such-hint"
cause_text BadGiven = codes "bad-given"
cause_text HintNotUnit = codes "hint-not-unit"
cause_text NoConflict = codes "no-conflict"

-- a word and one number, or two
abbrev pub with_one : List ℕ → ℕ → List ℕ
with_one word n = word ++ token (decimal n)

abbrev pub with_two : List ℕ → ℕ → ℕ → List ℕ
with_two word n m = word ++ token (decimal n) ++ token (decimal m)

-- a certificate's fault
abbrev pub fault_text : CertFault → List ℕ
fault_text (WrongSize found expected) = with_two (codes "wrong-size") found expected
fault_text (Lemma fault) = with_one (codes "lemma") fault.number ++ token (cause_text fault.cause)
fault_text (Walk position) = with_one (codes "walk") position
fault_text (NotMet var constraint) = with_two (codes "not-met") var constraint
fault_text (Missing choice candidate) = with_two (codes "missing") choice candidate
fault_text (Extra position) = with_one (codes "extra") position
fault_text (Denies choice candidate) = with_two (codes "denies") choice candidate
fault_text (Step choice candidate cause) = with_two (codes "step") choice candidate ++ token (cause_text cause)
fault_text WholeDenies = codes "whole-denies"
fault_text (WholeStep cause) = codes "whole-step" ++ token (cause_text cause)

-- the fault of a text that is no certificate. Want of memory is no fault of a text, and no text reads so
abbrev pub text_fault_text : CertText → List ℕ
text_fault_text (texts.BadLine line) = with_one (codes "bad line") line
text_fault_text (texts.BadNumber line) = with_one (codes "bad number") line
text_fault_text texts.CutShort = codes "cut short"
text_fault_text texts.Memory = codes "out of memory"

abbrev pub accepted_line : List ℕ → List ℕ
accepted_line text = codes "accepted " ++ text ++ codes "\n"

abbrev pub not_accepted_line : List ℕ → List ℕ
not_accepted_line text = codes "not accepted: " ++ text ++ codes "\n"

-- the line of a checker's answer, and whether it accepts
abbrev pub checked : Result Verdict CertFault → List ℕ × Bool
checked (Ok verdict) = (accepted_line (verdict_text verdict), true)
checked (Err fault) = (not_accepted_line (fault_text fault), false)

-- a checker's answer for a certificate: its first fault, or what it shows
abbrev pub judged : List (List Constraint) → Certificate → List ℕ × Bool
judged problem certificate = checked (unless (first_fault problem certificate) (verdict_of certificate certificate.finding))

-- the same of what a text reads as, where a text that is no certificate isn't accepted
abbrev pub read_and_judged : List (List Constraint) → Result Certificate CertText → List ℕ × Bool
read_and_judged problem (Ok certificate) = judged problem certificate
read_and_judged problem (Err fault) = (not_accepted_line (text_fault_text fault), false)

-- the line of a text over a problem, and whether the text is accepted
abbrev pub verified : List (List Constraint) → List ℕ → List ℕ × Bool
verified problem text = read_and_judged problem (certificate_of text)

-- the text is a certificate that is accepted, and it finds what is right: a walk that is best, or that no set meets the problem
pub record IsProof (problem : List (List Constraint)) (text : List ℕ) : Type 0 where
  pub certificate : Certificate
  pub read : certificate_of text ≡ Ok certificate
  pub accepted : IsAccepted problem certificate
  pub right : IsRight problem certificate.finding
