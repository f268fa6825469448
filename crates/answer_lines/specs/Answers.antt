-- What is printed of a decision.
use Rattle.std.specs.Prelude.{ℕ, List, [], ◌++◌, length, codes}
use Rattle.derivations.specs.declared.Certificate.{Certificate}
use Rattle.derivations.specs.Text.{certificate_text}
use Rattle.derivation_check.specs.declared.Verdict.{Verdict}
use Rattle.derivation_check.specs.declared.Verdict.TheVariants as verdicts
use Rattle.preference_search.specs.declared.Decision.{Decision}
use Rattle.preference_search.specs.declared.Decision.TheVariants.{Chosen, Refused, Undecided}
use Rattle.answer_lines.specs.declared.Pick.{Pick}
use Rattle.answer_lines.specs.Picks.{pick_lines}

-- the decision's word
abbrev pub word_line : Decision → List ℕ
word_line (Chosen numbers set certificate) = codes "chosen\n"
word_line (Refused certificate) = codes "refused\n"
word_line (Undecided certificate) = codes "undecided\n"

-- what is picked, where something is chosen
abbrev pub lines_if_chosen : List Pick → Decision → List ℕ
lines_if_chosen picks (Chosen numbers set certificate) = pick_lines picks
lines_if_chosen picks (Refused certificate) = []
lines_if_chosen picks (Undecided certificate) = []

-- the decision's certificate
abbrev pub certificate_of : Decision → Certificate
certificate_of (Chosen numbers set certificate) = certificate
certificate_of (Refused certificate) = certificate
certificate_of (Undecided certificate) = certificate

-- the word, what is picked, and the certificate
abbrev pub answer_text : List Pick → Decision → List ℕ
answer_text picks decision = word_line decision ++ lines_if_chosen picks decision ++ certificate_text (certificate_of decision)

-- what the certificate of a decision within a budget shows of its problem
abbrev pub shown : ℕ → Decision → Verdict
shown budget (Chosen numbers set certificate) = verdicts.Chosen (length numbers)
shown budget (Refused certificate) = verdicts.Refused
shown budget (Undecided certificate) = verdicts.Undecided budget
