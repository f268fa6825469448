-- A certificate that was read is no longer than its text.
use Rattle.std.proofs.Common.{◌≡◌, ◌+◌, ◌<◌, ◌≤◌, ℕ, List, [], ◌∷◌, ◌++◌, Ok, length, ap, arith}
use Rattle.std.specs.Prelude.{codes}
use Rattle.std.specs.Fmt.{decimal}
use Rattle.std.proofs.lemmas.List.{length-append}
use Rattle.derivations.specs.declared.Certificate.{Certificate}
use Rattle.derivations.specs.declared.Finding.{Finding}
use Rattle.derivations.specs.declared.Finding.TheVariants.{Chosen, Refused, Undecided}
use Rattle.derivations.specs.Text.{joined, token, lemma_line, step_line, finding_word, finding_lines, certificate_text}
use Rattle.derivations.specs.Reading.{certificate_of}
use Rattle.derivations.specs.Laws.{entries}
use Rattle.derivations.proofs.Again.{read_is_written}

joined_long : {A : Type 0} (text : A → List ℕ) → ((x : A) → 0 < length (text x)) → (xs : List A) → length xs ≤ length (joined text xs)
joined_long text some [] = omega arith
joined_long text some (x ∷ xs) = omega (arith, some x, joined_long text some xs, length-append (text x) (joined text xs))

abbrev walk_text : List ℕ → List ℕ
walk_text ns = codes "walk" ++ joined (λ n. token (decimal n)) ns

finding_long : (f : Finding) → entries f ≤ length (finding_lines f)
finding_long (Chosen ns steps) =
    omega (
      arith,
      joined_long (λ n. token (decimal n)) (λ n. omega arith) ns,
      joined_long step_line (λ s. omega arith) steps,
      length-append (walk_text ns ++ 10 ∷ []) (joined step_line steps),
      length-append (walk_text ns) (10 ∷ []),
      length-append (codes "walk") (joined (λ n. token (decimal n)) ns),
    )
finding_long (Refused r) = omega arith
finding_long Undecided = omega arith

abbrev head_text : Certificate → List ℕ
head_text c = codes "certificate 1 " ++ finding_word c.finding ++ codes "vars" ++ token (decimal c.vars) ++ codes "\n"

text_long : (c : Certificate) → length c.log.lemmas + entries c.finding ≤ length (certificate_text c)
text_long c =
    let j = joined lemma_line c.log.lemmas in
    let f = finding_lines c.finding in
    omega (
      arith,
      finding_long c.finding,
      joined_long lemma_line (λ l. omega arith) c.log.lemmas,
      length-append (head_text c ++ j ++ f) (codes "end\n"),
      length-append (head_text c ++ j) f,
      length-append (head_text c) j,
    )

pub read_is_bounded : (text : List ℕ) (c : Certificate) → certificate_of text ≡ Ok c → length c.log.lemmas + entries c.finding ≤ length text
read_is_bounded text c h = omega (arith, text_long c, ap length (read_is_written text c h))
