-- One turn of the loops that read a range, in the form that the code's slices have.
use Rattle.std.proofs.Common.{◌≡◌, ◌+◌, ◌-◌, ◌<◌, ℕ, List, [], ◌∷◌, ◌++◌, Bool, true, false, Result, Ok, Err, length, take, drop, refl, sym, ap, ◌∙◌, arith, append_assoc, add_assoc, append-nil}
use Rattle.std.proofs.lemmas.List.{drop-drop, length-drop, take_rest}
use Rattle.std.proofs.Math.ListN.{drop_of_length-le}
use Rattle.std.specs.List.{prefix_len}
use Rattle.version_ranges.specs.Reading.{after_alternatives, after_conditions, alternative_at, alternatives, and_others, and_then, condition_at, conditions, ends, spaces}
use Rattle.version_ranges.specs.Terms.{Term}
use Rattle.version_ranges.specs.Words.{is_space}
use Rattle.version_ranges.specs.declared.fault.RangeFault.{RangeFault}
use Rattle.version_ranges.proofs.Turns.{Found, Read, alternatives_by_turn, conditions_by_turn}

-- ---- conditions

-- the conditions of a rest, where the alternative ends behind its spaces
pub at_end : (place : ℕ) (rest : List ℕ) → ends (drop (spaces rest) rest) ≡ true → conditions place rest ≡ Ok ([], spaces rest)
at_end place rest e = conditions_by_turn place rest ∙ rw e refl

-- and where a condition stands there
pub at_condition : (place : ℕ) (rest : List ℕ) (r : Result (Term × ℕ) RangeFault) → ends (drop (spaces rest) rest) ≡ false
    → condition_at (place + spaces rest) (drop (spaces rest) rest) ≡ r
    → conditions place rest ≡ and_then r (λ first. after_conditions (first.0 ∷ []) (spaces rest + first.1) (conditions (place + (spaces rest + first.1)) (drop (spaces rest + first.1) rest)))
at_condition place rest r e h = conditions_by_turn place rest ∙ rw (e, h) refl

after_nothing : (terms : List Term) (a b : ℕ) → after_conditions terms a (Ok ([], b)) ≡ Ok (terms, a + b)
after_nothing terms a b = rw (append-nil terms) refl

after_both : (terms : List Term) (term : Term) (a b : ℕ) (r : Read) → after_conditions terms a (after_conditions (term ∷ []) b r) ≡ after_conditions (terms ++ term ∷ []) (a + b) r
after_both terms term a b (Ok read) = rw (append_assoc terms (term ∷ []) read.0, add_assoc a b read.1) refl
after_both terms term a b (Err fault) = refl

-- the rest of a slice from a place, and from a later place
on : (a b : ℕ) (text : List ℕ) → take (length text - (a + b)) (drop (a + b) text) ≡ drop b (drop a text)
on a b text = take_rest text (a + b) ∙ sym (drop-drop b a text)

pub conditions_end : (place at s : ℕ) (rest : List ℕ) (terms : List Term) (e : Bool) (all : Read)
    → s ≡ prefix_len is_space (take (length rest - at) (drop at rest))
    → e ≡ ends (take (length rest - (at + s)) (drop (at + s) rest)) → e ≡ true
    → after_conditions terms at (conditions (place + at) (drop at rest)) ≡ all
    → all ≡ Ok (terms, at + s)
conditions_end place at s rest terms e all h k t inv =
    let count : s ≡ spaces (drop at rest) = h ∙ ap (prefix_len is_space) (take_rest rest at) in
    let end : ends (drop (spaces (drop at rest)) (drop at rest)) ≡ true = rw (← count) (ap ends (sym (on at s rest)) ∙ sym k ∙ t) in
    sym inv ∙ ap (after_conditions terms at) (at_end (place + at) (drop at rest) end) ∙ rw (← count) (after_nothing terms at s)

-- the conditions from a place, by the condition that stands behind the spaces
conditions_on : (place at s : ℕ) (rest : List ℕ) (e : Bool) (r : Result (Term × ℕ) RangeFault)
    → s ≡ prefix_len is_space (take (length rest - at) (drop at rest))
    → e ≡ ends (take (length rest - (at + s)) (drop (at + s) rest)) → e ≡ false
    → condition_at (place + (at + s)) (take (length rest - (at + s)) (drop (at + s) rest)) ≡ r
    → conditions (place + at) (drop at rest) ≡ and_then r (λ first. after_conditions (first.0 ∷ []) (s + first.1) (conditions (place + at + (s + first.1)) (drop (s + first.1) (drop at rest))))
conditions_on place at s rest e r h k f there =
    let count : s ≡ spaces (drop at rest) = h ∙ ap (prefix_len is_space) (take_rest rest at) in
    let open' : ends (drop (spaces (drop at rest)) (drop at rest)) ≡ false = rw (← count) (ap ends (sym (on at s rest)) ∙ sym k ∙ f) in
    let here : condition_at (place + at + spaces (drop at rest)) (drop (spaces (drop at rest)) (drop at rest)) ≡ r =
    rw (← count, ← on at s rest, add_assoc place at s) there in
    rw count (at_condition (place + at) (drop at rest) r open' here)

pub conditions_more : (place at s : ℕ) (rest : List ℕ) (terms longer : List Term) (term : Term) (count : ℕ) (e : Bool) (all : Read)
    → s ≡ prefix_len is_space (take (length rest - at) (drop at rest))
    → e ≡ ends (take (length rest - (at + s)) (drop (at + s) rest)) → e ≡ false
    → condition_at (place + (at + s)) (take (length rest - (at + s)) (drop (at + s) rest)) ≡ Ok (term, count)
    → longer ≡ terms ++ term ∷ []
    → after_conditions terms at (conditions (place + at) (drop at rest)) ≡ all
    → after_conditions longer (at + s + count) (conditions (place + (at + s + count)) (drop (at + s + count) rest)) ≡ all
conditions_more place at s rest terms longer term count e all h k f there grown inv =
    let this = conditions_on place at s rest e (Ok (term, count)) h k f there in
    let far : at + s + count ≡ at + (s + count) = omega arith in
    rw (grown, far, ← drop-drop (s + count) at rest, ← add_assoc place at (s + count))
    (sym (after_both terms term at (s + count) _) ∙ ap (after_conditions terms at) (sym this) ∙ inv)

pub conditions_fault : (place at s : ℕ) (rest : List ℕ) (terms : List Term) (fault : RangeFault) (e : Bool) (all : Read)
    → s ≡ prefix_len is_space (take (length rest - at) (drop at rest))
    → e ≡ ends (take (length rest - (at + s)) (drop (at + s) rest)) → e ≡ false
    → condition_at (place + (at + s)) (take (length rest - (at + s)) (drop (at + s) rest)) ≡ Err fault
    → after_conditions terms at (conditions (place + at) (drop at rest)) ≡ all
    → all ≡ Err fault
conditions_fault place at s rest terms fault e all h k f there inv =
    sym inv ∙ ap (after_conditions terms at) (conditions_on place at s rest e (Err fault) h k f there)

-- ---- alternatives

after_all : (found : List (List Term)) (first : List Term) (r : Found) → after_alternatives found (after_alternatives (first ∷ []) r) ≡ after_alternatives (found ++ first ∷ []) r
after_all found first (Ok others) = rw (append_assoc found (first ∷ []) others) refl
after_all found first (Err fault) = refl

others_there : (f : List ℕ → Found) (first : List Term) (behind : List ℕ) → 0 < length behind → and_others f first behind ≡ after_alternatives (first ∷ []) (f (drop 2 behind))
others_there f first [] h = absurd (omega arith)
others_there f first (byte ∷ rest) h = refl

-- the alternatives from a place, by the one that stands there
alternatives_on : (at : ℕ) (text : List ℕ) (r : Read)
    → alternative_at at (take (length text - at) (drop at text)) ≡ r
    → alternatives at (drop at text) ≡ and_then r (λ read. and_others (alternatives (at + (read.1 + 2))) read.0 (drop read.1 (drop at text)))
alternatives_on at text r there =
    alternatives_by_turn at (drop at text) ∙ rw (rw (take_rest text at) at there) refl

pub alternatives_end : (at count : ℕ) (text : List ℕ) (found longer : List (List Term)) (first : List Term) (all : Found)
    → alternative_at at (take (length text - at) (drop at text)) ≡ Ok (first, count)
    → at + count ≡ length text
    → longer ≡ found ++ first ∷ []
    → after_alternatives found (alternatives at (drop at text)) ≡ all
    → all ≡ Ok longer
alternatives_end at count text found longer first all there end grown inv =
    let nothing : drop count (drop at text) ≡ [] = drop-drop count at text ∙ drop_of_length-le text (omega arith) in
    let last : alternatives at (drop at text) ≡ Ok (first ∷ []) = alternatives_on at text (Ok (first, count)) there ∙ ap (and_others (alternatives (at + (count + 2))) first) nothing in
    sym inv ∙ ap (after_alternatives found) last ∙ ap Ok (sym grown)

pub alternatives_more : (at count : ℕ) (text : List ℕ) (found longer : List (List Term)) (first : List Term) (all : Found)
    → alternative_at at (take (length text - at) (drop at text)) ≡ Ok (first, count)
    → at + count < length text
    → longer ≡ found ++ first ∷ []
    → after_alternatives found (alternatives at (drop at text)) ≡ all
    → after_alternatives longer (alternatives (at + count + 2) (drop (at + count + 2) text)) ≡ all
alternatives_more at count text found longer first all there inside grown inv =
    let left = length-drop at text in
    let behind = length-drop count (drop at text) in
    let some : 0 < length (drop count (drop at text)) = omega (arith, left, behind) in
    let far : at + count + 2 ≡ at + (count + 2) = omega arith in
    let tail : drop 2 (drop count (drop at text)) ≡ drop (at + (count + 2)) text = drop-drop 2 count (drop at text) ∙ drop-drop (count + 2) at text in
    let this = alternatives_on at text (Ok (first, count)) there ∙ others_there (alternatives (at + (count + 2))) first (drop count (drop at text)) some in
    rw (grown, far, ← tail) (sym (after_all found first _) ∙ ap (after_alternatives found) (sym this) ∙ inv)

pub alternatives_fault : (at : ℕ) (text : List ℕ) (found : List (List Term)) (fault : RangeFault) (all : Found)
    → alternative_at at (take (length text - at) (drop at text)) ≡ Err fault
    → after_alternatives found (alternatives at (drop at text)) ≡ all
    → all ≡ Err fault
alternatives_fault at text found fault all there inv =
    sym inv ∙ ap (after_alternatives found) (alternatives_on at text (Err fault) there)
