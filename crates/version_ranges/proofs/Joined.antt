-- The reading of two texts joined by `||`.
use Rattle.std.proofs.Common.{◌≡◌, ◌+◌, ◌<◌, ◌≤◌, ◌==◌, ℕ, zero, suc, List, [], ◌∷◌, ◌++◌, Bool, true, false, Option, Some, None, Result, Ok, Err, length, drop, refl, sym, ap, ◌∙◌, arith, inl, inr}
use Rattle.std.specs.Prelude.{◌&&◌}
use Rattle.std.proofs.lemmas.Bool.{cases_Bool, eqb-true}
use Rattle.std.proofs.lemmas.List.{drop-append-le, drop-drop, length-drop, take-append-le}
use Rattle.std.proofs.lemmas.List.Folds.{length-prefix_len}
use Rattle.std.proofs.lemmas.List.Sums.{prefix_len-le-length}
use Rattle.std.specs.List.{prefix_len, take_while}
use Rattle.std.specs.Option.{ok_or}
use Rattle.version_ranges.specs.Reading.{after_alternatives, after_conditions, alternative_at, alternatives, and_others, and_then, condition_at, conditions, ends, filled, operator_at, operator_run, spaces, word_at, word_run, word_start}
use Rattle.version_ranges.specs.Terms.{Term}
use Rattle.version_ranges.specs.Words.{bound_of_word, is_operator_byte, is_space, is_word_byte, operator_of, read_word}
use Rattle.version_ranges.specs.declared.fault.RangeFault.{RangeFault}
use Rattle.version_ranges.specs.declared.fault.RangeFault.TheVariants.{BadOperator}
use Rattle.version_ranges.proofs.Loops.{at_condition, at_end}
use Rattle.version_ranges.proofs.Turns.{Found, Read, alternatives_by_turn, has_bytes, no_word, parted, same_value, step_there}

-- `||` and what follows it
abbrev pub behind_bars : List ℕ → List ℕ
behind_bars text = 124 ∷ 124 ∷ text

-- ---- runs that end at a bar

prefix_stop : (p : ℕ → Bool) (xs ys : List ℕ) → p 124 ≡ false → prefix_len p (xs ++ 124 ∷ ys) ≡ prefix_len p xs
prefix_stop p [] ys h = rw h refl
prefix_stop p (x ∷ xs) ys h = rw (prefix_stop p xs ys h) refl

run_stop : (p : ℕ → Bool) (xs ys : List ℕ) → p 124 ≡ false → take_while p (xs ++ 124 ∷ ys) ≡ take_while p xs
run_stop p xs ys h = rw (prefix_stop p xs ys h) (take-append-le (prefix_len p xs) xs (124 ∷ ys) (prefix_len-le-length p xs))

spaces_stop : (a b : List ℕ) → spaces (a ++ behind_bars b) ≡ spaces a
spaces_stop a b = prefix_stop is_space a (124 ∷ b) refl

-- ---- a condition in front of bars

operator_stop : (a b : List ℕ) → operator_run (a ++ behind_bars b) ≡ operator_run a
operator_stop a b = run_stop is_operator_byte a (124 ∷ b) refl

run_within : (a : List ℕ) → length (operator_run a) ≤ length a
run_within a = omega (arith, length-prefix_len is_operator_byte a, prefix_len-le-length is_operator_byte a)

start_within : (a : List ℕ) → word_start a ≤ length a
start_within a =
    omega (arith, run_within a, prefix_len-le-length is_space (drop (length (operator_run a)) a), length-drop (length (operator_run a)) a)

start_stop : (a b : List ℕ) → word_start (a ++ behind_bars b) ≡ word_start a
start_stop a b =
    let run = operator_stop a b in
    let cut : drop (length (operator_run a)) (a ++ behind_bars b) ≡ drop (length (operator_run a)) a ++ behind_bars b = drop-append-le (length (operator_run a)) a (behind_bars b) (run_within a) in
    ap (λ r. length r + spaces (drop (length r) (a ++ behind_bars b))) run
    ∙ ap (λ t. length (operator_run a) + spaces t) cut
    ∙ ap (λ n. length (operator_run a) + n) (spaces_stop (drop (length (operator_run a)) a) b)

word_stop : (a b : List ℕ) → word_run (a ++ behind_bars b) ≡ word_run a
word_stop a b =
    let cut : drop (word_start a) (a ++ behind_bars b) ≡ drop (word_start a) a ++ behind_bars b = drop-append-le (word_start a) a (behind_bars b) (start_within a) in
    ap (λ n. take_while is_word_byte (drop n (a ++ behind_bars b))) (start_stop a b)
    ∙ ap (take_while is_word_byte) cut
    ∙ run_stop is_word_byte (drop (word_start a) a) (124 ∷ b) refl

-- a condition by its pieces
unfoldable pub condition_of : ℕ → List ℕ → ℕ → List ℕ → Result (Term × ℕ) RangeFault
condition_of place run start word =
    and_then (ok_or (operator_of run) (BadOperator place)) (λ operator.
    and_then (read_word (place + start) word) (λ bound.
    Ok (record { operator = operator; bound = bound }, start + length word)))

pub by_pieces : (place : ℕ) (rest : List ℕ) → condition_at place rest ≡ condition_of place (operator_run rest) (word_start rest) (word_run rest)
unfolding condition_at condition_of
by_pieces place rest = refl

condition_stop : (place : ℕ) (a b : List ℕ) → condition_at place (a ++ behind_bars b) ≡ condition_at place a
condition_stop place a b =
    by_pieces place (a ++ behind_bars b)
    ∙ ap (λ r. condition_of place r (word_start (a ++ behind_bars b)) (word_run (a ++ behind_bars b))) (operator_stop a b)
    ∙ ap (λ n. condition_of place (operator_run a) n (word_run (a ++ behind_bars b))) (start_stop a b)
    ∙ ap (λ w. condition_of place (operator_run a) (word_start a) w) (word_stop a b)
    ∙ sym (by_pieces place a)

-- no fault: the place doesn't matter
same_or : {A : Type 0} (o : Option A) (e f : RangeFault) (x : A) → ok_or o e ≡ Ok x → ok_or o f ≡ Ok x
same_or (Some y) e f x h = h
same_or None e f x h = cc h

condition_moved : (place other : ℕ) (rest : List ℕ) (first : Term × ℕ) → condition_at place rest ≡ Ok first → condition_at other rest ≡ Ok first
unfolding condition_at
condition_moved place other rest first h =
    let p = parted place rest first h in
    let operator : operator_at other rest ≡ Ok p.operator = same_or (operator_of (operator_run rest)) _ _ p.operator p.first_is in
    let bound : word_at other rest ≡ Ok p.bound = same_or (bound_of_word (word_run rest)) _ _ p.bound p.then_is in
    rw (operator, bound) (ap Ok (sym p.value_is))

condition_within : (place : ℕ) (rest : List ℕ) (first : Term × ℕ) → condition_at place rest ≡ Ok first → first.1 ≤ length rest
condition_within place rest first h =
    let p = parted place rest first h in
    rw p.value_is (omega (arith, start_within rest, length-drop (word_start rest) rest, length-prefix_len is_word_byte (drop (word_start rest) rest), prefix_len-le-length is_word_byte (drop (word_start rest) rest)))

no_bar : (place : ℕ) (rest : List ℕ) (first : Term × ℕ) → condition_at place (124 ∷ rest) ≡ Ok first → ⊥
no_bar place rest first h =
    let p = parted place (124 ∷ rest) first h in
    no_word (place + 0) p.bound p.then_is

-- ---- the end of an alternative in front of bars

ends_stop : (a b : List ℕ) → ends a ≡ true → ends (a ++ behind_bars b) ≡ true
ends_stop [] b h = refl
ends_stop (x ∷ []) b h = cc h
ends_stop (x ∷ y ∷ a) b h = h

and_true : (b : Bool) → b ≡ false → (b && true) ≡ false
and_true b h = rw h refl

goes_on_byte : (place x : ℕ) (a : List ℕ) (first : Term × ℕ) → condition_at place (x ∷ a) ≡ Ok first → x == 124 ≡ false
goes_on_byte place x a first h = elim (cases_Bool (x == 124)) [
  | inl bar ↦ absurd (no_bar place a first (rw (eqb-true x 124 bar) at h))
  | inr other ↦ other
]

goes_on : (place : ℕ) (a b : List ℕ) (first : Term × ℕ) → ends a ≡ false → condition_at place a ≡ Ok first → ends (a ++ behind_bars b) ≡ false
goes_on place [] b first h k = cc h
goes_on place (x ∷ []) b first h k = and_true (x == 124) (goes_on_byte place x [] first k)
goes_on place (x ∷ y ∷ a) b first h k = h

-- ---- conditions in front of bars

after_there : (terms : List Term) (count : ℕ) (r : Read) (read : List Term × ℕ) → after_conditions terms count r ≡ Ok read → (x : List Term × ℕ) × (r ≡ Ok x) × (read ≡ (terms ++ x.0, count + x.1))
after_there terms count (Ok x) read h = (x, refl, sym (same_value _ _ h))
after_there terms count (Err fault) read h = cc h

-- conditions that were read stand at any place, and in front of bars
pub record Stands (other : ℕ) (a b : List ℕ) (read : List Term × ℕ) : Type 0 where
  pub moved : conditions other a ≡ Ok read
  pub barred : conditions other (a ++ behind_bars b) ≡ Ok read
  pub within : read.1 ≤ length a
  pub ended : ends (drop read.1 a) ≡ true

-- where the alternative ends behind spaces
stands_end : (place other : ℕ) (a b : List ℕ) (read : List Term × ℕ) → ends (drop (spaces a) a) ≡ true → conditions place a ≡ Ok read → Stands other a b read
stands_end place other a b read e h =
    let value : ([], spaces a) ≡ read = same_value _ _ (sym (at_end place a e) ∙ h) in
    let cut : drop (spaces a) (a ++ behind_bars b) ≡ drop (spaces a) a ++ behind_bars b = drop-append-le (spaces a) a (behind_bars b) (prefix_len-le-length is_space a) in
    let end : ends (drop (spaces (a ++ behind_bars b)) (a ++ behind_bars b)) ≡ true = rw (spaces_stop a b, cut) (ends_stop (drop (spaces a) a) b e) in
    rw (← value) (record {
      moved = at_end other a e;
      barred = at_end other (a ++ behind_bars b) end ∙ rw (spaces_stop a b) refl;
      within = prefix_len-le-length is_space a;
      ended = e;
    })

-- where a condition stands behind spaces, and others that were read follow
stands_more : (place other : ℕ) (a b : List ℕ) (first : Term × ℕ) (more : List Term × ℕ) → ends (drop (spaces a) a) ≡ false
    → condition_at place (drop (spaces a) a) ≡ Ok first
    → Stands (other + (spaces a + first.1)) (drop (spaces a + first.1) a) b more
    → Stands other a b (first.0 ∷ [] ++ more.0, spaces a + first.1 + more.1)
stands_more place other a b first more e here rest =
    let blank = prefix_len-le-length is_space a in
    let size = condition_within place (drop (spaces a) a) first here in
    let left = length-drop (spaces a) a in
    let within : spaces a + first.1 ≤ length a = omega arith in
    let behind = length-drop (spaces a + first.1) a in
    let moved = condition_moved place (other + spaces a) (drop (spaces a) a) first here in
    let cut : drop (spaces a) (a ++ behind_bars b) ≡ drop (spaces a) a ++ behind_bars b = drop-append-le (spaces a) a (behind_bars b) blank in
    let far : drop (spaces a + first.1) (a ++ behind_bars b) ≡ drop (spaces a + first.1) a ++ behind_bars b = drop-append-le (spaces a + first.1) a (behind_bars b) within in
    let on : ends (drop (spaces (a ++ behind_bars b)) (a ++ behind_bars b)) ≡ false = rw (spaces_stop a b, cut) (goes_on place (drop (spaces a) a) b first e here) in
    let there : condition_at (other + spaces (a ++ behind_bars b)) (drop (spaces (a ++ behind_bars b)) (a ++ behind_bars b)) ≡ Ok first =
    rw (spaces_stop a b, cut) (condition_stop (other + spaces a) (drop (spaces a) a) b ∙ moved) in
    let barred = at_condition other (a ++ behind_bars b) (Ok first) on there in
    record {
      moved = at_condition other a (Ok first) e moved ∙ ap (after_conditions (first.0 ∷ []) (spaces a + first.1)) rest.moved;
      barred = rw (spaces_stop a b, far) at barred ∙ ap (after_conditions (first.0 ∷ []) (spaces a + first.1)) rest.barred;
      within = omega (arith, rest.within);
      ended = rw (← drop-drop more.1 (spaces a + first.1) a) rest.ended;
    }

pub stands : (n place other : ℕ) (a b : List ℕ) (read : List Term × ℕ) → length a < n → conditions place a ≡ Ok read → Stands other a b read
stands zero place other a b read l h = absurd (omega arith)
stands (suc n) place other a b read l h = elim (cases_Bool (ends (drop (spaces a) a))) [
  | inl end ↦ stands_end place other a b read end h
  | inr on ↦
      let this = sym (at_condition place a (condition_at (place + spaces a) (drop (spaces a) a)) on refl) ∙ h in
      let one = step_there (condition_at (place + spaces a) (drop (spaces a) a)) (λ first. after_conditions (first.0 ∷ []) (spaces a + first.1) (conditions (place + (spaces a + first.1)) (drop (spaces a + first.1) a))) read this in
      let more = after_there (one.0.0 ∷ []) (spaces a + one.0.1) (conditions (place + (spaces a + one.0.1)) (drop (spaces a + one.0.1) a)) read one.2 in
      let some = has_bytes (place + spaces a) (drop (spaces a) a) one.0 one.1 in
      let size = condition_within (place + spaces a) (drop (spaces a) a) one.0 one.1 in
      let left = length-drop (spaces a) a in
      let behind = length-drop (spaces a + one.0.1) a in
      let rest = stands n (place + (spaces a + one.0.1)) (other + (spaces a + one.0.1)) (drop (spaces a + one.0.1) a) b more.0 (omega arith) more.1 in
      rw more.2 (stands_more (place + spaces a) other a b one.0 more.0 on one.1 rest)
]

-- ---- alternatives in front of bars

-- an alternative that was read stands at any place, and in front of bars
pub record StandsAlone (other : ℕ) (a b : List ℕ) (read : List Term × ℕ) : Type 0 where
  pub moved : alternative_at other a ≡ Ok read
  pub barred : alternative_at other (a ++ behind_bars b) ≡ Ok read
  pub within : read.1 ≤ length a
  pub ended : ends (drop read.1 a) ≡ true

filled_there : (place other : ℕ) (terms : List Term) (count : ℕ) (read : List Term × ℕ) → filled place terms count ≡ Ok read → ((terms, count) ≡ read) × (filled other terms count ≡ Ok read)
filled_there place other [] count read h = cc h
filled_there place other (term ∷ terms) count read h = (same_value _ _ h, h)

stands_alone : (place other : ℕ) (a b : List ℕ) (read : List Term × ℕ) → alternative_at place a ≡ Ok read → StandsAlone other a b read
stands_alone place other a b read h =
    let one = step_there (conditions place a) (λ r. filled place r.0 r.1) read h in
    let full = filled_there place other one.0.0 one.0.1 read one.2 in
    let s = stands (suc (length a)) place other a b one.0 (omega arith) one.1 in
    record {
      moved = ap (λ r. and_then r (λ x. filled other x.0 x.1)) s.moved ∙ full.1;
      barred = ap (λ r. and_then r (λ x. filled other x.0 x.1)) s.barred ∙ full.1;
      within = rw (← full.0) s.within;
      ended = rw (← full.0) s.ended;
    }

found_there : (first : List Term) (r : Found) (x : List (List Term)) → after_alternatives (first ∷ []) r ≡ Ok x → (others : List (List Term)) × (r ≡ Ok others) × (x ≡ first ∷ others)
found_there first (Ok others) x h = (others, refl, sym (same_value _ _ h))
found_there first (Err fault) x h = cc h

-- what follows an alternative, by the rest behind it
moved_behind : (n : ℕ) (f g : List ℕ → Found) (first : List Term) (behind : List ℕ) (x : List (List Term))
    → length behind < suc n
    → ((shorter : List ℕ) (y : List (List Term)) → length shorter < n → f shorter ≡ Ok y → g shorter ≡ Ok y)
    → and_others f first behind ≡ Ok x → and_others g first behind ≡ Ok x
moved_behind n f g first [] x l ih h = h
moved_behind n f g first (byte ∷ rest) x l ih h =
    let more = found_there first (f (drop 2 (byte ∷ rest))) x h in
    let left = length-drop 2 (byte ∷ rest) in
    let there : g (drop 2 (byte ∷ rest)) ≡ Ok more.0 = ih (drop 2 (byte ∷ rest)) more.0 (omega arith) more.1 in
    rw there (ap Ok (sym more.2))

pub alternatives_moved : (n place other : ℕ) (a : List ℕ) (x : List (List Term)) → length a < n → alternatives place a ≡ Ok x → alternatives other a ≡ Ok x
alternatives_moved zero place other a x l h = absurd (omega arith)
alternatives_moved (suc n) place other a x l h =
    let one = step_there (alternative_at place a) (λ read. and_others (alternatives (place + (read.1 + 2))) read.0 (drop read.1 a)) x (sym (alternatives_by_turn place a) ∙ h) in
    let s = stands_alone place other a [] one.0 one.1 in
    let left = length-drop one.0.1 a in
    let rest = moved_behind n (alternatives (place + (one.0.1 + 2))) (alternatives (other + (one.0.1 + 2))) one.0.0 (drop one.0.1 a) x (omega arith)
    (λ shorter y less there. alternatives_moved n (place + (one.0.1 + 2)) (other + (one.0.1 + 2)) shorter y less there) one.2 in
    alternatives_by_turn other a ∙ ap (λ r. and_then r (λ read. and_others (alternatives (other + (read.1 + 2))) read.0 (drop read.1 a))) s.moved ∙ rest

-- what follows an alternative, by the rest behind it, in front of bars
joined_behind : (n : ℕ) (f g : List ℕ → Found) (first : List Term) (behind b : List ℕ) (x y : List (List Term))
    → length behind < suc n → ends behind ≡ true → g b ≡ Ok y
    → ((shorter : List ℕ) (z : List (List Term)) → length shorter < n → f shorter ≡ Ok z → g (shorter ++ behind_bars b) ≡ Ok (z ++ y))
    → and_others f first behind ≡ Ok x → and_others g first (behind ++ behind_bars b) ≡ Ok (x ++ y)
joined_behind n f g first [] b x y l e k ih h = rw (k, ← same_value _ _ h) refl
joined_behind n f g first (u ∷ []) b x y l e k ih h = cc e
joined_behind n f g first (u ∷ v ∷ rest) b x y l e k ih h =
    let more = found_there first (f rest) x h in
    ap (after_alternatives (first ∷ [])) (ih rest more.0 (omega arith) more.1) ∙ ap (λ xs. Ok (xs ++ y)) (sym more.2)

pub alternatives_joined : (n place other : ℕ) (a b : List ℕ) (x y : List (List Term)) → length a < n → ((q : ℕ) → alternatives q b ≡ Ok y)
    → alternatives place a ≡ Ok x → alternatives other (a ++ behind_bars b) ≡ Ok (x ++ y)
alternatives_joined zero place other a b x y l k h = absurd (omega arith)
alternatives_joined (suc n) place other a b x y l k h =
    let one = step_there (alternative_at place a) (λ read. and_others (alternatives (place + (read.1 + 2))) read.0 (drop read.1 a)) x (sym (alternatives_by_turn place a) ∙ h) in
    let s = stands_alone place other a b one.0 one.1 in
    let left = length-drop one.0.1 a in
    let cut : drop one.0.1 (a ++ behind_bars b) ≡ drop one.0.1 a ++ behind_bars b = drop-append-le one.0.1 a (behind_bars b) s.within in
    let rest = joined_behind n (alternatives (place + (one.0.1 + 2))) (alternatives (other + (one.0.1 + 2))) one.0.0 (drop one.0.1 a) b x y (omega arith) s.ended (k (other + (one.0.1 + 2)))
    (λ shorter z less there. alternatives_joined n (place + (one.0.1 + 2)) (other + (one.0.1 + 2)) shorter b z y less k there) one.2 in
    alternatives_by_turn other (a ++ behind_bars b)
    ∙ ap (λ r. and_then r (λ read. and_others (alternatives (other + (read.1 + 2))) read.0 (drop read.1 (a ++ behind_bars b)))) s.barred
    ∙ ap (and_others (alternatives (other + (one.0.1 + 2))) one.0.0) cut ∙ rest
