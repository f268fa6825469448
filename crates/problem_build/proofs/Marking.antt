-- The marks while entries are being reached.
use Rattle.std.proofs.Common.{◌≡◌, ◌+◌, ◌<◌, ◌⊎◌, inl, inr, ℕ, zero, suc, Bool, true, false, not, cond, ◌||◌, List, [], ◌∷◌, length, map, get_or, set, replicate, refl, sym, ap, ◌∙◌, subst, arith, Some, slice_get, length-set}
use Rattle.std.specs.List.{count_by, sum_by}
use Rattle.std.proofs.lemmas.List.{get_or-map, length-map}
use Rattle.std.proofs.lemmas.List.Sums.{sum_by-set}
use Rattle.std.proofs.lemmas.Option.{get_or_from_slice_get, slice_get-map, slice_get_within}
use Rattle.std.specs.Option.{option_map}
use Rattle.problem_build.specs.Shown.{shown_entry}
use Rattle.problem_build.specs.declared.entries.Listed.{Listed}
use Rattle.op_constraints.specs.Meets.{at}
use Rattle.problem_build.specs.Entries.{Entry}
use Rattle.problem_build.specs.Reaching.{AreReached, IsClosed, IsReached, is_asked_for, needs}
use Rattle.problem_build.specs.declared.asking.Asked.{Asked}

-- What the marks of entries, and those of the entries that were looked at, keep.
pub record Keeps (asks : List Asked) (seen : List Entry) (marks done : List Bool) : Type 0 where
  pub long : length marks ≡ length seen
  pub long_done : length done ≡ length seen
  pub asked : (i : ℕ) (entry : Entry) → slice_get seen i ≡ Some entry → is_asked_for asks entry ≡ true → at marks i ≡ true
  pub sound : (i : ℕ) → i < length seen → at marks i ≡ true → IsReached asks seen i
  pub closed : (i j : ℕ) (entry other : Entry) → slice_get seen i ≡ Some entry → slice_get seen j ≡ Some other → at done i ≡ true → needs entry other ≡ true → at marks j ≡ true

there : {T : Type 0} (xs : List T) (i : ℕ) → i < length xs → (x : T) × (slice_get xs i ≡ Some x)
there [] i h = absurd (omega arith)
there (x ∷ xs) zero h = (x, refl)
there (x ∷ xs) (suc i) h = there xs i (omega arith)

long_row : (n : ℕ) → length (replicate n false) ≡ n
long_row zero = refl
long_row (suc n) = ap suc (long_row n)

none_done : (n i : ℕ) → at (replicate n false) i ≡ false
none_done zero i = refl
none_done (suc n) zero = refl
none_done (suc n) (suc i) = none_done n i

set_cases : (bits : List Bool) (p i : ℕ) → at (set bits p true) i ≡ true → (i ≡ p) ⊎ (at bits i ≡ true)
set_cases [] p i h = inr h
set_cases (b ∷ bits) zero zero h = inl refl
set_cases (b ∷ bits) zero (suc i) h = inr h
set_cases (b ∷ bits) (suc p) zero h = inr h
set_cases (b ∷ bits) (suc p) (suc i) h = elim (set_cases bits p i h) [ inl e ↦ inl (ap suc e) | inr e ↦ inr e ]

or_cases : (a b : Bool) → (a || b) ≡ true → (a ≡ true) ⊎ (b ≡ true)
or_cases true b h = inl refl
or_cases false b h = inr h

or_left : (a b : Bool) → a ≡ true → (a || b) ≡ true
or_left a b h = rw h refl

or_right : (a b : Bool) → b ≡ true → (a || b) ≡ true
or_right true b h = refl
or_right false b h = h

marked : (asks : List Asked) (seen : List Entry) (marks : List Bool) (i : ℕ) (entry : Entry) → marks ≡ map (is_asked_for asks) seen
    → slice_get seen i ≡ Some entry → at marks i ≡ is_asked_for asks entry
marked asks seen marks i entry same e =
    ap (λ m. get_or m i false) same
    ∙ get_or-map (is_asked_for asks) seen i entry false (slice_get_within seen i entry e)
    ∙ ap (is_asked_for asks) (get_or_from_slice_get seen i entry entry e)

pub begun : (asks : List Asked) (seen : List Entry) (marks done : List Bool) → marks ≡ map (is_asked_for asks) seen → done ≡ replicate (length seen) false
    → Keeps asks seen marks done
begun asks seen marks done same none = record {
  long = ap length same ∙ length-map seen (is_asked_for asks);
  long_done = ap length none ∙ long_row (length seen);
  asked = λ i entry e h. marked asks seen marks i entry same e ∙ h;
  sound = λ i below h set closed.
      let x = there seen i below in
      closed.candidates i x.0 x.1 (sym (marked asks seen marks i x.0 same x.1) ∙ h);
  closed = λ i j entry other e f d h.
      absurd (let bad : true ≡ false = sym d ∙ ap (λ m. at m i) none ∙ none_done (length seen) i in cc);
}

pub step : (asks : List Asked) (seen : List Entry) (marks done more : List Bool) (place : ℕ) (entry : Entry) → Keeps asks seen marks done
    → slice_get seen place ≡ Some entry → at marks place ≡ true → length more ≡ length marks
    → ((j : ℕ) (other : Entry) → slice_get seen j ≡ Some other → at more j ≡ (at marks j || needs entry other))
    → Keeps asks seen more (set done place true)
step asks seen marks done more place entry keeps here h long each = record {
  long = long ∙ keeps.long;
  long_done = length-set done place true ∙ keeps.long_done;
  asked = λ i other e asked. each i other e ∙ or_left (at marks i) (needs entry other) (keeps.asked i other e asked);
  sound = λ i below m set closed.
      let x = there seen i below in
      elim (or_cases (at marks i) (needs entry x.0) (sym (each i x.0 x.1) ∙ m)) [
        | inl old ↦ keeps.sound i below old set closed
        | inr new ↦ closed.needed place i entry x.0 here x.1 (keeps.sound place (slice_get_within seen place entry here) h set closed) new
      ];
  closed = λ i j e o at_i at_j d n.
      elim (set_cases done place i d) [
        | inl same ↦
            let one : Some e ≡ Some entry = sym at_i ∙ ap (slice_get seen) same ∙ here in
            let is : e ≡ entry = cc in
            each j o at_j ∙ or_right (at marks j) (needs entry o) (subst (λ (x : Entry). needs x o ≡ true) is n)
        | inr old ↦ each j o at_j ∙ or_left (at marks j) (needs entry o) (keeps.closed i j e o at_i at_j old n)
      ];
}

pub finish : (asks : List Asked) (seen : List Entry) (marks done : List Bool) → Keeps asks seen marks done
    → ((i : ℕ) → i < length marks → at marks i ≡ true → at done i ≡ true) → AreReached asks seen marks
finish asks seen marks done keeps all =
    let closed : IsClosed asks seen (at marks) = record {
      candidates = keeps.asked;
      needed = λ i j entry other e f m n. keeps.closed i j entry other e f (all i (rw keeps.long (slice_get_within seen i entry e)) m) n;
    } in
    record {
      each = keeps.long;
      exact = λ i below. (keeps.sound i below, λ reached. reached (at marks) closed);
    }

abbrev weight : Bool → ℕ
weight b = cond (not b) 1 0

pub fewer : (done : List Bool) (place : ℕ) → place < length done → at done place ≡ false → count_by not (set done place true) < count_by not done
fewer done place below h =
    let whole : sum_by weight (set done place true) + weight (get_or done place false) ≡ sum_by weight done + weight true = sum_by-set weight done place true false below in
    let one : weight (get_or done place false) ≡ weight false = ap weight h in
    let less : sum_by weight (set done place true) < sum_by weight done = omega arith in
    less

pub seen_map : {A B C : Type 0} (f : B → C) (see : A → B) (xs : List A) → map (λ x. f (see x)) xs ≡ map f (map see xs)
seen_map f see [] = refl
seen_map f see (x ∷ xs) = ap (λ l. f (see x) ∷ l) (seen_map f see xs)

pub each_seen : (entries : List Listed) (old new : ℕ → Bool) (f : Entry → Bool)
    → ((j : ℕ) (x : Listed) → j < length entries → new j ≡ (old j || f (shown_entry (get_or entries j x))))
    → (j : ℕ) (other : Entry) → slice_get (map shown_entry entries) j ≡ Some other → new j ≡ (old j || f other)
each_seen entries old new f each j other e =
    let within : j < length (map shown_entry entries) = slice_get_within (map shown_entry entries) j other e in
    let below : j < length entries = omega (arith, length-map entries shown_entry) in
    let x = there entries j below in
    let both : Some other ≡ Some (shown_entry x.0) = sym e ∙ slice_get-map shown_entry entries j ∙ ap (option_map shown_entry) x.1 in
    let same : other ≡ shown_entry x.0 = cc in
    let read : get_or entries j x.0 ≡ x.0 = get_or_from_slice_get entries j x.0 x.0 x.1 in
    each j x.0 below ∙ ap (λ y. old j || f (shown_entry y)) read ∙ ap (λ y. old j || f y) (sym same)
