-- The extent of a text in words of places.
use Rattle.std.proofs.Common.{◌≡◌, ◌⊎◌, inl, inr, ◌<◌, ◌≤◌, ◌+◌, ◌-◌, ◌==◌, ◌||◌, ℕ, zero, suc, List, Bool, true, false, cond, Option, Some, None, length, refl, sym, ap, ◌∙◌, subst, arith}
use Rattle.std.proofs.lemmas.Bool.{eqb-true, eqb-false, or_parts, false≢true}
use Rattle.std.proofs.Math.Nat.{eq-or-lt_of_le}
use Rattle.catalog_stream.specs.declared.scan.Extent.{Extent}
use Rattle.catalog_stream.specs.declared.scan.Extent.TheVariants.{Ends, Deep, Open}
use Rattle.catalog_stream.specs.Depth.{depth, is_turn, first_from, extent_of, extent, IsWithin, StaysOpen, IsExtent}

-- what a first number is, and what it says that there is none
abbrev IsFirst : (ℕ → Bool) → ℕ → ℕ → Option ℕ → Type 0
IsFirst test from count None = (k : ℕ) → from ≤ k → k < from + count → test k ≡ false
IsFirst test from count (Some n) = (from ≤ n) × (n < from + count) × (test n ≡ true) × ((k : ℕ) → from ≤ k → k < n → test k ≡ false)

passed : (test : ℕ → Bool) (from k : ℕ) → (from + 1 ≤ k → test k ≡ false) → test from ≡ false → (from ≡ k) ⊎ (from < k) → test k ≡ false
passed test from k h e (inl same) = subst (λ n. test n ≡ false) same e
passed test from k h e (inr later) = h (omega (arith, later))

first_more : (test : ℕ → Bool) (from count : ℕ) (found : Option ℕ) → test from ≡ false → IsFirst test (from + 1) count found → IsFirst test from (suc count) found
first_more test from count None e h = λ k p q. passed test from k (λ r. h k r (omega (arith, q))) e (eq-or-lt_of_le p)
first_more test from count (Some n) e h =
    (omega (arith, h.0), omega (arith, h.1), h.2, λ k p q. passed test from k (λ r. h.3 k r q) e (eq-or-lt_of_le p))

is_first_at : (test : ℕ → Bool) (from count : ℕ) (x : Bool) → test from ≡ x → IsFirst test (from + 1) count (first_from test (from + 1) count) → IsFirst test from (suc count) (cond x (Some from) (first_from test (from + 1) count))
is_first_at test from count true e h = (omega arith, omega arith, e, λ k p q. absurd (omega arith))
is_first_at test from count false e h = first_more test from count _ e h

is_first : (test : ℕ → Bool) (from count : ℕ) → IsFirst test from count (first_from test from count)
is_first test from zero = λ k p q. absurd (omega arith)
is_first test from (suc count) = is_first_at test from count (test from) refl (is_first test (from + 1) count)

-- where no place up to the n-th decides, the text stays open
open_if : (text : List ℕ) (n : ℕ) → ((k : ℕ) → 1 ≤ k → k ≤ n → is_turn text k ≡ false) → StaysOpen text n
open_if text n h = λ k p q.
    let parts = or_parts (depth text k == 0) (depth text k == 128) (h k p q) in
    (eqb-false (depth text k) 0 parts.0, eqb-false (depth text k) 128 parts.1)

again : (n : ℕ) → 1 ≤ n → n - 1 + 1 ≡ n
again n p = omega (arith, p)

by_depth : (text : List ℕ) (n : ℕ) (x y : Bool) → (depth text n == 0) ≡ x → (depth text n == 128) ≡ y → (x || y) ≡ true → 1 ≤ n → n ≤ length text → StaysOpen text (n - 1) → IsExtent text (cond x (Ends n) (Deep (n - 1)))
by_depth text n true y e f h p q o = (p, q, eqb-true (depth text n) 0 e, o)
by_depth text n false true e f h p q o = (omega (arith, p, q), ap (depth text) (again n p) ∙ eqb-true (depth text n) 128 f, o)
by_depth text n false false e f h p q o = absurd (false≢true h)

by_first : (text : List ℕ) (found : Option ℕ) → IsFirst (is_turn text) 1 (length text) found → IsExtent text (extent_of text found)
by_first text None h = open_if text (length text) (λ k p q. h k p (omega arith))
by_first text (Some n) h = by_depth text n _ _ refl refl h.2 h.0 (omega (arith, h.1)) (open_if text (n - 1) (λ k p q. h.3 k p (omega (arith, h.0))))

pub extent_is : (text : List ℕ) → IsExtent text (extent text)
extent_is text = by_first text (first_from (is_turn text) 1 (length text)) (is_first (is_turn text) 1 (length text))

within : (text : List ℕ) (found : Extent) → IsExtent text found → IsWithin (length text) found
within text (Ends n) h = (h.0, h.1)
within text (Deep place) h = h.0
within text Open h = tt

pub extent_within : (text : List ℕ) → IsWithin (length text) (extent text)
extent_within text = within text (extent text) (extent_is text)

-- a place that decides lies behind all at which the text stays open
behind : (text : List ℕ) (k n : ℕ) → StaysOpen text n → 0 < k → (k ≤ n → ⊥) → n < k
behind text k n o p h = grind (arith, h)

zero_behind : (text : List ℕ) (k n : ℕ) → StaysOpen text n → 0 < k → depth text k ≡ 0 → n < k
zero_behind text k n o p e = behind text k n o p (λ q. (o k p q).0 e)

deep_behind : (text : List ℕ) (k n : ℕ) → StaysOpen text n → depth text (k + 1) ≡ 128 → n < k + 1
deep_behind text k n o e = behind text (k + 1) n o (omega arith) (λ q. (o (k + 1) (omega arith) q).1 e)

same_end : (text : List ℕ) (k m : ℕ) → IsExtent text (Ends k) → IsExtent text (Ends m) → k ≡ m
same_end text k m h i = omega (arith, h.0, i.0, zero_behind text k (m - 1) i.3 h.0 h.2, zero_behind text m (k - 1) h.3 i.0 i.2)

no_two : (text : List ℕ) (k m : ℕ) → IsExtent text (Ends k) → IsExtent text (Deep m) → ⊥
no_two text k m h i =
    let same : k ≡ m + 1 = omega (arith, h.0, zero_behind text k m i.2 h.0 h.2, deep_behind text m (k - 1) h.3 i.1) in
    let clash : 0 ≡ 128 = sym h.2 ∙ ap (depth text) same ∙ i.1 in
    omega (arith, clash)

no_end : (text : List ℕ) (k : ℕ) → IsExtent text (Ends k) → IsExtent text Open → ⊥
no_end text k h i = omega (arith, h.1, zero_behind text k (length text) i h.0 h.2)

same_deep : (text : List ℕ) (k m : ℕ) → IsExtent text (Deep k) → IsExtent text (Deep m) → k ≡ m
same_deep text k m h i = omega (arith, deep_behind text k m i.2 h.1, deep_behind text m k h.2 i.1)

no_deep : (text : List ℕ) (k : ℕ) → IsExtent text (Deep k) → IsExtent text Open → ⊥
no_deep text k h i = omega (arith, h.0, deep_behind text k (length text) i h.1)

-- at most one extent is that of a text
pub extents_agree : (text : List ℕ) (a b : Extent) → IsExtent text a → IsExtent text b → a ≡ b
extents_agree text (Ends k) (Ends m) h i = ap Ends (same_end text k m h i)
extents_agree text (Ends k) (Deep m) h i = absurd (no_two text k m h i)
extents_agree text (Ends k) Open h i = absurd (no_end text k h i)
extents_agree text (Deep k) (Ends m) h i = absurd (no_two text m k i h)
extents_agree text (Deep k) (Deep m) h i = ap Deep (same_deep text k m h i)
extents_agree text (Deep k) Open h i = absurd (no_deep text k h i)
extents_agree text Open (Ends m) h i = absurd (no_end text m i h)
extents_agree text Open (Deep m) h i = absurd (no_deep text m i h)
extents_agree text Open Open h i = refl
