-- How a run of disk calls goes on.
use Rattle.std.proofs.Common.{inl, inr, ⊎_elim, ℕ, List, arith}
use Rattle.olm_disk.specs.Disk.{Elapses, LeavesOnly}

module _ {D : Type 0} (moment : D → ℕ) (left_since : D → ℕ → List ℕ → Type 0) where
  -- before the first call
  pub started : (old : D) (P : List ℕ → Type 0) → ((image : List ℕ) → left_since old (moment old) image → P image) → LeavesOnly moment left_since old old P
  started old P here = record { later = omega arith; each = here; before = λ t image le left. inl left }

  -- one call more, after which a crash leaves what has P
  pub goes_on : (old mid new : D) (P left : List ℕ → Type 0) → LeavesOnly moment left_since old mid P → Elapses (moment mid) (moment new) (left_since mid) (left_since new) left
      → ((image : List ℕ) → left image → P image) → LeavesOnly moment left_since old new P
  goes_on old mid new P left so_far time here = record {
    later = omega (arith, so_far.later, time.later);
    each = λ image l. ⊎_elim (so_far.each image) (here image) (time.nothing_else (moment old) image so_far.later l);
    before = λ t image le l. ⊎_elim (so_far.before t image le) (λ now. inr (here image now)) (time.nothing_else t image (omega (arith, le, so_far.later)) l);
  }

  -- one stretch after another, and what each leaves has Q
  pub joined : (old mid new : D) (P R Q : List ℕ → Type 0) → LeavesOnly moment left_since old mid P → LeavesOnly moment left_since mid new R
      → ((image : List ℕ) → P image → Q image) → ((image : List ℕ) → R image → Q image) → LeavesOnly moment left_since old new Q
  joined old mid new P R Q one two p r = record {
    later = omega (arith, one.later, two.later);
    each = λ image l. ⊎_elim (λ x. p image (one.each image x)) (r image) (two.before (moment old) image one.later l);
    before = λ t image le l. ⊎_elim (λ x. ⊎_elim (λ y. inl y) (λ y. inr (p image y)) (one.before t image le x)) (λ y. inr (r image y)) (two.before t image (omega (arith, le, one.later)) l);
  }

  pub weaker : (old new : D) (P Q : List ℕ → Type 0) → LeavesOnly moment left_since old new P → ((image : List ℕ) → P image → Q image) → LeavesOnly moment left_since old new Q
  weaker old new P Q one p = record { later = one.later; each = λ image l. p image (one.each image l); before = λ t image le l. ⊎_elim (λ x. inl x) (λ x. inr (p image x)) (one.before t image le l) }
