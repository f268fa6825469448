-- Small facts of options and of tests.
use Rattle.std.proofs.Common.{◌≡◌, Bool, true, false, cond, ◌||◌, Option, Some, None, refl}

pub some_is : {A : Type 0} (x y : A) → ◌≡◌ {A = Option A} (Some x) (Some y) → x ≡ y
some_is x y e = cc

pub none_is_some : {A : Type 0} (x : A) → ◌≡◌ {A = Option A} None (Some x) → ⊥
none_is_some x e = cc

-- what counts only where a test says so
pub counts : {A : Type 0} (b : Bool) (found : Option A) (x : A) → cond b found None ≡ Some x → found ≡ Some x
counts true found x e = e
counts false found x e = absurd (none_is_some x e)

-- nothing counts where the test fails
pub counts_not : {A : Type 0} (b : Bool) (found : Option A) (x : A) → b ≡ false → cond b found None ≡ Some x → ⊥
counts_not true found x is e = cc
counts_not false found x is e = none_is_some x e

pub none_of : (a b c d e : Bool) → (a || b || c || d || e) ≡ false → (a ≡ false) × (b ≡ false) × (c ≡ false) × (d ≡ false) × (e ≡ false)
none_of true b c d e is = absurd cc
none_of false true c d e is = absurd cc
none_of false false true d e is = absurd cc
none_of false false false true e is = absurd cc
none_of false false false false e is = (refl, refl, refl, refl, is)

pub true_or_false : (b : Bool) → b ≡ true → b ≡ false → ⊥
true_or_false b is isnt = cc
