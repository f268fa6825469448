-- Bytes that are appended in turn.
use Rattle.std.proofs.Common.{◌≡◌, ℕ, List, ◌++◌, ap, ◌∙◌, append_assoc}

pub next : (o x y o1 o2 : List ℕ) → o1 ≡ o ++ x → o2 ≡ o1 ++ y → o2 ≡ o ++ (x ++ y)
next o x y o1 o2 h k = k ∙ ap (λ (t : List ℕ). t ++ y) h ∙ append_assoc o x y

pub next_two : (o x y z o1 o2 : List ℕ) → o1 ≡ o ++ x → o2 ≡ o1 ++ y ++ z → o2 ≡ o ++ (x ++ y ++ z)
next_two o x y z o1 o2 h k = k ∙ ap (λ (t : List ℕ). t ++ y ++ z) h ∙ ap (λ (t : List ℕ). t ++ z) (append_assoc o x y) ∙ append_assoc o (x ++ y) z

pub four : (o f c g a o1 o2 : List ℕ) → o1 ≡ o ++ f ++ c → o2 ≡ o1 ++ g ++ a → o2 ≡ o ++ (f ++ c ++ g ++ a)
four o f c g a o1 o2 h k = next_two o (f ++ c) g a o1 o2 (h ∙ append_assoc o f c) k

pub five : (o p a b c e o1 o2 o3 o4 o5 : List ℕ) → o1 ≡ o ++ p → o2 ≡ o1 ++ a → o3 ≡ o2 ++ b → o4 ≡ o3 ++ c → o5 ≡ o4 ++ e
    → o5 ≡ o ++ (p ++ a ++ b ++ c ++ e)
five o p a b c e o1 o2 o3 o4 o5 h1 h2 h3 h4 h5 =
    next o (p ++ a ++ b ++ c) e o4 o5 (next o (p ++ a ++ b) c o3 o4 (next o (p ++ a) b o2 o3 (next o p a o1 o2 h1 h2) h3) h4) h5
