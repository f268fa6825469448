-- Steps that put and read bytes, one after another, where those are told and where they are not.
use Rattle.std.proofs.Common.{◌≡◌, ℕ, List, [], ◌++◌, Option, None, Some, refl, sym, ap, ◌∙◌, append_assoc, append-nil, take, drop, length, ◌≤◌, ◌-◌, arith, length-drop, length-append, Bool, true, false, not, subst}
use Rattle.std.proofs.lemmas.List.{take-append-drop, take_all}
use Rattle.std.proofs.KnownBytes.{Appends-nil}
use Rattle.std.specs.Io.KnownBytes.{Appends, Consumes, Keeps, IsAtEnd}
use Rattle.olm_io.specs.Outside.{AppendsFront, IsTold, Puts}

-- a list after a front that was taken, and the front of the rest
pub taken_on : (piece front rest : List ℕ) (n : ℕ) → n ≤ length rest → piece ≡ front ++ rest → piece ≡ (front ++ take n rest) ++ take (length rest - n) (drop n rest)
taken_on piece front rest n h e =
    let whole : take (length rest - n) (drop n rest) ≡ drop n rest = take_all (length rest - n) (drop n rest) (omega (arith, length-drop n rest)) in
    e ∙ ap (λ w. front ++ w) (sym (take-append-drop n rest)) ∙ sym (append_assoc front (take n rest) (drop n rest)) ∙ ap (λ w. (front ++ take n rest) ++ w) (sym whole)

-- nothing was put
pub appends_no_front : (known : Option (List ℕ)) (piece : List ℕ) → AppendsFront known known piece
appends_no_front None piece = tt
appends_no_front (Some xs) piece = ([], piece, refl, sym (append-nil xs))

-- held bytes that stay grew by nothing
pub keeps_appends : (old new : Option (List ℕ)) → Keeps old new → Appends old new []
keeps_appends None new k = tt
keeps_appends (Some xs) None k = k
keeps_appends (Some xs) (Some ys) k = k ∙ sym (append-nil xs)

-- held bytes that stay grew by a front of any piece
pub keeps_front : (old new : Option (List ℕ)) (piece : List ℕ) → Keeps old new → AppendsFront old new piece
keeps_front None new piece k = tt
keeps_front (Some xs) None piece k = k
keeps_front (Some xs) (Some ys) piece k = ([], piece, refl, k ∙ sym (append-nil xs))

-- a whole piece, and then a front of the next one
pub then_front : (a b c : Option (List ℕ)) (first second : List ℕ) → Appends a b first → AppendsFront b c second → AppendsFront a c (first ++ second)
then_front None b c first second p q = tt
then_front (Some x) None c first second p q = absurd p
then_front (Some x) (Some y) None first second p q = absurd q
then_front (Some x) (Some y) (Some z) first second p q =
    (first ++ q.0, q.1, ap (λ w. first ++ w) q.2 ∙ sym (append_assoc first q.0 q.1), q.3 ∙ ap (λ w. w ++ q.0) p ∙ append_assoc x first q.0)

-- a front of a piece is a front of that piece and more
pub front_of_more : (a b : Option (List ℕ)) (piece more : List ℕ) → AppendsFront a b piece → AppendsFront a b (piece ++ more)
front_of_more None b piece more p = tt
front_of_more (Some x) None piece more p = p
front_of_more (Some x) (Some y) piece more p = (p.0, p.1 ++ more, ap (λ w. w ++ more) p.2 ∙ append_assoc p.0 p.1 more, p.3)

-- there is a text that is told, or any
pub some_told : (known : Option (List ℕ)) → (text : List ℕ) × IsTold known text
some_told None = ([], tt)
some_told (Some xs) = (xs, refl)

-- what was read up to the end is all that was told
pub whole_told : (old new : Option (List ℕ)) (bytes : List ℕ) → Consumes old new bytes → IsAtEnd new → IsTold old bytes
whole_told None new bytes p q = tt
whole_told (Some xs) None bytes p q = absurd p
whole_told (Some xs) (Some ys) bytes p q = p ∙ ap (λ w. bytes ++ w) q ∙ append-nil bytes

-- what was read is a front of what was told
pub longer_told : (old new : Option (List ℕ)) (bytes : List ℕ) → Consumes old new bytes → (text : List ℕ) × IsTold old text × (length bytes ≤ length text)
longer_told None new bytes p = (bytes, tt, omega arith)
longer_told (Some xs) None bytes p = absurd p
longer_told (Some xs) (Some ys) bytes p = (xs, refl, omega (arith, ap length p, length-append bytes ys))

-- a call that put nothing, where nothing was to be put or it gave up
pub puts_nothing : (is_free : Bool) (known : Option (List ℕ)) (piece : List ℕ) → (is_free ≡ false → piece ≡ []) → Puts (not is_free) known known piece
puts_nothing true known piece h = appends_no_front known piece
puts_nothing false known piece h = subst (λ w. Appends known known w) (sym (h refl)) (Appends-nil known)
