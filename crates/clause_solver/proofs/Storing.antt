-- Clauses in a buffer, by their places.
use Rattle.std.proofs.Common.{◌≡◌, ℕ, zero, suc, ◌<◌, ◌≤◌, List, [], ◌∷◌, ◌++◌, length, get_or, refl, sym, ap, ◌∙◌, subst, arith, Some, slice_get}
use Rattle.std.proofs.lemmas.List.{map-append, length-append}
use Rattle.op_constraints.specs.declared.Lit.{Lit}
use Rattle.clause_arena.specs.declared.ClauseRef.{ClauseRef}
use Rattle.clause_arena.specs.Pieces.{clause_at, IsWithin}
use Rattle.clause_solver.specs.Held.{clauses_at, AreWithin}

same_clauses : (old new : List Lit) (ps : List ClauseRef) → ((c : ClauseRef) → IsWithin (length old) c → clause_at new c ≡ clause_at old c) → AreWithin old ps → clauses_at new ps ≡ clauses_at old ps
same_clauses old new [] f a = refl
same_clauses old new (p ∷ ps) f a =
    ap (λ (c : List Lit). c ∷ clauses_at new ps) (f p a.0) ∙ ap (λ cs. clause_at old p ∷ cs) (same_clauses old new ps f a.1)

within_longer : (old new : List Lit) (ps : List ClauseRef) → length old ≤ length new → AreWithin old ps → AreWithin new ps
within_longer old new [] h a = tt
within_longer old new (p ∷ ps) h a = ((a.0.0, omega (arith, a.0.1, h)), within_longer old new ps h a.1)

within-push : (buffer : List Lit) (ps : List ClauseRef) (p : ClauseRef) → AreWithin buffer ps → IsWithin (length buffer) p → AreWithin buffer (ps ++ p ∷ [])
within-push buffer [] p a w = (w, tt)
within-push buffer (q ∷ qs) p a w = (a.0, within-push buffer qs p a.1 w)

pub pushed : (old new lits : List Lit) (ps : List ClauseRef) (p : ClauseRef) → ((c : ClauseRef) → IsWithin (length old) c → clause_at new c ≡ clause_at old c) → AreWithin old ps → clause_at new p ≡ lits → clauses_at new (ps ++ p ∷ []) ≡ clauses_at old ps ++ lits ∷ []
pushed old new lits ps p f a e =
    map-append (λ c. clause_at new c) ps (p ∷ [])
    ∙ (ap (λ cs. cs ++ clause_at new p ∷ []) (same_clauses old new ps f a) ∙ ap (λ (c : List Lit). clauses_at old ps ++ c ∷ []) e)

pub pushed-within : (old new lits : List Lit) (ps : List ClauseRef) (p : ClauseRef) → new ≡ old ++ lits → AreWithin old ps → IsWithin (length new) p → AreWithin new (ps ++ p ∷ [])
pushed-within old new lits ps p e a w =
    let longer : length old ≤ length new = (let size = ap length e ∙ length-append old lits in omega (arith, size)) in
    within-push new ps p (within_longer old new ps longer a) w

pub kept : (old new lits : List Lit) (ps : List ClauseRef) → new ≡ old ++ lits → AreWithin old ps → AreWithin new ps
kept old new lits ps e a = within_longer old new ps (let size = ap length e ∙ length-append old lits in omega (arith, size)) a

pub kept_clauses : (old new : List Lit) (ps : List ClauseRef) → ((c : ClauseRef) → IsWithin (length old) c → clause_at new c ≡ clause_at old c) → AreWithin old ps → clauses_at new ps ≡ clauses_at old ps
kept_clauses = same_clauses

pub within_at : (buffer : List Lit) (ps : List ClauseRef) (i : ℕ) (p : ClauseRef) → i < length ps → p ≡ get_or ps i p → AreWithin buffer ps → IsWithin (length buffer) p
within_at buffer [] i p h e a = absurd (omega arith)
within_at buffer (q ∷ qs) zero p h e a = subst (λ (r : ClauseRef). IsWithin (length buffer) r) (sym e) a.0
within_at buffer (q ∷ qs) (suc i) p h e a = within_at buffer qs i p (omega arith) e a.1

pub clause_there : (buffer : List Lit) (ps : List ClauseRef) (i : ℕ) (p : ClauseRef) → i < length ps → p ≡ get_or ps i p → slice_get (clauses_at buffer ps) i ≡ Some (clause_at buffer p)
clause_there buffer [] i p h e = absurd (omega arith)
clause_there buffer (q ∷ qs) zero p h e = ap (λ (r : ClauseRef). Some (clause_at buffer r)) (sym e)
clause_there buffer (q ∷ qs) (suc i) p h e = clause_there buffer qs i p (omega arith) e

pub front_within : (buffer : List Lit) (ps : List ClauseRef) (p : ClauseRef) → AreWithin buffer (ps ++ p ∷ []) → AreWithin buffer ps
front_within buffer [] p a = tt
front_within buffer (q ∷ qs) p a = (a.0, front_within buffer qs p a.1)

heads : (x y : List Lit) (xs ys : List (List Lit)) → ◌≡◌ {A = List (List Lit)} (x ∷ xs) (y ∷ ys) → (x ≡ y) × (xs ≡ ys)
heads x y xs ys e = (cc, cc)

-- the same last one taken from two equal lists
pub front_same : (xs ys : List (List Lit)) (x y : List Lit) → xs ++ x ∷ [] ≡ ys ++ y ∷ [] → xs ≡ ys
front_same [] [] x y e = refl
front_same [] (b ∷ []) x y e = absurd (let parts = heads x b [] (y ∷ []) e in let bad : ◌≡◌ {A = List (List Lit)} [] (y ∷ []) = parts.1 in cc)
front_same [] (b ∷ c ∷ bs) x y e = absurd (let parts = heads x b [] (c ∷ (bs ++ y ∷ [])) e in let bad : ◌≡◌ {A = List (List Lit)} [] (c ∷ (bs ++ y ∷ [])) = parts.1 in cc)
front_same (a ∷ []) [] x y e = absurd (let parts = heads a y (x ∷ []) [] e in let bad : ◌≡◌ {A = List (List Lit)} (x ∷ []) [] = parts.1 in cc)
front_same (a ∷ c ∷ rest) [] x y e = absurd (let parts = heads a y (c ∷ (rest ++ x ∷ [])) [] e in let bad : ◌≡◌ {A = List (List Lit)} (c ∷ (rest ++ x ∷ [])) [] = parts.1 in cc)
front_same (a ∷ xs) (b ∷ ys) x y e =
    let parts = heads a b (xs ++ x ∷ []) (ys ++ y ∷ []) e in
    ap (λ (z : List Lit). z ∷ xs) parts.0 ∙ ap (λ zs. b ∷ zs) (front_same xs ys x y parts.1)
