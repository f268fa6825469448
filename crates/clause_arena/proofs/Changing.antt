-- One clause of a buffer is changed.
use Rattle.std.proofs.Common.{◌≡◌, ℕ, ◌+◌, ◌-◌, ◌≤◌, inl, inr, List, ◌++◌, length, take, drop, sym, ap, ◌∙◌, arith, append_assoc}
use Rattle.std.proofs.lemmas.List.{length-append, length-take-le, length-drop, drop_at, take_at, take-take, take-append-le, drop-drop}
use Rattle.std.proofs.lemmas.Slice.{between_is}
use Rattle.op_constraints.specs.declared.Lit.{Lit}
use Rattle.clause_arena.specs.declared.ClauseRef.{ClauseRef}
use Rattle.clause_arena.specs.Pieces.{clause_at, IsWithin, AreApart, with_clause, ChangesAlone}

clause-length : (lits : List Lit) (c : ClauseRef) → IsWithin (length lits) c → length (clause_at lits c) ≡ c.end - c.start
clause-length lits c w = length-take-le (c.end - c.start) (drop c.start lits) (let size = length-drop c.start lits in omega (arith, size, w.0, w.1))

changed : (lits part : List Lit) (c : ClauseRef) → IsWithin (length lits) c → length part ≡ length (clause_at lits c) → clause_at (with_clause lits c part) c ≡ part
changed lits part c w e =
    let rest : List Lit = drop c.end lits in
    let before : length (take c.start lits) ≡ c.start = length-take-le c.start lits (omega (arith, w.0, w.1)) in
    ap (λ ls. take (c.end - c.start) ls) (drop_at (take c.start lits) (part ++ rest) c.start before)
    ∙ take_at part rest (c.end - c.start) (e ∙ clause-length lits c w)

size : (lits part : List Lit) (c : ClauseRef) → IsWithin (length lits) c → length part ≡ length (clause_at lits c) → length (with_clause lits c part) ≡ length lits
size lits part c w e =
    let before : length (take c.start lits) ≡ c.start = length-take-le c.start lits (omega (arith, w.0, w.1)) in
    let long = e ∙ clause-length lits c w in
    let rest = length-drop c.end lits in
    let inner = length-append part (drop c.end lits) in
    let outer = length-append (take c.start lits) (part ++ drop c.end lits) in
    omega (arith, before, long, rest, inner, outer, w.0, w.1)

below : (lits part : List Lit) (c d : ClauseRef) → IsWithin (length lits) c → d.end ≤ c.start → clause_at (with_clause lits c part) d ≡ clause_at lits d
below lits part c d w h =
    let before : length (take c.start lits) ≡ c.start = length-take-le c.start lits (omega (arith, w.0, w.1)) in
    between_is (with_clause lits c part) d.start d.end
    ∙ (ap (λ ls. drop d.start ls) (take-append-le d.end (take c.start lits) (part ++ drop c.end lits) (omega (arith, before, h)) ∙ take-take d.end c.start lits h)
    ∙ sym (between_is lits d.start d.end))

above : (lits part : List Lit) (c d : ClauseRef) → IsWithin (length lits) c → c.end ≤ d.start → length part ≡ length (clause_at lits c) → clause_at (with_clause lits c part) d ≡ clause_at lits d
above lits part c d w h e =
    let before : length (take c.start lits) ≡ c.start = length-take-le c.start lits (omega (arith, w.0, w.1)) in
    let long = e ∙ clause-length lits c w in
    let start : List Lit = take c.start lits ++ part in
    let front : length start ≡ c.end = (let all = length-append (take c.start lits) part in omega (arith, before, long, all, w.0)) in
    let k : ℕ = d.start - c.end in
    let is : c.end + k ≡ d.start = omega (arith, h) in
    ap (λ ls. take (d.end - d.start) ls)
    (ap (λ n. drop n (with_clause lits c part)) (sym is)
    ∙ (sym (drop-drop k c.end (with_clause lits c part))
    ∙ (ap (λ ls. drop k ls) (ap (λ ls. drop c.end ls) (sym (append_assoc (take c.start lits) part (drop c.end lits))) ∙ drop_at start (drop c.end lits) c.end front)
    ∙ (drop-drop k c.end lits ∙ ap (λ n. drop n lits) is))))

others : (lits part : List Lit) (c d : ClauseRef) → IsWithin (length lits) c → IsWithin (length lits) d → AreApart c d → length part ≡ length (clause_at lits c) → clause_at (with_clause lits c part) d ≡ clause_at lits d
others lits part c d w v apart e =
    elim apart [
      | inl after ↦ above lits part c d w after e
      | inr before ↦ below lits part c d w before
    ]

pub changes_alone : ChangesAlone
changes_alone = record { changed = changed; size = size; others = others }
