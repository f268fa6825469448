-- What is kept as the partial walks are tried in their order.
use Rattle.std.proofs.Common.{◌≡◌, ℕ, zero, suc, ◌+◌, ◌<◌, ◌≤◌, Bool, true, List, [], ◌∷◌, ◌++◌, length, set, get_or, refl, sym, ap, ◌∙◌, subst, arith, inl, inr, Option, Some, None, slice_get, append_assoc}
use Rattle.std.specs.Option.{option_and_then}
use Rattle.std.specs.List.{AllByRecursion}
use Rattle.std.proofs.lemmas.Bool.{cases_lt}
use Rattle.std.proofs.lemmas.List.{length-append}
use Rattle.op_constraints.specs.declared.Constraint.{Constraint}
use Rattle.op_constraints.specs.declared.Constraint.TheVariants.{Dependency}
use Rattle.op_constraints.specs.declared.TheConstants.{VAR_LIMIT}
use Rattle.op_constraints.specs.Meets.{constraint_at, at, IsClosed}
use Rattle.op_constraints.specs.Kept.{HasFewMembers, IsKept}
use Rattle.op_constraints.specs.Walks.{is_among, mandatory, dependencies, agenda, passed, waiting, member, walk_from, walk, Succeeds, IsBefore, IsBest, IsPartial, AreRising, IsWide}
use Rattle.op_constraints.specs.WalkInvariant.{Stands}
use Rattle.op_constraints.specs.Trails.{NoneBefore, AreEarlier, HasEarlier, IsTrying, IsAt}
use Rattle.op_constraints.proofs.Full.{list_passed, agenda_place}
use Rattle.op_constraints.proofs.Keeping.{all-push}
use Rattle.op_constraints.proofs.Order.{before_onward, before_cases}
use Rattle.op_constraints.proofs.Taking.{stands-begun, stands-take, picked-within}
use Rattle.op_constraints.proofs.Prefixes.{walk-append}
use Rattle.op_constraints.proofs.Steps.{walk-push}
use Rattle.op_constraints.proofs.Extending.{before-extended, before-number, before-more, before-next, before-first, rising-push, all-before, all-front, rising-front, split-last}

-- What is earlier

pub earlier-mapped : (problem : List (List Constraint)) (a b : List ℕ) (walks : List (List ℕ)) → ((ks : List ℕ) → IsPartial problem ks → IsBefore ks a → IsBefore ks b) → AreEarlier problem a walks → AreEarlier problem b walks
earlier-mapped problem a b walks f e = record { rising = e.rising; partial = e.partial; before = moved walks e.partial e.before }
  where
    moved : (walks : List (List ℕ)) → AllByRecursion (IsPartial problem) walks → AllByRecursion (λ ks. IsBefore ks a) walks → AllByRecursion (λ ks. IsBefore ks b) walks
    moved [] p q = tt
    moved (ks ∷ rest) p q = (f ks p.0 q.0, moved rest p.1 q.1)

-- no partial walk comes before the first number
pub none-earlier : (problem : List (List Constraint)) → HasEarlier problem (0 ∷ []) 0
none-earlier problem = record {
  walks = [];
  are = record { rising = tt; partial = tt; before = tt };
  size = refl;
  most = λ others e. none others e.partial e.before;
}
  where
    none : (others : List (List ℕ)) → AllByRecursion (IsPartial problem) others → AllByRecursion (λ ks. IsBefore ks (0 ∷ [])) others → length others ≤ 0
    none [] p b = omega arith
    none (ks ∷ rest) p b =
        elim (before-first ks [] b.0) [
          | inl c ↦ absurd c
          | inr e ↦ (let one : IsPartial problem ks = p.0 in absurd (one.some e))
        ]

-- the walk itself is one more
pub one-earlier : (problem : List (List Constraint)) (m : List ℕ) (count : ℕ) → HasEarlier problem m count → IsPartial problem m → HasEarlier problem (m ++ 0 ∷ []) (count + 1)
one-earlier problem m count e p =
    let one = length-append e.walks (m ∷ []) in
    let size = e.size in
    record {
      walks = e.walks ++ m ∷ [];
      are = record {
        rising = rising-push e.walks m e.are.rising e.are.before;
        partial = all-push (IsPartial problem) e.walks m e.are.partial p;
        before = all-push (λ ks. IsBefore ks (m ++ 0 ∷ [])) e.walks m (all-before e.walks m (m ++ 0 ∷ []) e.are.before (before-extended m 0 [])) (before-extended m 0 []);
      };
      size = omega (arith, one, size);
      most = λ others a.
          let (front, last, parts, all, few) = split-last m others a.rising a.before in
          let P : List (List ℕ) → Type 0 = λ xs. AllByRecursion (IsPartial problem) xs in
          let most = e.most front (record {
            rising = rising-front front last (subst AreRising parts a.rising);
            partial = all-front (IsPartial problem) front last (subst P parts a.partial);
            before = all;
          }) in
          let total = length-append front last in
          let same : length others ≡ length (front ++ last) = ap length parts in
          omega (arith, most, total, same, few);
    }

-- Where no candidate is left

none-past : (ms : List ℕ) (i j : ℕ) → slice_get ms i ≡ None → i ≤ j → slice_get ms j ≡ None
none-past [] i j e h = refl
none-past (m ∷ ms) zero j e h = absurd (let bad : Some m ≡ None = e in cc)
none-past (m ∷ ms) (suc i) zero e h = absurd (omega arith)
none-past (m ∷ ms) (suc i) (suc j) e h = none-past ms i j e (omega arith)

member-past : (lists : List (List ℕ)) (i j : ℕ) → member lists i ≡ None → i ≤ j → member lists j ≡ None
member-past [] i j e h = refl
member-past (ms ∷ lists) i j e h = none-past ms i j e h

-- no walk goes on by that number or a later one
no-later : (problem : List (List Constraint)) (numbers chosen rest : List ℕ) (number j : ℕ) → walk problem numbers ≡ Some chosen → member (waiting problem chosen) number ≡ None → number ≤ j → walk problem (numbers ++ j ∷ rest) ≡ None
no-later problem numbers chosen rest number j w none h =
    walk-append problem numbers (j ∷ rest)
    ∙ (ap (λ (o : Option (List ℕ)). option_and_then (λ end. walk_from problem end (j ∷ rest)) o) w
    ∙ ap (λ (o : Option ℕ). option_and_then (λ v. walk_from problem (chosen ++ v ∷ []) rest) o) (member-past (waiting problem chosen) number j none h))

-- each walk that extends this one does so by a smaller number
by-smaller : (problem : List (List Constraint)) (numbers chosen end js rest : List ℕ) (number : ℕ) → walk problem numbers ≡ Some chosen → member (waiting problem chosen) number ≡ None → walk problem js ≡ Some end → js ≡ numbers ++ rest → IsBefore js (numbers ++ number ∷ [])
by-smaller problem numbers chosen end js [] number w none is e =
    let P : List ℕ → Type 0 = λ xs. IsBefore xs (numbers ++ number ∷ []) in
    let same : js ≡ numbers = e ∙ append-nothing numbers in
    subst P (sym same) (before-extended numbers number [])
  where
    append-nothing : (xs : List ℕ) → xs ++ [] ≡ xs
    append-nothing [] = refl
    append-nothing (x ∷ xs) = ap (λ ys. x ∷ ys) (append-nothing xs)
by-smaller problem numbers chosen end js (j ∷ rest) number w none is e =
    let P : List ℕ → Type 0 = λ xs. IsBefore xs (numbers ++ number ∷ []) in
    elim (cases_lt j number) [
      | inl less ↦ subst P (sym e) (before-number numbers j number rest [] less)
      | inr more ↦
          (let gone : walk problem js ≡ None = ap (walk problem) e ∙ no-later problem numbers chosen rest number j w none (omega (arith, more)) in
          absurd (let bad : None ≡ Some end = sym gone ∙ is in cc))
    ]

-- what comes before the next candidate of the walk before comes before this extension
before-left : (problem : List (List Constraint)) (numbers chosen end js : List ℕ) (last number : ℕ) → walk problem (numbers ++ last ∷ []) ≡ Some chosen → member (waiting problem chosen) number ≡ None → walk problem js ≡ Some end → IsBefore js (numbers ++ (last + 1) ∷ []) → IsBefore js ((numbers ++ last ∷ []) ++ number ∷ [])
before-left problem numbers chosen end js last number w none is b =
    elim (before-next js numbers last b) [
      | inl c ↦ before-more js (numbers ++ last ∷ []) (number ∷ []) c
      | inr (rest, e) ↦ by-smaller problem (numbers ++ last ∷ []) chosen end js rest number w none is (e ∙ sym (append_assoc numbers (last ∷ []) rest))
    ]

left-before : (numbers : List ℕ) (last number : ℕ) → IsBefore ((numbers ++ last ∷ []) ++ number ∷ []) (numbers ++ (last + 1) ∷ [])
left-before numbers last number =
    let P : List ℕ → Type 0 = λ xs. IsBefore xs (numbers ++ (last + 1) ∷ []) in
    subst P (sym (append_assoc numbers (last ∷ []) (number ∷ []))) (before-number numbers last (last + 1) (number ∷ []) [] (omega arith))

-- The walk without its last number

pub trying-left : (problem : List (List Constraint)) (tries : ℕ) (bits back : List Bool) (chosen fewer numbers : List ℕ) (count last number : ℕ)
    → IsTrying problem tries bits chosen (numbers ++ last ∷ []) count number
    → member (waiting problem chosen) number ≡ None
    → Stands problem back fewer numbers
    → IsTrying problem tries back fewer numbers count (last + 1)
trying-left problem tries bits back chosen fewer numbers count last number t none stands =
    let w = t.stands.walked in
    record {
      stands = stands;
      none_before = λ js b s. t.none_before js (before-left problem numbers chosen s.chosen js last number w none s.walked b) s;
      earlier = record {
        walks = t.earlier.walks;
        are = earlier-mapped problem ((numbers ++ last ∷ []) ++ number ∷ []) (numbers ++ (last + 1) ∷ []) t.earlier.walks
            (λ ks p b. before_onward ks ((numbers ++ last ∷ []) ++ number ∷ []) (numbers ++ (last + 1) ∷ []) b (left-before numbers last number)) t.earlier.are;
        size = t.earlier.size;
        most = λ others a. t.earlier.most others (earlier-mapped problem (numbers ++ (last + 1) ∷ []) ((numbers ++ last ∷ []) ++ number ∷ []) others
            (λ ks p b. before-left problem numbers chosen p.chosen ks last number w none p.walked b) a);
      };
      within = t.within;
    }

-- the same where the problem, the count and the numbers are equal to these
pub trying-back : (problem same : List (List Constraint)) (tries : ℕ) (bits back : List Bool) (chosen fewer numbers longer : List ℕ) (count kept last number : ℕ)
    → same ≡ problem
    → kept ≡ count
    → longer ≡ numbers ++ last ∷ []
    → IsTrying problem tries bits chosen longer count number
    → member (waiting problem chosen) number ≡ None
    → Stands same back fewer numbers
    → IsTrying same tries back fewer numbers kept (last + 1)
trying-back problem same tries bits back chosen fewer numbers longer count kept last number is counted parts t none stands =
    let P : List (List Constraint) → Type 0 = λ p. Stands p back fewer numbers in
    let Q : List ℕ → Type 0 = λ xs. IsTrying problem tries bits chosen xs count number in
    let R : List (List Constraint) → Type 0 = λ p. IsTrying p tries back fewer numbers kept (last + 1) in
    let S : ℕ → Type 0 = λ n. IsTrying problem tries back fewer numbers n (last + 1) in
    subst R (sym is) (subst S (sym counted) (trying-left problem tries bits back chosen fewer numbers count last number (subst Q parts t) none (subst P is stands)))

-- The walk with a number more

pub some-there : (ks : List ℕ) (k : ℕ) → ks ++ k ∷ [] ≡ [] → ⊥
some-there [] k e = (let bad : (k ∷ []) ≡ [] = e in cc)
some-there (j ∷ js) k e = (let bad : (j ∷ (js ++ k ∷ [])) ≡ [] = e in cc)

partial-taken : (problem : List (List Constraint)) (numbers chosen : List ℕ) (number v : ℕ) → walk problem numbers ≡ Some chosen → member (waiting problem chosen) number ≡ Some v → IsPartial problem (numbers ++ number ∷ [])
partial-taken problem numbers chosen number v w offered = record {
  chosen = chosen ++ v ∷ [];
  walked = walk-push problem numbers chosen number v w offered;
  some = some-there numbers number;
}

pub at-taken : (problem : List (List Constraint)) (tries : ℕ) (bits : List Bool) (chosen numbers : List ℕ) (more : List Bool) (longer : List ℕ) (count number v : ℕ)
    → IsTrying problem tries bits chosen numbers count number
    → member (waiting problem chosen) number ≡ Some v
    → count < tries
    → Stands problem more longer (numbers ++ number ∷ [])
    → IsAt problem tries more longer (numbers ++ number ∷ []) (count + 1)
at-taken problem tries bits chosen numbers more longer count number v t offered less stands = record {
  stands = stands;
  none_before = t.none_before;
  earlier = one-earlier problem (numbers ++ number ∷ []) count t.earlier (partial-taken problem numbers chosen number v t.stands.walked offered);
  within = omega (arith, less);
}

-- what is offered stands in the first list that waits
read-at : (ms : List ℕ) (k v : ℕ) → slice_get ms k ≡ Some v → (k < length ms) × (v ≡ get_or ms k v)
read-at [] k v e = absurd (let bad : None ≡ Some v = e in cc)
read-at (m ∷ ms) zero v e = (omega arith, let same : m ≡ v = cc in sym same)
read-at (m ∷ ms) (suc k) v e = let (less, is) = read-at ms k v e in (omega (arith, less), is)

offered-at : (lists : List (List ℕ)) (k v : ℕ) → member lists k ≡ Some v → (m : List ℕ) × (ms : List (List ℕ)) × (lists ≡ m ∷ ms) × (k < length m) × (v ≡ get_or m k v)
offered-at [] k v e = absurd (let bad : None ≡ Some v = e in cc)
offered-at (m ∷ ms) k v e = let (less, is) = read-at m k v e in (m, ms, refl, less, is)

pub offered-within : (problem : List (List Constraint)) (bits : List Bool) (chosen numbers : List ℕ) (k v : ℕ) → Stands problem bits chosen numbers → member (waiting problem chosen) k ≡ Some v → v < length bits
offered-within problem bits chosen numbers k v s e =
    let (m, ms, w, less, is) = offered-at (waiting problem chosen) k v e in
    let there = picked-within problem chosen m ms k v s.closed w less is in
    let size = s.size in
    omega (arith, there, size)

pub stands-offered : (problem : List (List Constraint)) (bits : List Bool) (chosen numbers : List ℕ) (k v : ℕ) → Stands problem bits chosen numbers → member (waiting problem chosen) k ≡ Some v → Stands problem (set bits v true) (chosen ++ v ∷ []) (numbers ++ k ∷ [])
stands-offered problem bits chosen numbers k v s e = let (m, ms, w, less, is) = offered-at (waiting problem chosen) k v e in stands-take problem bits chosen numbers m ms k v s w less is

-- the same where the problem, the count, the set and the lists are equal to these
pub at-one : (problem same : List (List Constraint)) (tries : ℕ) (bits more : List Bool) (chosen longer numbers further : List ℕ) (count kept number v : ℕ)
    → same ≡ problem
    → kept ≡ count
    → more ≡ set bits v true
    → longer ≡ chosen ++ v ∷ []
    → further ≡ numbers ++ number ∷ []
    → IsTrying problem tries bits chosen numbers count number
    → member (waiting problem chosen) number ≡ Some v
    → count < tries
    → IsAt same tries more longer further (kept + 1)
at-one problem same tries bits more chosen longer numbers further count kept number v a b c d e t offered less =
    let here = at-taken problem tries bits chosen numbers (set bits v true) (chosen ++ v ∷ []) count number v t offered less (stands-offered problem bits chosen numbers number v t.stands offered) in
    let P : List (List Constraint) → Type 0 = λ p. IsAt p tries more longer further (kept + 1) in
    let Q : ℕ → Type 0 = λ n. IsAt problem tries more longer further (n + 1) in
    let R : List Bool → Type 0 = λ bs. IsAt problem tries bs longer further (count + 1) in
    let S : List ℕ → Type 0 = λ vs. IsAt problem tries (set bits v true) vs further (count + 1) in
    let T : List ℕ → Type 0 = λ ks. IsAt problem tries (set bits v true) (chosen ++ v ∷ []) ks (count + 1) in
    subst P (sym a) (subst Q (sym b) (subst R (sym c) (subst S (sym d) (subst T (sym e) here))))

-- The walk without a number

nothing-before : (problem : List (List Constraint)) (numbers : List ℕ) → numbers ≡ [] → NoneBefore problem numbers
nothing-before problem numbers e = λ js b s. let P : List ℕ → Type 0 = λ xs. IsBefore js xs in subst P e b

pub at-begun : (problem : List (List Constraint)) (tries : ℕ) (bits : List Bool) (chosen numbers : List ℕ)
    → IsClosed problem
    → chosen ≡ mandatory problem
    → length bits ≡ length problem
    → at bits ≡ is_among chosen
    → numbers ≡ []
    → IsAt problem tries bits chosen numbers 0
at-begun problem tries bits chosen numbers closed is size same none =
    let P : List ℕ → Type 0 = λ xs. Stands problem bits chosen xs in
    let Q : List ℕ → Type 0 = λ xs. HasEarlier problem (xs ++ 0 ∷ []) 0 in
    record {
      stands = subst P (sym none) (stands-begun problem bits chosen closed is size same);
      none_before = nothing-before problem numbers none;
      earlier = subst Q (sym none) (none-earlier problem);
      within = omega arith;
    }

-- From a walk that doesn't succeed to its first candidate
pub trying-first : (problem : List (List Constraint)) (tries : ℕ) (bits : List Bool) (chosen numbers : List ℕ) (count : ℕ)
    → IsAt problem tries bits chosen numbers count
    → (Succeeds problem numbers → ⊥)
    → IsTrying problem tries bits chosen numbers count 0
trying-first problem tries bits chosen numbers count a fails = record {
  stands = a.stands;
  none_before = λ js b s.
      elim (before-first js numbers b) [
        | inl c ↦ a.none_before js c s
        | inr e ↦ (let P : List ℕ → Type 0 = λ xs. Succeeds problem xs in fails (subst P e s))
      ];
  earlier = a.earlier;
  within = a.within;
}

-- Ends

mapped : (P Q : List ℕ → Type 0) (walks : List (List ℕ)) → ((ks : List ℕ) → P ks → Q ks) → AllByRecursion P walks → AllByRecursion Q walks
mapped P Q [] f a = tt
mapped P Q (ks ∷ rest) f a = (f ks a.0, mapped P Q rest f a.1)

-- where one more candidate is offered than may be tried, the problem is wide
pub spent : (problem : List (List Constraint)) (tries : ℕ) (bits : List Bool) (chosen numbers : List ℕ) (count number v : ℕ)
    → IsTrying problem tries bits chosen numbers count number
    → member (waiting problem chosen) number ≡ Some v
    → tries ≤ count
    → IsWide problem tries
spent problem tries bits chosen numbers count number v t offered full =
    let m = numbers ++ number ∷ [] in
    let walks = t.earlier.walks in
    let one = length-append walks (m ∷ []) in
    let size = t.earlier.size in
    record {
      walks = walks ++ m ∷ [];
      many = omega (arith, one, size, full);
      rising = rising-push walks m t.earlier.are.rising t.earlier.are.before;
      partial = all-push (IsPartial problem) walks m t.earlier.are.partial (partial-taken problem numbers chosen number v t.stands.walked offered);
      early = λ best b.
          all-push (λ ks. IsBefore best ks → ⊥) walks m
          (mapped (λ ks. IsBefore ks m) (λ ks. IsBefore best ks → ⊥) walks (λ ks c d. t.none_before best (before_onward best ks m d c) b.succeeds) t.earlier.are.before)
          (λ d. t.none_before best d b.succeeds);
    }

-- where so many partial walks come before these numbers, and those that don't come after the best one do, the problem isn't wide
not-wide : (problem : List (List Constraint)) (m : List ℕ) (count tries : ℕ) (walks : List (List ℕ)) → HasEarlier problem m count → count ≤ tries → tries < length walks → AreEarlier problem m walks → ⊥
not-wide problem m count tries walks e within many a = let most = e.most walks a in omega (arith, most, within, many)

-- the walk is best
pub found : (problem : List (List Constraint)) (tries : ℕ) (bits : List Bool) (chosen numbers : List ℕ) (count : ℕ)
    → IsAt problem tries bits chosen numbers count
    → Succeeds problem numbers
    → IsBest problem numbers × (IsWide problem tries → ⊥)
found problem tries bits chosen numbers count a s =
    let best : IsBest problem numbers = record { succeeds = s; first = a.none_before } in (
      best,
      λ w. not-wide problem (numbers ++ 0 ∷ []) count tries w.walks a.earlier a.within w.many (record {
        rising = w.rising;
        partial = w.partial;
        before = mapped (λ ks. IsBefore numbers ks → ⊥) (λ ks. IsBefore ks (numbers ++ 0 ∷ [])) w.walks not_after (w.early numbers best);
      }),
    )
  where
    not_after : (ks : List ℕ) → (IsBefore numbers ks → ⊥) → IsBefore ks (numbers ++ 0 ∷ [])
    not_after ks n =
        elim (before_cases numbers ks) [
          | inl e ↦ (let P : List ℕ → Type 0 = λ xs. IsBefore xs (numbers ++ 0 ∷ []) in subst P e (before-extended numbers 0 []))
          | inr (inl b) ↦ absurd (n b)
          | inr (inr b) ↦ before-more ks numbers (0 ∷ []) b
        ]

-- every walk was tried
pub ended : (problem : List (List Constraint)) (tries : ℕ) (bits : List Bool) (chosen numbers : List ℕ) (count number : ℕ)
    → IsTrying problem tries bits chosen numbers count number
    → numbers ≡ []
    → member (waiting problem chosen) number ≡ None
    → ((js : List ℕ) → Succeeds problem js → ⊥) × (IsWide problem tries → ⊥)
ended problem tries bits chosen numbers count number t root none =
    let P : List ℕ → Type 0 = λ xs. walk problem xs ≡ Some chosen in
    let w : walk problem [] ≡ Some chosen = subst P root t.stands.walked in
    let Q : List ℕ → Type 0 = λ xs. NoneBefore problem (xs ++ number ∷ []) in
    let none_before : NoneBefore problem (number ∷ []) = subst Q root t.none_before in
    let R : List ℕ → Type 0 = λ xs. HasEarlier problem (xs ++ number ∷ []) count in
    let earlier : HasEarlier problem (number ∷ []) count = subst R root t.earlier in (
      λ js s. none_before js (by-smaller problem [] chosen s.chosen js js number w none s.walked refl) s,
      λ v. not-wide problem (number ∷ []) count tries v.walks earlier t.within v.many (record {
        rising = v.rising;
        partial = v.partial;
        before = mapped (IsPartial problem) (λ ks. IsBefore ks (number ∷ [])) v.walks (λ ks p. by-smaller problem [] chosen p.chosen ks ks number w none p.walked refl) v.partial;
      }),
    )

-- The list that waits

-- what is said of the set of bits and of a slice, said of the chosen and of the variable's constraints
pub said-of : (bits : ℕ → Bool) (chosen : List ℕ) (cs ds : List Constraint) (out : List (List ℕ)) → bits ≡ is_among chosen → cs ≡ ds → passed bits (dependencies cs) ≡ out → passed (is_among chosen) (dependencies ds) ≡ out
said-of bits chosen cs ds out same here e =
    ap (λ (f : ℕ → Bool). passed f (dependencies ds)) (sym same) ∙ (ap (λ xs. passed bits (dependencies xs)) (sym here) ∙ e)

few-in : (cs : List Constraint) (place : ℕ) (members : List ℕ) → AllByRecursion HasFewMembers cs → slice_get cs place ≡ Some (Dependency members) → length members ≤ VAR_LIMIT
few-in [] place members a e = absurd (let bad : None ≡ Some (Dependency members) = e in cc)
few-in (c ∷ cs) zero members a e = let same : c ≡ Dependency members = cc in subst HasFewMembers same a.0
few-in (c ∷ cs) (suc k) members a e = few-in cs k members a.1 e

pub few-of : (problem : List (List Constraint)) (v place : ℕ) (members : List ℕ) → AllByRecursion (λ cs. AllByRecursion HasFewMembers cs) problem → constraint_at problem v place ≡ Some (Dependency members) → length members ≤ VAR_LIMIT
few-of [] v place members a e = absurd (let bad : None ≡ Some (Dependency members) = e in cc)
few-of (cs ∷ css) zero place members a e = few-in cs place members a.0 e
few-of (cs ∷ css) (suc v) place members a e = few-of css v place members a.1 e

-- a list that waits has no more members than a problem may have variables
pub waiting-few : (problem : List (List Constraint)) (chosen m : List ℕ) (ms : List (List ℕ)) → IsKept problem → waiting problem chosen ≡ m ∷ ms → length m ≤ VAR_LIMIT
waiting-few problem chosen m ms k w =
    let (v, place, _, found) = agenda_place problem chosen m (list_passed (is_among chosen) (agenda problem chosen) m ms w) in
    few-of problem v place m k.few_members found
