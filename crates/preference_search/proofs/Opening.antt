-- How the list that waits first is found.
use Rattle.std.proofs.Common.{◌≡◌, ℕ, zero, suc, ◌+◌, ◌≤◌, ◌<◌, ◌==◌, Bool, true, List, [], ◌∷◌, ◌++◌, length, drop, get_or, refl, sym, ap, ◌∙◌, arith, Some, slice_get, drop-cons, add-one}
use Rattle.std.proofs.lemmas.Bool.{or_left, or_right, eq-eqb}
use Rattle.std.proofs.lemmas.List.{drop_all}
use Rattle.op_constraints.specs.declared.Constraint.{Constraint}
use Rattle.op_constraints.specs.declared.Constraint.TheVariants.{Mandatory, Prohibited, Dependency, Conflict, AtMost}
use Rattle.op_constraints.specs.declared.TheConstants.{VAR_LIMIT}
use Rattle.op_constraints.specs.Meets.{constraints_of, at}
use Rattle.op_constraints.specs.Walks.{is_among, passed, dependencies, agenda, waiting}
use Rattle.op_constraints.specs.Kept.{IsKept}
use Rattle.op_constraints.proofs.Trying.{few-of}
use Rattle.op_constraints.proofs.Looking.{passed-append_none, passed-append_some}
use Rattle.preference_search.specs.Lists.{IsNext}

-- Within the constraints of one variable

-- what doesn't open a list is passed
pub passed-one : (set : ℕ → Bool) (cs : List Constraint) (i : ℕ) (c : Constraint) → i < length cs → c ≡ get_or cs i c → passed set (dependencies (c ∷ [])) ≡ [] → passed set (dependencies (drop i cs)) ≡ passed set (dependencies (drop (i + 1) cs))
passed-one set cs i c h is e =
    let rest = drop (suc i) cs in
    ap (λ ds. passed set (dependencies ds)) (drop-cons cs i c h ∙ ap (λ d. d ∷ rest) (sym is))
    ∙ (skip set c rest e ∙ ap (λ n. passed set (dependencies (drop n cs))) (sym (add-one i)))
  where
    skip : (set : ℕ → Bool) (c : Constraint) (rest : List Constraint) → passed set (dependencies (c ∷ [])) ≡ [] → passed set (dependencies (c ∷ rest)) ≡ passed set (dependencies rest)
    skip set Mandatory rest e = refl
    skip set Prohibited rest e = refl
    skip set (Conflict o) rest e = refl
    skip set (AtMost most members) rest e = refl
    skip set (Dependency members) rest e = passed-append_none set (members ∷ []) (dependencies rest) e

get-at : {A : Type 0} (xs : List A) (i : ℕ) (x : A) → i < length xs → x ≡ get_or xs i x → slice_get xs i ≡ Some x
get-at [] i x h e = absurd (omega arith)
get-at (y ∷ ys) zero x h e = ap Some (sym e)
get-at (y ∷ ys) (suc i) x h e = get-at ys i x (omega arith) e

pub list-at : (cs : List Constraint) (i : ℕ) (c : Constraint) (members : List ℕ) → i < length cs → c ≡ get_or cs i c → c ≡ Dependency members → slice_get cs i ≡ Some (Dependency members)
list-at cs i c members h is e = get-at cs i c h is ∙ ap Some e

-- Among the chosen variables

pub waits-next : (problem : List (List Constraint)) (set : ℕ → Bool) (chosen : List ℕ) (i v : ℕ) (cs : List Constraint) → i < length chosen → v ≡ get_or chosen i v → cs ≡ constraints_of problem v → passed set (dependencies cs) ≡ [] → passed set (agenda problem (drop i chosen)) ≡ passed set (agenda problem (drop (i + 1) chosen))
waits-next problem set chosen i v cs h is at e =
    let rest = drop (suc i) chosen in
    ap (λ vs. passed set (agenda problem vs)) (drop-cons chosen i v h ∙ ap (λ u. u ∷ rest) (sym is))
    ∙ (passed-append_none set (dependencies (constraints_of problem v)) (agenda problem rest) (ap (λ ds. passed set (dependencies ds)) (sym at) ∙ e)
    ∙ ap (λ n. passed set (agenda problem (drop n chosen))) (sym (add-one i)))

among-at : (vs : List ℕ) (i v : ℕ) → i < length vs → v ≡ get_or vs i v → is_among vs v ≡ true
among-at [] i v h e = absurd (omega arith)
among-at (w ∷ ws) zero v h e = or_left (w == v) (is_among ws v) (eq-eqb w v (sym e))
among-at (w ∷ ws) (suc i) v h e = or_right (w == v) (is_among ws v) (among-at ws i v (omega arith) e)

pub waits-here : (problem : List (List Constraint)) (set : ℕ → Bool) (chosen : List ℕ) (i v place : ℕ) (cs : List Constraint) (members : List ℕ) → set ≡ is_among chosen → passed set (agenda problem chosen) ≡ passed set (agenda problem (drop i chosen)) → i < length chosen → v ≡ get_or chosen i v → cs ≡ constraints_of problem v → passed set (dependencies cs) ≡ members ∷ dependencies (drop (suc place) cs) → slice_get cs place ≡ Some (Dependency members) → IsNext problem chosen v place members
waits-here problem set chosen i v place cs members same so_far h is at e found =
    let rest = drop (suc i) chosen in
    record {
      at = ap (λ ds. slice_get ds place) (sym at) ∙ found;
      owned = among-at chosen i v h is;
      rest = dependencies (drop (suc place) cs) ++ agenda problem rest;
      waits = ap (λ (f : ℕ → Bool). passed f (agenda problem chosen)) (sym same)
          ∙ (so_far ∙ (ap (λ vs. passed set (agenda problem vs)) (drop-cons chosen i v h ∙ ap (λ u. u ∷ rest) (sym is))
          ∙ passed-append_some set (dependencies (constraints_of problem v)) (agenda problem rest) members (dependencies (drop (suc place) cs)) (ap (λ ds. passed set (dependencies ds)) (sym at) ∙ e)));
    }

pub waits-end : (problem : List (List Constraint)) (set : ℕ → Bool) (chosen : List ℕ) (i : ℕ) → set ≡ is_among chosen → passed set (agenda problem chosen) ≡ passed set (agenda problem (drop i chosen)) → length chosen ≤ i → waiting problem chosen ≡ []
waits-end problem set chosen i same so_far h =
    ap (λ (f : ℕ → Bool). passed f (agenda problem chosen)) (sym same) ∙ (so_far ∙ ap (λ vs. passed set (agenda problem vs)) (drop_all i chosen h))

-- Sizes

pub few-members : (problem : List (List Constraint)) (v place : ℕ) (cs : List Constraint) (members : List ℕ) → IsKept problem → cs ≡ constraints_of problem v → slice_get cs place ≡ Some (Dependency members) → length members ≤ VAR_LIMIT
few-members problem v place cs members k at e = few-of problem v place members k.few_members (ap (λ ds. slice_get ds place) (sym at) ∙ e)
