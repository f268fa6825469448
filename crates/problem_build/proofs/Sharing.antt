-- A set that meets a problem has one entry or tip of a package, and one provider of a kind.
use Rattle.std.proofs.Common.{Less, Equal, Greater, ◌≡◌, ◌+◌, ◌<◌, ◌≤◌, ℕ, zero, suc, Bool, true, false, cond, nat_lt, nat_le, if◌then◌else◌, List, [], ◌∷◌, ◌++◌, length, map, refl, sym, ap, ◌∙◌, subst, arith, Option, Some, None, slice_get}
use Rattle.std.specs.BTreeSet.{insert_key}
use Rattle.std.specs.Cmp.Lexicographic.{slice_cmp}
use Rattle.std.specs.List.{cons_option, count_by, filter, filter_map, flat_map, fold, list_any, range_with_len}
use Rattle.std.specs.Option.{option_map_or}
use Rattle.std.specs.Ordering.{match_ordering, nat_cmp}
use Rattle.std.specs.declared.cmp.Ordering.{Ordering}
use Rattle.std.proofs.lemmas.Bool.{le-leb, leb-true, ltb-true, ltb-false}
use Rattle.std.proofs.lemmas.List.Sums.{sum_by-cons}
use Rattle.std.proofs.lemmas.Map.Lookups.{exact_bytes, exact_pairs}
use Rattle.std.proofs.lemmas.Option.{get_or_from_slice_get}
use Rattle.olm_base.specs.declared.gvk.Gvk.{Gvk}
use Rattle.op_constraints.specs.Meets.{Meets, constraint_at, constraints_of}
use Rattle.op_constraints.specs.declared.Constraint.{Constraint}
use Rattle.op_constraints.specs.declared.Constraint.TheVariants.{AtMost}
use Rattle.op_properties.specs.Offers.{Provided, same_kind}
use Rattle.op_properties.proofs.Singles.{same_is, same_kind_is}
use Rattle.fbc_types.specs.Texts.{same}
use Rattle.problem_build.specs.Laws.{HasOneAtMost, KindsAreOnce, PackagesAreOnce}
use Rattle.problem_build.specs.Numbers.{numbers_where, once_in_order}
use Rattle.problem_build.specs.Variables.{Choices, first_entry, has_kind, is_of_package, is_shared, kind_cmp, kinds, of_entry, of_kind, of_package, of_subscription, of_tip, one_of, packages, problem, provided, providers_where}

abbrev In : {T : Type 0} → T → List T → Type 0
In x xs = (k : ℕ) × (slice_get xs k ≡ Some x)

in_left : {T : Type 0} (x : T) (xs ys : List T) (k : ℕ) → slice_get xs k ≡ Some x → In x (xs ++ ys)
in_left x [] ys k e = absurd (let bad : None ≡ Some x = e in cc)
in_left x (y ∷ xs) ys zero e = (zero, e)
in_left x (y ∷ xs) ys (suc k) e = let r = in_left x xs ys k e in (suc r.0, r.1)

in_right : {T : Type 0} (x : T) (xs ys : List T) → In x ys → In x (xs ++ ys)
in_right x [] ys h = h
in_right x (y ∷ xs) ys h = let r = in_right x xs ys h in (suc r.0, r.1)

in_map : {A T : Type 0} (f : A → T) (x : A) (xs : List A) (k : ℕ) → slice_get xs k ≡ Some x → In (f x) (map f xs)
in_map f x [] k e = absurd (let bad : None ≡ Some x = e in cc)
in_map f x (y ∷ xs) zero e = let same : y ≡ x = cc in (zero, ap (λ z. Some (f z)) same)
in_map f x (y ∷ xs) (suc k) e = let r = in_map f x xs k e in (suc r.0, r.1)

in_filter : {T : Type 0} (p : T → Bool) (x : T) (xs : List T) (k : ℕ) → slice_get xs k ≡ Some x → p x ≡ true → In x (filter p xs)
in_filter p x [] k e h = absurd (let bad : None ≡ Some x = e in cc)
in_filter p x (y ∷ xs) zero e h =
    let same : y ≡ x = cc in
    let kept : filter p (y ∷ xs) ≡ y ∷ filter p xs = rw (ap p same ∙ h) refl in
    (zero, ap (λ l. slice_get l zero) kept ∙ ap Some same)
in_filter p x (y ∷ xs) (suc k) e h =
    let r = in_filter p x xs k e h in
    let go : (b : Bool) → In x (cond b (y ∷ filter p xs) (filter p xs)) =
    λ b. elim b as (λ b. In x (cond b (y ∷ filter p xs) (filter p xs))) [ true ↦ (suc r.0, r.1) | false ↦ r ] in
    go (p y)

in_filter_map : {A T : Type 0} (f : A → Option T) (x : A) (y : T) (xs : List A) (k : ℕ) → slice_get xs k ≡ Some x → f x ≡ Some y → In y (filter_map f xs)
in_filter_map f x y [] k e h = absurd (let bad : None ≡ Some x = e in cc)
in_filter_map f x y (z ∷ xs) zero e h =
    let same : z ≡ x = cc in
    let kept : filter_map f (z ∷ xs) ≡ y ∷ filter_map f xs = ap (λ o. cons_option o (filter_map f xs)) (ap f same ∙ h) in
    (zero, ap (λ l. slice_get l zero) kept)
in_filter_map {A} {T} f x y (z ∷ xs) (suc k) e h =
    let r = in_filter_map f x y xs k e h in
    let go : (o : Option T) → In y (cons_option o (filter_map f xs)) =
    λ o. elim o as (λ o. In y (cons_option o (filter_map f xs))) [ None ↦ r | Some w ↦ (suc r.0, r.1) ] in
    go (f z)

in_flat_map : {A T : Type 0} (f : A → List T) (x : A) (y : T) (xs : List A) (k : ℕ) → slice_get xs k ≡ Some x → In y (f x) → In y (flat_map f xs)
in_flat_map f x y [] k e h = absurd (let bad : None ≡ Some x = e in cc)
in_flat_map f x y (z ∷ xs) zero e h =
    let same : x ≡ z = cc in
    let there : In y (f z) = subst (λ w. In y (f w)) same h in
    in_left y (f z) (flat_map f xs) there.0 there.1
in_flat_map f x y (z ∷ xs) (suc k) e h = in_right y (f z) (flat_map f xs) (in_flat_map f x y xs k e h)

module _ {K : Type 0} (compare : K → K → Ordering) (tied : (x y : K) → compare x y ≡ Equal → x ≡ y) where
  insert_old : (ks : List K) (k y : K) (n : ℕ) → slice_get ks n ≡ Some y → In y (insert_key compare ks k)
  insert_old [] k y n e = absurd (let bad : None ≡ Some y = e in cc)
  insert_old (x ∷ ks) k y zero e =
      let go : (o : Ordering) → In y (match_ordering o (k ∷ x ∷ ks) (x ∷ ks) (x ∷ insert_key compare ks k)) =
      λ o. elim o as (λ o. In y (match_ordering o (k ∷ x ∷ ks) (x ∷ ks) (x ∷ insert_key compare ks k))) [
        | Less ↦ (suc zero, e)
        | Equal ↦ (zero, e)
        | Greater ↦ (zero, e)
      ] in
      go (compare k x)
  insert_old (x ∷ ks) k y (suc n) e =
      let r = insert_old ks k y n e in
      let go : (o : Ordering) → In y (match_ordering o (k ∷ x ∷ ks) (x ∷ ks) (x ∷ insert_key compare ks k)) =
      λ o. elim o as (λ o. In y (match_ordering o (k ∷ x ∷ ks) (x ∷ ks) (x ∷ insert_key compare ks k))) [
        | Less ↦ (suc (suc n), e)
        | Equal ↦ (suc n, e)
        | Greater ↦ (suc r.0, r.1)
      ] in
      go (compare k x)

  insert_new : (ks : List K) (k : K) → In k (insert_key compare ks k)
  insert_new [] k = (zero, refl)
  insert_new (x ∷ ks) k =
      let r = insert_new ks k in
      let go : (o : Ordering) → compare k x ≡ o → In k (match_ordering o (k ∷ x ∷ ks) (x ∷ ks) (x ∷ insert_key compare ks k)) =
      λ o. elim o as (λ o. compare k x ≡ o → In k (match_ordering o (k ∷ x ∷ ks) (x ∷ ks) (x ∷ insert_key compare ks k))) [
        | Less ↦ λ h. (zero, refl)
        | Equal ↦ λ h. (zero, ap Some (sym (tied k x h)))
        | Greater ↦ λ h. (suc r.0, r.1)
      ] in
      go (compare k x) refl

  fold_old : (items kept : List K) (y : K) → In y kept → In y (fold (insert_key compare) kept items)
  fold_old [] kept y h = h
  fold_old (x ∷ items) kept y h = fold_old items (insert_key compare kept x) y (insert_old kept x y h.0 h.1)

  fold_new : (items kept : List K) (y : K) (k : ℕ) → slice_get items k ≡ Some y → In y (fold (insert_key compare) kept items)
  fold_new [] kept y k e = absurd (let bad : None ≡ Some y = e in cc)
  fold_new (x ∷ items) kept y zero e =
      let same : x ≡ y = cc in
      fold_old items (insert_key compare kept x) y (subst (λ z. In z (insert_key compare kept x)) same (insert_new kept x))
  fold_new (x ∷ items) kept y (suc k) e = fold_new items (insert_key compare kept x) y k e

-- How many pass.
counted : {T : Type 0} (p : T → Bool) (x : T) (xs : List T) → count_by p (x ∷ xs) ≡ cond (p x) 1 0 + count_by p xs
counted p x xs = sum_by-cons (λ y. cond (p y) 1 0) x xs

counted_yes : {T : Type 0} (p : T → Bool) (x : T) (xs : List T) → p x ≡ true → count_by p (x ∷ xs) ≡ 1 + count_by p xs
counted_yes p x xs h = counted p x xs ∙ ap (λ (b : Bool). cond b 1 0 + count_by p xs) h

counted_more : {T : Type 0} (p : T → Bool) (x : T) (xs : List T) → count_by p xs ≤ count_by p (x ∷ xs)
counted_more p x xs = let all = counted p x xs in omega (arith, all)

one_passing : {T : Type 0} (p : T → Bool) (xs : List T) (i : ℕ) (a : T) → slice_get xs i ≡ Some a → p a ≡ true → 1 ≤ count_by p xs
one_passing p [] i a e h = absurd (let bad : None ≡ Some a = e in cc)
one_passing p (x ∷ xs) zero a e h =
    let same : x ≡ a = cc in
    let all = counted_yes p x xs (ap p same ∙ h) in
    omega (arith, all)
one_passing p (x ∷ xs) (suc i) a e h =
    let some : 1 ≤ count_by p xs = one_passing p xs i a e h in
    let more = counted_more p x xs in
    omega (arith, some, more)

two_passing : {T : Type 0} (p : T → Bool) (xs : List T) (i j : ℕ) (a b : T) → slice_get xs i ≡ Some a → slice_get xs j ≡ Some b → p a ≡ true → p b ≡ true → i < j → 2 ≤ count_by p xs
two_passing p [] i j a b e f h k l = absurd (let bad : None ≡ Some a = e in cc)
two_passing p (x ∷ xs) i zero a b e f h k l = absurd (omega arith)
two_passing p (x ∷ xs) zero (suc j) a b e f h k l =
    let same : x ≡ a = cc in
    let all = counted_yes p x xs (ap p same ∙ h) in
    let some : 1 ≤ count_by p xs = one_passing p xs j b f k in
    omega (arith, all, some)
two_passing p (x ∷ xs) (suc i) (suc j) a b e f h k l =
    let some : 2 ≤ count_by p xs = two_passing p xs i j a b e f h k (omega arith) in
    let more = counted_more p x xs in
    omega (arith, some, more)

module _ {T : Type 0} (set : ℕ → Bool) (p : T → Bool) where
  later : (n : ℕ) (x : T) (xs : List T) → count_by set (numbers_where (n + 1) p xs) ≤ count_by set (numbers_where n p (x ∷ xs))
  later n x xs =
      let more = counted_more set n (numbers_where (n + 1) p xs) in
      let go : (b : Bool) → count_by set (numbers_where (n + 1) p xs) ≤ count_by set (if b then n ∷ numbers_where (n + 1) p xs else numbers_where (n + 1) p xs) =
      λ b. elim b as (λ b. count_by set (numbers_where (n + 1) p xs) ≤ count_by set (if b then n ∷ numbers_where (n + 1) p xs else numbers_where (n + 1) p xs)) [
        | true ↦ more
        | false ↦ omega arith
      ] in
      go (p x)

  here : (n : ℕ) (x : T) (xs : List T) → p x ≡ true → set n ≡ true → count_by set (numbers_where n p (x ∷ xs)) ≡ 1 + count_by set (numbers_where (n + 1) p xs)
  here n x xs h s =
      let kept : numbers_where n p (x ∷ xs) ≡ n ∷ numbers_where (n + 1) p xs = rw h refl in
      ap (count_by set) kept ∙ counted_yes set n (numbers_where (n + 1) p xs) s

  moved : (n i : ℕ) → set (n + suc i) ≡ true → set ((n + 1) + i) ≡ true
  moved n i h = let same : n + suc i ≡ (n + 1) + i = omega arith in subst (λ m. set m ≡ true) same h

  first : (n : ℕ) → set (n + zero) ≡ true → set n ≡ true
  first n h = let same : n + zero ≡ n = omega arith in subst (λ m. set m ≡ true) same h

  one_counted : (n : ℕ) (xs : List T) (i : ℕ) (a : T) → slice_get xs i ≡ Some a → p a ≡ true → set (n + i) ≡ true → 1 ≤ count_by set (numbers_where n p xs)
  one_counted n [] i a e h s = absurd (let bad : None ≡ Some a = e in cc)
  one_counted n (x ∷ xs) zero a e h s =
      let same : x ≡ a = cc in
      let all = here n x xs (ap p same ∙ h) (first n s) in
      omega (arith, all)
  one_counted n (x ∷ xs) (suc i) a e h s =
      let some : 1 ≤ count_by set (numbers_where (n + 1) p xs) = one_counted (n + 1) xs i a e h (moved n i s) in
      let more = later n x xs in
      omega (arith, some, more)

  two_counted : (n : ℕ) (xs : List T) (i j : ℕ) (a b : T) → slice_get xs i ≡ Some a → slice_get xs j ≡ Some b → p a ≡ true → p b ≡ true
      → set (n + i) ≡ true → set (n + j) ≡ true → i < j → 2 ≤ count_by set (numbers_where n p xs)
  two_counted n [] i j a b e f h k s t l = absurd (let bad : None ≡ Some a = e in cc)
  two_counted n (x ∷ xs) i zero a b e f h k s t l = absurd (omega arith)
  two_counted n (x ∷ xs) zero (suc j) a b e f h k s t l =
      let same : x ≡ a = cc in
      let all = here n x xs (ap p same ∙ h) (first n s) in
      let some : 1 ≤ count_by set (numbers_where (n + 1) p xs) = one_counted (n + 1) xs j b f k (moved n j t) in
      omega (arith, all, some)
  two_counted n (x ∷ xs) (suc i) (suc j) a b e f h k s t l =
      let some : 2 ≤ count_by set (numbers_where (n + 1) p xs) = two_counted (n + 1) xs i j a b e f h k (moved n i s) (moved n j t) (omega arith) in
      let more = later n x xs in
      omega (arith, some, more)

module _ (choices : Choices) (set : ℕ → Bool) (meets : Meets (problem choices) set) (provides : Provided → Bool)
    (is_row : (a : Provided) (i : ℕ) → slice_get (provided choices) i ≡ Some a → provides a ≡ true → 2 ≤ count_by provides (provided choices) → In (one_of choices provides) (problem choices)) where
  none_apart : (i j : ℕ) (a b : Provided) → slice_get (provided choices) i ≡ Some a → slice_get (provided choices) j ≡ Some b → provides a ≡ true → provides b ≡ true
      → set (first_entry choices + i) ≡ true → set (first_entry choices + j) ≡ true → i < j → ⊥
  none_apart i j a b e f h k s t l =
      let shared : 2 ≤ count_by provides (provided choices) = two_passing provides (provided choices) i j a b e f h k l in
      let row = is_row a i e h shared in
      let at_row : constraints_of (problem choices) row.0 ≡ one_of choices provides = get_or_from_slice_get (problem choices) row.0 (one_of choices provides) [] row.1 in
      let there : constraint_at (problem choices) row.0 zero ≡ Some (AtMost 1 (providers_where choices provides)) = ap (λ (r : List Constraint). slice_get r zero) at_row in
      let met : nat_le (count_by set (providers_where choices provides)) 1 ≡ true = meets row.0 zero (AtMost 1 (providers_where choices provides)) there in
      let few : count_by set (providers_where choices provides) ≤ 1 = leb-true (count_by set (providers_where choices provides)) 1 met in
      let many : 2 ≤ count_by set (providers_where choices provides) = two_counted set provides (first_entry choices) (provided choices) i j a b e f h k s t l in
      omega (arith, few, many)

  pub one_at_most : HasOneAtMost choices set provides
  one_at_most i j a b e f h k s t =
      let go : (x y : Bool) → nat_lt i j ≡ x → nat_lt j i ≡ y → i ≡ j =
      λ x y. elim x as (λ x. nat_lt i j ≡ x → nat_lt j i ≡ y → i ≡ j) [
        | true ↦ λ m n. absurd (none_apart i j a b e f h k s t (ltb-true i j m))
        | false ↦ λ m. elim y as (λ y. nat_lt j i ≡ y → i ≡ j) [
          | true ↦ λ n. absurd (none_apart j i b a f e k h t s (ltb-true j i n))
          | false ↦ λ n. let u : j ≤ i = ltb-false i j m in let v : i ≤ j = ltb-false j i n in omega arith
        ]
      ] in
      go (nat_lt i j) (nat_lt j i) refl refl

tied_kinds : (a b : Gvk) → kind_cmp a b ≡ Equal → a ≡ b
tied_kinds a b h =
    ap (λ (p : List ℕ × (List ℕ × List ℕ)). let gvk : Gvk = record { group = p.0; version = p.1.0; kind = p.1.1 } in gvk)
    (exact_pairs _ _ exact_bytes (exact_pairs _ _ exact_bytes exact_bytes) (a.group, (a.version, a.kind)) (b.group, (b.version, b.kind)) h)

named_package : (name : List ℕ) (o : Option (List ℕ)) → option_map_or (same name) o false ≡ true → o ≡ Some name
named_package name None h = absurd (let bad : false ≡ true = h in cc)
named_package name (Some other) h = ap Some (sym (same_is name other h))

in_kinds : (kind : Gvk) (ks : List Gvk) → list_any (same_kind kind) ks ≡ true → In kind ks
in_kinds kind [] h = absurd (let bad : false ≡ true = h in cc)
in_kinds kind (k ∷ ks) h =
    let go : (b : Bool) → same_kind kind k ≡ b → In kind (k ∷ ks) =
    λ b. elim b as (λ b. same_kind kind k ≡ b → In kind (k ∷ ks)) [
      | true ↦ λ e. (zero, ap Some (sym (same_kind_is kind k e)))
      | false ↦ λ e.
          let rest : list_any (same_kind kind) ks ≡ true = rw e at h in
          let r = in_kinds kind ks rest in
          (suc r.0, r.1)
    ] in
    go (same_kind kind k) refl

package_row : (choices : Choices) (name : List ℕ) (a : Provided) (i : ℕ) → slice_get (provided choices) i ≡ Some a → is_of_package name a ≡ true
    → 2 ≤ count_by (is_of_package name) (provided choices) → In (one_of choices (is_of_package name)) (problem choices)
package_row choices name a i e h shared =
    let offers = provided choices in
    let one = in_filter_map (λ (offer : Provided). offer.«package») a name offers i e (named_package name a.«package» h) in
    let once = fold_new (slice_cmp nat_cmp) exact_bytes (filter_map (λ (offer : Provided). offer.«package») offers) [] name one.0 one.1 in
    let kept = in_filter (λ (n : List ℕ). is_shared offers (is_of_package n)) name (once_in_order (slice_cmp nat_cmp) (filter_map (λ (offer : Provided). offer.«package») offers)) once.0 once.1
    (le-leb 2 (count_by (is_of_package name) offers) shared) in
    let row = in_map (of_package choices) name (packages offers) kept.0 kept.1 in
    in_right _ (map (of_subscription choices) choices.asks) _
    (in_right _ (map (of_entry choices) choices.entries) _
    (in_right _ (map (of_tip choices.asks) (range_with_len 0 (length choices.tips))) _
    (in_left _ (map (of_package choices) (packages offers)) (map (of_kind choices) (kinds offers)) row.0 row.1)))

kind_row : (choices : Choices) (kind : Gvk) (a : Provided) (i : ℕ) → slice_get (provided choices) i ≡ Some a → has_kind kind a ≡ true
    → 2 ≤ count_by (has_kind kind) (provided choices) → In (one_of choices (has_kind kind)) (problem choices)
kind_row choices kind a i e h shared =
    let offers = provided choices in
    let one = in_flat_map (λ (offer : Provided). offer.kinds) a kind offers i e (in_kinds kind a.kinds h) in
    let once = fold_new kind_cmp tied_kinds (flat_map (λ (offer : Provided). offer.kinds) offers) [] kind one.0 one.1 in
    let kept = in_filter (λ (k : Gvk). is_shared offers (has_kind k)) kind (once_in_order kind_cmp (flat_map (λ (offer : Provided). offer.kinds) offers)) once.0 once.1
    (le-leb 2 (count_by (has_kind kind) offers) shared) in
    let row = in_map (of_kind choices) kind (kinds offers) kept.0 kept.1 in
    in_right _ (map (of_subscription choices) choices.asks) _
    (in_right _ (map (of_entry choices) choices.entries) _
    (in_right _ (map (of_tip choices.asks) (range_with_len 0 (length choices.tips))) _
    (in_right _ (map (of_package choices) (packages offers)) (map (of_kind choices) (kinds offers)) row)))

pub packages_are_once : PackagesAreOnce
packages_are_once choices set meets name = one_at_most choices set meets (is_of_package name) (package_row choices name)

pub kinds_are_once : KindsAreOnce
kinds_are_once choices set meets kind = one_at_most choices set meets (has_kind kind) (kind_row choices kind)
