-- One more name in a table or a set.
use Rattle.std.proofs.Common.{◌≡◌, ◌+◌, ◌<◌, ◌||◌, ℕ, Bool, true, false, cond, not, if◌then◌else◌, List, [], ◌∷◌, length, get_or, take, Option, Some, None, refl, sym, ap, ◌∙◌}
use Rattle.std.specs.Borrow.{Bor}
use Rattle.std.specs.BTreeMap.{is_at}
use Rattle.std.specs.Cmp.Lexicographic.{bytes_decides, slice_cmp, texts_ties}
use Rattle.std.specs.List.{find, list_any}
use Rattle.std.specs.Map.{lookup}
use Rattle.std.specs.Option.{is_some, option_and_then, option_copied, option_or}
use Rattle.std.specs.Ordering.{nat_cmp}
use Rattle.std.proofs.lemmas.List.{take_more}
use Rattle.std.proofs.lemmas.List.Folds.{find-append, list_any_more}
use Rattle.fbc_types.specs.Channels.{entry_named, replaced_by}
use Rattle.fbc_types.specs.Texts.{same, version_in}
use Rattle.fbc_types.specs.declared.catalog.Bundle.{Bundle}
use Rattle.fbc_types.specs.declared.catalog.Entry.{Entry}
use Rattle.upgrade_graph.specs.Order.{bundle_named, version_named}
use Rattle.upgrade_graph.specs.Tables.{is_in, under}

ties_same : (a b : List ℕ) → is_at (slice_cmp nat_cmp a) b ≡ same a b
ties_same a b = sym (texts_ties a b)

or_none : {T : Type 0} (o : Option T) → o ≡ option_or o None
or_none None = refl
or_none (Some x) = refl

or_kept : {T : Type 0} (o p : Option T) → is_some o ≡ true → o ≡ option_or o p
or_kept None p h = absurd (let bad : false ≡ true = h in cc)
or_kept (Some x) p h = refl

or_absent : {T : Type 0} (o p : Option T) → is_some o ≡ false → p ≡ option_or o p
or_absent None p h = refl
or_absent (Some x) p h = absurd (let bad : true ≡ false = h in cc)

copied_some : {T : Type 0} (o : Option (Bor T)) → is_some (option_copied o) ≡ is_some o
copied_some None = refl
copied_some (Some x) = refl

copied_cond : {T : Type 0} (b : Bool) (v : Bor T) (o : Option (Bor T)) → option_copied (cond b (Some v) o) ≡ cond b (Some v.now) (option_copied o)
copied_cond true v o = refl
copied_cond false v o = refl

module _ {T : Type 0} (old : List (List ℕ × Bor T)) (key : List ℕ) where
  -- the key is kept already
  pub table_kept : (item : T) → is_some (lookup (is_at (slice_cmp nat_cmp key)) old) ≡ true → (name : List ℕ) → under old name ≡ option_or (under old name) (if same key name then Some item else None)
  table_kept item h name =
      let go : (b : Bool) → same key name ≡ b → under old name ≡ option_or (under old name) (if b then Some item else None) =
      λ b. elim b as (λ b. same key name ≡ b → under old name ≡ option_or (under old name) (if b then Some item else None)) [
        | true ↦ λ e. or_kept (under old name) (Some item) (ap (λ n. is_some (under old n)) (sym ((bytes_decides key name).0 e)) ∙ copied_some (lookup (is_at (slice_cmp nat_cmp key)) old) ∙ h)
        | false ↦ λ e. or_none (under old name)
      ] in
      go (same key name) refl

  -- the key is put
  pub table_put : (new : List (List ℕ × Bor T)) (copy : List ℕ) (item : Bor T) → copy ≡ key → is_some (lookup (is_at (slice_cmp nat_cmp key)) old) ≡ false
      → ((name : List ℕ) → lookup (is_at (slice_cmp nat_cmp name)) new ≡ cond (is_at (slice_cmp nat_cmp copy) name) (Some item) (lookup (is_at (slice_cmp nat_cmp name)) old))
      → (name : List ℕ) → under new name ≡ option_or (under old name) (if same key name then Some item.now else None)
  table_put new copy item copied h put name =
      let tie : is_at (slice_cmp nat_cmp copy) name ≡ same key name = ties_same copy name ∙ ap (λ k. same k name) copied in
      let go : (b : Bool) → same key name ≡ b → cond b (Some item.now) (under old name) ≡ option_or (under old name) (if b then Some item.now else None) =
      λ b. elim b as (λ b. same key name ≡ b → cond b (Some item.now) (under old name) ≡ option_or (under old name) (if b then Some item.now else None)) [
        | true ↦ λ e. or_absent (under old name) (Some item.now) (ap (λ n. is_some (under old n)) (sym ((bytes_decides key name).0 e)) ∙ copied_some (lookup (is_at (slice_cmp nat_cmp key)) old) ∙ h)
        | false ↦ λ e. or_none (under old name)
      ] in
      ap option_copied (put name)
      ∙ copied_cond (is_at (slice_cmp nat_cmp copy) name) item (lookup (is_at (slice_cmp nat_cmp name)) old)
      ∙ ap (λ b. cond b (Some item.now) (under old name)) tie ∙ go (same key name) refl

-- one more item of what is searched
pub find_more : {T : Type 0} (test : T → Bool) (xs : List T) (i : ℕ) (x : T) (old : Option T) → i < length xs → x ≡ get_or xs i x → old ≡ find test (take i xs)
    → option_or old (if test x then Some x else None) ≡ find test (take (i + 1) xs)
find_more test xs i x old below at so =
    ap (λ o. option_or o (if test x then Some x else None)) so
    ∙ ap (λ y. option_or (find test (take i xs)) (if test y then Some y else None)) at
    ∙ sym (ap (find test) (take_more xs i x below) ∙ find-append test (take i xs) (get_or xs i x ∷ []))

turned : (a b : Bool) → cond a true b ≡ (b || a)
turned true true = refl
turned true false = refl
turned false true = refl
turned false false = refl

pub or_assoc : (a b c : Bool) → ((a || b) || c) ≡ (a || (b || c))
or_assoc true b c = refl
or_assoc false b c = refl

-- a name is put into a set
pub set_put : (old new : List (List ℕ)) (key copy : List ℕ) → copy ≡ key
    → ((name : List ℕ) → is_in new name ≡ cond (is_at (slice_cmp nat_cmp copy) name) true (is_in old name))
    → (name : List ℕ) → is_in new name ≡ (is_in old name || same key name)
set_put old new key copy copied put name =
    let tie : is_at (slice_cmp nat_cmp copy) name ≡ same key name = ties_same copy name ∙ ap (λ k. same k name) copied in
    put name ∙ ap (λ b. cond b true (is_in old name)) tie ∙ turned (same key name) (is_in old name)

-- one more item of what a set was filled from
pub any_more : {T : Type 0} (test : T → Bool) (xs : List T) (i : ℕ) (x : T) (start old : Bool) → i < length xs → x ≡ get_or xs i x → old ≡ (start || list_any test (take i xs))
    → (old || test x) ≡ (start || list_any test (take (i + 1) xs))
any_more test xs i x start old below at so =
    ap (λ b. b || test x) so ∙ or_assoc start (list_any test (take i xs)) (test x)
    ∙ ap (λ b. start || b) (ap (λ y. list_any test (take i xs) || test y) at ∙ sym (list_any_more test xs i x below))

-- the entry that another one replaces, by a table
pub replaced_under : (entries : List Entry) (table : List (List ℕ × Bor Entry)) → ((name : List ℕ) → under table name ≡ entry_named entries name)
    → (entry : Entry) (name : Option (List ℕ)) → entry.replaces ≡ name → option_and_then (under table) name ≡ replaced_by entries entry
replaced_under entries table holds entry None h = ap (option_and_then (entry_named entries)) (sym h)
replaced_under entries table holds entry (Some name) h = holds name ∙ ap (option_and_then (entry_named entries)) (sym h)

pub find_agree : {T : Type 0} (p q : T → Bool) → ((x : T) → p x ≡ q x) → (xs : List T) → find p xs ≡ find q xs
find_agree p q each [] = refl
find_agree p q each (x ∷ xs) = ap (λ b. cond b (Some x) (find p xs)) (each x) ∙ ap (λ o. cond (q x) (Some x) o) (find_agree p q each xs)

-- the version of an entry, by a table of its package's bundles
pub version_under : (bundles : List Bundle) (owner : List ℕ) (table : List (List ℕ × Bor Bundle)) → ((name : List ℕ) → under table name ≡ bundle_named bundles owner name)
    → (name : List ℕ) → version_named bundles owner name ≡ option_and_then version_in (under table name)
unfolding version_named
version_under bundles owner table holds name = ap (option_and_then version_in) (sym (holds name))

-- an item that isn't searched for
pub find_less : {T : Type 0} (test : T → Bool) (xs : List T) (i : ℕ) (x : T) (old : Option T) → i < length xs → x ≡ get_or xs i x → test x ≡ false → old ≡ find test (take i xs)
    → old ≡ find test (take (i + 1) xs)
find_less test xs i x old below at h so =
    or_none old ∙ ap (λ b. option_or old (if b then Some x else None)) (sym h) ∙ find_more test xs i x old below at so

pub false_from_ne : (r b : Bool) → r ≡ not b → r ≡ true → b ≡ false
false_from_ne r false h k = refl
false_from_ne r true h k = absurd (let bad : false ≡ true = sym h ∙ k in cc)

pub true_from_ne : (r b : Bool) → r ≡ not b → r ≡ false → b ≡ true
true_from_ne r true h k = refl
true_from_ne r false h k = absurd (let bad : true ≡ false = sym h ∙ k in cc)
