-- What stands in a value nests less deep than the value does.
use Rattle.std.proofs.Common.{◌≡◌, ◌+◌, ◌<◌, ◌≤◌, ℕ, zero, suc, max, List, [], ◌∷◌, Option, Some, None, Ok, map, length, get_or, Ordering, Less, Equal, Greater, refl, sym, ap, ◌∙◌, subst, arith}
use Rattle.std.specs.Ordering.{nat_cmp, match_ordering}
use Rattle.std.specs.Cmp.Lexicographic.{slice_cmp}
use Rattle.serde_json.specs.Data.{Data, null, boolean, number, string, array, object, Items, no_items, item, Members, no_members, member, depth, items_depth, members_depth}
use Rattle.serde_json.specs.Find.{get_member}
use Rattle.serde_json.specs.View.{view}
use Rattle.serde_json.specs.declared.value.Value.{Value}
use Rattle.olm_base.specs.Fields.{field, as_list, items_list}
use Rattle.json_fields.specs.Values.{as_fields}

member_at : (o : Ordering) (here : Data) (later : Option Data) (found : Data) (n m : ℕ) → depth here ≤ n → (later ≡ Some found → depth found ≤ m) → match_ordering o later (Some here) later ≡ Some found → depth found ≤ max n m
member_at Less here later found n m h k e = let below = k e in omega (arith, below)
member_at Equal here later found n m h k e =
    let same : here ≡ found = cc e in
    let below : depth found ≤ n = subst (λ d. depth d ≤ n) same h in
    omega (arith, below)
member_at Greater here later found n m h k e = let below = k e in omega (arith, below)

-- a member nests no deeper than all members do
pub member_depth : (key : List ℕ) (members : Members) (found : Data) → get_member key members ≡ Some found → depth found ≤ members_depth members
member_depth key no_members found e = cc e
member_depth key (member name value members) found e =
    member_at (slice_cmp nat_cmp key name) value (get_member key members) found (depth value) (members_depth members) (omega arith) (member_depth key members found) e

fields_is : (value : Option Data) (found : Data) → as_fields value ≡ Ok found → value ≡ Some found
fields_is None found e = cc e
fields_is (Some null) found e = cc e
fields_is (Some (boolean b)) found e = cc e
fields_is (Some (number n)) found e = cc e
fields_is (Some (string s)) found e = cc e
fields_is (Some (array ds)) found e = cc e
fields_is (Some (object ms)) found e = let same : object ms ≡ found = cc e in ap Some same

-- an object in a field nests less deep
pub fields_depth : (value : Data) (key : List ℕ) (found : Data) → field as_fields value key ≡ Ok found → depth found < depth value
fields_depth null key found e = cc e
fields_depth (boolean b) key found e = cc e
fields_depth (number n) key found e = cc e
fields_depth (string s) key found e = cc e
fields_depth (array ds) key found e = cc e
fields_depth (object ms) key found e =
    let below = member_depth key ms found (fields_is (get_member key ms) found e) in
    omega (arith, below)

-- the deepest of these
abbrev pub all_depth : List Data → ℕ
all_depth [] = 0
all_depth (value ∷ values) = max (depth value) (all_depth values)

all_depth_is : (items : Items) → all_depth (items_list items) ≡ items_depth items
all_depth_is no_items = refl
all_depth_is (item value items) = ap (max (depth value)) (all_depth_is items)

items_within : (value : Option Data) (items : List Data) (n : ℕ) → as_list value ≡ Ok items → ((found : Data) → value ≡ Some found → depth found ≤ n) → all_depth items + 1 ≤ n
items_within None items n e h = cc e
items_within (Some null) items n e h = cc e
items_within (Some (boolean b)) items n e h = cc e
items_within (Some (number m)) items n e h = cc e
items_within (Some (string s)) items n e h = cc e
items_within (Some (array ds)) items n e h =
    let same : items_list ds ≡ items = cc e in
    let deep : all_depth items ≡ items_depth ds = ap all_depth (sym same) ∙ all_depth_is ds in
    let below : suc (items_depth ds) ≤ n = h (array ds) refl in
    omega (arith, deep, below)
items_within (Some (object ms)) items n e h = cc e

-- the items of a list in a field nest less deep, by two
pub list_depth : (value : Data) (key : List ℕ) (items : List Data) → field as_list value key ≡ Ok items → all_depth items + 2 ≤ depth value
list_depth null key items e = cc e
list_depth (boolean b) key items e = cc e
list_depth (number n) key items e = cc e
list_depth (string s) key items e = cc e
list_depth (array ds) key items e = cc e
list_depth (object ms) key items e =
    let below = items_within (get_member key ms) items (members_depth ms) e (member_depth key ms) in
    omega (arith, below)

-- an item nests no deeper than the deepest
pub item_depth : (items : List Value) (index : ℕ) (here : Value) → index < length items → here ≡ get_or items index here → depth (view here) ≤ all_depth (map view items)
item_depth [] index here h e = absurd (omega arith)
item_depth (value ∷ items) zero here h e =
    let same : depth (view here) ≡ depth (view value) = ap (λ v. depth (view v)) e in
    omega (arith, same)
item_depth (value ∷ items) (suc index) here h e =
    let later = item_depth items index here (omega arith) e in
    omega (arith, later)
