-- What a new subscription is named by is a name.
use Rattle.std.proofs.Common.{◌≡◌, ◌&&◌, ◌≤◌, ℕ, zero, suc, Bool, true, List, [], ◌∷◌, ◌++◌, length, take, nat_le, codes, refl, ◌∙◌, arith}
use Rattle.std.specs.Bool.{IsTrue}
use Rattle.std.specs.List.{list_all}
use Rattle.std.proofs.lemmas.Bool.{and_parts, le-leb, leb-true}
use Rattle.std.proofs.lemmas.Grind.{common_steps}
use Rattle.std.proofs.lemmas.List.Folds.{list_all-append}
use Rattle.cluster_objects.specs.declared.resolutions.Taken.{Taken}
use Rattle.olm_base.specs.Names.{is_name, is_name_byte}
use Rattle.install_plan.specs.Subscribing.{new_name, name_limit}

both : (a b : Bool) → a ≡ true → b ≡ true → (a && b) ≡ true
both a b h k = rw (h, k)

are_bytes : (text : List ℕ) → IsTrue (is_name text) → list_all is_name_byte text ≡ true
are_bytes text h = (and_parts (nat_le 1 (length text) && nat_le (length text) 1100) (list_all is_name_byte text) h).1

is_long : (text : List ℕ) → IsTrue (is_name text) → 1 ≤ length text
is_long text h =
    leb-true 1 (length text) (and_parts (nat_le 1 (length text)) (nat_le (length text) 1100)
    (and_parts (nat_le 1 (length text) && nat_le (length text) 1100) (list_all is_name_byte text) h).0).0

joined : (a b : List ℕ) → list_all is_name_byte a ≡ true → list_all is_name_byte b ≡ true → list_all is_name_byte (a ++ b) ≡ true
joined a b h k = list_all-append is_name_byte a b ∙ both (list_all is_name_byte a) (list_all is_name_byte b) h k

all_take : (n : ℕ) (text : List ℕ) → list_all is_name_byte text ≡ true → list_all is_name_byte (take n text) ≡ true
all_take zero [] h = refl
all_take zero (byte ∷ bytes) h = refl
all_take (suc n) [] h = refl
all_take (suc n) (byte ∷ bytes) h =
    let parts = and_parts (is_name_byte byte) (list_all is_name_byte bytes) h in
    both (is_name_byte byte) (list_all is_name_byte (take n bytes)) parts.0 (all_take n bytes parts.1)

short_take : (n : ℕ) (text : List ℕ) → length (take n text) ≤ n
short_take n text = grind (arith, common_steps)

long_take : (n : ℕ) (text : List ℕ) → 1 ≤ n → 1 ≤ length text → 1 ≤ length (take n text)
long_take n text h k = grind (arith, common_steps)

longer : (a b : List ℕ) → 1 ≤ length a → 1 ≤ length (a ++ b)
longer a b h = grind (arith, common_steps)

-- bytes of a name, at least one
abbrev Good : List ℕ → Type 0
Good text = (1 ≤ length text) × (list_all is_name_byte text ≡ true)

good_join : (a b : List ℕ) → Good a → list_all is_name_byte b ≡ true → Good (a ++ b)
good_join a b good bytes = (longer a b good.0, joined a b good.1 bytes)

cut : (n : ℕ) (text : List ℕ) → n ≡ name_limit → Good text → IsTrue (is_name (take n text))
cut n text limit good =
    let most : length (take n text) ≤ 1100 = (let short = short_take n text in omega (arith, short, limit)) in
    let least : 1 ≤ length (take n text) = long_take n text (omega (arith, limit)) good.0 in
    both (nat_le 1 (length (take n text)) && nat_le (length (take n text)) 1100) (list_all is_name_byte (take n text))
    (both (nat_le 1 (length (take n text))) (nat_le (length (take n text)) 1100) (le-leb 1 (length (take n text)) least) (le-leb (length (take n text)) 1100 most))
    (all_take n text good.1)

pub new_is_name : (taken : Taken) → IsTrue (is_name taken.«package») → IsTrue (is_name taken.channel) → IsTrue (is_name taken.catalog)
    → IsTrue (is_name taken.catalog_namespace) → IsTrue (is_name (new_name taken))
new_is_name taken p c s n =
    let dash = codes "-" in
    let one : Good taken.«package» = (is_long taken.«package» p, are_bytes taken.«package» p) in
    let two = good_join (taken.«package» ++ dash) taken.channel (good_join taken.«package» dash one refl) (are_bytes taken.channel c) in
    let three = good_join (taken.«package» ++ dash ++ taken.channel ++ dash) taken.catalog
    (good_join (taken.«package» ++ dash ++ taken.channel) dash two refl) (are_bytes taken.catalog s) in
    let four = good_join (taken.«package» ++ dash ++ taken.channel ++ dash ++ taken.catalog ++ dash) taken.catalog_namespace
    (good_join (taken.«package» ++ dash ++ taken.channel ++ dash ++ taken.catalog) dash three refl) (are_bytes taken.catalog_namespace n) in
    cut name_limit (taken.«package» ++ dash ++ taken.channel ++ dash ++ taken.catalog ++ dash ++ taken.catalog_namespace) refl four
