-- A list that is read takes a byte at least for each item.
use Rattle.std.proofs.Common.{◌≡◌, ◌≤◌, ◌<◌, ℕ, List, [], ◌∷◌, ◌++◌, length, refl, ap, arith, length-append}
use Rattle.std.specs.List.{flat_map}
use Rattle.payloads.specs.Form.{Form, ◌⊗◌, number_form, short_form, bytes_form, text_form, name_form, list_form}
use Rattle.payloads.specs.Laws.{IsForm}
use Rattle.payloads.specs.Extents.{HasBytes, EndsByBytes}
use Rattle.payloads.specs.Keys.{key_form, stamp_form, gvk_form}
use Rattle.payloads.specs.Statuses.{crd_form}
use Rattle.payloads.specs.Plans.{step_form}
use Rattle.payloads.specs.Resolutions.{tip_form, seen_form, taken_form}
use Rattle.payloads.specs.Groups.{claim_form}
use Rattle.payloads.proofs.Leaves.{list_is_form}

number_bytes : (n : ℕ) → length (number_form.spell n) ≡ 8
unfolding number_form
number_bytes n = refl

number_has_bytes : HasBytes number_form
number_has_bytes n = let eight = number_bytes n in omega arith

pub short_has_bytes : HasBytes short_form
unfolding short_form
short_has_bytes n = number_has_bytes n

front_has_bytes : (front rest : List ℕ) → 0 < length front → 0 < length (front ++ rest)
front_has_bytes front rest some = omega (arith, length-append front rest)

bytes_has_bytes : HasBytes bytes_form
unfolding bytes_form
bytes_has_bytes t = let eight = number_bytes (length t) in omega (arith, length-append (number_form.spell (length t)) t)

text_has_bytes : HasBytes text_form
unfolding text_form
text_has_bytes t = bytes_has_bytes t

pub name_has_bytes : HasBytes name_form
unfolding name_form
name_has_bytes t = bytes_has_bytes t

key_has_bytes : HasBytes key_form
unfolding key_form
key_has_bytes k = front_has_bytes (text_form.spell k.group) _ (text_has_bytes k.group)

pub stamp_has_bytes : HasBytes stamp_form
unfolding stamp_form
stamp_has_bytes s = front_has_bytes (name_form.spell s.namespace) _ (name_has_bytes s.namespace)

pub gvk_has_bytes : HasBytes gvk_form
unfolding gvk_form
gvk_has_bytes g = front_has_bytes (text_form.spell g.group) _ (text_has_bytes g.group)

pub crd_has_bytes : HasBytes crd_form
unfolding crd_form
crd_has_bytes c = front_has_bytes (name_form.spell c.name) _ (name_has_bytes c.name)

pub step_has_bytes : HasBytes step_form
unfolding step_form
step_has_bytes s = front_has_bytes (key_form.spell s.key) _ (key_has_bytes s.key)

pub tip_has_bytes : HasBytes tip_form
unfolding tip_form
tip_has_bytes t = front_has_bytes (name_form.spell t.name) _ (name_has_bytes t.name)

pub seen_has_bytes : HasBytes seen_form
unfolding seen_form
seen_has_bytes s = front_has_bytes (name_form.spell s.namespace) _ (name_has_bytes s.namespace)

pub taken_has_bytes : HasBytes taken_form
unfolding taken_form
taken_has_bytes t = front_has_bytes (name_form.spell t.catalog_namespace) _ (name_has_bytes t.catalog_namespace)

pub claim_has_bytes : HasBytes claim_form
unfolding claim_form
claim_has_bytes c = front_has_bytes (gvk_form.spell c.kind) _ (gvk_has_bytes c.kind)

pub named_has_bytes : {A : Type 0} (form : Form A) → HasBytes (name_form ⊗ form)
named_has_bytes form x = front_has_bytes (name_form.spell x.0) (form.spell x.1) (name_has_bytes x.0)

pub keyed_has_bytes : {A : Type 0} (form : Form A) → HasBytes (key_form ⊗ form)
keyed_has_bytes form x = front_has_bytes (key_form.spell x.0) (form.spell x.1) (key_has_bytes x.0)

items_have_bytes : {A : Type 0} (form : Form A) → HasBytes form → (xs : List A) → length xs ≤ length (flat_map form.spell xs)
items_have_bytes form has [] = omega arith
items_have_bytes form has (x ∷ xs) =
    let first = has x in
    let others = items_have_bytes form has xs in
    omega (arith, length-append (form.spell x) (flat_map form.spell xs))

pub ends_by_bytes : {A : Type 0} (form : Form A) → IsForm form → HasBytes form → EndsByBytes form
unfolding list_form
ends_by_bytes form laws has bytes xs rest are e =
    let it = (list_is_form laws).only bytes xs rest are e in
    let items = items_have_bytes form has xs in
    let eight = number_bytes (length xs) in
    let long = ap length it.1 in
    omega (arith, length-append (number_form.spell (length xs) ++ flat_map form.spell xs) rest, length-append (number_form.spell (length xs)) (flat_map form.spell xs))
