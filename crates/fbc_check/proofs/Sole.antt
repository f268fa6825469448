-- Channels with one head.
use Rattle.std.proofs.Common.{◌≡◌, ℕ, ◌==◌, ◌&&◌, ◌||◌, suc, Bool, true, false, not, cond, List, [], ◌∷◌, ◌++◌, length, append-nil, refl, sym, ap, ◌∙◌, arith, if◌then◌else◌}
use Rattle.std.specs.List.{flat_map, list_any}
use Rattle.std.proofs.lemmas.Bool.{ne_eqb}
use Rattle.fbc_types.specs.Channels.{heads, chain, has_name, has_name_twice, skips}
use Rattle.fbc_types.specs.Rules.{by_head, circle, stranded, stranded_entry, where_broken, of_channel, of_entry}
use Rattle.fbc_types.specs.declared.catalog.Entry.{Entry}
use Rattle.fbc_types.specs.declared.catalog.Channel.{Channel}
use Rattle.fbc_types.specs.declared.fault.CheckFault.{CheckFault}
use Rattle.upgrade_graph.specs.Order.{main_chain}
use Rattle.upgrade_graph.proofs.Once.{main_chain_is}

and_false : (b : Bool) → (b && false) ≡ false
and_false true = refl
and_false false = refl

and_true : (b : Bool) → (b && true) ≡ b
and_true true = refl
and_true false = refl

not_one : (head other : Entry) (others : List Entry) → (length (head ∷ other ∷ others) == 1) ≡ false
not_one head other others = ne_eqb (suc (suc (length others))) 1 (λ e. omega (arith, e))

circle_by : (blob : Channel) (found : List Entry) → found ≡ main_chain blob.entries → (hs : List Entry) → heads blob.entries ≡ hs
    → by_head (λ head. where_broken (has_name_twice (chain blob.entries head)) (of_channel 11 blob)) hs
    ≡ where_broken (has_name_twice found && (length hs == 1)) (of_channel 11 blob)
circle_by blob found is [] h = sym (ap (λ b. where_broken b (of_channel 11 blob)) (and_false (has_name_twice found)))
circle_by blob found is (head ∷ []) h =
    let same : found ≡ chain blob.entries head = is ∙ main_chain_is blob.entries head h in
    sym (ap (λ b. where_broken b (of_channel 11 blob)) (and_true (has_name_twice found) ∙ ap has_name_twice same))
circle_by blob found is (head ∷ other ∷ others) h =
    sym (ap (λ b. where_broken b (of_channel 11 blob)) (ap (λ b. has_name_twice found && b) (not_one head other others) ∙ and_false (has_name_twice found)))

circle_is : (blob : Channel) (found : List Entry) → found ≡ main_chain blob.entries
    → circle blob ≡ where_broken (has_name_twice found && (length (heads blob.entries) == 1)) (of_channel 11 blob)
circle_is blob found is = circle_by blob found is (heads blob.entries) refl

abbrev unreached : Channel → List Entry → List CheckFault
unreached blob found =
    flat_map (λ entry. where_broken (not (has_name entry.name found || list_any (skips entry.name) blob.entries)) (of_entry 12 blob entry)) blob.entries

abbrev stranded_of : Channel → List Entry → List CheckFault
stranded_of blob hs =
    by_head (λ head. if has_name_twice (chain blob.entries head) then [] else flat_map (stranded_entry blob head) blob.entries) hs

unless_twice : (blob : Channel) (head : Entry) (found : List Entry) → found ≡ chain blob.entries head → has_name_twice found ≡ false
    → (if has_name_twice (chain blob.entries head) then [] else flat_map (stranded_entry blob head) blob.entries) ≡ unreached blob found
unless_twice blob head found is once =
    ap (λ b. cond b [] (flat_map (stranded_entry blob head) blob.entries)) (ap has_name_twice (sym is) ∙ once)
    ∙ ap (λ met. unreached blob met) (sym is)

stranded_by : (blob : Channel) (found : List Entry) → found ≡ main_chain blob.entries → has_name_twice found ≡ false → (hs : List Entry) → heads blob.entries ≡ hs → (length hs == 1) ≡ true
    → stranded_of blob hs ≡ unreached blob found
stranded_by blob found is once [] h one = absurd (let bad : false ≡ true = one in cc)
stranded_by blob found is once (head ∷ []) h one = unless_twice blob head found (is ∙ main_chain_is blob.entries head h) once
stranded_by blob found is once (head ∷ other ∷ others) h one = absurd (let bad : false ≡ true = sym (not_one head other others) ∙ one in cc)

stranded_is : (blob : Channel) (found : List Entry) → found ≡ main_chain blob.entries → has_name_twice found ≡ false → (length (heads blob.entries) == 1) ≡ true
    → stranded blob ≡ unreached blob found
stranded_is blob found is once one = stranded_by blob found is once (heads blob.entries) refl one

none_by : (blob : Channel) (hs : List Entry) → heads blob.entries ≡ hs → (length hs == 1) ≡ false → stranded_of blob hs ≡ []
none_by blob [] h one = refl
none_by blob (head ∷ []) h one = absurd (let bad : true ≡ false = one in cc)
none_by blob (head ∷ other ∷ others) h one = refl

nothing_more : (old more : List CheckFault) → more ≡ [] → old ≡ old ++ more
nothing_more old more h = sym (ap (λ w. old ++ w) h ∙ append-nil old)

pub none_without_head : (blob : Channel) (old : List CheckFault) (count : ℕ) → count ≡ length (heads blob.entries) → (count == 1) ≡ false → old ≡ old ++ stranded blob
none_without_head blob old count counted one = nothing_more old (stranded blob) (none_by blob (heads blob.entries) refl (ap (λ n. n == 1) (sym counted) ∙ one))

circle_none_by : (blob : Channel) (found : List Entry) → found ≡ main_chain blob.entries → has_name_twice found ≡ true → (hs : List Entry) → heads blob.entries ≡ hs → stranded_of blob hs ≡ []
circle_none_by blob found is twice [] h = refl
circle_none_by blob found is twice (head ∷ []) h =
    let same : found ≡ chain blob.entries head = is ∙ main_chain_is blob.entries head h in
    ap (λ b. cond b [] (flat_map (stranded_entry blob head) blob.entries)) (ap has_name_twice (sym same) ∙ twice)
circle_none_by blob found is twice (head ∷ other ∷ others) h = refl

pub none_in_circle : (blob : Channel) (found : List Entry) (old : List CheckFault) → found ≡ main_chain blob.entries → has_name_twice found ≡ true → old ≡ old ++ stranded blob
none_in_circle blob found old is twice = nothing_more old (stranded blob) (circle_none_by blob found is twice (heads blob.entries) refl)

-- what is noted of a chain's channel
pub circles_are : (blob : Channel) (found : List Entry) (old new : List CheckFault) (count : ℕ) (b : Bool) → count ≡ length (heads blob.entries) → found ≡ main_chain blob.entries
    → b ≡ (has_name_twice found && (count == 1)) → new ≡ old ++ where_broken b (of_channel 11 blob) → new ≡ old ++ circle blob
circles_are blob found old new count b counted is same noted =
    noted
    ∙ ap (λ w. old ++ w)
    (ap (λ c. where_broken c (of_channel 11 blob)) (same ∙ ap (λ n. has_name_twice found && (n == 1)) counted) ∙ sym (circle_is blob found is))

pub stranded_are : (blob : Channel) (found : List Entry) (old new : List CheckFault) (count : ℕ) → count ≡ length (heads blob.entries) → found ≡ main_chain blob.entries
    → has_name_twice found ≡ false → (count == 1) ≡ true → new ≡ old ++ unreached blob found → new ≡ old ++ stranded blob
stranded_are blob found old new count counted is once one noted =
    noted ∙ ap (λ w. old ++ w) (sym (stranded_is blob found is once (ap (λ n. n == 1) (sym counted) ∙ one)))
