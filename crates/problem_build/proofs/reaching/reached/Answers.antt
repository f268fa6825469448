use Rattle.std.proofs.Common.{◌≡◌, ◌<◌, ◌∙◌, ℕ, Bool, List, ap, sym, refl, subst, length, map, arith, false, true, replicate, rules}
use Rattle.std.proofs.lemmas.List.{length-map}
use Rattle.std.proofs.lemmas.Option.{slice_get-map, slice_get_read}
use Rattle.std.specs.Option.{option_map}
use Rattle.op_constraints.specs.Meets.{at}
use Rattle.problem_build.specs.Reaching.{is_asked_for, needs}
use Rattle.problem_build.specs.Shown.{shown_entry}
use Rattle.problem_build.proofs.Marking.{begun, each_seen, fewer, finish, seen_map, step}
use Rattle.problem_build.proofs.reaching.reached.Goals as goal

pub open-init : goal.open-init
open-init c =
    let seen = map shown_entry c.args.entries.now in
    let long : length seen ≡ length c.args.entries.now = length-map c.args.entries.now shown_entry in
    let none : c.in_ok-done.done.items ≡ replicate (length c.args.entries.now) false = search rules in
    begun c.args.asks.now seen c.in_ok-marks.marks.items c.in_ok-done.done.items
    (c.in_ok-marks.ensures ∙ seen_map (is_asked_for c.args.asks.now) shown_entry c.args.entries.now)
    (none ∙ ap (λ (n : ℕ). replicate n false) (sym long))

pub open-preserved : goal.open-preserved
open-preserved c =
    let seen = map shown_entry c.args.entries.now in
    let place = c.in-Some.place in
    let entry = c.index-entries-place.result in
    let long : length seen ≡ length c.args.entries.now = length-map c.args.entries.now shown_entry in
    let here : place < length c.open.marks.items =
    subst (λ (m : List Bool). place < length m) c.as_slice.ensures.value c.in-Some.ensures.some.0 in
    let below : place < length c.args.entries.now = omega (arith, c.open.invariant.long, long, here) in
    let marked : at c.open.marks.items place ≡ true = subst (λ (m : List Bool). at m place ≡ true) c.as_slice.ensures.value c.in-Some.ensures.some.1 in
    step c.args.asks.now seen c.open.marks.items c.open.done.items c.mark_needed.new.marks.items place (shown_entry entry) c.open.invariant
    (slice_get-map shown_entry c.args.entries.now place ∙ ap (option_map shown_entry) (slice_get_read c.args.entries.now (length c.args.entries.now) place entry refl below c.index-entries-place.is))
    marked c.mark_needed.ensures.length
    (each_seen c.args.entries.now (at c.open.marks.items) (at c.mark_needed.new.marks.items) (needs (shown_entry entry)) c.mark_needed.ensures.each)

pub returns : goal.returns
returns c =
    finish c.args.asks.now (map shown_entry c.args.entries.now) c.open.marks.items c.open.done.items c.open.invariant
    (λ i below h.
    subst (λ (d : List Bool). at d i ≡ true) c.as_slice-in-open.ensures.value
    (c.in_default.ensures.none i
    (subst (λ (m : List Bool). i < length m) (sym c.as_slice.ensures.value) below)
    (subst (λ (m : List Bool). at m i ≡ true) (sym c.as_slice.ensures.value) h)))

pub open-smaller : goal.open-smaller
open-smaller c =
    fewer c.open.done.items c.in-Some.place
    (omega (arith, c.in-Some.ensures.some.0, ap length c.as_slice.ensures.value, c.open.invariant.long, c.open.invariant.long_done))
    (subst (λ (d : List Bool). at d c.in-Some.place ≡ false) c.as_slice-in-open.ensures.value c.in-Some.ensures.some.2)
