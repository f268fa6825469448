use Rattle.std.proofs.Common.{◌≡◌, ◌<◌, ◌∙◌, ℕ, Bool, List, ap, sym, subst, length, map}
use Rattle.std.specs.Borrow.{Bor}
use Rattle.std.specs.List.{All, items_where_true}
use Rattle.std.specs.Option.{IfSome}
use Rattle.std.proofs.lemmas.List.{length-map}
use Rattle.std.proofs.lemmas.List.Elements.{All-from_recursion}
use Rattle.cluster_objects.specs.declared.statuses.SubSpec.{SubSpec}
use Rattle.op_properties.specs.Offers.{shown}
use Rattle.view_basis.specs.Tips.{tip_offer}
use Rattle.problem_build.specs.Asking.{asked}
use Rattle.problem_build.specs.Building.{asks}
use Rattle.problem_build.specs.Entries.{Entry, entries}
use Rattle.problem_build.specs.Reaching.{AreReached}
use Rattle.problem_build.specs.Shown.{shown_entry}
use Rattle.problem_build.specs.declared.asking.Asked.{Asked}
use Rattle.problem_build.specs.declared.entries.Listed.{Listed}
use Rattle.problem_build.proofs.Answering.{answer_of, asks_among, choices_same}
use Rattle.problem_build.proofs.building.build.Goals as goal

pub build_over-requires-clause-asks : goal.build_over-requires-clause-asks
build_over-requires-clause-asks c =
    ap length (c.as_slice-6.ensures.value ∙ c.in_ok-asks.ensures)
    ∙ length-map c.args.basis.subscriptions (λ (subscription : List ℕ × SubSpec). asked c.args.catalogs.now c.args.basis.tips subscription.1)

pub build_over-requires-clause-installed : goal.build_over-requires-clause-installed
build_over-requires-clause-installed c =
    let long : length (map tip_offer c.args.basis.tips) ≡ length c.as_slice-8.result.now =
    ap length (sym (ap (map shown) c.as_slice-8.ensures.value ∙ c.in_ok-tips.ensures ∙ ap (map tip_offer) c.as_slice-5.ensures)) ∙ length-map c.as_slice-8.result.now shown in
    subst (λ (l : List Asked). All (λ (a : Asked). IfSome a.installed (λ place. place < length c.as_slice-8.result.now)) l) (sym (c.as_slice-6.ensures.value ∙ c.in_ok-asks.ensures))
    (subst (λ (n : ℕ). All (λ (a : Asked). IfSome a.installed (λ place. place < n)) (asks c.args.basis c.args.catalogs.now)) long
    (All-from_recursion (λ (a : Asked). IfSome a.installed (λ place. place < length (map tip_offer c.args.basis.tips))) (asks c.args.basis c.args.catalogs.now) (asks_among c.args.basis c.args.catalogs.now)))

pub returns : goal.returns
returns c =
    let basis = c.args.basis in
    let catalogs = c.args.catalogs.now in
    let all : map shown_entry c.as_slice-2.result.now ≡ entries catalogs =
    ap (map shown_entry) c.as_slice-2.ensures.value ∙ c.in_ok-entries.ensures in
    let marks = c.in_ok-marks.marks.items in
    let reached : AreReached (asks basis catalogs) (entries catalogs) marks =
    subst (λ (l : List Entry). AreReached (asks basis catalogs) l marks) all
    (subst (λ (l : List Asked). AreReached l (map shown_entry c.as_slice-2.result.now) marks) (c.as_slice.ensures.value ∙ c.in_ok-asks.ensures) c.in_ok-marks.ensures) in
    let found : map (λ (e : Bor Listed). shown_entry e.now) c.as_slice-7.result.now ≡ items_where_true marks (entries catalogs) =
    ap (map (λ (e : Bor Listed). shown_entry e.now)) c.as_slice-7.ensures.value ∙ c.in_ok-found.ensures
    ∙ ap (λ (m : List Bool). items_where_true m (map shown_entry c.as_slice-3.result.now)) c.as_slice-4.ensures.value
    ∙ ap (items_where_true marks) (ap (map shown_entry) c.as_slice-3.ensures.value ∙ c.in_ok-entries.ensures) in
    answer_of basis catalogs marks _ c.build_over.result reached
    (choices_same c.as_slice-6.result.now (asks basis catalogs) (map (λ (e : Bor Listed). shown_entry e.now) c.as_slice-7.result.now) (items_where_true marks (entries catalogs)) (map shown c.as_slice-8.result.now) (map tip_offer basis.tips)
    (c.as_slice-6.ensures.value ∙ c.in_ok-asks.ensures) found
    (ap (map shown) c.as_slice-8.ensures.value ∙ c.in_ok-tips.ensures ∙ ap (map tip_offer) c.as_slice-5.ensures))
    c.build_over.ensures
