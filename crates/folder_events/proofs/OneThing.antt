-- By a folder that tells an event asks for one thing alone.
use Rattle.std.proofs.Common.{◌≡◌, ℕ, List, Option, Some, Result, sym, ap, ◌∙◌}
use Rattle.std.specs.Prelude.{ℤ}
use Rattle.cluster_objects.specs.declared.objects.Write.{Write}
use Rattle.cluster_history.specs.History.{History}
use Rattle.event_script.specs.declared.events.Event.TheVariants as event
use Rattle.fbc_read.specs.Bodies.{input_limit}
use Rattle.fbc_read.proofs.OneListing.{the_body}
use Rattle.user_events.specs.declared.refusals.Refusal.{Refusal}
use Rattle.folder_events.specs.Catalogs.{AsksCatalog, catalog_after}
use Rattle.folder_events.specs.Laws.{AsksOneThing}

one_catalog : (told : List (List ℕ × List ℕ)) (h : History) (namespace name path : List ℕ) (priority : Option ℤ) (asked other : Result Write Refusal)
    → AsksCatalog (Some told) h namespace name path priority asked → AsksCatalog (Some told) h namespace name path priority other → other ≡ asked
one_catalog told h namespace name path priority asked other (one, held, is) (two, too, same) =
    let only = (the_body told path input_limit).2 in
    sym same ∙ ap (catalog_after h namespace name priority) (only two too ∙ sym (only one held)) ∙ is

pub one_thing : AsksOneThing
one_thing told h (event.Apply body) asked other is same = sym same ∙ is
one_thing told h (event.Delete group kind namespace name) asked other is same = sym same ∙ is
one_thing told h (event.Approve namespace name) asked other is same = sym same ∙ is
one_thing told h (event.Catalog namespace name path priority) asked other is same = one_catalog told h namespace name path priority asked other is same
one_thing told h (event.Ready namespace name state) asked other is same = sym same ∙ is
one_thing told h (event.Retry namespace budget) asked other is same = sym same ∙ is
one_thing told h (event.Worker role namespace) asked other is same = absurd is
one_thing told h (event.Look worker) asked other is same = absurd is
one_thing told h (event.Act worker) asked other is same = absurd is
one_thing told h (event.Settle namespace turns) asked other is same = absurd is
one_thing told h event.Restart asked other is same = absurd is
one_thing told h (event.Release namespace) asked other is same = sym same ∙ is
one_thing told h (event.Lease worker now keep) asked other is same = absurd is
