use Rattle.std.proofs.Common.{◌≡◌, ◌≤◌, ℕ, List, [], suc, drop, take, refl, sym, ◌∙◌, subst, arith}
use Rattle.std.proofs.KnownBytes.{Appends-nil}
use Rattle.event_script.specs.declared.events.Event.{Event}
use Rattle.folder_events.specs.Events.{is_of_folder}
use Rattle.event_runs.specs.Runs.{AllPass, NoEvents}
use Rattle.event_runs.proofs.Passing.{one_turn, ends_there, none_at, taken_more, split_at}
use Rattle.event_runs.proofs.running.run_events.Goals as goal

pub events-init : goal.events-init
events-init g c = record {
  passed = ([], NoEvents (g.C.Cluster.history c.args.cluster.now), Appends-nil (g.O.Sink.held c.args.out.now));
  tells = refl;
  limit = refl;
  same = refl;
  untouched = λ none. refl;
  ready = c.requires.ready;
  sound = c.requires.sound;
  store = omega arith;
  folder = omega arith;
  output = omega arith;
}

pub events-preserved : goal.events-preserved
events-preserved g c =
    let before = c.events.invariant in
    let turn = c.in-Ok.ensures in
    let e = c.event-item.result in
    let i = c.events.event-index in
    let es = c.args.events.now in
    let cluster = c.args.cluster.now in
    let new = c.run_event.new in
    let passed = one_turn (g.C.Cluster.tells cluster) (g.C.Cluster.tells c.events.cluster) g.C.Cluster.fits (g.C.Cluster.limit cluster) (g.C.Cluster.limit c.events.cluster)
    (g.F.Folder.held c.args.folder.now) (g.F.Folder.held c.events.folder) (g.C.Cluster.history cluster) (g.C.Cluster.history c.events.cluster) (g.C.Cluster.history new.cluster)
    (take i es) e (g.O.Sink.held c.args.out.now) (g.O.Sink.held c.events.out) (g.O.Sink.held new.out)
    before.tells before.limit before.same before.passed turn.steps in
    record {
      passed = (
        passed.0,
        subst (λ done. AllPass (g.C.Cluster.tells cluster) g.C.Cluster.fits (g.C.Cluster.limit cluster) (g.F.Folder.held c.args.folder.now) (g.C.Cluster.history cluster) done (g.C.Cluster.history new.cluster) passed.0)
            (sym (taken_more es i e c.events-test.true c.event-item.is)) passed.1,
        passed.2,
      );
      tells = turn.tells ∙ before.tells;
      limit = turn.limit ∙ before.limit;
      same = turn.same ∙ before.same;
      untouched = λ none. turn.untouched (none_at is_of_folder es i e c.events-test.true c.event-item.is none) ∙ before.untouched none;
      ready = turn.ready;
      sound = turn.sound;
      store = omega (arith, before.store, turn.store.later);
      folder = omega (arith, before.folder, turn.folder.later);
      output = omega (arith, before.output, turn.output.later);
    }

pub returns-in-Err-clause-runs : goal.returns-in-Err-clause-runs
returns-in-Err-clause-runs g c =
    let before = c.events.invariant in
    let turn = c.in-Err.ensures in
    let e = c.event-item.result in
    let i = c.events.event-index in
    let es = c.args.events.now in
    let cluster = c.args.cluster.now in
    let new = c.run_event.new in
    ends_there (g.C.Cluster.tells cluster) (g.C.Cluster.tells c.events.cluster) g.C.Cluster.fits (g.C.Cluster.limit cluster) (g.C.Cluster.limit c.events.cluster)
    (g.F.Folder.held c.args.folder.now) (g.F.Folder.held c.events.folder) (g.C.Cluster.history cluster) (g.C.Cluster.history c.events.cluster) (g.C.Cluster.history new.cluster)
    es (take i es) (drop (suc i) es) e (g.O.Sink.held c.args.out.now) (g.O.Sink.held c.events.out) (g.O.Sink.held new.out) c.in-Err.halt
    before.tells before.limit before.same (split_at es i e c.events-test.true c.event-item.is) before.passed turn.steps

pub returns-in-Err-clause-untouched : goal.returns-in-Err-clause-untouched
returns-in-Err-clause-untouched g c = λ none.
    let here = none_at is_of_folder c.args.events.now c.events.event-index c.event-item.result c.events-test.true c.event-item.is none in
    c.in-Err.ensures.untouched here ∙ c.events.invariant.untouched none
