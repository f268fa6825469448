use Rattle.std.proofs.Common.{ltb, subst, ℕ, List, length, refl, sym, ap, ◌∙◌, arith}
use Rattle.object_store.proofs.Appending.{after_all-push, position-kept}
use Rattle.std.proofs.lemmas.Bool.{le-ltb, lt-ltb}
use Rattle.cluster_history.specs.History.{History, Start, After, Slots, empty, after_all, position, state, slot, slot_in}
use Rattle.cluster_objects.specs.declared.objects.Write.{Write}
use Rattle.object_store.specs.Puts.{Puts}
use Rattle.object_store.proofs.sure.SureClusterCluster.put.Goals.{in-Ok, in-Err}
use Rattle.object_store.proofs.sure.SureClusterCluster.put.Goals as goal

pub returns-then-found-write-clause-puts : goal.returns-then-found-write-clause-puts
unfolding slot
returns-then-found-write-clause-puts c =
    let h = ap (λ (p : ℕ × List Write). after_all (Start empty) p.1) c.self.view_is in
    let found = c.version_at-found.ensures ∙ ap (λ (es : Slots). (slot_in es c.args.write.key).version) (c.self.invariant ∙ ap state h) in
    (found, λ e. c.if-found-write.true (sym e), refl)

pub returns-then-as_slice-self-clause-puts : goal.returns-then-as_slice-self-clause-puts
unfolding slot
returns-then-as_slice-self-clause-puts c =
    let h = ap (λ (p : ℕ × List Write). after_all (Start empty) p.1) c.self.view_is in
    let found = c.version_at-found.ensures ∙ ap (λ (es : Slots). (slot_in es c.args.write.key).version) (c.self.invariant ∙ ap state h) in
    (sym c.if-found-write.false ∙ found, le-ltb _ _ (omega (arith, ap (λ (p : ℕ × List Write). p.0) c.self.view_is, ap (λ (g : History). position g) h, position-kept c.self.inside.writes.items, ap length c.as_slice.ensures.value, c.if-as_slice-self.true)), refl)

pub returns-after-append-clause-puts : goal.returns-after-append-clause-puts
unfolding slot
returns-after-append-clause-puts c =
    let h = ap (λ (p : ℕ × List Write). after_all (Start empty) p.1) c.self.view_is in
    let found = c.version_at-found.ensures ∙ ap (λ (es : Slots). (slot_in es c.args.write.key).version) (c.self.invariant ∙ ap state h) in
    let agrees = sym c.if-found-write.false ∙ found in
    let room = lt-ltb (position (after_all (Start empty) c.args.self.now.1)) c.args.self.now.0 (omega (arith, ap (λ (p : ℕ × List Write). p.0) c.self.view_is, ap (λ (g : History). position g) h, position-kept c.self.inside.writes.items, ap length c.as_slice.ensures.value, c.if-as_slice-self.false)) in
    elim c.match-append.branch [
      | in-Ok w ↦
          let done = w.in-Ok.ensures.done in
          let more = ap (λ (xs : List Write). after_all (Start empty) xs) done.0 ∙ after_all-push (Start empty) c.self.inside.writes.items c.args.write ∙ ap (λ (g : History). After c.args.write g) h in
          subst (Puts (ltb (position (after_all (Start empty) c.args.self.now.1)) c.args.self.now.0) (after_all (Start empty) c.args.self.now.1) c.args.write (after_all (Start empty) c.append.new.writes.items)) (sym w.result-is)
          (agrees, room, more, omega (arith, done.1, ap position more, ap (λ (g : History). position g) h, position-kept c.self.inside.writes.items))
      | in-Err w ↦
          subst (Puts (ltb (position (after_all (Start empty) c.args.self.now.1)) c.args.self.now.0) (after_all (Start empty) c.args.self.now.1) c.args.write (after_all (Start empty) c.append.new.writes.items)) (sym w.result-is) (ap (λ (xs : List Write). after_all (Start empty) xs) w.in-Err.ensures.err ∙ h)
    ]
