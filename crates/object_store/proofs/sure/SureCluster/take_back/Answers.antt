use Rattle.std.proofs.Common.{ℕ, List, ap, sym, subst}
use Rattle.cluster_objects.specs.declared.objects.Write.{Write}
use Rattle.object_store.specs.Appends.{IsUndoneBy}
use Rattle.object_store.proofs.Taking.{taken_back}
use Rattle.object_store.proofs.sure.SureCluster.take_back.Goals as goal

pub invariant_of-self : goal.invariant_of-self
invariant_of-self c =
    let writes = ap (λ (p : ℕ × List Write). p.1) c.self.view_is in
    taken_back c.self.inside.writes.items c.pop.new.self.items c.in-Some.kept c.kept.inside.key c.args.appended.before c.self.inside.slots.entries c.put_back.new.slots.entries
    (sym (ap (λ (w : Write). w.key) c.kept.view_is)) c.self.invariant c.in-Some.ensures.items (subst (IsUndoneBy c.args.appended.before) (sym writes) c.requires) c.put_back.ensures
