use Rattle.std.proofs.Common.{List, ℕ, Option, sym, subst, ◌∙◌}
use Rattle.std.specs.Borrow.{Bor}
use Rattle.cluster_objects.specs.declared.objects.Write.{Write}
use Rattle.cluster_file.specs.Files.{record_at}
use Rattle.cluster_file.specs.Reading.{Lends}
use Rattle.cluster_file.specs.Writing.{history_after}
use Rattle.log_file.proofs.Reading.{next_none, next_other, next_some}
use Rattle.log_file.proofs.fold.next_write.Goals as goal

pub returns-in_default : goal.returns-in_default
returns-in_default c =
    next_none (history_after c.args.store.now.1) c.args.behind.now (subst (λ (found : Option (Write × Bor (List ℕ))). Lends (record_at c.args.behind.now) found) c.in_default.is c.in_ok-write.ensures)

pub returns-then-version-write : goal.returns-then-version-write
returns-then-version-write c =
    next_other (history_after c.args.store.now.1) c.args.behind.now c.in-Some.write c.in-Some.rest.now
    (subst (λ (found : Option (Write × Bor (List ℕ))). Lends (record_at c.args.behind.now) found) c.in-Some.is c.in_ok-write.ensures)
    (λ e. c.if-version-write.true (c.version.ensures ∙ sym e))

pub returns : goal.returns
returns c =
    next_some (history_after c.args.store.now.1) c.args.behind.now c.in-Some.write c.in-Some.rest.now
    (subst (λ (found : Option (Write × Bor (List ℕ))). Lends (record_at c.args.behind.now) found) c.in-Some.is c.in_ok-write.ensures)
    (sym c.if-version-write.false ∙ c.version.ensures)
