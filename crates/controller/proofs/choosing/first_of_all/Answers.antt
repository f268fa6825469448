use Rattle.std.proofs.Common.{Option, subst}
use Rattle.cluster_objects.specs.declared.objects.Write.{Write}
use Rattle.controller_rules.specs.Enabled.{IsFirst}
use Rattle.controller_rules.specs.declared.roles.Role.TheVariants.{Resolver}
use Rattle.run_rules.specs.Settling.{ByResolver}
use Rattle.controller.proofs.choosing.first_of_all.Goals as goal

pub returns-in-Ok-Some : goal.returns-in-Ok-Some
returns-in-Ok-Some c =
    ByResolver (subst (λ (o : Option Write). IsFirst Resolver c.args.view.now o) c.in-Ok-Some.field-0-is c.in-Ok-Some.ensures)

pub of_installer-requires : goal.of_installer-requires
of_installer-requires c =
    subst (λ (o : Option Write). IsFirst Resolver c.args.view.now o) c.in-Ok-None.field-0-is c.in-Ok-None.ensures
