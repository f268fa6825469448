use Rattle.std.proofs.Common.{sym, subst}
use Rattle.std.specs.Result.{IfOk}
use Rattle.controller_rules.specs.Enabled.{IsFirst}
use Rattle.controller_rules.specs.declared.roles.Role.{Role}
use Rattle.controller.proofs.choosing.enabled_first.Goals as goal

pub returns-in-Resolver : goal.returns-in-Resolver
returns-in-Resolver c =
    subst (λ (r : Role). IfOk c.resolver_first.result (λ write. IsFirst r c.args.view.now write)) (sym c.in-Resolver.is)
    c.resolver_first.ensures

pub returns-in-Installer : goal.returns-in-Installer
returns-in-Installer c =
    subst (λ (r : Role). IfOk c.installer_first.result (λ write. IsFirst r c.args.view.now write)) (sym c.in-Installer.is)
    c.installer_first.ensures

pub returns-in-Phases : goal.returns-in-Phases
returns-in-Phases c =
    subst (λ (r : Role). IfOk c.phases_first.result (λ write. IsFirst r c.args.view.now write)) (sym c.in-Phases.is)
    c.phases_first.ensures
