use Rattle.std.proofs.Common.{refl, true}
use Rattle.run_rules.specs.declared.outcomes.Outcome.TheVariants.{Settled}
use Rattle.run_rules.proofs.Extending.{count, is_quiet}
use Rattle.run_rules.proofs.laws.settles_say_what_they_made.Goals as goal

pub returns-clause-writes : goal.returns-clause-writes
returns-clause-writes c outside namespace turns h new writes quiet settles =
    count outside namespace turns h new (Settled writes quiet) settles refl

pub returns-clause-quiet : goal.returns-clause-quiet
returns-clause-quiet c outside namespace turns h new writes settles =
    is_quiet outside namespace turns h new (Settled writes true) settles refl
