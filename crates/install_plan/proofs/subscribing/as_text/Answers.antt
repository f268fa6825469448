use Rattle.std.proofs.Common.{sym, subst}
use Rattle.std.specs.Str.{IsUtf8}
use Rattle.install_plan.proofs.Ascii.{name_is_text}
use Rattle.install_plan.proofs.subscribing.as_text.Goals as goal

pub unreachable-requires : goal.unreachable-requires
unreachable-requires c =
    c.in-Err.ensures.cases.0 (subst IsUtf8 (sym c.as_bytes.ensures.bytes) (name_is_text c.args.name.now c.as_bytes.ensures.name))
