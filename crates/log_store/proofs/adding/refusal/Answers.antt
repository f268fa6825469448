use Rattle.std.proofs.Common.{refl, sym, ◌∙◌, arith}
use Rattle.log_store.proofs.Places.{has_room-limit}
use Rattle.log_store.proofs.adding.refusal.Goals as goal

pub returns-then-length-limit-clause-refused : goal.returns-then-length-limit-clause-refused
returns-then-length-limit-clause-refused c place =
    (sym c.if-found-write.false ∙ c.version-found.ensures, has_room-limit place c.args.limit c.args.store.now.1 (omega (arith, c.if-length-limit.true, c.length.ensures)), refl)
