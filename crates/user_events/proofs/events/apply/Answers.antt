use Rattle.user_events.proofs.Placing.{wish_in_place, wish_is_read}
use Rattle.object_bodies.specs.Bodies.{user_object}
use Rattle.user_events.proofs.events.apply.Goals as goal

pub carry_out-requires-clause-place : goal.carry_out-requires-clause-place
carry_out-requires-clause-place g c = wish_in_place c.args.body.now (c.in-Ok.key, c.in-Ok.wish) c.in-Ok.ensures

pub returns-in-Ok-clause-body : goal.returns-in-Ok-clause-body
returns-in-Ok-clause-body g c = λ failed. wish_is_read c.args.body.now (user_object c.args.body.now) (c.in-Ok.key, c.in-Ok.wish) c.in-Ok.ensures
