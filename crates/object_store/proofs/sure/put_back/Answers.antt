use Rattle.object_store.proofs.Undoing.{put_again, taken_out}
use Rattle.cluster_objects.specs.Keys.{key_cmp}
use Rattle.object_store.proofs.sure.put_back.Goals as goal

pub returns-in-Some : goal.returns-in-Some
unfolding key_cmp
returns-in-Some c es made sorted was seen = put_again es c.args.slots.now.entries c.insert.new.self.entries c.args.key made c.in-Some.slot c.args.before c.insert.result sorted was seen c.in-Some.is c.insert.ensures.entries c.insert.ensures.absent

pub returns-in-None : goal.returns-in-None
unfolding key_cmp
returns-in-None c es made sorted was seen = taken_out es c.args.slots.now.entries c.remove.new.self.entries c.args.key made c.args.before was seen c.in-None.is c.remove.ensures.entries
