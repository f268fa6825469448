use Rattle.std.proofs.Common.{◌≤◌, ◌<◌, ◌+◌, ◌++◌, length, take, arith, length-append, length-take}
use Rattle.std.proofs.KnownBytes.{Consumes-trans}
use Rattle.olm_io.proofs.Told.{some_told, longer_told}
use Rattle.olm_io.proofs.Whole.{too_long}
use Rattle.olm_io.proofs.reading.read_all.Goals as goal

pub returns-in-Err-clause-answer : goal.returns-in-Err-clause-answer
returns-in-Err-clause-answer g c = let t = some_told (g.S.Source.left c.args.source.now) in (t.0, t.1, λ e. (cc))

pub returns-then-is_err-clause-answer : goal.returns-then-is_err-clause-answer
returns-then-is_err-clause-answer g c = let t = some_told (g.S.Source.left c.args.source.now) in (t.0, t.1, λ e. (cc))

pub returns-then-is_err-clause-taken : goal.returns-then-is_err-clause-taken
returns-then-is_err-clause-taken g c =
    let piece = take c.in-Ok.count c.read.new.into in
    let size : length (c.loop-count.bytes.items ++ piece) ≤ c.args.limit + 1 =
    omega (arith, c.loop-count.invariant.within, c.if-count-limit.false, length-append c.loop-count.bytes.items piece, length-take c.in-Ok.count c.read.new.into, c.len.ensures, c.room_for-room.ensures.one, length-take c.room_for-room.result c.loop-count.chunk, c.read.auto.into, c.in-Ok.ensures.bound) in
    (c.loop-count.bytes.items ++ piece, Consumes-trans _ _ _ _ _ c.loop-count.invariant.took c.in-Ok.ensures.bytes.0, size)

pub returns-then-count-limit-clause-answer : goal.returns-then-count-limit-clause-answer
returns-then-count-limit-clause-answer g c =
    let piece = take c.in-Ok.count c.read.new.into in
    let read = c.loop-count.bytes.items ++ piece in
    let t = longer_told (g.S.Source.left c.args.source.now) _ read (Consumes-trans _ _ _ _ _ c.loop-count.invariant.took c.in-Ok.ensures.bytes.0) in
    let long : c.args.limit < length t.0 = omega (arith, t.2, length-append c.loop-count.bytes.items piece, length-take c.in-Ok.count c.read.new.into, c.in-Ok.ensures.bound) in
    (t.0, t.1, λ e. too_long c.args.limit t.0 long)

pub returns-then-count-limit-clause-taken : goal.returns-then-count-limit-clause-taken
returns-then-count-limit-clause-taken g c =
    let piece = take c.in-Ok.count c.read.new.into in
    let size : length (c.loop-count.bytes.items ++ piece) ≤ c.args.limit + 1 =
    omega (arith, c.loop-count.invariant.within, length-append c.loop-count.bytes.items piece, length-take c.in-Ok.count c.read.new.into, c.len.ensures, c.room_for-room.ensures.one, length-take c.room_for-room.result c.loop-count.chunk, c.read.auto.into, c.in-Ok.ensures.bound) in
    (c.loop-count.bytes.items ++ piece, Consumes-trans _ _ _ _ _ c.loop-count.invariant.took c.in-Ok.ensures.bytes.0, size)
