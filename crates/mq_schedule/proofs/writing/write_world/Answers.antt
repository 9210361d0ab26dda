use Rattle.std.proofs.Common.{rules, arith}
use Rattle.mq_schedule.specs.Laws.{KeepsWindow}
use Rattle.mq_schedule.specs.Schedule.{number_of}
use Rattle.mq_schedule.proofs.Laying.{world_is}
use Rattle.mq_schedule.proofs.writing.write_world.Goals as goal

pub returns-in-Some-clause-world : goal.returns-in-Some-clause-world
returns-in-Some-clause-world c =
    let window : KeepsWindow (number_of c.args.schedule.now.window) = rw c.in-Some.is (omega (arith, c.get.ensures.value, c.get.ensures.nonzero), search rules) in
    world_is c.args.schedule.now c.max_packet-most.ensures.least c.max_packet-most.ensures.most (omega (arith, c.get-room.ensures.value, c.get-room.ensures.nonzero)) (search rules) window

pub returns-in-None-clause-world : goal.returns-in-None-clause-world
returns-in-None-clause-world c =
    let window : KeepsWindow (number_of c.args.schedule.now.window) = rw c.in-None.is tt in
    world_is c.args.schedule.now c.max_packet-most.ensures.least c.max_packet-most.ensures.most (omega (arith, c.get-room.ensures.value, c.get-room.ensures.nonzero)) (search rules) window
