use Rattle.std.proofs.Common.{take}
use Rattle.std.specs.Io.KnownBytes.{Appends}
use Rattle.mq_serve.specs.Calls.{numbers_from}
use Rattle.mq_serve.specs.ReadOrder.{waits}
use Rattle.mq_serve.proofs.read_order.call_waiting.Given as goal

abbrev pub invariant-loop-number : goal.invariant-loop-number
invariant-loop-number g l =
    Appends (g.C.Caller.called l.initial.caller) (g.C.Caller.called l.caller) (numbers_from waits 0 (take l.number l.seats))
