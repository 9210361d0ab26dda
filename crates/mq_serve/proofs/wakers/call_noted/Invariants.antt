use Rattle.std.proofs.Common.{take}
use Rattle.std.specs.Io.KnownBytes.{Appends}
use Rattle.mq_serve.specs.Calls.{numbers_from}
use Rattle.mq_serve.specs.Inside.Wakers.{must_wake}
use Rattle.mq_serve.proofs.wakers.call_noted.Given as goal

abbrev pub invariant-loop-number : goal.invariant-loop-number
invariant-loop-number g l =
    Appends (g.C.Caller.called l.initial.caller) (g.C.Caller.called l.caller) (numbers_from (must_wake l.stepped) 0 (take l.number l.seats))
