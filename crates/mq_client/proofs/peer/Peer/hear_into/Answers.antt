use Rattle.std.proofs.Common.{[]}
use Rattle.mq_client.proofs.Courses.{took, took_silent, went_then, went_tick, on_err}
use Rattle.mq_client.proofs.peer.Peer.hear_into.Goals as goal

pub returns-in_err-count-clause-lost : goal.returns-in_err-count-clause-lost
returns-in_err-count-clause-lost g c = on_err _ _ (went_then _ _ _ [] [] [] [] [] [] (went_tick _ _ _ c.in_ok-now.ensures.ok) c.in_err-count.ensures.went)

pub returns-clause-went : goal.returns-clause-went
returns-clause-went g c =
    let nothing = c.receive-progress.ensures.nothing in
    took _ _ _ _ _ _ _ _ _ _ _ _ _ _ c.in_ok-now.ensures.ok c.in_ok-count.ensures.same (c.in_ok-count.ensures.ok).1 c.in_ok-count.ensures.written c.in_ok-count.ensures.kept c.in_ok-count.ensures.times c.in_ok-count.ensures.limit c.self.view_is
    (record { acknowledged = c.receive-progress.result.acknowledged; live = c.receive-progress.ensures.open; shut = λ q. (c.receive-progress.ensures.closed q, (nothing q).0, (nothing q).2) })

pub returns-clause-silent : goal.returns-clause-silent
returns-clause-silent g c = took_silent _ _ _ _ _ _ _ _ _ _ c.in_ok-now.ensures.ok c.in_ok-count.ensures.written c.self.view_is
