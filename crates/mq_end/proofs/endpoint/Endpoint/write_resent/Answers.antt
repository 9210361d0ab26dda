use Rattle.std.proofs.Common.{IsOk, subst}
use Rattle.mq_flow.specs.Sender.{resent}
use Rattle.mq_end.specs.Ready.{AreEncodable, FitsRoom}
use Rattle.mq_end.specs.State.{EndState}
use Rattle.mq_end.proofs.endpoint.Endpoint.write_resent.Goals as goal

pub returns-then-is_err-clause-within : goal.returns-then-is_err-clause-within
returns-then-is_err-clause-within c =
    let written = c.put_resent-written in
    subst (λ (l : EndState). AreEncodable (resent l.end.book) → FitsRoom (resent l.end.book) l → IsOk written.result) c.self.view_is written.ensures.within
