use Rattle.std.proofs.Common.{ℕ, List, subst}
use Rattle.mq_packet.specs.declared.message.Message.{Message}
use Rattle.mq_end.specs.Ready.{HasRoom}
use Rattle.mq_end.specs.State.{EndState}
use Rattle.mq_end.proofs.server.ServerEnd.ready.Goals as goal

pub returns-clause-before : goal.returns-clause-before
returns-clause-before c = subst (λ (l : EndState). (ms : List Message) (n : ℕ) → HasRoom ms n l → HasRoom ms n c.ready.new.self) c.self.view_is c.ready.ensures.before
