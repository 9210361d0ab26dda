use Rattle.std.proofs.Common.{ℕ, List, subst}
use Rattle.mq_packet.specs.declared.connect.Connect.{Connect}
use Rattle.mq_packet.specs.declared.message.Message.{Message}
use Rattle.mq_end.specs.Ready.{HasConnectRoom, HasRoom}
use Rattle.mq_end.specs.State.{EndState}
use Rattle.mq_end.proofs.server.ServerEnd.reserve_connect.Goals as goal

pub returns-clause-before : goal.returns-clause-before
returns-clause-before c = subst (λ (l : EndState). (ms : List Message) (n : ℕ) → HasRoom ms n l → HasRoom ms n c.reserve_connect.new.self) c.self.view_is c.reserve_connect.ensures.before

pub returns-clause-connect_end : goal.returns-clause-connect_end
returns-clause-connect_end c = subst (λ (l : EndState). (connect : Connect) (ms : List Message) (n : ℕ) → HasConnectRoom connect ms n l → HasConnectRoom connect ms n c.reserve_connect.new.self) c.self.view_is c.reserve_connect.ensures.connect_end
