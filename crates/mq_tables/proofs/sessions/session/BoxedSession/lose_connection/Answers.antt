use Rattle.std.proofs.Common.{◌∙◌, ℕ, List, subst}
use Rattle.mq_packet.specs.declared.connect.Connect.{Connect}
use Rattle.mq_packet.specs.declared.message.Message.{Message}
use Rattle.mq_end.specs.Ready.{HasConnectRoom}
use Rattle.mq_tables.specs.declared.sessions.session.BrokerSession.{BrokerSession}
use Rattle.mq_tables.proofs.sessions.session.BoxedSession.lose_connection.Goals as goal

pub returns-clause-connect_end : goal.returns-clause-connect_end
returns-clause-connect_end c =
    subst (λ (t : BrokerSession). (connect : Connect) (ms : List Message) (more : ℕ) → HasConnectRoom connect ms more t.end → HasConnectRoom connect ms more c.dropped.new.self)
    (c.deref_mut-session.ensures.value ∙ c.self.view_is) c.dropped.ensures.connect_end
