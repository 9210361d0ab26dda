use Rattle.std.proofs.Common.{◌≡◌, ◌∙◌, ℕ, List, subst}
use Rattle.mq_packet.specs.declared.message.Message.{Message}
use Rattle.mq_end.specs.Ready.{HasRoom}
use Rattle.mq_tables.specs.declared.sessions.session.BrokerSession.{BrokerSession}
use Rattle.mq_tables.proofs.sessions.session.BoxedSession.reserve_connect.Goals as goal

pub returns-clause-end : goal.returns-clause-end
returns-clause-end c =
    subst (λ (t : BrokerSession). c.reserve_connect.new.self ≡ record t.end { room = c.reserve_connect.new.self.room }) (c.deref_mut-session.ensures.value ∙ c.self.view_is)
    c.reserve_connect.ensures.same

pub returns-clause-before : goal.returns-clause-before
returns-clause-before c =
    subst (λ (t : BrokerSession). (ms : List Message) (n : ℕ) → HasRoom ms n t.end → HasRoom ms n c.reserve_connect.new.self) (c.deref_mut-session.ensures.value ∙ c.self.view_is)
    c.reserve_connect.ensures.before
