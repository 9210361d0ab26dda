use Rattle.std.proofs.Common.{◌∙◌, subst}
use Rattle.mq_tables.specs.declared.sessions.session.BrokerSession.{BrokerSession}
use Rattle.mq_tables.specs.Publishing.{Readies}
use Rattle.mq_tables.proofs.sessions.session.BoxedSession.ready.Goals as goal

pub returns-clause-end : goal.returns-clause-end
returns-clause-end c =
    subst (λ (t : BrokerSession). Readies c.args.messages.now c.args.more c.ready.result t.end c.ready.new.self) (c.deref_mut-session.ensures.value ∙ c.self.view_is) (record {
      refused = c.ready.ensures.refused;
      memory = c.ready.ensures.memory;
      room = c.ready.ensures.room;
      same = c.ready.ensures.same;
      before = c.ready.ensures.before;
    })
