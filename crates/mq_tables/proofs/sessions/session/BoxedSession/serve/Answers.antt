use Rattle.std.proofs.Common.{◌∙◌, subst}
use Rattle.mq_tables.specs.declared.sessions.session.BrokerSession.{BrokerSession}
use Rattle.mq_tables.specs.Calls.{Serves}
use Rattle.mq_tables.proofs.sessions.session.BoxedSession.serve.Goals as goal

pub returns-clause-end : goal.returns-clause-end
returns-clause-end c =
    subst (λ (t : BrokerSession). Serves c.args.call c.serve.result t.end c.serve.new.end) (c.deref_mut-session.ensures.value ∙ c.self.view_is) c.serve.ensures
