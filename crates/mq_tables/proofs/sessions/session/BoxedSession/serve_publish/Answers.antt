use Rattle.std.proofs.Common.{◌∙◌, subst}
use Rattle.mq_end.specs.Receiving.{told_of}
use Rattle.mq_tables.specs.declared.sessions.session.BrokerSession.{BrokerSession}
use Rattle.mq_tables.specs.Calls.{Serves, publish_call}
use Rattle.mq_tables.proofs.sessions.session.BoxedSession.serve_publish.Goals as goal

pub returns-clause-end : goal.returns-clause-end
returns-clause-end c =
    let m = c.args.message.now in
    subst (λ (t : BrokerSession). Serves (publish_call c.args.now m c.args.delivery) (told_of m c.serve_publish.result) t.end c.serve_publish.new.end) (c.deref_mut-session.ensures.value ∙ c.self.view_is) c.serve_publish.ensures
