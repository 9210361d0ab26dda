use Rattle.std.proofs.Common.{◌∙◌, [], sym, subst}
use Rattle.mq_end.specs.Ready.{HasConnectRoom}
use Rattle.mq_tables.specs.declared.sessions.session.BrokerSession.{BrokerSession}
use Rattle.mq_tables.proofs.sessions.session.BoxedSession.connect_end.Goals as goal

pub connect_end-requires : goal.connect_end-requires
connect_end-requires c = subst (λ (t : BrokerSession). HasConnectRoom c.args.connect [] 0 t.end) (sym (c.deref_mut-session.ensures.value ∙ c.self.view_is)) c.requires
