use Rattle.std.proofs.Common.{◌∙◌, [], ◌∷◌, sym, ap, subst}
use Rattle.mq_end.specs.Ready.{HasRoom}
use Rattle.mq_end.specs.State.{EndState}
use Rattle.mq_tables.specs.declared.sessions.session.BrokerSession.{BrokerSession}
use Rattle.mq_tables.specs.Publishing.{IsReady, published}
use Rattle.mq_tables.proofs.EndPublishes.{first_of, rest_of, published_is, in_ok}
use Rattle.mq_tables.proofs.sessions.session.BoxedSession.publish.Goals as goal

pub returns-clause-session : goal.returns-clause-session
returns-clause-session c =
    let t : BrokerSession = c.deref_mut-session.result.now in
    let m = c.args.message in
    let same = c.deref_mut-session.ensures.value ∙ c.self.view_is in
    let ready = subst (λ (s : BrokerSession). IsReady (m ∷ []) 0 s.end) (sym same) c.requires in
    let kept = c.publish_prepared.ensures.kept (first_of m [] 0 t.end ready) [] 0 ready.room in
    let a = in_ok c.publish_prepared.result kept.0 c.publish_prepared.ensures.ok in
    ap (λ (e : EndState). record t { end = e }) (published_is c.next_laws.ensures c.encoding_laws.ensures a.0 m t.end c.publish_prepared.new.self a.1)
    ∙ ap (λ (s : BrokerSession). record s { end = published m s.end }) same

pub returns-clause-left : goal.returns-clause-left
returns-clause-left c = λ rest more r.
    let t : BrokerSession = c.deref_mut-session.result.now in
    let m = c.args.message in
    let same = c.deref_mut-session.ensures.value ∙ c.self.view_is in
    let ready = subst (λ (s : BrokerSession). IsReady (m ∷ rest) more s.end) (sym same) r in
    let free = first_of m rest more t.end ready in
    let kept = c.publish_prepared.ensures.kept free rest more ready.room in
    let a = in_ok c.publish_prepared.result kept.0 c.publish_prepared.ensures.ok in
    let is = published_is c.next_laws.ensures c.encoding_laws.ensures a.0 m t.end c.publish_prepared.new.self a.1 in
    subst (λ (s : BrokerSession). IsReady rest more (published m s.end)) same
    (rest_of m rest more t.end ready (subst (λ (s : EndState). HasRoom rest more s) is kept.1))
