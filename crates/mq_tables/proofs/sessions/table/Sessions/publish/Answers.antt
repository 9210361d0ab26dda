use Rattle.std.proofs.Common.{◌∙◌, ◌∷◌, [], List, is_some, get_or, refl, sym, ap, subst}
use Rattle.mq_tables.specs.declared.sessions.session.BrokerSession.{BrokerSession}
use Rattle.mq_tables.specs.Publishing.{IsReady, IsReadyAt, published}
use Rattle.mq_tables.specs.Sessions.{AreAscending}
use Rattle.mq_tables.proofs.FoundSession.{find_session}
use Rattle.mq_tables.proofs.SessionRoom.{changed_own, some_same}
use Rattle.mq_tables.proofs.sessions.table.Sessions.publish.Goals as goal

pub place-at-requires : goal.place-at-requires
place-at-requires c = subst AreAscending (sym c.as_mut_slice-list.ensures.value) c.self.invariant.ascending

pub bounds-list-at : goal.bounds-list-at
bounds-list-at c =
    (find_session c.args.key c.self.view_is c.as_mut_slice-list.ensures.value c.self.inside.list.ok.0 c.self.invariant (ap is_some c.requires.there) c.place-at.ensures.value).within

pub publish-requires : goal.publish-requires
publish-requires c =
    let f = find_session c.args.key c.self.view_is c.as_mut_slice-list.ensures.value c.self.inside.list.ok.0 c.self.invariant (ap is_some c.requires.there) c.place-at.ensures.value in
    subst (λ (t : BrokerSession). IsReady (c.args.message ∷ []) 0 t.end) (some_same (sym c.requires.there ∙ f.there c.index-list-at.result)) c.requires.ready

pub invariant_of-self : goal.invariant_of-self
invariant_of-self c =
    let f = find_session c.args.key c.self.view_is c.as_mut_slice-list.ensures.value c.self.inside.list.ok.0 c.self.invariant (ap is_some c.requires.there) c.place-at.ensures.value in
    f.kept c.index-list-at.result (λ t. record t { end = published c.args.message t.end }) (λ t. refl) (λ t. refl) c.publish.new.self c.publish.ensures.session

pub returns-clause-list : goal.returns-clause-list
returns-clause-list c =
    let f = find_session c.args.key c.self.view_is c.as_mut_slice-list.ensures.value c.self.inside.list.ok.0 c.self.invariant (ap is_some c.requires.there) c.place-at.ensures.value in
    f.after c.index-list-at.result (λ t. record t { end = published c.args.message t.end }) c.publish.new.self c.publish.ensures.session

pub returns-clause-left : goal.returns-clause-left
returns-clause-left c = λ rest more r.
    let f = find_session c.args.key c.self.view_is c.as_mut_slice-list.ensures.value c.self.inside.list.ok.0 c.self.invariant (ap is_some c.requires.there) c.place-at.ensures.value in
    let d = c.index-list-at.result in
    let t = get_or c.as_mut_slice-list.result.now c.place-at.result d in
    let m = c.args.message in
    let is = some_same (sym r.there ∙ f.there d) in
    subst (λ (ts : List BrokerSession). IsReadyAt c.args.key rest more ts) (sym (f.after d (λ s. record s { end = published m s.end }) c.publish.new.self c.publish.ensures.session))
    (record {
      session = record t { end = published m t.end };
      there = changed_own (published m) c.args.key t c.args.self.now.list (f.there d);
      ready = c.publish.ensures.left rest more (subst (λ (s : BrokerSession). IsReady (m ∷ rest) more s.end) is r.ready);
    })
