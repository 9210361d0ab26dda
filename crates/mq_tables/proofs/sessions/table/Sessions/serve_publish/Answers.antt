use Rattle.std.proofs.Common.{◌∙◌, is_some, refl, sym, ap, subst}
use Rattle.mq_end.specs.End.{is_up}
use Rattle.mq_end.specs.Receiving.{told_of}
use Rattle.mq_tables.specs.declared.sessions.session.BrokerSession.{BrokerSession}
use Rattle.mq_tables.specs.Calls.{publish_call}
use Rattle.mq_tables.specs.Sessions.{AreAscending}
use Rattle.mq_tables.proofs.EndCalls.{err_untold, found_serves, unserved}
use Rattle.mq_tables.proofs.FoundSession.{find_session}
use Rattle.mq_tables.proofs.SessionLemmas.{some_same}
use Rattle.mq_tables.proofs.sessions.table.Sessions.serve_publish.Goals as goal

pub place-at-requires : goal.place-at-requires
place-at-requires c = subst AreAscending (sym c.as_mut_slice-list.ensures.value) c.self.invariant.ascending

pub bounds-list-at : goal.bounds-list-at
bounds-list-at c =
    (find_session c.args.key c.self.view_is c.as_mut_slice-list.ensures.value c.self.inside.list.ok.0 c.self.invariant (ap is_some c.requires.can.there) c.place-at.ensures.value).within

pub serve_publish-requires-clause-up : goal.serve_publish-requires-clause-up
serve_publish-requires-clause-up c =
    let f = find_session c.args.key c.self.view_is c.as_mut_slice-list.ensures.value c.self.inside.list.ok.0 c.self.invariant (ap is_some c.requires.can.there) c.place-at.ensures.value in
    let is = some_same (sym c.requires.can.there ∙ f.there c.index-list-at.result) in
    ap (λ (x : BrokerSession). is_up x.end.end.state) (sym is) ∙ c.requires.can.up

pub invariant_of-self : goal.invariant_of-self
invariant_of-self c =
    let f = find_session c.args.key c.self.view_is c.as_mut_slice-list.ensures.value c.self.inside.list.ok.0 c.self.invariant (ap is_some c.requires.can.there) c.place-at.ensures.value in
    f.kept c.index-list-at.result (λ t. record t { end = c.serve_publish.new.self.end }) (λ t. refl) (λ t. refl) c.serve_publish.new.self c.serve_publish.ensures.session

pub returns-clause-serves : goal.returns-clause-serves
returns-clause-serves c =
    let f = find_session c.args.key c.self.view_is c.as_mut_slice-list.ensures.value c.self.inside.list.ok.0 c.self.invariant (ap is_some c.requires.can.there) c.place-at.ensures.value in
    let m = c.args.message.now in
    found_serves f c.index-list-at.result (publish_call c.args.now m c.args.delivery) (told_of m c.serve_publish.result) c.serve_publish.new.self c.serve_publish.ensures.session c.serve_publish.ensures.end

pub returns-clause-err : goal.returns-clause-err
returns-clause-err c =
    let f = find_session c.args.key c.self.view_is c.as_mut_slice-list.ensures.value c.self.inside.list.ok.0 c.self.invariant (ap is_some c.requires.can.there) c.place-at.ensures.value in
    let m = c.args.message.now in
    let call = publish_call c.args.now m c.args.delivery in
    let r = told_of m c.serve_publish.result in
    err_untold m _ c.serve_publish.result
    (unserved c.args.key call r c.args.self.now.list _ f.ascending
    (found_serves f c.index-list-at.result call r c.serve_publish.new.self c.serve_publish.ensures.session c.serve_publish.ensures.end))
