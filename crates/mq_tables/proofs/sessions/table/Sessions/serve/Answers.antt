use Rattle.std.proofs.Common.{◌∙◌, is_some, refl, sym, ap, subst}
use Rattle.mq_end.specs.End.{is_up}
use Rattle.mq_tables.specs.declared.sessions.session.BrokerSession.{BrokerSession}
use Rattle.mq_tables.specs.Calls.{IsAllowed}
use Rattle.mq_tables.specs.Sessions.{AreAscending}
use Rattle.mq_tables.proofs.EndCalls.{found_serves, unserved}
use Rattle.mq_tables.proofs.FoundSession.{find_session}
use Rattle.mq_tables.proofs.SessionLemmas.{some_same}
use Rattle.mq_tables.proofs.sessions.table.Sessions.serve.Goals as goal

pub place-at-requires : goal.place-at-requires
place-at-requires c = subst AreAscending (sym c.as_mut_slice-list.ensures.value) c.self.invariant.ascending

pub bounds-list-at : goal.bounds-list-at
bounds-list-at c =
    (find_session c.args.key c.self.view_is c.as_mut_slice-list.ensures.value c.self.inside.list.ok.0 c.self.invariant (ap is_some c.requires.there) c.place-at.ensures.value).within

pub serve-requires : goal.serve-requires
serve-requires c =
    let f = find_session c.args.key c.self.view_is c.as_mut_slice-list.ensures.value c.self.inside.list.ok.0 c.self.invariant (ap is_some c.requires.there) c.place-at.ensures.value in
    let is = some_same (sym c.requires.there ∙ f.there c.index-list-at.result) in
    record {
      up = ap (λ (x : BrokerSession). is_up x.end.end.state) (sym is) ∙ c.requires.up;
      allowed = subst (λ (x : BrokerSession). IsAllowed c.args.call x.end) is c.requires.allowed;
    }

pub invariant_of-self : goal.invariant_of-self
invariant_of-self c =
    let f = find_session c.args.key c.self.view_is c.as_mut_slice-list.ensures.value c.self.inside.list.ok.0 c.self.invariant (ap is_some c.requires.there) c.place-at.ensures.value in
    f.kept c.index-list-at.result (λ t. record t { end = c.serve.new.self.end }) (λ t. refl) (λ t. refl) c.serve.new.self c.serve.ensures.session

pub returns-clause-serves : goal.returns-clause-serves
returns-clause-serves c =
    let f = find_session c.args.key c.self.view_is c.as_mut_slice-list.ensures.value c.self.inside.list.ok.0 c.self.invariant (ap is_some c.requires.there) c.place-at.ensures.value in
    found_serves f c.index-list-at.result c.args.call c.serve.result c.serve.new.self c.serve.ensures.session c.serve.ensures.end

pub returns-clause-err : goal.returns-clause-err
returns-clause-err c =
    let f = find_session c.args.key c.self.view_is c.as_mut_slice-list.ensures.value c.self.inside.list.ok.0 c.self.invariant (ap is_some c.requires.there) c.place-at.ensures.value in
    unserved c.args.key c.args.call c.serve.result c.args.self.now.list _ f.ascending
    (found_serves f c.index-list-at.result c.args.call c.serve.result c.serve.new.self c.serve.ensures.session c.serve.ensures.end)
