use Rattle.std.proofs.Common.{◌≡◌, ◌∙◌, [], is_some, get_or, refl, sym, ap, subst}
use Rattle.mq_end.specs.Ready.{HasConnectRoom}
use Rattle.mq_tables.specs.declared.sessions.session.BrokerSession.{BrokerSession}
use Rattle.mq_tables.specs.Connecting.{connected_end}
use Rattle.mq_tables.specs.Sessions.{AreAscending, with_server}
use Rattle.mq_tables.proofs.FoundSession.{find_session, set_back, some_found}
use Rattle.mq_tables.proofs.SessionLemmas.{some_same}
use Rattle.mq_tables.proofs.sessions.table.Sessions.connect_end.Goals as goal

pub place-at-requires : goal.place-at-requires
place-at-requires c = subst AreAscending (sym c.as_mut_slice-list.ensures.value) c.self.invariant.ascending

pub bounds-list-at : goal.bounds-list-at
bounds-list-at c =
    (find_session c.args.key c.self.view_is c.as_mut_slice-list.ensures.value c.self.inside.list.ok.0 c.self.invariant (ap is_some c.requires.there) c.place-at.ensures.value).within

pub connect_end-requires : goal.connect_end-requires
connect_end-requires c =
    let f = find_session c.args.key c.self.view_is c.as_mut_slice-list.ensures.value c.self.inside.list.ok.0 c.self.invariant (ap is_some c.requires.there) c.place-at.ensures.value in
    subst (λ (s : BrokerSession). HasConnectRoom c.args.connect [] 0 s.end) (some_same (sym c.requires.there ∙ f.there c.index-list-at.result)) c.requires.connect_end

pub invariant_of-self : goal.invariant_of-self
invariant_of-self c =
    let f = find_session c.args.key c.self.view_is c.as_mut_slice-list.ensures.value c.self.inside.list.ok.0 c.self.invariant (ap is_some c.requires.there) c.place-at.ensures.value in
    f.kept c.index-list-at.result (λ t. record t { end = connected_end c.args.connect c.args.now t.end }) (λ t. refl) (λ t. refl) c.connect_end.new.self c.connect_end.ensures

pub returns-clause-list : goal.returns-clause-list
returns-clause-list c =
    let f = find_session c.args.key c.self.view_is c.as_mut_slice-list.ensures.value c.self.inside.list.ok.0 c.self.invariant (ap is_some c.requires.there) c.place-at.ensures.value in
    let d = c.index-list-at.result in
    let t = get_or c.as_mut_slice-list.result.now c.place-at.result d in
    let to = connected_end c.args.connect c.args.now in
    some_found f d (λ s. set_back c.self.inside.list.len c.self.inside.list.items c.as_mut_slice-list.result.now c.place-at.result c.connect_end.new.self ≡ with_server c.args.key (to s.end) c.args.self.now.list)
    (f.after d (λ s. record s { end = to t.end }) c.connect_end.new.self c.connect_end.ensures)
