use Rattle.std.proofs.Common.{◌≡◌, ◌∙◌, List, get_or, refl, sym, subst}
use Rattle.mq_end.specs.Ready.{HasConnectRoom}
use Rattle.mq_tables.specs.declared.sessions.session.BrokerSession.{BrokerSession}
use Rattle.mq_tables.specs.Connecting.{left, HasConnectRoomAt}
use Rattle.mq_tables.specs.Sessions.{AreAscending, with_server}
use Rattle.mq_tables.proofs.FoundSession.{find_session, set_back, some_found}
use Rattle.mq_tables.proofs.RoomToConnect.{rise_with}
use Rattle.mq_tables.proofs.SessionLemmas.{some_same}
use Rattle.mq_tables.proofs.sessions.table.Sessions.lose_connection.Goals as goal

pub place-at-requires : goal.place-at-requires
place-at-requires c = subst AreAscending (sym c.as_mut_slice-list.ensures.value) c.self.invariant.ascending

pub bounds-list-at : goal.bounds-list-at
bounds-list-at c =
    (find_session c.args.key c.self.view_is c.as_mut_slice-list.ensures.value c.self.inside.list.ok.0 c.self.invariant c.requires c.place-at.ensures.value).within

pub invariant_of-self : goal.invariant_of-self
invariant_of-self c =
    let f = find_session c.args.key c.self.view_is c.as_mut_slice-list.ensures.value c.self.inside.list.ok.0 c.self.invariant c.requires c.place-at.ensures.value in
    f.kept c.index-list-at.result (λ t. record t { end = left t.end }) (λ t. refl) (λ t. refl) c.lose_connection.new.self c.lose_connection.ensures.session

pub returns-clause-list : goal.returns-clause-list
returns-clause-list c =
    let f = find_session c.args.key c.self.view_is c.as_mut_slice-list.ensures.value c.self.inside.list.ok.0 c.self.invariant c.requires c.place-at.ensures.value in
    let d = c.index-list-at.result in
    let t = get_or c.as_mut_slice-list.result.now c.place-at.result d in
    some_found f d (λ s. set_back c.self.inside.list.len c.self.inside.list.items c.as_mut_slice-list.result.now c.place-at.result c.lose_connection.new.self ≡ with_server c.args.key (left s.end) c.args.self.now.list)
    (f.after d (λ s. record s { end = left t.end }) c.lose_connection.new.self c.lose_connection.ensures.session)

pub returns-clause-connect_end : goal.returns-clause-connect_end
returns-clause-connect_end c = λ connect ms more h.
    let f = find_session c.args.key c.self.view_is c.as_mut_slice-list.ensures.value c.self.inside.list.ok.0 c.self.invariant c.requires c.place-at.ensures.value in
    let d = c.index-list-at.result in
    let t = get_or c.as_mut_slice-list.result.now c.place-at.result d in
    let is = some_same (sym h.there ∙ f.there d) in
    let rise = c.lose_connection.ensures.connect_end connect ms more (subst (λ (s : BrokerSession). HasConnectRoom connect ms more s.end) is h.connect_end) in
    subst (λ (ts : List BrokerSession). HasConnectRoomAt connect c.args.key ms more ts) (sym (f.after d (λ s. record s { end = left t.end }) c.lose_connection.new.self c.lose_connection.ensures.session))
    (rise_with connect c.args.key ms more (left t.end) t c.args.self.now.list (f.there d) (subst (λ (s : BrokerSession). HasConnectRoom connect ms more s.end) c.lose_connection.ensures.session rise))
