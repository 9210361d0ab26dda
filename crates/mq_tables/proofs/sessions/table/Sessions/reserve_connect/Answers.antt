use Rattle.std.proofs.Common.{List, get_or, refl, sym, subst}
use Rattle.mq_tables.specs.declared.sessions.session.BrokerSession.{BrokerSession}
use Rattle.mq_tables.specs.Connecting.{HasConnectRoomAt}
use Rattle.mq_tables.specs.Sessions.{AreAscending}
use Rattle.mq_tables.proofs.FirstPackets.{ok_by}
use Rattle.mq_tables.proofs.FoundSession.{find_session}
use Rattle.mq_tables.proofs.RoomToConnect.{enlarged, enlarged_same, enlarged_still, rise_with}
use Rattle.mq_tables.proofs.sessions.table.Sessions.reserve_connect.Goals as goal

pub place-at-requires : goal.place-at-requires
place-at-requires c = subst AreAscending (sym c.as_mut_slice-list.ensures.value) c.self.invariant.ascending

pub bounds-list-at : goal.bounds-list-at
bounds-list-at c =
    (find_session c.args.key c.self.view_is c.as_mut_slice-list.ensures.value c.self.inside.list.ok.0 c.self.invariant c.requires c.place-at.ensures.value).within

pub invariant_of-self : goal.invariant_of-self
invariant_of-self c =
    let f = find_session c.args.key c.self.view_is c.as_mut_slice-list.ensures.value c.self.inside.list.ok.0 c.self.invariant c.requires c.place-at.ensures.value in
    f.kept c.index-list-at.result (λ t. record t { end = c.reserve_connect.new.self.end }) (λ t. refl) (λ t. refl) c.reserve_connect.new.self c.reserve_connect.ensures.session

pub returns-clause-ok : goal.returns-clause-ok
returns-clause-ok c =
    let f = find_session c.args.key c.self.view_is c.as_mut_slice-list.ensures.value c.self.inside.list.ok.0 c.self.invariant c.requires c.place-at.ensures.value in
    let d = c.index-list-at.result in
    let t = get_or c.as_mut_slice-list.result.now c.place-at.result d in
    let e = c.reserve_connect.new.self.end in
    ok_by c.reserve_connect.result
    (λ h. subst (λ (ts : List BrokerSession). HasConnectRoomAt c.args.connect.now c.args.key c.args.messages.now 0 ts) (sym (f.after d (λ (s : BrokerSession). record s { end = c.reserve_connect.new.self.end }) c.reserve_connect.new.self c.reserve_connect.ensures.session))
    (rise_with c.args.connect.now c.args.key c.args.messages.now 0 e t c.args.self.now.list (f.there d) h))
    c.reserve_connect.ensures.ok

pub returns-clause-same : goal.returns-clause-same
returns-clause-same c =
    let f = find_session c.args.key c.self.view_is c.as_mut_slice-list.ensures.value c.self.inside.list.ok.0 c.self.invariant c.requires c.place-at.ensures.value in
    let d = c.index-list-at.result in
    let t = get_or c.as_mut_slice-list.result.now c.place-at.result d in
    enlarged_same c.args.key c.args.self.now.list _ f.ascending
    (enlarged c.args.key t c.reserve_connect.new.self.end c.args.self.now.list _ (f.there d) (f.after d (λ (s : BrokerSession). record s { end = c.reserve_connect.new.self.end }) c.reserve_connect.new.self c.reserve_connect.ensures.session) c.reserve_connect.ensures.end c.reserve_connect.ensures.before)

pub returns-clause-still : goal.returns-clause-still
returns-clause-still c =
    let f = find_session c.args.key c.self.view_is c.as_mut_slice-list.ensures.value c.self.inside.list.ok.0 c.self.invariant c.requires c.place-at.ensures.value in
    let d = c.index-list-at.result in
    let t = get_or c.as_mut_slice-list.result.now c.place-at.result d in
    enlarged_still c.args.key c.args.self.now.list _ f.ascending
    (enlarged c.args.key t c.reserve_connect.new.self.end c.args.self.now.list _ (f.there d) (f.after d (λ (s : BrokerSession). record s { end = c.reserve_connect.new.self.end }) c.reserve_connect.new.self c.reserve_connect.ensures.session) c.reserve_connect.ensures.end c.reserve_connect.ensures.before)
