use Rattle.std.proofs.Common.{◌≡◌, get_or, refl, sym, subst}
use Rattle.mq_tables.specs.Connecting.{parted}
use Rattle.mq_tables.specs.Sessions.{AreAscending, with_server}
use Rattle.mq_tables.proofs.FoundSession.{find_session, set_back, some_found}
use Rattle.mq_tables.proofs.sessions.table.Sessions.detach.Goals as goal

pub place-at-requires : goal.place-at-requires
place-at-requires c = subst AreAscending (sym c.as_mut_slice-list.ensures.value) c.self.invariant.ascending

pub bounds-list-at : goal.bounds-list-at
bounds-list-at c =
    (find_session c.args.key c.self.view_is c.as_mut_slice-list.ensures.value c.self.inside.list.ok.0 c.self.invariant c.requires c.place-at.ensures.value).within

pub invariant_of-self : goal.invariant_of-self
invariant_of-self c =
    let f = find_session c.args.key c.self.view_is c.as_mut_slice-list.ensures.value c.self.inside.list.ok.0 c.self.invariant c.requires c.place-at.ensures.value in
    f.kept c.index-list-at.result (λ t. record t { end = parted t.end }) (λ t. refl) (λ t. refl) c.detach.new.self c.detach.ensures.session

pub returns-clause-list : goal.returns-clause-list
returns-clause-list c =
    let f = find_session c.args.key c.self.view_is c.as_mut_slice-list.ensures.value c.self.inside.list.ok.0 c.self.invariant c.requires c.place-at.ensures.value in
    let d = c.index-list-at.result in
    let t = get_or c.as_mut_slice-list.result.now c.place-at.result d in
    some_found f d (λ s. set_back c.self.inside.list.len c.self.inside.list.items c.as_mut_slice-list.result.now c.place-at.result c.detach.new.self ≡ with_server c.args.key (parted s.end) c.args.self.now.list)
    (f.after d (λ s. record s { end = parted t.end }) c.detach.new.self c.detach.ensures.session)

pub returns-clause-output : goal.returns-clause-output
returns-clause-output c =
    let f = find_session c.args.key c.self.view_is c.as_mut_slice-list.ensures.value c.self.inside.list.ok.0 c.self.invariant c.requires c.place-at.ensures.value in
    some_found f c.index-list-at.result (λ t. c.detach.new.output ≡ t.end.output) c.detach.ensures.output
