use Rattle.std.proofs.Common.{◌≡◌, refl, sym, subst}
use Rattle.mq_tables.specs.Sessions.{AreAscending}
use Rattle.mq_tables.proofs.FoundSession.{find_session, some_found}
use Rattle.mq_tables.proofs.sessions.table.Sessions.swap_end.Goals as goal

pub place-at-requires : goal.place-at-requires
place-at-requires c = subst AreAscending (sym c.as_mut_slice-list.ensures.value) c.self.invariant.ascending

pub bounds-list-at : goal.bounds-list-at
bounds-list-at c =
    (find_session c.args.key c.self.view_is c.as_mut_slice-list.ensures.value c.self.inside.list.ok.0 c.self.invariant c.requires c.place-at.ensures.value).within

pub invariant_of-self : goal.invariant_of-self
invariant_of-self c =
    let f = find_session c.args.key c.self.view_is c.as_mut_slice-list.ensures.value c.self.inside.list.ok.0 c.self.invariant c.requires c.place-at.ensures.value in
    f.kept c.index-list-at.result (λ t. record t { end = c.args.end.now }) (λ t. refl) (λ t. refl) c.swap_end.new.self c.swap_end.ensures.session

pub returns-clause-list : goal.returns-clause-list
returns-clause-list c =
    let f = find_session c.args.key c.self.view_is c.as_mut_slice-list.ensures.value c.self.inside.list.ok.0 c.self.invariant c.requires c.place-at.ensures.value in
    f.after c.index-list-at.result (λ t. record t { end = c.args.end.now }) c.swap_end.new.self c.swap_end.ensures.session

pub returns-clause-end : goal.returns-clause-end
returns-clause-end c =
    let f = find_session c.args.key c.self.view_is c.as_mut_slice-list.ensures.value c.self.inside.list.ok.0 c.self.invariant c.requires c.place-at.ensures.value in
    some_found f c.index-list-at.result (λ t. c.swap_end.new.end ≡ t.end) c.swap_end.ensures.end
