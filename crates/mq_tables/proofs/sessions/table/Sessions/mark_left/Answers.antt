use Rattle.std.proofs.Common.{◌∙◌, refl, sym, ap, subst}
use Rattle.std.specs.Option.{is_some}
use Rattle.mq_tables.specs.Sessions.{AreAscending}
use Rattle.mq_tables.proofs.DisconnectTimes.{absent_marked, stamped}
use Rattle.mq_tables.proofs.FoundSession.{find_session}
use Rattle.mq_tables.proofs.SessionLemmas.{copied_none, copied_there}
use Rattle.mq_tables.proofs.sessions.table.Sessions.mark_left.Goals as goal

pub place-at-requires : goal.place-at-requires
place-at-requires c = subst AreAscending (sym c.as_mut_slice-list.ensures.value) c.self.invariant.ascending

pub bounds-list-at : goal.bounds-list-at
bounds-list-at c =
    let there = ap is_some (sym c.get.ensures) ∙ copied_there c.get.result (sym c.is_some.ensures ∙ c.if-is_some.true) in
    (find_session c.args.key c.self.view_is c.as_mut_slice-list.ensures.value c.self.inside.list.ok.0 c.self.invariant there c.place-at.ensures.value).within

pub invariant_of-self : goal.invariant_of-self
invariant_of-self c =
    let there = ap is_some (sym c.get.ensures) ∙ copied_there c.get.result (sym c.is_some.ensures ∙ c.if-is_some.true) in
    let f = find_session c.args.key c.self.view_is c.as_mut_slice-list.ensures.value c.self.inside.list.ok.0 c.self.invariant there c.place-at.ensures.value in
    f.kept c.index-list-at.result (stamped c.args.key c.args.now) (λ t. refl) (λ t. refl) c.mark_left.new.self c.mark_left.ensures

pub returns-then-is_some-clause-list : goal.returns-then-is_some-clause-list
returns-then-is_some-clause-list c =
    let there = ap is_some (sym c.get.ensures) ∙ copied_there c.get.result (sym c.is_some.ensures ∙ c.if-is_some.true) in
    let f = find_session c.args.key c.self.view_is c.as_mut_slice-list.ensures.value c.self.inside.list.ok.0 c.self.invariant there c.place-at.ensures.value in
    f.after c.index-list-at.result (stamped c.args.key c.args.now) c.mark_left.new.self c.mark_left.ensures

pub returns-else-is_some-clause-list : goal.returns-else-is_some-clause-list
returns-else-is_some-clause-list c =
    sym (absent_marked c.args.key c.args.now c.args.self.now.list (sym c.get.ensures ∙ copied_none c.get.result (sym c.is_some.ensures ∙ c.if-is_some.false)))
