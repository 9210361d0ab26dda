use Rattle.std.proofs.Common.{get_or, refl, sym, subst}
use Rattle.mq_tables.specs.declared.sessions.session.BrokerSession.{BrokerSession}
use Rattle.mq_tables.specs.Sessions.{AreAscending}
use Rattle.mq_tables.proofs.FoundSession.{find_session}
use Rattle.mq_tables.proofs.sessions.table.Sessions.ready.Goals as goal

pub place-at-requires : goal.place-at-requires
place-at-requires c = subst AreAscending (sym c.as_mut_slice-list.ensures.value) c.self.invariant.ascending

pub bounds-list-at : goal.bounds-list-at
bounds-list-at c =
    (find_session c.args.key c.self.view_is c.as_mut_slice-list.ensures.value c.self.inside.list.ok.0 c.self.invariant c.requires c.place-at.ensures.value).within

pub invariant_of-self : goal.invariant_of-self
invariant_of-self c =
    let f = find_session c.args.key c.self.view_is c.as_mut_slice-list.ensures.value c.self.inside.list.ok.0 c.self.invariant c.requires c.place-at.ensures.value in
    f.kept c.index-list-at.result (λ t. record t { end = c.ready.new.self.end }) (λ t. refl) (λ t. refl) c.ready.new.self c.ready.ensures.session

pub returns-clause-readies : goal.returns-clause-readies
returns-clause-readies c =
    let f = find_session c.args.key c.self.view_is c.as_mut_slice-list.ensures.value c.self.inside.list.ok.0 c.self.invariant c.requires c.place-at.ensures.value in
    let d = c.index-list-at.result in
    let t = get_or c.as_mut_slice-list.result.now c.place-at.result d in
    record {
      session = t;
      there = f.there d;
      end = c.ready.new.self.end;
      readies = c.ready.ensures.end;
      after = f.after d (λ (s : BrokerSession). record s { end = c.ready.new.self.end }) c.ready.new.self c.ready.ensures.session;
    }
