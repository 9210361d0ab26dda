use Rattle.std.proofs.Common.{◌≡◌, ◌∙◌, [], Option, IfSome, sym, ap, subst, arith}
use Rattle.mq_loop.specs.Accounts.{ServedState}
use Rattle.mq_loop.specs.Rounds.{Output, output_at, output_of}
use Rattle.mq_loop.proofs.CarriedBytes.{collect_served, line_here}
use Rattle.mq_loop.proofs.served.Served.collect.Goals as goal

pub returns-then-is_blocked-clause-step : goal.returns-then-is_blocked-clause-step
returns-then-is_blocked-clause-step g c =
    let place = c.args.place in
    let lines = c.self.inside.connections.items in
    let is = line_here lines place c.index_mut.result.now (omega arith) c.index_mut.ensures.value ∙ c.in-Some.is in (
      ap (λ (v : ServedState). v.hub) c.self.view_is,
      subst (λ (v : ServedState). IfSome (output_at place v.lines) (λ x. x.kept ≡ [] → ⊥)) c.self.view_is
          (subst (λ (o : Option Output). IfSome o (λ x. x.kept ≡ [] → ⊥)) (sym (ap output_of is)) (c.is_blocked.ensures.kept c.if-is_blocked.true)),
    )

pub invariant_of-self-2 : goal.invariant_of-self-2
invariant_of-self-2 g c =
    let s = c.self.inside in
    let lines = s.connections.items in
    let is = line_here lines c.args.place c.index_mut.result.now (omega arith) c.index_mut.ensures.value ∙ c.in-Some.is in
    collect_served (g.B.Broker.state s.base.value) (g.B.Broker.state s.broker) (g.B.Broker.state c.collect.new.self) lines c.args.place c.in-Some.connection c.keep.new.self c.in_ok-reply.reply c.self.invariant
    (rw c.name_at.ensures at c.in_ok-reply.ensures.step) (omega arith) is (c.is_blocked.ensures.none c.if-is_blocked.false) c.keep.ensures
