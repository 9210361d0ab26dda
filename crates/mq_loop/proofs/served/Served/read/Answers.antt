use Rattle.std.proofs.Common.{take, length-take, sym, subst, ⊎_elim, ◌∙◌, arith}
use Rattle.mq_route.specs.declared.event.HubEvent.TheVariants.{Bytes}
use Rattle.mq_route.specs.Step.{HubStep}
use Rattle.mq_loop.specs.Accounts.{ServedState, name_at}
use Rattle.mq_loop.proofs.CarriedBytes.{line_here, no_bytes, none_lost_served, rest_served, same_served, unread_step_served}
use Rattle.mq_loop.proofs.served.Served.read.Goals as goal

pub invariant_of-self-then-not-is_empty : goal.invariant_of-self-then-not-is_empty
invariant_of-self-then-not-is_empty g c =
    let s = c.self.inside in
    let lines = s.connections.items in
    let r = c.in-Ok in
    let step = rw c.name_at-conn.ensures at r.ensures.step.step in
    let is = line_here lines c.args.place c.index_mut.result.now (omega arith) c.index_mut.ensures.value ∙ c.in-Some.is in
    unread_step_served (g.B.Broker.state s.base.value) (g.B.Broker.state s.broker) (g.B.Broker.state c.step_some.new.self) lines c.args.place c.in-Some.connection c.skip_unread.new.self c.unread-then-not-is_empty.result.now r.used r.reply
    c.self.invariant step c.unread-then-not-is_empty.ensures (omega arith) is c.skip_unread.ensures

pub returns-then-not-is_empty-clause-step : goal.returns-then-not-is_empty-clause-step
returns-then-not-is_empty-clause-step g c =
    let r = c.in-Ok in
    let step = rw c.name_at-conn.ensures at r.ensures.step.step in
    let bytes = take r.used c.unread-then-not-is_empty.result.now in
    (bytes, subst (λ (v : ServedState). HubStep v.hub (Bytes (name_at c.args.place) bytes) r.reply (g.B.Broker.state c.step_some.new.self)) c.self.view_is step)

pub invariant_of-self-in_default-step_some-2 : goal.invariant_of-self-in_default-step_some-2
invariant_of-self-in_default-step_some-2 g c =
    let s = c.self.inside in
    let lines = s.connections.items in
    let is = line_here lines c.args.place c.index_mut.result.now (omega arith) c.index_mut.ensures.value ∙ c.in-Some.is in
    none_lost_served (g.B.Broker.state s.base.value) (g.B.Broker.state s.broker) (g.B.Broker.state c.step_some-2.new.self) lines c.args.place c.in-Some.connection c.read.new.self c.mark_broken.new.self c.self.invariant
    c.in_default-step_some-2.ensures.err (omega arith) is c.read.ensures.rest c.mark_broken.ensures

pub invariant_of-self-2 : goal.invariant_of-self-2
invariant_of-self-2 g c =
    let s = c.self.inside in
    let lines = s.connections.items in
    let r = c.in-Ok-step_some in
    let step = rw c.name_at-conn.ensures at r.ensures.step.step in
    let count = c.in-Bytes.count in
    let buffer = c.read.new.buffer in
    let is = line_here lines c.args.place c.index_mut.result.now (omega arith) c.index_mut.ensures.value ∙ c.in-Some.is in
    let empty = sym c.unread.ensures ∙ no_bytes c.unread.result.now c.if-not-is_empty.ensures in
    rest_served (g.B.Broker.state s.base.value) (g.B.Broker.state s.broker) (g.B.Broker.state c.step_some-2.new.self) lines c.args.place c.in-Some.connection c.read.new.self c.keep_unread.new.self buffer r.used count r.reply c.self.invariant
    step (omega arith) is empty c.in-Bytes.ensures.came.1 c.read.ensures.rest (omega (arith, r.ensures.step.within, length-take count buffer)) c.keep_unread.ensures

pub returns-clause-step : goal.returns-clause-step
returns-clause-step g c =
    let r = c.in-Ok-step_some in
    let step = rw c.name_at-conn.ensures at r.ensures.step.step in
    let bytes = take r.used (take c.in-Bytes.count c.read.new.buffer) in
    (bytes, subst (λ (v : ServedState). HubStep v.hub (Bytes (name_at c.args.place) bytes) r.reply (g.B.Broker.state c.step_some-2.new.self)) c.self.view_is step)

pub invariant_of-self-in-End : goal.invariant_of-self-in-End
invariant_of-self-in-End g c =
    let s = c.self.inside in
    let lines = s.connections.items in
    let is = line_here lines c.args.place c.index_mut.result.now (omega arith) c.index_mut.ensures.value ∙ c.in-Some.is in
    same_served (g.B.Broker.state s.base.value) (g.B.Broker.state s.broker) lines c.args.place c.in-Some.connection c.read.new.self c.self.invariant (omega arith) is
    (⊎_elim (λ e. rw e at c.read.ensures.came) (λ e. rw e at c.read.ensures.came) c.in-End.is) c.read.ensures.rest
