use Rattle.std.proofs.Common.{◌≡◌, ◌∙◌, refl, sym}
use Rattle.mq_loop.proofs.Calling.{of_place, of_then}
use Rattle.mq_loop.proofs.event_loop.EventLoop.hear.Goals as goal

pub returns-in_default-clause-calls : goal.returns-in_default-clause-calls
returns-in_default-clause-calls g c =
    let ages = c.args.self.now.ages in
    let age = c.args.turn.age in
    let before = c.loop.self.watched.served.calls in
    let after = c.read.new.self.served.calls in
    let here : c.self-in-loop.inside.watched.served.calls ≡ c.loop.self.watched.served.calls = rw (sym c.self-in-loop.view_is) refl in
    rw c.note_step.ensures (of_then ages age c.args.self.now.watched.served.calls before after c.loop.invariant.calls
    (of_place ages age c.args.turn.place before after (c.if-not-begin_turn.ensures.age refl) (rw here at c.read.ensures.calls)))

pub loop-preserved : goal.loop-preserved
loop-preserved g c =
    let ages = c.args.self.now.ages in
    let age = c.args.turn.age in
    let before = c.loop.self.watched.served.calls in
    let after = c.read.new.self.served.calls in
    let here : c.self-in-loop.inside.watched.served.calls ≡ c.loop.self.watched.served.calls = rw (sym c.self-in-loop.view_is) refl in
    let based : c.self-in-loop.inside.watched.served.base ≡ c.loop.self.watched.served.base = rw (sym c.self-in-loop.view_is) refl in
    record {
      base = rw c.note_step.ensures (c.read.ensures.base ∙ (based ∙ c.loop.invariant.base));
      calls = rw c.note_step.ensures (of_then ages age c.args.self.now.watched.served.calls before after c.loop.invariant.calls
          (of_place ages age c.args.turn.place before after (c.if-not-begin_turn.ensures.age refl) (rw here at c.read.ensures.calls)));
      ages = rw c.note_step.ensures (rw (sym c.loop.invariant.ages) (rw (sym c.self-in-loop.view_is) refl));
    }
