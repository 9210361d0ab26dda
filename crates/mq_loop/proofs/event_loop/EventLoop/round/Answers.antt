use Rattle.std.proofs.Common.{◌≡◌, ◌∙◌, drop, refl, subst, sym}
use Rattle.mq_loop.specs.Inside.Turns.{IsOldestFirst}
use Rattle.mq_loop.proofs.Calling.{heard_at, heard_none, round_heard, round_parts, sorted_at}
use Rattle.mq_loop.proofs.event_loop.EventLoop.round.Goals as goal

pub loop-turn-init : goal.loop-turn-init
loop-turn-init g c = record {
  sorted = subst IsOldestFirst (sym c.as_slice-turn-items.ensures.value) c.begin_turns-turns.ensures.sorted;
  base = refl;
  calls = heard_none c.begin_turns-turns.new.self.ages c.as_slice-turn-items.result.now c.begin_turns-turns.new.self.watched.served.calls;
  ages = refl;
}

pub loop-turn-preserved : goal.loop-turn-preserved
loop-turn-preserved g c =
    let i = c.loop-turn.invariant in
    let e = c.hear.ensures in
    let n = c.loop-turn.turn-index in
    let turns = c.as_slice-turn-items.result.now in
    let start = c.begin_turns-turns.new.self in
    record {
      sorted = sorted_at turns n c.loop-turn-test.true i.sorted;
      base = e.base ∙ i.base;
      calls = heard_at start.ages turns n _ start.watched.served.calls c.loop-turn.self.watched.served.calls c.hear.new.self.watched.served.calls
          c.loop-turn-test.true i.sorted i.calls (rw i.ages at e.calls);
      ages = e.ages ∙ i.ages;
    }

pub returns-clause-calls : goal.returns-clause-calls
returns-clause-calls g c =
    let start = c.begin_turns-turns.new.self in
    let left = drop c.loop-turn.turn-index c.as_slice-turn-items.result.now in
    let first : c.self.inside.watched.served.calls ≡ c.args.self.now.watched.served.calls = rw (sym c.self.view_is) refl in
    let second : c.begin_turns-turns.new.self.watched.served.calls ≡ c.tick.new.self.watched.served.calls =
    rw c.begin_turns-turns.ensures.same refl in
    let third : c.self-2.inside.watched.served.calls ≡ c.loop-turn.self.watched.served.calls =
    rw (sym (c.self-2.view_is ∙ c.end_turns.ensures)) refl in
    let ticked : c.begin_turns-turns.new.self.ages ≡ c.tick.new.self.ages = rw c.begin_turns-turns.ensures.same refl in
    let same : c.tick.new.self.ages ≡ c.args.self.now.ages = rw (sym c.self.view_is) c.tick.ensures.ages in
    round_parts c.args.self.now.ages start.ages c.args.self.now.watched.served.calls c.self.inside.watched.served.calls c.tick.new.self.watched.served.calls
    start.watched.served.calls c.self-2.inside.watched.served.calls c.loop-turn.self.watched.served.calls c.settle-settled.new.self.served.calls
    (ticked ∙ same) first second third c.tick.ensures.calls
    (round_heard start.ages left start.watched.served.calls c.loop-turn.self.watched.served.calls c.loop-turn.invariant.calls) c.settle-settled.ensures.calls
