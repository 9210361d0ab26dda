use Rattle.std.proofs.Common.{◌+◌, List, take, refl, sym, subst, ◌∙◌, arith}
use Rattle.mq_world.specs.declared.answer.DeliveredBytes.{DeliveredBytes}
use Rattle.mq_world.specs.Pairs.{wired_of}
use Rattle.mq_world.specs.World.{InTurn, exchanges}
use Rattle.mq_world.proofs.Growing.{tells_then}
use Rattle.mq_world.proofs.Worlds.{stands_turned, turn_next}
use Rattle.mq_world.proofs.Settled.{all_turned, turn_split, left_twice, left_settled}
use Rattle.mq_world.proofs.pair.Pair.settle.Goals as goal

pub loop-side-preserved : goal.loop-side-preserved
loop-side-preserved c = record {
  turns = λ limit capacity m s.
      let start = wired_of c.open-opening.new.self in
      let now = wired_of c.loop-side.self in
      let before = c.loop-side.invariant.turns limit capacity m s in
      let g = stands_turned c.over_bytes.ensures limit capacity (take c.loop-side.side-index exchanges) c.loop-side.deliveries.items start now m s before in
      let come = c.in_ok-delivery.ensures.delivered limit capacity g.0 g.1 in
      subst (λ (ds : List DeliveredBytes). InTurn limit capacity (take (c.loop-side.side-index + 1) exchanges) ds start (wired_of c.deliver_all.new.self))
      (sym c.in_ok-push.ensures.items)
      (turn_next limit capacity exchanges c.loop-side.side-index c.loop-side.deliveries.items _ _ c.in_ok-delivery.delivery start now
      (wired_of c.deliver_all.new.self) (omega arith) refl before come);
  config = c.deliver_all.ensures.config ∙ c.loop-side.invariant.config;
  answers = c.deliver_all.ensures.answers ∙ c.loop-side.invariant.answers;
  at_client = c.deliver_all.ensures.at_client ∙ c.loop-side.invariant.at_client;
  at_server = c.deliver_all.ensures.at_server ∙ c.loop-side.invariant.at_server;
  told_client = tells_then _ _ _ c.loop-side.invariant.told_client c.deliver_all.ensures.told_client;
  told_server = tells_then _ _ _ c.loop-side.invariant.told_server c.deliver_all.ensures.told_server;
}

pub returns-clause-settled : goal.returns-clause-settled
returns-clause-settled c = λ limit capacity m s.
    let old = wired_of c.args.self.now in
    let start = wired_of c.open-opening.new.self in
    let last = wired_of c.loop-side.self in
    let ds = c.from_vec.result in
    let opened = c.open-opening.ensures.opened limit capacity m s in
    let turns = all_turned limit capacity c.loop-side.side-index c.loop-side.deliveries.items ds old start last m c.open-opening.result
    (omega arith) c.from_vec.ensures s opened (c.loop-side.invariant.turns limit capacity) in
    let parts = turn_split limit capacity 4 exchanges ds start last turns in
    record {
      between = start;
      second = parts.0;
      opened = opened;
      exchanged_twice = parts.1;
      exchanged_again = parts.2;
      second_left =
          left_twice c.settles_over_bytes.ensures limit capacity old start parts.0 m
          (record { opening = c.open-opening.result; deliveries = ds; idle = c.is_idle.result }) s opened parts.1;
      idle = c.is_idle.ensures;
    }

pub returns-clause-left : goal.returns-clause-left
returns-clause-left c = λ limit capacity m s.
    let old = wired_of c.args.self.now in
    let start = wired_of c.open-opening.new.self in
    let last = wired_of c.loop-side.self in
    let ds = c.from_vec.result in
    let opened = c.open-opening.ensures.opened limit capacity m s in
    let turns = all_turned limit capacity c.loop-side.side-index c.loop-side.deliveries.items ds old start last m c.open-opening.result
    (omega arith) c.from_vec.ensures s opened (c.loop-side.invariant.turns limit capacity) in
    left_settled c.settles_over_bytes.ensures limit capacity old start last m
    (record { opening = c.open-opening.result; deliveries = ds; idle = c.is_idle.result }) s opened turns
