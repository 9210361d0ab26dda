use Rattle.std.proofs.Common.{◌<◌, ◌∙◌, ℕ, get_or, length, take, sym, ap, subst, add-one, arith}
use Rattle.mq_route.specs.Hub.{up_on}
use Rattle.mq_route.specs.Step.{remove_all}
use Rattle.mq_route.specs.Work.{remove}
use Rattle.mq_hub.specs.Inside.Refinement.{Refines}
use Rattle.mq_hub.proofs.ExpiredSessions.{away_at, connections_left, remove_next, remove_none, remove_whole}
use Rattle.mq_hub.proofs.hub.HubOver.remove_all.Goals as goal

pub loop-key-init : goal.loop-key-init
loop-key-init g c = record { done = remove_none c.args.keys.now c.args.self.now c.args.log.now.acts; room = omega arith }

pub remove-requires-clause-away : goal.remove-requires-clause-away
remove-requires-clause-away g c =
    let i = c.loop-key.key-index in
    let ks = c.args.keys.now in
    let d = c.key-item.result in
    let inside : i < length ks = omega (arith, c.loop-key-test.true) in
    ap (λ (n : ℕ). up_on n c.loop-key.self.connections) c.key-item.is
    ∙ ap (up_on (get_or ks i d)) (connections_left (take i ks) c.args.self.now c.loop-key.self c.args.log.now.acts c.loop-key.log.acts c.loop-key.invariant.done)
    ∙ away_at ks i d c.args.self.now.connections inside c.requires.away

pub loop-key-preserved : goal.loop-key-preserved
loop-key-preserved g c =
    let i = c.loop-key.key-index in
    let ks = c.args.keys.now in
    let d = c.key-item.result in
    let inside : i < length ks = omega (arith, c.loop-key-test.true) in
    let one =
    subst (λ (n : ℕ). Refines (remove n) c.loop-key.self c.loop-key.log.acts c.remove.new.self c.remove.new.log.acts) c.key-item.is c.remove.ensures.goes in
    record {
      done = subst (λ (n : ℕ). Refines (remove_all (take n ks)) c.args.self.now c.args.log.now.acts c.remove.new.self c.remove.new.log.acts) (sym (add-one i))
          (remove_next ks i d c.args.self.now c.loop-key.self c.remove.new.self c.args.log.now.acts c.loop-key.log.acts c.remove.new.log.acts inside
          c.loop-key.invariant.done one);
      room = omega (arith, c.loop-key.invariant.room, c.remove.ensures.room);
    }

pub returns-clause-goes : goal.returns-clause-goes
returns-clause-goes g c = remove_whole c.args.keys.now c.loop-key.key-index c.args.self.now c.loop-key.self c.args.log.now.acts c.loop-key.log.acts
    (omega (arith, c.loop-key-test.false)) c.loop-key.invariant.done

pub returns-clause-room : goal.returns-clause-room
returns-clause-room g c = omega (arith, c.loop-key.invariant.room)
