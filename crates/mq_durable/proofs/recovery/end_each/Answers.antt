use Rattle.std.proofs.Common.{◌+◌, ◌<◌, ℕ, List, length, drop, arith}
use Rattle.mq_route.specs.declared.conn.Conn.{Conn}
use Rattle.mq_durable.proofs.Recoveries.{ended_all, ended_none, next_ended}
use Rattle.mq_durable.proofs.recovery.end_each.Goals as goal

pub loop-conn-init : goal.loop-conn-init
loop-conn-init c = record {
  ended = ended_none c.args.hub.now;
  known = c.requires;
}

pub loop-conn-preserved : goal.loop-conn-preserved
loop-conn-preserved c =
    let conns : List Conn = c.args.conns.now in
    let i : ℕ = c.loop-conn.conn-index in
    let within : i < length conns = omega (arith, c.loop-conn-test.true) in
    record {
      ended = ended_all c.args.hub.now c.loop-conn.hub c.end_one.new.hub c.loop-conn.invariant.ended c.in_ok-end_one.ensures.ended;
      known = c.in_ok-end_one.ensures.known (drop (i + 1) conns) (next_ended conns i _ c.loop-conn.hub within c.loop-conn.invariant.known);
    }
