use Rattle.std.proofs.Common.{◌≡◌, List, length, rules, arith, sym, ap, subst}
use Rattle.std.proofs.lemmas.List.{length-map}
use Rattle.std.specs.List.{AllByRecursion}
use Rattle.std.specs.declared.cmp.Reverse.{Reverse}
use Rattle.indexmap.specs.IndexMap.{values}
use Rattle.mq_route.specs.declared.conn.Conn.{Conn}
use Rattle.mq_tables.specs.declared.connections.connection.Connection.{Connection}
use Rattle.mq_tables.specs.declared.alarms.Alarm.{Alarm}
use Rattle.mq_tables.specs.Alarms.{IsAwaited}
use Rattle.mq_tables.proofs.ConnectionTable.{Entry}
use Rattle.mq_tables.proofs.RingTimes.{alarm_awaited, awaited_values, still_awaited}
use Rattle.mq_tables.proofs.connections.table.reset_alarms.Goals as goal

pub loop-boxed-init : goal.loop-boxed-init
loop-boxed-init c =
    let same : c.into_iter-boxed-iterator.result ≡ values c.args.by_conn.now = search rules in
    let none = ap (λ (xs : List (Reverse Alarm)). length xs) c.clear.ensures in
    let count = ap (λ (cs : List Connection). length cs) same in
    record {
      awaited = λ a rings all. subst (λ (cs : List Connection). AllByRecursion (λ (x : Connection). IsAwaited c.args.within a x.conn x.since x.stage) cs) same all;
      few = omega (arith, none, count);
    }

pub loop-boxed-preserved : goal.loop-boxed-preserved
loop-boxed-preserved c =
    let own = c.in-Some.boxed.now in
    let name : own.conn ≡ c.connection.result.now.conn = search rules in
    let set = alarm_awaited c.args.within c.set.new.self c.connection.result.now.conn c.last_in_time.result own.since own.stage c.set.ensures.rings c.last_in_time.ensures in
    let steps = ap (λ (cs : List Connection). length cs) c.in-Some.ensures.steps in
    record {
      awaited = λ a rings all.
          c.loop-boxed.invariant.awaited a (λ k now quiet. c.set.ensures.keeps k now (rings k now quiet))
          (subst (λ (cs : List Connection). AllByRecursion (λ (x : Connection). IsAwaited c.args.within a x.conn x.since x.stage) cs) (sym c.in-Some.ensures.steps)
          (still_awaited c.args.within c.set.new.self a own.conn own.since own.stage rings (subst (λ (k : Conn). IsAwaited c.args.within c.set.new.self k own.since own.stage) (sym name) set), all));
      few = omega (arith, c.loop-boxed.invariant.few, c.set.ensures.few, steps);
    }

pub returns-clause-awaited : goal.returns-clause-awaited
returns-clause-awaited c =
    awaited_values c.args.within c.loop-boxed.alarms c.args.by_conn.now.entries
    (c.loop-boxed.invariant.awaited c.loop-boxed.alarms (λ k now quiet. quiet)
    (subst (λ (cs : List Connection). AllByRecursion (λ (x : Connection). IsAwaited c.args.within c.loop-boxed.alarms x.conn x.since x.stage) cs) (sym c.in-None.ensures.steps.0) tt))

pub returns-clause-few : goal.returns-clause-few
returns-clause-few c =
    let count = length-map c.args.by_conn.now.entries (λ (e : Entry). e.1) in
    omega (arith, c.loop-boxed.invariant.few, count)
