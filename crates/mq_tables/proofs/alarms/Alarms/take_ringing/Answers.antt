use Rattle.std.proofs.Common.{◌≡◌, ◌∙◌, List, false, subst}
use Rattle.mq_route.specs.declared.conn.Conn.{Conn}
use Rattle.mq_tables.specs.Alarms.{AlarmTable, IsQuiet}
use Rattle.mq_tables.specs.Inside.Alarms.{is_named}
use Rattle.mq_tables.proofs.RingTimes.{named_parts}
use Rattle.mq_tables.proofs.alarms.Alarms.take_ringing.Goals as goal

pub loop-conn-preserved : goal.loop-conn-preserved
loop-conn-preserved c =
    let names = c.loop-conn.names.items in
    record {
      until = c.take.ensures.until ∙ c.loop-conn.invariant.until;
      others = λ k n none quiet.
          let p = named_parts k c.in-Some.conn names (subst (λ (ns : List Conn). is_named k ns ≡ false) c.in-Ok.ensures.items none) in
          c.loop-conn.invariant.others k n p.0 (c.in-Some.ensures.others k n p.1 quiet);
    }

pub returns-clause-others : goal.returns-clause-others
returns-clause-others c = λ k n none quiet.
    c.loop-conn.invariant.others k n none (subst (λ (a : AlarmTable). IsQuiet a k n) c.in_default.ensures.same quiet)
