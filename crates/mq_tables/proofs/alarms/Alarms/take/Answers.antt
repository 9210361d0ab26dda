use Rattle.std.proofs.Common.{◌∙◌, sym, ap, subst, true≢false}
use Rattle.mq_route.specs.Routed.{same_conn}
use Rattle.mq_tables.specs.Alarms.{AlarmTable, IsQuiet}
use Rattle.mq_tables.proofs.ConnectionTable.{itself}
use Rattle.mq_tables.proofs.RingTimes.{quiet_popped}
use Rattle.mq_tables.proofs.alarms.Alarms.take.Goals as goal

pub returns-clause-others : goal.returns-clause-others
returns-clause-others c = λ k n apart quiet.
    let own = c.in_ok-alarm.field-0 in
    subst (λ (a : AlarmTable). IsQuiet a k n) c.self.view_is (
      quiet.0,
      quiet_popped k n own _ _ c.in_ok-alarm.ensures.permutation
          (λ same. absurd (true≢false (sym (itself k) ∙ ap (same_conn k) (sym same) ∙ apart))) quiet.1,
    )
