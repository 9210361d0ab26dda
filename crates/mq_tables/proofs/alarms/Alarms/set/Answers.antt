use Rattle.std.proofs.Common.{refl, subst}
use Rattle.mq_tables.specs.Alarms.{AlarmTable, IsQuiet}
use Rattle.mq_tables.proofs.RingTimes.{quiet_pushed}
use Rattle.mq_tables.proofs.alarms.Alarms.set.Goals as goal

pub returns-in-Ok-clause-keeps : goal.returns-in-Ok-clause-keeps
returns-in-Ok-clause-keeps c = λ k now quiet.
    subst (λ (a : AlarmTable). IsQuiet a k now) c.self.view_is (quiet.0, (quiet_pushed k now _ _ _ c.in-Ok.ensures.permutation quiet.1).1)

pub returns-in-Ok-clause-rings : goal.returns-in-Ok-clause-rings
returns-in-Ok-clause-rings c = λ now quiet. (quiet_pushed c.args.conn now _ _ _ c.in-Ok.ensures.permutation quiet.1).0 refl
