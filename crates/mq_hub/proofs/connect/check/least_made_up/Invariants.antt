use Rattle.std.proofs.Common.{◌≡◌, ◌-◌, ◌≤◌, length}
use Rattle.mq_route.specs.Welcome.{made_up_from}
use Rattle.mq_tables.specs.Sessions.{sessions_of}
use Rattle.mq_hub.proofs.connect.check.least_made_up.Given as goal

abbrev pub invariant-loop-number : goal.invariant-loop-number
invariant-loop-number l = record {
  within : l.number ≤ l.most;
  same : made_up_from (l.most - l.number) l.number (sessions_of l.sessions.list)
      ≡ made_up_from (length (sessions_of l.sessions.list)) 0 (sessions_of l.sessions.list);
}
