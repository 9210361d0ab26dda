use Rattle.std.proofs.Common.{◌≡◌, ℕ, false, length}
use Rattle.mq_route.specs.declared.conn.Conn.{Conn}
use Rattle.mq_tables.specs.Alarms.{IsQuiet}
use Rattle.mq_tables.specs.Inside.Alarms.{is_named}
use Rattle.mq_tables.proofs.alarms.Alarms.take_ringing.Given as goal

abbrev pub invariant-loop-conn : goal.invariant-loop-conn
invariant-loop-conn l = record {
  until : l.self.until ≡ l.initial.self.until;
  others : (k : Conn) (n : ℕ) → is_named k l.names.items ≡ false → IsQuiet l.self k n → IsQuiet l.initial.self k n;
}

abbrev pub decreases-loop-conn : goal.decreases-loop-conn
decreases-loop-conn l = length l.self.alarms
