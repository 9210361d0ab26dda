use Rattle.mq_status.specs.Inside.Passwords.{AreTablesOf}
use Rattle.mq_status.proofs.passwords.tables_of.Given as goal

abbrev pub invariant-loop-entry : goal.invariant-loop-entry
invariant-loop-entry l = AreTablesOf l.yielded l.users.items l.hashed_users.items
