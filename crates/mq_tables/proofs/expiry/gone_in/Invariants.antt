use Rattle.std.proofs.Common.{◌≡◌, take}
use Rattle.mq_tables.specs.Expiry.{gone_keys}
use Rattle.mq_tables.proofs.expiry.gone_in.Given as goal

abbrev pub invariant-loop-boxed : goal.invariant-loop-boxed
invariant-loop-boxed l = l.keys.items ≡ gone_keys l.expiry l.now l.connections.connections (take l.boxed-index l.list)
