-- The runs of the clients of a loopback file over their connections. Only proofs cite these
-- definitions.
use Rattle.std.specs.Prelude.{Bool, false, true}
use Rattle.mq_loopback.specs.declared.client.Client.{Client}
use Rattle.mq_loopback.specs.declared.client.Collector.{Collector}
use Rattle.mq_loopback.specs.declared.client.Publisher.{Publisher}
use Rattle.mq_loopback.specs.declared.client.Role.{Role}
use Rattle.mq_loopback.specs.declared.client.Role.TheVariants as roles

abbrev pub is_collector_role : Role → Bool
is_collector_role (roles.Collector collector) = true
is_collector_role (roles.Publisher publisher) = false

abbrev pub is_collector : Client → Bool
is_collector client = is_collector_role client.role
