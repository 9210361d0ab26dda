use Rattle.std.specs.Map.{lookup}
use Rattle.mq_topic.proofs.Gathering.{IsGathered}
use Rattle.mq_topic.proofs.Nodes.{is_client}
use Rattle.mq_topic.proofs.trie_walk.gather_map.Given as goal

abbrev pub invariant-clients : goal.invariant-clients
invariant-clients l = IsGathered (λ c. lookup (is_client c) l.fn.clients.entries) l.initial.found.entries l.found.entries l.client-iterator
