use Rattle.std.proofs.Common.{◌≡◌, take}
use Rattle.std.specs.List.{list_any}
use Rattle.mq_topic.specs.Topic.{is_wildcard}
use Rattle.mq_topic.proofs.name.has_wildcard.Given as goal

abbrev pub invariant-loop-byte : goal.invariant-loop-byte
invariant-loop-byte l = l.found ≡ list_any is_wildcard (take l.byte-index l.fn.text)
