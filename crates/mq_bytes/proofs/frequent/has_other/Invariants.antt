use Rattle.std.proofs.Common.{◌≡◌, ◌||◌, take}
use Rattle.std.specs.List.{list_any}
use Rattle.mq_wire.specs.Inside.Text.{is_special}
use Rattle.mq_topic.specs.Topic.{is_wildcard}
use Rattle.mq_bytes.proofs.frequent.has_other.Given as goal

abbrev pub invariant-loop-byte : goal.invariant-loop-byte
invariant-loop-byte l = l.found ≡ list_any (λ byte. is_special byte || is_wildcard byte) (take l.byte-index l.bytes)
