-- The first fault of a text as a topic name or topic filter (4.7).
use Rattle.std.specs.Prelude.{ℕ, List, codes, length, Option, Some, None, nat_lt, ◌==◌, if◌then◌else◌}
use Rattle.std.specs.List.{list_any}
use Rattle.std.specs.Option.{option_or}
use Rattle.mq_wire.specs.Text.{has_nul}
use Rattle.mq_topic.specs.Topic.{is_wildcard, levels, levels_fault}
use Rattle.mq_topic.specs.declared.fault.TopicFault.{TopicFault}
use Rattle.mq_topic.specs.declared.fault.TopicFault.TheVariants.{Empty, Nul, TooLong, Wildcard, Plus, Hash, Memory}

-- Both have at least one character, no U+0000, and at most 65,535 bytes.
abbrev pub text_fault : List ℕ → Option TopicFault
text_fault text =
    if length text == 0 then Some Empty else
    (if has_nul text then Some Nul else (if nat_lt 65535 (length text) then Some TooLong else None))

-- A name has no wildcard.
abbrev pub name_fault : List ℕ → Option TopicFault
name_fault text = option_or (text_fault text) (if list_any is_wildcard text then Some Wildcard else None)

-- A filter has wildcards only at valid places.
abbrev pub filter_fault : List ℕ → Option TopicFault
filter_fault text = option_or (text_fault text) (levels_fault (levels text))

-- The code of each fault.
abbrev pub topic_code : TopicFault → List ℕ
topic_code Empty = codes "N1"
topic_code Nul = codes "N2"
topic_code TooLong = codes "N3"
topic_code Wildcard = codes "N4"
topic_code Plus = codes "N5"
topic_code Hash = codes "N6"
topic_code Memory = codes "N7"
