-- The laws of topic names and topic filters (4.7).
use Rattle.std.specs.Prelude.{◌≡◌, ◌↔◌, ◌⊎◌, ℕ, ◌<◌, Bool, true, false, List, [], ◌∷◌, length, None, ◌==◌}
use Rattle.std.specs.List.{list_any}
use Rattle.std.specs.Str.{is_utf8}
use Rattle.mq_topic.specs.Topic.{IsTopicFilter, IsTopicName, is_topic_filter, is_wildcard, levels}
use Rattle.mq_topic.specs.Match.{Match}
use Rattle.mq_topic.specs.Matching.{is_match}
use Rattle.mq_topic.specs.Fault.{filter_fault, name_fault}

-- A level of a filter has no wildcard, or is `+`, or is `#` and the last one.
abbrev pub IsFilterLevel : Bool → List ℕ → Type 0
IsFilterLevel is_last level = (list_any is_wildcard level ≡ false) ⊎ ((level ≡ 43 ∷ []) ⊎ ((level ≡ 35 ∷ []) × (is_last ≡ true)))

abbrev pub AreFilterLevels : List (List ℕ) → Type 0
AreFilterLevels [] = Unit {0}
AreFilterLevels (level ∷ rest) = IsFilterLevel (length rest == 0) level × AreFilterLevels rest

pub record TopicLaws : Type 0 where
  -- A UTF-8 text has no fault exactly if it is a topic name (or topic filter).
  pub name : (text : List ℕ) → is_utf8 text ≡ true → (name_fault text ≡ None) ↔ IsTopicName text
  pub filter : (text : List ℕ) → is_utf8 text ≡ true → (filter_fault text ≡ None) ↔ IsTopicFilter text
  -- A filter has a character, and each of its levels is a level of a filter.
  pub filter_levels : (text : List ℕ) → (is_topic_filter text ≡ true) ↔ ((0 < length text) × AreFilterLevels (levels text))
  -- The function of `matches` agrees with the relation of the standard.
  pub matching : (filter name : List ℕ) → (is_match filter name ≡ true) ↔ Match filter name
