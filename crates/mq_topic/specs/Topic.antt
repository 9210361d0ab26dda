-- Topic names and topic filters (4.7).
use Rattle.std.specs.Prelude.{◌≡◌, ℕ, Bool, true, not, ◌&&◌, ◌||◌, List, [], ◌∷◌, length, Option, Some, None, ◌==◌, if◌then◌else◌}
use Rattle.std.specs.List.{list_any, slice_split}
use Rattle.std.specs.Option.{option_or, is_none}
use Rattle.mq_wire.specs.Text.{IsText}
use Rattle.mq_topic.specs.declared.fault.TopicFault.{TopicFault}
use Rattle.mq_topic.specs.declared.fault.TopicFault.TheVariants.{Plus, Hash}

-- The bytes of `+`, `#` and `/`.
abbrev pub is_plus : ℕ → Bool
is_plus byte = byte == 43

abbrev pub is_hash : ℕ → Bool
is_hash byte = byte == 35

abbrev pub is_slash : ℕ → Bool
is_slash byte = byte == 47

abbrev pub is_wildcard : ℕ → Bool
is_wildcard byte = is_plus byte || is_hash byte

-- The text has at least one character, and neither `+` nor `#`.
abbrev pub is_topic_name : List ℕ → Bool
is_topic_name text = not (length text == 0) && not (list_any is_wildcard text)

pub record IsTopicName (bytes : List ℕ) : Type 0 where
  pub text : IsText bytes
  pub name : is_topic_name bytes ≡ true

-- The levels of a text, separated by `/`; they may be empty.
abbrev pub levels : List ℕ → List (List ℕ)
levels text = slice_split is_slash text

-- A level contains `+` and other characters.
abbrev pub is_bad_plus : List ℕ → Bool
is_bad_plus level = list_any is_plus level && not (length level == 1)

-- A level contains `#`, and other characters, or it is not the last.
abbrev pub is_bad_hash : Bool → List ℕ → Bool
is_bad_hash is_last level = list_any is_hash level && not (is_last && length level == 1)

-- The fault of a level.
abbrev pub level_fault : Bool → List ℕ → Option TopicFault
level_fault is_last level = if is_bad_plus level then Some Plus else (if is_bad_hash is_last level then Some Hash else None)

-- The fault of the first invalid level.
abbrev pub levels_fault : List (List ℕ) → Option TopicFault
levels_fault [] = None
levels_fault (level ∷ rest) = option_or (level_fault (length rest == 0) level) (levels_fault rest)

-- The text has at least one character, each `+` is alone in its level, and `#` only alone in the
-- last level.
abbrev pub is_topic_filter : List ℕ → Bool
is_topic_filter text = not (length text == 0) && is_none (levels_fault (levels text))

pub record IsTopicFilter (bytes : List ℕ) : Type 0 where
  pub text : IsText bytes
  pub filter : is_topic_filter bytes ≡ true
