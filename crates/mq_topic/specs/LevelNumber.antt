-- Hashes of levels.
use Rattle.std.specs.Prelude.{◌≡◌, ◌==◌, ℕ, true, List}
use Rattle.std.specs.Arc.{arc_str_bytes}
use Rattle.std.specs.Hash.FoldHasher as folding
use Rattle.std.specs.Map.{lookup}
use Rattle.std.specs.Option.{option_map_or}
use Rattle.mq_topic.specs.declared.level_map.Child.{Child}

-- The hash of a level.
unfoldable pub level_number : List ℕ → ℕ
level_number level = folding.finish (folding.write folding.initial level)

-- Each child is stored under the hash of its level.
abbrev pub AreNumbered : List (ℕ × Child) → Type 0
AreNumbered entries = (number : ℕ) → option_map_or (λ (child : Child). level_number (arc_str_bytes child.level) == number) (lookup (λ other. number == other) entries) true ≡ true
