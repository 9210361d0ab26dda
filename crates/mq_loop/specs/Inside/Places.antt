-- Sets of places. Only proofs cite these definitions.
use Rattle.std.specs.Prelude.{ℕ, Bool, List}
use Rattle.std.specs.List.{count_by}

-- the number of places in the set
abbrev pub count_in : List Bool → ℕ
count_in flags = count_by (λ flag. flag) flags
