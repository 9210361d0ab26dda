-- Files by name, and what a crash may leave of them. Only proofs cite these definitions.
use Rattle.std.specs.Prelude.{◌≡◌, ℕ, List}
use Rattle.mq_file.specs.Named.{Content, Outcomes, MayBe}

-- a crash leaves what it might have left before under each name, except under this one
abbrev pub OthersAreKept : List ℕ → Outcomes → Outcomes → Type 0
OthersAreKept name old new =
    (other : List ℕ) → ¬ other ≡ name → (left : Content) → MayBe left (new other) → MayBe left (old other)
