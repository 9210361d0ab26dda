-- The files of a folder, by name, and a folder that continues in another journal. Only proofs cite
-- these definitions.
use Rattle.std.specs.Prelude.{ℕ, ◌+◌, List, ◌++◌, codes}

abbrev pub next_path : List ℕ → List ℕ
next_path path = path ++ codes "/snapshot.next"
