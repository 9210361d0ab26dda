-- The whole programs, over connections that are made for them. Only proofs cite these definitions.
use Rattle.std.specs.Prelude.{◌≡◌, ◌⊎◌, ℕ, List, Option}
use Rattle.mq_end.specs.Publishing.{ClientState}
use Rattle.mq_client.specs.declared.publisher.Publications.{Publications}
use Rattle.mq_client.specs.Course.{Moment}
use Rattle.mq_client.specs.Publishing.{IsResumeDone}
use Rattle.mq_client.specs.Programs.{HaltsBefore}

-- `publish` by this client, over its session, which is saved in place of these bytes
abbrev pub IsKeptDone : Option (List ℕ) → ClientState → Publications → ℕ → List ℕ → Type 0
IsKeptDone kept client publications status text =
    ((earlier : Moment) × (later : Moment) × (earlier.client ≡ client) × (earlier.kept ≡ kept) × IsResumeDone earlier later publications status text)
    ⊎ HaltsBefore status text
