-- The effect of a run of `mqtt pub` whose exit status is 0. Only proofs cite these definitions.
use Rattle.std.specs.Prelude.{◌≡◌, ℕ, true, List}
use Rattle.mq_pubsub_options.specs.declared.publishing.PublishWords.{PublishWords}
use Rattle.mq_pubsub_programs.specs.declared.feed.Supply.{Supply}
use Rattle.mq_pubsub_programs.specs.declared.feed.Supply.TheVariants as supplies
use Rattle.mq_pubsub_programs.specs.Feeding.{coming_payloads, rounds_of}
use Rattle.mq_pubsub_programs.specs.Delivering.{AreWanted, is_lines}

-- a supply of the payloads of the arguments
abbrev pub IsSupply : PublishWords → Supply → Type 0
IsSupply words (supplies.Known known) =
    (wanted : List (List ℕ)) × AreWanted words.payloads wanted × (coming_payloads known ≡ rounds_of wanted words.repeat)
IsSupply words (supplies.Lines input) = is_lines words.payloads ≡ true
