-- The messages that the source of `mqtt pub` gives. Only proofs cite these definitions.
use Rattle.std.specs.Prelude.{◌≡◌, ⊤, ℕ, List, [], ◌∷◌, ◌++◌}
use Rattle.mq_pubsub_programs.specs.declared.feed.Supply.{Supply}
use Rattle.mq_pubsub_programs.specs.declared.feed.Supply.TheVariants as supplies
use Rattle.mq_pubsub_programs.specs.declared.known.Known.{Known}
use Rattle.mq_pubsub_programs.specs.declared.supply.InputLine.{InputLine}
use Rattle.mq_pubsub_programs.specs.declared.supply.InputLine.TheVariants as lines
use Rattle.mq_pubsub_programs.specs.declared.supply.InputLines.{InputLines}
use Rattle.mq_pubsub_programs.specs.Feeding.{coming_payloads, IsRead, IsUsedUp}

-- the payload of an answer
abbrev pub payloads_in : InputLine → List (List ℕ)
payloads_in (lines.Line payload) = payload ∷ []
payloads_in lines.Later = []
payloads_in lines.End = []

-- an answer, which is the end only if no payload is left
abbrev pub EndsSupply : Supply → InputLine → Type 0
EndsSupply supply (lines.Line payload) = ⊤
EndsSupply supply lines.Later = ⊤
EndsSupply supply lines.End = IsUsedUp supply

-- the same for standard input
abbrev pub EndsInput : InputLines → InputLine → Type 0
EndsInput input (lines.Line payload) = ⊤
EndsInput input lines.Later = ⊤
EndsInput input lines.End = IsRead input

-- An answer of a supply. The payloads of standard input are not known.
abbrev pub Supplies : Supply → Supply → InputLine → Type 0
Supplies (supplies.Known old) (supplies.Known new) line = coming_payloads old ≡ payloads_in line ++ coming_payloads new
Supplies (supplies.Known old) (supplies.Lines new) line = ⊥
Supplies (supplies.Lines old) (supplies.Known new) line = ⊥
Supplies (supplies.Lines old) (supplies.Lines new) line = ⊤
