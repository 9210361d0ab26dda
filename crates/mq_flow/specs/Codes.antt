-- The codes by which refusals of a sender and of the saved form are printed.
use Rattle.std.specs.Prelude.{ℕ, List, codes}
use Rattle.mq_flow.specs.declared.load.LoadError.{LoadError}
use Rattle.mq_flow.specs.declared.load.LoadError.TheVariants as loads
use Rattle.mq_flow.specs.declared.reaction.Refusal.{Refusal}
use Rattle.mq_flow.specs.declared.reaction.Refusal.TheVariants as refusals

abbrev pub sender_code : Refusal → List ℕ
sender_code refusals.Full = codes "S1"
sender_code refusals.Memory = codes "S2"

abbrev pub load_code : LoadError → List ℕ
load_code loads.Version = codes "L1"
load_code (loads.Malformed place) = codes "L2"
load_code loads.Memory = codes "L3"
load_code loads.AnotherClient = codes "L4"
load_code loads.TooLarge = codes "L5"
