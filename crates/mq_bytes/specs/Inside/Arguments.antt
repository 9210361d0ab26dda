-- Values and packets with the fields that a caller gives (chapter 3). Only proofs cite these
-- definitions.
use Rattle.std.specs.Prelude.{◌≡◌, ℕ, Bool, false}
use Rattle.mq_topic.specs.declared.qos.Qos.{Qos}
use Rattle.mq_topic.specs.declared.qos.Qos.TheVariants.{Q0, Q1, Q2}
use Rattle.mq_packet.specs.Identifier.{IsIdentifier}

-- With this quality of service a PUBLISH can have this DUP and identifier (2.3.1, 3.3.1.1).
abbrev pub MayDeliver : Qos → Bool → ℕ → Type 0
MayDeliver Q0 dup id = (dup ≡ false) × (id ≡ 0)
MayDeliver Q1 dup id = IsIdentifier id
MayDeliver Q2 dup id = IsIdentifier id
