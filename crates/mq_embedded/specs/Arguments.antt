-- The arguments of a caller.
use Rattle.std.specs.Prelude.{◌≡◌, ◌⊎◌, ℕ, ◌<◌, ◌^◌, Bool, true, false, List, [], ◌∷◌, length}
use Rattle.mq_wire.specs.Text.{IsText}
use Rattle.mq_topic.specs.Qos.{qos_number}
use Rattle.mq_topic.specs.Topic.{IsTopicFilter, IsTopicName}
use Rattle.mq_packet.specs.declared.packet.Request.{Request}
use Rattle.mq_embedded.specs.declared.fault.CallFault.{CallFault}
use Rattle.mq_embedded.specs.declared.fault.CallFault.TheVariants as faults

-- Why arguments are refused: an allocation failed, or they are not valid.
abbrev pub IsArgumentFault : Type 0 → CallFault → Type 0
IsArgumentFault Valid why = (why ≡ faults.Memory) ⊎ ((why ≡ faults.Argument) × (Valid → ⊥))

-- The parts of a message (3.3).
pub record AreMessageParts (topic payload : List ℕ) (qos : ℕ) : Type 0 where
  pub name : IsTopicName topic
  pub short : length payload < 2 ^ 28
  pub level : qos < 3

-- The parts of a will (3.1.3.2, 3.1.3.3).
pub record AreWillParts (topic payload : List ℕ) (qos : ℕ) : Type 0 where
  pub name : IsTopicName topic
  pub short : length payload < 65536
  pub level : qos < 3

-- A password (3.1.3.5), if there is one.
abbrev pub IsPasswordPart : Bool → List ℕ → Type 0
IsPasswordPart false password = Unit {0}
IsPasswordPart true password = length password < 65536

-- The parts of a login (3.1.3.4, 3.1.3.5). There is no password alone (3.1.2.9).
abbrev pub AreLoginParts : Bool → List ℕ → Bool → List ℕ → Type 0
AreLoginParts false name has_password password = has_password ≡ false
AreLoginParts true name has_password password = IsText name × IsPasswordPart has_password password

-- The parts of a subscription (3.8).
pub record AreRequestParts (filter : List ℕ) (qos : ℕ) : Type 0 where
  pub valid : IsTopicFilter filter
  pub level : qos < 3

-- A list of one request, for this filter (3.8).
abbrev pub IsRequestOf : List ℕ → ℕ → List Request → Type 0
IsRequestOf filter qos [] = ⊥
IsRequestOf filter qos (request ∷ []) = (request.filter ≡ filter) × (qos_number request.qos ≡ qos)
IsRequestOf filter qos (request ∷ second ∷ rest) = ⊥
