-- The laws of recorded events.
use Rattle.std.specs.Prelude.{◌≡◌, ◌≢◌, ℕ, true, List, [], ◌∷◌, ◌++◌, length, drop, Ok, Err}
use Rattle.mq_wire.specs.Bytes.{AreBytes}
use Rattle.mq_route.specs.declared.event.HubEvent.{HubEvent}
use Rattle.mq_record.specs.declared.fault.RecordFault.{RecordFault}
use Rattle.mq_record.specs.declared.fault.RecordFault.TheVariants.{Cut, Tag}
use Rattle.mq_record.specs.Encoding.{event_bytes, is_recorded}
use Rattle.mq_record.specs.Reading.{read_event, IsEntry, StopsAt}

-- The bytes begin with the encoding of this event, which has this size.
pub record IsFront (event : HubEvent) (size : ℕ) (bytes : List ℕ) : Type 0 where
  pub recorded : is_recorded event ≡ true
  pub parts : bytes ≡ event_bytes event ++ drop size bytes
  pub size_is : size ≡ length (event_bytes event)

-- The bytes are a proper prefix of the encoding of some event.
pub record IsCut (bytes : List ℕ) : Type 0 where
  pub event : HubEvent
  pub missing : List ℕ
  pub recorded : is_recorded event ≡ true
  pub some : missing ≢ []
  pub parts : event_bytes event ≡ bytes ++ missing

-- The bytes begin with a byte that is no tag.
pub record HasUnknownTag (tag : ℕ) (bytes : List ℕ) : Type 0 where
  pub behind : List ℕ
  pub parts : bytes ≡ tag ∷ behind
  pub opened : tag ≢ 1
  pub bytes_arrived : tag ≢ 2
  pub ended : tag ≢ 3
  pub tick : tag ≢ 4

pub record RecordLaws : Type 0 where
  -- An encoded event is read back, whatever follows it.
  pub again : (event : HubEvent) (rest : List ℕ) → is_recorded event ≡ true
      → read_event (event_bytes event ++ rest) ≡ Ok (event, length (event_bytes event))
  -- If an event is read, the bytes begin with its encoding.
  pub found : (bytes : List ℕ) (event : HubEvent) (size : ℕ) → AreBytes bytes
      → read_event bytes ≡ Ok (event, size) → IsFront event size bytes
  -- No encoding is that of another event, or begins with one.
  pub one : (event other : HubEvent) (rest more : List ℕ)
      → is_recorded event ≡ true → is_recorded other ≡ true
      → event_bytes event ++ rest ≡ event_bytes other ++ more
      → (event ≡ other) × (rest ≡ more)
  -- `Cut` is read exactly of a proper prefix of an encoding.
  pub cut_again : (bytes : List ℕ) → IsCut bytes → read_event bytes ≡ Err Cut
  pub cut_found : (bytes : List ℕ) → AreBytes bytes → read_event bytes ≡ Err Cut → IsCut bytes
  -- `Tag` is read exactly of an unknown tag.
  pub tag_again : (tag : ℕ) (bytes : List ℕ) → HasUnknownTag tag bytes
      → read_event bytes ≡ Err (Tag tag)
  pub tag_found : (tag : ℕ) (bytes : List ℕ) → read_event bytes ≡ Err (Tag tag)
      → HasUnknownTag tag bytes
  -- An entry has one list of events, and reading it never fails. Other bytes have one fault.
  pub one_entry : (events others : List HubEvent) (bytes : List ℕ)
      → IsEntry events bytes → IsEntry others bytes → events ≡ others
  pub no_fault : (events : List HubEvent) (fault : RecordFault) (bytes : List ℕ)
      → IsEntry events bytes → StopsAt fault bytes → ⊥
  pub one_fault : (fault other : RecordFault) (bytes : List ℕ)
      → StopsAt fault bytes → StopsAt other bytes → fault ≡ other
