-- Reading the event at the front of bytes, and reading a whole entry.
use Rattle.std.specs.Prelude.{◌≡◌, ◌≢◌, ℕ, ◌+◌, ◌*◌, nat_le, ◌==◌, if◌then◌else◌, true, List, [], ◌∷◌, ◌++◌, take, drop, length, Result, Ok, Err, IsOk}
use Rattle.std.specs.List.{AllByRecursion}
use Rattle.mq_wire.specs.Number.{number_in}
use Rattle.mq_route.specs.declared.conn.Conn.{Conn}
use Rattle.mq_route.specs.declared.event.HubEvent.{HubEvent}
use Rattle.mq_route.specs.declared.event.HubEvent.TheVariants.{Opened, Bytes, Ended, Tick}
use Rattle.mq_record.specs.declared.fault.RecordFault.{RecordFault}
use Rattle.mq_record.specs.declared.fault.RecordFault.TheVariants.{Cut, Tag, Memory}
use Rattle.mq_record.specs.Encoding.{entry_bytes, is_recorded}

-- the number in the four bytes from an index, and in the eight
abbrev pub four_in : List ℕ → ℕ → ℕ
four_in bytes at = 65536 * number_in bytes at + number_in bytes (at + 2)

abbrev pub eight_in : List ℕ → ℕ → ℕ
eight_in bytes at = 4294967296 * four_in bytes at + four_in bytes (at + 4)

-- the connection whose name these bytes begin with, and the piece behind it
abbrev pub conn_in : List ℕ → Conn
conn_in bytes = record { worker = number_in bytes 0; nth = four_in bytes 2 }

abbrev pub piece_in : List ℕ → List ℕ
piece_in bytes = take (four_in bytes 6) (drop 10 bytes)

-- `Cut` if fewer than `count` bytes follow the tag, else the event and its size with the tag
abbrev pub if_whole : List ℕ → ℕ → HubEvent → Result (HubEvent × ℕ) RecordFault
if_whole bytes count event = if nat_le count (length bytes) then Ok (event, count + 1) else Err Cut

-- the event with this tag and these bytes behind it
abbrev pub read_tagged : ℕ → List ℕ → Result (HubEvent × ℕ) RecordFault
read_tagged tag bytes =
    if tag == 1 then if_whole bytes 6 (Opened (conn_in bytes)) else
    (if tag == 2 then if_whole bytes (10 + four_in bytes 6) (Bytes (conn_in bytes) (piece_in bytes)) else
    (if tag == 3 then if_whole bytes 6 (Ended (conn_in bytes)) else
    (if tag == 4 then if_whole bytes 8 (Tick (eight_in bytes 0)) else Err (Tag tag))))

-- the event at the front of the bytes, with its size
abbrev pub read_event : List ℕ → Result (HubEvent × ℕ) RecordFault
read_event [] = Err Cut
read_event (tag ∷ bytes) = read_tagged tag bytes

-- A call's result is this one, or `Memory` in place of an event.
abbrev pub Reads : {T : Type 0} → Result T RecordFault → Result T RecordFault → Type 0
Reads (Ok found) expected = expected ≡ Ok found
Reads (Err Cut) expected = expected ≡ Err Cut
Reads (Err (Tag tag)) expected = expected ≡ Err (Tag tag)
Reads (Err Memory) expected = IsOk expected

-- each of the events is recorded
abbrev pub AreRecorded : List HubEvent → Type 0
AreRecorded events = AllByRecursion (λ event. is_recorded event ≡ true) events

-- the bytes are the encodings of these events
pub record IsEntry (events : List HubEvent) (bytes : List ℕ) : Type 0 where
  pub recorded : AreRecorded events
  pub parts : bytes ≡ entry_bytes events

-- More bytes follow the encodings of some events, and reading them fails with this fault.
pub record StopsAt (fault : RecordFault) (bytes : List ℕ) : Type 0 where
  pub events : List HubEvent
  pub rest : List ℕ
  pub recorded : AreRecorded events
  pub parts : bytes ≡ entry_bytes events ++ rest
  pub more : rest ≢ []
  pub fault_is : read_event rest ≡ Err fault

-- reading an entry fails with this fault, unless memory ran out
abbrev pub Fails : RecordFault → List ℕ → Type 0
Fails Cut bytes = StopsAt Cut bytes
Fails (Tag tag) bytes = StopsAt (Tag tag) bytes
Fails Memory bytes = Unit {0}
