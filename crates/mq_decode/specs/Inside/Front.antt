-- Reading the front of a buffer: a packet, an incomplete packet, or the first fault.
use Rattle.std.specs.Prelude.{ℕ, ◌+◌, ◌-◌, List, [], ◌∷◌, length, take, drop, Option, Some, None, Result, Ok, Err, nat_lt, if◌then◌else◌}
use Rattle.mq_wire.specs.declared.length_reading.LengthReading.{LengthReading}
use Rattle.mq_wire.specs.declared.length_reading.LengthReading.TheVariants.{Whole, Unfinished, TooLong, Overlong}
use Rattle.mq_wire.specs.Reading.{read_length}
use Rattle.mq_packet.specs.declared.packet.Packet.{Packet}
use Rattle.mq_decode.specs.declared.fault.FaultKind.{FaultKind}
use Rattle.mq_decode.specs.declared.fault.FaultKind.TheVariants.{LengthTooLong, LengthOverlong}
use Rattle.mq_decode.specs.declared.fault.DecodeFault.{DecodeFault}
use Rattle.mq_decode.specs.declared.fault.BadField.{BadField}
use Rattle.mq_decode.specs.declared.header.Header.{Header}
use Rattle.mq_decode.specs.declared.kind.Kind.{Kind}
use Rattle.mq_decode.specs.Kind.{kind_at, size_fault}
use Rattle.mq_decode.specs.Limits.{Bounds}
use Rattle.mq_decode.specs.Bodies.{body_at}

abbrev pub fault_at : FaultKind → ℕ → DecodeFault
fault_at kind place = record { kind = kind; place = place }

-- the header, once the size is known
abbrev pub sized : Option FaultKind → Kind → ℕ → ℕ → Result (Option Header) DecodeFault
sized None kind len size = Ok (Some (record { kind = kind; start = 1 + len; size = size }))
sized (Some fault) kind len size = Err (fault_at fault 1)

abbrev pub header_of : Bounds → Kind → LengthReading → Result (Option Header) DecodeFault
header_of limits kind (Whole size len) = sized (size_fault limits.most kind size) kind len size
header_of limits kind Unfinished = Ok None
header_of limits kind TooLong = Err (fault_at LengthTooLong 4)
header_of limits kind (Overlong len) = Err (fault_at LengthOverlong len)

abbrev pub header_after : Bounds → Result Kind FaultKind → List ℕ → Result (Option Header) DecodeFault
header_after limits (Err fault) rest = Err (fault_at fault 0)
header_after limits (Ok kind) rest = header_of limits kind (read_length limits.lenient rest)

-- the first byte and the remaining length
unfoldable pub header_at : Bounds → List ℕ → Result (Option Header) DecodeFault
header_at limits [] = Ok None
header_at limits (first ∷ rest) = header_after limits (kind_at first) rest

-- how many bytes the packet takes, as the header says
abbrev pub len_told : Result (Option Header) DecodeFault → Option ℕ
len_told (Ok (Some header)) = Some (header.start + header.size)
len_told (Ok None) = None
len_told (Err fault) = None

-- The end of the packet as its header states it, or the fault of the header.
abbrev pub end_told : Result (Option Header) DecodeFault → Result (Option ℕ) DecodeFault
end_told (Ok (Some header)) = Ok (Some (header.start + header.size))
end_told (Ok None) = Ok None
end_told (Err fault) = Err fault

-- The packet and its end, or the place of its first invalid field.
abbrev pub packet_or_fault : ℕ → Result Packet BadField → Result (Option (Packet × ℕ)) DecodeFault
packet_or_fault end (Ok packet) = Ok (Some (packet, end))
packet_or_fault end (Err bad) = Err (fault_at bad.kind (end - bad.left))

abbrev pub front_after : Result (Option Header) DecodeFault → List ℕ → Result (Option (Packet × ℕ)) DecodeFault
front_after (Err fault) bytes = Err fault
front_after (Ok None) bytes = Ok None
front_after (Ok (Some header)) bytes =
    if nat_lt (length bytes) (header.start + header.size) then Ok None else
    packet_or_fault (header.start + header.size) (body_at header.kind (take header.size (drop header.start bytes)))

-- The packet at the front with its size, nothing if it is incomplete, or its first fault.
unfoldable pub front_at : Bounds → List ℕ → Result (Option (Packet × ℕ)) DecodeFault
front_at limits bytes = front_after (header_at limits bytes) bytes
