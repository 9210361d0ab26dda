-- The results of the exported functions.
use Rattle.std.specs.Prelude.{◌≡◌, ℕ, Bool, true, false, List, ℤ, pos, negsuc, Result}
use Rattle.mq_decode.specs.Fault.{fault_number}
use Rattle.mq_decode.specs.Limits.{Bounds, strict, loose}
use Rattle.mq_bytes.specs.declared.places.Front.{Front}
use Rattle.mq_bytes.specs.declared.places.Front.TheVariants as fronts
use Rattle.mq_bytes.specs.declared.places.PacketFields.{PacketFields}
use Rattle.mq_bytes.specs.declared.fault.EncodeFault.{EncodeFault}
use Rattle.mq_bytes.specs.Places.{IsLocated}
use Rattle.mq_ffi.specs.declared.exports.Fault.{Fault}
use Rattle.mq_ffi.specs.Codes.{encode_code}

-- A bound on the remaining length, and whether a length may have more bytes than it needs.
abbrev pub bounds : ℕ → Bool → Bounds
bounds most false = strict most
bounds most true = loose most

-- The numbers of the front of a buffer: 0 and the fields of the packet, 1 if it is incomplete, or
-- -9 and the fault.
abbrev pub ReportsFront : Front → PacketFields → Fault → ℤ → Type 0
ReportsFront (fronts.Whole found) fields fault code = (code ≡ pos 0) × (fields ≡ found)
ReportsFront fronts.More fields fault code = code ≡ pos 1
ReportsFront (fronts.Fault found) fields fault code =
    (code ≡ negsuc 8) × (fault.kind ≡ fault_number found.kind) × (fault.place ≡ found.place)

-- The front of the buffer under a valid bound is reported.
abbrev pub ReportsPacket : ℕ → Bool → List ℕ → PacketFields → Fault → ℤ → Type 0
ReportsPacket most lenient buffer fields fault code =
    (front : Front) × IsLocated (bounds most lenient) buffer front × ReportsFront front fields fault code

-- The code of a result that this relation allows.
abbrev pub CodesOf : (Result ℕ EncodeFault → Type 0) → ℤ → Type 0
CodesOf Allows code = (result : Result ℕ EncodeFault) × Allows result × (code ≡ encode_code result)
