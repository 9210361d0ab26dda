-- The meaning of the first byte (2.2.1, 2.2.2), and the types with a fixed remaining length.
use Rattle.std.specs.Prelude.{ℕ, ◌/◌, ◌%◌, Bool, true, false, Option, Some, None, Result, Ok, Err, ◌==◌, nat_lt, if◌then◌else◌}
use Rattle.mq_topic.specs.declared.qos.Qos.{Qos}
use Rattle.mq_topic.specs.declared.qos.Qos.TheVariants.{Q0, Q1, Q2}
use Rattle.mq_topic.specs.Qos.{qos_from}
use Rattle.mq_decode.specs.declared.fault.FaultKind.{FaultKind}
use Rattle.mq_decode.specs.declared.fault.FaultKind.TheVariants.{ForbiddenType, WrongFlags, ForbiddenQos, DupWithoutDelivery, OverLimit, WrongSize}
use Rattle.mq_decode.specs.declared.kind.Kind.{Kind}
use Rattle.mq_decode.specs.declared.kind.Kind.TheVariants.{Connect, ConnAck, Publish, PubAck, PubRec, PubRel, PubComp, Subscribe, SubAck, Unsubscribe, UnsubAck, PingReq, PingResp, Disconnect}

-- DUP is only for a packet that has a delivery (3.3.1.1)
abbrev pub dup_fits : Bool → Qos → Bool
dup_fits false qos = true
dup_fits true Q0 = false
dup_fits true Q1 = true
dup_fits true Q2 = true

abbrev pub publish_of : Bool → Option Qos → Bool → Result Kind FaultKind
publish_of dup None retain = Err ForbiddenQos
publish_of dup (Some qos) retain = if dup_fits dup qos then Ok (Publish (record { dup = dup; qos = qos; retain = retain })) else Err DupWithoutDelivery

-- the low four bits of a PUBLISH (3.3.1): DUP, two bits of quality of service, RETAIN
abbrev pub publish_kind : ℕ → Result Kind FaultKind
publish_kind low = publish_of (low / 8 == 1) (qos_from (low / 2 % 4)) (low % 2 == 1)

-- a type whose low four bits are fixed (2.2.2)
abbrev pub with_flags : ℕ → ℕ → Kind → Result Kind FaultKind
with_flags flags low kind = if low == flags then Ok kind else Err WrongFlags

-- the type in the upper four bits, with the low ones
abbrev pub type_and_flags : ℕ → ℕ → Result Kind FaultKind
type_and_flags upper low =
    if upper == 1 then with_flags 0 low Connect else
    (if upper == 2 then with_flags 0 low ConnAck else
    (if upper == 3 then publish_kind low else
    (if upper == 4 then with_flags 0 low PubAck else
    (if upper == 5 then with_flags 0 low PubRec else
    (if upper == 6 then with_flags 2 low PubRel else
    (if upper == 7 then with_flags 0 low PubComp else
    (if upper == 8 then with_flags 2 low Subscribe else
    (if upper == 9 then with_flags 0 low SubAck else
    (if upper == 10 then with_flags 2 low Unsubscribe else
    (if upper == 11 then with_flags 0 low UnsubAck else
    (if upper == 12 then with_flags 0 low PingReq else
    (if upper == 13 then with_flags 0 low PingResp else
    (if upper == 14 then with_flags 0 low Disconnect else Err ForbiddenType)))))))))))))

abbrev pub kind_at : ℕ → Result Kind FaultKind
kind_at first = type_and_flags (first / 16) (first % 16)

-- the remaining length of the types that have a fixed one
abbrev pub fixed_size : Kind → Option ℕ
fixed_size Connect = None
fixed_size ConnAck = Some 2
fixed_size (Publish flags) = None
fixed_size PubAck = Some 2
fixed_size PubRec = Some 2
fixed_size PubRel = Some 2
fixed_size PubComp = Some 2
fixed_size Subscribe = None
fixed_size SubAck = None
fixed_size Unsubscribe = None
fixed_size UnsubAck = Some 2
fixed_size PingReq = Some 0
fixed_size PingResp = Some 0
fixed_size Disconnect = Some 0

-- a remaining length over the limit, or other than the fixed one
abbrev pub wrong_size : Option ℕ → ℕ → Option FaultKind
wrong_size None actual = None
wrong_size (Some size) actual = if actual == size then None else Some WrongSize

abbrev pub size_fault : ℕ → Kind → ℕ → Option FaultKind
size_fault most kind size = if nat_lt most size then Some OverLimit else wrong_size (fixed_size kind) size
