-- The codes of the faults.
use Rattle.std.specs.Prelude.{ℕ, ◌++◌, List, codes, decimal}
use Rattle.mq_decode.specs.declared.fault.FaultKind.{FaultKind}
use Rattle.mq_decode.specs.declared.fault.FaultKind.TheVariants.{ForbiddenType, WrongFlags, ForbiddenQos, DupWithoutDelivery, LengthTooLong, LengthOverlong, OverLimit, WrongSize, PastEnd, NotUtf8, Nul, ProtocolName, ProtocolLevel, ForbiddenFlags, NotTopicName, NotTopicFilter, ZeroIdentifier, ForbiddenCode, EmptyList, BytesLeft}

-- their numbers: the header's, in the order of its bytes, and then the fields'
abbrev pub fault_number : FaultKind → ℕ
fault_number ForbiddenType = 1
fault_number WrongFlags = 2
fault_number ForbiddenQos = 3
fault_number DupWithoutDelivery = 4
fault_number LengthTooLong = 5
fault_number LengthOverlong = 6
fault_number OverLimit = 7
fault_number WrongSize = 8
fault_number PastEnd = 9
fault_number NotUtf8 = 10
fault_number Nul = 11
fault_number ProtocolName = 12
fault_number ProtocolLevel = 13
fault_number ForbiddenFlags = 14
fault_number NotTopicName = 15
fault_number NotTopicFilter = 16
fault_number ZeroIdentifier = 17
fault_number ForbiddenCode = 18
fault_number EmptyList = 19
fault_number BytesLeft = 20

-- `F1` to `F20`
abbrev pub fault_code : FaultKind → List ℕ
fault_code kind = codes "F" ++ decimal (fault_number kind)
