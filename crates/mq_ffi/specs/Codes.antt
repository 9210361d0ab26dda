-- The numbers that the functions return.
use Rattle.std.specs.Prelude.{ℕ, ◌+◌, Option, None, Some, Result, Ok, Err, ℤ, pos, negsuc}
use Rattle.mq_bytes.specs.declared.fault.CheckFault.{CheckFault}
use Rattle.mq_bytes.specs.declared.fault.CheckFault.TheVariants as checks
use Rattle.mq_bytes.specs.declared.fault.EncodeFault.{EncodeFault}
use Rattle.mq_bytes.specs.declared.fault.EncodeFault.TheVariants as encodes
use Rattle.mq_packet.specs.Codes.{refusal_number}
use Rattle.mq_end.specs.declared.reason.CloseReason.{CloseReason}
use Rattle.mq_end.specs.declared.reason.CloseReason.TheVariants as reasons
use Rattle.mq_embedded.specs.declared.fault.CallFault.{CallFault}
use Rattle.mq_embedded.specs.declared.fault.CallFault.TheVariants as calls

-- The code of a failed check; `negsuc n` is the number below -n.
abbrev pub fault_code : CheckFault → ℤ
fault_code checks.Memory = negsuc 0
fault_code checks.Text = negsuc 4
fault_code checks.Name = negsuc 5
fault_code checks.Filter = negsuc 6
fault_code checks.Session = negsuc 7

abbrev pub encode_code : Result ℕ EncodeFault → ℤ
encode_code (Ok size) = pos size
encode_code (Err encodes.Argument) = negsuc 1
encode_code (Err encodes.Room) = negsuc 2
encode_code (Err encodes.TooLarge) = negsuc 3

-- The code of a refused call of a client.
abbrev pub call_fault_code : CallFault → ℤ
call_fault_code calls.Memory = negsuc 0
call_fault_code calls.Argument = negsuc 1
call_fault_code calls.Room = negsuc 2
call_fault_code calls.TooLarge = negsuc 3
call_fault_code calls.Session = negsuc 7
call_fault_code calls.NotConnected = negsuc 9
call_fault_code calls.Full = negsuc 10
call_fault_code calls.Events = negsuc 11
call_fault_code calls.AnotherClient = negsuc 12

abbrev pub call_code : Result (Unit {0}) CallFault → ℤ
call_code (Ok done) = pos 0
call_code (Err fault) = call_fault_code fault

-- The code of a packet identifier or a number of bytes.
abbrev pub count_code : Result ℕ CallFault → ℤ
count_code (Ok count) = pos count
count_code (Err fault) = call_fault_code fault

-- The number of the reason why an end closed.
abbrev pub reason_number : CloseReason → ℕ
reason_number (reasons.Fault fault) = 1
reason_number reasons.Unexpected = 2
reason_number reasons.SessionLost = 4
reason_number reasons.KeepAlive = 5
reason_number reasons.Memory = 6
reason_number reasons.Left = 7
reason_number reasons.Window = 11
reason_number (reasons.Refused code) = 30 + refusal_number code

abbrev pub closed_code : Result (Option CloseReason) CallFault → ℤ
closed_code (Ok None) = pos 0
closed_code (Ok (Some reason)) = pos (reason_number reason)
closed_code (Err fault) = call_fault_code fault
