-- The numbers that the functions return. Only proofs cite these definitions.
use Rattle.std.specs.Prelude.{Bool, true, false, Result, Ok, Err, ℤ, pos}
use Rattle.mq_bytes.specs.declared.fault.CheckFault.{CheckFault}
use Rattle.mq_ffi.specs.Codes.{fault_code}

abbrev pub check_code : Result (Unit {0}) CheckFault → ℤ
check_code (Ok done) = pos 0
check_code (Err fault) = fault_code fault

abbrev pub match_code : Result Bool CheckFault → ℤ
match_code (Ok false) = pos 0
match_code (Ok true) = pos 1
match_code (Err fault) = fault_code fault
