use Rattle.std.proofs.Common.{◌≡◌, ◌++◌, take}
use Rattle.mq_format.specs.Layout.{hexadecimal_text}
use Rattle.mq_format.proofs.pad.put_hexadecimal.Given as goal

abbrev pub invariant-loop-byte : goal.invariant-loop-byte
invariant-loop-byte l =
    l.out.items ≡ l.initial.out.items ++ hexadecimal_text l.is_upper (take l.byte-index l.bytes)
