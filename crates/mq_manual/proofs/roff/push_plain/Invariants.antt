use Rattle.std.proofs.Common.{◌≡◌, ◌++◌, string_bytes}
use Rattle.std.specs.List.{flat_map}
use Rattle.mq_manual.specs.Roff.{plain_char}
use Rattle.mq_manual.proofs.roff.push_plain.Given as goal

abbrev pub invariant-loop-character : goal.invariant-loop-character
invariant-loop-character l = string_bytes l.page ≡ string_bytes l.initial.page ++ flat_map plain_char l.yielded
