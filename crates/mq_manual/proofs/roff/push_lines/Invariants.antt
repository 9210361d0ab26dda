use Rattle.std.proofs.Common.{◌≡◌, ◌++◌, string_bytes, map}
use Rattle.std.specs.List.{flat_map}
use Rattle.mq_manual.specs.Roff.{plain_line}
use Rattle.mq_manual.proofs.roff.push_lines.Given as goal

abbrev pub invariant-loop-line : goal.invariant-loop-line
invariant-loop-line l = string_bytes l.page ≡ string_bytes l.initial.page ++ flat_map plain_line (map (λ line. line.now) l.yielded)
