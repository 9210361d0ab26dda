use Rattle.std.proofs.Common.{◌≡◌, ◌+◌, drop, map}
use Rattle.mq_status.specs.Passwords.{lines_give}
use Rattle.mq_status.proofs.Joined.{behind}
use Rattle.mq_status.proofs.passwords.read_lines.Given as goal

abbrev pub invariant-loop-index : goal.invariant-loop-index
invariant-loop-index l =
    lines_give 1 (map (λ x. x.now) l.lines) ≡ behind l.entries.items (lines_give (l.index + 1) (drop l.index (map (λ x. x.now) l.lines)))
