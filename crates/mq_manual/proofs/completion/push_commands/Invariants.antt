use Rattle.std.proofs.Common.{◌≡◌, ◌++◌, ℕ, List, drop, string_bytes, take}
use Rattle.mq_manual.specs.Completion.{AreCases, spaced_names}
use Rattle.mq_manual.proofs.completion.push_commands.Given as goal

abbrev pub invariant-loop-command : goal.invariant-loop-command
invariant-loop-command l = record {
  named : string_bytes l.names ≡ string_bytes l.initial.names ++ spaced_names (take l.command-index l.initial.command-items);
  listed : (text : List ℕ) × AreCases (take l.command-index l.initial.command-items) text × (string_bytes l.cases ≡ string_bytes l.initial.cases ++ text);
  left : drop l.command-index l.command-items ≡ drop l.command-index l.initial.command-items;
}
