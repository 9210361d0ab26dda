use Rattle.std.proofs.Common.{◌≡◌, ◌++◌, ℕ, List, drop, string_bytes, take}
use Rattle.mq_manual.specs.Manual.{AreSections}
use Rattle.mq_manual.proofs.manual.push_commands.Given as goal

abbrev pub invariant-loop-command : goal.invariant-loop-command
invariant-loop-command l = record {
  listed : (text : List ℕ) × AreSections (take l.command-index l.initial.command-items) text × (string_bytes l.page ≡ string_bytes l.initial.page ++ text);
  left : drop l.command-index l.command-items ≡ drop l.command-index l.initial.command-items;
}
