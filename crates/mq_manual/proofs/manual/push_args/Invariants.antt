use Rattle.std.proofs.Common.{◌≡◌, ◌++◌, ℕ, List, string_bytes, take}
use Rattle.std.specs.Prelude.{filter}
use Rattle.mq_manual.specs.Manual.{AreEntries, is_listed}
use Rattle.mq_manual.proofs.manual.push_args.Given as goal

abbrev pub invariant-loop-arg : goal.invariant-loop-arg
invariant-loop-arg l = (text : List ℕ) × AreEntries (filter (is_listed l.without_names) (take l.arg-index l.arg-items)) text × (string_bytes l.page ≡ string_bytes l.initial.page ++ text)
