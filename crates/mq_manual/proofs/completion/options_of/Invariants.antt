use Rattle.std.proofs.Common.{◌≡◌, codes, string_bytes, take}
use Rattle.std.specs.List.{flat_map}
use Rattle.clap.specs.Words.{rule_of}
use Rattle.mq_manual.specs.Completion.{option_names}
use Rattle.mq_manual.proofs.completion.options_of.Given as goal

abbrev pub invariant-loop-arg : goal.invariant-loop-arg
invariant-loop-arg l = string_bytes l.names ≡ flat_map (λ a. option_names (codes " ") (rule_of a)) (take l.arg-index l.arg-items)
