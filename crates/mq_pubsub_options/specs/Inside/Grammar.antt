-- The command lines of `mqtt pub` and `mqtt sub`: their options. Only proofs cite these
-- definitions.
use Rattle.std.specs.Prelude.{option_map}
use Rattle.clap.specs.Words.{Rule, Text}
use Rattle.clap.specs.declared.builder.action.ArgAction.TheVariants.{Help}
use Rattle.mq_pubsub_options.specs.declared.grammar.Kind.{Kind}
use Rattle.mq_pubsub_options.specs.declared.grammar.Kind.TheVariants as kinds
use Rattle.mq_pubsub_options.specs.declared.grammar.Row.{Row}
use Rattle.mq_pubsub_options.specs.Grammar.{named_rule, help_rule, text_rule, renamed_rule, texts_rule, number_rule, flag_rule}

abbrev pub named_rule_of : Row → Rule
named_rule_of row = named_rule row.id.now row.short (option_map (λ name. name.now) row.long)

abbrev pub rule_with : Kind → Rule → Rule
rule_with kinds.Help rule = help_rule rule
rule_with kinds.Text rule = text_rule rule
rule_with (kinds.Renamed other) rule = renamed_rule other.now rule
rule_with kinds.Texts rule = texts_rule rule
rule_with (kinds.Number least most) rule = number_rule least most rule
rule_with kinds.Flag rule = flag_rule rule

abbrev pub rule_of_row : Row → Rule
rule_of_row row = rule_with row.kind (named_rule_of row)
