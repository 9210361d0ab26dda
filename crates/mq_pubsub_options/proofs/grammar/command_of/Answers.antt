use Rattle.std.proofs.Common.{◌≡◌, ◌∙◌, IfOk, ap, subst, map, refl, rules}
use Rattle.clap.specs.Words.{App, app_of}
use Rattle.mq_pubsub_options.specs.Grammar.{bare_app, common_rules, with_rules}
use Rattle.mq_pubsub_options.specs.Inside.Grammar.{rule_of_row}
use Rattle.mq_pubsub_options.proofs.grammar.command_of.Goals as goal

pub returns : goal.returns
unfolding common_rules
returns c =
    let bare : app_of c.args_override_self-command.result ≡ bare_app c.args.name.now = search rules in
    let common : app_of c.in_ok-with_rows.field-0 ≡ with_rules (bare_app c.args.name.now) common_rules =
    c.in_ok-with_rows.ensures ∙ ap (λ (a : App). with_rules a common_rules) bare in
    subst (λ (a : App). IfOk c.with_rows-2.result (λ command. app_of command ≡ with_rules a (map rule_of_row c.args.rows.now))) common c.with_rows-2.ensures
