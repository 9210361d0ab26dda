use Rattle.std.proofs.Common.{◌++◌, ◌∙◌, ap, string_bytes}
use Rattle.clap.specs.Words.{App, Text, shape_of}
use Rattle.mq_manual.specs.Completion.{spaced_names}
use Rattle.mq_manual.proofs.Cases.{is_script}
use Rattle.mq_manual.proofs.completion.completion_script.Goals as goal

pub returns : goal.returns
returns c =
    let commands = c.args.commands.now in
    let named = c.as_str.ensures.value ∙ c.in_ok-push_commands.ensures.names ∙ ap (λ (t : Text). t ++ spaced_names commands) c.new-names.ensures.bytes in
    let cases = c.in_ok-push_commands.ensures.cases in
    let cased = c.as_str-3.ensures.value ∙ cases.2 ∙ ap (λ (t : Text). t ++ cases.0) c.new-cases.ensures.bytes in
    let own = c.as_str-2.ensures.value ∙ c.in_ok-options.ensures in
    is_script c.args.program.now commands (shape_of c.build.new.self) c.as_str.result.now c.as_str-2.result.now c.as_str-3.result.now cases.0 (string_bytes c.in_ok-script.script)
    (λ plain. ap (λ (a : App). a.top) (c.in_ok-build.ensures.shape plain)) named own cases.1 cased c.in_ok-script.ensures
