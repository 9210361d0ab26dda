use Rattle.std.proofs.Common.{◌++◌, ◌∙◌, ap, string_bytes}
use Rattle.clap.specs.Words.{Text}
use Rattle.mq_manual.specs.Completion.{help_line}
use Rattle.mq_manual.proofs.Cases.{whole_text}
use Rattle.mq_manual.proofs.completion.script_of.Goals as goal

pub returns : goal.returns
returns c =
    let helped = c.in_ok-push_help_line.ensures ∙ ap (λ (t : Text). string_bytes c.push_first_line.new.script ++ help_line t) c.trim_start.ensures.trim in
    whole_text c.args.names.now c.args.options.now c.args.cases.now (string_bytes c.in_ok-script.script) (string_bytes c.push_first_line.new.script) (string_bytes c.push_help_line.new.script)
    (string_bytes c.push_str.new.self) (string_bytes c.push_str-2.new.self) (string_bytes c.push_str-3.new.self) c.in_ok-script.ensures.ok c.in_ok-push_first_line.ensures helped
    c.in_ok-push_str.ensures.bytes c.in_ok-push_str-2.ensures.bytes c.in_ok-push_str-3.ensures.bytes
