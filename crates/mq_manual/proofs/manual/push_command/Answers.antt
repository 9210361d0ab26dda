use Rattle.std.proofs.Common.{◌++◌, ◌∙◌, ap, string_bytes}
use Rattle.clap.specs.Words.{Text}
use Rattle.mq_manual.specs.Roff.{plain_line}
use Rattle.mq_manual.proofs.Pages.{one_section}
use Rattle.mq_manual.proofs.manual.push_command.Goals as goal

pub returns : goal.returns
returns c =
    let first = string_bytes c.push_request.new.page in
    one_section c.args.command.now c.usage_of.new.command (string_bytes c.args.page.now) first (string_bytes c.push_line.new.page) (string_bytes c.push_args.new.page) (string_bytes c.push_args-2.new.page) (string_bytes c.push_end.new.page)
    c.as_str.result.now c.in_ok-usage.ensures c.in_ok-push_request.ensures (c.in_ok-push_line.ensures ∙ ap (λ (t : Text). first ++ plain_line t) c.about_of.ensures) c.in_ok-push_args.ensures c.in_ok-push_args-2.ensures c.in_ok-push_end.ensures
