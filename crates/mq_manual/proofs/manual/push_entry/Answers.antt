use Rattle.std.proofs.Common.{◌++◌, ◌∙◌, ap, string_bytes}
use Rattle.clap.specs.Words.{Text}
use Rattle.mq_manual.specs.Roff.{plain_line}
use Rattle.mq_manual.proofs.Pages.{one_entry}
use Rattle.mq_manual.proofs.manual.push_entry.Goals as goal

pub returns : goal.returns
returns c =
    let third = string_bytes c.push_names.new.page in
    let fourth = string_bytes c.push_str-2.new.self in
    one_entry c.args.arg.now (string_bytes c.args.page.now) (string_bytes c.push_str.new.self) third (string_bytes c.push_italic.new.page) fourth (string_bytes c.push_line.new.page) c.as_str.result.now c.in_ok-push_str.ensures.bytes
    c.in_ok-push_names.ensures c.in_ok-push_italic.ensures c.in_ok-push_str-2.ensures.bytes (c.in_ok-push_line.ensures ∙ ap (λ (t : Text). fourth ++ plain_line t) c.help_of.ensures)
