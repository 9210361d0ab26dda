use Rattle.std.proofs.Common.{string_bytes}
use Rattle.mq_manual.proofs.Pages.{is_page}
use Rattle.mq_manual.proofs.manual.manual_page.Goals as goal

pub returns : goal.returns
returns c =
    is_page c.args.program.now c.usage_of.new.command c.args.commands.now (string_bytes c.in_ok-page.page) (string_bytes c.push_title.new.page) (string_bytes c.push_str.new.self) (string_bytes c.push_args.new.page)
    (string_bytes c.push_str-2.new.self) (string_bytes c.push_commands.new.page) (string_bytes c.push_str-3.new.self) (string_bytes c.push_end.new.page) c.in_ok-usage.ensures c.in_ok-push_title.ensures c.in_ok-push_str.ensures.bytes
    c.in_ok-push_args.ensures c.in_ok-push_str-2.ensures.bytes c.in_ok-push_commands.ensures c.in_ok-push_str-3.ensures.bytes c.in_ok-push_end.ensures
