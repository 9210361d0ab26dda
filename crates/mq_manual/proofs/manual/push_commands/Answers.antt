use Rattle.std.proofs.Common.{◌≡◌, ◌+◌, ◌++◌, ◌∙◌, [], ℕ, List, get_or, refl, string_bytes, subst, sym, arith, append-nil}
use Rattle.std.proofs.lemmas.Grind.{drop_more_same}
use Rattle.std.proofs.lemmas.List.{drop-set-lt, take_all}
use Rattle.clap.specs.declared.builder.command.Command.{Command}
use Rattle.mq_manual.specs.Manual.{AreSections}
use Rattle.mq_manual.proofs.Cases.{same_next}
use Rattle.mq_manual.proofs.Pages.{next_section}
use Rattle.mq_manual.proofs.manual.push_commands.Goals as goal

pub loop-command-init : goal.loop-command-init
loop-command-init c = record { listed = ([], refl, sym (append-nil (string_bytes c.args.page.now))); left = refl }

pub loop-command-preserved : goal.loop-command-preserved
loop-command-preserved c =
    let commands = c.args.commands.now in
    let k = c.loop-command.command-index in
    let i = c.loop-command.invariant in
    let x = get_or c.loop-command.command-items k c.command-item.result in
    let at : x ≡ get_or commands k x = same_next c.loop-command.command-items commands k c.command-item.result x (omega arith) (omega arith) i.left in
    record {
      listed = next_section commands k x (string_bytes c.args.page.now) (string_bytes c.loop-command.page) (string_bytes c.push_command.new.page) (omega arith) at i.listed c.in_ok-push_command.ensures;
      left = drop-set-lt (k + 1) c.loop-command.command-items k c.push_command.new.command (omega arith) ∙ drop_more_same c.loop-command.command-items commands k i.left;
    }

pub returns : goal.returns
returns c =
    subst (λ (commands : List Command). (text : List ℕ) × AreSections commands text × (string_bytes c.loop-command.page ≡ string_bytes c.args.page.now ++ text)) (take_all c.loop-command.command-index c.args.commands.now (omega arith))
    c.loop-command.invariant.listed
