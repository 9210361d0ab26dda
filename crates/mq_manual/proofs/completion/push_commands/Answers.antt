use Rattle.std.proofs.Common.{◌≡◌, ◌+◌, ◌++◌, ◌∙◌, [], ℕ, List, get_or, refl, subst, string_bytes, sym, arith, append-nil}
use Rattle.std.proofs.lemmas.Grind.{drop_more_same}
use Rattle.std.proofs.lemmas.List.{drop-set-lt, take_all}
use Rattle.clap.specs.declared.builder.command.Command.{Command}
use Rattle.mq_manual.specs.Completion.{AreCases, spaced_names}
use Rattle.mq_manual.proofs.Cases.{next_listed, next_named, same_next}
use Rattle.mq_manual.proofs.completion.push_commands.Goals as goal

pub loop-command-init : goal.loop-command-init
loop-command-init c = record { named = sym (append-nil (string_bytes c.args.names.now)); listed = ([], refl, sym (append-nil (string_bytes c.args.cases.now))); left = refl }

pub loop-command-preserved : goal.loop-command-preserved
loop-command-preserved c =
    let commands = c.args.commands.now in
    let k = c.loop-command.command-index in
    let i = c.loop-command.invariant in
    let x = get_or c.loop-command.command-items k c.command-item.result in
    let at : x ≡ get_or commands k x = same_next c.loop-command.command-items commands k c.command-item.result x (omega arith) (omega arith) i.left in
    record {
      named = next_named commands k x (string_bytes c.args.names.now) (string_bytes c.loop-command.names) (string_bytes c.push_command.new.names) (omega arith) at i.named c.in_ok-push_command.ensures.names;
      listed = next_listed commands k x (string_bytes c.args.cases.now) (string_bytes c.loop-command.cases) (string_bytes c.push_command.new.cases) (omega arith) at i.listed c.in_ok-push_command.ensures.cases;
      left = drop-set-lt (k + 1) c.loop-command.command-items k c.push_command.new.command (omega arith) ∙ drop_more_same c.loop-command.command-items commands k i.left;
    }

pub returns-clause-names : goal.returns-clause-names
returns-clause-names c =
    subst (λ (commands : List Command). string_bytes c.loop-command.names ≡ string_bytes c.args.names.now ++ spaced_names commands) (take_all c.loop-command.command-index c.args.commands.now (omega arith))
    c.loop-command.invariant.named

pub returns-clause-cases : goal.returns-clause-cases
returns-clause-cases c =
    subst (λ (commands : List Command). (text : List ℕ) × AreCases commands text × (string_bytes c.loop-command.cases ≡ string_bytes c.args.cases.now ++ text))
    (take_all c.loop-command.command-index c.args.commands.now (omega arith)) c.loop-command.invariant.listed
