use Rattle.mq_file.proofs.Switching.{not_begun}
use Rattle.mq_file.proofs.named_files.switch.Goals as goal

pub returns-in_err-make_empty-clause-at_any_time :
    goal.returns-in_err-make_empty-clause-at_any_time
returns-in_err-make_empty-clause-at_any_time g c =
    λ apart.
    not_begun c.args.next.now c.args.name.now c.args.bytes.now c.args.first.now c.args.second.now apart (g.F.NamedFiles.folder c.args.files.now)
    (g.F.NamedFiles.folder c.make_empty.new.files) c.make_empty.ensures.at_any_time
