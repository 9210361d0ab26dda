use Rattle.mq_client.proofs.Courses.{on_err}
use Rattle.mq_client.proofs.Files.{other_name, replaced_if, touched, unchanged_if, unchanged_then, wrote}
use Rattle.mq_client.proofs.session_file.replace_by.Goals as goal

pub returns-in_err-write-clause-err : goal.returns-in_err-write-clause-err
returns-in_err-write-clause-err g c =
    let other = other_name c.args.name.now c.args.draft.now c.requires in
    on_err _ _ (touched _ _ _ _ other c.in_err-write.ensures.err)

pub returns-in_err-sync-clause-err : goal.returns-in_err-sync-clause-err
returns-in_err-sync-clause-err g c =
    let other = other_name c.args.name.now c.args.draft.now c.requires in
    on_err _ _ (unchanged_then _ _ _ (wrote _ _ _ _ _ other c.in_ok-write.ensures.ok) (touched _ _ _ _ other c.in_err-sync.ensures.err))

pub returns-clause-ok : goal.returns-clause-ok
returns-clause-ok g c =
    let other = other_name c.args.name.now c.args.draft.now c.requires in
    replaced_if _ _ _ _ _ _ _ _ other c.in_ok-write.ensures.ok c.in_ok-sync.ensures.ok c.rename.ensures.ok

pub returns-clause-err : goal.returns-clause-err
returns-clause-err g c =
    let other = other_name c.args.name.now c.args.draft.now c.requires in
    unchanged_if _ _ _ _ _ _ _ _ other c.in_ok-write.ensures.ok c.in_ok-sync.ensures.ok c.rename.ensures.err
