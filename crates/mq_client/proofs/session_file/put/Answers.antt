use Rattle.std.proofs.Common.{◌∙◌}
use Rattle.mq_client.proofs.Files.{other_name, touched, unchanged_then}
use Rattle.mq_client.proofs.session_file.put.Goals as goal

pub returns-clause-err : goal.returns-clause-err
returns-clause-err g c =
    let other = other_name c.args.name.now c.as_str-draft.result.now (c.as_str-draft.ensures.value ∙ c.in-Ok.ensures.ok) in
    unchanged_then _ _ _ c.in-Err.ensures.err (touched _ _ _ _ other c.remove.ensures)
