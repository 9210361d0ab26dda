use Rattle.mq_client.proofs.Courses.{on_err}
use Rattle.mq_client.proofs.Grown.{front_after, fronts_after}
use Rattle.mq_client.proofs.lines.write_code.Goals as goal

pub returns-in_err-write_bytes-2-clause-err : goal.returns-in_err-write_bytes-2-clause-err
returns-in_err-write_bytes-2-clause-err g c = on_err _ _ (front_after _ _ _ _ _ c.in_ok-write_bytes.ensures.ok c.in_err-write_bytes-2.ensures.err)

pub returns-clause-err : goal.returns-clause-err
returns-clause-err g c = fronts_after _ _ _ _ _ _ _ _ c.in_ok-write_bytes.ensures.ok c.in_ok-write_bytes-2.ensures.ok c.write_bytes-3.ensures.err
