use Rattle.mq_status.proofs.response.write_head.Goals as goal

pub returns : goal.returns
returns g c = rw (← c.status_lines-lines.ensures, ← c.content_type-kind.ensures) c.write.ensures.bytes
