use Rattle.mq_bytes.proofs.Filling.{begin_fills}
use Rattle.mq_bytes.proofs.buffer.begin.Goals as goal

pub returns-clause-filled : goal.returns-clause-filled
returns-clause-filled c = begin_fills _ _ _ _ _ _ _ c.put-at.ensures.written c.put.ensures.written c.put-at.ensures.end c.length_of-size.ensures.bytes
