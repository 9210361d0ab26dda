use Rattle.std.proofs.Common.{refl}
use Rattle.mq_bytes.proofs.Encoded.{parts_framed}
use Rattle.mq_bytes.proofs.encode.encode.Goals as goal

pub returns-clause-parts : goal.returns-clause-parts
returns-clause-parts c =
    parts_framed _ _ _ _ _ _ _ _ _ _ refl c.in_ok-at.ensures.within c.in_ok-at.ensures.start c.in_ok-at.ensures.small c.in_ok-at.ensures.filled c.put_all.ensures.written
