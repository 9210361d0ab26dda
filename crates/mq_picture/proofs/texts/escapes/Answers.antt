use Rattle.mq_picture.proofs.Escaping.{each_escaped}
use Rattle.mq_picture.proofs.texts.escapes.Goals as goal

pub returns : goal.returns
returns c = each_escaped
