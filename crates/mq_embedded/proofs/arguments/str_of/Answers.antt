use Rattle.mq_embedded.proofs.Texts.{text_read}
use Rattle.mq_embedded.proofs.arguments.str_of.Goals as goal

pub unwrap-requires : goal.unwrap-requires
unwrap-requires c = text_read _ _ c.args.bytes.now c.from_utf8.result c.from_utf8.ensures.cases c.requires
