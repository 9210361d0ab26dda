use Rattle.mq_embedded.proofs.Texts.{not_utf8}
use Rattle.mq_embedded.proofs.arguments.text.Goals as goal

pub returns-in-Err-clause-refused : goal.returns-in-Err-clause-refused
returns-in-Err-clause-refused c = not_utf8 c.args.bytes.now c.in-Err.ensures.cases.0
