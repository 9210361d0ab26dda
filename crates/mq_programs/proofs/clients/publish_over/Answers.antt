use Rattle.mq_programs.proofs.Runs.{published, resumed}
use Rattle.mq_programs.proofs.clients.publish_over.Goals as goal

pub returns-in-Some : goal.returns-in-Some
returns-in-Some g c = resumed _ _ _ c.args.id.now c.args.words.now c.args.texts.now c.in-Some.name c.requires.id c.in-Some.is c.requires.texts c.publish_linked.ensures

pub returns-in-None : goal.returns-in-None
returns-in-None g c = published _ _ _ c.args.id.now c.args.words.now c.args.texts.now c.requires.id c.in-None.is c.requires.texts c.publish_texts.ensures
