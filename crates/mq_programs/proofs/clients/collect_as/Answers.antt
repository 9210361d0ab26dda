use Rattle.std.proofs.Common.{refl}
use Rattle.mq_programs.proofs.Runs.{collected}
use Rattle.mq_programs.proofs.clients.collect_as.Goals as goal

pub returns : goal.returns
returns g c = collected _ _ _ c.args.id.now c.args.words.now _ c.requires.id (record { filter = c.requires.filter; qos = refl; count = refl }) c.collect_messages-status.ensures
