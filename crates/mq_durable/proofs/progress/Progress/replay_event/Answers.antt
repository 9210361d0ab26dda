use Rattle.mq_durable.specs.declared.progress.Progress.{Progress}
use Rattle.mq_durable.proofs.Recoveries.{continues_one}
use Rattle.mq_durable.proofs.progress.Progress.replay_event.Goals as goal

pub returns : goal.returns
returns c =
    let new : Progress = record { hub = c.replay_on.new.hub; opened = c.note_opened.new.opened } in
    continues_one c.args.self.now new c.args.event.now c.in_ok-replay_on.ensures c.in_ok-note_opened.ensures
