use Rattle.mq_cli.proofs.words.replay_job.Goals as goal

pub returns-in-None : goal.returns-in-None
returns-in-None c = (c.in_ok-source.ensures, rw c.in-None.is at c.in_ok-image.ensures)
