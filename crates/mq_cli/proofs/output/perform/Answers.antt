use Rattle.mq_cli.proofs.output.perform.Goals as goal

pub returns-in-Show : goal.returns-in-Show
returns-in-Show g c = rw c.in-Show.is c.show.ensures

pub returns-in-Random : goal.returns-in-Random
returns-in-Random g c = rw c.in-Random.is c.write_random.ensures
