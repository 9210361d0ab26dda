use Rattle.mq_serve.specs.declared.serve_end.ServeEnd.TheVariants.{Memory}
use Rattle.mq_loopback.specs.declared.rig.RunError.TheVariants.{Broker}
use Rattle.mq_loopback.proofs.Telling.{cut_off_at_once}
use Rattle.mq_loopback.proofs.program.write_no_file.Goals as goal

pub returns-in-OutOfMemory : goal.returns-in-OutOfMemory
returns-in-OutOfMemory g c = cut_off_at_once c.write_end.result (g.W.Write.contents c.args.output.now) (g.W.Write.contents c.write_end.new.output) (Broker Memory) c.write_end.ensures.status c.write_end.ensures.printed
