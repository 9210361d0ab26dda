use Rattle.mq_serve.specs.declared.serve_end.ServeEnd.TheVariants.{Memory}
use Rattle.mq_loopback.specs.declared.rig.RunError.TheVariants.{Broker}
use Rattle.mq_loopback.proofs.Telling.{cut_off}
use Rattle.mq_loopback.proofs.program.print_result.Goals as goal

pub returns-in_default : goal.returns-in_default
returns-in_default g c = cut_off c.write_end.result (g.W.Write.contents c.args.output.now) (g.W.Write.contents c.write_end.new.output) (Broker Memory) c.args.clients.now c.args.played c.write_end.ensures.status c.write_end.ensures.printed

pub returns : goal.returns
returns g c = cut_off c.write_end-in-Err.result (g.W.Write.contents c.args.output.now) (g.W.Write.contents c.write_end-in-Err.new.output) (Broker Memory) c.args.clients.now c.args.played c.write_end-in-Err.ensures.status c.write_end-in-Err.ensures.printed
