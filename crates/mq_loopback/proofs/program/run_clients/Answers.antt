use Rattle.mq_loopback.proofs.Telling.{run_told}
use Rattle.mq_loopback.proofs.program.run_clients.Goals as goal

pub returns-in-Ok : goal.returns-in-Ok
returns-in-Ok g c = run_told c.print_result.result _ _ c.args.clients.now c.in-Ok.played c.in-Ok.ensures c.print_result.ensures
