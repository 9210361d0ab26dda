use Rattle.std.proofs.Common.{rules}
use Rattle.mq_serve.proofs.Jobs.{all_done}
use Rattle.mq_serve.proofs.workers.run_all.Goals as goal

pub returns-clause-done : goal.returns-clause-done
returns-clause-done g c = all_done _ _ (g.H.Workers.does c.args.job.now) c.args.parts.items c.args.parts.len c.args.parts.ok.0 c.map_vec.result c.map_vec.ensures.len c.map_vec.ensures.each (λ x r is. search rules)
