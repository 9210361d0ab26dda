use Rattle.std.proofs.Common.{ap, ◌∙◌}
use Rattle.mq_client.specs.Course.{Moment}
use Rattle.mq_loopback.proofs.Runs.{client_ran}
use Rattle.mq_loopback.proofs.client_threads.ClientThreads.play.Goals as goal

pub returns : goal.returns
returns g c =
    let same = ap (λ (m : Moment). m.client) c.set_quiet_limit.ensures ∙ c.new-player.ensures.client in
    client_ran c.run_over.result c.args.start.client.now _ _ _ c.in_ok-client_end.ensures same c.run_over.ensures
