use Rattle.std.proofs.Common.{◌≡◌, ℕ, refl}
use Rattle.std.proofs.lemmas.Result.{IfOk-weaker}
use Rattle.mq_flow.specs.Receiver.{none_received}
use Rattle.mq_route.specs.Routed.{placed, routed, settled, taken}
use Rattle.mq_route.specs.Runs.{IsRun, came_in}
use Rattle.mq_route.specs.Taken.{handed_from, of_client}
use Rattle.mq_hub.specs.Run.{AreCollected, acts_in}
use Rattle.mq_hub.specs.Inside.Run.{IsTraced}
use Rattle.mq_hub.proofs.RunLemmas.{pair_gives, run_is, run_routes, run_settles, run_takes}
use Rattle.mq_hub.proofs.run.hub_run_over.Goals as goal

pub returns-clause-run : goal.returns-clause-run
returns-clause-run g c =
    let config = c.args.config in
    let events = c.args.events.now in
    let first = c.with_store-hub.result in
    let last = c.traced-traced.new.self in
    pair_gives c.traced-traced.result c.pair_with.result last (λ r. IsRun config events r.0 r.1) c.pair_with.ensures.ok c.pair_with.ensures.err
    (IfOk-weaker c.traced-traced.result (λ trace. IsTraced first events trace last) (λ trace. IsRun config events last trace)
    (λ trace t. run_is config first last events trace.replies trace.accounts trace c.with_store-hub.ensures t.followed t.keys t.accounts refl refl)
    c.traced-traced.ensures.trace)

pub returns-clause-routed : goal.returns-clause-routed
returns-clause-routed g c = λ closes unlimited.
    let config = c.args.config in
    let events = c.args.events.now in
    IfOk-weaker c.pair_with.result (λ r. IsRun config events r.0 r.1) (λ r. (k : ℕ) → placed k (acts_in r.1) ≡ routed k (acts_in r.1))
    (λ r run. run_routes config events r.0 r.1 run c.routing_laws.ensures closes unlimited)
    (returns-clause-run g c)

pub returns-clause-settled : goal.returns-clause-settled
returns-clause-settled g c =
    let config = c.args.config in
    let events = c.args.events.now in
    IfOk-weaker c.pair_with.result (λ r. IsRun config events r.0 r.1) (λ r. (k : ℕ) → settled k (acts_in r.1) ≡ routed k (acts_in r.1))
    (λ r run. run_settles config events r.0 r.1 run c.routing_laws.ensures)
    (returns-clause-run g c)

pub returns-clause-taken : goal.returns-clause-taken
returns-clause-taken g c =
    let config = c.args.config in
    let events = c.args.events.now in
    IfOk-weaker c.pair_with.result (λ r. IsRun config events r.0 r.1)
    (λ r. (run : IsRun config events r.0 r.1) (k : ℕ) → taken k (acts_in r.1) ≡ handed_from none_received (of_client k (came_in run.episodes)))
    (λ r first run. run_takes config events r.0 r.1 run c.taking_laws.ensures)
    (returns-clause-run g c)

pub returns-clause-collected : goal.returns-clause-collected
returns-clause-collected g c =
    let config = c.args.config in
    let events = c.args.events.now in
    IfOk-weaker c.pair_with.result (λ r. IsRun config events r.0 r.1)
    (λ r. (run : IsRun config events r.0 r.1) → AreCollected config run.episodes r.0)
    (λ r first run before after hub _ left right. c.output_laws.ensures.written_is_put_out config before hub after r.0 left right)
    (returns-clause-run g c)
