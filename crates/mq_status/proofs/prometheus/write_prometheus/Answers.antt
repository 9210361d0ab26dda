use Rattle.std.proofs.Common.{◌++◌, ℕ, List, subst, OnOk}
use Rattle.std.specs.Io.KnownBytes.{Appends}
use Rattle.mq_status.specs.Prometheus.{counters_text, gauges_text, memory_text}
use Rattle.mq_status.proofs.Texts.{and_then}
use Rattle.mq_status.proofs.prometheus.write_prometheus.Goals as goal

pub returns : goal.returns
returns g c =
    let w = g.W.Write.contents in
    let numbers = c.args.metrics.now in
    let gauges = subst (λ x. Appends (w c.args.output.now) (w c.write_gauges.new.output) (gauges_text x)) c.gauges.ensures c.in_ok-write_gauges.ensures in
    let memory = subst (λ x. Appends (w c.write_gauges.new.output) (w c.write_memory.new.output) (memory_text x)) c.gauges-2.ensures c.in_ok-write_memory.ensures in
    let counters = subst (λ x. OnOk c.write_counters.result (Appends (w c.write_memory.new.output) (w c.write_counters.new.output) (counters_text x))) c.counts.ensures c.write_counters.ensures in
    let rest : List ℕ = memory_text numbers.gauges ++ counters_text numbers.counts in
    and_then _ _ _ _ (gauges_text numbers.gauges) rest gauges (and_then _ _ _ _ (memory_text numbers.gauges) (counters_text numbers.counts) memory counters)
