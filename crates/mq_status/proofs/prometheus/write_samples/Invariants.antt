use Rattle.std.proofs.Common.{take, flat_map}
use Rattle.std.specs.Io.KnownBytes.{Appends}
use Rattle.mq_status.specs.Prometheus.{sample_text}
use Rattle.mq_status.specs.declared.prometheus.Sample.{Sample}
use Rattle.mq_status.proofs.prometheus.write_samples.Given as goal

abbrev pub invariant-loop-sample : goal.invariant-loop-sample
invariant-loop-sample g l =
    Appends (g.W.Write.contents l.initial.output) (g.W.Write.contents l.output)
    (flat_map (λ (s : Sample). sample_text l.name l.key s.0.now s.1) (take l.sample-index l.samples))
