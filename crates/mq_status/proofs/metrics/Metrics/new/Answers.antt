use Rattle.std.proofs.lemmas.List.{get_or-replicate}
use Rattle.mq_status.specs.Counting.{place}
use Rattle.mq_status.proofs.Growing.{place_low}
use Rattle.mq_status.proofs.metrics.Metrics.new.Goals as goal

pub returns : goal.returns
returns c = λ counter. get_or-replicate 43 (place counter) 0 0 (place_low counter)
