use Rattle.mq_topic.proofs.Standard.{standard}
use Rattle.mq_topic.proofs.matching.matches.Goals as goal

pub returns-clause-standard : goal.returns-clause-standard
returns-clause-standard c =
    standard c.is_match.result c.args.filter.now c.args.name.now (rw (c.as_str.ensures.value, c.as_str-2.ensures.value) at c.is_match.ensures)
