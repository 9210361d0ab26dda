use Rattle.mq_bytes.proofs.Located.{located_size}
use Rattle.mq_bytes.proofs.front_fields.locate_any.Goals as goal

pub shown-requires-clause-size : goal.shown-requires-clause-size
shown-requires-clause-size c = located_size c.args.limits _ _ _ _ c.in-Whole.ensures.front.0 c.in-Whole.ensures.front.1 c.fields_start-start.ensures
