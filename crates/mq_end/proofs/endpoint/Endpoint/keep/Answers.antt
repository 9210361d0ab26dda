use Rattle.std.proofs.Common.{rules}
use Rattle.mq_end.proofs.Unsent.{unsent}
use Rattle.mq_end.proofs.endpoint.Endpoint.keep.Goals as goal
use Rattle.mq_end.proofs.endpoint.Endpoint.keep.Goals.{then-is_up+in_ok-append_encoded, else-is_up}

pub returns-in-Ok-clause-ok : goal.returns-in-Ok-clause-ok
returns-in-Ok-clause-ok c = record {
  id = c.unwrap-id.result;
  answered = search rules;
  first = search rules;
  out = elim c.if-is_up.branch [
    | then-is_up+in_ok-append_encoded w ↦ search rules
    | else-is_up w ↦ unsent _ _ _ _ _ c.requires.kept (search rules) (search rules)
  ];
  state = elim c.if-is_up.branch [
    | then-is_up+in_ok-append_encoded w ↦ search rules
    | else-is_up w ↦ search rules
  ];
}
