use Rattle.std.proofs.Common.{◌∙◌}
use Rattle.mq_store.proofs.Restores.{none_loaded}
use Rattle.mq_store.proofs.restoring.restore.Goals as goal

pub returns-clause-restored : goal.returns-clause-restored
returns-clause-restored c = record {
  ended = c.in_ok-saved.ensures.0;
  is_ended = c.in_ok-saved.ensures.3;
  loaded = c.in_ok-hub.ensures c.in_ok-saved.ensures.0 (c.as_slice.ensures.value ∙ c.in_ok-saved.ensures.1) c.in_ok-saved.ensures.2;
}

pub returns-clause-none : goal.returns-clause-none
returns-clause-none c =
    none_loaded c.args.config c.in_ok-saved.ensures.0 c.in_ok-hub.hub
    (c.in_ok-hub.ensures c.in_ok-saved.ensures.0 (c.as_slice.ensures.value ∙ c.in_ok-saved.ensures.1) c.in_ok-saved.ensures.2)
    c.in_ok-saved.ensures.3.ends_after.none
