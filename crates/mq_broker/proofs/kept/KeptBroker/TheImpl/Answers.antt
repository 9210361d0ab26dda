use Rattle.std.proofs.Common.{Result, Ok, Err, OnErr, OnOk, refl}
use Rattle.mq_broker.proofs.kept.KeptBroker.TheImpl.Goals as goal

on_ok : {A E : Type 0} (r : Result A E) (P : Type 0) → P → OnOk r P
on_ok (Ok value) P fact = fact
on_ok (Err error) P fact = tt

on_err : {A E : Type 0} (r : Result A E) (P : Type 0) → P → OnErr r P
on_err (Ok value) P fact = tt
on_err (Err error) P fact = fact

-- A commit can fail, and its calls are not known.
pub commit-tells : goal.commit-tells
commit-tells g c = record {
  ok = c.ensures.ok;
  state = c.ensures.state;
  notes = c.ensures.notes;
  sure = on_err c.result _ refl;
  calls = on_ok c.result _ refl;
  uncalled = on_err c.result _ refl;
}
