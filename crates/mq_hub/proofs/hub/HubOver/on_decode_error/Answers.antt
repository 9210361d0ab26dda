use Rattle.std.proofs.Common.{Err, subst}
use Rattle.mq_decode.specs.declared.fault.DecodeError.{DecodeError}
use Rattle.mq_decode.specs.Grammar.{IsFront}
use Rattle.mq_route.specs.Work.{close}
use Rattle.mq_tables.proofs.PendingBytes.{faulty_some}
use Rattle.mq_hub.proofs.LastActivity.{goes_from, memory}
use Rattle.mq_hub.proofs.InputBytes.{breaks_by, starves_by}
use Rattle.mq_hub.proofs.hub.HubOver.on_decode_error.Goals as goal

pub returns-in-Ok : goal.returns-in-Ok
returns-in-Ok g c = record {
  comes = λ limits b front most.
      let p = c.in-Ok.ensures.goes in
      breaks_by limits c.args.conn most b c.in-Fault.fault p.0 c.args.self.now c.on_malformed.new.self c.args.log.now.acts c.on_malformed.new.log.acts c.requires.open
      (subst (λ (e : DecodeError). IsFront limits b (Err e)) c.in-Fault.is front) p.1;
}

pub returns-in-Err : goal.returns-in-Err
returns-in-Err g c = record {
  comes = λ limits b front most.
      let p = c.close_out_of_memory.ensures.goes in
      starves_by limits c.args.conn most b p.0 c.args.self.now c.close_out_of_memory.new.self c.args.log.now.acts c.close_out_of_memory.new.log.acts c.requires.open
      (faulty_some limits b c.in-Fault.fault.kind c.in-Fault.fault.place
      (subst (λ (e : DecodeError). IsFront limits b (Err e)) c.in-Fault.is front))
      (goes_from (close c.args.conn memory p.0) c.on_malformed.new.self c.args.self.now c.close_out_of_memory.new.self c.on_malformed.new.log.acts c.args.log.now.acts
      c.close_out_of_memory.new.log.acts c.in-Err.ensures.err c.in-Err.ensures.acts p.1);
}

pub returns-in-Memory : goal.returns-in-Memory
returns-in-Memory g c = record {
  comes = λ limits b some most.
      let p = c.close_out_of_memory-in-Memory.ensures.goes in
      starves_by limits c.args.conn most b p.0 c.args.self.now c.close_out_of_memory-in-Memory.new.self c.args.log.now.acts c.close_out_of_memory-in-Memory.new.log.acts c.requires.open
      (subst (λ (e : DecodeError). IsFront limits b (Err e)) c.in-Memory.is some) p.1;
}
