use Rattle.std.proofs.Common.{◌≡◌, ◌≤◌, IfSome, true, false, true≢false, length, sym, ap, subst, ◌∙◌}
use Rattle.mq_packet.specs.Encoding.{fields}
use Rattle.mq_end.specs.End.{is_up}
use Rattle.mq_route.specs.Arrives.{dispatch_packet}
use Rattle.mq_route.specs.Hub.{HubState, end_of, is_open, key_on, stage_of}
use Rattle.mq_route.specs.Work.{close}
use Rattle.mq_hub.specs.Inside.Input.{with_touched}
use Rattle.mq_hub.specs.Inside.Refinement.{Refines}
use Rattle.mq_hub.proofs.LastActivity.{goes_from, key_heard, memory, open_heard, taken_in, taken_not}
use Rattle.mq_hub.proofs.KeptState.{goes_shut}
use Rattle.mq_hub.proofs.hub.HubOver.on_packet.Goals as goal

pub dispatch_packet-requires-clause-open : goal.dispatch_packet-requires-clause-open
dispatch_packet-requires-clause-open g c =
    ap (λ (h : HubState). is_open (stage_of c.args.conn h.connections)) c.touch-up.ensures.hub ∙ open_heard c.args.conn c.args.self.now ∙ c.requires.open

pub dispatch_packet-requires-clause-key : goal.dispatch_packet-requires-clause-key
dispatch_packet-requires-clause-key g c =
    ap (λ (h : HubState). key_on (stage_of c.args.conn h.connections)) c.touch-up.ensures.hub ∙ key_heard c.args.conn c.args.self.now ∙ sym c.touch-up.ensures.key

pub dispatch_packet-requires-clause-end : goal.dispatch_packet-requires-clause-end
dispatch_packet-requires-clause-end g c =
    subst (λ (h : HubState). IfSome c.touch-up.result (λ key. is_up (end_of key h.sessions).state ≡ true)) (sym c.touch-up.ensures.hub) c.touch-up.ensures.up

pub dispatch_packet-requires-clause-within : goal.dispatch_packet-requires-clause-within
dispatch_packet-requires-clause-within g c =
    subst (λ (h : HubState). length (fields c.args.packet) ≤ h.config.limits.most) (sym c.touch-up.ensures.hub) c.requires.within

pub returns-in-Ok-clause-goes : goal.returns-in-Ok-clause-goes
returns-in-Ok-clause-goes g c =
    let goes = c.in-Ok.ensures.goes in
    let k = c.args.conn in
    let p = c.args.packet in
    let says = c.dispatch_packet.new.log.acts in (
      record { fits = true; will_fits = goes.0 },
      taken_in k p goes.0 c.args.self.now c.dispatch_packet.new.self c.args.log.now.acts says
          (subst (λ (h : HubState). Refines (dispatch_packet k p goes.0 (stage_of k h.connections)) h c.args.log.now.acts c.dispatch_packet.new.self says) c.touch-up.ensures.hub goes.1),
    )

pub close_out_of_memory-requires-clause-open : goal.close_out_of_memory-requires-clause-open
close_out_of_memory-requires-clause-open g c =
    ap (λ (h : HubState). is_open (stage_of c.args.conn h.connections)) (c.in-Err.ensures.err ∙ c.touch-up.ensures.hub) ∙ open_heard c.args.conn c.args.self.now ∙ c.requires.open

pub returns-in-Err-clause-goes : goal.returns-in-Err-clause-goes
returns-in-Err-clause-goes g c =
    let goes = c.close_out_of_memory.ensures.goes in
    let k = c.args.conn in
    let says = c.close_out_of_memory.new.log.acts in (
      record { fits = false; will_fits = goes.0 },
      taken_not k c.args.packet goes.0 c.args.self.now c.close_out_of_memory.new.self c.args.log.now.acts says
          (goes_from (close k memory goes.0) c.dispatch_packet.new.self (with_touched k c.args.self.now) c.close_out_of_memory.new.self c.dispatch_packet.new.log.acts
          c.args.log.now.acts says (c.in-Err.ensures.err ∙ c.touch-up.ensures.hub) c.in-Err.ensures.err_acts goes.1),
    )

pub returns-in-Err-clause-room : goal.returns-in-Err-clause-room
returns-in-Err-clause-room g c = λ is_on.
    absurd (true≢false (sym is_on ∙ ap is_open (goes_shut c.args.conn memory c.close_out_of_memory.ensures.goes.0 c.dispatch_packet.new.self c.close_out_of_memory.new.self c.dispatch_packet.new.log.acts
    c.close_out_of_memory.new.log.acts c.close_out_of_memory.ensures.goes.1)))
