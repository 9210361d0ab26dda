use Rattle.std.proofs.Common.{◌∙◌, ◌||◌, ap, sym}
use Rattle.std.proofs.lemmas.Bool.{or_parts}
use Rattle.mq_packet.specs.declared.connect.Connect.{Connect}
use Rattle.mq_route.specs.Hub.{is_clean, stage_of}
use Rattle.mq_tables.proofs.FirstPackets.{ok_by}
use Rattle.mq_hub.proofs.TakeOver.{goes_admitted, goes_on_admitted}
use Rattle.mq_hub.proofs.hub.HubOver.take_over.Goals as goal

pub returns-then-begins_anew-clause-goes : goal.returns-then-begins_anew-clause-goes
returns-then-begins_anew-clause-goes g c =
    let other = c.in-Some.other in
    let anew = ap (λ (x : Connect). x.clean_session || is_clean (stage_of other c.args.self.now.connections)) (sym c.as_connect.ensures) ∙ sym c.begins_anew.ensures
    ∙ c.if-begins_anew.true in
    ok_by c.take_over_and_replace.result
    (λ goes. (
      goes.0,
      goes_admitted c.args.conn c.args.connect c.args.client c.args.key other goes.0 c.args.self.now (sym c.up_on.ensures.conn ∙ c.in-Some.is) c.take_over_and_replace.new.self
          c.args.log.now.acts c.take_over_and_replace.new.log.acts anew goes.1,
    )) c.take_over_and_replace.ensures.goes

pub returns-else-begins_anew-clause-goes : goal.returns-else-begins_anew-clause-goes
returns-else-begins_anew-clause-goes g c =
    let other = c.in-Some.other in
    let still = or_parts c.args.connect.clean_session (is_clean (stage_of other c.args.self.now.connections))
    (ap (λ (x : Connect). x.clean_session || is_clean (stage_of other c.args.self.now.connections)) (sym c.as_connect.ensures) ∙ sym c.begins_anew.ensures
    ∙ c.if-begins_anew.false) in
    ok_by c.take_over_and_resume.result
    (λ goes. (
      goes.0,
      goes_on_admitted c.args.conn c.args.connect c.args.client c.args.key other goes.0 c.args.self.now (sym c.up_on.ensures.conn ∙ c.in-Some.is) c.take_over_and_resume.new.self
          c.args.log.now.acts c.take_over_and_resume.new.log.acts still.1 still.0 goes.1,
    )) c.take_over_and_resume.ensures.goes
