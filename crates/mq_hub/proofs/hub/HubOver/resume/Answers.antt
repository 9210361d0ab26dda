use Rattle.std.proofs.Common.{◌∙◌, sym, ap}
use Rattle.mq_packet.specs.declared.connect.Connect.{Connect}
use Rattle.mq_tables.proofs.FirstPackets.{ok_by}
use Rattle.mq_hub.proofs.AcceptConnect.{goes_renewed, goes_resumed, stands_by}
use Rattle.mq_hub.proofs.hub.HubOver.resume.Goals as goal

pub resume_session-requires-clause-stands : goal.resume_session-requires-clause-stands
resume_session-requires-clause-stands g c = stands_by c.args.client c.args.key c.args.self.now.sessions c.requires.stands

pub returns-then-as_connect-clause-goes : goal.returns-then-as_connect-clause-goes
returns-then-as_connect-clause-goes g c =
    let clean = sym (ap (λ (x : Connect). x.clean_session) c.as_connect.ensures) ∙ c.if-as_connect.true in
    ok_by c.replace_session.result
    (λ q fits. goes_renewed c.args.conn c.args.connect fits c.args.self.now c.replace_session.new.self c.args.log.now.acts c.replace_session.new.log.acts c.args.client c.args.key c.requires.away clean q)
    c.replace_session.ensures.goes

pub returns-else-as_connect-clause-goes : goal.returns-else-as_connect-clause-goes
returns-else-as_connect-clause-goes g c =
    let going = sym (ap (λ (x : Connect). x.clean_session) c.as_connect.ensures) ∙ c.if-as_connect.false in
    ok_by c.resume_session.result
    (λ q fits. goes_resumed c.args.conn c.args.connect fits c.args.self.now c.resume_session.new.self c.args.log.now.acts c.resume_session.new.log.acts c.args.client c.args.key c.requires.away going q)
    c.resume_session.ensures.goes
