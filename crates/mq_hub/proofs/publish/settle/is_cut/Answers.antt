use Rattle.std.proofs.Common.{◌≡◌, ◌∙◌, ◌+◌, ℕ, Option, IfSome, length, sym, subst}
use Rattle.mq_packet.specs.declared.message.Message.{Message}
use Rattle.mq_tables.specs.declared.sessions.session.BrokerSession.{BrokerSession}
use Rattle.mq_tables.specs.Rules.{left_of}
use Rattle.mq_hub.proofs.MissedCopies.{cut_identified, cut_is}
use Rattle.mq_hub.proofs.publish.settle.is_cut.Goals as goal

pub returns-then-has_identifier : goal.returns-then-has_identifier
returns-then-has_identifier c =
    let d : ℕ × Message = (c.args.key, c.args.message.now) in
    sym (cut_identified c.args.most_waiting c.args.queued c.args.sessions.now.list d (sym c.has_identifier.ensures ∙ c.if-has_identifier.true))

pub returns : goal.returns
returns c =
    let for = c.requires in
    let d : ℕ × Message = (c.args.key, c.args.message.now) in
    let left = subst (λ (o : Option BrokerSession). IfSome o (λ t. c.waiting_left-left.result ≡ left_of c.args.most_waiting (c.args.queued + length t.end.output))) for.there c.waiting_left-left.ensures in
    cut_is c.args.most_waiting c.args.queued c.args.sessions.now.list d for.session c.waiting_left-left.result c.publish_len.result c.fits_left.result for.there
    (sym c.has_identifier.ensures ∙ c.if-has_identifier.false) left c.publish_len.ensures c.fits_left.ensures
