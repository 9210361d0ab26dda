use Rattle.std.proofs.Common.{◌∙◌, true, refl}
use Rattle.mq_route.specs.Hub.{stage_of}
use Rattle.mq_hub.proofs.LastActivity.{comes_fresh, is_fresh, on_ok}
use Rattle.mq_hub.proofs.PacketKinds.{asks_nothing, dispatched, none_of, publish_within, subscribe_within, unsuback_within, up_where}
use Rattle.mq_hub.proofs.hub.HubOver.dispatch_packet.Goals as goal

pub on_first_packet-requires-clause-fresh : goal.on_first_packet-requires-clause-fresh
on_first_packet-requires-clause-fresh g c =
    is_fresh (stage_of c.args.conn c.args.self.now.connections) c.requires.open (c.requires.key ∙ none_of c.args.up c.in_default.not-Some)

pub returns-in_default-clause-goes : goal.returns-in_default-clause-goes
returns-in_default-clause-goes g c =
    let s = stage_of c.args.conn c.args.self.now.connections in
    on_ok c.on_first_packet.result
    (λ goes. (
      goes.0,
      comes_fresh c.args.conn c.args.packet goes.0 s c.args.self.now c.on_first_packet.new.self c.args.log.now.acts c.on_first_packet.new.log.acts
          (is_fresh s c.requires.open (c.requires.key ∙ none_of c.args.up c.in_default.not-Some)) goes.1,
    )) c.on_first_packet.ensures.goes

pub on_publish-requires-clause-within : goal.on_publish-requires-clause-within
on_publish-requires-clause-within g c =
    publish_within c.size_laws.ensures c.args.self.now.config.limits.most c.args.packet c.requires.within c.in-Publish.publish c.in-Publish.is c.delivery.ensures.fits

pub returns-in-Publish-clause-goes : goal.returns-in-Publish-clause-goes
returns-in-Publish-clause-goes g c =
    dispatched c.on_publish.result c.args.conn c.in-Some.key c.args.packet _ (stage_of c.args.conn c.args.self.now.connections) c.args.self.now
    c.on_publish.new.self c.args.log.now.acts c.on_publish.new.log.acts (c.requires.key ∙ c.in-Some.is) c.in-Publish.is c.on_publish.ensures.goes

pub take_subscribe-requires-clause-up : goal.take_subscribe-requires-clause-up
take_subscribe-requires-clause-up g c = up_where c.args.conn c.in-Some.key c.args.self.now.connections (c.requires.key ∙ c.in-Some.is)

pub take_subscribe-requires-clause-within : goal.take_subscribe-requires-clause-within
take_subscribe-requires-clause-within g c =
    subscribe_within c.size_laws.ensures c.args.self.now.config.limits.most c.args.packet c.requires.within c.in-Subscribe.id c.in-Subscribe.requests c.in-Subscribe.is

pub returns-in-Subscribe-clause-goes : goal.returns-in-Subscribe-clause-goes
returns-in-Subscribe-clause-goes g c =
    dispatched c.take_subscribe.result c.args.conn c.in-Some.key c.args.packet _ (stage_of c.args.conn c.args.self.now.connections) c.args.self.now
    c.take_subscribe.new.self c.args.log.now.acts c.take_subscribe.new.log.acts (c.requires.key ∙ c.in-Some.is) c.in-Subscribe.is c.take_subscribe.ensures.goes

pub on_unsubscribe-requires-clause-up : goal.on_unsubscribe-requires-clause-up
on_unsubscribe-requires-clause-up g c = up_where c.args.conn c.in-Some.key c.args.self.now.connections (c.requires.key ∙ c.in-Some.is)

pub on_unsubscribe-requires-clause-within : goal.on_unsubscribe-requires-clause-within
on_unsubscribe-requires-clause-within g c =
    unsuback_within c.size_laws.ensures c.args.self.now.config.limits.most c.args.packet c.requires.within c.in-Unsubscribe.id c.in-Unsubscribe.filters c.in-Unsubscribe.is

pub returns-in-Unsubscribe-clause-goes : goal.returns-in-Unsubscribe-clause-goes
returns-in-Unsubscribe-clause-goes g c =
    dispatched c.on_unsubscribe.result c.args.conn c.in-Some.key c.args.packet _ (stage_of c.args.conn c.args.self.now.connections) c.args.self.now
    c.on_unsubscribe.new.self c.args.log.now.acts c.on_unsubscribe.new.log.acts (c.requires.key ∙ c.in-Some.is) c.in-Unsubscribe.is
    (on_ok c.on_unsubscribe.result (λ each. (true, each c.args.conn true)) c.on_unsubscribe.ensures.takes)

pub returns-in-Unsubscribe-clause-room : goal.returns-in-Unsubscribe-clause-room
returns-in-Unsubscribe-clause-room g c = on_ok c.on_unsubscribe.result (λ room is_on. room) c.on_unsubscribe.ensures.room

pub take_other-requires-clause-asks : goal.take_other-requires-clause-asks
take_other-requires-clause-asks g c =
    let n = c.in_default-packet in
    asks_nothing c.args.packet n.not-Publish n.not-Subscribe n.not-Unsubscribe

pub take_other-requires-clause-up : goal.take_other-requires-clause-up
take_other-requires-clause-up g c = up_where c.args.conn c.in-Some.key c.args.self.now.connections (c.requires.key ∙ c.in-Some.is)

pub returns-in_default-packet-clause-goes : goal.returns-in_default-packet-clause-goes
returns-in_default-packet-clause-goes g c =
    dispatched c.take_other.result c.args.conn c.in-Some.key c.args.packet c.args.packet (stage_of c.args.conn c.args.self.now.connections) c.args.self.now
    c.take_other.new.self c.args.log.now.acts c.take_other.new.log.acts (c.requires.key ∙ c.in-Some.is) refl c.take_other.ensures.goes
