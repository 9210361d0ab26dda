use Rattle.std.proofs.Common.{◌∙◌, [], length, refl, sym, ap, subst, arith}
use Rattle.mq_decode.specs.Grammar.{Pending}
use Rattle.mq_decode.specs.Limits.{Bounds}
use Rattle.mq_route.specs.declared.config.HubConfig.{HubConfig}
use Rattle.mq_route.specs.Hub.{HubState, knows}
use Rattle.mq_tables.specs.Connections.{IsDecoding}
use Rattle.mq_hub.specs.Inside.Input.{RefinesBytes}
use Rattle.mq_hub.proofs.InputBytes.{open_known}
use Rattle.mq_hub.proofs.ByteWalk.{closed_past, ends_past, leads_first, leads_past, some_past, stops_past, waits_past}
use Rattle.mq_hub.proofs.hub.HubOver.on_piece.Goals as goal

pub loop-conn-init : goal.loop-conn-init
loop-conn-init g c = record {
  within = omega arith;
  reading = c.requires.reading;
  config = refl;
  room = λ on. c.requires.room;
  leads = leads_first c.args.self.now.config.limits c.args.conn c.args.most_acts c.args.decoder.now.held c.args.piece.now c.args.self.now c.args.log.now.acts;
}

pub on_next_packet-requires-clause-reading : goal.on_next_packet-requires-clause-reading
on_next_packet-requires-clause-reading g c =
    subst (λ (l : Bounds). IsDecoding l c.loop-conn.decoder) (sym (ap (λ (x : HubConfig). x.limits) c.loop-conn.invariant.config)) c.loop-conn.invariant.reading

pub loop-conn-preserved : goal.loop-conn-preserved
loop-conn-preserved g c =
    let same = ap (λ (x : HubConfig). x.limits) c.loop-conn.invariant.config in
    let next = c.in-Packet.ensures.next in
    record {
      within = omega (arith, next.0.within, c.split_at.ensures.back_len);
      reading = subst (λ (l : Bounds). IsDecoding l c.on_next_packet.new.decoder) same (c.in-Packet.ensures.reading refl);
      config = c.in-Packet.ensures.config refl ∙ c.loop-conn.invariant.config;
      room = c.in-Packet.ensures.room refl;
      leads = leads_past c.args.self.now.config.limits c.loop-conn.self.config.limits c.args.conn c.args.most_acts c.args.piece.now c.args.decoder.now.held
          c.loop-conn.decoder.held c.split_at.result.1.now c.loop-conn.used c.args.self.now c.loop-conn.self c.on_next_packet.new.self
          c.args.log.now.acts c.loop-conn.log.acts c.on_next_packet.new.log.acts same c.split_at.ensures.back
          (sym c.is_open_near.ensures ∙ c.loop-conn-test.true) c.loop-conn.invariant.leads c.on_next_packet.new.decoder.held c.in-Packet.count next.0 next.1
          (omega (arith, c.count.ensures.value, c.if-count-most_acts.false));
    }

pub loop-conn-smaller : goal.loop-conn-smaller
loop-conn-smaller g c =
    let same = ap (λ (x : HubConfig). x.limits) c.loop-conn.invariant.config in
    let taken = c.in-Packet.ensures.next.0 in
    let some = some_past c.loop-conn.self.config.limits c.args.conn c.loop-conn.decoder.held c.split_at.result.1.now c.in-Packet.count c.loop-conn.self
    c.on_next_packet.new.self c.loop-conn.log.acts c.on_next_packet.new.log.acts
    (subst (λ (l : Bounds). Pending l c.loop-conn.decoder.held) (sym same) c.loop-conn.invariant.reading.2) taken in
    omega (arith, some, taken.within, c.split_at.ensures.back_len, c.loop-conn.invariant.within)

pub returns-then-count-most_acts-clause-comes : goal.returns-then-count-most_acts-clause-comes
returns-then-count-most_acts-clause-comes g c =
    let limits = c.args.self.now.config.limits in
    let same = ap (λ (x : HubConfig). x.limits) c.loop-conn.invariant.config in
    let stays = ap (λ (x : HubConfig). x.limits) (c.in-Packet.ensures.config refl ∙ c.loop-conn.invariant.config) in
    let k = c.args.conn in
    let most = c.args.most_acts in
    let mid = c.on_next_packet.new.self in
    let says = c.on_next_packet.new.log.acts in
    stops_past limits c.loop-conn.self.config.limits k most c.args.piece.now c.args.decoder.now.held c.loop-conn.decoder.held c.split_at.result.1.now
    c.loop-conn.used c.args.self.now c.loop-conn.self mid c.args.log.now.acts c.loop-conn.log.acts says same c.split_at.ensures.back
    (sym c.is_open_near.ensures ∙ c.loop-conn-test.true) c.loop-conn.invariant.leads c.in-Packet.count c.put_back.new.self says c.in-Packet.ensures.next.0
    (subst (λ (l : Bounds). RefinesBytes l k most [] mid says c.put_back.new.self says) stays (c.put_back.ensures most says))

pub swap_decoder-requires-clause-known : goal.swap_decoder-requires-clause-known
swap_decoder-requires-clause-known g c =
    ap (λ (h : HubState). knows c.args.conn h.connections) c.in-Waits.ensures.next.1
    ∙ open_known c.args.conn c.loop-conn.self.connections (sym c.is_open_near.ensures ∙ c.loop-conn-test.true)

pub returns-in-Waits-clause-comes : goal.returns-in-Waits-clause-comes
returns-in-Waits-clause-comes g c =
    let same = ap (λ (x : HubConfig). x.limits) c.loop-conn.invariant.config in
    let next = c.in-Waits.ensures.next in
    waits_past c.args.self.now.config.limits c.loop-conn.self.config.limits c.args.conn c.args.most_acts c.args.piece.now c.args.decoder.now.held
    c.loop-conn.decoder.held c.split_at.result.1.now c.loop-conn.used c.args.self.now c.loop-conn.self c.swap_decoder.new.self
    c.args.log.now.acts c.loop-conn.log.acts c.on_next_packet.new.log.acts same c.split_at.ensures.back
    (sym c.is_open_near.ensures ∙ c.loop-conn-test.true) c.loop-conn.invariant.leads (length c.args.piece.now) c.on_next_packet.new.self
    c.on_next_packet.new.decoder.held refl next.0 next.1 next.2 next.3 c.swap_decoder.ensures.hub

pub returns-in-Closed-clause-comes : goal.returns-in-Closed-clause-comes
returns-in-Closed-clause-comes g c =
    let same = ap (λ (x : HubConfig). x.limits) c.loop-conn.invariant.config in
    ends_past c.args.self.now.config.limits c.loop-conn.self.config.limits c.args.conn c.args.most_acts c.args.piece.now c.args.decoder.now.held
    c.loop-conn.decoder.held c.split_at.result.1.now c.loop-conn.used c.args.self.now c.loop-conn.self c.on_next_packet.new.self
    c.args.log.now.acts c.loop-conn.log.acts c.on_next_packet.new.log.acts same c.split_at.ensures.back
    (sym c.is_open_near.ensures ∙ c.loop-conn-test.true) c.loop-conn.invariant.leads (length c.args.piece.now) c.on_next_packet.new.self
    c.on_next_packet.new.log.acts refl (c.in-Closed.ensures.next c.args.most_acts)

pub returns-clause-comes : goal.returns-clause-comes
returns-clause-comes g c =
    closed_past c.args.self.now.config.limits c.args.conn c.args.most_acts c.args.piece.now c.args.decoder.now.held c.loop-conn.decoder.held c.loop-conn.used
    (length c.args.piece.now) c.args.self.now c.loop-conn.self c.args.log.now.acts c.loop-conn.log.acts c.loop-conn.invariant.leads
    (sym c.is_open_near.ensures ∙ c.loop-conn-test.false) refl
