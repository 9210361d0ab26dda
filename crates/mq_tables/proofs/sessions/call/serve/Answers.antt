use Rattle.std.proofs.Common.{◌≡◌, true, refl, sym, subst}
use Rattle.mq_packet.specs.declared.packet.Packet.TheVariants as packets
use Rattle.mq_end.specs.End.{is_live}
use Rattle.mq_end.specs.Sizes.{suback_size, unsuback_size}
use Rattle.mq_tables.specs.declared.sessions.call.Call.{Call}
use Rattle.mq_tables.specs.declared.sessions.call.Call.TheVariants.{Grants, Drops}
use Rattle.mq_tables.specs.Calls.{IsAllowed, Serves}
use Rattle.mq_tables.proofs.EndCalls.{answer_serves, takes_serves, up_live}
use Rattle.mq_tables.proofs.sessions.call.serve.Goals as goal

pub returns-in-Takes : goal.returns-in-Takes
returns-in-Takes c =
    let live : is_live c.args.end.now.end.state ≡ true = up_live c.args.end.now.end.state c.requires.up in
    subst (λ (x : Call). Serves x c.take_packet.result c.args.end.now c.take_packet.new.self) (sym c.in-Takes.is)
    (takes_serves c.encoding_laws.ensures c.in-Takes.now c.in-Takes.packet c.take_packet.result c.args.end.now c.take_packet.new.self
    (c.take_packet.ensures.open live) c.take_packet.ensures.err (c.take_packet.ensures.within c.requires.up) (c.take_packet.ensures.kept c.requires.up))

pub returns-in-Grants : goal.returns-in-Grants
returns-in-Grants c =
    subst (λ (x : Call). Serves x c.answered.result c.args.end.now c.suback.new.self) (sym c.in-Grants.is)
    (answer_serves c.encoding_laws.ensures (Grants c.in-Grants.id c.in-Grants.codes) (packets.SubAck c.in-Grants.id c.in-Grants.codes) (suback_size c.in-Grants.codes)
    c.args.end.now c.suback.new.self refl (c.size_laws.ensures.suback c.in-Grants.id c.in-Grants.codes) c.suback.result c.answered.result
    c.answered.ensures.ok c.answered.ensures.err c.suback.ensures.ok c.suback.ensures.err
    (c.suback.ensures.kept (subst (λ (x : Call). IsAllowed x c.args.end.now) c.in-Grants.is c.requires.allowed)))

pub returns-in-Drops : goal.returns-in-Drops
returns-in-Drops c =
    subst (λ (x : Call). Serves x c.answered-in-Drops.result c.args.end.now c.unsuback.new.self) (sym c.in-Drops.is)
    (answer_serves c.encoding_laws.ensures (Drops c.in-Drops.id) (packets.UnsubAck c.in-Drops.id) unsuback_size
    c.args.end.now c.unsuback.new.self refl (c.size_laws.ensures.unsuback c.in-Drops.id) c.unsuback.result c.answered-in-Drops.result
    c.answered-in-Drops.ensures.ok c.answered-in-Drops.ensures.err c.unsuback.ensures.ok c.unsuback.ensures.err
    (c.unsuback.ensures.kept (subst (λ (x : Call). IsAllowed x c.args.end.now) c.in-Drops.is c.requires.allowed)))
