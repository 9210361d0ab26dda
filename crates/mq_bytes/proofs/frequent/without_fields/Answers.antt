use Rattle.std.proofs.Common.{refl, arith}
use Rattle.mq_packet.specs.declared.packet.Packet.TheVariants as packets
use Rattle.mq_bytes.proofs.Finding.{without}
use Rattle.mq_bytes.proofs.frequent.without_fields.Goals as goal

pub returns-in-192 : goal.returns-in-192
returns-in-192 c = λ limits.
    without limits c.args.bytes.now c.bare.result packets.PingReq (omega arith) c.in-192.is (omega arith) tt refl c.bare.ensures.size c.bare.ensures.kind

pub returns-in-208 : goal.returns-in-208
returns-in-208 c = λ limits.
    without limits c.args.bytes.now c.bare-in-208.result packets.PingResp (omega arith) c.in-208.is (omega arith) tt refl c.bare-in-208.ensures.size c.bare-in-208.ensures.kind

pub returns-in-224 : goal.returns-in-224
returns-in-224 c = λ limits.
    without limits c.args.bytes.now c.bare-in-224.result packets.Disconnect (omega arith) c.in-224.is (omega arith) tt refl c.bare-in-224.ensures.size c.bare-in-224.ensures.kind
