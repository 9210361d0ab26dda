use Rattle.std.proofs.Common.{refl, ◌∙◌, arith}
use Rattle.mq_packet.specs.declared.packet.Packet.TheVariants as packets
use Rattle.mq_bytes.proofs.Finding.{acknowledged}
use Rattle.mq_bytes.proofs.frequent.acknowledgement.Goals as goal

pub returns-in-64 : goal.returns-in-64
returns-in-64 c = λ limits most.
    acknowledged c.number_laws.ensures limits c.args.bytes.now c.numbered.result (packets.PubAck c.in_ok-id.id) c.in_ok-id.id (λ i. omega (arith, c.type_inv.bytes i)) (omega arith) c.in-64.is (omega arith)
    (c.in_ok-id.ensures.value ∙ c.number_at.ensures) (omega (arith, c.in_ok-id.ensures.some.0 refl, c.in_ok-id.ensures.value), omega (arith, c.in_ok-id.ensures.value, c.number_at.type_inv)) refl
    c.numbered.ensures.size c.numbered.ensures.kind most

pub returns-in-80 : goal.returns-in-80
returns-in-80 c = λ limits most.
    acknowledged c.number_laws.ensures limits c.args.bytes.now c.numbered-in-80.result (packets.PubRec c.in_ok-id.id) c.in_ok-id.id (λ i. omega (arith, c.type_inv.bytes i)) (omega arith) c.in-80.is (omega arith)
    (c.in_ok-id.ensures.value ∙ c.number_at.ensures) (omega (arith, c.in_ok-id.ensures.some.0 refl, c.in_ok-id.ensures.value), omega (arith, c.in_ok-id.ensures.value, c.number_at.type_inv)) refl
    c.numbered-in-80.ensures.size c.numbered-in-80.ensures.kind most

pub returns-in-98 : goal.returns-in-98
returns-in-98 c = λ limits most.
    acknowledged c.number_laws.ensures limits c.args.bytes.now c.numbered-in-98.result (packets.PubRel c.in_ok-id.id) c.in_ok-id.id (λ i. omega (arith, c.type_inv.bytes i)) (omega arith) c.in-98.is (omega arith)
    (c.in_ok-id.ensures.value ∙ c.number_at.ensures) (omega (arith, c.in_ok-id.ensures.some.0 refl, c.in_ok-id.ensures.value), omega (arith, c.in_ok-id.ensures.value, c.number_at.type_inv)) refl
    c.numbered-in-98.ensures.size c.numbered-in-98.ensures.kind most

pub returns-in-112 : goal.returns-in-112
returns-in-112 c = λ limits most.
    acknowledged c.number_laws.ensures limits c.args.bytes.now c.numbered-in-112.result (packets.PubComp c.in_ok-id.id) c.in_ok-id.id (λ i. omega (arith, c.type_inv.bytes i)) (omega arith) c.in-112.is (omega arith)
    (c.in_ok-id.ensures.value ∙ c.number_at.ensures) (omega (arith, c.in_ok-id.ensures.some.0 refl, c.in_ok-id.ensures.value), omega (arith, c.in_ok-id.ensures.value, c.number_at.type_inv)) refl
    c.numbered-in-112.ensures.size c.numbered-in-112.ensures.kind most

pub returns-in-176 : goal.returns-in-176
returns-in-176 c = λ limits most.
    acknowledged c.number_laws.ensures limits c.args.bytes.now c.numbered-in-176.result (packets.UnsubAck c.in_ok-id.id) c.in_ok-id.id (λ i. omega (arith, c.type_inv.bytes i)) (omega arith) c.in-176.is (omega arith)
    (c.in_ok-id.ensures.value ∙ c.number_at.ensures) (omega (arith, c.in_ok-id.ensures.some.0 refl, c.in_ok-id.ensures.value), omega (arith, c.in_ok-id.ensures.value, c.number_at.type_inv)) refl
    c.numbered-in-176.ensures.size c.numbered-in-176.ensures.kind most
