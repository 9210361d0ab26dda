use Rattle.std.proofs.Common.{refl, arith}
use Rattle.mq_bytes.proofs.Finding.{publish_found}
use Rattle.mq_bytes.proofs.frequent.publish.Goals as goal

pub returns : goal.returns
returns c =
    let flags = c.in_ok-flags.flags in
    let header = c.in_ok-header.header in
    publish_found c.length_laws.ensures c.args.limits c.args.bytes.now _ c.published.result flags.qos flags.dup flags.retain header.0 header.1 c.in_ok-topic.topic c.in_ok-delivery.delivery
    c.in_ok-flags.ensures c.in_ok-header.ensures.length c.in_ok-header.ensures.within.0 (omega (arith, c.in_ok-header.ensures.within.0, c.in_ok-header.ensures.within.1)) (omega arith) c.max_packet.ensures.most refl
    c.in_ok-topic.ensures.within c.in_ok-topic.ensures.name c.in_ok-topic.ensures.parts c.in_ok-delivery.ensures.fits c.in_ok-delivery.ensures.identifier c.in_ok-delivery.ensures.dup c.in_ok-delivery.ensures.parts
    c.published.ensures.size c.published.ensures.shows
