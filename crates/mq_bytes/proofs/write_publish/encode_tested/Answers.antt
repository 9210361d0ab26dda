use Rattle.mq_bytes.proofs.Published.{more_gives, once_gives}
use Rattle.mq_bytes.proofs.write_publish.encode_tested.Goals as goal

pub returns-then-id-eq0-clause-gives : goal.returns-then-id-eq0-clause-gives
returns-then-id-eq0-clause-gives c =
    once_gives c.length_laws.ensures c.args.topic.now c.args.payload.now c.args.qos c.args.retain c.args.dup c.args.id c.first_byte-first.result c.number-size.result c.args.out.now c.encode.new.out c.encode.result
    c.requires.delivery c.if-id-eq0.true c.requires.topic c.requires.payload c.first_byte-first.ensures c.number-size.ensures c.encode.ensures.parts

pub returns-clause-gives : goal.returns-clause-gives
returns-clause-gives c =
    more_gives c.length_laws.ensures c.args.topic.now c.args.payload.now c.args.qos c.args.retain c.args.dup c.args.id c.first_byte-first.result c.number-size.result c.number.result c.args.out.now c.encode-2.new.out c.encode-2.result
    c.requires.delivery c.if-id-eq0.false c.requires.topic c.requires.payload c.first_byte-first.ensures c.number-size.ensures c.number.ensures c.encode-2.ensures.parts
