use Rattle.std.proofs.Common.{◌<◌, length, arith}
use Rattle.mq_packet.specs.Encoding.{request_fields}
use Rattle.mq_packet.specs.Values.{IsRequest}
use Rattle.mq_decode.specs.Lists.{request_at}
use Rattle.mq_decode.proofs.ListLaws.{request_laws}
use Rattle.mq_decode.proofs.Items.{next_item}
use Rattle.mq_decode.proofs.Loops.{some_left}
use Rattle.mq_decode.proofs.list_views.first_request.Goals as goal

pub returns-clause-items : goal.returns-clause-items
returns-clause-items c =
    let left : 0 < length c.args.bytes.now = some_left c.is_empty.result _ c.is_empty.ensures c.if-is_empty.false in
    (next_item request_at request_fields IsRequest (request_laws (record { numbers = c.number_laws.ensures; texts = c.text_laws.ensures; lengths = c.length_laws.ensures })) c.args.bytes.now c.in-Ok.found.0 c.in-Ok.found.1.now (λ i. omega (arith, c.type_inv.bytes i)) left c.in-Ok.ensures.read c.requires).items

pub returns-clause-left : goal.returns-clause-left
returns-clause-left c =
    let left : 0 < length c.args.bytes.now = some_left c.is_empty.result _ c.is_empty.ensures c.if-is_empty.false in
    (next_item request_at request_fields IsRequest (request_laws (record { numbers = c.number_laws.ensures; texts = c.text_laws.ensures; lengths = c.length_laws.ensures })) c.args.bytes.now c.in-Ok.found.0 c.in-Ok.found.1.now (λ i. omega (arith, c.type_inv.bytes i)) left c.in-Ok.ensures.read c.requires).tested
