use Rattle.std.proofs.Common.{◌<◌, length, arith}
use Rattle.mq_packet.specs.Encoding.{code_fields}
use Rattle.mq_packet.specs.Values.{Always}
use Rattle.mq_decode.specs.Lists.{suback_code_at}
use Rattle.mq_decode.proofs.ListLaws.{suback_code_laws}
use Rattle.mq_decode.proofs.Items.{next_item}
use Rattle.mq_decode.proofs.Loops.{some_left}
use Rattle.mq_decode.proofs.list_views.first_code.Goals as goal

pub returns-clause-items : goal.returns-clause-items
returns-clause-items c =
    let left : 0 < length c.args.bytes.now = some_left c.is_empty.result _ c.is_empty.ensures c.if-is_empty.false in
    (next_item suback_code_at code_fields Always suback_code_laws c.args.bytes.now c.in-Ok.found.0 c.in-Ok.found.1.now (λ i. omega (arith, c.type_inv.bytes i)) left c.in-Ok.ensures.read c.requires).items

pub returns-clause-left : goal.returns-clause-left
returns-clause-left c =
    let left : 0 < length c.args.bytes.now = some_left c.is_empty.result _ c.is_empty.ensures c.if-is_empty.false in
    (next_item suback_code_at code_fields Always suback_code_laws c.args.bytes.now c.in-Ok.found.0 c.in-Ok.found.1.now (λ i. omega (arith, c.type_inv.bytes i)) left c.in-Ok.ensures.read c.requires).tested
