use Rattle.std.proofs.Common.{◌≡◌, ℕ, ◌+◌, List, ◌++◌, length, arith}
use Rattle.std.proofs.lemmas.List.{length-append}
use Rattle.mq_bytes.specs.Inside.Connects.{counted_if}
use Rattle.mq_bytes.proofs.Connecting.{connect_framed}
use Rattle.mq_bytes.proofs.write_connect.encode_fields.Goals as goal

pub returns-clause-parts : goal.returns-clause-parts
returns-clause-parts c =
    let topic : List ℕ = counted_if c.args.has_will c.args.topic.now in
    let message : List ℕ = counted_if c.args.has_will c.args.message.now in
    let name : List ℕ = counted_if c.args.has_user_name c.args.user_name.now in
    let password : List ℕ = counted_if c.args.has_password c.args.password.now in
    let rest : ℕ = length c.args.head.now + length c.args.client_id.now + (c.size_if.result + c.size_if-2.result) + (c.size_if-3.result + c.size_if-4.result) in
    let size : rest ≡ length c.args.head.now + length c.args.client_id.now + length (topic ++ message) + length (name ++ password) =
    omega (arith, c.size_if.ensures, c.size_if-2.ensures, c.size_if-3.ensures, c.size_if-4.ensures, length-append topic message, length-append name password) in
    connect_framed rest c.in_ok-at.at c.put-behind.result c.put-behind-2.result c.put_pair-behind.result c.put_pair.result c.args.head.now c.args.client_id.now (topic ++ message) (name ++ password)
    c.args.out.now c.begin.new.out c.put-behind.new.out c.put-behind-2.new.out c.put_pair-behind.new.out c.put_pair.new.out
    size c.in_ok-at.ensures.within c.in_ok-at.ensures.start c.in_ok-at.ensures.small c.in_ok-at.ensures.filled c.put-behind.ensures.written c.put-behind.ensures.end c.put-behind-2.ensures.written c.put-behind-2.ensures.end c.put_pair-behind.ensures.written c.put_pair-behind.ensures.end c.put_pair.ensures.written c.put_pair.ensures.end
