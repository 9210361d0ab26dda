use Rattle.std.proofs.Common.{◌≡◌, ℕ, ◌+◌, ◌*◌, ap, arith}
use Rattle.mq_packet.specs.Encoding.{bit}
use Rattle.mq_bytes.proofs.Connecting.{connect_gives}
use Rattle.mq_bytes.proofs.write_connect.encode_connect.Goals as goal

pub returns-clause-gives : goal.returns-clause-gives
returns-clause-gives c =
    let flags = ap (λ (k : ℕ). 2 * k + c.in-Some.will + c.in-Some-login_flags.login) c.bit.ensures.value in
    connect_gives c.length_laws.ensures c.args.client_id.now c.args.keep_alive c.args.clean_session c.args.has_will c.args.topic.now c.args.message.now c.args.qos c.args.retain c.args.has_user_name c.args.user_name.now c.args.has_password c.args.password.now c.in-Some.will c.in-Some-login_flags.login (2 * c.bit.result + c.in-Some.will + c.in-Some-login_flags.login) c.head-head.result c.args.out.now c.encode_fields.new.out c.encode_fields.result
    (c.is_text.ensures.text.0 c.if-not-is_text.false) (omega (arith, c.ranges.keep_alive.fits)) c.in-Some.ensures.some c.in-Some-login_flags.ensures.some flags c.head-head.ensures c.encode_fields.ensures.parts
