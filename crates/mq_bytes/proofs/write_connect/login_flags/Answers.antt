use Rattle.std.proofs.Common.{arith}
use Rattle.mq_bytes.proofs.Connecting.{name_alone, name_and_password}
use Rattle.mq_bytes.proofs.write_connect.login_flags.Goals as goal

pub returns-then-not-has_password-clause-some : goal.returns-then-not-has_password-clause-some
returns-then-not-has_password-clause-some c =
    name_alone c.args.user_name.now c.args.password.now c.args.has_user_name c.args.has_password c.if-not-has_user_name.false c.if-not-has_password.true (c.is_text.ensures.text.0 c.if-not-is_text.false)

pub returns-clause-some : goal.returns-clause-some
returns-clause-some c =
    name_and_password c.args.user_name.now c.args.password.now c.args.has_user_name c.args.has_password c.if-not-has_user_name.false c.if-not-has_password.false (c.is_text.ensures.text.0 c.if-not-is_text.false) (omega (arith, c.if-password-gt65535.false))
