use Rattle.mq_status.proofs.Logins.{exact}
use Rattle.mq_status.proofs.Written.{reads}
use Rattle.mq_status.proofs.passwords.password_laws.Goals as goal

pub returns : goal.returns
returns c = record { exact = exact; reads = reads }
