use Rattle.mq_status.proofs.Safe.{html_laws}
use Rattle.mq_status.proofs.html.html_laws.Goals as goal

pub returns : goal.returns
returns c = html_laws
