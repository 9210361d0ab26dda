use Rattle.std.proofs.Common.{ℕ, List, ap, subst}
use Rattle.mq_packet.specs.declared.connect.Connect.{Connect}
use Rattle.mq_packet.specs.declared.message.Message.{Message}
use Rattle.mq_end.specs.Ready.{HasConnectRoom}
use Rattle.mq_end.specs.State.{EndState}
use Rattle.mq_end.proofs.Rises.{opened_rise}
use Rattle.mq_end.proofs.server.ServerEnd.opened.Goals as goal

pub returns-clause-connect_end : goal.returns-clause-connect_end
returns-clause-connect_end c =
    let link = c.self.inside.link in
    let made = c.open_connection in
    subst (λ (l : EndState). (connect : Connect) (ms : List Message) (more : ℕ) → HasConnectRoom connect ms more l → HasConnectRoom connect ms more made.new.self) c.self.view_is
    (λ connect ms more h. opened_rise connect ms more link made.new.self (ap (λ (s : EndState). s.end) made.ensures) (ap (λ (s : EndState). s.room) made.ensures) h)
