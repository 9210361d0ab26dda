use Rattle.std.proofs.Common.{◌≡◌, ◌∙◌, sym, ap, subst}
use Rattle.mq_packet.specs.declared.packet.Packet.{Packet}
use Rattle.mq_packet.specs.declared.packet.Packet.TheVariants as packets
use Rattle.mq_end.specs.declared.state.State.{State}
use Rattle.mq_end.specs.declared.state.State.TheVariants as states
use Rattle.mq_end.specs.Receiving.{Gives, outcome_of}
use Rattle.mq_end.specs.Server.{server_gets_in}
use Rattle.mq_end.specs.State.{EndState}
use Rattle.mq_end.proofs.OnePacket.{takes_heard}
use Rattle.mq_end.proofs.endpoint.Endpoint.receive_publish.Goals as goal

pub returns-in_ok-handing-in-Connected-clause-open : goal.returns-in_ok-handing-in-Connected-clause-open
returns-in_ok-handing-in-Connected-clause-open c = λ live.
    let m = c.args.message.now in
    let p : Packet = packets.Publish (record { message = m; delivery = c.args.delivery }) in
    let old = c.args.self.now in
    let mid = c.take_delivery.new.self in
    let o = outcome_of c.in_ok-handing-in-Connected.handing m in
    let up : old.end.state ≡ states.Connected = ap (λ (s : EndState). s.end.state) (sym c.self.view_is) ∙ c.in-Connected.is in
    takes_heard c.args.now p o c.closed.result c.is_none.result old mid c.hear.new.self
    (subst (λ (s : State). Gives (server_gets_in s p old.end) o old mid) (sym up) (c.in_ok-handing-in-Connected.ensures.ok m))
    (c.closed.ensures m) c.is_none.ensures c.hear.ensures
