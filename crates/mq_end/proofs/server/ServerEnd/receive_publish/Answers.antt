use Rattle.std.proofs.Common.{◌≡◌, ◌+◌, ℕ, List, true, false, IsOk, IfOk, subst}
use Rattle.mq_topic.specs.declared.qos.Qos.TheVariants.{Q2}
use Rattle.mq_packet.specs.declared.message.Message.{Message}
use Rattle.mq_packet.specs.declared.packet.Packet.{Packet}
use Rattle.mq_packet.specs.declared.packet.Packet.TheVariants as packets
use Rattle.mq_flow.specs.Sender.{same_qos}
use Rattle.mq_end.specs.End.{is_live, is_up}
use Rattle.mq_end.specs.Server.{server_gets}
use Rattle.mq_end.specs.Ready.{FitsRoom, HasRoom, packets_size}
use Rattle.mq_end.specs.State.{EndState}
use Rattle.mq_end.specs.Receiving.{TakesPacket, outcome_of}
use Rattle.mq_end.proofs.Rooms.{fits_sends}
use Rattle.mq_end.proofs.Rises.{publish_room}
use Rattle.mq_end.proofs.server.ServerEnd.receive_publish.Goals as goal

pub returns-clause-open : goal.returns-clause-open
returns-clause-open c =
    let took = c.receive_publish in
    let m = c.args.message.now in
    let p : Packet = packets.Publish (record { message = m; delivery = c.args.delivery }) in
    subst (λ (l : EndState). is_live l.end.state ≡ true → IfOk took.result (λ handing. TakesPacket c.args.now p (outcome_of handing m) l took.new.self)) c.self.view_is took.ensures.open

pub returns-clause-within : goal.returns-clause-within
returns-clause-within c =
    let took = c.receive_publish in
    let m = c.args.message.now in
    let p : Packet = packets.Publish (record { message = m; delivery = c.args.delivery }) in
    subst (λ (l : EndState). is_up l.end.state ≡ true → same_qos Q2 m.qos ≡ false → FitsRoom (server_gets p l.end).out l → IsOk took.result) c.self.view_is
    (λ up once fits. took.ensures.up up once (fits_sends (server_gets p c.self.inside.link.end).out c.self.inside.link fits))

pub returns-clause-kept : goal.returns-clause-kept
returns-clause-kept c =
    let took = c.receive_publish in
    let link = c.self.inside.link in
    let m = c.args.message.now in
    let p : Packet = packets.Publish (record { message = m; delivery = c.args.delivery }) in
    subst (λ (l : EndState). is_up l.end.state ≡ true → (ms : List Message) (more : ℕ) → HasRoom ms (packets_size (server_gets p l.end).out + more) l → HasRoom ms more took.new.self) c.self.view_is
    (λ up ms more h. publish_room took.result c.args.now m p link took.new.self ms more took.ensures.open took.ensures.err up h)
