use Rattle.std.proofs.Common.{◌≡◌, ◌+◌, ℕ, List, true, false, IsOk, IfOk, subst}
use Rattle.mq_packet.specs.declared.connect.Connect.{Connect}
use Rattle.mq_packet.specs.declared.message.Message.{Message}
use Rattle.mq_packet.specs.declared.packet.Packet.TheVariants as packets
use Rattle.mq_end.specs.End.{is_live, is_up}
use Rattle.mq_end.specs.Server.{server_gets}
use Rattle.mq_end.specs.Ready.{AwaitsConnect, FitsRoom, HasConnectRoom, HasRoom, is_exactly_once, packets_size}
use Rattle.mq_end.specs.State.{EndState}
use Rattle.mq_end.specs.Receiving.{TakesPacket}
use Rattle.mq_end.proofs.Rooms.{fits_sends}
use Rattle.mq_end.proofs.Rises.{packet_room, rises_room}
use Rattle.mq_end.proofs.server.ServerEnd.take_packet.Goals as goal

pub returns-clause-open : goal.returns-clause-open
returns-clause-open c =
    let took = c.take_packet in
    subst (λ (l : EndState). is_live l.end.state ≡ true → IfOk took.result (λ outcome. TakesPacket c.args.now c.args.packet outcome l took.new.self)) c.self.view_is took.ensures.open

pub returns-clause-within : goal.returns-clause-within
returns-clause-within c =
    let took = c.take_packet in
    subst (λ (l : EndState). is_up l.end.state ≡ true → is_exactly_once c.args.packet ≡ false → FitsRoom (server_gets c.args.packet l.end).out l → IsOk took.result) c.self.view_is
    (λ up once fits. took.ensures.up up once (fits_sends (server_gets c.args.packet c.self.inside.link.end).out c.self.inside.link fits))

pub returns-clause-kept : goal.returns-clause-kept
returns-clause-kept c =
    let took = c.take_packet in
    let link = c.self.inside.link in
    subst (λ (l : EndState). is_up l.end.state ≡ true → (ms : List Message) (more : ℕ) → HasRoom ms (packets_size (server_gets c.args.packet l.end).out + more) l → HasRoom ms more took.new.self) c.self.view_is
    (λ up ms more h. packet_room took.result c.args.now c.args.packet link took.new.self ms more took.ensures.open took.ensures.err up h)

pub returns-clause-connects : goal.returns-clause-connects
returns-clause-connects c =
    let took = c.take_packet in
    let link = c.self.inside.link in
    subst (λ (l : EndState). (connect : Connect) → c.args.packet ≡ packets.Connect connect → AwaitsConnect l → (ms : List Message) (more : ℕ) → HasConnectRoom connect ms more l → IsOk took.result × HasRoom ms more took.new.self) c.self.view_is
    (λ connect is w ms more h. rises_room took.result c.args.now connect c.args.packet link took.new.self ms more is w h took.ensures.open took.ensures.connects)
