use Rattle.std.proofs.Common.{◌≡◌, ◌+◌, ℕ, List, true, false, subst}
use Rattle.mq_packet.specs.declared.message.Message.{Message}
use Rattle.mq_end.specs.End.{is_live, is_up}
use Rattle.mq_end.specs.Server.{server_gets}
use Rattle.mq_end.specs.Ready.{CanSend, HasRoom, is_exactly_once, packets_size}
use Rattle.mq_end.specs.State.{EndState}
use Rattle.mq_end.specs.Receiving.{Shows, TakesOne}
use Rattle.mq_end.proofs.Rooms.{taken_room, up_is_live}
use Rattle.mq_end.proofs.server.ServerEnd.on_packet.Goals as goal

pub returns-clause-open : goal.returns-clause-open
returns-clause-open c =
    subst (λ (l : EndState). is_live l.end.state ≡ true → TakesOne c.args.now c.args.packet l c.on_packet.new.self c.on_packet.result.happenings c.on_packet.result.acknowledged c.on_packet.result.closed) c.self.view_is
    c.on_packet.ensures.open

pub returns-clause-kept : goal.returns-clause-kept
returns-clause-kept c =
    let link = c.self.inside.link in
    let new = c.on_packet.new.self in
    let told = c.on_packet.result in
    subst (λ (l : EndState). is_up l.end.state ≡ true → (ms : List Message) (more : ℕ) → HasRoom ms (packets_size (server_gets c.args.packet l.end).out + more) l → HasRoom ms more new) c.self.view_is
    (λ up ms more. taken_room c.args.now c.args.packet link new told.happenings told.acknowledged told.closed ms more (c.on_packet.ensures.open (up_is_live link.end.state up)) up)

pub returns-clause-within : goal.returns-clause-within
returns-clause-within c =
    let told = c.on_packet.result in
    subst (λ (l : EndState). is_up l.end.state ≡ true → is_exactly_once c.args.packet ≡ false → CanSend (server_gets c.args.packet l.end).out l → Shows (server_gets c.args.packet l.end) l c.on_packet.new.self told.happenings told.acknowledged told.closed) c.self.view_is
    c.on_packet.ensures.within
