use Rattle.std.proofs.Common.{◌≡◌, ◌+◌, ℕ, List, true, subst}
use Rattle.mq_packet.specs.declared.message.Message.{Message}
use Rattle.mq_decode.specs.Views.{packet_of}
use Rattle.mq_end.specs.End.{is_live, is_up}
use Rattle.mq_end.specs.Server.{server_gets}
use Rattle.mq_end.specs.Ready.{CanSend, HasRoom, is_plain, packets_size}
use Rattle.mq_end.specs.State.{EndState}
use Rattle.mq_end.specs.Receiving.{Shows, TakesOne}
use Rattle.mq_end.proofs.Rooms.{taken_room, up_is_live}
use Rattle.mq_end.proofs.server.ServerEnd.on_view.Goals as goal

pub returns-clause-open : goal.returns-clause-open
returns-clause-open c =
    let told = c.on_view.result in
    subst (λ (l : EndState). is_live l.end.state ≡ true → TakesOne c.args.now (packet_of c.args.view.now) l c.on_view.new.self told.happenings told.acknowledged told.closed) c.self.view_is
    c.on_view.ensures.open

pub returns-clause-kept : goal.returns-clause-kept
returns-clause-kept c =
    let link = c.self.inside.link in
    let new = c.on_view.new.self in
    let told = c.on_view.result in
    let packet = packet_of c.args.view.now in
    subst (λ (l : EndState). is_up l.end.state ≡ true → (ms : List Message) (more : ℕ) → HasRoom ms (packets_size (server_gets packet l.end).out + more) l → HasRoom ms more new) c.self.view_is
    (λ up ms more. taken_room c.args.now packet link new told.happenings told.acknowledged told.closed ms more (c.on_view.ensures.open (up_is_live link.end.state up)) up)

pub returns-clause-within : goal.returns-clause-within
returns-clause-within c =
    let told = c.on_view.result in
    let packet = packet_of c.args.view.now in
    subst (λ (l : EndState). is_up l.end.state ≡ true → is_plain packet ≡ true → CanSend (server_gets packet l.end).out l → Shows (server_gets packet l.end) l c.on_view.new.self told.happenings told.acknowledged told.closed) c.self.view_is
    c.on_view.ensures.within
