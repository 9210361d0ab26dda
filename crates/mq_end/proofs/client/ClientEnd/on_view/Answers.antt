use Rattle.std.proofs.Common.{◌≡◌, true, ap, subst}
use Rattle.mq_decode.specs.Views.{packet_of}
use Rattle.mq_end.specs.End.{is_live, is_up}
use Rattle.mq_end.specs.Client.{client_gets}
use Rattle.mq_end.specs.Ready.{CanSend, is_plain}
use Rattle.mq_end.specs.State.{EndState}
use Rattle.mq_end.specs.Publishing.{ClientState}
use Rattle.mq_end.specs.Receiving.{ClientTakes, Shows}
use Rattle.mq_end.proofs.client.ClientEnd.on_view.Goals as goal

pub returns-clause-open : goal.returns-clause-open
returns-clause-open c =
    let told = c.on_view.result in
    subst (λ (l : EndState). is_live l.end.state ≡ true → ClientTakes c.args.now (packet_of c.args.view.now) l c.on_view.new.self told.happenings told.acknowledged told.closed) (ap (λ (s : ClientState). s.link) c.self.view_is)
    c.on_view.ensures.open

pub returns-clause-within : goal.returns-clause-within
returns-clause-within c =
    let told = c.on_view.result in
    let packet = packet_of c.args.view.now in
    subst
    (λ (l : EndState). is_up l.end.state ≡ true → is_plain packet ≡ true → CanSend (client_gets packet l.end).out l → Shows (client_gets packet l.end) l c.on_view.new.self told.happenings told.acknowledged told.closed)
    (ap (λ (s : ClientState). s.link) c.self.view_is) c.on_view.ensures.within
