use Rattle.std.proofs.Common.{◌≡◌, ◌+◌, ◌*◌, ◌<◌, ◌^◌, List, arith, subst}
use Rattle.mq_flow.specs.declared.entry.SenderEntry.{SenderEntry}
use Rattle.mq_flow.specs.Sender.{resent}
use Rattle.mq_end.specs.Ready.{AreEncodable, packets_size}
use Rattle.mq_end.proofs.Rises.{always, resent_by, resent_encodable, sum_is}
use Rattle.mq_end.proofs.Rooms.{published}
use Rattle.mq_end.proofs.reserve_connect.size_of_resent.Goals as goal

pub returns-clause-size : goal.returns-clause-size
returns-clause-size c =
    let book = c.args.sender.now.book in
    let releases = c.in_ok-releases.releases in
    let messages = c.in_ok-messages.messages in
    let whole = resent_by book c.entries.result c.released.result messages c.entries.ensures.rest c.released.ensures c.in_ok-messages.ensures.size in
    let times : releases ≡ c.released.result * 7 = c.in_ok-releases.ensures.1 in
    sum_is c.checked_add.result (releases + messages < 2 ^ 64) (releases + messages) (packets_size (resent book)) c.checked_add.ensures (omega arith)

pub returns-clause-encodable : goal.returns-clause-encodable
returns-clause-encodable c =
    always c.checked_add.result (AreEncodable (resent c.args.sender.now.book))
    (resent_encodable c.args.sender.now.book (subst (λ (es : List SenderEntry). AreEncodable (published es)) c.entries.ensures.rest c.in_ok-messages.ensures.encodable))
