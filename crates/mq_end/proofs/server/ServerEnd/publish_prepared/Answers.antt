use Rattle.std.proofs.Common.{◌≡◌, ◌∷◌, ℕ, List, None, IsOk, subst}
use Rattle.mq_packet.specs.declared.message.Message.{Message}
use Rattle.mq_end.specs.Server.{server_publish_refusal}
use Rattle.mq_end.specs.Ready.{HasRoom}
use Rattle.mq_end.specs.State.{EndState}
use Rattle.mq_end.specs.Both.{publish_refusal}
use Rattle.mq_end.proofs.Rooms.{none_known}
use Rattle.mq_end.proofs.server.ServerEnd.publish_prepared.Goals as goal

pub returns-clause-kept : goal.returns-clause-kept
returns-clause-kept c =
    let m = c.args.message in
    let link = c.self.inside.link in
    subst (λ (l : EndState). server_publish_refusal l.limit.most l.capacity m l.end ≡ None → (rest : List Message) (more : ℕ) → HasRoom (m ∷ rest) more l → IsOk c.publish.result × HasRoom rest more c.publish.new.self) c.self.view_is
    (λ none. c.publish.ensures.kept (none_known link.end.known (publish_refusal link.limit.most link.capacity m link.end) none))
