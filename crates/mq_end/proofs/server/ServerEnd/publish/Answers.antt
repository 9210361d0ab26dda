use Rattle.std.proofs.Common.{◌≡◌, ◌∷◌, ℕ, List, None, IsOk, subst}
use Rattle.mq_packet.specs.declared.message.Message.{Message}
use Rattle.mq_end.specs.Server.{server_publish_refusal}
use Rattle.mq_end.specs.Ready.{HasRoom}
use Rattle.mq_end.proofs.server.ServerEnd.publish.Goals as goal

pub returns-clause-kept : goal.returns-clause-kept
returns-clause-kept c =
    let link = c.args.self.now in
    subst (λ (m : Message). server_publish_refusal link.limit.most link.capacity m link.end ≡ None → (rest : List Message) (more : ℕ) → HasRoom (m ∷ rest) more link → IsOk c.publish_prepared.result × HasRoom rest more c.publish_prepared.new.self)
    c.new.ensures c.publish_prepared.ensures.kept
