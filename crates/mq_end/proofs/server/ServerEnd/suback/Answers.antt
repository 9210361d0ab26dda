use Rattle.std.proofs.Common.{◌≡◌, ◌+◌, ℕ, List, None, IsOk, subst}
use Rattle.mq_packet.specs.declared.message.Message.{Message}
use Rattle.mq_end.specs.Server.{suback_refusal}
use Rattle.mq_end.specs.Sizes.{suback_size}
use Rattle.mq_end.specs.Ready.{HasRoom, whole_size}
use Rattle.mq_end.specs.State.{EndState}
use Rattle.mq_end.proofs.server.ServerEnd.suback.Goals as goal

pub returns-clause-kept : goal.returns-clause-kept
returns-clause-kept c =
    subst
    (λ (l : EndState). suback_refusal l.limit.most c.args.codes l.end ≡ None → (ms : List Message) (more : ℕ) → HasRoom ms (whole_size (suback_size c.args.codes) + more) l → IsOk c.suback.result × HasRoom ms more c.suback.new.self) c.self.view_is
    c.suback.ensures.kept
