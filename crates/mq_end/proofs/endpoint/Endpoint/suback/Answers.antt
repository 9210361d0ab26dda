use Rattle.std.proofs.Common.{◌≡◌, ◌+◌, ◌∙◌, ℕ, List, None, IsOk, length, ap, sym, subst}
use Rattle.mq_packet.specs.declared.message.Message.{Message}
use Rattle.mq_packet.specs.declared.packet.SubAckCode.{SubAckCode}
use Rattle.mq_end.specs.Server.{answer_refusal}
use Rattle.mq_end.specs.Ready.{HasRoom, whole_size}
use Rattle.mq_end.proofs.endpoint.Endpoint.suback.Goals as goal

pub answer-requires : goal.answer-requires
answer-requires c = ap (λ (codes : List SubAckCode). 2 + length codes) c.as_slice.ensures.value ∙ sym (c.size_laws.ensures.suback c.args.id c.args.codes)

pub returns-clause-kept : goal.returns-clause-kept
returns-clause-kept c =
    let old = c.args.self.now in
    subst (λ (n : ℕ). answer_refusal old.limit.most n old.end ≡ None → (ms : List Message) (more : ℕ) → HasRoom ms (whole_size n + more) old → IsOk c.answer.result × HasRoom ms more c.answer.new.self)
    (ap (λ (codes : List SubAckCode). 2 + length codes) c.as_slice.ensures.value) c.answer.ensures.kept
