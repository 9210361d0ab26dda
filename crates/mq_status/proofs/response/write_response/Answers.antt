use Rattle.std.proofs.Common.{◌≡◌, ◌∙◌, ℕ, List, ap, length, subst, OnOk}
use Rattle.std.specs.Io.KnownBytes.{Appends}
use Rattle.mq_status.specs.Response.{body_text, head_lines}
use Rattle.mq_status.proofs.Texts.{and_then}
use Rattle.mq_status.proofs.response.write_response.Goals as goal

pub returns : goal.returns
returns g c =
    let w = g.W.Write.contents in
    let status = c.args.reply.status in
    let text : List ℕ = body_text status c.args.metrics.now c.args.rows.now in
    let sent : c.as_slice-text.result.now ≡ text = c.as_slice-text.ensures.value ∙ c.in_ok-body.ensures in
    let size : length c.as_slice-text.result.now ≡ length text = ap (λ (t : List ℕ). length t) sent in
    let head = subst (λ n. Appends (w c.args.output.now) (w c.write_head.new.output) (head_lines status n)) size c.in_ok-write_head.ensures in
    let body = subst (λ t. OnOk c.write_all.result (Appends (w c.write_head.new.output) (w c.write_all.new.self) t)) sent c.write_all.ensures.bytes in
    rw c.if-reply.false (and_then _ _ _ _ (head_lines status (length text)) text head body)
