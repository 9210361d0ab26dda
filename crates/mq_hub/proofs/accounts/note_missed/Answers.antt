use Rattle.std.proofs.Common.{◌∙◌, ◌<◌, ◌++◌, ◌∷◌, [], ℕ, List, length, get_or, slice_set, sym, ap, arith}
use Rattle.mq_packet.specs.declared.message.Message.{Message}
use Rattle.mq_route.specs.declared.act.Act.TheVariants.{Missed}
use Rattle.mq_route.specs.declared.trace.ClientLog.{ClientLog}
use Rattle.mq_hub.proofs.ClientLogs.{found, past, missed_other, missed_own}
use Rattle.mq_hub.proofs.LastActivity.{on_ok}
use Rattle.mq_hub.proofs.accounts.note_missed.Goals as goal

pub returns-then-at-accounts : goal.returns-then-at-accounts
returns-then-at-accounts c =
    let p = c.args.key in
    let m = c.args.message.now in
    sym (past (Missed p m) p (missed_other p m) 0 p c.args.accounts.now (omega arith) (omega (arith, c.if-at-accounts.true, c.get-at.ensures)))

pub returns : goal.returns
returns c =
    let p = c.args.key in
    let m = c.args.message.now in
    let list : List ClientLog = c.args.accounts.now in
    let at : ℕ = c.get-at.result in
    let d : ClientLog = c.index-accounts-at.result in
    let here : p < length list = omega (arith, c.if-at-accounts.false, c.get-at.ensures) in
    on_ok c.append.result
    (λ is. ap (λ (ms : List Message). slice_set list at (record (get_or list at d) { missed = ms })) is
    ∙ ap (λ (n : ℕ). slice_set list n (record (get_or list n d) { missed = (get_or list n d).missed ++ m ∷ [] })) c.get-at.ensures
    ∙ ap (λ (a : ClientLog). slice_set list p a) (sym (missed_own p m (get_or list p d)))
    ∙ sym (found (Missed p m) p (missed_other p m) 0 p d list (omega arith) here))
    c.append.ensures
