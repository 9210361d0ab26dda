use Rattle.std.proofs.Common.{◌≡◌, ◌∙◌, ◌+◌, ◌<◌, ◌++◌, ◌∷◌, [], ℕ, List, length, take, sym, ap, subst, add-one, append_assoc, arith}
use Rattle.std.proofs.Math.Seq.{take-suc}
use Rattle.mq_route.specs.declared.act.Act.{Act}
use Rattle.mq_route.specs.declared.trace.ClientLog.{ClientLog}
use Rattle.mq_route.specs.Runs.{AreAccounts}
use Rattle.mq_hub.proofs.ClientLogs.{accounts_noted, count_noted}
use Rattle.mq_hub.proofs.accounts.note_all.Goals as goal

pub loop-act-preserved : goal.loop-act-preserved
loop-act-preserved c =
    let log_acts : List Act = c.args.acts.now in
    let i = c.loop-act.act-index in
    let d = c.act-item.result in
    let l : i < length log_acts = omega (arith, c.loop-act-test.true) in
    let old : List ClientLog = c.loop-act.accounts in
    let new : List ClientLog = c.note.new.accounts in
    let front : take (i + 1) log_acts ≡ take i log_acts ++ d ∷ [] =
    ap (λ (n : ℕ). take n log_acts) (add-one i) ∙ take-suc log_acts i d l ∙ ap (λ (a : Act). take i log_acts ++ a ∷ []) (sym c.act-item.is) in
    record {
      accounts = λ log were.
          subst (λ (all : List Act). AreAccounts 0 all new) (append_assoc log (take i log_acts) (d ∷ []) ∙ ap (λ (xs : List Act). log ++ xs) (sym front))
          (subst (λ (list : List ClientLog). AreAccounts 0 (log ++ take i log_acts ++ d ∷ []) list) (sym c.in_ok-note.ensures)
          (accounts_noted 0 (log ++ take i log_acts) d old (c.loop-act.invariant.accounts log were)));
      count = ap (λ (list : List ClientLog). length list) c.in_ok-note.ensures ∙ count_noted 0 d old ∙ c.loop-act.invariant.count;
    }
