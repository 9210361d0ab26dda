use Rattle.std.proofs.Common.{◌≡◌, ℕ, List, ◌++◌, length, take, subst}
use Rattle.std.proofs.lemmas.Result.{on_ok_weaker, on_err_weaker}
use Rattle.mq_flow.specs.Saved.{saved_sender}
use Rattle.mq_flow.proofs.Books.{laws}
use Rattle.mq_flow.proofs.Fronts.{front_kept}
use Rattle.mq_flow.proofs.save.put_state.Goals as goal

pub returns-clause-session : goal.returns-clause-session
returns-clause-session c = on_ok_weaker c.put-2.result (λ done. λ within.
    let sender = c.in_ok-put.ensures.sender within in
    record {
      sound = laws.drops c.args.session.now.sender.capacity c.args.session.now.sender.book sender.sound;
      able = sender.able;
      most = sender.most;
      last = sender.last;
      entries = sender.entries;
      received = c.put-2.ensures.received;
    }) c.put-2.ensures.ok

pub returns-clause-err : goal.returns-clause-err
returns-clause-err c =
    let old = c.args.out.now.items in
    let new = c.put-2.new.out.items in
    let sender = saved_sender c.args.session.now.sender in
    on_err_weaker c.put-2.result (λ kept. front_kept old sender new (subst (λ (b : List ℕ). take (length b) new ≡ b) c.in_ok-put.ensures.ok kept)) c.put-2.ensures.err
