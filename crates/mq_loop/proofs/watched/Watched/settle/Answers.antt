use Rattle.std.proofs.Common.{◌∙◌, ap, subst}
use Rattle.mq_loop.specs.Inside.Calls.{Quietly}
use Rattle.mq_loop.specs.Rounds.{WatchedState}
use Rattle.mq_loop.proofs.Calling.{quiet_then}
use Rattle.mq_loop.proofs.watched.Watched.settle.Goals as goal

pub returns-in_err-commit_and_give-clause-calls : goal.returns-in_err-commit_and_give-clause-calls
returns-in_err-commit_and_give-clause-calls g c =
    let ended = c.end_all.new.self.served.calls in
    quiet_then c.args.self.now.served.calls ended c.commit_and_give.new.self.served.calls
    (subst (λ (v : WatchedState). Quietly v.served.calls ended) c.self.view_is c.end_all.ensures.calls) c.commit_and_give.ensures.calls

pub loop-self-init : goal.loop-self-init
loop-self-init g c =
    let e = c.in_ok-commit_and_give.ensures in
    let ended = c.end_all.new.self.served.calls in
    record {
      marked = e.marked;
      committed = e.committed;
      calls = quiet_then c.args.self.now.served.calls ended c.commit_and_give.new.self.served.calls
          (subst (λ (v : WatchedState). Quietly v.served.calls ended) c.self.view_is c.end_all.ensures.calls) e.calls;
      base = e.base ∙ (c.end_all.ensures.base ∙ ap (λ (v : WatchedState). v.served.base) c.self.view_is);
    }

pub loop-self-preserved : goal.loop-self-preserved
loop-self-preserved g c =
    let i = c.loop-self.invariant in
    let d = c.end_all-in-loop-self.ensures in
    let e = c.in_ok-commit_and_give-2.ensures in
    let first = c.args.self.now.served.calls in
    let ended = c.end_all-in-loop-self.new.self.served.calls in
    record {
      marked = e.marked;
      committed = e.committed;
      calls = quiet_then first ended c.commit_and_give-in-loop-self.new.self.served.calls
          (quiet_then first c.loop-self.self.served.calls ended i.calls d.calls) e.calls;
      base = e.base ∙ (d.base ∙ i.base);
    }

pub returns-in_err-commit_and_give-2-clause-calls : goal.returns-in_err-commit_and_give-2-clause-calls
returns-in_err-commit_and_give-2-clause-calls g c =
    let first = c.args.self.now.served.calls in
    let ended = c.end_all-in-loop-self.new.self.served.calls in
    quiet_then first ended c.commit_and_give-in-loop-self.new.self.served.calls
    (quiet_then first c.loop-self.self.served.calls ended c.loop-self.invariant.calls c.end_all-in-loop-self.ensures.calls)
    c.commit_and_give-in-loop-self.ensures.calls
