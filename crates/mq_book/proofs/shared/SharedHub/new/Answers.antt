use Rattle.std.proofs.Common.{◌≡◌, ◌∙◌, ap, arith}
use Rattle.mq_book.specs.Pages.{below}
use Rattle.mq_book.proofs.shared.SharedHub.new.Goals as goal

pub returns-clause-numbers : goal.returns-clause-numbers
returns-clause-numbers g c =
    let all : c.loop-worker.worker ≡ c.args.workers =
    omega (arith, c.loop-worker-test.false, c.loop-worker.auto.worker-end) in
    c.loop-worker.invariant.4 ∙ ap below all
