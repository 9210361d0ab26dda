use Rattle.std.proofs.Common.{drop, sym, subst}
use Rattle.std.proofs.lemmas.Result.{on_ok_weaker}
use Rattle.mq_decode.specs.Gives.{BeginsWith}
use Rattle.mq_decode.proofs.Sharing.{begins_behind}
use Rattle.mq_decode.proofs.take.share_front.Goals as goal

pub returns-clause-copy : goal.returns-clause-copy
returns-clause-copy c =
    let bytes = c.args.bytes.now in
    on_ok_weaker c.split_to.result
    (λ e. subst (BeginsWith (drop c.args.size bytes)) (sym e) (begins_behind bytes c.copy_front.new.copy c.args.size c.in_ok-copy_front.ensures.whole c.in_ok-copy_front.ensures.copy))
    c.split_to.ensures.rest
