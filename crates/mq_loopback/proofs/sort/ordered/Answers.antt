use Rattle.std.proofs.Common.{Bool, rules}
use Rattle.std.specs.Cmp.Lexicographic.{slice_cmp, nat_list_cmp_total}
use Rattle.std.specs.Ordering.{is_lt, nat_cmp}
use Rattle.std.proofs.lemmas.List.Sorted.{answers_always, ranks_by}
use Rattle.mq_packet.specs.declared.message.Message.{Message}
use Rattle.mq_loopback.proofs.sort.ordered.Goals as goal

pub returns : goal.returns
returns c =
    let by : Message → Message → Bool = λ x y. is_lt (slice_cmp nat_cmp x.topic y.topic) in
    let order = ranks_by nat_list_cmp_total (λ (m : Message). m.topic) in
    let compares = answers_always _ _ _ (λ f a r next called. search rules) in
    record {
      same = c.in_ok-sort_by.ensures.permutation;
      ascending = c.in_ok-sort_by.ensures.sorted by order compares;
      kept = c.in_ok-sort_by.ensures.stable by order compares;
    }
