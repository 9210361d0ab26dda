use Rattle.std.proofs.Common.{ap, ◌∙◌, ◌++◌, unwrap_or, []}
use Rattle.mq_end.proofs.SmallLists.{rest_runs}
use Rattle.mq_end.proofs.small_list.SmallListIntoIterator.into_iter.Goals as goal

pub returns : goal.returns
returns g c = record { into_iter_gives = (ap (λ rest. unwrap_or c.gathered.inside.first [] ++ rest) c.into_iter.ensures.rest ∙ ap (λ q. q.items) c.gathered.view_is ∙ c.self.view_is, rest_runs) }
