use Rattle.std.proofs.Common.{◌+◌, arith}
use Rattle.std.specs.Ordering.{nat_cmp}
use Rattle.std.specs.Prelude.{slice_index_or}
use Rattle.mq_loop.proofs.Ages.{older}
use Rattle.mq_loop.proofs.turns.sort_turns.Goals as goal

pub returns : goal.returns
returns c = λ nth other within.
    let turns = c.sort_unstable.new.self.items in
    let first = slice_index_or turns nth other in
    let next = slice_index_or turns (nth + 1) other in
    older next.age first.age (nat_cmp next.place first.place) (c.sort_unstable.ensures.sorted nth other (omega arith) within)
