-- The order in which messages are printed.
use Rattle.std.specs.Prelude.{List}
use Rattle.std.specs.Cmp.Lexicographic.{slice_cmp}
use Rattle.std.specs.List.Sorted.{IsPermutation, IsSortedByKey, IsStableByKey}
use Rattle.std.specs.Ordering.{nat_cmp}
use Rattle.mq_packet.specs.declared.message.Message.{Message}

-- the same messages, ascending by the bytes of their topic names (4.7); those of one topic are in
-- the order that they had
pub record IsOrdered (old new : List Message) : Type 0 where
  pub same : IsPermutation old new
  pub ascending : IsSortedByKey (λ m. m.topic) (slice_cmp nat_cmp) new
  pub kept : IsStableByKey (λ m. m.topic) (slice_cmp nat_cmp) old new
