-- The acts of a step.
use Rattle.std.specs.Prelude.{ℕ, List}
use Rattle.mq_route.specs.declared.act.Act.{Act}

-- The acts up to now in order, and the number of further acts that there is room for.
pub record ActList : Type 0 where
  pub acts : List Act
  pub room : ℕ
