-- Runs that are made of runs.
use Rattle.std.specs.Prelude.{ℕ, List, ◌++◌, replicate}
use Rattle.mq_world.specs.declared.side.Side.{Side}
use Rattle.mq_world.specs.Half.{Arrives}
use Rattle.mq_world.specs.Machine.{Machine, Move, By, Run}
use Rattle.mq_world.specs.Settling.{arrivals, settled}

-- Arrivals and settling add nothing that the moves could not do.
pub record RunsLaw : Type 0 where
  -- one run after another is a run
  pub joins : (limit capacity : ℕ) (start between machine : Machine) (first more : List Move) → Run limit capacity start first between
      → Run limit capacity between more machine → Run limit capacity start (first ++ more) machine
  -- Several arrivals at a side are a run.
  pub arrive : (limit capacity count : ℕ) (side : Side) (machine : Machine) → Run limit capacity machine (replicate count (By side Arrives)) (arrivals count side machine)
  -- and so is settling
  pub settle : (limit capacity : ℕ) (machine : Machine) → (moves : List Move) × Run limit capacity machine moves (settled machine)
