-- The meaning of a text as a schedule.
use Rattle.std.specs.Prelude.{◌≡◌, ⊤, ℕ, Option, Some, None, ◌^◌, ◌≤◌, ◌<◌, List}
use Rattle.std.specs.List.{All}
use Rattle.std.specs.Int.NonZero.{non_zero_u16_get}
use Rattle.mq_schedule.specs.declared.schedule.Schedule.{Schedule}
use Rattle.mq_schedule.specs.Schedule.{IsBadLine, IsSchedule, lines_of, number_of}
use Rattle.mq_schedule.specs.Parts.{KeepsBounds}
use Rattle.mq_schedule.specs.Writing.{schedule_text}

-- two schedules with the same limit, capacity, window and steps
pub record SameSchedule (one other : Schedule) : Type 0 where
  pub limits : one.limits ≡ other.limits
  pub capacity : non_zero_u16_get one.capacity ≡ non_zero_u16_get other.capacity
  pub window : number_of one.window ≡ number_of other.window
  pub steps : one.steps.items ≡ other.steps.items

-- a receiving window, if there is one, has room, and so few places that two bytes count them
abbrev pub KeepsWindow : Option ℕ → Type 0
KeepsWindow None = ⊤
KeepsWindow (Some window) = (1 ≤ window) × (window < 2 ^ 16)

-- the limit is one (2.2.3), identifiers may be in use (2.3.1), and the window and each step keep
-- their bounds
pub record InBounds (schedule : Schedule) : Type 0 where
  pub least : 64 ≤ schedule.limits.most
  pub most : schedule.limits.most < 2 ^ 28
  pub some : 1 ≤ non_zero_u16_get schedule.capacity
  pub few : non_zero_u16_get schedule.capacity < 2 ^ 16
  pub window : KeepsWindow (number_of schedule.window)
  pub steps : All KeepsBounds schedule.steps.items

-- The laws of schedules.
pub record ScheduleLaws : Type 0 where
  -- lines are at most one schedule
  pub one_schedule : (lines : List (List ℕ)) (schedule other : Schedule) → IsSchedule lines schedule → IsSchedule lines other → SameSchedule schedule other
  -- lines that are a schedule have no line that is of no kind
  pub not_both : (lines : List (List ℕ)) (schedule : Schedule) (number : ℕ) → IsSchedule lines schedule → ¬ IsBadLine lines number
  -- The text form of a schedule is read back, if each of its parts is within its bounds.
  pub read_back : (schedule : Schedule) → InBounds schedule → IsSchedule (lines_of (schedule_text schedule)) schedule
