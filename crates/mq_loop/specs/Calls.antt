-- The calls of a loop on its broker: which steps were made, in which order, and when they were
-- committed.
use Rattle.std.specs.Prelude.{◌≡◌, ℕ, ◌≤◌, Bool, true, false, List, [], ◌∷◌, ◌++◌, Option, Some, None, if◌then◌else◌, map, slice_index_or}
use Rattle.mq_route.specs.declared.event.HubEvent.{HubEvent}
use Rattle.mq_route.specs.declared.event.HubEvent.TheVariants.{Opened, Bytes, Ended, Tick, Collect}
use Rattle.mq_route.specs.declared.reply.HubReply.{HubReply}
use Rattle.mq_loop.specs.Brokers.{is_input}

-- a step that a broker made
pub record Step : Type 0 where
  pub event : HubEvent
  pub reply : HubReply

-- A call on a broker that succeeded: a step, or a commit of all steps before it (`None`).
abbrev pub Call : Type 0
Call = Option Step

abbrev pub step : HubEvent → HubReply → Call
step event reply = Some record { event = event; reply = reply }

abbrev pub commit : Call
commit = None

-- calls, if they are known, followed by others
abbrev pub with_calls : Option (List Call) → List Call → Option (List Call)
with_calls None more = None
with_calls (Some calls) more = Some (calls ++ more)

-- Output is collected only when all steps before are committed. The flag says whether they are.
abbrev pub IsCovered : Bool → List Call → Type 0
IsCovered all [] = Unit {0}
IsCovered all (None ∷ calls) = IsCovered true calls
IsCovered all (Some step ∷ calls) =
    (is_input step.event ≡ false → all ≡ true)
    × IsCovered (if is_input step.event then false else all) calls

-- output is collected, and nothing else is done
abbrev pub AreCollects : List Call → Type 0
AreCollects [] = Unit {0}
AreCollects (None ∷ calls) = ⊥
AreCollects (Some step ∷ calls) = (is_input step.event ≡ false) × AreCollects calls

-- the place of the connection whose bytes a step handled
abbrev pub places_in : HubEvent → List ℕ
places_in (Opened conn) = []
places_in (Bytes conn piece) = conn.nth ∷ []
places_in (Ended conn) = []
places_in (Tick now) = []
places_in (Collect conn) = []

-- the places of the connections whose bytes were handled, in order
abbrev pub places_read : List Call → List ℕ
places_read [] = []
places_read (None ∷ calls) = places_read calls
places_read (Some step ∷ calls) = places_in step.event ++ places_read calls

-- each number satisfies it
abbrev pub Each : (ℕ → Type 0) → List ℕ → Type 0
Each P [] = Unit {0}
Each P (number ∷ numbers) = P number × Each P numbers

-- no number is greater than a later one
abbrev pub IsAscending : List ℕ → Type 0
IsAscending [] = Unit {0}
IsAscending (number ∷ numbers) = Each (λ later. number ≤ later) numbers × IsAscending numbers

-- The number of connections that were opened, and for each place the number of its connection among
-- them, which is its age: an older connection has a smaller one.
pub record Ages : Type 0 where
  pub opened : ℕ
  pub at_places : List ℕ

abbrev pub age_at : ℕ → Ages → ℕ
age_at place ages = slice_index_or ages.at_places place 0

-- the ages of the connections whose bytes were handled, in order
abbrev pub ages_read : Ages → List Call → List ℕ
ages_read ages calls = map (λ place. age_at place ages) (places_read calls)

-- The calls of a round on its broker, if they are known.
pub record IsRound (ages : Ages) (old new : Option (List Call)) : Type 0 where
  pub made : List Call
  pub calls : new ≡ with_calls old made
  -- output is collected, and so can be given to a socket, only after a commit of all steps before
  pub covered : IsCovered false made
  -- the bytes of an older connection are handled before those of a newer one
  pub oldest_first : IsAscending (ages_read ages made)

-- Output is collected.
pub record Collecting (old new : Option (List Call)) : Type 0 where
  pub made : List Call
  pub calls : new ≡ with_calls old made
  pub collects : AreCollects made

-- Bytes of the connection at a place are handled.
pub record Reads (place : ℕ) (old new : Option (List Call)) : Type 0 where
  pub made : List Call
  pub calls : new ≡ with_calls old made
  pub covered : IsCovered false made
  pub there : Each (λ other. other ≡ place) (places_read made)
