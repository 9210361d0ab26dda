-- Steps that are made one after another.
use Rattle.std.proofs.Common.{◌≡◌, ◌≤◌, ℕ, List, [], ◌∷◌, ◌++◌, length, refl, subst}
use Rattle.mq_route.specs.declared.event.HubEvent.{HubEvent}
use Rattle.mq_route.specs.declared.reply.HubReply.{HubReply}
use Rattle.mq_book.specs.Connection.{Made, Chain}

-- chains follow one another
pub chain_then : {X : Type 0} (step : X → HubEvent → HubReply → X → Type 0) (x : X) (ms : List Made) (y : X) (ns : List Made) (z : X)
    → Chain step x ms y → Chain step y ns z → Chain step x (ms ++ ns) z
chain_then {X} step x [] y ns z is more = let P : X → Type 0 = λ u. Chain step u ns z in subst P is more
chain_then step x (m ∷ ms) y ns z c more = (c.0, c.1, chain_then step c.0 ms y ns z c.2 more)

-- a number of steps, at least this
pub record Ran {X : Type 0} (step : X → HubEvent → HubReply → X → Type 0) (least : ℕ) (x y : X) : Type 0 where
  pub made : List Made
  pub chain : Chain step x made y
  pub enough : least ≤ length made
