-- Bytes for an end that does not connect.
use Rattle.std.specs.Prelude.{◌≡◌, ℕ, false, true, List, [], ◌∷◌, Option}
use Rattle.mq_wire.specs.Bytes.{AreBytes}
use Rattle.mq_end.specs.declared.happening.Happening.{Happening}
use Rattle.mq_end.specs.declared.reason.CloseReason.{CloseReason}
use Rattle.mq_end.specs.End.{is_live}
use Rattle.mq_end.specs.State.{EndState}
use Rattle.mq_route.specs.Bounds.Costs.{has_up_event}

-- A piece arrives, and the end does not connect: the first CONNECT or CONNACK is incomplete or
-- refused. An end without a connection ignores the piece (4.2).
pub data WaitsOn (receives : List ℕ → EndState → EndState → List Happening → List ℕ → Option CloseReason → Type 0) (piece : List ℕ) (old new : EndState) : Type 0 where
  Hears : (happenings : List Happening) (acknowledged : List ℕ) (closed : Option CloseReason) → AreBytes piece → is_live old.end.state ≡ true → receives piece old new happenings acknowledged closed
      → has_up_event happenings ≡ false → new.limit ≡ old.limit → WaitsOn receives piece old new
  Ignores : is_live old.end.state ≡ false → new ≡ old → WaitsOn receives piece old new

-- pieces arrive one after another
abbrev pub WaitsThrough : (List ℕ → EndState → EndState → List Happening → List ℕ → Option CloseReason → Type 0) → List (List ℕ) → EndState → EndState → Type 0
WaitsThrough receives [] old new = new ≡ old
WaitsThrough receives (piece ∷ pieces) old new = (next : EndState) × WaitsOn receives piece old next × WaitsThrough receives pieces next new
