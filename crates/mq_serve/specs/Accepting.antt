-- Accepting a fixed number of connections.
use Rattle.std.specs.Prelude.{◌≡◌, ◌⊎◌, ◌+◌, ◌||◌, ℕ, ℤ, pos, Bool, false, true, Option, None, Some, if◌then◌else◌}
use Rattle.std.specs.Ordering.{int_eq}
use Rattle.std.specs.declared.io.ErrorKind.{ErrorKind}
use Rattle.std.specs.declared.io.ErrorKind.TheVariants.{ConnectionAborted, Interrupted}
use Rattle.mq_serve.specs.declared.acceptor.Accepted.{Accepted}
use Rattle.mq_serve.specs.declared.acceptor.Accepted.TheVariants.{Connection, Later, Never}
use Rattle.mq_serve.specs.declared.acceptor.AfterFailure.{AfterFailure}
use Rattle.mq_serve.specs.declared.acceptor.AfterFailure.TheVariants as next

-- An acceptor: the number of connections that are still to be accepted, whether the listener failed
-- permanently, and the error number of that failure.
pub record AcceptorState : Type 0 where
  pub left : ℕ
  pub is_broken : Bool
  pub code : ℤ

-- An acceptor has this number of connections left, and has failed permanently or not. It returns
-- this result, and the last two arguments are its state after that. Only a connection is counted.
-- `Never` is returned only if all connections were accepted or the acceptor failed permanently.
abbrev pub IsTaken : ℕ → Bool → Accepted → ℕ → Bool → Type 0
IsTaken left broken (Connection stream) left_after broken_after = (left_after + 1 ≡ left) × (broken_after ≡ broken)
IsTaken left broken Later left_after broken_after = (left_after ≡ left) × (broken_after ≡ broken)
IsTaken left broken Never left_after broken_after = (left_after ≡ left) × ((left_after ≡ 0) ⊎ (broken_after ≡ true))

-- the listener is closed, is not a socket, or does not listen (EBADF, EINVAL, ENOTSOCK, EOPNOTSUPP)
abbrev pub is_dead : ℤ → Bool
is_dead code = int_eq code (pos 9) || (int_eq code (pos 22) || (int_eq code (pos 88) || int_eq code (pos 95)))

abbrev pub is_dead_by : Option ℤ → Bool
is_dead_by None = false
is_dead_by (Some code) = is_dead code

-- the next try after a failure of this kind and with this error number
abbrev pub after_failure : ErrorKind → Option ℤ → AfterFailure
after_failure Interrupted code = next.AtOnce
after_failure ConnectionAborted code = next.AtOnce
after_failure kind code = if is_dead_by code then next.Never else next.Later
