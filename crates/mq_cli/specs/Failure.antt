-- How the program ends without a result.
use Rattle.std.specs.Prelude.{◌≡◌, ◌≢◌, ℕ}
use Rattle.std.specs.declared.io.ErrorKind.{ErrorKind}
use Rattle.std.specs.declared.io.ErrorKind.TheVariants.{OutOfMemory, BrokenPipe}
use Rattle.mq_cli.specs.declared.failure.Failure.{Failure}
use Rattle.mq_cli.specs.declared.failure.Failure.TheVariants.{Words, Memory, Output, Closed}

-- 2 for invalid arguments, 3 for a failed allocation, 4 if the output failed or was closed.
abbrev pub failure_status : Failure → ℕ
failure_status Words = 2
failure_status Memory = 3
failure_status Output = 4
failure_status Closed = 4

-- The failure for an error of a write, by its kind.
pub record IsOutputFailure (kind : ErrorKind) (failure : Failure) : Type 0 where
  pub memory : kind ≡ OutOfMemory → failure ≡ Memory
  pub closed : kind ≡ BrokenPipe → failure ≡ Closed
  pub output : kind ≢ OutOfMemory → kind ≢ BrokenPipe → failure ≡ Output
