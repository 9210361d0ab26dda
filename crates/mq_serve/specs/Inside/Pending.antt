-- Output that a connection did not take yet. Only proofs cite these definitions.
use Rattle.std.specs.Prelude.{Bool, false, Option, None, Some}
use Rattle.std.specs.declared.io.ErrorKind.{ErrorKind}
use Rattle.std.specs.declared.io.ErrorKind.TheVariants.{Interrupted, WouldBlock}
use Rattle.mq_serve.specs.declared.output.WriteNext.{WriteNext}
use Rattle.mq_serve.specs.declared.output.WriteNext.TheVariants.{Retry, Fail}

-- The next action after a failed write, with whether the connection took no bytes for too long. The
-- writer waits for room if there is none; any other error ends the connection.
abbrev pub after_failed_write : ErrorKind → Bool → Option WriteNext
after_failed_write Interrupted false = Some Retry
after_failed_write WouldBlock false = None
after_failed_write kind late = Some Fail
