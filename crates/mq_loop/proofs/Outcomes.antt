-- Outcomes of reads and writes on a socket whose bytes are not known.
use Rattle.std.proofs.Common.{◌≤◌, ℕ, List, length, None, Result, Ok, Err, IfOk, refl}
use Rattle.std.specs.Io.{ReadsAtMost}
use Rattle.mq_stream.specs.declared.stream.ReadOutcome.{ReadOutcome}
use Rattle.mq_stream.specs.declared.stream.ReadOutcome.TheVariants as reads
use Rattle.mq_loop.specs.declared.socket.WriteOutcome.{WriteOutcome}
use Rattle.mq_loop.specs.declared.socket.WriteOutcome.TheVariants as writes
use Rattle.mq_loop.specs.Sockets.{ComesIn, GoesOut, IsTaken, IsWithin}

pub some_read : (buffer : List ℕ) (o : ReadOutcome) → IsWithin (length buffer) o → ComesIn None None buffer o
some_read buffer (reads.Bytes n) h = (h, refl)
some_read buffer reads.Nothing h = refl
some_read buffer reads.End h = refl
some_read buffer reads.Failed h = refl

pub some_written : (bytes : List ℕ) (o : WriteOutcome) → IsTaken (length bytes) o → GoesOut None None bytes o
some_written bytes (writes.Bytes n) h = (h, refl)
some_written bytes writes.Nothing h = refl
some_written bytes writes.Failed h = refl

pub within_buffer : {E : Type 0} → (r : Result ℕ E) (buffer : List ℕ) → ReadsAtMost r buffer → IfOk r (λ n. n ≤ length buffer)
within_buffer (Ok n) buffer h = h.0
within_buffer (Err e) buffer h = tt
