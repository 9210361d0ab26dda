use Rattle.std.proofs.Common.{◌++◌, drop, length, length-take-le, ◌≤◌, arith, sym}
use Rattle.std.proofs.lemmas.List.{length-append}
use Rattle.mq_pubsub_runs.proofs.packet_stream.PacketStreamStream.read.Goals as goal

pub slice_bounds-note-end : goal.slice_bounds-note-end
slice_bounds-note-end g c =
    let read = c.in-Some.ensures.read (g.S.Stream.coming c.args.self.now.inner) (g.S.Stream.coming c.read-outcome.new.self) c.read-outcome.new.buffer c.read-outcome.ensures.comes in
    let within : c.in-Some.count ≤ length c.read-outcome.new.buffer = read.0 in
    rw length-append (omega arith)

pub slice_bounds-note-end-in-Some : goal.slice_bounds-note-end-in-Some
slice_bounds-note-end-in-Some g c =
    let read = c.in-Some.ensures.read (g.S.Stream.coming c.args.self.now.inner) (g.S.Stream.coming c.read-outcome.new.self) c.read-outcome.new.buffer c.read-outcome.ensures.comes in
    let within : c.in-Some.count ≤ length c.read-outcome.new.buffer = read.0 in
    let whole = c.read-outcome.new.buffer ++ drop c.wanted-wanted.result c.args.buffer.now in
    let low : c.in-Some.count ≤ length whole = rw length-append (omega arith) in
    sym (length-take-le c.in-Some.count whole low)
