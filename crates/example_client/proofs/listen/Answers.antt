use Rattle.std.proofs.Common.{sym}
use Rattle.std.proofs.lemmas.List.{length-take-le}
use Rattle.example_client.proofs.listen.Goals as goal

pub slice_bounds-room-end : goal.slice_bounds-room-end
slice_bounds-room-end g c =
    (c.in-Some.ensures.read (g.S.Stream.coming c.write_all.new.self) (g.S.Stream.coming c.read.new.self) c.read.new.buffer c.read.ensures.comes).0

pub slice_bounds-receive-end : goal.slice_bounds-receive-end
slice_bounds-receive-end g c =
    sym (length-take-le c.in-Some.count c.read.new.buffer
    (c.in-Some.ensures.read (g.S.Stream.coming c.write_all.new.self) (g.S.Stream.coming c.read.new.self) c.read.new.buffer c.read.ensures.comes).0)
