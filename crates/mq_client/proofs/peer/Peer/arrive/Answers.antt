use Rattle.std.proofs.Common.{[], refl}
use Rattle.mq_client.proofs.Courses.{Holds-nil, stays, went_then}
use Rattle.mq_client.proofs.peer.Peer.arrive.Goals as goal

pub returns-in-Some-eq0-clause-ok : goal.returns-in-Some-eq0-clause-ok
returns-in-Some-eq0-clause-ok g c =
    let counts = c.in-Some-eq0.ensures.read (g.S.Stream.coming c.self.inside.stream) (g.S.Stream.coming c.read.new.self) c.read.new.buffer c.read.ensures.comes in
    let none = rw c.in-Some-eq0.field-0-test at counts in
    rw (← c.self.view_is) none

pub returns-in-Some-clause-ok : goal.returns-in-Some-clause-ok
returns-in-Some-clause-ok g c = rw (← c.self.view_is) (c.in-Some.ensures.read (g.S.Stream.coming c.self.inside.stream) (g.S.Stream.coming c.read.new.self) c.read.new.buffer c.read.ensures.comes)

pub returns-in-None-clause-went : goal.returns-in-None-clause-went
returns-in-None-clause-went g c =
    let kept = c.in-None.ensures.read (g.S.Stream.coming c.self.inside.stream) (g.S.Stream.coming c.read.new.self) c.read.new.buffer c.read.ensures.comes in
    rw (← c.self.view_is) (went_then _ _ _ [] [] [] [] [] [] (stays _ _ _ _ _ _ _ _ _ _ kept c.read.ensures.written (Holds-nil _) refl) c.lose-in-None.ensures.went)
