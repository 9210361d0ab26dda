use Rattle.std.proofs.Common.{◌≡◌, sym, ap, subst, ◌∙◌}
use Rattle.mq_end.specs.End.{is_live}
use Rattle.mq_end.specs.State.{EndState, Room}
use Rattle.mq_world.specs.declared.side.Side.{Side}
use Rattle.mq_world.specs.declared.side.Side.TheVariants.{Client, Server}
use Rattle.mq_world.specs.Carries.{WiredSide, Wired}
use Rattle.mq_world.specs.OverBytes.{cut_off}
use Rattle.mq_world.specs.Pairs.{wired_of}
use Rattle.mq_world.specs.World.{IsLost}
use Rattle.mq_world.proofs.Worlds.{lost_at, cut_same}
use Rattle.mq_world.proofs.pair.Pair.lose.Goals as goal

pub returns-in-Client-clause-does : goal.returns-in-Client-clause-does
returns-in-Client-clause-does c = λ limit capacity m s.
    let w : Wired = wired_of c.args.self.now in
    let new : EndState = c.dropped.new.self.link in
    let v : Wired = record { client = record w.client { state = new; wire = c.clear.new.self }; server = w.server } in
    let e : v ≡ record { client = cut_off new w.client; server = w.server } =
    ap (λ (x : WiredSide). let u : Wired = record { client = x; server = w.server } in u)
    (cut_same w.client new c.clear.new.self c.dropped.ensures.output
    (ap (λ (r : Room). r.bytes) c.dropped.ensures.room ∙ s.carries.client.reserved) c.clear.ensures) in
    let lost = lost_at c.over_bytes.ensures limit capacity Client w v c.is_live-was_open.result new
    (c.is_live-was_open.ensures ∙ ap is_live c.state.ensures) c.dropped.ensures.end
    (c.dropped.ensures.limit, c.dropped.ensures.capacity) c.dropped.ensures.last_activity e in
    (sym c.in-Client.is, subst (λ (side : Side). IsLost limit capacity side c.is_live-was_open.result w v) (sym c.in-Client.is) lost)

pub returns-in-Server-clause-does : goal.returns-in-Server-clause-does
returns-in-Server-clause-does c = λ limit capacity m s.
    let w : Wired = wired_of c.args.self.now in
    let new : EndState = c.dropped-in-Server.new.self in
    let v : Wired = record { client = w.client; server = record w.server { state = new; wire = c.clear-in-Server.new.self } } in
    let e : v ≡ record { client = w.client; server = cut_off new w.server } =
    ap (λ (x : WiredSide). let u : Wired = record { client = w.client; server = x } in u)
    (cut_same w.server new c.clear-in-Server.new.self c.dropped-in-Server.ensures.output
    (ap (λ (r : Room). r.bytes) c.dropped-in-Server.ensures.room ∙ s.carries.server.reserved) c.clear-in-Server.ensures) in
    let lost = lost_at c.over_bytes.ensures limit capacity Server w v c.is_live-was_open-in-Server.result new
    (c.is_live-was_open-in-Server.ensures ∙ ap is_live c.state-in-Server.ensures) c.dropped-in-Server.ensures.end
    (c.dropped-in-Server.ensures.limit, c.dropped-in-Server.ensures.capacity) c.dropped-in-Server.ensures.last_activity e in
    (sym c.in-Server.is, subst (λ (side : Side). IsLost limit capacity side c.is_live-was_open-in-Server.result w v) (sym c.in-Server.is) lost)
