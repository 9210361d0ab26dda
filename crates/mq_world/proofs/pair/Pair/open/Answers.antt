use Rattle.std.proofs.Common.{◌≡◌, true, false, [], ◌∷◌, refl, sym, ap, subst, ◌∙◌}
use Rattle.mq_end.specs.End.{is_live}
use Rattle.mq_end.specs.State.{EndState}
use Rattle.mq_end.specs.Publishing.{ClientState, connect_of}
use Rattle.mq_world.specs.Carries.{Wired}
use Rattle.mq_packet.specs.declared.connect.Connect.{Connect}
use Rattle.mq_packet.specs.declared.packet.Packet.TheVariants as packets
use Rattle.mq_end.specs.End.{over}
use Rattle.mq_end.specs.Client.{connects}
use Rattle.mq_end.specs.State.{PutsOut, Room}
use Rattle.mq_world.specs.Pairs.{wired_of}
use Rattle.mq_world.specs.declared.answer.Opening.{Opening}
use Rattle.mq_world.proofs.Worlds.{opened_at, refused_open, cut_same, on_ok, on_err, written_same}
use Rattle.mq_world.proofs.pair.Pair.open.Goals as goal

pub returns-then-is_err-clause-opened : goal.returns-then-is_err-clause-opened
returns-then-is_err-clause-opened c = λ limit capacity m s.
    let w : Wired = wired_of c.args.self.now in
    let a : EndState = c.dropped.new.self.link in
    let b : EndState = c.dropped-then-is_err.new.self in
    let o : Opening = record { client_dropped = c.is_live-client_dropped.result; server_dropped = c.is_live-server_dropped.result; refused = true } in
    let v : Wired =
    record {
      client = record w.client { state = a; wire = c.clear.new.self };
      server = record w.server { state = b; wire = c.clear-then-is_err.new.self };
    } in
    let same : c.connect.new.self ≡ c.args.self.now.client =
    on_err c.connect.result (c.connect.new.self ≡ c.args.self.now.client) c.if-is_err.ensures.value c.connect.ensures.err in
    let x = cut_same w.client a c.clear.new.self c.dropped.ensures.output
    (ap (λ (r : Room). r.bytes) c.dropped.ensures.room ∙ ap (λ (z : ClientState). z.link.room.bytes) same ∙ s.carries.client.reserved) c.clear.ensures in
    let y = cut_same w.server b c.clear-then-is_err.new.self c.dropped-then-is_err.ensures.output
    (ap (λ (r : Room). r.bytes) c.dropped-then-is_err.ensures.room ∙ s.carries.server.reserved) c.clear-then-is_err.ensures in
    refused_open c.over_bytes.ensures limit capacity w v o a b (c.is_live-client_dropped.ensures ∙ ap is_live c.state.ensures)
    (c.is_live-server_dropped.ensures ∙ ap is_live c.state-2.ensures) refl
    (c.dropped.ensures.end ∙ ap (λ (z : ClientState). over z.link.end) same)
    (c.dropped.ensures.limit ∙ ap (λ (z : ClientState). z.link.limit) same, c.dropped.ensures.capacity ∙ ap (λ (z : ClientState). z.link.capacity) same)
    c.dropped-then-is_err.ensures.end (c.dropped-then-is_err.ensures.limit, c.dropped-then-is_err.ensures.capacity)
    (c.dropped.ensures.last_activity ∙ ap (λ (z : ClientState). z.link.last_activity) same) c.dropped-then-is_err.ensures.last_activity (λ i. record { client = x i; server = y i })

pub returns-clause-opened : goal.returns-clause-opened
returns-clause-opened c = λ limit capacity m s.
    let w : Wired = wired_of c.args.self.now in
    let old : EndState = c.args.self.now.client.link in
    let a : EndState = c.connect.new.self.link in
    let b : EndState = c.opened.new.self in
    let first : Connect = connect_of c.args.self.now.client.config false in
    let o : Opening = record { client_dropped = c.is_live-client_dropped.result; server_dropped = c.is_live-server_dropped.result; refused = false } in
    let v : Wired =
    record {
      client = record w.client { state = c.take_all_output.new.self.link; wire = c.clear.new.self };
      server = record w.server { state = b; wire = c.take_all_output.result };
    } in
    let ce = on_ok c.connect.result (a.end ≡ (connects first old.end).end) c.if-is_err.ensures.value c.connect.ensures.end in
    let co = on_ok c.connect.result (PutsOut (packets.Connect first ∷ []) [] a.output) c.if-is_err.ensures.value c.connect.ensures.output in
    let ch = on_ok c.connect.result (a.held ≡ []) c.if-is_err.ensures.value c.connect.ensures.held in
    let cm = on_ok c.connect.result (a.last_activity ≡ w.client.clock) c.if-is_err.ensures.value c.connect.ensures.last_activity in
    opened_at c.over_bytes.ensures limit capacity w v o a b (c.is_live-client_dropped.ensures ∙ ap is_live c.state.ensures)
    (c.is_live-server_dropped.ensures ∙ ap is_live c.state-2.ensures) refl
    (ce ∙ ap (λ (z : Connect). (connects z old.end).end) c.requires.config)
    (subst (λ (z : Connect). PutsOut (packets.Connect z ∷ []) [] a.output) c.requires.config co) ch
    (c.connect.ensures.limit, c.connect.ensures.capacity) c.opened.ensures.end c.opened.ensures.held
    (c.opened.ensures.limit, c.opened.ensures.capacity) cm c.opened.ensures.last_activity
    (λ i. record {
      client = record w.client { state = ap (λ (z : ClientState). z.link) c.take_all_output.ensures.left i; wire = c.clear.ensures i };
      server = record w.server {
        state =
            sym (written_same b c.opened.ensures.output (ap (λ (r : Room). r.bytes) c.opened.ensures.room ∙ s.carries.server.reserved)) i;
        wire = c.take_all_output.ensures.bytes i;
      };
    })
