use Rattle.std.proofs.Common.{ℕ, ◌≤◌, Option, sym, ap, subst, ◌∙◌, arith}
use Rattle.std.specs.List.{All}
use Rattle.mq_decode.specs.Limits.{Bounds}
use Rattle.mq_flow.specs.declared.entry.SenderEntry.{SenderEntry}
use Rattle.mq_flow.specs.Saved.{AreWithin}
use Rattle.mq_end.specs.End.{End, is_live, over, resumed}
use Rattle.mq_end.specs.Publishing.{ClientState}
use Rattle.mq_end.specs.Sizes.{publish_size}
use Rattle.mq_end.specs.State.{EndState}
use Rattle.mq_world.specs.Carries.{Wired}
use Rattle.mq_world.specs.Pairs.{wired_of}
use Rattle.mq_world.proofs.Anew.{can_be_saved, can_be_loaded, restarted_at, not_restarted_at}
use Rattle.mq_world.proofs.pair.Pair.restart.Goals as goal

pub returns-in_default-clause-does : goal.returns-in_default-clause-does
returns-in_default-clause-does c = λ limit capacity m s.
    not_restarted_at c.over_bytes.ensures limit capacity (wired_of c.args.self.now) m c.is_live-was_open.result c.dropped.new.self.link
    c.clear.new.self s (c.is_live-was_open.ensures ∙ ap is_live c.state.ensures) c.dropped.ensures.end
    (c.dropped.ensures.limit, c.dropped.ensures.capacity) c.dropped.ensures.last_activity c.dropped.ensures.output c.dropped.ensures.room c.clear.ensures

pub returns-in_default-made_anew-clause-does : goal.returns-in_default-made_anew-clause-does
returns-in_default-made_anew-clause-does c = λ limit capacity m s.
    not_restarted_at c.over_bytes.ensures limit capacity (wired_of c.args.self.now) m c.is_live-was_open.result c.dropped.new.self.link
    c.clear.new.self s (c.is_live-was_open.ensures ∙ ap is_live c.state.ensures) c.dropped.ensures.end
    (c.dropped.ensures.limit, c.dropped.ensures.capacity) c.dropped.ensures.last_activity c.dropped.ensures.output c.dropped.ensures.room c.clear.ensures

pub made_anew-requires-clause-saves : goal.made_anew-requires-clause-saves
made_anew-requires-clause-saves c =
    let s = c.requires.stands in
    subst (λ (e : End). AreWithin 268435455 e.book.entries) (sym c.dropped.ensures.end)
    (can_be_saved c.args.terms.limits c.args.terms.capacity (wired_of c.args.self.now) s.0 s.1 (omega (arith, c.max_packet-most.ensures.most)))

pub made_anew-requires-clause-loads : goal.made_anew-requires-clause-loads
made_anew-requires-clause-loads c =
    let s = c.requires.stands in
    subst (λ (n : Bounds). All (λ (e : SenderEntry). publish_size e.message ≤ n.most) c.dropped.new.self.link.end.book.entries) (sym c.in-Ok.ensures.limits)
    (subst (λ (e : End). All (λ (e : SenderEntry). publish_size e.message ≤ c.args.terms.limits.most) e.book.entries) (sym c.dropped.ensures.end)
    (can_be_loaded c.args.terms.limits c.args.terms.capacity (wired_of c.args.self.now) s.0 s.1))

pub returns-clause-does : goal.returns-clause-does
returns-clause-does c = λ limit capacity m s.
    let w : Wired = wired_of c.args.self.now in
    let old : End = over w.client.state.end in
    let new : EndState = c.in-Ok-made_anew.client.link in
    let v : Wired = record { client = record w.client { state = c.take_all_output-none.new.self.link; wire = c.clear.new.self }; server = w.server } in
    restarted_at c.over_bytes.ensures limit capacity w v c.is_live-was_open.result new (c.is_live-was_open.ensures ∙ ap is_live c.state.ensures)
    (c.in-Ok-made_anew.ensures.end
    ∙ ap (λ (e : End). resumed c.in-Ok.config.window e.known e.book e.received e.last) c.dropped.ensures.end
    ∙ ap (λ (o : Option ℕ). resumed o old.known old.book old.received old.last) (c.in-Ok.ensures.window ∙ sym c.requires.window)) (
      c.in-Ok-made_anew.ensures.limit ∙ c.in-Ok.ensures.limits ∙ sym c.requires.stands.1.carries.client.limits,
      c.in-Ok-made_anew.ensures.capacity ∙ c.dropped.ensures.capacity,
    )
    (λ i. record {
      client = record w.client { state = ap (λ (z : ClientState). z.link) c.take_all_output-none.ensures.left i; wire = c.clear.ensures i };
      server = w.server;
    })
