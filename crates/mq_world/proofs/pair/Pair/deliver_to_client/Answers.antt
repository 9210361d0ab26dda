use Rattle.std.proofs.Common.{not, ◌&&◌, nat_lt, length, refl, ap, ◌∙◌}
use Rattle.mq_end.specs.End.{is_live}
use Rattle.mq_end.specs.Publishing.{ClientState}
use Rattle.mq_world.specs.declared.side.Side.TheVariants.{Client}
use Rattle.mq_world.specs.declared.answer.DeliveredBytes.{DeliveredBytes}
use Rattle.mq_world.specs.Carries.{Wired}
use Rattle.mq_world.specs.OverBytes.{left_on}
use Rattle.mq_world.specs.Pairs.{wired_of}
use Rattle.mq_world.specs.Listed.{accepted_in, handed_in}
use Rattle.mq_world.proofs.Worlds.{heard_at}
use Rattle.mq_world.proofs.pair.Pair.deliver_to_client.Goals as goal

pub returns-clause-delivered : goal.returns-clause-delivered
returns-clause-delivered c = λ limit capacity m s.
    let w : Wired = wired_of c.args.self.now in
    let a = c.tell.new.self in
    let v : Wired =
    record {
      client =
          record {
            state = c.take_all_output-output.new.self.link;
            clock = w.client.clock;
            wire = c.cut_off.new.wire;
            accepted = accepted_in a;
            handed = handed_in a;
            freed = a.freed.items;
          };
      server = record w.server { wire = c.carry.new.wire };
    } in
    let d : DeliveredBytes = record { side = Client; bytes = c.in_ok-bytes.bytes; lost = c.is_lost-lost.result; progress = c.receive-progress.result } in
    heard_at c.over_bytes.ensures limit capacity Client w v m c.args.count d c.as_slice.result.now c.receive-progress.new.self.link
    c.take_all_output-output.result s
    refl c.in_ok-bytes.ensures.bytes c.as_slice.ensures
    (c.is_lost-lost.ensures ∙ (λ i. not ((c.is_live-live.ensures ∙ ap is_live c.state.ensures) i) && nat_lt 0 (length (c.as_slice-2.ensures i))))
    c.receive-progress.ensures.open
    (λ off. ap (λ (z : ClientState). z.link) (c.receive-progress.ensures.closed off)) c.receive-progress.ensures.nothing
    (λ on. record { clock = refl; last_activity = c.receive-progress.ensures.last_activity }) (c.receive-progress.ensures.limit, c.receive-progress.ensures.capacity)
    (ap (λ (z : ClientState). z.link) c.take_all_output-output.ensures.left) refl
    (c.cut_off.ensures ∙ ap (left_on c.receive-progress.result.closed) c.in_ok-bytes.ensures.left)
    c.tell.ensures.accepted c.in_ok-tell.ensures.handed c.in_ok-tell.ensures.freed
    c.take_all_output-output.ensures.bytes c.in_ok-carry.ensures.ok refl
