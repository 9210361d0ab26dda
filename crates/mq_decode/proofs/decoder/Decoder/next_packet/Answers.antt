use Rattle.std.proofs.Common.{◌≡◌, ◌≤◌, ◌++◌, ℕ, Option, None, IfSome}
use Rattle.mq_decode.specs.declared.fault.DecodeError.{DecodeError}
use Rattle.mq_decode.proofs.Streams.{next_pending, nothing_failed}
use Rattle.mq_decode.proofs.decoder.Decoder.next_packet.Goals as goal

small_if_failed : (failed : Option DecodeError) (capacity : ℕ) → failed ≡ None → IfSome failed (λ _. capacity ≤ 4096)
small_if_failed failed capacity is = rw is tt

pub invariant_of-self : goal.invariant_of-self
invariant_of-self c =
    let held = c.take_next.new.held in
    let ahead = c.take_next.new.ahead in
    record {
      pending = next_pending c.self.inside.limits c.in-Ok.next (c.self.inside.held.bytes ++ c.args.piece.now) held.bytes c.in-Ok.ensures.taken c.in-Ok.ensures.less c.in-Ok.ensures.holds;
      wants = c.in-Ok.ensures.wants;
      gone = nothing_failed c.self.inside.failed held.bytes c.in-None.is;
      few = c.take_next.ensures.few c.self.invariant.few;
      dropped = nothing_failed c.self.inside.failed ahead c.in-None.is;
      small = small_if_failed c.self.inside.failed held.capacity c.in-None.is;
    }
