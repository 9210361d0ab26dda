use Rattle.std.proofs.Common.{List, ℕ, ◌<◌, ◌≤◌, length, take, drop, sym, subst, ap, arith}
use Rattle.std.proofs.lemmas.Result.{err_from_is_err_and}
use Rattle.mq_decode.specs.declared.fault.DecodeError.TheVariants as errors
use Rattle.mq_decode.specs.Gives.{BeginsWith}
use Rattle.std.proofs.lemmas.List.{drop-drop, length-drop}
use Rattle.mq_decode.proofs.Sharing.{size_some}
use Rattle.mq_decode.specs.Grammar.{ReadsWithin, Stops}
use Rattle.mq_decode.specs.Views.{packet_of}
use Rattle.mq_decode.proofs.Streams.{taken_more, taken_stops}
use Rattle.mq_decode.proofs.take.take_packets.Goals as goal

pub loop-packet-preserved : goal.loop-packet-preserved
loop-packet-preserved c = (
  taken_more c.args.limits c.args.bytes.now c.loop-packet.taken c.in-Whole.size (packet_of c.in-Whole.packet) c.args.out.now.items c.loop-packet.out.items c.append_owned.new.out.items c.loop-packet.invariant.0 c.in_ok-append_owned-in-Whole.ensures.ok
      (subst (λ (b : List ℕ). (c.in-Whole.size ≤ length b) × ReadsWithin c.args.limits (packet_of c.in-Whole.packet) (take c.in-Whole.size b)) c.split_at.ensures.back c.in-Whole.ensures.front),
  subst (λ b. BeginsWith b c.append_owned.new.copy) (drop-drop c.in-Whole.size c.loop-packet.taken c.args.bytes.now)
      (subst (λ b. BeginsWith (drop c.in-Whole.size b) c.append_owned.new.copy) c.split_at.ensures.back c.in_ok-append_owned-in-Whole.ensures.copy),
)

pub loop-packet-smaller : goal.loop-packet-smaller
loop-packet-smaller c =
    let within = c.loop-packet.invariant.0.within in
    omega (arith, within, c.in-Whole.ensures.front.0, size_some c.args.limits (packet_of c.in-Whole.packet) c.in-Whole.size c.split_at.result.1.now c.in-Whole.ensures.front.1, ap length c.split_at.ensures.back, length-drop c.loop-packet.taken c.args.bytes.now)

pub returns-in_err-append_owned-in-Whole-clause-err : goal.returns-in_err-append_owned-in-Whole-clause-err
returns-in_err-append_owned-in-Whole-clause-err c =
    let limits = c.args.limits in
    let bytes = c.args.bytes.now in
    let old = c.args.out.now.items in
    let p = err_from_is_err_and c.from_residual.result c.from_residual.ensures.1 in
    let err = c.in_err-append_owned-in-Whole.ensures.err in
    let size = size_some limits (packet_of c.in-Whole.packet) c.in-Whole.size c.split_at.result.1.now c.in-Whole.ensures.front.1 in
    let left : 0 < length (drop c.loop-packet.taken bytes) = omega (arith, size, c.in-Whole.ensures.front.0, ap length c.split_at.ensures.back) in
    let stops = taken_stops limits bytes c.loop-packet.taken old c.loop-packet.out.items errors.Memory c.loop-packet.invariant.0 left in
    rw (p.1, p.2) (subst (λ e. Stops limits bytes old c.append_owned.new.out.items e) (sym err.0) (subst (λ out. Stops limits bytes old out errors.Memory) (sym err.1) stops))
