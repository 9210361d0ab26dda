use Rattle.std.proofs.Common.{◌≡◌, ◌≤◌, ℕ, List, length, take, subst}
use Rattle.std.proofs.lemmas.Result.{err_from_is_err_and, on_ok_weaker, IfErr-weaker}
use Rattle.mq_decode.specs.declared.fault.DecodeError.TheVariants as errors
use Rattle.mq_decode.specs.Grammar.{Faulty, ReadsWithin, Stops}
use Rattle.mq_decode.specs.Views.{packet_of}
use Rattle.mq_decode.proofs.Alone.{alone_appends, alone_stops}
use Rattle.mq_decode.proofs.Streams.{front_stops}
use Rattle.mq_decode.proofs.take.append_any.Goals as goal

pub returns-in_err-found-clause-err : goal.returns-in_err-found-clause-err
returns-in_err-found-clause-err c =
    let p = err_from_is_err_and c.from_residual.result c.from_residual.ensures.1 in
    rw (p.1, p.2) (front_stops c.args.limits c.args.held.now.bytes c.args.out.now.items c.in_err-found.field-0.0 c.in_err-found.ensures.front)

pub returns-in-Some-clause-ok : goal.returns-in-Some-clause-ok
returns-in-Some-clause-ok c =
    let front = rw (c.in_ok-found.was, c.in-Some.is) at c.take.ensures.front in
    on_ok_weaker c.append.result
    (λ appended. alone_appends c.args.limits c.args.held.now.bytes c.in-Some.found.0 c.in-Some.found.1 c.args.out.now.items c.append.new.out.items c.requires.alone front appended)
    c.append.ensures.ok

pub returns-in-Some-clause-err : goal.returns-in-Some-clause-err
returns-in-Some-clause-err c =
    IfErr-weaker c.append.result (λ e. (e ≡ errors.Memory) × (c.append.new.out.items ≡ c.args.out.now.items)) (Stops c.args.limits c.args.held.now.bytes c.args.out.now.items c.append.new.out.items)
    (λ e full. alone_stops c.args.limits c.args.held.now.bytes c.args.out.now.items c.append.new.out.items e c.requires.whole full)
    c.append.ensures.err

pub returns-in-Whole-clause-ok : goal.returns-in-Whole-clause-ok
returns-in-Whole-clause-ok c =
    let packet = packet_of c.in-Whole.packet in
    let size = c.in-Whole.field-1 in
    let front = subst (λ (b : List ℕ). (size ≤ length b) × ReadsWithin c.args.limits packet (take size b)) c.as_slice-2.ensures c.in-Whole.ensures.front in
    on_ok_weaker c.append_alone.result
    (λ appended. alone_appends c.args.limits c.args.held.now.bytes packet size c.args.out.now.items c.append_alone.new.out.items c.requires.alone front appended)
    c.append_alone.ensures.ok

pub returns-in-Whole-clause-err : goal.returns-in-Whole-clause-err
returns-in-Whole-clause-err c =
    IfErr-weaker c.append_alone.result (λ e. (e ≡ errors.Memory) × (c.append_alone.new.out.items ≡ c.args.out.now.items)) (Stops c.args.limits c.args.held.now.bytes c.args.out.now.items c.append_alone.new.out.items)
    (λ e full. alone_stops c.args.limits c.args.held.now.bytes c.args.out.now.items c.append_alone.new.out.items e c.requires.whole full)
    c.append_alone.ensures.err

pub returns-in-Fault-clause-err : goal.returns-in-Fault-clause-err
returns-in-Fault-clause-err c =
    front_stops c.args.limits c.args.held.now.bytes c.args.out.now.items (errors.Fault c.in-Fault.fault)
    (subst (λ (b : List ℕ). Faulty c.args.limits b c.in-Fault.fault.kind c.in-Fault.fault.place) c.as_slice-2.ensures c.in-Fault.ensures.front)
