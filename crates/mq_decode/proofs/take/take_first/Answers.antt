use Rattle.std.proofs.lemmas.Result.{err_from_is_err_and}
use Rattle.std.proofs.Common.{◌<◌, ◌++◌, length, take, arith}
use Rattle.std.proofs.lemmas.List.{length-append}
use Rattle.mq_decode.proofs.Streams.{front_stops, memory_stops, one_goes}
use Rattle.mq_decode.proofs.Loops.{some_left}
use Rattle.mq_decode.proofs.take.take_first.Goals as goal

pub returns-in_err-fill_up-clause-err : goal.returns-in_err-fill_up-clause-err
returns-in_err-fill_up-clause-err c =
    let p = err_from_is_err_and c.from_residual.result c.from_residual.ensures.1 in
    rw (p.1, p.2) (front_stops c.args.limits (c.args.held.now.bytes ++ c.args.piece.now) c.args.out.now.items c.in_err-fill_up.field-0.0 c.in_err-fill_up.ensures.err)

pub returns-in_ok-append-in-Some-clause-ok : goal.returns-in_ok-append-in-Some-clause-ok
returns-in_ok-append-in-Some-clause-ok c =
    let packet = rw c.in-Some.is at c.in_ok-fill_up.ensures.packet in
    let taken = rw c.in-Some.is at c.in_ok-fill_up.ensures.taken in
    one_goes c.args.limits (c.args.held.now.bytes ++ take c.in-Some.found.1 c.args.piece.now) c.in-Some.found.0 c.args.out.now.items c.append.new.out.items c.fill_up.new.held.bytes packet c.in_ok-append-in-Some.ensures.ok taken

pub returns-in_err-append-in-Some-clause-err : goal.returns-in_err-append-in-Some-clause-err
returns-in_err-append-in-Some-clause-err c =
    let p = err_from_is_err_and c.from_residual-in_err-append-in-Some.result c.from_residual-in_err-append-in-Some.ensures.1 in
    let held : 0 < length c.args.held.now.bytes = some_left c.is_empty.result (length c.args.held.now.bytes) c.is_empty.ensures.value c.if-is_empty.false in
    let some : 0 < length (c.args.held.now.bytes ++ c.args.piece.now) = omega (arith, held, length-append c.args.held.now.bytes c.args.piece.now) in
    let full = c.in_err-append-in-Some.ensures.err in
    rw (p.1, p.2) (memory_stops c.args.limits (c.args.held.now.bytes ++ c.args.piece.now) c.args.out.now.items c.append.new.out.items c.in_err-append-in-Some.field-0.0 full.0 full.1 some)
