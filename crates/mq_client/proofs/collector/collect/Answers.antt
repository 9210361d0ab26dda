use Rattle.std.proofs.Common.{◌-◌, ◌∙◌, ◌++◌, [], length, flat_map, refl, ap, subst}
use Rattle.std.specs.Io.KnownBytes.{Appends}
use Rattle.mq_client.specs.Collecting.{handed}
use Rattle.mq_client.specs.Printed.{told_line}
use Rattle.mq_client.proofs.Collects.{begun, if_ok, sofar_begun, sofar_done, sofar_fails, sofar_gathered, sofar_halts, sofar_more, sofar_prints, sofar_still, unprinted}
use Rattle.mq_client.proofs.Courses.{on_err, reports_none}
use Rattle.mq_client.proofs.Grown.{front_grows, grows_by, grows_then, if_err}
use Rattle.mq_client.proofs.collector.collect.Goals as goal

pub returns-in_err-print_told-clause-err : goal.returns-in_err-print_told-clause-err
returns-in_err-print_told-clause-err g c = on_err _ _ (unprinted _ _ _ _ c.begin-begun.ensures.unacknowledged c.in_err-print_told.ensures.err)

pub returns-in-Err-clause-ok : goal.returns-in-Err-clause-ok
returns-in-Err-clause-ok g c =
    let w = g.W.Write.contents in
    let old = c.new-kept.result.items in
    let new = c.begin-begun.new.kept.items in
    let lines = subst (λ hs. Appends (w c.args.output.now) (w c.print_told.new.output) (flat_map told_line hs)) c.as_slice.ensures.value c.in_ok-print_told.ensures.ok in
    if_ok _ _ _ _ c.write_halt.ensures.printed c.write_halt.ensures.status
    (λ status halts is. begun c.args.peer.now c.begin-begun.new.peer c.args.clean c.args.goal.now old new c.in-Err.halt (w c.args.output.now) (w c.print_told.new.output) (w c.write_halt.new.output) status c.new-kept.ensures.items c.in-Err.ensures.err lines halts is)

pub returns-in-Err-clause-err : goal.returns-in-Err-clause-err
returns-in-Err-clause-err g c =
    if_err _ _ _ c.write_halt.ensures.err (λ grows. unprinted _ _ _ _ c.begin-begun.ensures.unacknowledged (grows_then _ _ _ (grows_by _ _ _ c.in_ok-print_told.ensures.ok) grows))

pub returns-in_err-write_bytes-clause-err : goal.returns-in_err-write_bytes-clause-err
returns-in_err-write_bytes-clause-err g c = on_err _ _ (unprinted _ _ _ _ c.begin-begun.ensures.unacknowledged (front_grows _ _ _ c.in_err-write_bytes.ensures.err))

pub returns-in_err-print_told-2-clause-err : goal.returns-in_err-print_told-2-clause-err
returns-in_err-print_told-2-clause-err g c =
    on_err _ _ (unprinted _ _ _ _ c.begin-begun.ensures.unacknowledged (grows_then _ _ _ (grows_by _ _ _ c.in_ok-write_bytes.ensures.ok) c.in_err-print_told-2.ensures.err))

pub returns-in-Err-write-clause-ok : goal.returns-in-Err-write-clause-ok
returns-in-Err-write-clause-ok g c =
    let w = g.W.Write.contents in
    let old = c.new-kept.result.items in
    let new = c.begin-begun.new.kept.items in
    let lines = subst (λ hs. Appends (w c.write_bytes.new.output) (w c.print_told-2.new.output) (flat_map told_line hs)) c.as_slice-2.ensures.value c.in_ok-print_told-2.ensures.ok in
    let first = sofar_begun c.args.peer.now c.begin-begun.new.peer c.args.clean c.args.goal.now old new (w c.args.output.now) (w c.write_bytes.new.output) (w c.print_told-2.new.output) c.new-kept.ensures.items c.in_default.ensures.ok c.in_default.ensures.granted c.in_ok-write_bytes.ensures.ok lines in
    let still = sofar_still c.args.peer.now c.begin-begun.new.peer c.write.new.self c.args.clean c.args.goal.now (w c.args.output.now) (w c.print_told-2.new.output) new first c.write.ensures.went in
    if_ok _ _ _ _ c.write_halt-in-Err-write.ensures.printed c.write_halt-in-Err-write.ensures.status
    (λ status halts is. sofar_halts c.args.peer.now c.write.new.self c.args.clean c.args.goal.now (w c.args.output.now) (w c.print_told-2.new.output) (w c.write_halt-in-Err-write.new.output) new [] c.in-Err-write.halt status still (reports_none _ c.in-Err-write.ensures.goes_on) halts is)

pub returns-in-Err-write-clause-err : goal.returns-in-Err-write-clause-err
returns-in-Err-write-clause-err g c =
    let w = g.W.Write.contents in
    let old = c.new-kept.result.items in
    let new = c.begin-begun.new.kept.items in
    let lines = subst (λ hs. Appends (w c.write_bytes.new.output) (w c.print_told-2.new.output) (flat_map told_line hs)) c.as_slice-2.ensures.value c.in_ok-print_told-2.ensures.ok in
    let first = sofar_begun c.args.peer.now c.begin-begun.new.peer c.args.clean c.args.goal.now old new (w c.args.output.now) (w c.write_bytes.new.output) (w c.print_told-2.new.output) c.new-kept.ensures.items c.in_default.ensures.ok c.in_default.ensures.granted c.in_ok-write_bytes.ensures.ok lines in
    let still = sofar_still c.args.peer.now c.begin-begun.new.peer c.write.new.self c.args.clean c.args.goal.now (w c.args.output.now) (w c.print_told-2.new.output) new first c.write.ensures.went in
    if_err _ _ _ c.write_halt-in-Err-write.ensures.err (λ grows. sofar_prints c.args.peer.now c.write.new.self c.args.clean c.args.goal.now (w c.args.output.now) (w c.print_told-2.new.output) (w c.write_halt-in-Err-write.new.output) new [] still grows)

pub returns-in_err-halt-clause-err : goal.returns-in_err-halt-clause-err
returns-in_err-halt-clause-err g c =
    let w = g.W.Write.contents in
    let old = c.new-kept.result.items in
    let new = c.begin-begun.new.kept.items in
    let lines = subst (λ hs. Appends (w c.write_bytes.new.output) (w c.print_told-2.new.output) (flat_map told_line hs)) c.as_slice-2.ensures.value c.in_ok-print_told-2.ensures.ok in
    let first = sofar_begun c.args.peer.now c.begin-begun.new.peer c.args.clean c.args.goal.now old new (w c.args.output.now) (w c.write_bytes.new.output) (w c.print_told-2.new.output) c.new-kept.ensures.items c.in_default.ensures.ok c.in_default.ensures.granted c.in_ok-write_bytes.ensures.ok lines in
    let still = sofar_still c.args.peer.now c.begin-begun.new.peer c.write.new.self c.args.clean c.args.goal.now (w c.args.output.now) (w c.print_told-2.new.output) new first c.write.ensures.went in
    on_err _ _ (sofar_fails c.args.peer.now c.write.new.self c.gather.new.peer c.args.clean c.args.goal.now (w c.args.output.now) (w c.print_told-2.new.output) (w c.gather.new.output) new still c.in_err-halt.ensures.err)

pub returns-in-Err-2-clause-ok : goal.returns-in-Err-2-clause-ok
returns-in-Err-2-clause-ok g c =
    let w = g.W.Write.contents in
    let old = c.new-kept.result.items in
    let new = c.begin-begun.new.kept.items in
    let lines = subst (λ hs. Appends (w c.write_bytes.new.output) (w c.print_told-2.new.output) (flat_map told_line hs)) c.as_slice-2.ensures.value c.in_ok-print_told-2.ensures.ok in
    let first = sofar_begun c.args.peer.now c.begin-begun.new.peer c.args.clean c.args.goal.now old new (w c.args.output.now) (w c.write_bytes.new.output) (w c.print_told-2.new.output) c.new-kept.ensures.items c.in_default.ensures.ok c.in_default.ensures.granted c.in_ok-write_bytes.ensures.ok lines in
    let still = sofar_still c.args.peer.now c.begin-begun.new.peer c.write.new.self c.args.clean c.args.goal.now (w c.args.output.now) (w c.print_told-2.new.output) new first c.write.ensures.went in
    let more = rw c.in-Err-2.is at c.in_ok-halt.ensures.ok in
    let all = sofar_more c.args.peer.now c.write.new.self c.gather.new.peer c.args.clean c.args.goal.now (w c.args.output.now) (w c.print_told-2.new.output) (w c.gather.new.output) new more.told more.reasons still more.went more.printed in
    if_ok _ _ _ _ c.write_halt-in-Err-2.ensures.printed c.write_halt-in-Err-2.ensures.status
    (λ status halts is. sofar_halts c.args.peer.now c.gather.new.peer c.args.clean c.args.goal.now (w c.args.output.now) (w c.gather.new.output) (w c.write_halt-in-Err-2.new.output) (new ++ more.told) more.reasons c.in-Err-2.halt status all more.closes halts is)

pub returns-in-Err-2-clause-err : goal.returns-in-Err-2-clause-err
returns-in-Err-2-clause-err g c =
    let w = g.W.Write.contents in
    let old = c.new-kept.result.items in
    let new = c.begin-begun.new.kept.items in
    let lines = subst (λ hs. Appends (w c.write_bytes.new.output) (w c.print_told-2.new.output) (flat_map told_line hs)) c.as_slice-2.ensures.value c.in_ok-print_told-2.ensures.ok in
    let first = sofar_begun c.args.peer.now c.begin-begun.new.peer c.args.clean c.args.goal.now old new (w c.args.output.now) (w c.write_bytes.new.output) (w c.print_told-2.new.output) c.new-kept.ensures.items c.in_default.ensures.ok c.in_default.ensures.granted c.in_ok-write_bytes.ensures.ok lines in
    let still = sofar_still c.args.peer.now c.begin-begun.new.peer c.write.new.self c.args.clean c.args.goal.now (w c.args.output.now) (w c.print_told-2.new.output) new first c.write.ensures.went in
    let more = rw c.in-Err-2.is at c.in_ok-halt.ensures.ok in
    let all = sofar_more c.args.peer.now c.write.new.self c.gather.new.peer c.args.clean c.args.goal.now (w c.args.output.now) (w c.print_told-2.new.output) (w c.gather.new.output) new more.told more.reasons still more.went more.printed in
    if_err _ _ _ c.write_halt-in-Err-2.ensures.err (λ grows. sofar_prints c.args.peer.now c.gather.new.peer c.args.clean c.args.goal.now (w c.args.output.now) (w c.gather.new.output) (w c.write_halt-in-Err-2.new.output) (new ++ more.told) more.reasons all grows)

pub returns-in-Err-leave-clause-ok : goal.returns-in-Err-leave-clause-ok
returns-in-Err-leave-clause-ok g c =
    let w = g.W.Write.contents in
    let old = c.new-kept.result.items in
    let new = c.begin-begun.new.kept.items in
    let lines = subst (λ hs. Appends (w c.write_bytes.new.output) (w c.print_told-2.new.output) (flat_map told_line hs)) c.as_slice-2.ensures.value c.in_ok-print_told-2.ensures.ok in
    let first = sofar_begun c.args.peer.now c.begin-begun.new.peer c.args.clean c.args.goal.now old new (w c.args.output.now) (w c.write_bytes.new.output) (w c.print_told-2.new.output) c.new-kept.ensures.items c.in_default.ensures.ok c.in_default.ensures.granted c.in_ok-write_bytes.ensures.ok lines in
    let still = sofar_still c.args.peer.now c.begin-begun.new.peer c.write.new.self c.args.clean c.args.goal.now (w c.args.output.now) (w c.print_told-2.new.output) new first c.write.ensures.went in
    let more = rw c.in_default-2.is at c.in_ok-halt.ensures.ok in
    let all = sofar_gathered c.args.peer.now c.write.new.self c.gather.new.peer c.args.clean c.args.goal.now (w c.args.output.now) (w c.print_told-2.new.output) (w c.gather.new.output) new _ still more in
    let left = sofar_still c.args.peer.now c.gather.new.peer c.leave.new.self c.args.clean c.args.goal.now (w c.args.output.now) (w c.gather.new.output) (new ++ more.told) all c.leave.ensures.went in
    if_ok _ _ _ _ c.write_halt-in-Err-leave.ensures.printed c.write_halt-in-Err-leave.ensures.status
    (λ status halts is. sofar_halts c.args.peer.now c.leave.new.self c.args.clean c.args.goal.now (w c.args.output.now) (w c.gather.new.output) (w c.write_halt-in-Err-leave.new.output) (new ++ more.told) [] c.in-Err-leave.halt status left (reports_none _ c.in-Err-leave.ensures.goes_on) halts is)

pub returns-in-Err-leave-clause-err : goal.returns-in-Err-leave-clause-err
returns-in-Err-leave-clause-err g c =
    let w = g.W.Write.contents in
    let old = c.new-kept.result.items in
    let new = c.begin-begun.new.kept.items in
    let lines = subst (λ hs. Appends (w c.write_bytes.new.output) (w c.print_told-2.new.output) (flat_map told_line hs)) c.as_slice-2.ensures.value c.in_ok-print_told-2.ensures.ok in
    let first = sofar_begun c.args.peer.now c.begin-begun.new.peer c.args.clean c.args.goal.now old new (w c.args.output.now) (w c.write_bytes.new.output) (w c.print_told-2.new.output) c.new-kept.ensures.items c.in_default.ensures.ok c.in_default.ensures.granted c.in_ok-write_bytes.ensures.ok lines in
    let still = sofar_still c.args.peer.now c.begin-begun.new.peer c.write.new.self c.args.clean c.args.goal.now (w c.args.output.now) (w c.print_told-2.new.output) new first c.write.ensures.went in
    let more = rw c.in_default-2.is at c.in_ok-halt.ensures.ok in
    let all = sofar_gathered c.args.peer.now c.write.new.self c.gather.new.peer c.args.clean c.args.goal.now (w c.args.output.now) (w c.print_told-2.new.output) (w c.gather.new.output) new _ still more in
    let left = sofar_still c.args.peer.now c.gather.new.peer c.leave.new.self c.args.clean c.args.goal.now (w c.args.output.now) (w c.gather.new.output) (new ++ more.told) all c.leave.ensures.went in
    if_err _ _ _ c.write_halt-in-Err-leave.ensures.err (λ grows. sofar_prints c.args.peer.now c.leave.new.self c.args.clean c.args.goal.now (w c.args.output.now) (w c.gather.new.output) (w c.write_halt-in-Err-leave.new.output) (new ++ more.told) [] left grows)

pub returns-clause-ok : goal.returns-clause-ok
returns-clause-ok g c =
    let w = g.W.Write.contents in
    let old = c.new-kept.result.items in
    let new = c.begin-begun.new.kept.items in
    let lines = subst (λ hs. Appends (w c.write_bytes.new.output) (w c.print_told-2.new.output) (flat_map told_line hs)) c.as_slice-2.ensures.value c.in_ok-print_told-2.ensures.ok in
    let first = sofar_begun c.args.peer.now c.begin-begun.new.peer c.args.clean c.args.goal.now old new (w c.args.output.now) (w c.write_bytes.new.output) (w c.print_told-2.new.output) c.new-kept.ensures.items c.in_default.ensures.ok c.in_default.ensures.granted c.in_ok-write_bytes.ensures.ok lines in
    let still = sofar_still c.args.peer.now c.begin-begun.new.peer c.write.new.self c.args.clean c.args.goal.now (w c.args.output.now) (w c.print_told-2.new.output) new first c.write.ensures.went in
    let more = rw c.in_default-2.is at c.in_ok-halt.ensures.ok in
    let wanted = c.left_after-left.ensures ∙ ap (λ hs. c.args.goal.now.count - length (flat_map handed hs)) c.as_slice-3.ensures.value in
    sofar_done c.args.peer.now c.write.new.self c.gather.new.peer c.leave.new.self c.args.clean c.args.goal.now (w c.args.output.now) (w c.print_told-2.new.output) (w c.gather.new.output) new c.left_after-left.result 0 still wanted more c.in_default-leave.ensures.leaves refl
