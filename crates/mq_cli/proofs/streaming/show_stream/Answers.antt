use Rattle.std.proofs.Common.{◌-◌, ◌∙◌, Some, None, refl, sym, subst, inl, inr, arith}
use Rattle.mq_cli.specs.Printed.{file_not_read, no_memory}
use Rattle.mq_cli.proofs.InTurn.{Printed, cut_short, faulted, finished, more_printed, more_read, too_long}
use Rattle.mq_cli.proofs.streaming.show_stream.Goals as goal

pub returns-in-Err-Io : goal.returns-in-Err-Io
returns-in-Err-Io g c =
    let failed = sym c.loop-count.invariant.stays ∙ (rw c.in-Err-Io.field-0-is at c.in-Err-Io.ensures.error) in
    cut_short c.args.lenient c.widest-limits.result (g.R.JobInput.remaining c.args.input.now) (g.R.JobInput.remaining c.loop-count.input) (g.W.Write.contents c.args.output.now) (g.W.Write.contents c.loop-count.output) (g.W.Write.contents c.file_not_read.new.output) (g.R.JobInput.may_fail c.args.input.now) c.loop-count.bytes c.loop-count.total c.file_not_read.result 2 file_not_read c.widest-limits.ensures c.loop-count.invariant.printed c.file_not_read.ensures.status c.file_not_read.ensures.printed (inl (refl, refl, inl failed))

pub returns-in-Err-Memory : goal.returns-in-Err-Memory
returns-in-Err-Memory g c =
    cut_short c.args.lenient c.widest-limits.result (g.R.JobInput.remaining c.args.input.now) (g.R.JobInput.remaining c.loop-count.input) (g.W.Write.contents c.args.output.now) (g.W.Write.contents c.loop-count.output) (g.W.Write.contents c.out_of_memory.new.output) (g.R.JobInput.may_fail c.args.input.now) c.loop-count.bytes c.loop-count.total c.out_of_memory.result 3 no_memory c.widest-limits.ensures c.loop-count.invariant.printed c.out_of_memory.ensures.status c.out_of_memory.ensures.printed (inr (refl, refl))

pub returns-in-None : goal.returns-in-None
returns-in-None g c =
    let read = c.in-Ok.ensures.bytes in
    let added = rw c.in-None.is at c.checked_add.ensures in
    let long = too_long c.widest-limits.result (g.R.JobInput.remaining c.args.input.now) (g.R.JobInput.remaining c.loop-count.input) (g.R.JobInput.remaining c.fill.new.reader) (g.W.Write.contents c.args.output.now) (g.W.Write.contents c.loop-count.output) c.loop-count.bytes read.0 c.loop-count.total c.loop-count.invariant.printed read.3 (omega (arith, added, read.1)) in
    cut_short c.args.lenient c.widest-limits.result (g.R.JobInput.remaining c.args.input.now) (g.R.JobInput.remaining c.loop-count.input) (g.W.Write.contents c.args.output.now) (g.W.Write.contents c.loop-count.output) (g.W.Write.contents c.file_not_read-in-None.new.output) (g.R.JobInput.may_fail c.args.input.now) c.loop-count.bytes c.loop-count.total c.file_not_read-in-None.result 2 file_not_read c.widest-limits.ensures c.loop-count.invariant.printed c.file_not_read-in-None.ensures.status c.file_not_read-in-None.ensures.printed (inl (refl, refl, inr long))

pub loop-count-preserved-then-not-is_due : goal.loop-count-preserved-then-not-is_due
loop-count-preserved-then-not-is_due g c =
    let read = c.in-Ok.ensures.bytes in
    let added = rw c.in-Some.is at c.checked_add.ensures in
    let more = more_read c.widest-limits.result (g.R.JobInput.remaining c.args.input.now) (g.R.JobInput.remaining c.loop-count.input) (g.R.JobInput.remaining c.fill.new.reader) (g.W.Write.contents c.args.output.now) (g.W.Write.contents c.loop-count.output) c.loop-count.bytes c.fill.new.bytes read.0 c.loop-count.total c.in-Some.sum c.in-Ok.count c.loop-count.invariant.printed read.1 read.2 read.3 added.1 in
    record { printed = more; stays = c.fill.ensures.stays ∙ c.loop-count.invariant.stays }

pub overflow_sub-total : goal.overflow_sub-total
overflow_sub-total g c =
    let read = c.in-Ok.ensures.bytes in
    let added = rw c.in-Some.is at c.checked_add.ensures in
    let more = more_read c.widest-limits.result (g.R.JobInput.remaining c.args.input.now) (g.R.JobInput.remaining c.loop-count.input) (g.R.JobInput.remaining c.fill.new.reader) (g.W.Write.contents c.args.output.now) (g.W.Write.contents c.loop-count.output) c.loop-count.bytes c.fill.new.bytes read.0 c.loop-count.total c.in-Some.sum c.in-Ok.count c.loop-count.invariant.printed read.1 read.2 read.3 added.1 in
    let printed = rw c.in-Ok-Some.field-0-is at c.in-Ok-Some.ensures.ok in
    let all = more_printed c.widest-limits.result (g.R.JobInput.remaining c.args.input.now) (g.R.JobInput.remaining c.fill.new.reader) (g.W.Write.contents c.args.output.now) (g.W.Write.contents c.loop-count.output) (g.W.Write.contents c.print_front.new.output) c.fill.new.bytes c.print_front.new.bytes printed.0 (Some c.in-Ok-Some.fault) c.in-Some.sum more printed.1 printed.2 in
    omega (arith, c.len.ensures, all.size)

pub returns-in-Ok-Some : goal.returns-in-Ok-Some
returns-in-Ok-Some g c =
    let read = c.in-Ok.ensures.bytes in
    let added = rw c.in-Some.is at c.checked_add.ensures in
    let more = more_read c.widest-limits.result (g.R.JobInput.remaining c.args.input.now) (g.R.JobInput.remaining c.loop-count.input) (g.R.JobInput.remaining c.fill.new.reader) (g.W.Write.contents c.args.output.now) (g.W.Write.contents c.loop-count.output) c.loop-count.bytes c.fill.new.bytes read.0 c.loop-count.total c.in-Some.sum c.in-Ok.count c.loop-count.invariant.printed read.1 read.2 read.3 added.1 in
    let printed = rw c.in-Ok-Some.field-0-is at c.in-Ok-Some.ensures.ok in
    let all = more_printed c.widest-limits.result (g.R.JobInput.remaining c.args.input.now) (g.R.JobInput.remaining c.fill.new.reader) (g.W.Write.contents c.args.output.now) (g.W.Write.contents c.loop-count.output) (g.W.Write.contents c.print_front.new.output) c.fill.new.bytes c.print_front.new.bytes printed.0 (Some c.in-Ok-Some.fault) c.in-Some.sum more printed.1 printed.2 in
    faulted c.args.lenient c.widest-limits.result (g.R.JobInput.remaining c.args.input.now) (g.R.JobInput.remaining c.fill.new.reader) (g.W.Write.contents c.args.output.now) (g.W.Write.contents c.print_front.new.output) (g.W.Write.contents c.write_fault.new.output) (g.R.JobInput.may_fail c.args.input.now) c.fill.new.bytes c.print_front.new.bytes printed.0 c.in-Some.sum (c.in-Some.sum - c.len.result) c.in-Ok-Some.fault c.write_fault.result
    c.widest-limits.ensures all printed.1 (omega (arith, c.len.ensures, all.size)) c.write_fault.ensures.status c.write_fault.ensures.printed

pub returns-in-Ok-None : goal.returns-in-Ok-None
returns-in-Ok-None g c =
    let read = c.in-Ok.ensures.bytes in
    let added = rw c.in-Some.is at c.checked_add.ensures in
    let more = more_read c.widest-limits.result (g.R.JobInput.remaining c.args.input.now) (g.R.JobInput.remaining c.loop-count.input) (g.R.JobInput.remaining c.fill.new.reader) (g.W.Write.contents c.args.output.now) (g.W.Write.contents c.loop-count.output) c.loop-count.bytes c.fill.new.bytes read.0 c.loop-count.total c.in-Some.sum c.in-Ok.count c.loop-count.invariant.printed read.1 read.2 read.3 added.1 in
    let printed = rw c.in-Ok-None.field-0-is at c.in-Ok-None.ensures.ok in
    let all = more_printed c.widest-limits.result (g.R.JobInput.remaining c.args.input.now) (g.R.JobInput.remaining c.fill.new.reader) (g.W.Write.contents c.args.output.now) (g.W.Write.contents c.loop-count.output) (g.W.Write.contents c.print_front.new.output) c.fill.new.bytes c.print_front.new.bytes printed.0 None c.in-Some.sum more printed.1 printed.2 in
    finished c.args.lenient c.widest-limits.result (g.R.JobInput.remaining c.args.input.now) (g.R.JobInput.remaining c.fill.new.reader) (g.W.Write.contents c.args.output.now) (g.W.Write.contents c.print_front.new.output) (g.W.Write.contents c.write_rest.new.output) (g.R.JobInput.may_fail c.args.input.now) c.fill.new.bytes c.print_front.new.bytes printed.0 c.in-Some.sum c.len-in-Ok-None.result c.write_rest.result
    c.widest-limits.ensures all printed.1 (c.in-Ok.ensures.end c.if-count-eq0.true) c.len-in-Ok-None.ensures c.write_rest.ensures.status c.write_rest.ensures.printed

pub loop-count-preserved : goal.loop-count-preserved
loop-count-preserved g c =
    let read = c.in-Ok.ensures.bytes in
    let added = rw c.in-Some.is at c.checked_add.ensures in
    let more = more_read c.widest-limits.result (g.R.JobInput.remaining c.args.input.now) (g.R.JobInput.remaining c.loop-count.input) (g.R.JobInput.remaining c.fill.new.reader) (g.W.Write.contents c.args.output.now) (g.W.Write.contents c.loop-count.output) c.loop-count.bytes c.fill.new.bytes read.0 c.loop-count.total c.in-Some.sum c.in-Ok.count c.loop-count.invariant.printed read.1 read.2 read.3 added.1 in
    let printed = rw c.in-Ok-None.field-0-is at c.in-Ok-None.ensures.ok in
    let all = more_printed c.widest-limits.result (g.R.JobInput.remaining c.args.input.now) (g.R.JobInput.remaining c.fill.new.reader) (g.W.Write.contents c.args.output.now) (g.W.Write.contents c.loop-count.output) (g.W.Write.contents c.print_front.new.output) c.fill.new.bytes c.print_front.new.bytes printed.0 None c.in-Some.sum more printed.1 printed.2 in
    record { printed = all; stays = c.fill.ensures.stays ∙ c.loop-count.invariant.stays }

pub returns-in-Err-Memory-print_front : goal.returns-in-Err-Memory-print_front
returns-in-Err-Memory-print_front g c =
    let same = rw c.in-Err-Memory-print_front.field-0-is at c.in-Err-Memory-print_front.ensures.memory in
    let before = subst (λ o. Printed c.widest-limits.result (g.R.JobInput.remaining c.args.input.now) (g.R.JobInput.remaining c.loop-count.input) (g.W.Write.contents c.args.output.now) (g.W.Write.contents o) c.loop-count.bytes c.loop-count.total) (sym same) c.loop-count.invariant.printed in
    cut_short c.args.lenient c.widest-limits.result (g.R.JobInput.remaining c.args.input.now) (g.R.JobInput.remaining c.loop-count.input) (g.W.Write.contents c.args.output.now) (g.W.Write.contents c.print_front.new.output) (g.W.Write.contents c.out_of_memory-in-Err-Memory-print_front.new.output) (g.R.JobInput.may_fail c.args.input.now) c.loop-count.bytes c.loop-count.total c.out_of_memory-in-Err-Memory-print_front.result 3 no_memory c.widest-limits.ensures before c.out_of_memory-in-Err-Memory-print_front.ensures.status c.out_of_memory-in-Err-Memory-print_front.ensures.printed (inr (refl, refl))
