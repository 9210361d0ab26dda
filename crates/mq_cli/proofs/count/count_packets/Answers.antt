use Rattle.std.proofs.Common.{◌+◌, ◌-◌, ◌∙◌, None, refl, arith}
use Rattle.mq_cli.proofs.Counting.{fault_counted, few_counted, more_bytes, more_counted, none_counted, rest_counted}
use Rattle.mq_cli.proofs.InTurn.{too_long}
use Rattle.mq_cli.proofs.count.count_packets.Goals as goal

pub loop-bytes-init : goal.loop-bytes-init
loop-bytes-init g c = record { counted = none_counted c.args.limits (g.R.JobInput.remaining c.args.input.now) c.new-bytes.result c.new-bytes.ensures; stays = refl }

pub returns-in-None-clause-fault : goal.returns-in-None-clause-fault
returns-in-None-clause-fault g c =
    let read = c.in_ok-count.ensures.bytes in
    let added = rw c.in-None.is at c.checked_add.ensures in
    too_long c.args.limits (g.R.JobInput.remaining c.args.input.now) (g.R.JobInput.remaining c.loop-bytes.input) (g.R.JobInput.remaining c.fill.new.reader) None None c.loop-bytes.bytes read.0 c.loop-bytes.total c.loop-bytes.invariant.counted.read read.3 (omega (arith, added, read.1))

pub loop-bytes-preserved-then-not-is_due : goal.loop-bytes-preserved-then-not-is_due
loop-bytes-preserved-then-not-is_due g c =
    let read = c.in_ok-count.ensures.bytes in
    let added = rw c.in-Some.is at c.checked_add.ensures in
    let more = more_bytes c.args.limits (g.R.JobInput.remaining c.args.input.now) (g.R.JobInput.remaining c.loop-bytes.input) (g.R.JobInput.remaining c.fill.new.reader) c.loop-bytes.bytes c.fill.new.bytes read.0 c.loop-bytes.total c.in-Some.sum c.in_ok-count.count c.loop-bytes.packets c.loop-bytes.invariant.counted read.1 read.2 read.3 added.1 in
    record { counted = more; stays = c.fill.ensures.stays ∙ c.loop-bytes.invariant.stays }

pub overflow_add-packets : goal.overflow_add-packets
overflow_add-packets g c =
    let read = c.in_ok-count.ensures.bytes in
    let added = rw c.in-Some.is at c.checked_add.ensures in
    let more = more_bytes c.args.limits (g.R.JobInput.remaining c.args.input.now) (g.R.JobInput.remaining c.loop-bytes.input) (g.R.JobInput.remaining c.fill.new.reader) c.loop-bytes.bytes c.fill.new.bytes read.0 c.loop-bytes.total c.in-Some.sum c.in_ok-count.count c.loop-bytes.packets c.loop-bytes.invariant.counted read.1 read.2 read.3 added.1 in
    let all = more_counted c.args.limits (g.R.JobInput.remaining c.args.input.now) (g.R.JobInput.remaining c.fill.new.reader) c.fill.new.bytes c.take_front.new.bytes c.in_ok-front.front.items c.in_ok-front.fault c.in-Some.sum c.loop-bytes.packets (c.loop-bytes.packets + c.len.result) more c.in_ok-front.ensures (omega (arith, c.len.ensures)) in
    let few = few_counted c.reads_again.ensures c.args.limits (g.R.JobInput.remaining c.args.input.now) (g.R.JobInput.remaining c.fill.new.reader) c.take_front.new.bytes c.in-Some.sum (c.loop-bytes.packets + c.len.result) all in
    omega (arith, few, added.0)

pub overflow_sub-start : goal.overflow_sub-start
overflow_sub-start g c =
    let read = c.in_ok-count.ensures.bytes in
    let added = rw c.in-Some.is at c.checked_add.ensures in
    let more = more_bytes c.args.limits (g.R.JobInput.remaining c.args.input.now) (g.R.JobInput.remaining c.loop-bytes.input) (g.R.JobInput.remaining c.fill.new.reader) c.loop-bytes.bytes c.fill.new.bytes read.0 c.loop-bytes.total c.in-Some.sum c.in_ok-count.count c.loop-bytes.packets c.loop-bytes.invariant.counted read.1 read.2 read.3 added.1 in
    let all = more_counted c.args.limits (g.R.JobInput.remaining c.args.input.now) (g.R.JobInput.remaining c.fill.new.reader) c.fill.new.bytes c.take_front.new.bytes c.in_ok-front.front.items c.in_ok-front.fault c.in-Some.sum c.loop-bytes.packets (c.loop-bytes.packets + c.len.result) more c.in_ok-front.ensures (omega (arith, c.len.ensures)) in
    omega (arith, c.len-in-Some-fault.ensures, all.read.size)

pub returns-in-Some-fault-clause-counts : goal.returns-in-Some-fault-clause-counts
returns-in-Some-fault-clause-counts g c =
    let read = c.in_ok-count.ensures.bytes in
    let added = rw c.in-Some.is at c.checked_add.ensures in
    let more = more_bytes c.args.limits (g.R.JobInput.remaining c.args.input.now) (g.R.JobInput.remaining c.loop-bytes.input) (g.R.JobInput.remaining c.fill.new.reader) c.loop-bytes.bytes c.fill.new.bytes read.0 c.loop-bytes.total c.in-Some.sum c.in_ok-count.count c.loop-bytes.packets c.loop-bytes.invariant.counted read.1 read.2 read.3 added.1 in
    let all = more_counted c.args.limits (g.R.JobInput.remaining c.args.input.now) (g.R.JobInput.remaining c.fill.new.reader) c.fill.new.bytes c.take_front.new.bytes c.in_ok-front.front.items c.in_ok-front.fault c.in-Some.sum c.loop-bytes.packets (c.loop-bytes.packets + c.len.result) more c.in_ok-front.ensures (omega (arith, c.len.ensures)) in
    let reading = rw c.in-Some-fault.is at c.in_ok-front.ensures in
    fault_counted c.args.limits (g.R.JobInput.remaining c.args.input.now) (g.R.JobInput.remaining c.fill.new.reader) c.fill.new.bytes c.take_front.new.bytes c.in_ok-front.front.items c.in-Some.sum (c.loop-bytes.packets + c.len.result) (c.in-Some.sum - c.len-in-Some-fault.result) c.in-Some-fault.fault all reading (omega (arith, c.len-in-Some-fault.ensures, all.read.size))

pub returns-in-None-fault-clause-counts : goal.returns-in-None-fault-clause-counts
returns-in-None-fault-clause-counts g c =
    let read = c.in_ok-count.ensures.bytes in
    let added = rw c.in-Some.is at c.checked_add.ensures in
    let more = more_bytes c.args.limits (g.R.JobInput.remaining c.args.input.now) (g.R.JobInput.remaining c.loop-bytes.input) (g.R.JobInput.remaining c.fill.new.reader) c.loop-bytes.bytes c.fill.new.bytes read.0 c.loop-bytes.total c.in-Some.sum c.in_ok-count.count c.loop-bytes.packets c.loop-bytes.invariant.counted read.1 read.2 read.3 added.1 in
    let all = more_counted c.args.limits (g.R.JobInput.remaining c.args.input.now) (g.R.JobInput.remaining c.fill.new.reader) c.fill.new.bytes c.take_front.new.bytes c.in_ok-front.front.items c.in_ok-front.fault c.in-Some.sum c.loop-bytes.packets (c.loop-bytes.packets + c.len.result) more c.in_ok-front.ensures (omega (arith, c.len.ensures)) in
    let reading = rw c.in-None-fault.is at c.in_ok-front.ensures in
    rw c.end_of_rest-end.ensures (rest_counted c.args.limits (g.R.JobInput.remaining c.args.input.now) (g.R.JobInput.remaining c.fill.new.reader) c.fill.new.bytes c.take_front.new.bytes c.in_ok-front.front.items c.in-Some.sum (c.loop-bytes.packets + c.len.result) c.len-in-None-fault.result all reading (c.in_ok-count.ensures.end c.if-count-eq0.true) c.len-in-None-fault.ensures)

pub loop-bytes-preserved : goal.loop-bytes-preserved
loop-bytes-preserved g c =
    let read = c.in_ok-count.ensures.bytes in
    let added = rw c.in-Some.is at c.checked_add.ensures in
    let more = more_bytes c.args.limits (g.R.JobInput.remaining c.args.input.now) (g.R.JobInput.remaining c.loop-bytes.input) (g.R.JobInput.remaining c.fill.new.reader) c.loop-bytes.bytes c.fill.new.bytes read.0 c.loop-bytes.total c.in-Some.sum c.in_ok-count.count c.loop-bytes.packets c.loop-bytes.invariant.counted read.1 read.2 read.3 added.1 in
    let all = more_counted c.args.limits (g.R.JobInput.remaining c.args.input.now) (g.R.JobInput.remaining c.fill.new.reader) c.fill.new.bytes c.take_front.new.bytes c.in_ok-front.front.items c.in_ok-front.fault c.in-Some.sum c.loop-bytes.packets (c.loop-bytes.packets + c.len.result) more c.in_ok-front.ensures (omega (arith, c.len.ensures)) in
    record { counted = all; stays = c.fill.ensures.stays ∙ c.loop-bytes.invariant.stays }
