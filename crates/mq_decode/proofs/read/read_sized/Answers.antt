use Rattle.std.proofs.Common.{ℕ, List, ◌≤◌, length, subst, arith}
use Rattle.mq_decode.specs.Grammar.{Wants}
use Rattle.mq_decode.proofs.Readers.{stops_at, all_taken, longer, more_taken}
use Rattle.mq_decode.proofs.read.read_sized.Goals as goal

pub returns-in-Ok-Some-clause-packet : goal.returns-in-Ok-Some-clause-packet
returns-in-Ok-Some-clause-packet g c =
    let b = c.loop-found.buffer.items in
    let found = rw c.in-Ok-Some.field-0-is at c.in-Ok-Some.ensures.front in
    (b, all_taken c.args.limits b c.in-Ok-Some.found.1 c.in-Ok-Some.found.0 c.loop-found.invariant.before found, c.loop-found.invariant.taken, omega (arith, c.len-size.ensures, c.loop-found.buffer.ok.0))

pub returns-in-Err-clause-err : goal.returns-in-Err-clause-err
returns-in-Err-clause-err g c =
    rw c.stop_of.ensures (stops_at c.args.limits (g.R.Read.remaining c.args.reader.now) (g.R.Read.remaining c.loop-found.reader) c.loop-found.buffer.items c.in-Err.error c.in-Err.ensures.front c.loop-found.invariant.taken)

pub returns-then-branch-eq0-2-clause-within : goal.returns-then-branch-eq0-2-clause-within
returns-then-branch-eq0-2-clause-within g c =
    let held = c.take_held.new.held.items in
    let same = rw c.in-Ok-None.field-0-is at c.in-Ok-None.ensures.kept in
    let pending = rw c.in-Ok-None.field-0-is at c.in-Ok-None.ensures.front in
    let read = c.in_ok-fill.ensures.bytes in
    let few : length read.0 ≤ c.wanted.result = omega (arith, read.1, c.in_ok-fill.ensures.most, c.min-most.ensures) in
    let wants : Wants c.args.limits held c.wanted.result = subst (λ (b : List ℕ). Wants c.args.limits b c.wanted.result) c.deref.ensures.value c.wanted.ensures.exact in
    let taken = more_taken c.args.limits c.loop-found.buffer.items held c.fill.new.buffer.items read.0 c.wanted.result (g.R.Read.remaining c.args.reader.now) (g.R.Read.remaining c.loop-found.reader) (g.R.Read.remaining c.fill.new.reader) same pending wants few read.2 c.loop-found.invariant.taken read.3 in
    (c.fill.new.buffer.items, taken.0, taken.1)

pub loop-found-preserved : goal.loop-found-preserved
loop-found-preserved g c =
    let held = c.take_held.new.held.items in
    let same = rw c.in-Ok-None.field-0-is at c.in-Ok-None.ensures.kept in
    let pending = rw c.in-Ok-None.field-0-is at c.in-Ok-None.ensures.front in
    let read = c.in_ok-fill.ensures.bytes in
    let few : length read.0 ≤ c.wanted.result = omega (arith, read.1, c.in_ok-fill.ensures.most, c.min-most.ensures) in
    let wants : Wants c.args.limits held c.wanted.result = subst (λ (b : List ℕ). Wants c.args.limits b c.wanted.result) c.deref.ensures.value c.wanted.ensures.exact in
    let taken = more_taken c.args.limits c.loop-found.buffer.items held c.fill.new.buffer.items read.0 c.wanted.result (g.R.Read.remaining c.args.reader.now) (g.R.Read.remaining c.loop-found.reader) (g.R.Read.remaining c.fill.new.reader) same pending wants few read.2 c.loop-found.invariant.taken read.3 in
    record { some = longer c.loop-found.buffer.items held c.fill.new.buffer.items read.0 same read.2 c.loop-found.invariant.some; before = taken.1; taken = taken.0 }
