use Rattle.std.proofs.Common.{◌+◌, [], ◌∷◌, ◌++◌, length, sym, ◌∙◌, ap, subst, arith}
use Rattle.mq_log.specs.Disk.{Holds, Only}
use Rattle.mq_log.specs.Blocks.{entries, body}
use Rattle.mq_log.specs.Journal.{IsBeforeOrAfter}
use Rattle.mq_log.proofs.BlockLemmas.{short-push}
use Rattle.mq_log.proofs.Runs.{started, goes_on}
use Rattle.mq_log.proofs.Crash.{at_start, written_behind, written_gate, ends_at, stage_crash, gate_crash, held, settled}
use Rattle.mq_log.proofs.journal.Journal.put.Goals as goal

pub returns-then-self-ge-MAX_LEN-clause-at_any_time : goal.returns-then-self-ge-MAX_LEN-clause-at_any_time
returns-then-self-ge-MAX_LEN-clause-at_any_time g c =
    let s = c.requires.settled in
    let ps = entries (g.D.Disk.seen c.args.self.now.disk) in
    let P = IsBeforeOrAfter ps c.args.entry.now in
    let unchanged = subst P (sym c.requires.settled.file) (at_start ps _ s.end s.short c.args.entry.now) in
    let start = started g.D.Disk.clock g.D.Disk.left_since c.args.self.now.disk P
    (λ f left. subst P (sym (s.durable f (g.met.D.Disk.only_now c.args.self.now.disk f left))) unchanged) in
    start

pub returns-in_err-block-clause-at_any_time : goal.returns-in_err-block-clause-at_any_time
returns-in_err-block-clause-at_any_time g c =
    let s = c.requires.settled in
    let ps = entries (g.D.Disk.seen c.args.self.now.disk) in
    let P = IsBeforeOrAfter ps c.args.entry.now in
    let unchanged = subst P (sym c.requires.settled.file) (at_start ps _ s.end s.short c.args.entry.now) in
    let start = started g.D.Disk.clock g.D.Disk.left_since c.args.self.now.disk P
    (λ f left. subst P (sym (s.durable f (g.met.D.Disk.only_now c.args.self.now.disk f left))) unchanged) in
    start

pub returns-in_err-write_at-clause-at_any_time : goal.returns-in_err-write_at-clause-at_any_time
returns-in_err-write_at-clause-at_any_time g c =
    let s = c.requires.settled in
    let ps = entries (g.D.Disk.seen c.args.self.now.disk) in
    let P = IsBeforeOrAfter ps c.args.entry.now in
    let unchanged = subst P (sym c.requires.settled.file) (at_start ps _ s.end s.short c.args.entry.now) in
    let start = started g.D.Disk.clock g.D.Disk.left_since c.args.self.now.disk P
    (λ f left. subst P (sym (s.durable f (g.met.D.Disk.only_now c.args.self.now.disk f left))) unchanged) in
    let only = subst (λ f. Only f (g.D.Disk.may_leave c.args.self.now.disk)) s.file s.durable in
    let first = stage_crash ps _ s.end s.short _ c.args.entry.now _ _ only c.write_at.ensures.crash in
    let staged = goes_on g.D.Disk.clock g.D.Disk.left_since c.args.self.now.disk c.args.self.now.disk c.write_at.new.self P _
    start c.write_at.ensures.time first in
    staged

pub returns-in_err-sync-clause-at_any_time : goal.returns-in_err-sync-clause-at_any_time
returns-in_err-sync-clause-at_any_time g c =
    let s = c.requires.settled in
    let ps = entries (g.D.Disk.seen c.args.self.now.disk) in
    let P = IsBeforeOrAfter ps c.args.entry.now in
    let unchanged = subst P (sym c.requires.settled.file) (at_start ps _ s.end s.short c.args.entry.now) in
    let start = started g.D.Disk.clock g.D.Disk.left_since c.args.self.now.disk P
    (λ f left. subst P (sym (s.durable f (g.met.D.Disk.only_now c.args.self.now.disk f left))) unchanged) in
    let only = subst (λ f. Only f (g.D.Disk.may_leave c.args.self.now.disk)) s.file s.durable in
    let first = stage_crash ps _ s.end s.short _ c.args.entry.now _ _ only c.write_at.ensures.crash in
    let staged = goes_on g.D.Disk.clock g.D.Disk.left_since c.args.self.now.disk c.args.self.now.disk c.write_at.new.self P _
    start c.write_at.ensures.time first in
    let synced = goes_on g.D.Disk.clock g.D.Disk.left_since c.args.self.now.disk c.write_at.new.self c.sync.new.self P _
    staged c.sync.ensures.time (λ f now. first f (c.sync.ensures.crash f now)) in
    synced

pub returns-in_err-write_at-2-clause-at_any_time : goal.returns-in_err-write_at-2-clause-at_any_time
returns-in_err-write_at-2-clause-at_any_time g c =
    let s = c.requires.settled in
    let ps = entries (g.D.Disk.seen c.args.self.now.disk) in
    let P = IsBeforeOrAfter ps c.args.entry.now in
    let unchanged = subst P (sym c.requires.settled.file) (at_start ps _ s.end s.short c.args.entry.now) in
    let start = started g.D.Disk.clock g.D.Disk.left_since c.args.self.now.disk P
    (λ f left. subst P (sym (s.durable f (g.met.D.Disk.only_now c.args.self.now.disk f left))) unchanged) in
    let only = subst (λ f. Only f (g.D.Disk.may_leave c.args.self.now.disk)) s.file s.durable in
    let first = stage_crash ps _ s.end s.short _ c.args.entry.now _ _ only c.write_at.ensures.crash in
    let staged = goes_on g.D.Disk.clock g.D.Disk.left_since c.args.self.now.disk c.args.self.now.disk c.write_at.new.self P _
    start c.write_at.ensures.time first in
    let synced = goes_on g.D.Disk.clock g.D.Disk.left_since c.args.self.now.disk c.write_at.new.self c.sync.new.self P _
    staged c.sync.ensures.time (λ f now. first f (c.sync.ensures.crash f now)) in
    let block_is = c.as_slice.ensures.value ∙ c.in_ok-block.ensures in
    let holds = subst (λ f. Holds f (c.args.self.now.end + 1) (body c.args.entry.now ++ 0 ∷ []) (g.D.Disk.seen c.write_at.new.self)) s.file
    (subst (λ b. Holds (g.D.Disk.seen c.args.self.now.disk) (c.args.self.now.end + 1) b (g.D.Disk.seen c.write_at.new.self)) block_is c.in_ok-write_at.ensures.written) in
    let is_staged = written_behind ps _ s.end s.short c.args.entry.now _ holds in
    let only_staged = subst (λ f. Only f (g.D.Disk.may_leave c.sync.new.self)) is_staged c.in_ok-sync.ensures.durable in
    let second = gate_crash ps _ s.end s.short c.args.entry.now _ _ c.requires.short only_staged c.write_at-2.ensures.crash in
    let opened = goes_on g.D.Disk.clock g.D.Disk.left_since c.args.self.now.disk c.sync.new.self c.write_at-2.new.self P _
    synced c.write_at-2.ensures.time second in
    opened

pub returns-in_err-sync-2-clause-at_any_time : goal.returns-in_err-sync-2-clause-at_any_time
returns-in_err-sync-2-clause-at_any_time g c =
    let s = c.requires.settled in
    let ps = entries (g.D.Disk.seen c.args.self.now.disk) in
    let P = IsBeforeOrAfter ps c.args.entry.now in
    let unchanged = subst P (sym c.requires.settled.file) (at_start ps _ s.end s.short c.args.entry.now) in
    let start = started g.D.Disk.clock g.D.Disk.left_since c.args.self.now.disk P
    (λ f left. subst P (sym (s.durable f (g.met.D.Disk.only_now c.args.self.now.disk f left))) unchanged) in
    let only = subst (λ f. Only f (g.D.Disk.may_leave c.args.self.now.disk)) s.file s.durable in
    let first = stage_crash ps _ s.end s.short _ c.args.entry.now _ _ only c.write_at.ensures.crash in
    let staged = goes_on g.D.Disk.clock g.D.Disk.left_since c.args.self.now.disk c.args.self.now.disk c.write_at.new.self P _
    start c.write_at.ensures.time first in
    let synced = goes_on g.D.Disk.clock g.D.Disk.left_since c.args.self.now.disk c.write_at.new.self c.sync.new.self P _
    staged c.sync.ensures.time (λ f now. first f (c.sync.ensures.crash f now)) in
    let block_is = c.as_slice.ensures.value ∙ c.in_ok-block.ensures in
    let holds = subst (λ f. Holds f (c.args.self.now.end + 1) (body c.args.entry.now ++ 0 ∷ []) (g.D.Disk.seen c.write_at.new.self)) s.file
    (subst (λ b. Holds (g.D.Disk.seen c.args.self.now.disk) (c.args.self.now.end + 1) b (g.D.Disk.seen c.write_at.new.self)) block_is c.in_ok-write_at.ensures.written) in
    let is_staged = written_behind ps _ s.end s.short c.args.entry.now _ holds in
    let only_staged = subst (λ f. Only f (g.D.Disk.may_leave c.sync.new.self)) is_staged c.in_ok-sync.ensures.durable in
    let second = gate_crash ps _ s.end s.short c.args.entry.now _ _ c.requires.short only_staged c.write_at-2.ensures.crash in
    let opened = goes_on g.D.Disk.clock g.D.Disk.left_since c.args.self.now.disk c.sync.new.self c.write_at-2.new.self P _
    synced c.write_at-2.ensures.time second in
    goes_on g.D.Disk.clock g.D.Disk.left_since c.args.self.now.disk c.write_at-2.new.self c.sync-2.new.self P _
    opened c.sync-2.ensures.time (λ f now. second f (c.sync-2.ensures.crash f now))

pub returns-clause-at_any_time : goal.returns-clause-at_any_time
returns-clause-at_any_time g c =
    let s = c.requires.settled in
    let ps = entries (g.D.Disk.seen c.args.self.now.disk) in
    let P = IsBeforeOrAfter ps c.args.entry.now in
    let unchanged = subst P (sym c.requires.settled.file) (at_start ps _ s.end s.short c.args.entry.now) in
    let start = started g.D.Disk.clock g.D.Disk.left_since c.args.self.now.disk P
    (λ f left. subst P (sym (s.durable f (g.met.D.Disk.only_now c.args.self.now.disk f left))) unchanged) in
    let only = subst (λ f. Only f (g.D.Disk.may_leave c.args.self.now.disk)) s.file s.durable in
    let first = stage_crash ps _ s.end s.short _ c.args.entry.now _ _ only c.write_at.ensures.crash in
    let staged = goes_on g.D.Disk.clock g.D.Disk.left_since c.args.self.now.disk c.args.self.now.disk c.write_at.new.self P _
    start c.write_at.ensures.time first in
    let synced = goes_on g.D.Disk.clock g.D.Disk.left_since c.args.self.now.disk c.write_at.new.self c.sync.new.self P _
    staged c.sync.ensures.time (λ f now. first f (c.sync.ensures.crash f now)) in
    let block_is = c.as_slice.ensures.value ∙ c.in_ok-block.ensures in
    let holds = subst (λ f. Holds f (c.args.self.now.end + 1) (body c.args.entry.now ++ 0 ∷ []) (g.D.Disk.seen c.write_at.new.self)) s.file
    (subst (λ b. Holds (g.D.Disk.seen c.args.self.now.disk) (c.args.self.now.end + 1) b (g.D.Disk.seen c.write_at.new.self)) block_is c.in_ok-write_at.ensures.written) in
    let is_staged = written_behind ps _ s.end s.short c.args.entry.now _ holds in
    let only_staged = subst (λ f. Only f (g.D.Disk.may_leave c.sync.new.self)) is_staged c.in_ok-sync.ensures.durable in
    let second = gate_crash ps _ s.end s.short c.args.entry.now _ _ c.requires.short only_staged c.write_at-2.ensures.crash in
    let opened = goes_on g.D.Disk.clock g.D.Disk.left_since c.args.self.now.disk c.sync.new.self c.write_at-2.new.self P _
    synced c.write_at-2.ensures.time second in
    goes_on g.D.Disk.clock g.D.Disk.left_since c.args.self.now.disk c.write_at-2.new.self c.sync-2.new.self P _
    opened c.sync-2.ensures.time (λ f now. second f (c.sync-2.ensures.crash f now))

pub returns-clause-settled : goal.returns-clause-settled
returns-clause-settled g c =
    let s = c.requires.settled in
    let ps = entries (g.D.Disk.seen c.args.self.now.disk) in
    let block_is = c.as_slice.ensures.value ∙ c.in_ok-block.ensures in
    let holds = subst (λ f. Holds f (c.args.self.now.end + 1) (body c.args.entry.now ++ 0 ∷ []) (g.D.Disk.seen c.write_at.new.self)) s.file
    (subst (λ b. Holds (g.D.Disk.seen c.args.self.now.disk) (c.args.self.now.end + 1) b (g.D.Disk.seen c.write_at.new.self)) block_is c.in_ok-write_at.ensures.written) in
    let is_staged = written_behind ps _ s.end s.short c.args.entry.now _ holds in
    let holds_gate = subst (λ f. Holds f c.args.self.now.end (1 ∷ []) (g.D.Disk.seen c.write_at-2.new.self)) (c.sync.ensures.seen ∙ is_staged) c.in_ok-write_at-2.ensures.written in
    let is_open = written_gate ps _ s.end s.short c.args.entry.now _ holds_gate in
    let short = short-push ps c.args.entry.now s.short c.requires.short in
    let durable = subst (λ f. Only f (g.D.Disk.may_leave c.sync-2.new.self)) (sym c.sync-2.ensures.seen) c.in_ok-sync-2.ensures.durable in
    let end = ends_at ps c.args.entry.now _ _ s.end (omega (arith, c.len.ensures, c.in_ok-block.block.ok, ap length c.in_ok-block.ensures)) in
    settled _ _ _ (ps ++ c.args.entry.now ∷ []) (c.sync-2.ensures.seen ∙ is_open) end short durable

pub returns-clause-acknowledged : goal.returns-clause-acknowledged
returns-clause-acknowledged g c =
    let s = c.requires.settled in
    let ps = entries (g.D.Disk.seen c.args.self.now.disk) in
    let block_is = c.as_slice.ensures.value ∙ c.in_ok-block.ensures in
    let holds = subst (λ f. Holds f (c.args.self.now.end + 1) (body c.args.entry.now ++ 0 ∷ []) (g.D.Disk.seen c.write_at.new.self)) s.file
    (subst (λ b. Holds (g.D.Disk.seen c.args.self.now.disk) (c.args.self.now.end + 1) b (g.D.Disk.seen c.write_at.new.self)) block_is c.in_ok-write_at.ensures.written) in
    let is_staged = written_behind ps _ s.end s.short c.args.entry.now _ holds in
    let holds_gate = subst (λ f. Holds f c.args.self.now.end (1 ∷ []) (g.D.Disk.seen c.write_at-2.new.self)) (c.sync.ensures.seen ∙ is_staged) c.in_ok-write_at-2.ensures.written in
    let is_open = written_gate ps _ s.end s.short c.args.entry.now _ holds_gate in
    let short = short-push ps c.args.entry.now s.short c.requires.short in
    held _ _ (c.sync-2.ensures.seen ∙ is_open) short
