use Rattle.std.proofs.Common.{◌≤◌, arith, ℕ}
use Rattle.std.proofs.lemmas.List.Sorted.{Contains-permutation, IsNonDecreasingBy-from_sort}
use Rattle.mq_tables.proofs.RingTimes.{awaited_but, late_rang}
use Rattle.mq_tables.proofs.connections.table.find_late.Goals as goal

pub find_named-requires-clause-awaited : goal.find_named-requires-clause-awaited
find_named-requires-clause-awaited c =
    awaited_but c.args.within c.refresh_alarms.new.alarms c.take_ringing.new.self c.in_ok-names.names.items c.args.by_conn.now.entries c.in_ok-names.ensures.others c.refresh_alarms.ensures.awaited

pub find_named-requires-clause-late : goal.find_named-requires-clause-late
find_named-requires-clause-late c =
    let soon : c.args.now ≤ c.take_ringing.new.self.until =
    omega (arith, c.if-until-now.false, c.until.ensures, c.in_ok-names.ensures.until) in
    late_rang c.args.within c.args.now c.refresh_alarms.new.alarms c.take_ringing.new.self c.in_ok-names.names.items c.args.by_conn.now.entries c.requires.named c.refresh_alarms.ensures.awaited
    (λ k. c.in_ok-names.ensures.quiet k soon) c.in_ok-names.ensures.others

pub returns-clause-late : goal.returns-clause-late
returns-clause-late c = λ i x at late.
    Contains-permutation c.in_ok-places.places.items c.sort_unstable.new.self.items i c.sort_unstable.ensures.permutation (c.in_ok-places.ensures.late i x at late)

pub returns-clause-ascending : goal.returns-clause-ascending
returns-clause-ascending c = IsNonDecreasingBy-from_sort (λ (n : ℕ). n) c.sort_unstable.new.self.items c.sort_unstable.ensures.sorted
