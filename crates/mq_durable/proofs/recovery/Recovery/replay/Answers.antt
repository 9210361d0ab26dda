use Rattle.std.proofs.Common.{List, ◌∙◌, ap, subst}
use Rattle.mq_durable.specs.Recorded.{events_of}
use Rattle.mq_durable.specs.Inside.Recorded.{AreReadable}
use Rattle.mq_route.specs.Hub.{HubState}
use Rattle.mq_durable.specs.Recovering.{Continues, latest}
use Rattle.mq_durable.specs.Replaying.{Replays}
use Rattle.mq_durable.proofs.Recoveries.{Entry, of_slice, readable_read, replays_clock}
use Rattle.mq_durable.proofs.recovery.Recovery.replay.Goals as goal

pub returns-clause-hub : goal.returns-clause-hub
returns-clause-hub c =
    let continues : Continues c.self.inside.progress (events_of c.args.file.now) c.in_ok-progress.progress =
    of_slice c.self.inside.progress c.in_ok-progress.progress c.in_ok-contents.contents.entries.items c.as_slice.result.now c.args.file.now c.as_slice.ensures.value c.in_ok-contents.ensures.entries c.in_ok-progress.ensures.continues in
    subst (λ (h : HubState). Replays h (events_of c.args.file.now) c.in_ok-progress.progress.hub) c.self.view_is continues.replays

pub returns-clause-clock : goal.returns-clause-clock
returns-clause-clock c =
    let continues : Continues c.self.inside.progress (events_of c.args.file.now) c.in_ok-progress.progress =
    of_slice c.self.inside.progress c.in_ok-progress.progress c.in_ok-contents.contents.entries.items c.as_slice.result.now c.args.file.now c.as_slice.ensures.value c.in_ok-contents.ensures.entries c.in_ok-progress.ensures.continues in
    replays_clock c.self.inside.progress.hub c.in_ok-progress.progress.hub (events_of c.args.file.now) continues.replays
    ∙ ap (λ (h : HubState). latest h.clock (events_of c.args.file.now)) c.self.view_is

pub returns-clause-readable : goal.returns-clause-readable
returns-clause-readable c =
    readable_read c.in_ok-contents.contents.entries.items c.args.file.now c.in_ok-contents.ensures.entries
    (subst (λ (l : List Entry). AreReadable l) c.as_slice.ensures.value c.in_ok-progress.ensures.readable)

pub invariant_of-result : goal.invariant_of-result
invariant_of-result c = c.in_ok-progress.ensures.continues.recovering c.self.invariant
