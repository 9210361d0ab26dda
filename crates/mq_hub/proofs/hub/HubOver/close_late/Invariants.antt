use Rattle.std.proofs.Common.{◌≡◌, ◌+◌, ◌*◌, ◌≤◌, length}
use Rattle.mq_route.specs.Work.{Work}
use Rattle.mq_hub.proofs.LateWalk.{IsClosing}
use Rattle.mq_hub.proofs.hub.HubOver.close_late.Given as goal

abbrev pub invariant-loop-place : goal.invariant-loop-place
invariant-loop-place g l = record {
  closing : (start : Work) → start.hub ≡ l.fn.self → start.did ≡ l.fn.log.acts → IsClosing l.fn.self.config.connect_within l.now start l.places l.place-index l.self l.log.acts;
  room : 3 * length l.places ≤ l.log.room + 3 * l.place-index;
}
