use Rattle.std.proofs.Common.{◌≡◌, subst}
use Rattle.mq_route.specs.Hub.{HubState}
use Rattle.mq_route.specs.Snapshot.{quiet, restored}
use Rattle.mq_hub.proofs.QuietHub.{kept_whole}
use Rattle.mq_hub.proofs.hub.HubOver.save.Goals as goal

pub returns-in_err-rows-clause-kept : goal.returns-in_err-rows-clause-kept
returns-in_err-rows-clause-kept g c =
    let h = c.self.inside in
    subst (λ (v : HubState). restored v.config v ≡ quiet v) c.self.view_is (kept_whole h.config h.clock h.next_key h.tables c.self.invariant)

pub returns-clause-kept : goal.returns-clause-kept
returns-clause-kept g c =
    let h = c.self.inside in
    subst (λ (v : HubState). restored v.config v ≡ quiet v) c.self.view_is (kept_whole h.config h.clock h.next_key h.tables c.self.invariant)
