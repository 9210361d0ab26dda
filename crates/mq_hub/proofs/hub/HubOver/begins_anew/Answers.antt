use Rattle.std.proofs.Common.{◌∙◌, ◌||◌, Bool, ap, sym}
use Rattle.mq_route.specs.Hub.{is_clean, stage_of}
use Rattle.mq_hub.proofs.TakeOver.{stage_there}
use Rattle.mq_hub.proofs.hub.HubOver.begins_anew.Goals as goal

pub returns-else-connect : goal.returns-else-connect
returns-else-connect g c =
    let h = c.self.inside in
    c.is_clean.ensures ∙ ap is_clean (stage_there c.args.other h.config h.clock h.next_key h.tables c.args.self.now c.self.view_is)
    ∙ ap (λ (b : Bool). b || is_clean (stage_of c.args.other c.args.self.now.connections)) (sym c.if-connect.false)
