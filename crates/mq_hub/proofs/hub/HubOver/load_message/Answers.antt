use Rattle.std.proofs.Common.{refl, ap}
use Rattle.mq_tables.specs.Tables.{HubTables}
use Rattle.mq_hub.proofs.LoadedParts.{kept_retained}
use Rattle.mq_hub.proofs.hub.HubOver.load_message.Goals as goal

pub invariant_of-self-2 : goal.invariant_of-self-2
invariant_of-self-2 g c =
    let h = c.self.inside in
    let rest = c.retain.ensures.rest in
    kept_retained h.config h.next_key h.tables c.retain.new.self c.self.invariant (ap (λ (v : HubTables). v.connections.connections) rest) (ap (λ (v : HubTables). v.connections.limits) rest)
    c.args.message (c.if-not-is_within.ensures refl) (ap (λ (v : HubTables). v.rows) rest) c.in_ok-retain.ensures.ok (ap (λ (v : HubTables). v.sessions.list) rest)
