use Rattle.std.proofs.Common.{◌≡◌, ◌≤◌, ℕ, ap, refl, subst}
use Rattle.std.specs.Option.{is_some}
use Rattle.mq_end.specs.Sizes.{publish_size}
use Rattle.mq_route.specs.declared.config.HubConfig.{HubConfig}
use Rattle.mq_route.specs.Hub.{copies_of}
use Rattle.mq_tables.specs.Tables.{HubTables}
use Rattle.mq_hub.specs.Inside.Invariant.{HubInvariant}
use Rattle.mq_hub.specs.Inside.Placement.{AreFor}
use Rattle.mq_hub.specs.Inside.View.{hub_of}
use Rattle.mq_hub.proofs.ConnectionChange.{up_seen}
use Rattle.mq_hub.proofs.publish.reserve.plan_delivery.Goals as goal

pub returns-clause-copies : goal.returns-clause-copies
returns-clause-copies g c =
    subst (λ (v : HubTables). (config : HubConfig) (clock next_key : ℕ)
    → c.in_ok-copies.copies.items ≡ copies_of c.args.message.now (hub_of config clock next_key v)) c.tables.view_is
    (λ config clock next_key. c.in_ok-copies.ensures.copies _ refl (λ key. ap is_some (up_seen key c.tables.inside.sessions.list c.tables.inside.connections.connections)))

pub returns-clause-due : goal.returns-clause-due
returns-clause-due g c =
    subst (λ (v : HubTables). (config : HubConfig) (next_key : ℕ) → HubInvariant config next_key v → publish_size c.args.message.now ≤ config.limits.most
    → AreFor v.sessions.list c.in_ok-copies.copies.items) c.tables.view_is
    (λ config next_key keeps within. c.in_ok-copies.ensures.due config next_key _ refl refl keeps within)
