use Rattle.std.proofs.Common.{◌∙◌, ℕ, Option, Some, sym, ap, subst}
use Rattle.std.specs.Option.{is_some}
use Rattle.mq_route.specs.Hub.{HubState, key_of}
use Rattle.mq_tables.specs.Tables.{HubTables}
use Rattle.mq_hub.specs.declared.connect.check.SessionStatus.{SessionStatus}
use Rattle.mq_hub.specs.Inside.View.{hub_of}
use Rattle.mq_hub.specs.Inside.ConnectChecks.{IsStatusOf}
use Rattle.mq_hub.proofs.ConnectionChange.{up_seen}
use Rattle.mq_hub.proofs.Counts.{ends_seen}
use Rattle.mq_hub.proofs.hub.HubOver.status.Goals as goal

pub returns : goal.returns
returns g c =
    let t : HubTables = c.self.inside.tables in
    let h : HubState = hub_of c.self.inside.config c.self.inside.clock c.self.inside.next_key t in
    let key = c.in_ok-key.key in
    let s : SessionStatus = record { is_up = c.is_up.result; ends = c.ends_with.result } in
    let stands : IsStatusOf (Some s) (Some key) h = (
      c.is_up.ensures ∙ ap is_some (sym (up_seen key t.sessions.list t.connections.connections)),
      c.ends_with.ensures ∙ sym (ends_seen key t.sessions.list t.connections.connections),
    ) in
    subst (λ (b : HubState). IsStatusOf (Some s) (key_of c.args.client.now b.sessions) b) c.self.view_is
    (subst (λ (o : Option ℕ). IsStatusOf (Some s) o h) c.in_ok-key.ensures stands)
