use Rattle.std.proofs.Common.{◌≡◌, ◌∙◌, true, ℕ, sym, ap}
use Rattle.mq_end.specs.End.{is_up}
use Rattle.mq_route.specs.Hub.{HubState, end_of, key_on, stage_of}
use Rattle.mq_tables.specs.Tables.{HubTables}
use Rattle.mq_hub.proofs.MalformedBytes.{end_up}
use Rattle.mq_hub.proofs.ConnectionChange.{stage_seen}
use Rattle.mq_hub.proofs.LastActivity.{if_some}
use Rattle.mq_hub.proofs.hub.HubOver.key.Goals as goal

pub returns-clause-key : goal.returns-clause-key
returns-clause-key g c =
    let t : HubTables = c.self.inside.tables in
    c.key.ensures ∙ ap key_on (sym (stage_seen c.args.conn t.sessions.list t.connections.connections))
    ∙ ap (λ (h : HubState). key_on (stage_of c.args.conn h.connections)) c.self.view_is

pub returns-clause-up : goal.returns-clause-up
returns-clause-up g c =
    let h = c.self.inside in
    let t : HubTables = h.tables in
    if_some (λ (key : ℕ). is_up (end_of key c.args.self.now.sessions).state ≡ true) c.key.result
    (λ key is. ap (λ (s : HubState). is_up (end_of key s.sessions).state) (sym c.self.view_is)
    ∙ end_up h.config h.next_key t c.args.conn key c.self.invariant (sym c.key.ensures ∙ is))
