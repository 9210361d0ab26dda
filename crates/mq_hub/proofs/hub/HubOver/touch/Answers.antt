use Rattle.std.proofs.Common.{◌≡◌, ◌∙◌, true, ℕ, sym, ap}
use Rattle.mq_end.specs.End.{is_up}
use Rattle.mq_route.specs.Hub.{HubState, changed, end_of, key_on, stage_of}
use Rattle.mq_tables.specs.Connections.{touched_at}
use Rattle.mq_tables.specs.Tables.{HubTables}
use Rattle.mq_hub.specs.Inside.Input.{with_touched}
use Rattle.mq_hub.proofs.SameSessions.{hears_stays, hub_alike, kept_alike, stays_on}
use Rattle.mq_hub.proofs.MalformedBytes.{end_up}
use Rattle.mq_hub.proofs.ConnectionChange.{stage_seen}
use Rattle.mq_hub.proofs.LastActivity.{if_some}
use Rattle.mq_hub.proofs.hub.HubOver.touch.Goals as goal

pub invariant_of-self : goal.invariant_of-self
invariant_of-self g c =
    let h = c.self.inside in
    let k = c.args.conn in
    let t : HubTables = h.tables in
    let u : HubTables = c.touched.new.self in
    let rest = c.touched.ensures.rest in
    kept_alike (changed (touched_at h.clock) k) (stays_on k (touched_at h.clock) (hears_stays h.clock)) h.config h.next_key t u (ap (λ (v : HubTables). v.rows) rest)
    (ap (λ (v : HubTables). v.retained.messages) rest) (ap (λ (v : HubTables). v.sessions.list) rest)
    c.touched.ensures.connections c.self.invariant c.touched.ensures.limits

pub returns-clause-hub : goal.returns-clause-hub
returns-clause-hub g c =
    let h = c.self.inside in
    let k = c.args.conn in
    let t : HubTables = h.tables in
    let u : HubTables = c.touched.new.self in
    let rest = c.touched.ensures.rest in
    hub_alike (changed (touched_at h.clock) k) (stays_on k (touched_at h.clock) (hears_stays h.clock)) h.config h.next_key t u (ap (λ (v : HubTables). v.rows) rest)
    (ap (λ (v : HubTables). v.retained.messages) rest) (ap (λ (v : HubTables). v.sessions.list) rest)
    c.touched.ensures.connections h.clock
    ∙ ap (with_touched k) c.self.view_is

pub returns-clause-key : goal.returns-clause-key
returns-clause-key g c =
    let t : HubTables = c.self.inside.tables in
    c.touched.ensures.key ∙ ap key_on (sym (stage_seen c.args.conn t.sessions.list t.connections.connections))
    ∙ ap (λ (h : HubState). key_on (stage_of c.args.conn h.connections)) c.self.view_is

pub returns-clause-up : goal.returns-clause-up
returns-clause-up g c =
    let h = c.self.inside in
    let t : HubTables = h.tables in
    if_some (λ (key : ℕ). is_up (end_of key c.args.self.now.sessions).state ≡ true) c.touched.result
    (λ key is. ap (λ (s : HubState). is_up (end_of key s.sessions).state) (sym c.self.view_is)
    ∙ end_up h.config h.next_key t c.args.conn key c.self.invariant (sym c.touched.ensures.key ∙ is))
