use Rattle.std.proofs.Common.{◌∙◌, sym, ap}
use Rattle.mq_route.specs.Hub.{HubState, changed, held_on, knows}
use Rattle.mq_tables.specs.Connections.{holds}
use Rattle.mq_tables.specs.Tables.{HubTables}
use Rattle.mq_hub.specs.Inside.Input.{with_held}
use Rattle.mq_hub.proofs.SameSessions.{held_seen, holds_stays, hub_alike, kept_alike, stays_on}
use Rattle.mq_hub.proofs.TableView.{knows_seen}
use Rattle.mq_hub.proofs.hub.HubOver.swap_decoder.Goals as goal

pub swap_decoder-requires-clause-known : goal.swap_decoder-requires-clause-known
swap_decoder-requires-clause-known g c =
    let t : HubTables = c.self.inside.tables in
    sym (knows_seen c.args.conn t.sessions.list t.connections.connections) ∙ ap (λ (h : HubState). knows c.args.conn h.connections) c.self.view_is ∙ c.requires.known

pub invariant_of-self : goal.invariant_of-self
invariant_of-self g c =
    let h = c.self.inside in
    let k = c.args.conn in
    let b = c.args.decoder.now.held in
    let t : HubTables = h.tables in
    let u : HubTables = c.swap_decoder.new.self in
    let rest = c.swap_decoder.ensures.rest in
    kept_alike (changed (holds b) k) (stays_on k (holds b) (holds_stays b)) h.config h.next_key t u (ap (λ (v : HubTables). v.rows) rest)
    (ap (λ (v : HubTables). v.retained.messages) rest) (ap (λ (v : HubTables). v.sessions.list) rest)
    c.swap_decoder.ensures.connections c.self.invariant c.swap_decoder.ensures.limits

pub returns-clause-hub : goal.returns-clause-hub
returns-clause-hub g c =
    let h = c.self.inside in
    let k = c.args.conn in
    let b = c.args.decoder.now.held in
    let t : HubTables = h.tables in
    let u : HubTables = c.swap_decoder.new.self in
    let rest = c.swap_decoder.ensures.rest in
    hub_alike (changed (holds b) k) (stays_on k (holds b) (holds_stays b)) h.config h.next_key t u (ap (λ (v : HubTables). v.rows) rest)
    (ap (λ (v : HubTables). v.retained.messages) rest) (ap (λ (v : HubTables). v.sessions.list) rest)
    c.swap_decoder.ensures.connections h.clock
    ∙ ap (with_held k b) c.self.view_is

pub returns-clause-held : goal.returns-clause-held
returns-clause-held g c =
    let t : HubTables = c.self.inside.tables in
    c.swap_decoder.ensures.held ∙ sym (held_seen c.args.conn t.sessions.list t.connections.connections)
    ∙ ap (λ (h : HubState). held_on c.args.conn h.connections) c.self.view_is
