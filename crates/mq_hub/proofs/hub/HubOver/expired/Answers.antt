use Rattle.std.proofs.Common.{◌∙◌, List, ℕ, sym, ap, subst}
use Rattle.mq_route.specs.Hub.{HubState}
use Rattle.mq_route.specs.Step.{expired_keys}
use Rattle.mq_tables.proofs.FirstPackets.{if_ok_by}
use Rattle.mq_hub.specs.Inside.Expiry.{AreAway}
use Rattle.mq_hub.proofs.ExpiredSessions.{away_seen, gone_away, keys_seen}
use Rattle.mq_hub.proofs.hub.HubOver.expired.Goals as goal

pub returns-clause-keys : goal.returns-clause-keys
returns-clause-keys g c =
    let h = c.self.inside in
    if_ok_by c.expired.result
    (λ keys is. is ∙ sym (keys_seen h.config c.args.now h.next_key h.tables)
    ∙ ap (λ (s : HubState). expired_keys (record s { clock = c.args.now })) c.self.view_is)
    c.expired.ensures

pub returns-clause-away : goal.returns-clause-away
returns-clause-away g c =
    let h = c.self.inside in
    let t = h.tables in
    if_ok_by c.expired.result
    (λ keys is. subst (λ (s : HubState). AreAway keys.items s.connections) c.self.view_is
    (away_seen t.sessions.list t.connections.connections keys.items
    (subst (λ (ks : List ℕ). AreAway ks t.connections.connections)
    (sym is)
    (gone_away h.config.session_expiry c.args.now t.connections.connections t.sessions.list))))
    c.expired.ensures
