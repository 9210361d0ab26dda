use Rattle.std.proofs.Common.{◌≡◌, ◌∙◌, ◌^◌, [], ℕ, Option, ap, subst, arith}
use Rattle.mq_route.specs.Hub.{HubState}
use Rattle.mq_route.specs.Step.{expired_keys}
use Rattle.mq_tables.specs.declared.connections.table.ConnectionLimits.{ConnectionLimits}
use Rattle.mq_tables.specs.Connections.{ConnectionList}
use Rattle.mq_tables.specs.Expiry.{AreKept}
use Rattle.mq_tables.specs.Late.{AreInTime}
use Rattle.mq_tables.proofs.ExpiredSessions.{none_gone}
use Rattle.mq_hub.proofs.ExpiredSessions.{keys_seen}
use Rattle.mq_hub.proofs.LateWalk.{deadline_idle, deadline_never, in_time_seen}
use Rattle.mq_hub.proofs.hub.HubOver.next_deadline.Goals as goal

pub returns-clause-idle : goal.returns-clause-idle
returns-clause-idle g c =
    let t = c.self.inside.tables in
    let own = c.self.inside.config in
    deadline_idle c.min.result (2 ^ 64) c.args.self.now
    (λ now soon. subst (λ (h : HubState). AreInTime h.config.connect_within now h.connections) c.self.view_is
    (in_time_seen own.connect_within now t.sessions.list t.connections.connections
    (subst (λ (within : Option ℕ). AreInTime within now t.connections.connections) (ap (λ (l : ConnectionLimits). l.connect_within) c.self.invariant.limits)
    (subst (λ (l : ConnectionList). AreInTime l.limits.connect_within now l.connections) (λ i. (c.self-inside.view_is i).tables.connections)
    (c.in_time_until-in_time_until.ensures now (omega (arith, soon, c.min.ensures)))))))
    (λ now soon. subst (λ (h : HubState). expired_keys (record h { clock = now }) ≡ []) c.self.view_is
    (keys_seen own now c.self.inside.next_key t
    ∙ none_gone own.session_expiry now t.connections.connections t.sessions.list
    (subst (λ (most : Option ℕ). AreKept most now t.connections.connections t.sessions.list) (λ i. (c.self-inside.view_is i).config.session_expiry)
    (c.kept_until-kept_until.ensures now (omega (arith, soon, c.min.ensures))))))
    c.checked_add.result c.checked_add.ensures

pub returns-clause-never : goal.returns-clause-never
returns-clause-never g c =
    let t = c.self.inside.tables in
    let own = c.self.inside.config in
    deadline_never c.min.result (2 ^ 64) c.args.self.now
    (λ now soon. subst (λ (h : HubState). AreInTime h.config.connect_within now h.connections) c.self.view_is
    (in_time_seen own.connect_within now t.sessions.list t.connections.connections
    (subst (λ (within : Option ℕ). AreInTime within now t.connections.connections) (ap (λ (l : ConnectionLimits). l.connect_within) c.self.invariant.limits)
    (subst (λ (l : ConnectionList). AreInTime l.limits.connect_within now l.connections) (λ i. (c.self-inside.view_is i).tables.connections)
    (c.in_time_until-in_time_until.ensures now (omega (arith, soon, c.min.ensures)))))))
    (λ now soon. subst (λ (h : HubState). expired_keys (record h { clock = now }) ≡ []) c.self.view_is
    (keys_seen own now c.self.inside.next_key t
    ∙ none_gone own.session_expiry now t.connections.connections t.sessions.list
    (subst (λ (most : Option ℕ). AreKept most now t.connections.connections t.sessions.list) (λ i. (c.self-inside.view_is i).config.session_expiry)
    (c.kept_until-kept_until.ensures now (omega (arith, soon, c.min.ensures))))))
    c.checked_add.result c.checked_add.ensures
