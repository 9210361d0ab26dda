use Rattle.std.proofs.Common.{true, false, ap, sym, ◌∙◌}
use Rattle.mq_route.specs.declared.config.HubConfig.{HubConfig}
use Rattle.mq_route.specs.Hub.{key_of}
use Rattle.mq_route.specs.Welcome.{client_of, refusal_by_tables}
use Rattle.mq_hub.proofs.Checks.{rejected, by_login, by_place}
use Rattle.mq_hub.proofs.connect.check.refusal.Goals as goal

pub returns-then-is_rejected : goal.returns-then-is_rejected
returns-then-is_rejected c = λ h same counted status. sym (rejected c.args.connect.now h (sym c.is_rejected.ensures ∙ c.if-is_rejected.true))

pub returns-in-Some : goal.returns-in-Some
returns-in-Some c = λ h same counted status.
    sym (by_login c.args.connect.now h c.in-Some.code (sym c.is_rejected.ensures ∙ c.if-is_rejected.false)
    (ap (λ (k : HubConfig). refusal_by_tables k.users k.hashed_users c.args.connect.now.login) same ∙ sym c.login_refusal.ensures ∙ c.in-Some.is))

pub returns-then-is_unavailable : goal.returns-then-is_unavailable
returns-then-is_unavailable c = λ h same counted status.
    sym (by_place c.args.connect.now h true (sym c.is_rejected.ensures ∙ c.if-is_rejected.false)
    (ap (λ (k : HubConfig). refusal_by_tables k.users k.hashed_users c.args.connect.now.login) same ∙ sym c.login_refusal.ensures ∙ c.in_default.is)
    (sym (c.is_unavailable.ensures h (key_of (client_of c.args.connect.now h.sessions) h.sessions) same counted status) ∙ c.if-is_unavailable.true))

pub returns : goal.returns
returns c = λ h same counted status.
    sym (by_place c.args.connect.now h false (sym c.is_rejected.ensures ∙ c.if-is_rejected.false)
    (ap (λ (k : HubConfig). refusal_by_tables k.users k.hashed_users c.args.connect.now.login) same ∙ sym c.login_refusal.ensures ∙ c.in_default.is)
    (sym (c.is_unavailable.ensures h (key_of (client_of c.args.connect.now h.sessions) h.sessions) same counted status) ∙ c.if-is_unavailable.false))
