use Rattle.std.proofs.Common.{◌∙◌, List, length, sym, ap, subst, arith}
use Rattle.std.specs.HashMap.{get}
use Rattle.std.specs.Str.{bytes_eq}
use Rattle.mq_route.specs.Hub.{key_of}
use Rattle.mq_tables.specs.declared.sessions.session.BrokerSession.{BrokerSession}
use Rattle.mq_tables.specs.Sessions.{SessionTable, sessions_of, AreSessions}
use Rattle.mq_tables.proofs.SessionLemmas.{absent, kept_without, none_taken, shorter}
use Rattle.mq_tables.proofs.sessions.table.Sessions.remove.Goals as goal

pub invariant_of-self : goal.invariant_of-self
invariant_of-self c =
    let ts = c.self.inside.list.items in
    subst (λ (rs : List BrokerSession). AreSessions rs (get bytes_eq c.self.inside.keys))
    (sym (c.take_at.ensures.list ∙ absent c.args.key ts (sym c.take_at.ensures.taken ∙ c.in_err-session.was))) c.self.invariant

pub returns-in_err-session-clause-room : goal.returns-in_err-session-clause-room
returns-in_err-session-clause-room c =
    let room = ap (λ (v : SessionTable). v.room) c.self.view_is in
    let fewer = shorter c.args.key c.self.inside.list.items in
    let left = ap length c.take_at.ensures.list in
    let capacity = c.take_at.ensures.capacity in
    omega arith

pub invariant_of-self-2 : goal.invariant_of-self-2
invariant_of-self-2 c =
    let ts = c.self.inside.list.items in
    subst (λ (rs : List BrokerSession). AreSessions rs (get bytes_eq c.drop_key.new.keys)) (sym c.take_at.ensures.list)
    (kept_without c.args.key c.in_ok-session.session ts (get bytes_eq c.self.inside.keys) (get bytes_eq c.drop_key.new.keys) c.self.invariant
    (sym c.take_at.ensures.taken ∙ c.in_ok-session.was) c.drop_key.ensures.named)

pub returns-clause-room : goal.returns-clause-room
returns-clause-room c =
    let room = ap (λ (v : SessionTable). v.room) c.self.view_is in
    let fewer = shorter c.args.key c.self.inside.list.items in
    let left = ap length c.take_at.ensures.list in
    let capacity = c.take_at.ensures.capacity in
    let spare = c.drop_key.ensures.spare in
    omega arith

pub returns-in_err-session-clause-client : goal.returns-in_err-session-clause-client
returns-in_err-session-clause-client c =
    let key = c.args.key in
    let ts = c.self.inside.list.items in
    let same = ap (λ (v : SessionTable). v.list) c.self.view_is in
    λ n e. ap (λ (rs : List BrokerSession). key_of n (sessions_of rs)) c.take_at.ensures.list
    ∙ none_taken n key ts c.self.invariant.distinct (ap (λ (rs : List BrokerSession). key_of n (sessions_of rs)) same ∙ e)

pub returns-clause-client : goal.returns-clause-client
returns-clause-client c =
    let key = c.args.key in
    let ts = c.self.inside.list.items in
    let same = ap (λ (v : SessionTable). v.list) c.self.view_is in
    λ n e. ap (λ (rs : List BrokerSession). key_of n (sessions_of rs)) c.take_at.ensures.list
    ∙ none_taken n key ts c.self.invariant.distinct (ap (λ (rs : List BrokerSession). key_of n (sessions_of rs)) same ∙ e)
