use Rattle.std.proofs.Common.{◌≡◌, ◌∙◌, ℕ, List, Some, cond, sym, ap, subst}
use Rattle.std.specs.HashMap.{get}
use Rattle.std.specs.Str.{bytes_eq}
use Rattle.mq_route.specs.Hub.{key_of}
use Rattle.mq_tables.specs.declared.sessions.session.BrokerSession.{BrokerSession}
use Rattle.mq_tables.specs.Sessions.{SessionTable, AreBelow, sessions_of}
use Rattle.mq_tables.proofs.SessionLemmas.{kept_last}
use Rattle.mq_tables.proofs.sessions.table.Sessions.insert.Goals as goal

pub invariant_of-self : goal.invariant_of-self
invariant_of-self c =
    let ts = c.self.inside.list.items in
    let t = c.args.boxed in
    let same : ts ≡ c.args.self.now.list = ap (λ (v : SessionTable). v.list) c.self.view_is in
    let old = get bytes_eq c.self.inside.keys in
    rw c.push_reserved.ensures.items (kept_last t ts old (get bytes_eq c.write_key.new.keys) c.self.invariant
    (subst (λ (rs : List BrokerSession). AreBelow t.key rs) (sym same) c.requires.key)
    (ap (λ (rs : List BrokerSession). key_of t.client (sessions_of rs)) same ∙ c.requires.client)
    (λ n. c.write_key.ensures.named n ∙ ap (λ (x : BrokerSession). cond (bytes_eq c.args.name n) (Some x.key) (old n)) c.session.ensures
    ∙ ap (λ (k : List ℕ). cond (bytes_eq k n) (Some t.key) (old n)) c.requires.name))
