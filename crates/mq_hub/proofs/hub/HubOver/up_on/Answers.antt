use Rattle.std.proofs.Common.{◌≡◌, ◌∙◌, ℕ, List, Option, Some, None, ap, sym}
use Rattle.std.specs.Option.{IfSome}
use Rattle.mq_route.specs.declared.conn.Conn.{Conn}
use Rattle.mq_route.specs.Hub.{HubState, HubConnection, key_on, stage_of, up_on}
use Rattle.mq_hub.specs.Inside.Invariant.{AreApart}
use Rattle.mq_hub.proofs.ConnectionChange.{up_seen}
use Rattle.mq_hub.proofs.EndReplies.{on_at}
use Rattle.mq_hub.proofs.TakeOver.{stage_there}
use Rattle.mq_hub.proofs.hub.HubOver.up_on.Goals as goal

pub returns-clause-conn : goal.returns-clause-conn
returns-clause-conn g c =
    let t = c.self.inside.tables in
    c.up_on.ensures ∙ sym (up_seen c.args.key t.sessions.list t.connections.connections) ∙ ap (λ (s : HubState). up_on c.args.key s.connections) c.self.view_is

-- a connection that is found is connected for the client
found : (key : ℕ) (o : Option Conn) (xs ys : List HubConnection) → AreApart xs → o ≡ up_on key xs → ((k : Conn) → stage_of k xs ≡ stage_of k ys)
    → IfSome o (λ k. key_on (stage_of k ys) ≡ Some key)
found key None xs ys apart is same = tt
found key (Some k) xs ys apart is same = ap key_on (sym (same k)) ∙ (on_at k key xs apart (sym is)).1

pub returns-clause-up : goal.returns-clause-up
returns-clause-up g c =
    let h = c.self.inside in
    let t = h.tables in
    found c.args.key c.up_on.result t.connections.connections c.args.self.now.connections c.self.invariant.apart c.up_on.ensures
    (λ k. stage_there k h.config h.clock h.next_key t c.args.self.now c.self.view_is)
