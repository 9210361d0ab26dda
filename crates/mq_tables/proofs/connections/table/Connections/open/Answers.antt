use Rattle.std.proofs.Common.{◌≡◌, ◌∙◌, ◌<◌, ◌++◌, ◌∷◌, [], List, ℕ, None, eqb, sym, ap, subst}
use Rattle.std.specs.HashMap.{get, hash_map_len, spare}
use Rattle.indexmap.specs.IndexMap.{insert_entry}
use Rattle.indexmap.proofs.CallerLemmas.{insert_entry-new}
use Rattle.std.specs.List.{IsDistinct}
use Rattle.std.specs.Map.{keys_of, lookup}
use Rattle.mq_decode.specs.Limits.{Bounds}
use Rattle.mq_route.specs.Routed.{same_conn}
use Rattle.mq_tables.specs.declared.connections.connection.Connection.{Connection}
use Rattle.mq_tables.specs.Connections.{service, ConnectionList, connections_of, connection_of, AreConnections, IsReading}
use Rattle.mq_tables.proofs.RingTimes.{still_all_awaited}
use Rattle.mq_tables.proofs.ConnectionTable.{Entry, awaited_of, kept_anew, kept_last, lines_last, not_some}
use Rattle.mq_tables.proofs.RetainedEntries.{entries_in}
use Rattle.mq_tables.proofs.FoundConnection.{known_seen}
use Rattle.mq_tables.proofs.connections.table.Connections.open.Goals as goal

-- it is appended
last : (c : goal.Joined-insert) → c.insert.new.self.entries ≡ c.self.inside.by_conn.entries ++ (c.args.boxed.conn, c.args.boxed) ∷ []
last c =
    let b = c.args.boxed in
    let es = c.self.inside.by_conn.entries in
    let k = c.connection.result.now.conn in
    let new = c.insert.new.self.entries in
    let room : 0 < spare c.self.inside.by_conn = subst (λ (n : ℕ). 0 < n) (sym (ap (λ (v : ConnectionList). v.room) c.self.view_is)) c.requires.room in
    let done : new ≡ insert_entry same_conn es k b = entries_in (new ≡ insert_entry same_conn es k b) c.insert.result (c.insert.ensures.succeeds room) c.insert.ensures.entries in
    let none : lookup (same_conn b.conn) es ≡ None =
    not_some (lookup (same_conn b.conn) es) (known_seen c.self.invariant c.self.view_is b.conn ∙ c.requires.name) in
    done ∙ ap (λ (x : Connection). insert_entry same_conn es x.conn b) c.connection.ensures ∙ insert_entry-new same_conn c.self.inside.by_conn b.conn b none

pub invariant_of-self : goal.invariant_of-self
invariant_of-self c =
    let by = service c.self.inside.limits c.self.inside.alarms in
    let es = c.self.inside.by_conn.entries in
    let ups = c.self.inside.ups in
    let bounds = ap (λ (v : ConnectionList). v.limits.packets) c.self.view_is in
    let alarms = c.set_connect_alarm.new.alarms in
    let next = service c.self.inside.limits alarms in
    let rings = still_all_awaited by.within by.alarms alarms es c.set_connect_alarm.ensures.keeps (awaited_of by es c.self.invariant.served) in
    let kept = kept_anew by alarms es (get eqb ups) (hash_map_len ups) rings c.self.invariant in
    subst (λ (rs : List Entry). AreConnections next rs (get eqb ups) (hash_map_len ups)) (sym (last c))
    (kept_last next c.args.boxed es (get eqb ups) (hash_map_len ups) kept c.requires.stage
    (subst (λ (l : Bounds). IsReading l c.args.boxed) (sym bounds) c.requires.reading, c.set_connect_alarm.ensures.awaited)
    (subst (λ (rs : List Entry). IsDistinct same_conn (keys_of rs)) (last c) c.insert.ensures.unique))

pub returns-clause-connections : goal.returns-clause-connections
returns-clause-connections c =
    let b = c.args.boxed in
    ap connections_of (last c) ∙ lines_last (b.conn, b) c.self.inside.by_conn.entries ∙ ap (λ (v : ConnectionList). v.connections ++ connection_of b ∷ []) c.self.view_is
