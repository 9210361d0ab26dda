-- The connection of a name, in a table whose invariant holds, and in its model.
use Rattle.std.proofs.Common.{◌≡◌, ◌∙◌, ℕ, false, cond, List, ◌∷◌, Option, Some, None, is_some, refl, sym, ap}
use Rattle.std.specs.Map.{lookup, set_value}
use Rattle.mq_route.specs.declared.conn.Conn.{Conn}
use Rattle.mq_route.specs.declared.connection_state.ConnectionState.TheVariants.{Closed}
use Rattle.mq_route.specs.Hub.{HubConnection, held_on, is_connection, key_on, knows, stage_of, waiting_on, with_connection}
use Rattle.mq_route.specs.Routed.{same_conn}
use Rattle.mq_tables.specs.declared.connections.connection.Connection.{Connection}
use Rattle.mq_tables.specs.declared.connections.table.ConnectionLimits.{ConnectionLimits}
use Rattle.mq_tables.specs.Connections.{connection_of, connections_of, AreConnections, ConnectionList, Service}
use Rattle.mq_tables.proofs.ConnectionTable.{Entry, are_named, changed, found_by, kept_same, known, served_at, still_all, unknown_shut}
use Rattle.mq_tables.proofs.PendingBytes.{same_decoding}
use Rattle.mq_tables.proofs.RingTimes.{same_awaited}

-- the model of a table that stores these connections
abbrev pub stored_list : List Entry → ConnectionLimits → ℕ → ℕ → ℕ → ConnectionList
stored_list es limits room up_room alarms = record { connections = connections_of es; limits = limits; room = room; up_room = up_room; alarms = alarms }

module _ {by : Service} {es : List Entry} {find : ℕ → Option Conn} {count : ℕ} (kept : AreConnections by es find count) where
  module _ {limits : ConnectionLimits} {room up_room alarms : ℕ} {seen : ConnectionList} (view : stored_list es limits room up_room alarms ≡ seen) (k : Conn) where
    pub known_seen : is_some (lookup (same_conn k) es) ≡ knows k seen.connections
    known_seen = known k es (are_named by es kept.served) ∙ ap (λ (v : ConnectionList). knows k v.connections) view

    pub lacks_seen : None ≡ lookup (same_conn k) es → knows k seen.connections ≡ false
    lacks_seen none = sym known_seen ∙ ap is_some (sym none)

    pub shut_seen : None ≡ lookup (same_conn k) es → Closed ≡ stage_of k seen.connections
    shut_seen none = sym (unknown_shut k seen.connections (lacks_seen none))

    -- no connection is changed
    pub still_seen : (f : HubConnection → HubConnection) → None ≡ lookup (same_conn k) es → connections_of es ≡ with_connection f k seen.connections
    still_seen f none = still_all f k es (are_named by es kept.served) none ∙ ap (λ (v : ConnectionList). with_connection f k v.connections) view

    -- the connection that is found is changed
    pub changed_seen : (f : HubConnection → HubConnection) {own : Connection} (w : Connection) → Some own ≡ lookup (same_conn k) es → connection_of w ≡ f (connection_of own)
        → connections_of (set_value (same_conn k) es w) ≡ with_connection f k seen.connections
    changed_seen f {own = own} w there says =
        changed f k es own w (are_named by es kept.served) kept.distinct (sym there) says ∙ ap (λ (v : ConnectionList). with_connection f k v.connections) view

    field_seen : {X : Type 0} (p : HubConnection → X) (g : List HubConnection → X) → ((x : HubConnection) (xs : List HubConnection) → g (x ∷ xs) ≡ cond (is_connection k x) (p x) (g xs))
        → (own : Connection) → Some own ≡ lookup (same_conn k) es → p (connection_of own) ≡ g seen.connections
    field_seen p g step own there = sym (found_by p k g step es own (are_named by es kept.served) (sym there)) ∙ ap (λ (v : ConnectionList). g v.connections) view

    pub stage_seen : {own : Connection} → Some own ≡ lookup (same_conn k) es → own.stage ≡ stage_of k seen.connections
    stage_seen {own = own} there = field_seen (λ (x : HubConnection). x.stage) (stage_of k) (λ x xs. refl) own there

    pub held_seen : {own : Connection} → Some own ≡ lookup (same_conn k) es → own.decoder.held ≡ held_on k seen.connections
    held_seen {own = own} there = field_seen (λ (x : HubConnection). x.held) (held_on k) (λ x xs. refl) own there

    pub waiting_seen : {own : Connection} → Some own ≡ lookup (same_conn k) es → own.waiting ≡ waiting_on k seen.connections
    waiting_seen {own = own} there = field_seen (λ (x : HubConnection). x.waiting) (waiting_on k) (λ x xs. refl) own there

  -- other output waits on a connection
  pub kept_waiting : (k : Conn) {own w : Connection} {bytes : List ℕ} → Some own ≡ lookup (same_conn k) es → w ≡ record own { waiting = bytes }
      → AreConnections by (set_value (same_conn k) es w) find count
  kept_waiting k {own = own} {w = w} there says =
      let read = served_at by k es own kept.served (sym there) in
      let conn = ap (λ (x : Connection). x.conn) says in
      kept_same by k es own w find count kept (sym there) conn
      (same_decoding by.bounds own.decoder w.decoder (ap (λ (x : Connection). x.decoder) says) read.0, same_awaited by.within by.alarms own w conn (ap (λ (x : Connection). x.since) says) (ap (λ (x : Connection). x.stage) says) read.1)
      (ap (λ (x : Connection). key_on x.stage) says)
