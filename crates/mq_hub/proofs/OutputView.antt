-- Taking the pending output of a connection, as the broker's definition sees it.
use Rattle.std.proofs.Common.{◌≡◌, ℕ, List, map, Some, None, Result, Ok, Err, IfOk, OnOk, OnErr, sym, ap, subst, ◌∙◌}
use Rattle.std.specs.declared.alloc.AllocError.{AllocError}
use Rattle.mq_end.specs.State.{EndState}
use Rattle.mq_route.specs.declared.config.HubConfig.{HubConfig}
use Rattle.mq_route.specs.declared.conn.Conn.{Conn}
use Rattle.mq_route.specs.Hub.{key_on, stage_of, waiting_on, with_connection}
use Rattle.mq_route.specs.Step.{on_collect}
use Rattle.mq_tables.specs.declared.sessions.session.BrokerSession.{BrokerSession}
use Rattle.mq_tables.specs.Output.{Collects, drained}
use Rattle.mq_tables.specs.Connections.{ConnectionList}
use Rattle.mq_tables.specs.Tables.{HubTables}
use Rattle.mq_tables.specs.Publishing.{roomless}
use Rattle.mq_tables.specs.Sessions.{sessions_of, session_at, with_server}
use Rattle.mq_tables.proofs.TakenOutput.{emptied}
use Rattle.mq_tables.proofs.SessionRoom.{other_room}
use Rattle.mq_hub.specs.Inside.Invariant.{HubInvariant}
use Rattle.mq_hub.specs.Inside.View.{all_seen, hub_of}
use Rattle.mq_hub.specs.Inside.DeliveryPlan.{AreTablesAlike}
use Rattle.mq_hub.proofs.ConnectionChange.{waiting_own}
use Rattle.mq_hub.proofs.TakenOutput.{hub_drained, hub_emptied, kept_drained, kept_emptied, waits_up}
use Rattle.mq_hub.proofs.InvariantChanges.{kept_by}
use Rattle.mq_hub.proofs.DeliveryInvariant.{hub_alike, kept_alike}

abbrev Answer : Type 0
Answer = Result (List ℕ) AllocError

-- ---- of a connected one

module _ (config : HubConfig) (next key : ℕ) (s : BrokerSession) (e : EndState) (t u : HubTables) (there : session_at key t.sessions.list ≡ Some s) (kept : HubInvariant config next t)
    (rest : u ≡ record t { sessions = u.sessions }) (after : u.sessions.list ≡ with_server key e t.sessions.list) where
  rows : u.rows ≡ t.rows
  rows = ap (λ (v : HubTables). v.rows) rest

  retained : u.retained.messages ≡ t.retained.messages
  retained = ap (λ (v : HubTables). v.retained.messages) rest

  connections : u.connections ≡ t.connections
  connections = ap (λ (v : HubTables). v.connections) rest

  taken_out : e ≡ drained e.room s.end → u.sessions.list ≡ with_server key (drained e.room s.end) t.sessions.list
  taken_out is = after ∙ ap (λ (x : EndState). with_server key x t.sessions.list) is

  stays : e ≡ record s.end { room = e.room } → AreTablesAlike t u
  stays is = record {
    rows = rows;
    retained = retained;
    list = subst (λ (ts : List BrokerSession). map roomless ts ≡ map roomless t.sessions.list) (sym (after ∙ ap (λ (x : EndState). with_server key x t.sessions.list) is))
        (other_room e.room key s t.sessions.list kept.ascending there);
    connections = connections;
  }

  pub up_keeps : (r : Answer) → Collects r s.end e → HubInvariant config next u
  up_keeps (Ok b) is =
      kept_drained config next key e.room s t u there kept rows retained (taken_out is.1) (ap (λ (l : ConnectionList). l.connections) connections) (ap (λ (l : ConnectionList). l.limits) connections)
  up_keeps (Err x) is = kept_alike config next t u (stays is) kept

  module _ (clock : ℕ) (k : Conn) (up : key_on (stage_of k t.connections.connections) ≡ Some key) where
    pub up_bytes : (r : Answer) → Collects r s.end e → IfOk r (λ b. b ≡ waiting_on k (hub_of config clock next t).connections)
    up_bytes (Ok b) is = is.0 ∙ sym (waits_up k key s t.sessions.list t.connections.connections up there)
    up_bytes (Err x) is = tt

    pub up_taken : (r : Answer) → Collects r s.end e → OnOk r (hub_of config clock next u ≡ on_collect k (hub_of config clock next t))
    up_taken (Ok b) is =
        hub_drained config next key e.room s t u there kept rows retained (taken_out is.1) (ap (λ (l : ConnectionList). l.connections) connections) clock k up
    up_taken (Err x) is = tt

    pub up_err : (r : Answer) → Collects r s.end e → OnErr r (hub_of config clock next u ≡ hub_of config clock next t)
    up_err (Ok b) is = tt
    up_err (Err x) is = hub_alike config clock next t u (stays is)

-- ---- of one without client

module _ (config : HubConfig) (next : ℕ) (k : Conn) (t u : HubTables) (kept : HubInvariant config next t) (rest : u ≡ record t { connections = u.connections }) where
  own_rows : u.rows ≡ t.rows
  own_rows = ap (λ (v : HubTables). v.rows) rest

  own_retained : u.retained.messages ≡ t.retained.messages
  own_retained = ap (λ (v : HubTables). v.retained.messages) rest

  own_list : u.sessions.list ≡ t.sessions.list
  own_list = ap (λ (v : HubTables). v.sessions.list) rest

  pub own_keeps : (r : Answer) → OnOk r (u.connections.connections ≡ with_connection emptied k t.connections.connections) → OnErr r (u.connections.connections ≡ t.connections.connections) → u.connections.limits ≡ t.connections.limits → HubInvariant config next u
  own_keeps (Ok b) taken same limits = kept_emptied config next k t u kept own_rows own_retained own_list taken limits
  own_keeps (Err x) taken same limits = kept_by config next t u kept own_rows own_retained own_list same limits

  module _ (clock : ℕ) (down : key_on (stage_of k t.connections.connections) ≡ None) where
    pub own_bytes_as : (r : Answer) → IfOk r (λ b. b ≡ waiting_on k t.connections.connections) → IfOk r (λ b. b ≡ waiting_on k (hub_of config clock next t).connections)
    own_bytes_as (Ok b) is = is ∙ sym (waiting_own k t.sessions.list t.connections.connections down)
    own_bytes_as (Err x) is = tt

    pub own_taken : (r : Answer) → OnOk r (u.connections.connections ≡ with_connection emptied k t.connections.connections) → OnOk r (hub_of config clock next u ≡ on_collect k (hub_of config clock next t))
    own_taken (Ok b) taken = hub_emptied config clock next k t u kept down own_rows own_retained own_list taken
    own_taken (Err x) taken = tt

    pub own_err : (r : Answer) → OnErr r (u.connections.connections ≡ t.connections.connections) → OnErr r (hub_of config clock next u ≡ hub_of config clock next t)
    own_err (Ok b) same = tt
    own_err (Err x) same = λ i. record {
      config = config;
      clock = clock;
      next_key = next;
      rows = own_rows i;
      retained = own_retained i;
      sessions = sessions_of (own_list i);
      connections = all_seen (own_list i) (same i);
    }
