-- A broker that is made from a snapshot: numbers, subscriptions, retained messages and sessions.
use Rattle.std.proofs.Common.{◌≡◌, ℕ, ◌<◌, ◌≤◌, ◌^◌, true, cond, List, [], ◌∷◌, ◌++◌, refl, sym, ap, subst, ◌∙◌}
use Rattle.std.specs.Option.{is_some}
use Rattle.mq_topic.specs.declared.qos.Qos.{Qos}
use Rattle.mq_topic.specs.Rows.{with_row}
use Rattle.mq_packet.specs.declared.message.Message.{Message}
use Rattle.mq_end.specs.declared.state.State.TheVariants.{Disconnected, Connected}
use Rattle.mq_end.specs.End.{End, resumed}
use Rattle.mq_route.specs.declared.config.HubConfig.{HubConfig}
use Rattle.mq_route.specs.Copies.{kept}
use Rattle.mq_route.specs.Hub.{HubConnection, is_clean, stage_for, up_on, keep_alive_on}
use Rattle.mq_tables.specs.declared.sessions.session.BrokerSession.{BrokerSession}
use Rattle.mq_tables.specs.Sessions.{sessions_of, AreBelow}
use Rattle.mq_tables.specs.Tables.{HubTables}
use Rattle.mq_tables.proofs.SessionLemmas.{below_last}
use Rattle.mq_hub.specs.Inside.Invariant.{HasSession, HubInvariant, IsWithin, SessionMatchesConnection}
use Rattle.mq_hub.specs.Inside.View.{all_seen, hub_of}
use Rattle.mq_hub.proofs.DeliveryInvariant.{all_kept}
use Rattle.mq_hub.proofs.GrantedRows.{put_owned}
use Rattle.mq_hub.proofs.InvariantChanges.{kept_by}
use Rattle.mq_hub.proofs.NewSession.{all_last, backed_last, owned_last}

pub no_connections : (ts : List BrokerSession) (xs : List HubConnection) → all_seen ts xs ≡ [] → xs ≡ []
no_connections ts [] e = refl
no_connections ts (x ∷ xs) e = absurd cc

pub kept_numbers : (config : HubConfig) (old next : ℕ) (t : HubTables) → HubInvariant config old t → t.sessions.list ≡ [] → next ≤ 2 ^ 32 → HubInvariant config next t
kept_numbers config old next t keeps none low = record {
  capacity = keeps.capacity;
  window = keeps.window;
  limits = keeps.limits;
  apart = keeps.apart;
  quiet = keeps.quiet;
  backed = keeps.backed;
  fitting = keeps.fitting;
  ascending = keeps.ascending;
  below = subst (AreBelow next) (sym none) tt;
  next = low;
  owned = keeps.owned;
  retained = keeps.retained;
}

-- ---- other tables with the same connections

module _ (config : HubConfig) (next : ℕ) (t u : HubTables) (keeps : HubInvariant config next t) (connections : u.connections.connections ≡ t.connections.connections) (limits : u.connections.limits ≡ t.connections.limits) where
  -- a subscription is set
  pub kept_set : (key : ℕ) (f : List ℕ) (q : Qos) → HasSession t.sessions.list key → u.rows ≡ with_row key f q t.rows → u.retained.messages ≡ t.retained.messages → u.sessions.list ≡ t.sessions.list
      → HubInvariant config next u
  kept_set key f q there rows retained list =
      let v : HubTables = record t { rows = with_row key f q t.rows } in
      let w : HubInvariant config next v = record {
        capacity = keeps.capacity;
        window = keeps.window;
        limits = keeps.limits;
        apart = keeps.apart;
        quiet = keeps.quiet;
        backed = keeps.backed;
        fitting = keeps.fitting;
        ascending = keeps.ascending;
        below = keeps.below;
        next = keeps.next;
        owned = put_owned (HasSession t.sessions.list) key f q t.rows there keeps.owned;
        retained = keeps.retained;
      } in
      kept_by config next v u w rows retained list connections limits

  -- a message is retained
  pub kept_retained : (m : Message) → IsWithin config.limits.most m → u.rows ≡ t.rows → u.retained.messages ≡ kept m t.retained.messages → u.sessions.list ≡ t.sessions.list → HubInvariant config next u
  kept_retained m within rows retained list =
      let v : HubTables = record t { retained = record t.retained { messages = kept m t.retained.messages } } in
      let w : HubInvariant config next v = record {
        capacity = keeps.capacity;
        window = keeps.window;
        limits = keeps.limits;
        apart = keeps.apart;
        quiet = keeps.quiet;
        backed = keeps.backed;
        fitting = keeps.fitting;
        ascending = keeps.ascending;
        below = keeps.below;
        next = keeps.next;
        owned = keeps.owned;
        retained = all_kept (IsWithin config.limits.most) m t.retained.messages within keeps.retained;
      } in
      kept_by config next v u w rows retained list connections limits

  -- a session without connection is added
  module _ (s : BrokerSession) (none : t.connections.connections ≡ []) (rows : u.rows ≡ t.rows) (retained : u.retained.messages ≡ t.retained.messages) where
    pub fitting_alone : s.end.capacity ≡ config.capacity → s.end.limit ≡ config.limits → s.end.end ≡ resumed config.window true s.end.end.book s.end.end.received s.end.end.last → s.end.output ≡ []
        → SessionMatchesConnection config t.connections.connections s
    fitting_alone capacity limit end output = record {
      capacity = capacity;
      limit = limit;
      window = ap (λ (e : End). e.window) end;
      known = ap (λ (e : End). e.known) end;
      state = ap (λ (e : End). e.state) end ∙ ap (λ (xs : List HubConnection). cond (is_some (up_on s.key xs)) Connected Disconnected) (sym none);
      clean = ap (λ (e : End). e.clean) end ∙ ap (λ (xs : List HubConnection). is_clean (stage_for s.key xs)) (sym none);
      keep_alive = ap (λ (e : End). e.keep_alive) end ∙ ap (λ (xs : List HubConnection). keep_alive_on (stage_for s.key xs)) (sym none);
      claims = ap (λ (e : End). e.book.claimed) end;
      away = λ e. output;
    }

    pub kept_added : AreBelow s.key t.sessions.list → s.key < next → SessionMatchesConnection config t.connections.connections s → u.sessions.list ≡ t.sessions.list ++ s ∷ [] → HubInvariant config next u
    kept_added below low here list =
        let ts = t.sessions.list in
        let xs = t.connections.connections in
        let v : HubTables = record t { sessions = record t.sessions { list = ts ++ s ∷ [] } } in
        let w : HubInvariant config next v = record {
          capacity = keeps.capacity;
          window = keeps.window;
          limits = keeps.limits;
          apart = keeps.apart;
          quiet = keeps.quiet;
          backed = backed_last s config.limits.most ts xs keeps.backed;
          fitting = all_last s (SessionMatchesConnection config xs) ts keeps.fitting here;
          ascending = below_last s ts keeps.ascending below;
          below = all_last s (λ r. r.key < next) ts keeps.below low;
          next = keeps.next;
          owned = owned_last s ts t.rows keeps.owned;
          retained = keeps.retained;
        } in
        kept_by config next v u w rows retained list connections limits

    -- the definition sees the other sessions alone
    pub hub_added : (clock : ℕ) → hub_of config clock next u ≡ record (hub_of config clock next t) { sessions = sessions_of u.sessions.list }
    hub_added clock =
        let waits : all_seen u.sessions.list u.connections.connections ≡ all_seen t.sessions.list t.connections.connections =
        ap (all_seen u.sessions.list) (connections ∙ none) ∙ ap (all_seen t.sessions.list) (sym none) in
        λ i. record {
          config = config;
          clock = clock;
          next_key = next;
          rows = rows i;
          retained = retained i;
          sessions = sessions_of u.sessions.list;
          connections = waits i;
        }
