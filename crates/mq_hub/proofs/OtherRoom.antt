-- The invariant and the view of a broker whose sessions have other room, or which has other rows.
use Rattle.std.proofs.Common.{◌≡◌, ℕ, ◌<◌, Bool, true, false, cond, List, [], ◌∷◌, map, Some, refl, sym, ap, ap₂, subst, ◌∙◌, eqb}
use Rattle.std.specs.List.{AllByRecursion}
use Rattle.std.specs.Option.{is_some}
use Rattle.mq_topic.specs.Rows.{Row}
use Rattle.mq_end.specs.declared.state.State.TheVariants.{Disconnected, Connected}
use Rattle.mq_route.specs.declared.config.HubConfig.{HubConfig}
use Rattle.mq_route.specs.declared.connection_state.ConnectionState.{ConnectionState}
use Rattle.mq_route.specs.declared.connection_state.ConnectionState.TheVariants.{AwaitingConnect, ConnectedAs, Closed}
use Rattle.mq_route.specs.Hub.{HubConnection, is_clean, up_on, stage_for, keep_alive_on}
use Rattle.mq_tables.specs.declared.sessions.session.BrokerSession.{BrokerSession}
use Rattle.mq_tables.specs.Connections.{ConnectionList}
use Rattle.mq_tables.specs.Retained.{RetainedTable}
use Rattle.mq_tables.specs.Publishing.{AreSameButRoom, roomless}
use Rattle.mq_tables.specs.Tables.{HubTables}
use Rattle.mq_tables.specs.Output.{output_of}
use Rattle.mq_tables.specs.Sessions.{session_at, AreAscending}
use Rattle.mq_tables.proofs.SessionRoom.{same_sessions}
use Rattle.mq_hub.specs.Inside.Requests.{AreAlike}
use Rattle.mq_hub.specs.Inside.Invariant.{HubInvariant, ConnectionHasSession, SessionMatchesConnection, HasSession}
use Rattle.mq_hub.specs.Inside.View.{all_seen, hub_of, waiting_by}
use Rattle.mq_hub.proofs.InvariantChanges.{kept_by}

-- ---- other room

first : (n o : BrokerSession) (new old : List BrokerSession) → roomless n ∷ map roomless new ≡ roomless o ∷ map roomless old → roomless n ≡ roomless o
first n o new old e = cc

later : (n o : BrokerSession) (new old : List BrokerSession) → roomless n ∷ map roomless new ≡ roomless o ∷ map roomless old → map roomless new ≡ map roomless old
later n o new old e = cc

alike_all : (P : BrokerSession → Type 0) → ((o n : BrokerSession) → roomless n ≡ roomless o → P o → P n) → (old new : List BrokerSession) → AreSameButRoom old new → AllByRecursion P old → AllByRecursion P new
alike_all P one [] [] same all = tt
alike_all P one [] (n ∷ new) same all = absurd cc
alike_all P one (o ∷ old) [] same all = absurd cc
alike_all P one (o ∷ old) (n ∷ new) same all = (one o n (first n o new old same) all.0, alike_all P one old new (later n o new old same) all.1)

alike_key : (n o : BrokerSession) → roomless n ≡ roomless o → n.key ≡ o.key
alike_key n o e = ap (λ (x : BrokerSession). x.key) e

alike_ascending : (old new : List BrokerSession) → AreSameButRoom old new → AreAscending old → AreAscending new
alike_ascending [] [] same up = tt
alike_ascending [] (n ∷ new) same up = absurd cc
alike_ascending (o ∷ old) [] same up = absurd cc
alike_ascending (o ∷ old) (n ∷ new) same up =
    let rest = later n o new old same in
    let key = alike_key n o (first n o new old same) in (
      subst (λ (k : ℕ). AllByRecursion (λ s. k < s.key) new) (sym key)
          (alike_all (λ s. o.key < s.key) (λ a b e l. subst (λ (k : ℕ). o.key < k) (sym (alike_key b a e)) l) old new rest up.0),
      alike_ascending old new rest up.1,
    )

alike_found : (c : ℕ) (old new : List BrokerSession) → AreSameButRoom old new → is_some (session_at c new) ≡ is_some (session_at c old)
alike_found c [] [] same = refl
alike_found c [] (n ∷ new) same = absurd cc
alike_found c (o ∷ old) [] same = absurd cc
alike_found c (o ∷ old) (n ∷ new) same =
    go (eqb n.key c) (eqb o.key c) (ap (λ (k : ℕ). eqb k c) (alike_key n o (first n o new old same))) (alike_found c old new (later n o new old same))
  where
    go : (a b : Bool) → a ≡ b → is_some (session_at c new) ≡ is_some (session_at c old) → is_some (cond a (Some n) (session_at c new)) ≡ is_some (cond b (Some o) (session_at c old))
    go true true e rest = refl
    go false false e rest = rest
    go true false e rest = absurd cc
    go false true e rest = absurd cc

alike_output : (c : ℕ) (old new : List BrokerSession) → AreSameButRoom old new → output_of c new ≡ output_of c old
alike_output c [] [] same = refl
alike_output c [] (n ∷ new) same = absurd cc
alike_output c (o ∷ old) [] same = absurd cc
alike_output c (o ∷ old) (n ∷ new) same =
    let here = first n o new old same in
    let rest = alike_output c old new (later n o new old same) in
    λ i. cond (eqb (here i).key c) (here i).end.output (rest i)

pub alike_seen : (old new : List BrokerSession) → AreSameButRoom old new → (xs : List HubConnection) → all_seen new xs ≡ all_seen old xs
alike_seen old new same [] = refl
alike_seen old new same (x ∷ xs) =
    ap₂ (λ (b : List ℕ) (ls : List HubConnection). record x { waiting = b } ∷ ls) (of x.stage) (alike_seen old new same xs)
  where
    of : (s : ConnectionState) → waiting_by s new x.waiting ≡ waiting_by s old x.waiting
    of AwaitingConnect = refl
    of (ConnectedAs c terms last_activity) = alike_output c old new same
    of Closed = refl

alike_session : (config : HubConfig) (xs : List HubConnection) (o n : BrokerSession) → roomless n ≡ roomless o → SessionMatchesConnection config xs o → SessionMatchesConnection config xs n
alike_session config xs o n e boxed = record {
  capacity = ap (λ (x : BrokerSession). x.end.capacity) e ∙ boxed.capacity;
  limit = ap (λ (x : BrokerSession). x.end.limit) e ∙ boxed.limit;
  window = ap (λ (x : BrokerSession). x.end.end.window) e ∙ boxed.window;
  known = ap (λ (x : BrokerSession). x.end.end.known) e ∙ boxed.known;
  state = ap (λ (x : BrokerSession). x.end.end.state) e ∙ boxed.state ∙ ap (λ (k : ℕ). cond (is_some (up_on k xs)) Connected Disconnected) (sym (alike_key n o e));
  clean = ap (λ (x : BrokerSession). x.end.end.clean) e ∙ boxed.clean ∙ ap (λ (x : BrokerSession). is_clean (stage_for x.key xs)) (sym e);
  keep_alive = ap (λ (x : BrokerSession). x.end.end.keep_alive) e ∙ boxed.keep_alive ∙ ap (λ (x : BrokerSession). keep_alive_on (stage_for x.key xs)) (sym e);
  claims = ap (λ (x : BrokerSession). x.end.end.book.claimed) e ∙ boxed.claims;
  away = λ none. ap (λ (x : BrokerSession). x.end.output) e ∙ boxed.away (ap (λ (k : ℕ). up_on k xs) (sym (alike_key n o e)) ∙ none);
}

alike_backed : (most : ℕ) (old new : List BrokerSession) → AreSameButRoom old new → (xs : List HubConnection) → AllByRecursion (λ x. ConnectionHasSession most old x.stage) xs → AllByRecursion (λ x. ConnectionHasSession most new x.stage) xs
alike_backed most old new same [] all = tt
alike_backed most old new same (x ∷ xs) all = (of x.stage all.0, alike_backed most old new same xs all.1)
  where
    of : (s : ConnectionState) → ConnectionHasSession most old s → ConnectionHasSession most new s
    of AwaitingConnect backed = tt
    of (ConnectedAs c terms last_activity) backed = (alike_found c old new same ∙ backed.0, backed.1)
    of Closed backed = tt

pub alike_owned : (old new : List BrokerSession) → AreSameButRoom old new → (rs : List Row) → AllByRecursion (λ r. HasSession old r.0.0) rs → AllByRecursion (λ r. HasSession new r.0.0) rs
alike_owned old new same [] all = tt
alike_owned old new same (r ∷ rs) all = (alike_found r.0.0 old new same ∙ all.0, alike_owned old new same rs all.1)

-- ---- the broker with other room, and with other rows

module _ (config : HubConfig) (next : ℕ) (t : HubTables) (kept : HubInvariant config next t) where
  pub kept_ready : (ts : List BrokerSession) → AreSameButRoom t.sessions.list ts → (rows : List Row) → AllByRecursion (λ r. HasSession t.sessions.list r.0.0) rows
      → HubInvariant config next (record t { rows = rows; sessions = record t.sessions { list = ts } })
  kept_ready ts same rows owned =
      let old = t.sessions.list in
      let xs = t.connections.connections in record {
        capacity = kept.capacity;
        window = kept.window;
        limits = kept.limits;
        apart = kept.apart;
        quiet = kept.quiet;
        backed = alike_backed config.limits.most old ts same xs kept.backed;
        fitting = alike_all (SessionMatchesConnection config xs) (alike_session config xs) old ts same kept.fitting;
        ascending = alike_ascending old ts same kept.ascending;
        below = alike_all (λ s. s.key < next) (λ a b e l. subst (λ (k : ℕ). k < next) (sym (alike_key b a e)) l) old ts same kept.below;
        next = kept.next;
        owned = alike_owned old ts same rows owned;
        retained = kept.retained;
      }

  pub kept_alike : (u : HubTables) → AreAlike t u → HubInvariant config next u
  kept_alike u a =
      let v : HubTables = record t { rows = t.rows; sessions = record t.sessions { list = u.sessions.list } } in
      kept_by config next v u (kept_ready u.sessions.list a.sessions t.rows kept.owned) a.rows (ap (λ (r : RetainedTable). r.messages) a.retained) refl
      (ap (λ (l : ConnectionList). l.connections) a.connections) (ap (λ (l : ConnectionList). l.limits) a.connections)

  pub hub_alike : (clock : ℕ) (u : HubTables) → AreAlike t u → hub_of config clock next u ≡ hub_of config clock next t
  hub_alike clock u a =
      let sessions = same_sessions t.sessions.list u.sessions.list a.sessions in
      let waits : all_seen u.sessions.list u.connections.connections ≡ all_seen t.sessions.list t.connections.connections =
      ap (λ (l : ConnectionList). all_seen u.sessions.list l.connections) a.connections ∙ alike_seen t.sessions.list u.sessions.list a.sessions t.connections.connections in
      λ i. record {
        config = config;
        clock = clock;
        next_key = next;
        rows = a.rows i;
        retained = (a.retained i).messages;
        sessions = sessions i;
        connections = waits i;
      }
