-- Planned copies are for sessions that exist and may send them.
use Rattle.std.proofs.Common.{◌≡◌, ℕ, ◌≤◌, Bool, true, false, cond, not, ◌&&◌, List, [], ◌∷◌, ◌++◌, Option, Some, None, is_some, refl, sym, ap, ◌∙◌, arith, true≢false}
use Rattle.std.specs.FinMap.{put}
use Rattle.std.specs.FinMap.Entries.{by_order}
use Rattle.std.specs.List.{AllByRecursion}
use Rattle.std.specs.Ordering.{nat_cmp}
use Rattle.std.specs.declared.cmp.Ordering.{Ordering}
use Rattle.std.specs.declared.cmp.Ordering.TheVariants.{Less, Equal, Greater}
use Rattle.mq_topic.specs.declared.qos.Qos.{Qos}
use Rattle.mq_topic.specs.declared.qos.Qos.TheVariants.{Q0, Q1, Q2}
use Rattle.mq_topic.specs.Matching.{is_match}
use Rattle.mq_topic.specs.Rows.{Row, greater_of, matched, qos_of}
use Rattle.mq_packet.specs.declared.message.Message.{Message}
use Rattle.mq_decode.specs.Limits.{Bounds}
use Rattle.mq_end.specs.declared.state.State.TheVariants.{Disconnected, Connected}
use Rattle.mq_end.specs.Both.{has_identifier}
use Rattle.mq_end.specs.End.{is_up}
use Rattle.mq_end.specs.Sizes.{identifier_size, publish_size}
use Rattle.mq_route.specs.declared.config.HubConfig.{HubConfig}
use Rattle.mq_route.specs.Copies.{copy, lesser}
use Rattle.mq_route.specs.Hub.{for_key, up_on}
use Rattle.mq_tables.specs.declared.sessions.session.BrokerSession.{BrokerSession}
use Rattle.mq_tables.specs.Tables.{HubTables}
use Rattle.mq_tables.specs.Sessions.{session_at}
use Rattle.mq_tables.proofs.SessionRoom.{all_there, key_there}
use Rattle.mq_hub.specs.Inside.Invariant.{HubInvariant, SessionMatchesConnection, HasSession}
use Rattle.mq_hub.specs.Inside.Placement.{AreFor, IsFor, copies_found}

-- ---- clients that are found have rows

all_put : (P : ℕ → Type 0) (k : ℕ) (q : Qos) (es : List (ℕ × Qos)) → P k → AllByRecursion (λ e. P e.0) es → AllByRecursion (λ e. P e.0) (put nat_cmp k q es)
all_put P k q [] p all = (p, tt)
all_put P k q (e ∷ es) p all = go (nat_cmp k e.0) (all_put P k q es p all.1)
  where
    go : (o : Ordering) → AllByRecursion (λ e. P e.0) (put nat_cmp k q es) → AllByRecursion (λ e. P e.0) (by_order o ((k, q) ∷ e ∷ es) ((e.0, q) ∷ es) (e ∷ put nat_cmp k q es))
    go Less rest = (p, (all.0, all.1))
    go Equal rest = (all.0, all.1)
    go Greater rest = (all.0, rest)

found_owned : (P : ℕ → Type 0) (name : List ℕ) (rows : List Row) → AllByRecursion (λ r. P r.0.0) rows → AllByRecursion (λ e. P e.0) (matched name rows)
found_owned P name [] all = tt
found_owned P name (r ∷ rows) all = go (is_match r.0.1 name) (found_owned P name rows all.1)
  where
    go : (b : Bool) → AllByRecursion (λ e. P e.0) (matched name rows)
        → AllByRecursion (λ e. P e.0) (cond b (put nat_cmp r.0.0 (greater_of r.1 (qos_of r.0.0 (matched name rows))) (matched name rows)) (matched name rows))
    go true rest = all_put P r.0.0 (greater_of r.1 (qos_of r.0.0 (matched name rows))) (matched name rows) all.0 rest
    go false rest = rest

-- ---- a copy is no longer than its message

lesser_size : (a b : Qos) → identifier_size (lesser a b) ≤ identifier_size a
lesser_size Q0 q = omega arith
lesser_size Q1 Q0 = omega arith
lesser_size Q1 Q1 = omega arith
lesser_size Q1 Q2 = omega arith
lesser_size Q2 Q0 = omega arith
lesser_size Q2 Q1 = omega arith
lesser_size Q2 Q2 = omega arith

pub copy_size : (q : Qos) (retain : Bool) (m : Message) → publish_size (copy q retain m) ≤ publish_size m
copy_size q retain m = let less = lesser_size m.qos q in omega arith

-- ---- the copies

up_where : (b : Bool) → is_up (cond b Connected Disconnected) ≡ b
up_where true = refl
up_where false = refl

stands_there : (key : ℕ) (ts : List BrokerSession) → HasSession ts key → (s : BrokerSession) × (session_at key ts ≡ Some s)
stands_there key ts stands = go (session_at key ts) refl
  where
    go : (o : Option BrokerSession) → session_at key ts ≡ o → (s : BrokerSession) × (session_at key ts ≡ Some s)
    go (Some s) e = (s, e)
    go None e = absurd (true≢false (sym stands ∙ ap is_some e))

one_for : (key : ℕ) (m : Message) (up : Bool) (ts : List BrokerSession) (rest : List (ℕ × Message)) → ((has_identifier m.qos ≡ false → up ≡ true) → IsFor key (m ∷ []) ts) → AreFor ts rest
    → AreFor ts (for_key key (cond (not (has_identifier m.qos) && not up) [] (m ∷ [])) ++ rest)
one_for key m up ts rest for all = go (has_identifier m.qos) up refl refl
  where
    go : (a b : Bool) → has_identifier m.qos ≡ a → up ≡ b → AreFor ts (for_key key (cond (not a && not b) [] (m ∷ [])) ++ rest)
    go true b ea eb = (for (λ none. absurd (true≢false (sym ea ∙ none))), all)
    go false true ea eb = (for (λ none. eb), all)
    go false false ea eb = all

pub due_for : (config : HubConfig) (next_key : ℕ) (t : HubTables) (m : Message) → HubInvariant config next_key t → publish_size m ≤ config.limits.most
    → AreFor t.sessions.list (copies_found t.connections.connections m (matched m.topic t.rows))
due_for config next_key t m keeps fits = go (matched m.topic t.rows) (found_owned (HasSession t.sessions.list) m.topic t.rows keeps.owned)
  where
    go : (found : List (ℕ × Qos)) → AllByRecursion (λ e. HasSession t.sessions.list e.0) found → AreFor t.sessions.list (copies_found t.connections.connections m found)
    go [] all = tt
    go (f ∷ found) all =
        let s = stands_there f.0 t.sessions.list all.0 in
        let boxed = all_there (SessionMatchesConnection config t.connections.connections) f.0 s.0 t.sessions.list keeps.fitting s.1 in
        let key = key_there f.0 s.0 t.sessions.list s.1 in
        let size = copy_size f.1 false m in
        let limit = ap (λ (b : Bounds). b.most) boxed.limit in
        one_for f.0 (copy f.1 false m) (is_some (up_on f.0 t.connections.connections)) t.sessions.list (copies_found t.connections.connections m found)
        (λ up. record {
          session = s.0;
          there = s.1;
          may_go = (
            record {
              known = boxed.known;
              up = λ none. ap is_up boxed.state ∙ up_where (is_some (up_on s.0.key t.connections.connections)) ∙ ap (λ (k : ℕ). is_some (up_on k t.connections.connections)) key ∙ up none;
              fits = omega arith;
            },
            tt,
          );
        })
        (go found all.1)
