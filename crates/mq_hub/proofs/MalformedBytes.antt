-- Malformed bytes on the connection of a connected client: its end closes without an answer.
use Rattle.std.proofs.Common.{◌≡◌, ◌&&◌, ℕ, Bool, true, false, not, cond, List, [], ◌∷◌, ◌++◌, Option, Some, None, refl, sym, ap, ◌∙◌, append-nil, true≢false}
use Rattle.std.proofs.lemmas.Bool.{cond-true}
use Rattle.std.specs.List.{AllByRecursion}
use Rattle.std.specs.Option.{is_some}
use Rattle.mq_packet.specs.Encoding.{encodings}
use Rattle.mq_decode.specs.declared.fault.DecodeFault.{DecodeFault}
use Rattle.mq_end.specs.declared.reason.CloseReason.TheVariants as reasons
use Rattle.mq_end.specs.declared.state.State.TheVariants.{Disconnected, Connected}
use Rattle.mq_end.specs.End.{End, Reply, closes, is_up}
use Rattle.mq_end.specs.Server.{level_refused}
use Rattle.mq_end.specs.State.{is_level, server_faulted}
use Rattle.mq_route.specs.declared.act.Act.{Act}
use Rattle.mq_route.specs.declared.close.HubClose.TheVariants.{Own}
use Rattle.mq_route.specs.declared.config.HubConfig.{HubConfig}
use Rattle.mq_route.specs.declared.conn.Conn.{Conn}
use Rattle.mq_route.specs.declared.connection_state.ConnectionState.{ConnectionState}
use Rattle.mq_route.specs.Arrives.{on_malformed, broken, closes_by}
use Rattle.mq_route.specs.Hub.{HubState, HubConnection, end_of, end_on, is_connection, key_on, stage_of, up_on, with_connection}
use Rattle.mq_route.specs.Work.{Work, close, put_on}
use Rattle.mq_tables.specs.declared.sessions.session.BrokerSession.{BrokerSession}
use Rattle.mq_tables.specs.Tables.{HubTables}
use Rattle.mq_tables.specs.Sessions.{sessions_of, session_at}
use Rattle.mq_tables.proofs.OtherEnd.{key_is, holds_at}
use Rattle.mq_hub.specs.Inside.Refinement.{Refines}
use Rattle.mq_hub.specs.Inside.Invariant.{HubInvariant, SessionMatchesConnection}
use Rattle.mq_hub.proofs.ConnectionChange.{up_there}
use Rattle.mq_hub.proofs.TakenOutput.{backed_at, is_up_for}
use Rattle.mq_hub.proofs.PlacedCopies.{end_there}

-- nothing is sent
abbrev waits : HubConnection → HubConnection
waits x = record x { waiting = x.waiting ++ encodings [] }

same_lines : (k : Conn) (xs : List HubConnection) → with_connection waits k xs ≡ xs
same_lines k [] = refl
same_lines k (x ∷ xs) = λ i. go (is_connection k x) i ∷ same_lines k xs i
  where
    go : (b : Bool) → cond b (waits x) x ≡ x
    go true = ap (λ (w : List ℕ). record x { waiting = w }) (append-nil x.waiting)
    go false = refl

pub put_nothing : (k : Conn) (w : Work) → put_on k [] w ≡ w
unfolding put_on
put_nothing k w = λ i. record w { hub = record w.hub { connections = same_lines k w.hub.connections i }; sent = append-nil w.sent i }

-- a connected end
closed_up : (fault : DecodeFault) (e : End) → is_up e.state ≡ true → server_faulted fault e ≡ closes (reasons.Fault fault) e
closed_up fault e up = ap (λ (b : Bool). cond (not b && is_level fault.kind) (level_refused e) (closes (reasons.Fault fault) e)) up

module _ (k : Conn) (fault : DecodeFault) (key : ℕ) (old : HubState) (at : key_on (stage_of k old.connections) ≡ Some key)
    (up : is_up (end_of key old.sessions).state ≡ true) where
  broken_is : (w : Work) → w.hub ≡ old → broken k fault w ≡ closes (reasons.Fault fault) (end_of key old.sessions)
  broken_is w e =
      let there = is_up_for key (stage_of k old.connections) at in
      ap (λ (h : HubState). server_faulted fault (end_on (stage_of k h.connections) h.sessions)) e
      ∙ ap (λ (s : ConnectionState). server_faulted fault (end_on s old.sessions)) there.is
      ∙ closed_up fault (end_of key old.sessions) up

  breaks_is : (fits : Bool) (w : Work) → w.hub ≡ old → on_malformed k fault fits w ≡ close k (Own (reasons.Fault fault)) fits w
  unfolding on_malformed
  breaks_is fits w e =
      ap (λ (r : Reply). closes_by k r.close fits (put_on k r.out w)) (broken_is w e) ∙ ap (close k (Own (reasons.Fault fault)) fits) (put_nothing k w)

  pub broken_up : (fits : Bool) (new : HubState) (did says : List Act) → Refines (close k (Own (reasons.Fault fault)) fits) old did new says
      → Refines (on_malformed k fault fits) old did new says
  broken_up fits new did says goes = record {
    hub = λ w e f. ap (λ (v : Work). v.hub) (breaks_is fits w e) ∙ goes.hub w e f;
    did = λ w e f. ap (λ (v : Work). v.did) (breaks_is fits w e) ∙ goes.did w e f;
  }

-- the end of a connected connection's session is connected
pub end_up : (config : HubConfig) (next : ℕ) (t : HubTables) (k : Conn) (key : ℕ) → HubInvariant config next t → key_on (stage_of k t.connections.connections) ≡ Some key
    → is_up (end_of key (sessions_of t.sessions.list)).state ≡ true
end_up config next t k key kept at = go t.sessions.list t.connections.connections kept.fitting at (session_at key t.sessions.list) refl
    (backed_at config.limits.most k key t.sessions.list t.connections.connections kept.backed at)
  where
    go : (ts : List BrokerSession) (xs : List HubConnection) → AllByRecursion (SessionMatchesConnection config xs) ts → key_on (stage_of k xs) ≡ Some key
        → (o : Option BrokerSession) → session_at key ts ≡ o → is_some o ≡ true → is_up (end_of key (sessions_of ts)).state ≡ true
    go ts xs fitting at None e there = absurd (true≢false (sym there))
    go ts xs fitting at (Some s) e there =
        let boxed : SessionMatchesConnection config xs s = holds_at (SessionMatchesConnection config xs) key s ts e fitting in
        let up = is_up_for key (stage_of k xs) at in
        ap (λ (x : End). is_up x.state) (end_there key s ts e)
        ∙ ap is_up (boxed.state ∙ cond-true (is_some (up_on s.key xs)) Connected Disconnected
        (ap (λ (n : ℕ). is_some (up_on n xs)) (key_is key s ts e) ∙ up_there k key up.terms up.last_activity xs up.is))
