-- A snapshot determines what it keeps of a broker.
use Rattle.std.proofs.Common.{◌≡◌, ℕ, List, [], ◌∷◌, ◌++◌, map, Option, if◌then◌else◌, refl, sym, ap, ◌∙◌}
use Rattle.std.proofs.lemmas.List.{append_cancel_left, length-map}
use Rattle.std.specs.List.{flat_map, AllByRecursion}
use Rattle.mq_topic.specs.Rows.{Row}
use Rattle.mq_packet.specs.declared.message.Message.{Message}
use Rattle.mq_route.specs.declared.config.HubConfig.{HubConfig}
use Rattle.mq_route.specs.Hub.{HubConnection, HubSession, HubState, is_for, stage_for}
use Rattle.mq_route.specs.Snapshot.{IsKeptWhole, IsStorable, SnapshotLaws, eight, kept_end, kept_session, listed, quiet, quieted, restored, saved_connection, saved_end, saved_message, saved_row, saved_session, signature, snapshot}
use Rattle.mq_route.proofs.Codes.{all_any, eight_code, listed_code, message_code, row_code}
use Rattle.mq_route.proofs.ConnectionCodes.{connection_again, connection_code}
use Rattle.mq_route.proofs.SessionCodes.{AreIdentifiers, IsEndAtRest, session_code}

-- ---- the parts

-- the lists of sessions and connections
abbrev lists : HubState → List ℕ
lists h = listed saved_session h.sessions ++ listed saved_connection h.connections

record SameParts (hub other : HubState) : Type 0 where
  pub clock : hub.clock ≡ other.clock
  pub next_key : hub.next_key ≡ other.next_key
  pub rows : hub.rows ≡ other.rows
  pub retained : hub.retained ≡ other.retained
  pub lists : lists hub ≡ lists other

parts : (hub other : HubState) → snapshot hub ≡ snapshot other → SameParts hub other
unfolding snapshot
parts hub other e =
    let retained : HubState → List ℕ = λ h. listed saved_message h.retained ++ lists h in
    let rows : HubState → List ℕ = λ h. listed saved_row h.rows ++ retained h in
    let start = append_cancel_left signature (eight hub.clock ++ (eight hub.next_key ++ rows hub)) (eight other.clock ++ (eight other.next_key ++ rows other)) e in
    let clock = eight_code hub.clock other.clock (eight hub.next_key ++ rows hub) (eight other.next_key ++ rows other) start in
    let next_key = eight_code hub.next_key other.next_key (rows hub) (rows other) clock.1 in
    let each_row = listed_code (λ (x : Row). Unit {0}) saved_row (λ x y r s p q e. row_code x y r s e) hub.rows other.rows (retained hub) (retained other)
    (all_any hub.rows) (all_any other.rows) next_key.1 in
    let each_message = listed_code (λ (x : Message). Unit {0}) saved_message (λ x y r s p q e. message_code x y r s e) hub.retained other.retained
    (lists hub) (lists other) (all_any hub.retained) (all_any other.retained) each_row.1 in
    record { clock = clock.0; next_key = next_key.0; rows = each_row.0; retained = each_message.0; lists = each_message.1 }

-- ---- what a snapshot keeps

connection_items_again : (xs : List HubConnection) → flat_map saved_connection (map quieted xs) ≡ flat_map saved_connection xs
connection_items_again [] = refl
connection_items_again (x ∷ xs) = λ i. connection_again x i ++ connection_items_again xs i

connections_again : (xs : List HubConnection) → listed saved_connection (map quieted xs) ≡ listed saved_connection xs
connections_again xs =
    let size = length-map xs quieted in
    let items = connection_items_again xs in
    λ i. eight (size i) ++ items i

stage_again : (key : ℕ) (xs : List HubConnection) → stage_for key (map quieted xs) ≡ stage_for key xs
stage_again key [] = refl
stage_again key (x ∷ xs) = λ i. if is_for key x.stage then x.stage else stage_again key xs i

all_quiet : (xs : List HubConnection) → AllByRecursion (λ (x : HubConnection). x.waiting ≡ []) (map quieted xs)
all_quiet [] = tt
all_quiet (x ∷ xs) = (refl, all_quiet xs)

quiet_twice : (xs : List HubConnection) → map quieted (map quieted xs) ≡ map quieted xs
quiet_twice [] = refl
quiet_twice (x ∷ xs) = λ i. quieted x ∷ quiet_twice xs i

silent : (hub : HubState) → snapshot (quiet hub) ≡ snapshot hub
unfolding snapshot
silent hub =
    let same = connections_again hub.connections in
    λ i. signature ++ (eight hub.clock ++ (eight hub.next_key ++ (listed saved_row hub.rows ++ (listed saved_message hub.retained ++ (listed saved_session hub.sessions ++ same i)))))

module _ (window : Option ℕ) where
  session_again : (xs : List HubConnection) (s : HubSession) → saved_session (kept_session window xs s) ≡ saved_session s
  unfolding saved_session saved_end
  session_again xs s = refl

  items_again : (xs : List HubConnection) (ss : List HubSession) → flat_map saved_session (map (kept_session window xs) ss) ≡ flat_map saved_session ss
  items_again xs [] = refl
  items_again xs (s ∷ ss) = λ i. session_again xs s i ++ items_again xs ss i

  sessions_again : (xs : List HubConnection) (ss : List HubSession) → listed saved_session (map (kept_session window xs) ss) ≡ listed saved_session ss
  sessions_again xs ss =
      let size = length-map ss (kept_session window xs) in
      let items = items_again xs ss in
      λ i. eight (size i) ++ items i

  -- Sessions that were kept once are kept again, among the connections of the second time.
  kept_twice : (xs ys : List HubConnection) (ss : List HubSession) → map (kept_session window (map quieted xs)) (map (kept_session window ys) ss) ≡ map (kept_session window xs) ss
  kept_twice xs ys [] = refl
  kept_twice xs ys (s ∷ ss) = λ i. record s { end = kept_end window (stage_again s.key xs i) s.end } ∷ kept_twice xs ys ss i

  -- without connections
  each_rests : (ss : List HubSession)
      → AllByRecursion (λ (s : HubSession). AreIdentifiers s.end.received) ss
      → AllByRecursion (λ (s : HubSession). IsEndAtRest window s.end) (map (kept_session window []) ss)
  each_rests [] all = tt
  each_rests (s ∷ ss) all = (record { end = refl; received = all.0 }, each_rests ss all.1)

  -- the sessions without connections, and the connections without their pending output
  record SameLists (hub other : HubState) : Type 0 where
    pub sessions : map (kept_session window []) hub.sessions ≡ map (kept_session window []) other.sessions
    pub connections : map quieted hub.connections ≡ map quieted other.connections

  same_lists : (hub other : HubState) → IsStorable hub → IsStorable other → lists hub ≡ lists other → SameLists hub other
  same_lists hub other p q e =
      let alone : List HubSession → List HubSession = map (kept_session window []) in
      let behind : HubState → List ℕ = λ h. listed saved_connection h.connections in
      let front : (h : HubState) → listed saved_session (alone h.sessions) ++ behind h ≡ lists h = λ h. ap (λ (t : List ℕ). t ++ behind h) (sessions_again [] h.sessions) in
      let sessions = listed_code (λ (s : HubSession). IsEndAtRest window s.end) saved_session (session_code window) (alone hub.sessions) (alone other.sessions) (behind hub) (behind other)
      (each_rests hub.sessions p) (each_rests other.sessions q) (front hub ∙ e ∙ sym (front other)) in
      let last : (h : HubState) → listed saved_connection (map quieted h.connections) ++ [] ≡ behind h ++ [] = λ h. ap (λ (t : List ℕ). t ++ []) (connections_again h.connections) in
      let connections = listed_code (λ (x : HubConnection). x.waiting ≡ []) saved_connection connection_code (map quieted hub.connections) (map quieted other.connections) [] []
      (all_quiet hub.connections) (all_quiet other.connections) (last hub ∙ ap (λ (t : List ℕ). t ++ []) sessions.1 ∙ sym (last other)) in
      record { sessions = sessions.0; connections = connections.0 }

-- ---- the laws

one : (config : HubConfig) (hub other : HubState) → IsStorable hub → IsStorable other → snapshot hub ≡ snapshot other → restored config hub ≡ restored config other
one config hub other p q e =
    let window = config.window in
    let same = parts hub other e in
    let both = same_lists window hub other p q same.lists in
    let among : (h : HubState) → map (kept_session window (map quieted h.connections)) (map (kept_session window []) h.sessions) ≡ map (kept_session window h.connections) h.sessions
    = λ h. kept_twice window h.connections [] h.sessions in
    let middle : map (kept_session window (map quieted hub.connections)) (map (kept_session window []) hub.sessions) ≡ map (kept_session window (map quieted other.connections)) (map (kept_session window []) other.sessions)
    = λ i. map (kept_session window (both.connections i)) (both.sessions i) in
    let sessions = sym (among hub) ∙ middle ∙ among other in
    λ i. record {
      config = config;
      clock = same.clock i;
      next_key = same.next_key i;
      rows = same.rows i;
      retained = same.retained i;
      sessions = sessions i;
      connections = both.connections i;
    }

again : (config : HubConfig) (hub : HubState) → snapshot (restored config hub) ≡ snapshot hub
unfolding snapshot
again config hub =
    let sessions = sessions_again config.window hub.connections hub.sessions in
    let connections = connections_again hub.connections in
    λ i. signature ++ (eight hub.clock ++ (eight hub.next_key ++ (listed saved_row hub.rows ++ (listed saved_message hub.retained ++ (sessions i ++ connections i)))))

rests : (config : HubConfig) (hub : HubState) → IsKeptWhole (restored config hub)
rests config hub =
    let sessions = kept_twice config.window hub.connections hub.connections hub.sessions in
    let connections = quiet_twice hub.connections in
    λ i. record (restored config hub) { sessions = sessions i; connections = connections i }

pub laws : SnapshotLaws
laws = record {
  one = one;
  equal = λ hub other p q here there config e.
      sym here ∙ ap (λ (c : HubConfig). restored c hub) config ∙ one other.config hub other p q e ∙ there;
  again = again;
  rests = rests;
  silent = silent;
}
