-- The elementary changes of a step, and the invariants of sessions and connections that they keep.
use Rattle.std.proofs.Common.{◌≡◌, ℕ, ◌≤◌, Bool, true, false, ◌&&◌, List, [], ◌∷◌, ◌++◌, map, Option, Some, None, refl, sym, ap, subst, ◌∙◌, eqb, eq-eqb, ne_eqb, arith, le_refl}
use Rattle.std.proofs.lemmas.Bool.{cond-true, cond-false, cond_both}
use Rattle.mq_topic.specs.declared.qos.Qos.{Qos}
use Rattle.mq_topic.specs.Rows.{with_row, without_row}
use Rattle.mq_packet.specs.declared.connect.Will.{Will}
use Rattle.mq_packet.specs.declared.message.Message.{Message}
use Rattle.mq_packet.specs.declared.packet.Packet.{Packet}
use Rattle.mq_packet.specs.Encoding.{encodings}
use Rattle.mq_end.specs.declared.state.State.TheVariants.{Connected}
use Rattle.mq_end.specs.End.{End, Reply, over}
use Rattle.mq_end.specs.Server.{server_gets}
use Rattle.mq_route.specs.declared.conn.Conn.{Conn}
use Rattle.mq_route.specs.declared.act.Act.{Act}
use Rattle.mq_route.specs.declared.act.Act.TheVariants as acts
use Rattle.mq_end.specs.declared.reason.CloseReason.{CloseReason}
use Rattle.mq_route.specs.declared.close.HubClose.{HubClose}
use Rattle.mq_route.specs.declared.close.HubClose.TheVariants.{Own, TakenOver, PeerEnded}
use Rattle.mq_route.specs.declared.connection_state.ConnectionState.TheVariants.{AwaitingConnect, ConnectedAs, Closed}
use Rattle.mq_route.specs.declared.connection_state.ConnectionTerms.{ConnectionTerms}
use Rattle.mq_route.specs.Routed.{same_conn}
use Rattle.mq_route.specs.Copies.{kept, retained_for, will_message}
use Rattle.mq_route.specs.Hub.{HubState, HubSession, HubConnection, no_end, new_end, end_of, with_end, with_left, changed, with_connection, without_session, is_for, for_key, knows, stage_of, up_on, copies_of}
use Rattle.mq_route.specs.Work.{Work, said, with_connections, with_sessions, staged, shut, put_on, put_where, does, publishes_next, lacks_output, is_missed, have_room, remove, remove_if, will_after}
use Rattle.mq_route.specs.Arrives.{new_session, touched_on}
use Rattle.mq_route.specs.Dropped.{when_over}
use Rattle.mq_route.proofs.Lines.{Mild, Names, Ups, upper, names_changed, ups_changed, upper_map, up_map, grown, same_conn-itself}
use Rattle.mq_route.proofs.Uppers.{Apart, IsIdle, apart_map, unless, upper_closed, apart_closed, upper_at, unless_other, upper_risen, apart_risen}
use Rattle.mq_route.proofs.Sessions.{has, has_left, has_with, has_without, each_left, has_new, each_there, each_with, each_without, each_new}
use Rattle.mq_route.proofs.Ends.{Alike, AreAnswers, GoesOn, takings}

-- ---- open obligations in a step

-- The copies that are due but not placed, the messages that an end delivered but that are not
-- taken, and the packets that are not logged.
pub record Debt : Type 0 where
  pub copies : List (ℕ × Message)
  pub taken : List (ℕ × Message)
  pub came : List (ℕ × Packet)

abbrev pub owes : List (ℕ × Message) → List (ℕ × Message) → List (ℕ × Packet) → Debt
owes copies taken came = record { copies = copies; taken = taken; came = came }

abbrev pub nothing : Debt
nothing = owes [] [] []

-- ---- changes

-- a message is retained after its act
abbrev pub retaining : Act → Message → Work → Work
retaining act m w = said act (record w { hub = record w.hub { retained = kept m w.hub.retained } })

abbrev pub subscribing : ℕ → List ℕ → Qos → Work → Work
subscribing key f q w = said (acts.Subscribed key f q) (record w { hub = record w.hub { rows = with_row key f q w.hub.rows } })

abbrev pub unsubscribing : ℕ → List ℕ → Work → Work
unsubscribing key f w = said (acts.Unsubscribed key f) (record w { hub = record w.hub { rows = without_row key f w.hub.rows } })

-- a connected connection is closed, and its session is disconnected or removed
abbrev pub closing : Conn → HubClose → ℕ → ConnectionTerms → Work → Work
closing k why key terms w = when_over k why key terms w

-- a connection becomes connected, and its session's end makes a move
abbrev pub rising : Conn → ℕ → ConnectionTerms → ℕ → (End → Reply) → Bool → Work → Work
rising k key terms last_activity move present w = said (acts.Up k key present) (does key move (staged k (ConnectedAs key terms last_activity) w))

-- the packets of a copy that is placed; with QoS 0, there is room for it in the pending output
pub record IsCopy (key : ℕ) (m : Message) (ps : List Packet) (w : Work) : Type 0 where
  pub end : End
  pub is : ps ≡ (publishes_next m end).out
  pub sent : lacks_output key m w.hub ≡ false

-- no restriction on the connections of packets
abbrev pub Everywhere : Conn → Type 0
Everywhere k = Unit {0}

-- The changes when copies are placed and subscriptions change. `IsOwn` restricts the connections on
-- which packets are sent that are no copies.
pub record Inner (IsOwn : Conn → Type 0) (R : Debt → Work → Type 0) : Type 0 where
  pub put : (k : Conn) (ps : List Packet) (o : Debt) (w : Work) → IsOwn k → AreAnswers ps → R o w → R o (put_on k ps w)
  pub moves : (key : ℕ) (e : End) (o : Debt) (w : Work) → Alike e (end_of key w.hub.sessions) → R o w → R o (with_sessions (with_end key e) w)
  pub marks : (key : Option ℕ) (now : ℕ) (o : Debt) (w : Work) → R o w → R o (with_sessions (with_left key now) w)
  pub took : (key : ℕ) (m : Message) (t : List (ℕ × Message)) (n : List (ℕ × Packet)) (w : Work) → R (owes [] ((key, m) ∷ t) n) w → R (owes (copies_of m w.hub) t n) (retaining (acts.Took key m) m w)
  pub willed : (key : ℕ) (m : Message) (w : Work) → R nothing w → R (owes (copies_of m w.hub) [] []) (retaining (acts.Will key m) m w)
  pub placed : (key : ℕ) (m : Message) (ps : List Packet) (c t : List (ℕ × Message)) (n : List (ℕ × Packet)) (w : Work)
      → IsCopy key m ps w → R (owes ((key, m) ∷ c) t n) w → R (owes c t n) (said (acts.Placed key m) (put_where (up_on key w.hub.connections) ps w))
  pub missed : (key : ℕ) (m : Message) (c t : List (ℕ × Message)) (n : List (ℕ × Packet)) (w : Work)
      → is_missed key m w.hub ≡ true → R (owes ((key, m) ∷ c) t n) w → R (owes c t n) (said (acts.Missed key m) w)
  pub subscribed : (key : ℕ) (f : List ℕ) (q : Qos) (c t : List (ℕ × Message)) (n : List (ℕ × Packet)) (w : Work)
      → R (owes c t n) w → R (owes (c ++ for_key key (retained_for f q w.hub.retained)) t n) (subscribing key f q w)
  pub unsubscribed : (key : ℕ) (f : List ℕ) (o : Debt) (w : Work) → R o w → R o (unsubscribing key f w)

-- sent packets keep a property
abbrev pub Sends : (Debt → Work → Type 0) → Type 0
Sends R = (k : Conn) (ps : List Packet) (o : Debt) (w : Work) → R o w → R o (put_on k ps w)

pub sent_where : (R : Debt → Work → Type 0) → Sends R → (to : Option Conn) (ps : List Packet) (o : Debt) (w : Work) → R o w → R o (put_where to ps w)
sent_where R put None ps o w h = h
sent_where R put (Some k) ps o w h = put k ps o w h

-- ---- invariants of sessions and connections

-- a client's connection, whether it has a session, and its end agree
abbrev pub Tied : Option (Conn × Bool) → Bool → End → Type 0
Tied None there e = e.clean ≡ false
Tied (Some u) there e = (there ≡ true) × (e.state ≡ Connected) × (e.clean ≡ u.1)

-- names are distinct, keys that were not assigned have no session, and a client is connected
-- exactly if its end is
pub record Orderly (connections : List HubConnection) (next : ℕ) (sessions : List HubSession) : Type 0 where
  pub apart : Apart connections
  pub keyless : (c : ℕ) → next ≤ c → has c sessions ≡ false
  pub tied : (c : ℕ) → Tied (upper c connections) (has c sessions) (end_of c sessions)

abbrev pub Sound : HubState → Type 0
Sound h = Orderly h.connections h.next_key h.sessions

-- An allocation for a will fails, or a session lacks room for its copies.
abbrev pub IsShort : Will → Bool → Work → Type 0
IsShort m fits w = (fits && have_room (copies_of (will_message m) w.hub) w.hub) ≡ false

-- The changes when packets arrive and connections open and close. `May` restricts the reasons for a
-- close, and `Near` the works at which it happens.
pub record Outer (IsOwn : Conn → Type 0) (R : Debt → Work → Type 0) (May : HubClose → Type 0) (Near : Bool → Work → Type 0) : Type 0 where
  pub mild : (f : HubConnection → HubConnection) (k : Conn) (o : Debt) (w : Work) → Mild f → R o w → R o (with_connections (with_connection f k) w)
  pub gets : (key : ℕ) (p : Packet) (w : Work) → Sound w.hub → has key w.hub.sessions ≡ true → (end_of key w.hub.sessions).state ≡ Connected → GoesOn key p (end_of key w.hub.sessions) (server_gets p (end_of key w.hub.sessions))
      → R nothing w → R (owes [] (takings key (server_gets p (end_of key w.hub.sessions)).happenings) ((key, p) ∷ [])) (with_sessions (with_end key (server_gets p (end_of key w.hub.sessions)).end) w)
  pub noted : (n : List (ℕ × Packet)) (w : Work) → R (owes [] [] n) w → R nothing (record w { came = w.came ++ n })
  pub shuts : (k : Conn) (why : HubClose) (w : Work) → May why → Sound w.hub → IsIdle (stage_of k w.hub.connections) → R nothing w → R nothing (said (acts.Closed k why) (shut k w))
  pub closes : (k : Conn) (why : HubClose) (key : ℕ) (terms : ConnectionTerms) (last_activity : ℕ) (w : Work) → May why → Sound w.hub → stage_of k w.hub.connections ≡ ConnectedAs key terms last_activity → R nothing w → R nothing (closing k why key terms w)
  pub drops : (k : Conn) (why : HubClose) (key : ℕ) (terms : ConnectionTerms) (last_activity : ℕ) (fits : Bool) (w : Work) → Near fits w → stage_of k w.hub.connections ≡ ConnectedAs key terms last_activity
      → (m : Will) → will_after why terms.will ≡ Some m → IsShort m fits (closing k why key terms w) → R nothing (closing k why key terms w) → R nothing (said (acts.WillDropped key) (closing k why key terms w))
  pub removes : (key : ℕ) (w : Work) → Sound w.hub → upper key w.hub.connections ≡ None → R nothing w → R nothing (remove key w)
  pub begins : (client : List ℕ) (w : Work) → Sound w.hub → R nothing w → R nothing (new_session client w)
  pub rises : (k : Conn) (key : ℕ) (terms : ConnectionTerms) (last_activity : ℕ) (move : End → Reply) (present : Bool) (w : Work) → IsOwn k → Sound w.hub → knows k w.hub.connections ≡ true → stage_of k w.hub.connections ≡ AwaitingConnect
      → upper key w.hub.connections ≡ None → has key w.hub.sessions ≡ true → (move (end_of key w.hub.sessions)).end.state ≡ Connected → (move (end_of key w.hub.sessions)).end.clean ≡ terms.clean_session → (move (end_of key w.hub.sessions)).end.received ≡ (end_of key w.hub.sessions).received → AreAnswers (move (end_of key w.hub.sessions)).out
      → R nothing w → R nothing (rising k key terms last_activity move present w)

-- Each reason but a full session may close a connection.
pub record Ways (May : HubClose → Type 0) : Type 0 where
  pub own : (reason : CloseReason) → May (Own reason)
  pub over : May TakenOver
  pub peer : May PeerEnded

-- no restriction on reasons
abbrev pub Freely : HubClose → Type 0
Freely why = Unit {0}

-- no restriction on works
abbrev pub Anywhere : Bool → Work → Type 0
Anywhere fits w = Unit {0}

-- Sent packets and a packet that arrives keep a work near.
pub record Nearby (Near : Bool → Work → Type 0) : Type 0 where
  pub put : (fits : Bool) (k : Conn) (ps : List Packet) (w : Work) → Near fits w → Near fits (put_on k ps w)
  pub touches : (fits : Bool) (k : Conn) (w : Work) → Near fits w → Near fits (touched_on k w)

pub anywhere : Nearby Anywhere
anywhere = record { put = λ fits k ps w n. tt; touches = λ fits k w n. tt }

pub freely : Ways Freely
freely = record { own = λ reason. tt; over = tt; peer = tt }

-- ---- the changes keep the invariants

-- a closed connection
abbrev pub closed_line : HubConnection → HubConnection
closed_line x = record x { stage = Closed; held = [] }

names_shut : Names closed_line
names_shut x = refl

idle_shut : (x : HubConnection) → IsIdle Closed
idle_shut x c = refl

pub names_grown : (b : List ℕ) → Names (grown b)
names_grown b x = refl

pub ups_grown : (b : List ℕ) → Ups (grown b)
ups_grown b x = (λ c. refl, refl)

-- a change that keeps names and clients
pub mapped : (g : HubConnection → HubConnection) (xs : List HubConnection) (n : ℕ) (ss : List HubSession) → Names g → Ups g → Orderly xs n ss → Orderly (map g xs) n ss
mapped g xs n ss h u s = record {
  apart = apart_map g h u xs s.apart;
  keyless = s.keyless;
  tied = λ c. subst (λ (o : Option (Conn × Bool)). Tied o (has c ss) (end_of c ss)) (sym (upper_map g h u c xs)) (s.tied c);
}

-- a session gets another end that agrees with its connection
ended_as : (key : ℕ) (e : End) (xs : List HubConnection) (n : ℕ) (ss : List HubSession) → (has key ss ≡ true → Tied (upper key xs) true e) → Orderly xs n ss → Orderly xs n (with_end key e ss)
ended_as key e xs n ss new s = record {
  apart = s.apart;
  keyless = λ c le. has_with key e c ss ∙ s.keyless c le;
  tied = each_with (λ c there e. Tied (upper c xs) there e) key e ss s.tied new;
}

left_as : (key : Option ℕ) (now : ℕ) (xs : List HubConnection) (n : ℕ) (ss : List HubSession) → Orderly xs n ss → Orderly xs n (with_left key now ss)
left_as key now xs n ss s = record {
  apart = s.apart;
  keyless = λ c le. has_left key now c ss ∙ s.keyless c le;
  tied = each_left (λ c there e. Tied (upper c xs) there e) key now ss s.tied;
}

alike_tied : (o : Option (Conn × Bool)) (there : Bool) (e f : End) → Alike e f → there ≡ true → Tied o there f → Tied o true e
alike_tied None there e f a h t = a.1 ∙ t
alike_tied (Some u) there e f a h t = (refl, a.0 ∙ t.1, a.1 ∙ t.2)

-- a client without a session is not connected
pub not_up : (c : ℕ) (h : HubState) → Sound h → has c h.sessions ≡ false → upper c h.connections ≡ None
not_up c h s none = go (upper c h.connections) (subst (λ (b : Bool). Tied (upper c h.connections) b (end_of c h.sessions)) none (s.tied c))
  where
    go : (o : Option (Conn × Bool)) → Tied o false (end_of c h.sessions) → o ≡ None
    go None t = refl
    go (Some u) t = absurd (let clash = t.0 in cc)

-- a connected client has a session, and its end is connected
pub is_tied : (c : ℕ) (u : Conn × Bool) (h : HubState) → Sound h → upper c h.connections ≡ Some u → Tied (Some u) (has c h.sessions) (end_of c h.sessions)
is_tied c u h s e = subst (λ (o : Option (Conn × Bool)). Tied o (has c h.sessions) (end_of c h.sessions)) e (s.tied c)

-- the end of a client that is not connected
pub is_idle : (c : ℕ) (h : HubState) → Sound h → upper c h.connections ≡ None → (end_of c h.sessions).clean ≡ false
is_idle c h s e = subst (λ (o : Option (Conn × Bool)). Tied o (has c h.sessions) (end_of c h.sessions)) e (s.tied c)

pub sound_put : (k : Conn) (ps : List Packet) (w : Work) → Sound w.hub → Sound (put_on k ps w).hub
unfolding put_on
sound_put k ps w s =
    mapped (changed (grown (encodings ps)) k) w.hub.connections w.hub.next_key w.hub.sessions (names_changed (grown (encodings ps)) k (names_grown (encodings ps))) (ups_changed (grown (encodings ps)) k (ups_grown (encodings ps))) s

pub sound_put_where : (to : Option Conn) (ps : List Packet) (w : Work) → Sound w.hub → Sound (put_where to ps w).hub
sound_put_where None ps w s = s
sound_put_where (Some k) ps w s = sound_put k ps w s

pub sound_inner : (IsOwn : Conn → Type 0) → Inner IsOwn (λ o w. Sound w.hub)
sound_inner IsOwn = record {
  put = λ k ps o w own plain s. sound_put k ps w s;
  moves = λ key e o w alike s. ended_as key e w.hub.connections w.hub.next_key w.hub.sessions
      (λ there. alike_tied (upper key w.hub.connections) (has key w.hub.sessions) e (end_of key w.hub.sessions) alike there (s.tied key)) s;
  marks = λ key now o w s. left_as key now w.hub.connections w.hub.next_key w.hub.sessions s;
  took = λ key m t n w s. s;
  willed = λ key m w s. s;
  placed = λ key m ps c t n w copy s. sound_put_where (up_on key w.hub.connections) ps w s;
  missed = λ key m c t n w is s. s;
  subscribed = λ key f q c t n w s. s;
  unsubscribed = λ key f o w s. s;
}

pub sound_mild : (f : HubConnection → HubConnection) (k : Conn) (w : Work) → Mild f → Sound w.hub → Sound (with_connections (with_connection f k) w).hub
sound_mild f k w m s =
    mapped (changed f k) w.hub.connections w.hub.next_key w.hub.sessions (names_changed f k (λ x. (m x).0)) (ups_changed f k (λ x. ((m x).2, (m x).3))) s

pub sound_holding : (k : Conn) (b : List ℕ) (w : Work) → Sound w.hub → Sound (with_connections (with_connection (λ x. record x { held = b }) k) w).hub
sound_holding k b w s =
    mapped (changed (λ x. record x { held = b }) k) w.hub.connections w.hub.next_key w.hub.sessions (names_changed (λ x. record x { held = b }) k (λ x. refl)) (ups_changed (λ x. record x { held = b }) k (λ x. (λ c. refl, refl))) s

pub sound_gets : (key : ℕ) (e : End) (w : Work) → e.state ≡ (end_of key w.hub.sessions).state → e.clean ≡ (end_of key w.hub.sessions).clean → Sound w.hub → Sound (with_sessions (with_end key e) w).hub
sound_gets key e w state clean s =
    ended_as key e w.hub.connections w.hub.next_key w.hub.sessions (λ there. go (upper key w.hub.connections) (has key w.hub.sessions) (s.tied key)) s
  where
    go : (o : Option (Conn × Bool)) (b : Bool) → Tied o b (end_of key w.hub.sessions) → Tied o true e
    go None b t = clean ∙ t
    go (Some u) b t = (refl, state ∙ t.1, clean ∙ t.2)

pub sound_shuts : (k : Conn) (w : Work) → Sound w.hub → IsIdle (stage_of k w.hub.connections) → Sound (shut k w).hub
sound_shuts k w s free = record {
  apart = apart_closed closed_line k names_shut idle_shut w.hub.connections s.apart;
  keyless = s.keyless;
  tied = λ c. subst (λ (o : Option (Conn × Bool)). Tied o (has c w.hub.sessions) (end_of c w.hub.sessions))
      (sym (upper_closed closed_line k names_shut idle_shut w.hub.connections s.apart c ∙ unless_other k c w.hub.connections s.apart (free c))) (s.tied c);
}

-- sent packets keep the connection of each client
pub up_put : (c : ℕ) (k : Conn) (ps : List Packet) (w : Work) → up_on c (put_on k ps w).hub.connections ≡ up_on c w.hub.connections
unfolding put_on
up_put c k ps w =
    let f = grown (encodings ps) in
    up_map (changed f k) (names_changed f k (names_grown (encodings ps))) (ups_changed f k (ups_grown (encodings ps))) c w.hub.connections

pub up_put_where : (c : ℕ) (to : Option Conn) (ps : List Packet) (w : Work) → up_on c (put_where to ps w).hub.connections ≡ up_on c w.hub.connections
up_put_where c None ps w = refl
up_put_where c (Some k) ps w = up_put c k ps w

-- a client's connection, after a connection closed
pub upper_shut : (k : Conn) (c : ℕ) (w : Work) → Apart w.hub.connections → upper c (shut k w).hub.connections ≡ unless k (upper c w.hub.connections)
upper_shut k c w a = upper_closed closed_line k names_shut idle_shut w.hub.connections a c

pub unless_itself : (k : Conn) (b : Bool) → unless k (Some (k, b)) ≡ None
unless_itself k b = cond-true (same_conn k k) None (Some (k, b)) (same_conn-itself k)

over_clean : (e : End) → (over e).clean ≡ false
over_clean e = refl

-- a session's end is disconnected, and its connection closed
module _ (k : Conn) (key : ℕ) (terms : ConnectionTerms) (last_activity : ℕ) (w : Work) (s : Sound w.hub) (stage : stage_of k w.hub.connections ≡ ConnectedAs key terms last_activity) where
  pub upper_was : upper key w.hub.connections ≡ Some (k, terms.clean_session)
  upper_was = upper_at k key terms last_activity w.hub.connections s.apart stage

  pub upper_is_none : upper key (shut k w).hub.connections ≡ None
  upper_is_none = upper_shut k key w s.apart ∙ ap (unless k) upper_was ∙ unless_itself k terms.clean_session

  pub upper_others : (c : ℕ) → eqb key c ≡ false → upper c (shut k w).hub.connections ≡ upper c w.hub.connections
  upper_others c apart = upper_shut k c w s.apart ∙ unless_other k c w.hub.connections s.apart (ap (is_for c) stage ∙ apart)

  sound_over : Orderly (shut k w).hub.connections w.hub.next_key (with_end key (over (end_of key w.hub.sessions)) w.hub.sessions)
  sound_over = record {
    apart = apart_closed closed_line k names_shut idle_shut w.hub.connections s.apart;
    keyless = λ c le. has_with key (over (end_of key w.hub.sessions)) c w.hub.sessions ∙ s.keyless c le;
    tied = each_there (λ c there e. Tied (upper c (shut k w).hub.connections) there e) key (over (end_of key w.hub.sessions)) w.hub.sessions
        (is_tied key (k, terms.clean_session) w.hub s upper_was).0
        (subst (λ (o : Option (Conn × Bool)). Tied o true (over (end_of key w.hub.sessions))) (sym upper_is_none) refl)
        (λ c apart. subst (λ (o : Option (Conn × Bool)). Tied o (has c w.hub.sessions) (end_of c w.hub.sessions)) (sym (upper_others c apart)) (s.tied c));
  }

without_as : (key : ℕ) (xs : List HubConnection) (n : ℕ) (ss : List HubSession) → upper key xs ≡ None → Orderly xs n ss → Orderly xs n (without_session key ss)
without_as key xs n ss none s = record {
  apart = s.apart;
  keyless = λ c le. has_without key c ss ∙ cond_both (eqb key c) false (has c ss) (λ b. b ≡ false) (λ e. refl) (λ e. s.keyless c le);
  tied = each_without (λ c there e. Tied (upper c xs) there e) key ss s.tied (subst (λ (o : Option (Conn × Bool)). Tied o false no_end) (sym none) refl);
}

pub sound_removes : (key : ℕ) (w : Work) → Sound w.hub → upper key w.hub.connections ≡ None → Sound (remove key w).hub
unfolding remove
sound_removes key w s none = without_as key w.hub.connections w.hub.next_key w.hub.sessions none s

sound_remove_if : (b : Bool) (key : ℕ) (w : Work) → Sound w.hub → upper key w.hub.connections ≡ None → Sound (remove_if b key w).hub
sound_remove_if true key w s none = sound_removes key w s none
sound_remove_if false key w s none = s

pub sound_closes : (k : Conn) (why : HubClose) (key : ℕ) (terms : ConnectionTerms) (last_activity : ℕ) (w : Work) → Sound w.hub → stage_of k w.hub.connections ≡ ConnectedAs key terms last_activity → Sound (closing k why key terms w).hub
sound_closes k why key terms last_activity w s stage =
    sound_remove_if terms.clean_session key (with_sessions (with_end key (over (end_of key w.hub.sessions))) (said (acts.Closed k why) (shut k w)))
    (sound_over k key terms last_activity w s stage) (upper_is_none k key terms last_activity w s stage)

pub sound_begins : (client : List ℕ) (w : Work) → Sound w.hub → Sound (new_session client w).hub
unfolding new_session
sound_begins client w s =
    let n = w.hub.next_key in
    let session : HubSession = record { client = client; key = n; end = new_end w.hub.config; left = w.hub.clock } in
    let none = not_up n w.hub s (s.keyless n (le_refl n)) in
    record {
      apart = s.apart;
      keyless = λ c le. has_new session c w.hub.sessions ∙ cond-false (has c w.hub.sessions) true (eqb n c) (s.keyless c (omega arith)) ∙ ne_eqb n c (λ same. omega arith);
      tied = each_new (λ c there e. Tied (upper c w.hub.connections) there e) session w.hub.sessions (s.keyless n (le_refl n)) s.tied
          (subst (λ (o : Option (Conn × Bool)). Tied o true (new_end w.hub.config)) (sym none) refl);
    }

pub sound_rises : (k : Conn) (key : ℕ) (terms : ConnectionTerms) (last_activity : ℕ) (move : End → Reply) (present : Bool) (w : Work) → Sound w.hub → knows k w.hub.connections ≡ true → IsIdle (stage_of k w.hub.connections)
    → upper key w.hub.connections ≡ None → has key w.hub.sessions ≡ true → (move (end_of key w.hub.sessions)).end.state ≡ Connected → (move (end_of key w.hub.sessions)).end.clean ≡ terms.clean_session
    → Sound (rising k key terms last_activity move present w).hub
unfolding does
sound_rises k key terms last_activity move present w s known free none there up clean =
    let v = staged k (ConnectedAs key terms last_activity) w in
    let e = (move (end_of key w.hub.sessions)).end in
    sound_put_where (up_on key v.hub.connections) (move (end_of key w.hub.sessions)).out (with_sessions (with_end key e) v)
    (record {
      apart = apart_risen k key terms last_activity w.hub.connections s.apart known free none;
      keyless = λ c le. has_with key e c w.hub.sessions ∙ s.keyless c le;
      tied = each_there (λ c there e. Tied (upper c v.hub.connections) there e) key e w.hub.sessions there
          (subst (λ (o : Option (Conn × Bool)). Tied o true e)
          (sym (upper_risen k key terms last_activity w.hub.connections s.apart known free none key ∙ cond-true (eqb key key) (Some (k, terms.clean_session)) (upper key w.hub.connections) (eq-eqb key key refl)))
          (refl, up, clean))
          (λ c apart. subst (λ (o : Option (Conn × Bool)). Tied o (has c w.hub.sessions) (end_of c w.hub.sessions))
          (sym (upper_risen k key terms last_activity w.hub.connections s.apart known free none c ∙ cond-false (eqb key c) (Some (k, terms.clean_session)) (upper c w.hub.connections) apart))
          (s.tied c));
    })
