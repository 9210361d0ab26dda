-- A first CONNECT is refused or accepted as the step's definition says.
use Rattle.std.proofs.Common.{◌≡◌, ◌||◌, ◌&&◌, ℕ, ◌+◌, ◌<◌, ◌≤◌, ◌^◌, ◌==◌, not, Bool, true, false, List, [], ◌∷◌, ◌++◌, length, Option, Some, None, refl, sym, ap, subst, ◌∙◌, arith, eq-eqb, true≢false}
use Rattle.std.proofs.lemmas.Bool.{cond-true, cond-false, leb-false}
use Rattle.std.proofs.lemmas.List.{length-append}
use Rattle.std.specs.Option.{is_some}
use Rattle.std.specs.Prelude.{nat_le}
use Rattle.std.specs.Str.{bytes_eq}
use Rattle.mq_wire.specs.Text.{counted}
use Rattle.mq_topic.specs.declared.qos.Qos.{Qos}
use Rattle.mq_topic.specs.declared.qos.Qos.TheVariants.{Q0, Q1, Q2}
use Rattle.mq_packet.specs.declared.connack.ConnAck.TheVariants as connacks
use Rattle.mq_packet.specs.declared.connack.RefusalCode.{RefusalCode}
use Rattle.mq_packet.specs.declared.connack.RefusalCode.TheVariants.{IdentifierRejected, ServerUnavailable}
use Rattle.mq_packet.specs.declared.connect.Connect.{Connect}
use Rattle.mq_packet.specs.declared.connect.Will.{Will}
use Rattle.mq_packet.specs.declared.packet.Packet.{Packet}
use Rattle.mq_packet.specs.declared.packet.Packet.TheVariants as packets
use Rattle.mq_packet.specs.Encoding.{connect_head, fields, login_fields, will_fields}
use Rattle.mq_end.specs.declared.reason.CloseReason.TheVariants as reasons
use Rattle.mq_end.specs.Sizes.{identifier_size}
use Rattle.mq_route.specs.declared.act.Act.{Act}
use Rattle.mq_route.specs.declared.close.HubClose.TheVariants.{Own}
use Rattle.mq_route.specs.declared.conn.Conn.{Conn}
use Rattle.mq_route.specs.declared.connection_state.ConnectionState.TheVariants.{Closed}
use Rattle.mq_route.specs.Arrives.{accept_connect, on_first_packet, goes_on, resume_session, start_session, take_over, on_connect}
use Rattle.mq_route.specs.Hub.{HubSession, HubState, key_of, stage_of, up_on}
use Rattle.mq_route.specs.Welcome.{client_of, ends_on, ends_with, is_crowded, is_unavailable, needs_new, refusal_by_tables, refusal}
use Rattle.mq_route.specs.Work.{Work, close, put_on, remove}
use Rattle.mq_tables.proofs.SessionRoom.{some_same}
use Rattle.mq_hub.specs.Inside.Refinement.{Refines}
use Rattle.mq_hub.specs.Inside.Invariant.{IsWillWithin}
use Rattle.mq_hub.specs.Inside.ConnectRoom.{has_session}
use Rattle.mq_hub.specs.Inside.ConnectChecks.{is_connect, refused}
use Rattle.mq_hub.proofs.Checks.{by_login, by_place, rejected}
use Rattle.mq_hub.proofs.FirstPackets.{goes_as}
use Rattle.mq_hub.proofs.KeptState.{closed_is_shut, goes_shut}

-- ---- the facts of a CONNECT that is not refused

swap_and : (a b : Bool) → (a && b) ≡ (b && a)
swap_and true true = refl
swap_and true false = refl
swap_and false true = refl
swap_and false false = refl

last_of : (a b : Bool) → (a || b) ≡ false → b ≡ false
last_of true b e = absurd (true≢false e)
last_of false b e = e

module _ (c : Connect) (h : HubState) (none : refusal c h ≡ None) where
  is_named : (length c.client_id == 0 && not c.clean_session) ≡ false
  is_named = go (length c.client_id == 0 && not c.clean_session) refl
    where
      go : (b : Bool) → (length c.client_id == 0 && not c.clean_session) ≡ b → (length c.client_id == 0 && not c.clean_session) ≡ false
      go false e = e
      go true e = let w : Some IdentifierRejected ≡ None = sym (rejected c h e) ∙ none in absurd cc

  -- it has a client identifier, or clean session is 1 (3.1.3.1)
  pub named : (not c.clean_session && length c.client_id == 0) ≡ false
  named = swap_and (not c.clean_session) (length c.client_id == 0) ∙ is_named

  logs_in : refusal_by_tables h.config.users h.config.hashed_users c.login ≡ None
  logs_in = go (refusal_by_tables h.config.users h.config.hashed_users c.login) refl
    where
      go : (o : Option RefusalCode) → refusal_by_tables h.config.users h.config.hashed_users c.login ≡ o → refusal_by_tables h.config.users h.config.hashed_users c.login ≡ None
      go None e = e
      go (Some code) e = let w : Some code ≡ None = sym (by_login c h code is_named e) ∙ none in absurd cc

  has_place : is_unavailable c (key_of (client_of c h.sessions) h.sessions) h ≡ false
  has_place = go (is_unavailable c (key_of (client_of c h.sessions) h.sessions) h) refl
    where
      go : (b : Bool) → is_unavailable c (key_of (client_of c h.sessions) h.sessions) h ≡ b → is_unavailable c (key_of (client_of c h.sessions) h.sessions) h ≡ false
      go false e = e
      go true e = let w : Some ServerUnavailable ≡ None = sym (by_place c h true is_named logs_in e) ∙ none in absurd cc

  -- there is a key for a new session
  pub has_key : needs_new c (key_of (client_of c h.sessions) h.sessions) h ≡ true → h.next_key < 2 ^ 32
  has_key new =
      let o : Option ℕ = key_of (client_of c h.sessions) h.sessions in
      let low = last_of (not (is_some o) && nat_le h.config.max_sessions (length h.sessions)) (needs_new c o h && nat_le (2 ^ 32) h.next_key)
      (last_of (is_crowded o h) ((not (is_some o) && nat_le h.config.max_sessions (length h.sessions)) || (needs_new c o h && nat_le (2 ^ 32) h.next_key)) has_place) in
      leb-false (2 ^ 32) h.next_key (sym (ap (λ (b : Bool). b && nat_le (2 ^ 32) h.next_key) new) ∙ low)

or_true : (b : Bool) → (b || true) ≡ true
or_true true = refl
or_true false = refl

-- the session of a client exists
pub stands_by : (client : List ℕ) (key : ℕ) (ss : List HubSession) → key_of client ss ≡ Some key → has_session key ss ≡ true
stands_by client key [] e = absurd cc
stands_by client key (s ∷ ss) e = go (bytes_eq s.client client) refl (stands_by client key ss)
  where
    go : (b : Bool) → bytes_eq s.client client ≡ b → (key_of client ss ≡ Some key → has_session key ss ≡ true) → has_session key (s ∷ ss) ≡ true
    go true same rest =
        let own : s.key ≡ key = some_same (sym (cond-true (bytes_eq s.client client) (Some s.key) (key_of client ss) same) ∙ e) in
        ap (λ (b : Bool). b || has_session key ss) (eq-eqb s.key key own)
    go false differ rest =
        ap (λ (b : Bool). (s.key == key) || b) (rest (sym (cond-false (bytes_eq s.client client) (Some s.key) (key_of client ss) differ) ∙ e)) ∙ or_true (s.key == key)

-- ---- the will of a CONNECT that is within the limit

counted_size : (t : List ℕ) → length (counted t) ≡ 2 + length t
counted_size t = omega arith

identifier_most : (q : Qos) → identifier_size q ≤ 2
identifier_most Q0 = omega arith
identifier_most Q1 = omega arith
identifier_most Q2 = omega arith

will_of : (most : ℕ) (will : Option Will) (head login : List ℕ) → length (head ++ (will_fields will ++ login)) ≤ most → IsWillWithin most will
will_of most None head login fits = tt
will_of most (Some w) head login fits =
    let all = length-append head (will_fields (Some w) ++ login) in
    let rest = length-append (will_fields (Some w)) login in
    let both = length-append (counted w.topic) (counted w.message) in
    let topic = counted_size w.topic in
    let message = counted_size w.message in
    let id = identifier_most w.qos in
    omega (arith, fits)

pub will_within : (most : ℕ) (c : Connect) → length (fields (packets.Connect c)) ≤ most → IsWillWithin most c.will
will_within most c fits = will_of most c.will (connect_head c) (login_fields c.login) fits

-- ---- a connection on which something else than CONNECT came first, or a CONNECT that is refused

pub not_connect : (p : Packet) → ((c : Connect) → p ≡ packets.Connect c → ⊥) → is_connect p ≡ false
not_connect (packets.Connect c) other = absurd (other c refl)
not_connect (packets.ConnAck a) other = refl
not_connect (packets.Publish m) other = refl
not_connect (packets.PubAck i) other = refl
not_connect (packets.PubRec i) other = refl
not_connect (packets.PubRel i) other = refl
not_connect (packets.PubComp i) other = refl
not_connect (packets.Subscribe i requests) other = refl
not_connect (packets.SubAck i codes) other = refl
not_connect (packets.Unsubscribe i filters) other = refl
not_connect (packets.UnsubAck i) other = refl
not_connect packets.PingReq other = refl
not_connect packets.PingResp other = refl
not_connect packets.Disconnect other = refl

closes_first : (k : Conn) (p : Packet) (fits : Bool) → is_connect p ≡ false → (w : Work) → on_first_packet k p fits w ≡ close k (Own reasons.Unexpected) fits w
unfolding on_first_packet
closes_first k (packets.Connect c) fits other w = absurd (true≢false other)
closes_first k (packets.ConnAck a) fits other w = refl
closes_first k (packets.Publish m) fits other w = refl
closes_first k (packets.PubAck i) fits other w = refl
closes_first k (packets.PubRec i) fits other w = refl
closes_first k (packets.PubRel i) fits other w = refl
closes_first k (packets.PubComp i) fits other w = refl
closes_first k (packets.Subscribe i requests) fits other w = refl
closes_first k (packets.SubAck i codes) fits other w = refl
closes_first k (packets.Unsubscribe i filters) fits other w = refl
closes_first k (packets.UnsubAck i) fits other w = refl
closes_first k packets.PingReq fits other w = refl
closes_first k packets.PingResp fits other w = refl
closes_first k packets.Disconnect fits other w = refl

module _ (k : Conn) (fits : Bool) (h g : HubState) (did says : List Act) where
  pub wrong_is_shut : (p : Packet) → is_connect p ≡ false → Refines (on_first_packet k p fits) h did g says → stage_of k g.connections ≡ Closed
  wrong_is_shut p other q =
      goes_shut k (Own reasons.Unexpected) fits h g did says
      (goes_as (on_first_packet k p fits) (close k (Own reasons.Unexpected) fits) h g did says (λ w e. sym (closes_first k p fits other w)) q)

  pub refused_is_shut : (code : RefusalCode) → Refines (refused k code fits) h did g says → stage_of k g.connections ≡ Closed
  refused_is_shut code q =
      let w : Work = record { hub = h; did = did; sent = []; came = [] } in
      ap (λ (s : HubState). stage_of k s.connections) (sym (q.hub w refl refl))
      ∙ closed_is_shut k (Own (reasons.Refused code)) fits (put_on k (packets.ConnAck (connacks.Refused code) ∷ []) w)

-- ---- the changes of the definition

module _ (k : Conn) (c : Connect) (fits : Bool) (h g : HubState) (did says : List Act) where
  -- the session of a client that is not connected
  module _ (client : List ℕ) (key : ℕ) (away : up_on key h.connections ≡ None) where
    at_away : (w : Work) → w.hub ≡ h → accept_connect k c client (Some key) fits w ≡ goes_on k c client key false w
    at_away w e =
        ap (λ (s : HubState). goes_on k c client key (ends_with key s) (take_over (up_on key s.connections) fits w)) e
        ∙ ap (λ (o : Option Conn). goes_on k c client key (ends_on o h.connections) (take_over o fits w)) away

    pub goes_renewed : c.clean_session ≡ true → Refines (λ w. start_session k c client (remove key w)) h did g says → Refines (accept_connect k c client (Some key) fits) h did g says
    unfolding goes_on
    goes_renewed clean q =
        goes_as (λ w. start_session k c client (remove key w)) (accept_connect k c client (Some key) fits) h g did says
        (λ w e. at_away w e ∙ cond-true c.clean_session (start_session k c client (remove key w)) (resume_session k c key w) clean) q

    pub goes_resumed : c.clean_session ≡ false → Refines (resume_session k c key) h did g says → Refines (accept_connect k c client (Some key) fits) h did g says
    unfolding goes_on
    goes_resumed going q =
        goes_as (resume_session k c key) (accept_connect k c client (Some key) fits) h g did says
        (λ w e. at_away w e ∙ cond-false c.clean_session (start_session k c client (remove key w)) (resume_session k c key w) going) q

  -- the session of a client, as it is found
  pub goes_admitted : (client : List ℕ) (o : Option ℕ) → key_of client h.sessions ≡ o → Refines (accept_connect k c client o fits) h did g says
      → Refines (accept_connect k c client (key_of client h.sessions) fits) h did g says
  goes_admitted client o is q = subst (λ (p : Option ℕ). Refines (accept_connect k c client p fits) h did g says) (sym is) q

  -- a CONNECT that is refused, or not
  pub goes_turned : (code : RefusalCode) → refusal c h ≡ Some code → Refines (refused k code fits) h did g says → Refines (on_connect k c (refusal c h) fits) h did g says
  unfolding on_connect
  goes_turned code is q = subst (λ (o : Option RefusalCode). Refines (on_connect k c o fits) h did g says) (sym is) q

  pub goes_welcomed : (client : List ℕ) → client ≡ client_of c h.sessions → refusal c h ≡ None → Refines (accept_connect k c client (key_of client h.sessions) fits) h did g says
      → Refines (on_connect k c (refusal c h) fits) h did g says
  unfolding on_connect
  goes_welcomed client name is q =
      subst (λ (o : Option RefusalCode). Refines (on_connect k c o fits) h did g says) (sym is)
      (goes_as (accept_connect k c client (key_of client h.sessions) fits) (on_connect k c None fits) h g did says
      (λ w e. ap (λ (s : HubState). accept_connect k c (client_of c s.sessions) (key_of (client_of c s.sessions) s.sessions) fits w) e
      ∙ ap (λ (n : List ℕ). accept_connect k c n (key_of n h.sessions) fits w) (sym name)) q)

  pub goes_connect : Refines (on_connect k c (refusal c h) fits) h did g says → Refines (on_first_packet k (packets.Connect c) fits) h did g says
  unfolding on_first_packet
  goes_connect q =
      goes_as (on_connect k c (refusal c h) fits) (on_first_packet k (packets.Connect c) fits) h g did says
      (λ w e. ap (λ (s : HubState). on_connect k c (refusal c s) fits w) e) q
