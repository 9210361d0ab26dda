-- Placing copies and closing a connection leave other connections and sessions unchanged.
use Rattle.std.proofs.Common.{◌≡◌, ℕ, Bool, true, false, cond, List, [], ◌∷◌, refl, sym, subst, ◌∙◌}
use Rattle.mq_packet.specs.Encoding.{encodings}
use Rattle.mq_end.specs.End.{over}
use Rattle.mq_route.specs.declared.act.Act.TheVariants as acts
use Rattle.mq_route.specs.declared.conn.Conn.{Conn}
use Rattle.mq_route.specs.declared.close.HubClose.{HubClose}
use Rattle.mq_route.specs.declared.connection_state.ConnectionState.{ConnectionState}
use Rattle.mq_route.specs.declared.connection_state.ConnectionState.TheVariants.{AwaitingConnect, ConnectedAs, Closed}
use Rattle.mq_route.specs.Routed.{same_conn}
use Rattle.mq_route.specs.Hub.{HubConnection, changed, with_connection, stage_of, key_on, is_clean, up_on, end_of, with_end}
use Rattle.mq_route.specs.Work.{Work, said, with_sessions, put_on, shut, remove, remove_if, will_after, leaves_behind, shut_down, close}
use Rattle.mq_route.proofs.Lines.{grown, names_changed, stage_here, stage_there, stage_map, upper, upper_map, ups_changed}
use Rattle.mq_route.proofs.Sessions.{has, has_left, has_with}
use Rattle.mq_route.proofs.Changes.{owes, Everywhere, Inner, Sends, sent_where, names_grown, ups_grown}
use Rattle.mq_route.proofs.Walk.{last_will_keeps}

-- a function of the connections that doesn't depend on pending output
abbrev pub Firm : {A : Type 0} → (List HubConnection → A) → Type 0
Firm F = (b : List ℕ) (k : Conn) (xs : List HubConnection) → F (with_connection (grown b) k xs) ≡ F xs

stage_grown : (b : List ℕ) (k : Conn) (x : HubConnection) → (changed (grown b) k x).stage ≡ x.stage
stage_grown b k x = go (same_conn x.conn k)
  where
    go : (t : Bool) → (cond t (grown b x) x).stage ≡ x.stage
    go true = refl
    go false = refl

pub stage_firm : (n : Conn) → Firm (stage_of n)
stage_firm n b k xs = stage_map (changed (grown b) k) (names_changed (grown b) k (names_grown b)) (stage_grown b k) n xs

pub upper_firm : (c : ℕ) → Firm (upper c)
upper_firm c b k xs = upper_map (changed (grown b) k) (names_changed (grown b) k (names_grown b)) (ups_changed (grown b) k (ups_grown b)) c xs

module _ {A : Type 0} (F : List HubConnection → A) (firm : Firm F) (v : A) where
  lines_put : Sends (λ o w. F w.hub.connections ≡ v)
  unfolding put_on
  lines_put k ps o w h = firm (encodings ps) k w.hub.connections ∙ h

  pub lines_inner : Inner Everywhere (λ o w. F w.hub.connections ≡ v)
  lines_inner = record {
    put = λ k ps o w own plain h. lines_put k ps o w h;
    moves = λ key e o w alike h. h;
    marks = λ key now o w h. h;
    took = λ key m t n w h. h;
    willed = λ key m w h. h;
    placed = λ key m ps c t n w copy h. sent_where (λ o w. F w.hub.connections ≡ v) lines_put (up_on key w.hub.connections) ps (owes ((key, m) ∷ c) t n) w h;
    missed = λ key m c t n w is h. h;
    subscribed = λ key f q c t n w h. h;
    unsubscribed = λ key f o w h. h;
  }

  lines_removed : (b : Bool) (key : ℕ) (w : Work) → F w.hub.connections ≡ v → F (remove_if b key w).hub.connections ≡ v
  unfolding remove
  lines_removed true key w h = h
  lines_removed false key w h = h

  lines_left : (why : HubClose) (fits : Bool) (s : ConnectionState) (w : Work) → F w.hub.connections ≡ v → F (leaves_behind why fits s w).hub.connections ≡ v
  unfolding leaves_behind
  lines_left why fits AwaitingConnect w h = h
  lines_left why fits (ConnectedAs key terms last_activity) w h =
      let u = with_sessions (with_end key (over (end_of key w.hub.sessions))) w in
      last_will_keeps (λ o w. F w.hub.connections ≡ v) lines_inner key (will_after why terms.will) fits (remove_if terms.clean_session key u) (λ m is short h. h) (lines_removed terms.clean_session key u h)
  lines_left why fits Closed w h = h

  -- a function of the connections after a close
  pub lines_closed : (k : Conn) (why : HubClose) (fits : Bool) (w : Work) → F (shut k w).hub.connections ≡ v → F (close k why fits w).hub.connections ≡ v
  unfolding close shut_down
  lines_closed k why fits w h = lines_left why fits (stage_of k w.hub.connections) (said (acts.Closed k why) (shut k w)) h

-- a closed connection has the state Closed
pub closed_shut : (k : Conn) (why : HubClose) (fits : Bool) (w : Work) → stage_of k (close k why fits w).hub.connections ≡ Closed
closed_shut k why fits w =
    lines_closed (stage_of k) (stage_firm k) Closed k why fits w
    (stage_here (λ x. record x { stage = Closed; held = [] }) (λ s. Closed) k w.hub.connections (λ x. refl) (λ x. refl) refl)

-- the state of another connection is unchanged
pub closed_other : (k n : Conn) (why : HubClose) (fits : Bool) (w : Work) → same_conn k n ≡ false → stage_of n (close k why fits w).hub.connections ≡ stage_of n w.hub.connections
closed_other k n why fits w apart =
    lines_closed (stage_of n) (stage_firm n) (stage_of n w.hub.connections) k why fits w
    (stage_there k n (λ x. record x { stage = Closed; held = [] }) w.hub.connections (λ x. refl) apart)

-- ---- sessions

has_put : (c : ℕ) (b : Bool) → Sends (λ o w. has c w.hub.sessions ≡ b)
unfolding put_on
has_put c b k ps o w h = h

pub has_inner : (c : ℕ) (b : Bool) → Inner Everywhere (λ o w. has c w.hub.sessions ≡ b)
has_inner c b = record {
  put = λ k ps o w own plain h. has_put c b k ps o w h;
  moves = λ key e o w alike h. has_with key e c w.hub.sessions ∙ h;
  marks = λ key now o w h. has_left key now c w.hub.sessions ∙ h;
  took = λ key m t n w h. h;
  willed = λ key m w h. h;
  placed = λ key m ps d t n w copy h. sent_where (λ o w. has c w.hub.sessions ≡ b) (has_put c b) (up_on key w.hub.connections) ps (owes ((key, m) ∷ d) t n) w h;
  missed = λ key m d t n w is h. h;
  subscribed = λ key f q c t n w h. h;
  unsubscribed = λ key f o w h. h;
}

module _ (c : ℕ) (b : Bool) where
  has_behind : (why : HubClose) (fits : Bool) (s : ConnectionState) (w : Work) → is_clean s ≡ false → has c w.hub.sessions ≡ b → has c (leaves_behind why fits s w).hub.sessions ≡ b
  unfolding leaves_behind
  has_behind why fits AwaitingConnect w clean h = h
  has_behind why fits (ConnectedAs key terms last_activity) w clean h =
      let u = with_sessions (with_end key (over (end_of key w.hub.sessions))) w in
      let kept : has c u.hub.sessions ≡ b = has_with key (over (end_of key w.hub.sessions)) c w.hub.sessions ∙ h in
      last_will_keeps (λ o w. has c w.hub.sessions ≡ b) (has_inner c b) key (will_after why terms.will) fits (remove_if terms.clean_session key u) (λ m is short h. h)
      (subst (λ (t : Bool). has c (remove_if t key u).hub.sessions ≡ b) (sym clean) kept)
  has_behind why fits Closed w clean h = h

  -- a session that doesn't end with the connection still exists
  pub has_closed : (k : Conn) (why : HubClose) (fits : Bool) (w : Work) → is_clean (stage_of k w.hub.connections) ≡ false → has c w.hub.sessions ≡ b → has c (close k why fits w).hub.sessions ≡ b
  unfolding close shut_down
  has_closed k why fits w clean h =
      has_left (key_on (stage_of k w.hub.connections)) w.hub.clock c (shut_down k why fits w).hub.sessions
      ∙ has_behind why fits (stage_of k w.hub.connections) (said (acts.Closed k why) (shut k w)) clean h
