-- The connections that a step closes for a reason.
use Rattle.std.proofs.Common.{◌≡◌, ◌⊎◌, inl, inr, ℕ, Bool, true, false, List, [], ◌∷◌, ◌++◌, refl, ap, ◌∙◌, append-nil}
use Rattle.std.proofs.lemmas.List.Concat.{flat_map-append}
use Rattle.mq_packet.specs.declared.packet.Packet.{Packet}
use Rattle.mq_end.specs.declared.reason.CloseReason.{CloseReason}
use Rattle.mq_end.specs.End.{End, Reply, over}
use Rattle.mq_route.specs.declared.act.Act.{Act}
use Rattle.mq_route.specs.declared.act.Act.TheVariants as acts
use Rattle.mq_route.specs.declared.close.HubClose.{HubClose}
use Rattle.mq_route.specs.declared.close.HubClose.TheVariants.{Own, TakenOver, PeerEnded}
use Rattle.mq_route.specs.declared.conn.Conn.{Conn}
use Rattle.mq_route.specs.declared.connection_state.ConnectionState.{ConnectionState}
use Rattle.mq_route.specs.declared.connection_state.ConnectionState.TheVariants.{AwaitingConnect, ConnectedAs, Closed}
use Rattle.mq_route.specs.declared.connection_state.ConnectionTerms.{ConnectionTerms}
use Rattle.mq_route.specs.Closes.{closed_by, closes_for}
use Rattle.mq_route.specs.Hub.{stage_of, up_on, end_of, with_end}
use Rattle.mq_route.specs.Work.{Work, said, with_sessions, staged, shut, put_on, put_where, does, remove, remove_if, will_after, leaves_behind, shut_down, close}
use Rattle.mq_route.specs.Arrives.{new_session}
use Rattle.mq_route.proofs.Changes.{Anywhere, Debt, owes, nothing, Everywhere, Inner, sent_where, Outer, Ways, closing, rising}
use Rattle.mq_route.proofs.Walk.{last_will_keeps}

pub only : {A : Type 0} → A ⊎ ⊥ → A
only (inl a) = a
only (inr x) = absurd x

module _ (picks : HubClose → Conn → List Conn) where
  -- one more act
  more : (did : List Act) (act : Act) → closes_for picks (did ++ act ∷ []) ≡ closes_for picks did ++ closed_by picks act
  more did act = flat_map-append (closed_by picks) did (act ∷ []) ∙ ap (λ (l : List Conn). closes_for picks did ++ l) (append-nil (closed_by picks act))

  -- an act that closes no connection for a picked reason
  same : (did : List Act) (act : Act) → closed_by picks act ≡ [] → closes_for picks (did ++ act ∷ []) ≡ closes_for picks did
  same did act none = more did act ∙ ap (λ (l : List Conn). closes_for picks did ++ l) none ∙ append-nil (closes_for picks did)

  -- the reason is not picked, or there is a cause for a close
  abbrev pub May : Type 0 → HubClose → Type 0
  May X why = ((k : Conn) → picks why k ≡ []) ⊎ X

  -- no cause is needed for these reasons
  pub ways : (X : Type 0) → ((reason : CloseReason) (k : Conn) → picks (Own reason) k ≡ []) → ((k : Conn) → picks TakenOver k ≡ []) → ((k : Conn) → picks PeerEnded k ≡ []) → Ways (May X)
  ways X own taken ended = record { own = λ reason. inl (own reason); over = inl taken; peer = inl ended }

  -- these connections closed for a picked reason, or there is a cause for more
  module _ (L : List Conn) (X : Type 0) where
    abbrev pub Few : Debt → Work → Type 0
    Few o w = (closes_for picks w.did ≡ L) ⊎ X

    few_more : (did : List Act) (act : Act) → closed_by picks act ≡ [] → (closes_for picks did ≡ L) ⊎ X → (closes_for picks (did ++ act ∷ []) ≡ L) ⊎ X
    few_more did act none (inl e) = inl (same did act none ∙ e)
    few_more did act none (inr x) = inr x

    put_few : (k : Conn) (ps : List Packet) (o : Debt) (w : Work) → Few o w → Few o (put_on k ps w)
    unfolding put_on
    put_few k ps o w r = r

    pub inner : Inner Everywhere Few
    unfolding closed_by
    inner = record {
      put = λ k ps o w own plain r. put_few k ps o w r;
      moves = λ key e o w alike r. r;
      marks = λ key now o w r. r;
      took = λ key m t n w r. few_more w.did (acts.Took key m) refl r;
      willed = λ key m w r. few_more w.did (acts.Will key m) refl r;
      placed = λ key m ps c t n w copy r.
          let v = put_where (up_on key w.hub.connections) ps w in
          few_more v.did (acts.Placed key m) refl (sent_where Few put_few (up_on key w.hub.connections) ps (owes ((key, m) ∷ c) t n) w r);
      missed = λ key m c t n w is r. few_more w.did (acts.Missed key m) refl r;
      subscribed = λ key f q c t n w r. few_more w.did (acts.Subscribed key f q) refl r;
      unsubscribed = λ key f o w r. few_more w.did (acts.Unsubscribed key f) refl r;
    }

    closed_few : (k : Conn) (why : HubClose) (did : List Act) → May X why → (closes_for picks did ≡ L) ⊎ X → (closes_for picks (did ++ acts.Closed k why ∷ []) ≡ L) ⊎ X
    unfolding closed_by
    closed_few k why did (inl none) r = few_more did (acts.Closed k why) (none k) r
    closed_few k why did (inr x) r = inr x

    pub drops_few : (key : ℕ) (w : Work) → Few nothing w → Few nothing (said (acts.WillDropped key) w)
    unfolding closed_by
    drops_few key w r = few_more w.did (acts.WillDropped key) refl r

    removes_few : (key : ℕ) (w : Work) → Few nothing w → Few nothing (remove key w)
    unfolding remove closed_by
    removes_few key w r = few_more w.did (acts.Removed key) refl r

    pub remove_if_few : (b : Bool) (key : ℕ) (w : Work) → Few nothing w → Few nothing (remove_if b key w)
    remove_if_few true key w r = removes_few key w r
    remove_if_few false key w r = r

    begins_few : (client : List ℕ) (w : Work) → Few nothing w → Few nothing (new_session client w)
    unfolding new_session
    begins_few client w r = r

    rises_few : (k : Conn) (key : ℕ) (terms : ConnectionTerms) (last_activity : ℕ) (move : End → Reply) (present : Bool) (w : Work) → Few nothing w → Few nothing (rising k key terms last_activity move present w)
    unfolding does closed_by
    rises_few k key terms last_activity move present w r =
        let v = staged k (ConnectedAs key terms last_activity) w in
        let e = end_of key w.hub.sessions in
        let u = with_sessions (with_end key (move e).end) v in
        let d = put_where (up_on key v.hub.connections) (move e).out u in
        few_more d.did (acts.Up k key present) refl (sent_where Few put_few (up_on key v.hub.connections) (move e).out nothing u r)

    pub outer : Outer Everywhere Few (May X) Anywhere
    outer = record {
      mild = λ f k o w m r. r;
      gets = λ key p w s there up g r. r;
      noted = λ n w r. r;
      shuts = λ k why w may s free r. closed_few k why w.did may r;
      closes = λ k why key terms last_activity w may s e r.
          remove_if_few terms.clean_session key (with_sessions (with_end key (over (end_of key w.hub.sessions))) (said (acts.Closed k why) (shut k w))) (closed_few k why w.did may r);
      drops = λ k why key terms last_activity fits w near stage m has short r. drops_few key (closing k why key terms w) r;
      removes = λ key w s none r. removes_few key w r;
      begins = λ client w s r. begins_few client w r;
      rises = λ k key terms last_activity move present w own s known free none there up clean received plain r. rises_few k key terms last_activity move present w r;
    }

  -- what a close leaves behind closes no connection
  left : (L : List Conn) (why : HubClose) (fits : Bool) (s : ConnectionState) (w : Work) → closes_for picks w.did ≡ L → closes_for picks (leaves_behind why fits s w).did ≡ L
  unfolding leaves_behind
  left L why fits AwaitingConnect w e = e
  left L why fits (ConnectedAs key terms last_activity) w e =
      let u = with_sessions (with_end key (over (end_of key w.hub.sessions))) w in
      only (last_will_keeps (Few L ⊥) (inner L ⊥) key (will_after why terms.will) fits (remove_if terms.clean_session key u)
      (λ m is short h. drops_few L ⊥ key (remove_if terms.clean_session key u) h) (remove_if_few L ⊥ terms.clean_session key u (inl e)))
  left L why fits Closed w e = e

  -- a close adds its connection, if its reason is picked
  pub close_adds : (k : Conn) (why : HubClose) (fits : Bool) (w : Work) → closes_for picks (close k why fits w).did ≡ closes_for picks w.did ++ picks why k
  unfolding close shut_down closed_by
  close_adds k why fits w =
      left (closes_for picks w.did ++ picks why k) why fits (stage_of k w.hub.connections) (said (acts.Closed k why) (shut k w)) (more w.did (acts.Closed k why))
