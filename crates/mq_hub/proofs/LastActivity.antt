-- A whole packet of a connection: its time is recorded first, even if the connection is then closed
-- because an allocation failed.
use Rattle.std.proofs.Common.{◌≡◌, ℕ, Result, IfSome, Ok, Err, OnOk, Bool, true, false, cond, List, [], ◌∷◌, Option, Some, None, refl, sym, ap, ap₂, ◌∙◌}
use Rattle.std.proofs.lemmas.Bool.{cond-true, cond-false}
use Rattle.mq_packet.specs.declared.packet.Packet.{Packet}
use Rattle.mq_end.specs.declared.reason.CloseReason.TheVariants as reasons
use Rattle.mq_route.specs.declared.act.Act.{Act}
use Rattle.mq_route.specs.declared.act.Act.TheVariants as acts
use Rattle.mq_route.specs.declared.close.HubClose.{HubClose}
use Rattle.mq_route.specs.declared.close.HubClose.TheVariants.{Own}
use Rattle.mq_route.specs.declared.conn.Conn.{Conn}
use Rattle.mq_route.specs.declared.connection_state.ConnectionState.{ConnectionState}
use Rattle.mq_route.specs.declared.connection_state.ConnectionState.TheVariants.{AwaitingConnect, ConnectedAs, Closed}
use Rattle.mq_route.specs.Arrives.{arrives, on_first_packet, dispatch_packet, touched, touched_on, on_packet, on_connected_packet}
use Rattle.mq_route.specs.Hub.{HubState, HubConnection, is_connection, is_open, key_on, stage_of, with_connection, with_left}
use Rattle.mq_route.specs.Work.{Work, close, leaves_behind, said, shut, shut_down, with_sessions}
use Rattle.mq_tables.specs.Connections.{touched_at}
use Rattle.mq_tables.proofs.ConnectionTable.{heard_key}
use Rattle.mq_hub.specs.Inside.Input.{with_touched}
use Rattle.mq_hub.specs.Inside.Refinement.{Refines}

abbrev pub memory : HubClose
memory = Own reasons.Memory

-- the state of the connection then
pub stage_heard : (now : ℕ) (k : Conn) (xs : List HubConnection) → stage_of k (with_connection (touched_at now) k xs) ≡ touched now (stage_of k xs)
stage_heard now k [] = refl
stage_heard now k (x ∷ xs) = go (is_connection k x) refl (stage_heard now k xs)
  where
    go : (b : Bool) → is_connection k x ≡ b → stage_of k (with_connection (touched_at now) k xs) ≡ touched now (stage_of k xs)
        → stage_of k (with_connection (touched_at now) k (x ∷ xs)) ≡ touched now (stage_of k (x ∷ xs))
    go true same rest =
        ap (λ (y : HubConnection). stage_of k (y ∷ with_connection (touched_at now) k xs)) (cond-true (is_connection k x) (touched_at now x) x same)
        ∙ cond-true (is_connection k x) (touched now x.stage) (stage_of k (with_connection (touched_at now) k xs)) same
        ∙ ap (touched now) (sym (cond-true (is_connection k x) x.stage (stage_of k xs) same))
    go false other rest =
        ap (λ (y : HubConnection). stage_of k (y ∷ with_connection (touched_at now) k xs)) (cond-false (is_connection k x) (touched_at now x) x other)
        ∙ cond-false (is_connection k x) x.stage (stage_of k (with_connection (touched_at now) k xs)) other ∙ rest
        ∙ ap (touched now) (sym (cond-false (is_connection k x) x.stage (stage_of k xs) other))

pub heard_open : (now : ℕ) (s : ConnectionState) → is_open (touched now s) ≡ is_open s
heard_open now AwaitingConnect = refl
heard_open now (ConnectedAs key terms last_activity) = refl
heard_open now Closed = refl

pub open_heard : (k : Conn) (h : HubState) → is_open (stage_of k (with_touched k h).connections) ≡ is_open (stage_of k h.connections)
open_heard k h = ap is_open (stage_heard h.clock k h.connections) ∙ heard_open h.clock (stage_of k h.connections)

pub key_heard : (k : Conn) (h : HubState) → key_on (stage_of k (with_touched k h).connections) ≡ key_on (stage_of k h.connections)
key_heard k h = ap key_on (stage_heard h.clock k h.connections) ∙ heard_key h.clock (stage_of k h.connections)

-- a packet is handled as before its time was recorded
comes_heard : (k : Conn) (p : Packet) (fits : Bool) (now : ℕ) (s : ConnectionState) (w : Work) → dispatch_packet k p fits (touched now s) w ≡ dispatch_packet k p fits s w
unfolding dispatch_packet
comes_heard k p fits now AwaitingConnect w = refl
comes_heard k p fits now (ConnectedAs key terms last_activity) w = refl
comes_heard k p fits now Closed w = refl

left_heard : (why : HubClose) (fits : Bool) (now : ℕ) (s : ConnectionState) (w : Work) → leaves_behind why fits (touched now s) w ≡ leaves_behind why fits s w
unfolding leaves_behind
left_heard why fits now AwaitingConnect w = refl
left_heard why fits now (ConnectedAs key terms last_activity) w = refl
left_heard why fits now Closed w = refl

-- a connection is closed as before a time was recorded
abbrev shuts : HubConnection → HubConnection
shuts x = record x { stage = Closed; held = [] }

shut_heard : (now : ℕ) (k : Conn) (xs : List HubConnection) → with_connection shuts k (with_connection (touched_at now) k xs) ≡ with_connection shuts k xs
shut_heard now k [] = refl
shut_heard now k (x ∷ xs) = go (is_connection k x) refl (shut_heard now k xs)
  where
    go : (b : Bool) → is_connection k x ≡ b → with_connection shuts k (with_connection (touched_at now) k xs) ≡ with_connection shuts k xs
        → with_connection shuts k (with_connection (touched_at now) k (x ∷ xs)) ≡ with_connection shuts k (x ∷ xs)
    go true same rest = ap₂ (λ (y : HubConnection) (ys : List HubConnection). y ∷ ys)
        (ap (λ (y : HubConnection). cond (is_connection k y) (shuts y) y) (cond-true (is_connection k x) (touched_at now x) x same)
        ∙ cond-true (is_connection k x) (shuts x) (touched_at now x) same ∙ sym (cond-true (is_connection k x) (shuts x) x same))
        rest
    go false other rest = ap₂ (λ (y : HubConnection) (ys : List HubConnection). y ∷ ys)
        (ap (λ (y : HubConnection). cond (is_connection k y) (shuts y) y) (cond-false (is_connection k x) (touched_at now x) x other))
        rest

close_heard : (k : Conn) (why : HubClose) (fits : Bool) (w : Work) → close k why fits (touched_on k w) ≡ close k why fits w
unfolding close shut_down
close_heard k why fits w =
    let key = ap key_on (stage_heard w.hub.clock k w.hub.connections) ∙ heard_key w.hub.clock (stage_of k w.hub.connections) in
    λ i. with_sessions (with_left (key i) w.hub.clock) (shut_heard_down k why fits w i)
  where
    shut_heard_down : (k : Conn) (why : HubClose) (fits : Bool) (w : Work) → shut_down k why fits (touched_on k w) ≡ shut_down k why fits w
    shut_heard_down k why fits w =
        ap (λ (s : ConnectionState). leaves_behind why fits s (said (acts.Closed k why) (shut k (touched_on k w)))) (stage_heard w.hub.clock k w.hub.connections)
        ∙ left_heard why fits w.hub.clock (stage_of k w.hub.connections) (said (acts.Closed k why) (shut k (touched_on k w)))
        ∙ ap (λ (xs : List HubConnection). leaves_behind why fits (stage_of k w.hub.connections) (said (acts.Closed k why) (record w { hub = record w.hub { connections = xs } })))
        (shut_heard w.hub.clock k w.hub.connections)

-- ---- the change of the definition

module _ (k : Conn) (p : Packet) (fits : Bool) (old new : HubState) (did says : List Act) where
  -- a packet is handled after its time was recorded
  pub taken_in : Refines (dispatch_packet k p fits (stage_of k (with_touched k old).connections)) (with_touched k old) did new says
      → Refines (on_packet k p (record { fits = true; will_fits = fits })) old did new says
  unfolding on_packet arrives
  taken_in goes = record {
    hub = λ w e f. ap (λ (v : Work). v.hub) (turned w e) ∙ goes.hub (touched_on k w) (ap (with_touched k) e) f;
    did = λ w e f. ap (λ (v : Work). v.did) (turned w e) ∙ goes.did (touched_on k w) (ap (with_touched k) e) f;
  }
    where
      turned : (w : Work) → w.hub ≡ old
          → arrives k p (record { fits = true; will_fits = fits }) w ≡ dispatch_packet k p fits (stage_of k (with_touched k old).connections) (touched_on k w)
      turned w e =
          ap (λ (h : HubState). dispatch_packet k p fits (stage_of k h.connections) (touched_on k w)) e
          ∙ sym (comes_heard k p fits old.clock (stage_of k old.connections) (touched_on k w))
          ∙ ap (λ (s : ConnectionState). dispatch_packet k p fits s (touched_on k w)) (sym (stage_heard old.clock k old.connections))

  -- an allocation failed: the connection is closed
  pub taken_not : Refines (close k memory fits) (with_touched k old) did new says → Refines (on_packet k p (record { fits = false; will_fits = fits })) old did new says
  unfolding on_packet arrives
  taken_not goes = record {
    hub = λ w e f. ap (λ (v : Work). v.hub) (turned w) ∙ goes.hub (touched_on k w) (ap (with_touched k) e) f;
    did = λ w e f. ap (λ (v : Work). v.did) (turned w) ∙ goes.did (touched_on k w) (ap (with_touched k) e) f;
  }
    where
      turned : (w : Work) → arrives k p (record { fits = false; will_fits = fits }) w ≡ close k memory fits (touched_on k w)
      turned w = sym (close_heard k memory fits w)

-- ---- a connection that is open

pub is_fresh : (s : ConnectionState) → is_open s ≡ true → key_on s ≡ None → s ≡ AwaitingConnect
is_fresh AwaitingConnect on none = refl
is_fresh (ConnectedAs key terms last_activity) on none = absurd cc
is_fresh Closed on none = absurd cc

-- on which a client is connected, or which waits for its CONNECT
pub comes_up : (k : Conn) (p : Packet) (fits : Bool) (key : ℕ) (s : ConnectionState) (old new : HubState) (did says : List Act) → key_on s ≡ Some key
    → Refines (on_connected_packet k key p fits) old did new says → Refines (dispatch_packet k p fits s) old did new says
unfolding dispatch_packet
comes_up k p fits key AwaitingConnect old new did says e goes = absurd cc
comes_up k p fits key (ConnectedAs other terms last_activity) old new did says e goes =
    let same : other ≡ key = cc in
    record {
      hub = λ w a b. ap (λ (n : ℕ). (on_connected_packet k n p fits w).hub) same ∙ goes.hub w a b;
      did = λ w a b. ap (λ (n : ℕ). (on_connected_packet k n p fits w).did) same ∙ goes.did w a b;
    }
comes_up k p fits key Closed old new did says e goes = absurd cc

pub comes_fresh : (k : Conn) (p : Packet) (fits : Bool) (s : ConnectionState) (old new : HubState) (did says : List Act) → s ≡ AwaitingConnect
    → Refines (on_first_packet k p fits) old did new says → Refines (dispatch_packet k p fits s) old did new says
unfolding dispatch_packet
comes_fresh k p fits AwaitingConnect old new did says e goes = record { hub = goes.hub; did = goes.did }
comes_fresh k p fits (ConnectedAs other terms last_activity) old new did says e goes = absurd cc
comes_fresh k p fits Closed old new did says e goes = absurd cc

-- ---- small things

-- a conclusion from a call that returned `Ok`
pub on_ok : {X E : Type 0} {P Q : Type 0} (r : Result X E) → (P → Q) → OnOk r P → OnOk r Q
on_ok (Ok x) f p = f p
on_ok (Err e) f p = tt

-- a fact of each possible value of an option is a fact of the option
pub if_some : {X : Type 0} (P : X → Type 0) (o : Option X) → ((x : X) → o ≡ Some x → P x) → IfSome o P
if_some P None each = tt
if_some P (Some x) each = each x refl

-- a part of a step from the same broker and acts
pub goes_from : (change : Work → Work) (a b c : HubState) (x y z : List Act) → a ≡ b → x ≡ y → Refines change a x c z → Refines change b y c z
goes_from change a b c x y z ab xy goes = record {
  hub = λ w e f. goes.hub w (e ∙ sym ab) (f ∙ sym xy);
  did = λ w e f. goes.did w (e ∙ sym ab) (f ∙ sym xy);
}
