-- What the parts of a step leave: the configuration, and mostly the state of each connection.
use Rattle.std.proofs.Common.{◌≡◌, ◌&&◌, ℕ, Bool, true, false, cond, List, [], ◌∷◌, ◌++◌, map, Option, Some, None, refl, sym, ap, ◌∙◌}
use Rattle.std.proofs.lemmas.Bool.{cond-true, cond-false, cond_both}
use Rattle.mq_packet.specs.declared.connack.RefusalCode.{RefusalCode}
use Rattle.mq_packet.specs.declared.connect.Connect.{Connect}
use Rattle.mq_packet.specs.declared.connect.Will.{Will}
use Rattle.mq_packet.specs.declared.message.Message.{Message}
use Rattle.mq_packet.specs.declared.packet.Packet.{Packet}
use Rattle.mq_packet.specs.declared.packet.Packet.TheVariants as packets
use Rattle.mq_packet.specs.declared.packet.Request.{Request}
use Rattle.mq_packet.specs.Encoding.{encodings}
use Rattle.mq_end.specs.declared.happening.Happening.{Happening}
use Rattle.mq_end.specs.declared.happening.Happening.TheVariants as happens
use Rattle.mq_end.specs.declared.reason.CloseReason.{CloseReason}
use Rattle.mq_end.specs.End.{End, Reply, over}
use Rattle.mq_end.specs.Server.{server_gets, subacks, unsubacks}
use Rattle.mq_route.specs.declared.act.Act.{Act}
use Rattle.mq_route.specs.declared.act.Act.TheVariants as acts
use Rattle.mq_route.specs.declared.close.HubClose.{HubClose}
use Rattle.mq_route.specs.declared.close.HubClose.TheVariants.{Own, TargetFull, TakenOver}
use Rattle.mq_route.specs.declared.conn.Conn.{Conn}
use Rattle.mq_route.specs.declared.connection_state.ConnectionState.{ConnectionState}
use Rattle.mq_route.specs.declared.connection_state.ConnectionState.TheVariants.{AwaitingConnect, ConnectedAs, Closed}
use Rattle.mq_route.specs.Arrives.{Growth, accept_connect, answers, answers_all, arrives, on_first_packet, is_too_broad, on_passed_packet, dispatch_packet, due, granted, resume_session, greeting, start_session, goes_on, touched_on, new_session, replies, take_over, on_packet, terms_of, on_connect}
use Rattle.mq_route.specs.Copies.{will_message}
use Rattle.mq_route.specs.Hub.{HubState, HubConnection, changed, copies_of, end_of, is_connection, stage_of, up_on, with_end, with_connection}
use Rattle.mq_route.specs.Routed.{same_conn}
use Rattle.mq_route.specs.Welcome.{ends_with, refusal}
use Rattle.mq_route.specs.Work.{Work, close, does, have_room, is_missed, last_will, leaves_behind, enqueue, enqueue_all, publishes_next, put_on, put_where, remove, remove_if, retained_copies, said, deliver, shut, shut_down, staged, subscribed, unsubscribed, will_after, with_sessions}
use Rattle.mq_hub.specs.Inside.Refinement.{Refines}

-- ---- the states of connections

module _ (g : HubConnection → HubConnection) (names : (x : HubConnection) → (g x).conn ≡ x.conn) (stages : (x : HubConnection) → (g x).stage ≡ x.stage) where
  pub stage_kept : (k : Conn) (xs : List HubConnection) → stage_of k (map g xs) ≡ stage_of k xs
  stage_kept k [] = refl
  stage_kept k (x ∷ xs) = λ i. cond (same_conn (names x i) k) (stages x i) (stage_kept k xs i)

-- a part of a step that leaves them and the configuration
pub record IsFirm (w v : Work) : Type 0 where
  pub config : v.hub.config ≡ w.hub.config
  pub stage : (k : Conn) → stage_of k v.hub.connections ≡ stage_of k w.hub.connections

firm_same : (w : Work) → IsFirm w w
firm_same w = record { config = refl; stage = λ k. refl }

firm_then : (u v w : Work) → IsFirm u v → IsFirm v w → IsFirm u w
firm_then u v w p q = record { config = q.config ∙ p.config; stage = λ k. q.stage k ∙ p.stage k }

firm_put_on : (k : Conn) (ps : List Packet) (w : Work) → IsFirm w (put_on k ps w)
unfolding put_on
firm_put_on k ps w = record {
  config = refl;
  stage = λ j. stage_kept (changed waits k) (λ x. name x (is_connection k x)) (λ x. stage x (is_connection k x)) j w.hub.connections;
}
  where
    waits : HubConnection → HubConnection
    waits x = record x { waiting = x.waiting ++ encodings ps }

    name : (x : HubConnection) (b : Bool) → (cond b (waits x) x).conn ≡ x.conn
    name x true = refl
    name x false = refl

    stage : (x : HubConnection) (b : Bool) → (cond b (waits x) x).stage ≡ x.stage
    stage x true = refl
    stage x false = refl

firm_put_where : (o : Option Conn) (ps : List Packet) (w : Work) → IsFirm w (put_where o ps w)
firm_put_where None ps w = firm_same w
firm_put_where (Some k) ps w = firm_put_on k ps w

firm_does : (key : ℕ) (move : End → Reply) (w : Work) → IsFirm w (does key move w)
unfolding does
firm_does key move w =
    let v : Work = with_sessions (with_end key (move (end_of key w.hub.sessions)).end) w in
    let p = firm_put_where (up_on key w.hub.connections) (move (end_of key w.hub.sessions)).out v in
    record { config = p.config; stage = p.stage }

firm_place : (key : ℕ) (m : Message) (w : Work) → IsFirm w (enqueue key m w)
unfolding enqueue
firm_place key m w =
    let p = firm_does key (publishes_next m) w in
    cond_both (is_missed key m w.hub) (said (acts.Missed key m) w) (said (acts.Placed key m) (does key (publishes_next m) w)) (λ (v : Work). IsFirm w v)
    (λ e. record { config = refl; stage = λ k. refl })
    (λ e. record { config = p.config; stage = p.stage })

firm_place_all : (copies : List (ℕ × Message)) (w : Work) → IsFirm w (enqueue_all copies w)
firm_place_all [] w = firm_same w
firm_place_all (c ∷ cs) w = firm_then w (enqueue c.0 c.1 w) (enqueue_all cs (enqueue c.0 c.1 w)) (firm_place c.0 c.1 w) (firm_place_all cs (enqueue c.0 c.1 w))

firm_share : (act : Act) (m : Message) (w : Work) → IsFirm w (deliver act m w)
unfolding deliver
firm_share act m w =
    let p = firm_place_all (copies_of m w.hub) _ in
    record { config = p.config; stage = p.stage }

firm_remove : (key : ℕ) (w : Work) → IsFirm w (remove key w)
unfolding remove
firm_remove key w = record { config = refl; stage = λ k. refl }

firm_remove_if : (b : Bool) (key : ℕ) (w : Work) → IsFirm w (remove_if b key w)
firm_remove_if true key w = firm_remove key w
firm_remove_if false key w = firm_same w

firm_last_will : (key : ℕ) (will : Option Will) (fits : Bool) (w : Work) → IsFirm w (last_will key will fits w)
unfolding last_will
firm_last_will key None fits w = firm_same w
firm_last_will key (Some will) fits w =
    let m = will_message will in
    cond_both (fits && have_room (copies_of m w.hub) w.hub) (deliver (acts.Will key m) m w) (said (acts.WillDropped key) w) (λ (v : Work). IsFirm w v)
    (λ e. firm_share (acts.Will key m) m w)
    (λ e. record { config = refl; stage = λ k. refl })

firm_leaves : (why : HubClose) (fits : Bool) (s : ConnectionState) (w : Work) → IsFirm w (leaves_behind why fits s w)
unfolding leaves_behind
firm_leaves why fits AwaitingConnect w = firm_same w
firm_leaves why fits (ConnectedAs key terms last_activity) w =
    let v : Work = with_sessions (with_end key (over (end_of key w.hub.sessions))) w in
    let p = firm_remove_if terms.clean_session key v in
    let q = firm_last_will key (will_after why terms.will) fits (remove_if terms.clean_session key v) in
    record { config = q.config ∙ p.config; stage = λ k. q.stage k ∙ p.stage k }
firm_leaves why fits Closed w = firm_same w

-- ---- a connection that is closed

abbrev shuts : HubConnection → HubConnection
shuts x = record x { stage = Closed; held = [] }

shut_there : (k : Conn) (xs : List HubConnection) → stage_of k (with_connection shuts k xs) ≡ Closed
shut_there k [] = refl
shut_there k (x ∷ xs) = go (is_connection k x) refl (shut_there k xs)
  where
    go : (b : Bool) → is_connection k x ≡ b → stage_of k (with_connection shuts k xs) ≡ Closed → stage_of k (with_connection shuts k (x ∷ xs)) ≡ Closed
    go true same rest =
        ap (λ (y : HubConnection). stage_of k (y ∷ with_connection shuts k xs)) (cond-true (is_connection k x) (shuts x) x same)
        ∙ cond-true (is_connection k x) Closed (stage_of k (with_connection shuts k xs)) same
    go false other rest =
        ap (λ (y : HubConnection). stage_of k (y ∷ with_connection shuts k xs)) (cond-false (is_connection k x) (shuts x) x other)
        ∙ cond-false (is_connection k x) x.stage (stage_of k (with_connection shuts k xs)) other ∙ rest

pub closed_is_shut : (k : Conn) (why : HubClose) (fits : Bool) (w : Work) → stage_of k (close k why fits w).hub.connections ≡ Closed
unfolding close shut_down
closed_is_shut k why fits w = (firm_leaves why fits (stage_of k w.hub.connections) (said (acts.Closed k why) (shut k w))).stage k ∙ shut_there k w.hub.connections

pub config_close : (k : Conn) (why : HubClose) (fits : Bool) (w : Work) → (close k why fits w).hub.config ≡ w.hub.config
unfolding close shut_down
config_close k why fits w = (firm_leaves why fits (stage_of k w.hub.connections) (said (acts.Closed k why) (shut k w))).config

-- ---- the configuration

config_subscribed : (key : ℕ) (rs : List Request) (w : Work) → (subscribed key rs w).hub.config ≡ w.hub.config
config_subscribed key [] w = refl
config_subscribed key (r ∷ rs) w = config_subscribed key rs _

config_unsubscribed : (key : ℕ) (fs : List (List ℕ)) (w : Work) → (unsubscribed key fs w).hub.config ≡ w.hub.config
config_unsubscribed key [] w = refl
config_unsubscribed key (f ∷ fs) w = config_unsubscribed key fs _

config_answers : (k : Conn) (key : ℕ) (told : Happening) (w : Work) → (answers k key told w).hub.config ≡ w.hub.config
unfolding answers
config_answers k key (happens.Up present) w = refl
config_answers k key (happens.Handed m) w = (firm_share (acts.Took key m) m w).config
config_answers k key (happens.Subscribe i requests) w =
    (firm_place_all (retained_copies key requests w.hub.retained) (does key (subacks i (granted requests)) (subscribed key requests w))).config
    ∙ (firm_does key (subacks i (granted requests)) (subscribed key requests w)).config ∙ config_subscribed key requests w
config_answers k key (happens.Unsubscribe i filters) w =
    (firm_does key (unsubacks i) (unsubscribed key filters w)).config ∙ config_unsubscribed key filters w
config_answers k key (happens.SubAck i codes) w = refl
config_answers k key (happens.UnsubAck i) w = refl
config_answers k key happens.Pong w = refl

config_answers_all : (k : Conn) (key : ℕ) (told : List Happening) (w : Work) → (answers_all k key told w).hub.config ≡ w.hub.config
config_answers_all k key [] w = refl
config_answers_all k key (h ∷ hs) w = config_answers_all k key hs (answers k key h w) ∙ config_answers k key h w

config_replies : (k : Conn) (key : ℕ) (move : End → Reply) (reason : Option CloseReason) (fits : Bool) (w : Work)
    → (replies k key move reason fits w).hub.config ≡ w.hub.config
unfolding replies
config_replies k key move (Some reason) fits w =
    let v : Work = put_on k (move (end_of key w.hub.sessions)).out w in
    config_close k (Own reason) fits v ∙ (firm_put_on k (move (end_of key w.hub.sessions)).out w).config
config_replies k key move None fits w =
    let told = (move (end_of key w.hub.sessions)).happenings in
    cond_both (have_room (due key w.hub told) w.hub) (answers_all k key told (does key move w)) (close k TargetFull fits w)
    (λ (v : Work). v.hub.config ≡ w.hub.config)
    (λ e. config_answers_all k key told (does key move w) ∙ (firm_does key move w).config)
    (λ e. config_close k TargetFull fits w)

config_greet : (k : Conn) (c : Connect) (key : ℕ) (w : Work) → (resume_session k c key w).hub.config ≡ w.hub.config
unfolding resume_session
config_greet k c key w =
    let v : Work = staged k (ConnectedAs key (terms_of c) w.hub.clock) w in
    config_answers_all k key (greeting c (end_of key w.hub.sessions)).happenings (does key (greeting c) v) ∙ (firm_does key (greeting c) v).config

config_new_session : (client : List ℕ) (w : Work) → (new_session client w).hub.config ≡ w.hub.config
unfolding new_session
config_new_session client w = refl

config_greet_new : (k : Conn) (c : Connect) (client : List ℕ) (w : Work) → (start_session k c client w).hub.config ≡ w.hub.config
config_greet_new k c client w = config_greet k c w.hub.next_key (new_session client w) ∙ config_new_session client w

config_goes_on : (k : Conn) (c : Connect) (client : List ℕ) (key : ℕ) (ends : Bool) (w : Work) → (goes_on k c client key ends w).hub.config ≡ w.hub.config
unfolding goes_on
config_goes_on k c client key true w = config_greet_new k c client w
config_goes_on k c client key false w =
    cond_both c.clean_session (start_session k c client (remove key w)) (resume_session k c key w) (λ (v : Work). v.hub.config ≡ w.hub.config)
    (λ e. config_greet_new k c client (remove key w) ∙ (firm_remove key w).config)
    (λ e. config_greet k c key w)

config_take_over : (o : Option Conn) (fits : Bool) (w : Work) → (take_over o fits w).hub.config ≡ w.hub.config
config_take_over None fits w = refl
config_take_over (Some k) fits w = config_close k TakenOver fits w

config_admit : (k : Conn) (c : Connect) (client : List ℕ) (o : Option ℕ) (fits : Bool) (w : Work) → (accept_connect k c client o fits w).hub.config ≡ w.hub.config
config_admit k c client None fits w = config_greet_new k c client w
config_admit k c client (Some key) fits w =
    config_goes_on k c client key (ends_with key w.hub) (take_over (up_on key w.hub.connections) fits w) ∙ config_take_over (up_on key w.hub.connections) fits w

config_welcomes : (k : Conn) (c : Connect) (o : Option RefusalCode) (fits : Bool) (w : Work) → (on_connect k c o fits w).hub.config ≡ w.hub.config
unfolding on_connect
config_welcomes k c (Some code) fits w = config_close k _ fits (put_on k _ w) ∙ (firm_put_on k _ w).config
config_welcomes k c None fits w = config_admit k c _ _ fits w

config_at_first : (k : Conn) (p : Packet) (fits : Bool) (w : Work) → (on_first_packet k p fits w).hub.config ≡ w.hub.config
unfolding on_first_packet
config_at_first k (packets.Connect c) fits w = config_welcomes k c (refusal c w.hub) fits w
config_at_first k (packets.ConnAck a) fits w = config_close k _ fits w
config_at_first k (packets.Publish a) fits w = config_close k _ fits w
config_at_first k (packets.PubAck a) fits w = config_close k _ fits w
config_at_first k (packets.PubRec a) fits w = config_close k _ fits w
config_at_first k (packets.PubRel a) fits w = config_close k _ fits w
config_at_first k (packets.PubComp a) fits w = config_close k _ fits w
config_at_first k (packets.Subscribe a b) fits w = config_close k _ fits w
config_at_first k (packets.SubAck a b) fits w = config_close k _ fits w
config_at_first k (packets.Unsubscribe a b) fits w = config_close k _ fits w
config_at_first k (packets.UnsubAck a) fits w = config_close k _ fits w
config_at_first k packets.PingReq fits w = config_close k _ fits w
config_at_first k packets.PingResp fits w = config_close k _ fits w
config_at_first k packets.Disconnect fits w = config_close k _ fits w

config_comes_in : (k : Conn) (p : Packet) (fits : Bool) (s : ConnectionState) (w : Work) → (dispatch_packet k p fits s w).hub.config ≡ w.hub.config
unfolding dispatch_packet
config_comes_in k p fits AwaitingConnect w = config_at_first k p fits w
config_comes_in k p fits (ConnectedAs key terms last_activity) w =
    cond_both (is_too_broad p w.hub) (close k _ fits w) (on_passed_packet k key p fits w) (λ (v : Work). v.hub.config ≡ w.hub.config)
    (λ e. config_close k _ fits w)
    (λ e. config_replies k key (server_gets p) (server_gets p (end_of key w.hub.sessions)).close fits w)
config_comes_in k p fits Closed w = refl

config_arrives : (k : Conn) (p : Packet) (g : Growth) (w : Work) → (arrives k p g w).hub.config ≡ w.hub.config
unfolding arrives
config_arrives k p g w =
    cond_both g.fits (dispatch_packet k p g.will_fits (stage_of k w.hub.connections) (touched_on k w)) (close k _ g.will_fits w) (λ (v : Work). v.hub.config ≡ w.hub.config)
    (λ e. config_comes_in k p g.will_fits (stage_of k w.hub.connections) (touched_on k w))
    (λ e. config_close k _ g.will_fits w)

config_takes : (k : Conn) (p : Packet) (g : Growth) (w : Work) → (on_packet k p g w).hub.config ≡ w.hub.config
unfolding on_packet
config_takes k p g w = config_arrives k p g w

-- ---- what a part of a step says of it

abbrev so_far : HubState → List Act → Work
so_far h did = record { hub = h; did = did; sent = []; came = [] }

pub goes_shut : (k : Conn) (why : HubClose) (fits : Bool) (old new : HubState) (said says : List Act) → Refines (close k why fits) old said new says
    → stage_of k new.connections ≡ Closed
goes_shut k why fits old new said says goes =
    ap (λ (h : HubState). stage_of k h.connections) (sym (goes.hub (so_far old said) refl refl)) ∙ closed_is_shut k why fits (so_far old said)

pub goes_config : (k : Conn) (p : Packet) (g : Growth) (old new : HubState) (said says : List Act) → Refines (on_packet k p g) old said new says
    → new.config ≡ old.config
goes_config k p g old new said says goes =
    ap (λ (h : HubState). h.config) (sym (goes.hub (so_far old said) refl refl)) ∙ config_takes k p g (so_far old said)
