-- Packets are logged when they are processed, and at no other time.
use Rattle.std.proofs.Common.{◌≡◌, ℕ, Bool, true, false, ◌&&◌, List, [], ◌∷◌, ◌++◌, max, Option, Some, None, refl, sym, ap, ◌∙◌, append_assoc, append-nil}
use Rattle.std.proofs.lemmas.Bool.{cond_both}
use Rattle.mq_packet.specs.declared.connack.ConnAck.TheVariants as connacks
use Rattle.mq_packet.specs.declared.connack.RefusalCode.{RefusalCode}
use Rattle.mq_packet.specs.declared.connect.Connect.{Connect}
use Rattle.mq_packet.specs.declared.connect.Will.{Will}
use Rattle.mq_packet.specs.declared.message.Message.{Message}
use Rattle.mq_packet.specs.declared.packet.Packet.{Packet}
use Rattle.mq_packet.specs.declared.packet.Packet.TheVariants as packets
use Rattle.mq_packet.specs.declared.packet.Request.{Request}
use Rattle.mq_decode.specs.declared.fault.DecodeFault.{DecodeFault}
use Rattle.mq_decode.specs.Limits.{Bounds}
use Rattle.mq_end.specs.declared.happening.Happening.{Happening}
use Rattle.mq_end.specs.declared.happening.Happening.TheVariants as happens
use Rattle.mq_end.specs.declared.reason.CloseReason.{CloseReason}
use Rattle.mq_end.specs.declared.reason.CloseReason.TheVariants as reasons
use Rattle.mq_end.specs.End.{End, Reply, over}
use Rattle.mq_end.specs.Server.{server_gets, subacks, unsubacks}
use Rattle.mq_route.specs.declared.act.Act.{Act}
use Rattle.mq_route.specs.declared.act.Act.TheVariants as acts
use Rattle.mq_route.specs.declared.conn.Conn.{Conn}
use Rattle.mq_route.specs.declared.close.HubClose.{HubClose}
use Rattle.mq_route.specs.declared.close.HubClose.TheVariants.{Own, TargetFull, TakenOver, PeerEnded, TooManyMatches}
use Rattle.mq_route.specs.declared.event.HubEvent.{HubEvent}
use Rattle.mq_route.specs.declared.event.HubEvent.TheVariants.{Opened, Bytes, Ended, Tick, Collect}
use Rattle.mq_route.specs.declared.reply.HubReply.{HubReply}
use Rattle.mq_route.specs.declared.connection_state.ConnectionState.{ConnectionState}
use Rattle.mq_route.specs.declared.connection_state.ConnectionState.TheVariants.{AwaitingConnect, ConnectedAs, Closed}
use Rattle.mq_route.specs.Copies.{will_message, kept}
use Rattle.mq_route.specs.Hub.{HubState, HubConnection, stage_of, is_open, key_on, held_on, up_on, key_of, end_of, with_end, copies_of}
use Rattle.mq_route.specs.Welcome.{client_of, ends_with, refusal}
use Rattle.mq_route.specs.Work.{Work, begin, said, with_sessions, staged, shut, put_on, put_where, does, publishes_next, is_missed, enqueue, enqueue_all, have_room, deliver, remove, last_will, will_after, remove_if, leaves_behind, shut_down, close, subscribed, unsubscribed, retained_copies}
use Rattle.mq_route.specs.Arrives.{Growth, granted, due, answers, answers_all, replies, greeting, terms_of, resume_session, new_session, start_session, take_over, goes_on, accept_connect, on_connect, on_first_packet, on_passed_packet, is_too_broad, dispatch_packet, touched_on, arrives, noted, on_packet, closes_by, broken, on_malformed}
use Rattle.mq_route.specs.Step.{holding, OnBytes, Arrives, Waits, Breaks, Starves, LetsGo, OnTick, Done, InTime, Late, Does, close_if_open, expired_keys, remove_all, expire, with_clock}
use Rattle.mq_route.specs.Reading.{logged_in, logged_by}

put_logs : (to : Option Conn) (ps : List Packet) (w : Work) → (put_where to ps w).came ≡ w.came
unfolding put_on
put_logs None ps w = refl
put_logs (Some k) ps w = refl

does_logs : (key : ℕ) (move : End → Reply) (w : Work) → (does key move w).came ≡ w.came
unfolding does
does_logs key move w =
    put_logs (up_on key w.hub.connections) (move (end_of key w.hub.sessions)).out (with_sessions (with_end key (move (end_of key w.hub.sessions)).end) w)

place_logs : (key : ℕ) (m : Message) (w : Work) → (enqueue key m w).came ≡ w.came
unfolding enqueue
place_logs key m w =
    cond_both (is_missed key m w.hub) (said (acts.Missed key m) w) (said (acts.Placed key m) (does key (publishes_next m) w)) (λ v. v.came ≡ w.came) (λ is. refl) (λ is. does_logs key (publishes_next m) w)

places_log : (copies : List (ℕ × Message)) (w : Work) → (enqueue_all copies w).came ≡ w.came
places_log [] w = refl
places_log (x ∷ xs) w = places_log xs (enqueue x.0 x.1 w) ∙ place_logs x.0 x.1 w

deliver_logs : (act : Act) (m : Message) (w : Work) → (deliver act m w).came ≡ w.came
unfolding deliver
deliver_logs act m w = places_log (copies_of m w.hub) (said act (record w { hub = record w.hub { retained = kept m w.hub.retained } }))

-- ---- closes

will_logs : (key : ℕ) (will : Option Will) (fits : Bool) (w : Work) → (last_will key will fits w).came ≡ w.came
unfolding last_will
will_logs key None fits w = refl
will_logs key (Some will) fits w =
    cond_both (fits && have_room (copies_of (will_message will) w.hub) w.hub) (deliver (acts.Will key (will_message will)) (will_message will) w) (said (acts.WillDropped key) w)
    (λ v. v.came ≡ w.came) (λ e. deliver_logs (acts.Will key (will_message will)) (will_message will) w) (λ e. refl)

remove_logs : (b : Bool) (key : ℕ) (w : Work) → (remove_if b key w).came ≡ w.came
unfolding remove
remove_logs true key w = refl
remove_logs false key w = refl

leaves_log : (why : HubClose) (fits : Bool) (s : ConnectionState) (w : Work) → (leaves_behind why fits s w).came ≡ w.came
unfolding leaves_behind
leaves_log why fits AwaitingConnect w = refl
leaves_log why fits (ConnectedAs key terms last_activity) w =
    let u = with_sessions (with_end key (over (end_of key w.hub.sessions))) w in
    will_logs key (will_after why terms.will) fits (remove_if terms.clean_session key u) ∙ remove_logs terms.clean_session key u
leaves_log why fits Closed w = refl

close_logs : (k : Conn) (why : HubClose) (fits : Bool) (w : Work) → (close k why fits w).came ≡ w.came
unfolding close shut_down
close_logs k why fits w = leaves_log why fits (stage_of k w.hub.connections) (said (acts.Closed k why) (shut k w))

-- ---- packets

subscribed_logs : (key : ℕ) (rs : List Request) (w : Work) → (subscribed key rs w).came ≡ w.came
subscribed_logs key [] w = refl
subscribed_logs key (r ∷ rs) w = subscribed_logs key rs _

unsubscribed_logs : (key : ℕ) (fs : List (List ℕ)) (w : Work) → (unsubscribed key fs w).came ≡ w.came
unsubscribed_logs key [] w = refl
unsubscribed_logs key (f ∷ fs) w = unsubscribed_logs key fs _

answer_logs : (k : Conn) (key : ℕ) (told : Happening) (w : Work) → (answers k key told w).came ≡ w.came
unfolding answers
answer_logs k key (happens.Up present) w = refl
answer_logs k key (happens.Handed m) w = deliver_logs (acts.Took key m) m w
answer_logs k key (happens.Subscribe i requests) w =
    places_log (retained_copies key requests w.hub.retained) (does key (subacks i (granted requests)) (subscribed key requests w))
    ∙ does_logs key (subacks i (granted requests)) (subscribed key requests w)
    ∙ subscribed_logs key requests w
answer_logs k key (happens.Unsubscribe i filters) w = does_logs key (unsubacks i) (unsubscribed key filters w) ∙ unsubscribed_logs key filters w
answer_logs k key (happens.SubAck i codes) w = refl
answer_logs k key (happens.UnsubAck i) w = refl
answer_logs k key happens.Pong w = refl

answers_log : (k : Conn) (key : ℕ) (told : List Happening) (w : Work) → (answers_all k key told w).came ≡ w.came
answers_log k key [] w = refl
answers_log k key (first ∷ later) w = answers_log k key later (answers k key first w) ∙ answer_logs k key first w

replies_log : (k : Conn) (key : ℕ) (move : End → Reply) (c : Option CloseReason) (fits : Bool) (w : Work) → (replies k key move c fits w).came ≡ w.came
unfolding replies put_on
replies_log k key move (Some reason) fits w = close_logs k (Own reason) fits (put_on k (move (end_of key w.hub.sessions)).out w)
replies_log k key move None fits w =
    let happenings = (move (end_of key w.hub.sessions)).happenings in
    cond_both (have_room (due key w.hub happenings) w.hub) (answers_all k key happenings (does key move w)) (close k TargetFull fits w) (λ v. v.came ≡ w.came)
    (λ room. answers_log k key happenings (does key move w) ∙ does_logs key move w) (λ short. close_logs k TargetFull fits w)

resume_logs : (k : Conn) (c : Connect) (key : ℕ) (w : Work) → (resume_session k c key w).came ≡ w.came
unfolding resume_session
resume_logs k c key w =
    let v = staged k (ConnectedAs key (terms_of c) w.hub.clock) w in
    answers_log k key (greeting c (end_of key w.hub.sessions)).happenings (does key (greeting c) v) ∙ does_logs key (greeting c) v

start_logs : (k : Conn) (c : Connect) (client : List ℕ) (w : Work) → (start_session k c client w).came ≡ w.came
unfolding new_session
start_logs k c client w = resume_logs k c w.hub.next_key (new_session client w)

goes_log : (k : Conn) (c : Connect) (client : List ℕ) (key : ℕ) (ends : Bool) (w : Work) → (goes_on k c client key ends w).came ≡ w.came
unfolding goes_on remove
goes_log k c client key true w = start_logs k c client w
goes_log k c client key false w =
    cond_both c.clean_session (start_session k c client (remove key w)) (resume_session k c key w) (λ v. v.came ≡ w.came) (λ clean. start_logs k c client (remove key w)) (λ keeps. resume_logs k c key w)

take_logs : (o : Option Conn) (fits : Bool) (w : Work) → (take_over o fits w).came ≡ w.came
take_logs None fits w = refl
take_logs (Some k) fits w = close_logs k TakenOver fits w

accept_logs : (k : Conn) (c : Connect) (client : List ℕ) (o : Option ℕ) (fits : Bool) (w : Work) → (accept_connect k c client o fits w).came ≡ w.came
accept_logs k c client None fits w = start_logs k c client w
accept_logs k c client (Some key) fits w =
    let o = up_on key w.hub.connections in goes_log k c client key (ends_with key w.hub) (take_over o fits w) ∙ take_logs o fits w

connect_logs : (k : Conn) (c : Connect) (code : Option RefusalCode) (fits : Bool) (w : Work) → (on_connect k c code fits w).came ≡ w.came
unfolding on_connect put_on
connect_logs k c (Some code) fits w = close_logs k (Own (reasons.Refused code)) fits (put_on k (packets.ConnAck (connacks.Refused code) ∷ []) w)
connect_logs k c None fits w = let client = client_of c w.hub.sessions in accept_logs k c client (key_of client w.hub.sessions) fits w

first_logs : (k : Conn) (p : Packet) (fits : Bool) (w : Work) → (on_first_packet k p fits w).came ≡ w.came
unfolding on_first_packet
first_logs k (packets.Connect c) fits w = connect_logs k c (refusal c w.hub) fits w
first_logs k p fits w = close_logs k (Own reasons.Unexpected) fits w

dispatch_logs : (k : Conn) (p : Packet) (fits : Bool) (s : ConnectionState) (w : Work) → (dispatch_packet k p fits s w).came ≡ w.came
unfolding dispatch_packet
dispatch_logs k p fits AwaitingConnect w = first_logs k p fits w
dispatch_logs k p fits (ConnectedAs key terms last_activity) w =
    cond_both (is_too_broad p w.hub) (close k TooManyMatches fits w) (on_passed_packet k key p fits w) (λ v. v.came ≡ w.came)
    (λ broad. close_logs k TooManyMatches fits w) (λ narrow. replies_log k key (server_gets p) (server_gets p (end_of key w.hub.sessions)).close fits w)
dispatch_logs k p fits Closed w = refl

arrives_log : (k : Conn) (p : Packet) (g : Growth) (w : Work) → (arrives k p g w).came ≡ w.came
unfolding arrives
arrives_log k p g w =
    let s = stage_of k w.hub.connections in
    cond_both g.fits (dispatch_packet k p g.will_fits s (touched_on k w)) (close k (Own reasons.Memory) g.will_fits w) (λ v. v.came ≡ w.came)
    (λ fits. dispatch_logs k p g.will_fits s (touched_on k w)) (λ starved. close_logs k (Own reasons.Memory) g.will_fits w)

takes_log : (k : Conn) (p : Packet) (g : Growth) (w : Work)
    → (on_packet k p g w).came ≡ w.came ++ noted (key_on (stage_of k w.hub.connections)) (is_open (stage_of k (on_packet k p g w).hub.connections)) p
unfolding on_packet
takes_log k p g w =
    let n = noted (key_on (stage_of k w.hub.connections)) (is_open (stage_of k (arrives k p g w).hub.connections)) p in
    ap (λ (l : List (ℕ × Packet)). l ++ n) (arrives_log k p g w)

malformed_logs : (k : Conn) (fault : DecodeFault) (fits : Bool) (w : Work) → (on_malformed k fault fits w).came ≡ w.came
unfolding on_malformed put_on
malformed_logs k fault fits w = go (broken k fault w).close
  where
    go : (c : Option CloseReason) → (closes_by k c fits (put_on k (broken k fault w).out w)).came ≡ w.came
    go None = refl
    go (Some reason) = close_logs k (Own reason) fits (put_on k (broken k fault w).out w)

-- ---- events

comes_log : (limits : Bounds) (k : Conn) (b : List ℕ) (w w2 : Work) (c : OnBytes limits k b w w2) → w2.came ≡ w.came ++ logged_in limits k b w w2 c
comes_log limits k b w w2 (Arrives p first rest g v v2 on reads more) =
    let n = noted (key_on (stage_of k v.hub.connections)) (is_open (stage_of k (on_packet k p g v).hub.connections)) p in
    let later = logged_in limits k rest (on_packet k p g v) v2 more in
    comes_log limits k rest (on_packet k p g v) v2 more ∙ ap (λ (l : List (ℕ × Packet)). l ++ later) (takes_log k p g v) ∙ append_assoc v.came n later
comes_log limits k b w w2 (Waits c v on pending) = sym (append-nil v.came)
comes_log limits k b w w2 (Breaks c fault fits v on faulty) = malformed_logs k fault fits v ∙ sym (append-nil v.came)
comes_log limits k b w w2 (Starves c fits v on some) = close_logs k (Own reasons.Memory) fits v ∙ sym (append-nil v.came)
comes_log limits k b w w2 (LetsGo c v closed) = sym (append-nil v.came)

ticks_log : (within : Option ℕ) (now : ℕ) (xs : List HubConnection) (w w2 : Work) → OnTick within now xs w w2 → w2.came ≡ w.came
ticks_log within now xs w w2 (Done v) = refl
ticks_log within now xs w w2 (InTime x ys v v2 soon more) = ticks_log within now ys v v2 more
ticks_log within now xs w w2 (Late x ys why fits v v2 late more) = ticks_log within now ys (close x.conn why fits v) v2 more ∙ close_logs x.conn why fits v

remove_all_logs : (keys : List ℕ) (w : Work) → (remove_all keys w).came ≡ w.came
remove_all_logs [] w = refl
remove_all_logs (key ∷ keys) w = remove_all_logs keys (remove key w) ∙ remove_logs true key w

expire_logs : (h : HubState) → (expire h).came ≡ []
unfolding expire
expire_logs h = remove_all_logs (expired_keys h) (begin h)

ended_logs : (k : Conn) (alive fits : Bool) (w : Work) → (close_if_open k alive fits w).came ≡ w.came
ended_logs k true fits w = close_logs k PeerEnded fits w
ended_logs k false fits w = refl

pub logs_event : (h : HubState) (e : HubEvent) (r : HubReply) (w : Work) (d : Does h e r w) → w.came ≡ logged_by h e r w d
logs_event h (Opened k) r w d = ap (λ (w : Work). w.came) d.0
logs_event h (Bytes k piece) r w d = comes_log h.config.limits k (held_on k h.connections ++ piece) (holding k [] (begin h)) w d.0
logs_event h (Ended k) r w d = ap (λ (w : Work). w.came) d.1 ∙ ended_logs k (is_open (stage_of k h.connections)) d.0 (begin h)
logs_event h (Tick now) r w d = ticks_log h.config.connect_within (max h.clock now) h.connections (expire (with_clock now h)) w d.0 ∙ expire_logs (with_clock now h)
logs_event h (Collect k) r w d = ap (λ (w : Work). w.came) d.0
