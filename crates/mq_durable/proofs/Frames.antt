-- A step keeps the names of connections and the clock, unless its event opens or ends a connection
-- or tells the time.
use Rattle.std.proofs.Common.{◌≡◌, ℕ, Bool, true, false, ◌&&◌, List, [], ◌∷◌, ◌++◌, max, Option, Some, None, refl, sym, ap, ap₂, ◌∙◌, map, not, true≢false, if◌then◌else◌}
use Rattle.std.proofs.lemmas.Bool.{cond_both}
use Rattle.std.proofs.lemmas.List.{map-append}
use Rattle.mq_topic.specs.Rows.{with_row, without_row}
use Rattle.mq_packet.specs.declared.connack.ConnAck.TheVariants as connacks
use Rattle.mq_packet.specs.declared.connack.RefusalCode.{RefusalCode}
use Rattle.mq_packet.specs.declared.connect.Connect.{Connect}
use Rattle.mq_packet.specs.declared.connect.Will.{Will}
use Rattle.mq_packet.specs.declared.message.Message.{Message}
use Rattle.mq_packet.specs.declared.packet.Packet.{Packet}
use Rattle.mq_packet.specs.declared.packet.Packet.TheVariants as packets
use Rattle.mq_packet.specs.declared.packet.Request.{Request}
use Rattle.mq_packet.specs.Encoding.{encodings}
use Rattle.mq_decode.specs.declared.fault.DecodeFault.{DecodeFault}
use Rattle.mq_decode.specs.Limits.{Bounds}
use Rattle.mq_end.specs.declared.happening.Happening.{Happening}
use Rattle.mq_end.specs.declared.happening.Happening.TheVariants as happens
use Rattle.mq_end.specs.declared.reason.CloseReason.{CloseReason}
use Rattle.mq_end.specs.declared.reason.CloseReason.TheVariants as reasons
use Rattle.mq_end.specs.End.{End, Reply, over}
use Rattle.mq_end.specs.Server.{server_gets, subacks, unsubacks}
use Rattle.mq_route.specs.declared.act.Act.{Act}
use Rattle.mq_route.specs.declared.act.Act.TheVariants as acts
use Rattle.mq_route.specs.declared.conn.Conn.{Conn}
use Rattle.mq_route.specs.declared.close.HubClose.{HubClose}
use Rattle.mq_route.specs.declared.close.HubClose.TheVariants.{Own, TargetFull, TooManyMatches, TakenOver, PeerEnded}
use Rattle.mq_route.specs.declared.event.HubEvent.{HubEvent}
use Rattle.mq_route.specs.declared.event.HubEvent.TheVariants.{Opened, Bytes, Ended, Tick, Collect}
use Rattle.mq_route.specs.declared.reply.HubReply.{HubReply}
use Rattle.mq_route.specs.declared.connection_state.ConnectionState.{ConnectionState}
use Rattle.mq_route.specs.declared.connection_state.ConnectionState.TheVariants.{AwaitingConnect, ConnectedAs, Closed}
use Rattle.mq_route.specs.Copies.{will_message, kept}
use Rattle.mq_route.specs.Hub.{HubState, HubConnection, is_connection, with_connection, without_connection, stage_of, is_open, held_on, up_on, key_of, end_of, with_end, copies_of}
use Rattle.mq_route.specs.Welcome.{client_of, ends_with, refusal}
use Rattle.mq_route.specs.Work.{Work, begin, said, with_connections, with_sessions, staged, shut, put_on, put_where, does, publishes_next, enqueue, enqueue_all, have_room, is_missed, deliver, remove, last_will, will_after, remove_if, leaves_behind, shut_down, close, subscribed, unsubscribed, retained_copies}
use Rattle.mq_route.specs.Arrives.{Growth, granted, due, answers, answers_all, replies, greeting, terms_of, resume_session, new_session, start_session, take_over, goes_on, accept_connect, on_connect, on_first_packet, is_too_broad, on_passed_packet, dispatch_packet, touched, touched_on, arrives, on_packet, closes_by, broken, on_malformed}
use Rattle.mq_route.specs.Step.{holding, OnBytes, Arrives, Waits, Breaks, Starves, LetsGo, OnTick, Done, InTime, Late, Does, HubStep, close_if_open, expire, expired_keys, remove_all, with_clock}
use Rattle.mq_route.specs.Routed.{same_conn}

-- the names of the connections, and the clock
abbrev pub frame : HubState → List Conn × ℕ
frame h = (map (λ (x : HubConnection). x.conn) h.connections, h.clock)

-- a change that keeps names
named : (f : HubConnection → HubConnection) → ((x : HubConnection) → (f x).conn ≡ x.conn) → (k : Conn) (xs : List HubConnection)
    → map (λ (x : HubConnection). x.conn) (with_connection f k xs) ≡ map (λ (x : HubConnection). x.conn) xs
named f keeps k [] = refl
named f keeps k (x ∷ xs) = ap₂ (λ (n : Conn) (ns : List Conn). n ∷ ns) (go (is_connection k x)) (named f keeps k xs)
  where
    go : (b : Bool) → (if b then f x else x).conn ≡ x.conn
    go true = keeps x
    go false = refl

line_stays : (f : HubConnection → HubConnection) → ((x : HubConnection) → (f x).conn ≡ x.conn) → (k : Conn) (w : Work) → frame (with_connections (with_connection f k) w).hub ≡ frame w.hub
line_stays f keeps k w = ap (λ (ns : List Conn). (ns, w.hub.clock)) (named f keeps k w.hub.connections)

put_stays : (k : Conn) (ps : List Packet) (w : Work) → frame (put_on k ps w).hub ≡ frame w.hub
unfolding put_on
put_stays k ps w = ap (λ (ns : List Conn). (ns, w.hub.clock)) (named (λ x. record x { waiting = x.waiting ++ encodings ps }) (λ x. refl) k w.hub.connections)

where_stays : (to : Option Conn) (ps : List Packet) (w : Work) → frame (put_where to ps w).hub ≡ frame w.hub
where_stays None ps w = refl
where_stays (Some k) ps w = put_stays k ps w

does_stays : (key : ℕ) (move : End → Reply) (w : Work) → frame (does key move w).hub ≡ frame w.hub
unfolding does
does_stays key move w =
    where_stays (up_on key w.hub.connections) (move (end_of key w.hub.sessions)).out (with_sessions (with_end key (move (end_of key w.hub.sessions)).end) w)

place_stays : (key : ℕ) (m : Message) (w : Work) → frame (enqueue key m w).hub ≡ frame w.hub
unfolding enqueue
place_stays key m w =
    cond_both (is_missed key m w.hub) (said (acts.Missed key m) w) (said (acts.Placed key m) (does key (publishes_next m) w)) (λ v. frame v.hub ≡ frame w.hub)
    (λ missed. refl) (λ room. does_stays key (publishes_next m) w)

places_stay : (copies : List (ℕ × Message)) (w : Work) → frame (enqueue_all copies w).hub ≡ frame w.hub
places_stay [] w = refl
places_stay (x ∷ xs) w = places_stay xs (enqueue x.0 x.1 w) ∙ place_stays x.0 x.1 w

deliver_stays : (act : Act) (m : Message) (w : Work) → frame (deliver act m w).hub ≡ frame w.hub
unfolding deliver
deliver_stays act m w = places_stay (copies_of m w.hub) (said act (record w { hub = record w.hub { retained = kept m w.hub.retained } }))

-- ---- closes

will_stays : (key : ℕ) (will : Option Will) (fits : Bool) (w : Work) → frame (last_will key will fits w).hub ≡ frame w.hub
unfolding last_will
will_stays key None fits w = refl
will_stays key (Some will) fits w =
    cond_both (fits && have_room (copies_of (will_message will) w.hub) w.hub) (deliver (acts.Will key (will_message will)) (will_message will) w) (said (acts.WillDropped key) w)
    (λ v. frame v.hub ≡ frame w.hub) (λ e. deliver_stays (acts.Will key (will_message will)) (will_message will) w) (λ e. refl)

remove_stays : (b : Bool) (key : ℕ) (w : Work) → frame (remove_if b key w).hub ≡ frame w.hub
unfolding remove
remove_stays true key w = refl
remove_stays false key w = refl

leaves_stay : (why : HubClose) (fits : Bool) (s : ConnectionState) (w : Work) → frame (leaves_behind why fits s w).hub ≡ frame w.hub
unfolding leaves_behind
leaves_stay why fits AwaitingConnect w = refl
leaves_stay why fits (ConnectedAs key terms last_activity) w =
    let u = with_sessions (with_end key (over (end_of key w.hub.sessions))) w in
    will_stays key (will_after why terms.will) fits (remove_if terms.clean_session key u) ∙ remove_stays terms.clean_session key u
leaves_stay why fits Closed w = refl

close_stays : (k : Conn) (why : HubClose) (fits : Bool) (w : Work) → frame (close k why fits w).hub ≡ frame w.hub
unfolding close shut_down
close_stays k why fits w =
    leaves_stay why fits (stage_of k w.hub.connections) (said (acts.Closed k why) (shut k w))
    ∙ line_stays (λ x. record x { stage = Closed; held = [] }) (λ x. refl) k w

-- ---- packets

subscribed_stays : (key : ℕ) (rs : List Request) (w : Work) → frame (subscribed key rs w).hub ≡ frame w.hub
subscribed_stays key [] w = refl
subscribed_stays key (r ∷ rs) w =
    subscribed_stays key rs (said (acts.Subscribed key r.filter r.qos) (record w { hub = record w.hub { rows = with_row key r.filter r.qos w.hub.rows } }))

unsubscribed_stays : (key : ℕ) (fs : List (List ℕ)) (w : Work) → frame (unsubscribed key fs w).hub ≡ frame w.hub
unsubscribed_stays key [] w = refl
unsubscribed_stays key (f ∷ fs) w =
    unsubscribed_stays key fs (said (acts.Unsubscribed key f) (record w { hub = record w.hub { rows = without_row key f w.hub.rows } }))

answer_stays : (k : Conn) (key : ℕ) (told : Happening) (w : Work) → frame (answers k key told w).hub ≡ frame w.hub
unfolding answers
answer_stays k key (happens.Up present) w = refl
answer_stays k key (happens.Handed m) w = deliver_stays (acts.Took key m) m w
answer_stays k key (happens.Subscribe i requests) w =
    places_stay (retained_copies key requests w.hub.retained) (does key (subacks i (granted requests)) (subscribed key requests w))
    ∙ does_stays key (subacks i (granted requests)) (subscribed key requests w)
    ∙ subscribed_stays key requests w
answer_stays k key (happens.Unsubscribe i filters) w = does_stays key (unsubacks i) (unsubscribed key filters w) ∙ unsubscribed_stays key filters w
answer_stays k key (happens.SubAck i codes) w = refl
answer_stays k key (happens.UnsubAck i) w = refl
answer_stays k key happens.Pong w = refl

answers_stay : (k : Conn) (key : ℕ) (told : List Happening) (w : Work) → frame (answers_all k key told w).hub ≡ frame w.hub
answers_stay k key [] w = refl
answers_stay k key (first ∷ later) w = answers_stay k key later (answers k key first w) ∙ answer_stays k key first w

replies_stay : (k : Conn) (key : ℕ) (move : End → Reply) (c : Option CloseReason) (fits : Bool) (w : Work) → frame (replies k key move c fits w).hub ≡ frame w.hub
unfolding replies
replies_stay k key move (Some reason) fits w = close_stays k (Own reason) fits (put_on k (move (end_of key w.hub.sessions)).out w) ∙ put_stays k (move (end_of key w.hub.sessions)).out w
replies_stay k key move None fits w =
    let happenings = (move (end_of key w.hub.sessions)).happenings in
    cond_both (have_room (due key w.hub happenings) w.hub) (answers_all k key happenings (does key move w)) (close k TargetFull fits w) (λ v. frame v.hub ≡ frame w.hub)
    (λ room. answers_stay k key happenings (does key move w) ∙ does_stays key move w) (λ short. close_stays k TargetFull fits w)

resume_stays : (k : Conn) (c : Connect) (key : ℕ) (w : Work) → frame (resume_session k c key w).hub ≡ frame w.hub
unfolding resume_session
resume_stays k c key w =
    let v = staged k (ConnectedAs key (terms_of c) w.hub.clock) w in
    answers_stay k key (greeting c (end_of key w.hub.sessions)).happenings (does key (greeting c) v) ∙ does_stays key (greeting c) v
    ∙ line_stays (λ x. record x { stage = ConnectedAs key (terms_of c) w.hub.clock }) (λ x. refl) k w

start_stays : (k : Conn) (c : Connect) (client : List ℕ) (w : Work) → frame (start_session k c client w).hub ≡ frame w.hub
unfolding new_session
start_stays k c client w = resume_stays k c w.hub.next_key (new_session client w)

goes_stay : (k : Conn) (c : Connect) (client : List ℕ) (key : ℕ) (ends : Bool) (w : Work) → frame (goes_on k c client key ends w).hub ≡ frame w.hub
unfolding goes_on remove
goes_stay k c client key true w = start_stays k c client w
goes_stay k c client key false w =
    cond_both c.clean_session (start_session k c client (remove key w)) (resume_session k c key w) (λ v. frame v.hub ≡ frame w.hub) (λ clean. start_stays k c client (remove key w)) (λ keeps. resume_stays k c key w)

take_stays : (o : Option Conn) (fits : Bool) (w : Work) → frame (take_over o fits w).hub ≡ frame w.hub
take_stays None fits w = refl
take_stays (Some k) fits w = close_stays k TakenOver fits w

accept_stays : (k : Conn) (c : Connect) (client : List ℕ) (o : Option ℕ) (fits : Bool) (w : Work) → frame (accept_connect k c client o fits w).hub ≡ frame w.hub
accept_stays k c client None fits w = start_stays k c client w
accept_stays k c client (Some key) fits w =
    let o = up_on key w.hub.connections in goes_stay k c client key (ends_with key w.hub) (take_over o fits w) ∙ take_stays o fits w

connect_stays : (k : Conn) (c : Connect) (code : Option RefusalCode) (fits : Bool) (w : Work) → frame (on_connect k c code fits w).hub ≡ frame w.hub
unfolding on_connect
connect_stays k c (Some code) fits w = close_stays k (Own (reasons.Refused code)) fits (put_on k (packets.ConnAck (connacks.Refused code) ∷ []) w) ∙ put_stays k (packets.ConnAck (connacks.Refused code) ∷ []) w
connect_stays k c None fits w = let client = client_of c w.hub.sessions in accept_stays k c client (key_of client w.hub.sessions) fits w

first_stays : (k : Conn) (p : Packet) (fits : Bool) (w : Work) → frame (on_first_packet k p fits w).hub ≡ frame w.hub
unfolding on_first_packet
first_stays k (packets.Connect c) fits w = connect_stays k c (refusal c w.hub) fits w
first_stays k p fits w = close_stays k (Own reasons.Unexpected) fits w

dispatch_stays : (k : Conn) (p : Packet) (fits : Bool) (s : ConnectionState) (w : Work) → frame (dispatch_packet k p fits s w).hub ≡ frame w.hub
unfolding dispatch_packet
dispatch_stays k p fits AwaitingConnect w = first_stays k p fits w
dispatch_stays k p fits (ConnectedAs key terms last_activity) w =
    cond_both (is_too_broad p w.hub) (close k TooManyMatches fits w) (on_passed_packet k key p fits w) (λ v. frame v.hub ≡ frame w.hub)
    (λ broad. close_stays k TooManyMatches fits w) (λ narrow. replies_stay k key (server_gets p) (server_gets p (end_of key w.hub.sessions)).close fits w)
dispatch_stays k p fits Closed w = refl

arrives_stay : (k : Conn) (p : Packet) (g : Growth) (w : Work) → frame (arrives k p g w).hub ≡ frame w.hub
unfolding arrives
arrives_stay k p g w =
    let s = stage_of k w.hub.connections in
    cond_both g.fits (dispatch_packet k p g.will_fits s (touched_on k w)) (close k (Own reasons.Memory) g.will_fits w) (λ v. frame v.hub ≡ frame w.hub)
    (λ fits. dispatch_stays k p g.will_fits s (touched_on k w) ∙ line_stays (λ x. record x { stage = touched w.hub.clock x.stage }) (λ x. refl) k w) (λ starved. close_stays k (Own reasons.Memory) g.will_fits w)

takes_stay : (k : Conn) (p : Packet) (g : Growth) (w : Work) → frame (on_packet k p g w).hub ≡ frame w.hub
unfolding on_packet
takes_stay k p g w = arrives_stay k p g w

malformed_stays : (k : Conn) (fault : DecodeFault) (fits : Bool) (w : Work) → frame (on_malformed k fault fits w).hub ≡ frame w.hub
unfolding on_malformed
malformed_stays k fault fits w = go (broken k fault w).close
  where
    go : (c : Option CloseReason) → frame (closes_by k c fits (put_on k (broken k fault w).out w)).hub ≡ frame w.hub
    go None = put_stays k (broken k fault w).out w
    go (Some reason) = close_stays k (Own reason) fits (put_on k (broken k fault w).out w) ∙ put_stays k (broken k fault w).out w

-- ---- events

holding_stays : (k : Conn) (b : List ℕ) (w : Work) → frame (holding k b w).hub ≡ frame w.hub
holding_stays k b w = line_stays (λ x. record x { held = b }) (λ x. refl) k w

comes_stay : (limits : Bounds) (k : Conn) (b : List ℕ) (w w2 : Work) → OnBytes limits k b w w2 → frame w2.hub ≡ frame w.hub
comes_stay limits k b w w2 (Arrives p first rest g v v2 on reads more) = comes_stay limits k rest (on_packet k p g v) v2 more ∙ takes_stay k p g v
comes_stay limits k b w w2 (Waits c v on pending) = holding_stays k c v
comes_stay limits k b w w2 (Breaks c fault fits v on faulty) = malformed_stays k fault fits v
comes_stay limits k b w w2 (Starves c fits v on some) = close_stays k (Own reasons.Memory) fits v
comes_stay limits k b w w2 (LetsGo c v closed) = refl

ticks_stay : (within : Option ℕ) (now : ℕ) (xs : List HubConnection) (w w2 : Work) → OnTick within now xs w w2 → frame w2.hub ≡ frame w.hub
ticks_stay within now xs w w2 (Done v) = refl
ticks_stay within now xs w w2 (InTime x ys v v2 soon more) = ticks_stay within now ys v v2 more
ticks_stay within now xs w w2 (Late x ys why fits v v2 late more) = ticks_stay within now ys (close x.conn why fits v) v2 more ∙ close_stays x.conn why fits v

removals_stay : (keys : List ℕ) (w : Work) → frame (remove_all keys w).hub ≡ frame w.hub
unfolding remove
removals_stay [] w = refl
removals_stay (key ∷ keys) w = removals_stay keys (remove key w)

expire_stays : (h : HubState) → frame (expire h).hub ≡ frame h
unfolding expire
expire_stays h = removals_stay (expired_keys h) (begin h)

ended_stays : (k : Conn) (alive fits : Bool) (w : Work) → frame (close_if_open k alive fits w).hub ≡ frame w.hub
ended_stays k true fits w = close_stays k PeerEnded fits w
ended_stays k false fits w = refl

abbrev names : List HubConnection → List Conn
names xs = map (λ (x : HubConnection). x.conn) xs

without_names : (k : Conn) (xs ys : List HubConnection) → names xs ≡ names ys → names (without_connection k xs) ≡ names (without_connection k ys)
without_names k [] [] same = refl
without_names k [] (y ∷ ys) same = absurd cc
without_names k (x ∷ xs) [] same = absurd cc
without_names k (x ∷ xs) (y ∷ ys) same =
    let first : x.conn ≡ y.conn = cc in
    let rest : names xs ≡ names ys = cc in
    go (same_conn x.conn k) (same_conn y.conn k) (ap (λ (c : Conn). same_conn c k) first) first (without_names k xs ys rest)
  where
    go : (b c : Bool) → b ≡ c → x.conn ≡ y.conn → names (without_connection k xs) ≡ names (without_connection k ys)
        → names (if not b then x ∷ without_connection k xs else without_connection k xs) ≡ names (if not c then y ∷ without_connection k ys else without_connection k ys)
    go true true e first more = more
    go false false e first more = ap₂ (λ (n : Conn) (ns : List Conn). n ∷ ns) first more
    go true false e first more = absurd (true≢false e)
    go false true e first more = absurd (true≢false (sym e))

-- What an event does to the frame.
abbrev pub framed : HubEvent → HubState → List Conn × ℕ
framed (Opened k) h = (names h.connections ++ k ∷ [], h.clock)
framed (Bytes k piece) h = frame h
framed (Ended k) h = (names (without_connection k h.connections), h.clock)
framed (Tick now) h = (names h.connections, max h.clock now)
framed (Collect k) h = frame h

does_frame : (h : HubState) (e : HubEvent) (r : HubReply) (w : Work) → Does h e r w → frame w.hub ≡ framed e h
does_frame h (Opened k) r w d =
    ap (λ (v : Work). frame v.hub) d.0
    ∙ ap (λ (ns : List Conn). (ns, h.clock)) (map-append (λ (x : HubConnection). x.conn) h.connections (record { conn = k; stage = AwaitingConnect; held = []; waiting = []; since = h.clock } ∷ []))
does_frame h (Bytes k piece) r w d = comes_stay h.config.limits k (held_on k h.connections ++ piece) (holding k [] (begin h)) w d.0 ∙ holding_stays k [] (begin h)
does_frame h (Ended k) r w d =
    let v = close_if_open k (is_open (stage_of k h.connections)) d.0 (begin h) in
    let same = ended_stays k (is_open (stage_of k h.connections)) d.0 (begin h) in
    ap (λ (u : Work). frame u.hub) d.1
    ∙ ap₂ (λ (ns : List Conn) (n : ℕ). (ns, n)) (without_names k v.hub.connections h.connections (ap (λ (f : List Conn × ℕ). f.0) same)) (ap (λ (f : List Conn × ℕ). f.1) same)
does_frame h (Tick now) r w d = ticks_stay h.config.connect_within (max h.clock now) h.connections (expire (with_clock now h)) w d.0 ∙ expire_stays (with_clock now h)
does_frame h (Collect k) r w d =
    ap (λ (v : Work). frame v.hub) d.0 ∙ ap (λ (ns : List Conn). (ns, h.clock)) (named (λ x. record x { waiting = [] }) (λ x. refl) k h.connections)

pub step_frame : (h : HubState) (e : HubEvent) (r : HubReply) (g : HubState) → HubStep h e r g → frame g ≡ framed e h
step_frame h e r g step = ap frame step.after ∙ does_frame h e r step.work step.does
