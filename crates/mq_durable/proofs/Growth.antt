-- A step only adds acts. So if none of its acts reports a failed allocation, none did before.
use Rattle.std.proofs.Common.{◌≡◌, ℕ, Bool, true, false, ◌&&◌, ◌||◌, List, [], ◌∷◌, ◌++◌, Option, Some, None, refl, sym, ap, ◌∙◌, subst, append_assoc, true≢false}
use Rattle.std.proofs.lemmas.Bool.{cond_both}
use Rattle.std.proofs.lemmas.List.{append-nil}
use Rattle.std.specs.List.{list_any}
use Rattle.mq_packet.specs.declared.connack.ConnAck.TheVariants as connacks
use Rattle.mq_packet.specs.declared.connack.RefusalCode.{RefusalCode}
use Rattle.mq_packet.specs.declared.connect.Connect.{Connect}
use Rattle.mq_packet.specs.declared.connect.Will.{Will}
use Rattle.mq_packet.specs.declared.message.Message.{Message}
use Rattle.mq_packet.specs.declared.packet.Packet.{Packet}
use Rattle.mq_packet.specs.declared.packet.Packet.TheVariants as packets
use Rattle.mq_packet.specs.declared.packet.Request.{Request}
use Rattle.mq_decode.specs.declared.fault.DecodeFault.{DecodeFault}
use Rattle.mq_decode.specs.Limits.{Bounds}
use Rattle.mq_end.specs.declared.happening.Happening.{Happening}
use Rattle.mq_end.specs.declared.happening.Happening.TheVariants as happens
use Rattle.mq_end.specs.declared.reason.CloseReason.{CloseReason}
use Rattle.mq_end.specs.declared.reason.CloseReason.TheVariants as reasons
use Rattle.mq_end.specs.End.{End, Reply, over}
use Rattle.mq_end.specs.Server.{server_gets, subacks, unsubacks}
use Rattle.mq_route.specs.declared.act.Act.{Act}
use Rattle.mq_route.specs.declared.act.Act.TheVariants as acts
use Rattle.mq_route.specs.declared.conn.Conn.{Conn}
use Rattle.mq_route.specs.declared.close.HubClose.{HubClose}
use Rattle.mq_route.specs.declared.close.HubClose.TheVariants.{Own, TargetFull, TooManyMatches, TakenOver}
use Rattle.mq_route.specs.declared.connection_state.ConnectionState.{ConnectionState}
use Rattle.mq_route.specs.declared.connection_state.ConnectionState.TheVariants.{AwaitingConnect, ConnectedAs, Closed}
use Rattle.mq_route.specs.Copies.{will_message, kept}
use Rattle.mq_route.specs.Hub.{HubConnection, stage_of, up_on, key_of, end_of, with_end, copies_of}
use Rattle.mq_route.specs.Welcome.{client_of, ends_with, refusal}
use Rattle.mq_route.specs.Work.{Work, said, with_sessions, staged, shut, put_on, put_where, does, publishes_next, is_missed, enqueue, enqueue_all, have_room, deliver, remove, last_will, will_after, remove_if, leaves_behind, shut_down, close, subscribed, unsubscribed, retained_copies}
use Rattle.mq_route.specs.Arrives.{Growth, granted, due, answers, answers_all, replies, greeting, terms_of, resume_session, new_session, start_session, take_over, goes_on, accept_connect, on_connect, on_first_packet, is_too_broad, on_passed_packet, dispatch_packet, touched_on, arrives, on_packet, closes_by, broken, on_malformed}
use Rattle.mq_route.specs.Step.{holding, OnBytes, Arrives, Waits, Breaks, Starves, LetsGo, OnTick, Done, InTime, Late}
use Rattle.mq_durable.specs.Memory.{lacks_memory}

-- the second has the acts of the first, and then more
abbrev pub Grows : Work → Work → Type 0
Grows w v = (more : List Act) × (v.did ≡ w.did ++ more)

still : (w v : Work) → v.did ≡ w.did → Grows w v
still w v same = ([], same ∙ sym (append-nil w.did))

chain : (u v w : Work) → Grows u v → Grows v w → Grows u w
chain u v w first more = (first.0 ++ more.0, more.1 ∙ ap (λ (l : List Act). l ++ more.0) first.1 ∙ append_assoc u.did first.0 more.0)

one : (a : Act) (w : Work) → Grows w (said a w)
one a w = (a ∷ [], refl)

put_grows : (k : Conn) (ps : List Packet) (w : Work) → Grows w (put_on k ps w)
unfolding put_on
put_grows k ps w = still w (put_on k ps w) refl

where_grows : (to : Option Conn) (ps : List Packet) (w : Work) → Grows w (put_where to ps w)
where_grows None ps w = still w w refl
where_grows (Some k) ps w = put_grows k ps w

does_grows : (key : ℕ) (move : End → Reply) (w : Work) → Grows w (does key move w)
unfolding does
does_grows key move w =
    let v : Work = with_sessions (with_end key (move (end_of key w.hub.sessions)).end) w in
    where_grows (up_on key w.hub.connections) (move (end_of key w.hub.sessions)).out v

place_grows : (key : ℕ) (m : Message) (w : Work) → Grows w (enqueue key m w)
unfolding enqueue
place_grows key m w =
    let v : Work = does key (publishes_next m) w in
    cond_both (is_missed key m w.hub) (said (acts.Missed key m) w) (said (acts.Placed key m) v) (Grows w)
    (λ missed. one (acts.Missed key m) w)
    (λ room. chain w v (said (acts.Placed key m) v) (does_grows key (publishes_next m) w) (one (acts.Placed key m) v))

places_grow : (copies : List (ℕ × Message)) (w : Work) → Grows w (enqueue_all copies w)
places_grow [] w = still w w refl
places_grow (x ∷ xs) w =
    let v : Work = enqueue x.0 x.1 w in
    chain w v (enqueue_all xs v) (place_grows x.0 x.1 w) (places_grow xs v)

deliver_grows : (a : Act) (m : Message) (w : Work) → Grows w (deliver a m w)
unfolding deliver
deliver_grows a m w =
    let v : Work = said a (record w { hub = record w.hub { retained = kept m w.hub.retained } }) in
    chain w v (enqueue_all (copies_of m w.hub) v) (a ∷ [], refl) (places_grow (copies_of m w.hub) v)

-- ---- closes

will_grows : (key : ℕ) (will : Option Will) (fits : Bool) (w : Work) → Grows w (last_will key will fits w)
unfolding last_will
will_grows key None fits w = still w w refl
will_grows key (Some will) fits w =
    let m : Message = will_message will in
    cond_both (fits && have_room (copies_of m w.hub) w.hub) (deliver (acts.Will key m) m w) (said (acts.WillDropped key) w) (Grows w)
    (λ e. deliver_grows (acts.Will key m) m w)
    (λ e. one (acts.WillDropped key) w)

remove_grows : (b : Bool) (key : ℕ) (w : Work) → Grows w (remove_if b key w)
unfolding remove
remove_grows true key w = (acts.Removed key ∷ [], refl)
remove_grows false key w = still w w refl

leaves_grow : (why : HubClose) (fits : Bool) (s : ConnectionState) (w : Work) → Grows w (leaves_behind why fits s w)
unfolding leaves_behind
leaves_grow why fits AwaitingConnect w = still w w refl
leaves_grow why fits (ConnectedAs key terms last_activity) w =
    let u : Work = with_sessions (with_end key (over (end_of key w.hub.sessions))) w in
    let v : Work = remove_if terms.clean_session key u in
    chain w v (last_will key (will_after why terms.will) fits v) (remove_grows terms.clean_session key u) (will_grows key (will_after why terms.will) fits v)
leaves_grow why fits Closed w = still w w refl

-- the act of a close, and then the others
pub close_first : (k : Conn) (why : HubClose) (fits : Bool) (w : Work) → Grows (said (acts.Closed k why) (shut k w)) (close k why fits w)
unfolding close shut_down
close_first k why fits w = leaves_grow why fits (stage_of k w.hub.connections) (said (acts.Closed k why) (shut k w))

pub close_grows : (k : Conn) (why : HubClose) (fits : Bool) (w : Work) → Grows w (close k why fits w)
close_grows k why fits w = chain w (said (acts.Closed k why) (shut k w)) (close k why fits w) (acts.Closed k why ∷ [], refl) (close_first k why fits w)

-- ---- packets

subscribed_grows : (key : ℕ) (rs : List Request) (w : Work) → Grows w (subscribed key rs w)
subscribed_grows key [] w = still w w refl
subscribed_grows key (r ∷ rs) w =
    let v : Work = subscribed key (r ∷ []) w in
    chain w v (subscribed key rs v) (acts.Subscribed key r.filter r.qos ∷ [], refl) (subscribed_grows key rs v)

unsubscribed_grows : (key : ℕ) (fs : List (List ℕ)) (w : Work) → Grows w (unsubscribed key fs w)
unsubscribed_grows key [] w = still w w refl
unsubscribed_grows key (f ∷ fs) w =
    let v : Work = unsubscribed key (f ∷ []) w in
    chain w v (unsubscribed key fs v) (acts.Unsubscribed key f ∷ [], refl) (unsubscribed_grows key fs v)

answer_grows : (k : Conn) (key : ℕ) (told : Happening) (w : Work) → Grows w (answers k key told w)
unfolding answers
answer_grows k key (happens.Up present) w = (acts.Up k key present ∷ [], refl)
answer_grows k key (happens.Handed m) w = deliver_grows (acts.Took key m) m w
answer_grows k key (happens.Subscribe i requests) w =
    let u : Work = subscribed key requests w in
    let v : Work = does key (subacks i (granted requests)) u in
    chain w u (enqueue_all (retained_copies key requests w.hub.retained) v) (subscribed_grows key requests w)
    (chain u v (enqueue_all (retained_copies key requests w.hub.retained) v) (does_grows key (subacks i (granted requests)) u) (places_grow (retained_copies key requests w.hub.retained) v))
answer_grows k key (happens.Unsubscribe i filters) w =
    let u : Work = unsubscribed key filters w in
    chain w u (does key (unsubacks i) u) (unsubscribed_grows key filters w) (does_grows key (unsubacks i) u)
answer_grows k key (happens.SubAck i codes) w = still w w refl
answer_grows k key (happens.UnsubAck i) w = still w w refl
answer_grows k key happens.Pong w = still w w refl

answers_grow : (k : Conn) (key : ℕ) (told : List Happening) (w : Work) → Grows w (answers_all k key told w)
answers_grow k key [] w = still w w refl
answers_grow k key (first ∷ later) w =
    let v : Work = answers k key first w in
    chain w v (answers_all k key later v) (answer_grows k key first w) (answers_grow k key later v)

replies_grow : (k : Conn) (key : ℕ) (move : End → Reply) (c : Option CloseReason) (fits : Bool) (w : Work) → Grows w (replies k key move c fits w)
unfolding replies
replies_grow k key move (Some reason) fits w =
    let v : Work = put_on k (move (end_of key w.hub.sessions)).out w in
    chain w v (close k (Own reason) fits v) (put_grows k (move (end_of key w.hub.sessions)).out w) (close_grows k (Own reason) fits v)
replies_grow k key move None fits w =
    let happenings : List Happening = (move (end_of key w.hub.sessions)).happenings in
    let v : Work = does key move w in
    cond_both (have_room (due key w.hub happenings) w.hub) (answers_all k key happenings v) (close k TargetFull fits w) (Grows w)
    (λ room. chain w v (answers_all k key happenings v) (does_grows key move w) (answers_grow k key happenings v))
    (λ short. close_grows k TargetFull fits w)

resume_grows : (k : Conn) (c : Connect) (key : ℕ) (w : Work) → Grows w (resume_session k c key w)
unfolding resume_session
resume_grows k c key w =
    let u : Work = staged k (ConnectedAs key (terms_of c) w.hub.clock) w in
    let v : Work = does key (greeting c) u in
    let told : List Happening = (greeting c (end_of key w.hub.sessions)).happenings in
    chain w u (answers_all k key told v) (still w u refl) (chain u v (answers_all k key told v) (does_grows key (greeting c) u) (answers_grow k key told v))

start_grows : (k : Conn) (c : Connect) (client : List ℕ) (w : Work) → Grows w (start_session k c client w)
unfolding new_session
start_grows k c client w =
    let v : Work = new_session client w in
    chain w v (resume_session k c w.hub.next_key v) (still w v refl) (resume_grows k c w.hub.next_key v)

pub goes_grow : (k : Conn) (c : Connect) (client : List ℕ) (key : ℕ) (ends : Bool) (w : Work) → Grows w (goes_on k c client key ends w)
unfolding goes_on remove
goes_grow k c client key true w = start_grows k c client w
goes_grow k c client key false w =
    let v : Work = remove key w in
    cond_both c.clean_session (start_session k c client v) (resume_session k c key w) (Grows w)
    (λ clean. chain w v (start_session k c client v) (acts.Removed key ∷ [], refl) (start_grows k c client v))
    (λ keeps. resume_grows k c key w)

take_grows : (o : Option Conn) (fits : Bool) (w : Work) → Grows w (take_over o fits w)
take_grows None fits w = still w w refl
take_grows (Some k) fits w = close_grows k TakenOver fits w

accept_grows : (k : Conn) (c : Connect) (client : List ℕ) (o : Option ℕ) (fits : Bool) (w : Work) → Grows w (accept_connect k c client o fits w)
accept_grows k c client None fits w = start_grows k c client w
accept_grows k c client (Some key) fits w =
    let o : Option Conn = up_on key w.hub.connections in
    let v : Work = take_over o fits w in
    chain w v (goes_on k c client key (ends_with key w.hub) v) (take_grows o fits w) (goes_grow k c client key (ends_with key w.hub) v)

connect_grows : (k : Conn) (c : Connect) (code : Option RefusalCode) (fits : Bool) (w : Work) → Grows w (on_connect k c code fits w)
unfolding on_connect
connect_grows k c (Some code) fits w =
    let v : Work = put_on k (packets.ConnAck (connacks.Refused code) ∷ []) w in
    chain w v (close k (Own (reasons.Refused code)) fits v) (put_grows k (packets.ConnAck (connacks.Refused code) ∷ []) w) (close_grows k (Own (reasons.Refused code)) fits v)
connect_grows k c None fits w = let client = client_of c w.hub.sessions in accept_grows k c client (key_of client w.hub.sessions) fits w

first_grows : (k : Conn) (p : Packet) (fits : Bool) (w : Work) → Grows w (on_first_packet k p fits w)
unfolding on_first_packet
first_grows k (packets.Connect c) fits w = connect_grows k c (refusal c w.hub) fits w
first_grows k p fits w = close_grows k (Own reasons.Unexpected) fits w

dispatch_grows : (k : Conn) (p : Packet) (fits : Bool) (s : ConnectionState) (w : Work) → Grows w (dispatch_packet k p fits s w)
unfolding dispatch_packet
dispatch_grows k p fits AwaitingConnect w = first_grows k p fits w
dispatch_grows k p fits (ConnectedAs key terms last_activity) w =
    cond_both (is_too_broad p w.hub) (close k TooManyMatches fits w) (on_passed_packet k key p fits w) (Grows w)
    (λ broad. close_grows k TooManyMatches fits w) (λ narrow. replies_grow k key (server_gets p) (server_gets p (end_of key w.hub.sessions)).close fits w)
dispatch_grows k p fits Closed w = still w w refl

arrives_grows : (k : Conn) (p : Packet) (g : Growth) (w : Work) → Grows w (arrives k p g w)
unfolding arrives
arrives_grows k p g w =
    let s : ConnectionState = stage_of k w.hub.connections in
    let v : Work = touched_on k w in
    cond_both g.fits (dispatch_packet k p g.will_fits s v) (close k (Own reasons.Memory) g.will_fits w) (Grows w)
    (λ fits. chain w v (dispatch_packet k p g.will_fits s v) (still w v refl) (dispatch_grows k p g.will_fits s v))
    (λ starved. close_grows k (Own reasons.Memory) g.will_fits w)

takes_grows : (k : Conn) (p : Packet) (g : Growth) (w : Work) → Grows w (on_packet k p g w)
unfolding on_packet
takes_grows k p g w = arrives_grows k p g w

malformed_grows : (k : Conn) (fault : DecodeFault) (fits : Bool) (w : Work) → Grows w (on_malformed k fault fits w)
unfolding on_malformed
malformed_grows k fault fits w = go (broken k fault w).close
  where
    go : (c : Option CloseReason) → Grows w (closes_by k c fits (put_on k (broken k fault w).out w))
    go None = put_grows k (broken k fault w).out w
    go (Some reason) =
        let v : Work = put_on k (broken k fault w).out w in
        chain w v (close k (Own reason) fits v) (put_grows k (broken k fault w).out w) (close_grows k (Own reason) fits v)

-- ---- events

pub comes_grow : (limits : Bounds) (k : Conn) (b : List ℕ) (w v : Work) → OnBytes limits k b w v → Grows w v
comes_grow limits k b w v (Arrives p first rest g u x on reads more) = chain u (on_packet k p g u) x (takes_grows k p g u) (comes_grow limits k rest (on_packet k p g u) x more)
comes_grow limits k b w v (Waits c u on pending) = still u (holding k c u) refl
comes_grow limits k b w v (Breaks c fault fits u on faulty) = malformed_grows k fault fits u
comes_grow limits k b w v (Starves c fits u on some) = close_grows k (Own reasons.Memory) fits u
comes_grow limits k b w v (LetsGo c u closed) = still u u refl

pub ticks_grow : (within : Option ℕ) (now : ℕ) (xs : List HubConnection) (w v : Work) → OnTick within now xs w v → Grows w v
ticks_grow within now xs w v (Done u) = still u u refl
ticks_grow within now xs w v (InTime x ys u z soon more) = ticks_grow within now ys u z more
ticks_grow within now xs w v (Late x ys why fits u z late more) =
    let c : Work = close x.conn why fits u in
    chain u c z (close_grows x.conn why fits u) (ticks_grow within now ys c z more)

-- ---- nothing is reported

-- no act reports a failed allocation
abbrev pub IsQuiet : Work → Type 0
IsQuiet w = list_any lacks_memory w.did ≡ false

quiet_front : (front more : List Act) → list_any lacks_memory (front ++ more) ≡ false → list_any lacks_memory front ≡ false
quiet_front [] more quiet = refl
quiet_front (a ∷ others) more quiet = go (lacks_memory a) quiet (λ rest. quiet_front others more rest)
  where
    go : (b : Bool) → (b || list_any lacks_memory (others ++ more)) ≡ false → (list_any lacks_memory (others ++ more) ≡ false → list_any lacks_memory others ≡ false)
        → (b || list_any lacks_memory others) ≡ false
    go true wrong before = wrong
    go false rest before = before rest

pub quiet_before : (w v : Work) → Grows w v → IsQuiet v → IsQuiet w
quiet_before w v grows quiet = quiet_front w.did grows.0 (subst (λ (l : List Act). list_any lacks_memory l ≡ false) grows.1 quiet)

quiet_last : (front : List Act) (a : Act) → list_any lacks_memory (front ++ a ∷ []) ≡ false → lacks_memory a ≡ false
quiet_last [] a quiet = go (lacks_memory a) quiet
  where
    go : (b : Bool) → (b || false) ≡ false → b ≡ false
    go true wrong = wrong
    go false right = refl
quiet_last (x ∷ xs) a quiet = go (lacks_memory x) quiet (λ rest. quiet_last xs a rest)
  where
    go : (b : Bool) → (b || list_any lacks_memory (xs ++ a ∷ [])) ≡ false → (list_any lacks_memory (xs ++ a ∷ []) ≡ false → lacks_memory a ≡ false) → lacks_memory a ≡ false
    go true wrong behind = absurd (true≢false wrong)
    go false rest behind = behind rest

pub quiet_said : (a : Act) (w : Work) → IsQuiet (said a w) → lacks_memory a ≡ false
quiet_said a w quiet = quiet_last w.did a quiet
