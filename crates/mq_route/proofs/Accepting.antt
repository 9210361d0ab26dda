-- Each copy of QoS 1 or 2 that a step makes due and that is not missed is accepted.
use Rattle.std.proofs.Common.{◌≡◌, ℕ, ◌≤◌, Bool, true, false, cond, not, ◌&&◌, List, [], ◌∷◌, ◌++◌, length, max, Option, Some, None, is_some, refl, sym, ap, subst, ◌∙◌, eqb, eqb-true, eq-eqb, true≢false, append_assoc, append-nil}
use Rattle.std.proofs.lemmas.Bool.{cond-true, cond-false, cond_both, or_from, false_from_ne_true}
use Rattle.std.proofs.lemmas.List.Concat.{flat_map-append}
use Rattle.std.proofs.lemmas.List.Folds.{list_any-append}
use Rattle.std.specs.List.{flat_map, list_any}
use Rattle.mq_topic.specs.declared.qos.Qos.{Qos}
use Rattle.mq_topic.specs.declared.qos.Qos.TheVariants.{Q0, Q1, Q2}
use Rattle.mq_topic.specs.Rows.{Row, key_cmp, matched, with_row, without_row, without_client, is_key}
use Rattle.mq_packet.specs.declared.connack.ConnAck.TheVariants as connacks
use Rattle.mq_packet.specs.declared.connack.RefusalCode.{RefusalCode}
use Rattle.mq_packet.specs.declared.connack.RefusalCode.TheVariants.{IdentifierRejected}
use Rattle.mq_packet.specs.declared.connect.Connect.{Connect}
use Rattle.mq_packet.specs.declared.connect.Will.{Will}
use Rattle.mq_packet.specs.declared.message.Message.{Message}
use Rattle.mq_packet.specs.declared.packet.Packet.{Packet}
use Rattle.mq_packet.specs.declared.packet.Packet.TheVariants as packets
use Rattle.mq_packet.specs.declared.packet.Request.{Request}
use Rattle.mq_packet.specs.declared.publish.Delivery.{Delivery}
use Rattle.mq_packet.specs.Encoding.{encodings}
use Rattle.mq_decode.specs.declared.fault.DecodeFault.{DecodeFault}
use Rattle.mq_decode.specs.Limits.{Bounds}
use Rattle.mq_flow.specs.Laws.{IdentifierLaws}
use Rattle.mq_flow.specs.Next.{NextLaws}
use Rattle.mq_flow.specs.Receiver.{is_new}
use Rattle.mq_flow.specs.Window.{fits_window}
use Rattle.mq_end.specs.declared.happening.Happening.{Happening}
use Rattle.mq_end.specs.declared.happening.Happening.TheVariants as happens
use Rattle.mq_end.specs.declared.reason.CloseReason.{CloseReason}
use Rattle.mq_end.specs.declared.reason.CloseReason.TheVariants as reasons
use Rattle.mq_end.specs.declared.state.State.{State}
use Rattle.mq_end.specs.declared.state.State.TheVariants.{Disconnected, Connecting, Connected}
use Rattle.mq_end.specs.Both.{publish_gets, flow_gets, stores}
use Rattle.mq_end.specs.End.{End, Reply, closes, becomes_connected, over, renewed}
use Rattle.mq_end.specs.Laws.{SoundLaws}
use Rattle.mq_end.specs.Server.{opens, refuses, server_gets, server_gets_in, server_up_gets, server_open_gets, connect_gets, subacks, unsubacks}
use Rattle.mq_route.specs.declared.act.Act.{Act}
use Rattle.mq_route.specs.declared.act.Act.TheVariants as acts
use Rattle.mq_route.specs.declared.close.HubClose.{HubClose}
use Rattle.mq_route.specs.declared.close.HubClose.TheVariants.{Own, TargetFull, TakenOver, PeerEnded, TooManyMatches}
use Rattle.mq_route.specs.declared.config.HubConfig.{HubConfig}
use Rattle.mq_route.specs.declared.conn.Conn.{Conn}
use Rattle.mq_route.specs.declared.event.HubEvent.{HubEvent}
use Rattle.mq_route.specs.declared.event.HubEvent.TheVariants.{Opened, Bytes, Ended, Tick, Collect}
use Rattle.mq_route.specs.declared.reply.HubReply.{HubReply}
use Rattle.mq_route.specs.declared.connection_state.ConnectionState.{ConnectionState}
use Rattle.mq_route.specs.declared.connection_state.ConnectionState.TheVariants.{AwaitingConnect, ConnectedAs, Closed}
use Rattle.mq_route.specs.declared.connection_state.ConnectionTerms.{ConnectionTerms}
use Rattle.mq_route.specs.Copies.{is_hidden_name, copy_by, will_message}
use Rattle.mq_route.specs.Hub.{HubState, HubSession, HubConnection, new_hub, new_end, no_end, stage_of, key_on, changed, held_on, is_open, up_on, key_of, end_of, with_end, with_left, without_session, for_key, copies_of}
use Rattle.mq_route.specs.Welcome.{client_of, refusal, ends_with}
use Rattle.mq_route.specs.Work.{Work, begin, said, with_sessions, staged, shut, put_on, put_where, does, drops_copies, is_missed, have_room, deliver, enqueue, enqueue_all, publishes_next, remove, remove_if, last_will, will_after, leaves_behind, shut_down, close, subscribed, unsubscribed, retained_copies}
use Rattle.mq_route.specs.Arrives.{Growth, granted, due, answers, answers_all, replies, greeting, terms_of, resume_session, new_session, start_session, take_over, goes_on, accept_connect, on_connect, on_first_packet, on_passed_packet, is_too_broad, dispatch_packet, touched_on, arrives, on_packet, closes_by, broken, on_malformed}
use Rattle.mq_route.specs.Step.{holding, OnBytes, Arrives, Waits, Breaks, Starves, LetsGo, OnTick, Done, InTime, Late, Does, close_if_open, expired_keys, remove_all, expire, with_clock}
use Rattle.mq_route.specs.Runs.{Episode, Follows}
use Rattle.mq_route.specs.Dropped.{when_over}
use Rattle.mq_route.specs.Accepted.{Placing, AreAccepts, is_miss, is_stored_miss, is_plain_miss, marked_for, placings, in_share, in_will, in_leaving, in_close, in_answer, in_answers, in_replies, in_take_over, in_welcome, in_first, in_packet, in_on_packet, in_breaks, in_on_bytes, in_on_tick, in_step, AcceptLaws}
use Rattle.mq_route.specs.Routed.{marked_by, marked}
use Rattle.mq_route.proofs.Lines.{grown, names_changed, ups_changed, up_map}
use Rattle.mq_route.proofs.Sessions.{has, has_left, has_with, has_without, end_left, end_without, has_new, end_new, no_session}
use Rattle.mq_route.proofs.Changes.{names_grown, ups_grown, retaining}
use Rattle.mq_route.proofs.Events.{acts_are}
use Rattle.mq_route.proofs.StoredBytes.{IsStored}
use Rattle.mq_route.proofs.Books.{Each, each_filter, each_weaker, each_put, Stands, Rowed, copies_stand, retained_stand, put_alike, does_alike, IsKept, blank_kept, gets_kept, opened_kept, dropped_kept, Holds, holds_alike, holds_with, holds_does, Room, room, room_with, Whole, accepting, and_both}

-- ---- reports of an end

-- a report that makes no copies due
abbrev Quiet : Happening → Type 0
Quiet (happens.Handed m) = ⊥
Quiet (happens.Subscribe i requests) = ⊥
Quiet other = Unit {0}

-- An end in this state reports nothing that makes copies due; or it reports one thing that does,
-- and its book is unchanged.
data Tells (e : End) (r : Reply) : Type 0 where
  Quietly : Each Quiet r.happenings → Tells e r
  Hands : (m : Message) → r.happenings ≡ happens.Handed m ∷ [] → r.end.book ≡ e.book → Tells e r
  Asks : (i : ℕ) (requests : List Request) → r.happenings ≡ happens.Subscribe i requests ∷ [] → r.end.book ≡ e.book → e.state ≡ Connected → Tells e r

publish_tells : (q : Qos) (d : Option Delivery) (m : Message) (e : End) → Tells e (publish_gets q d m e)
publish_tells Q0 None m e = Hands m refl refl
publish_tells Q1 (Some d) m e = Hands m refl refl
publish_tells Q2 (Some d) m e = fits (fits_window e.window d.id e.received)
  where
    new : (b : Bool) → is_new d.id e.received ≡ b → Tells e (stores d.id m e)
    new true k = Hands m (cond-true (is_new d.id e.received) (happens.Handed m ∷ []) [] k) refl
    new false k = Quietly (subst (Each Quiet) (sym (cond-false (is_new d.id e.received) (happens.Handed m ∷ []) [] k)) tt)

    fits : (b : Bool) → Tells e (cond b (stores d.id m e) (closes reasons.Window e))
    fits true = new (is_new d.id e.received) refl
    fits false = Quietly tt
publish_tells q d m e = Quietly tt

flow_tells : (p : Packet) (e : End) → Tells e (flow_gets p e)
flow_tells (packets.Publish p) e = publish_tells p.message.qos p.delivery p.message e
flow_tells p e = Quietly tt

up_tells : (p : Packet) (e : End) → e.state ≡ Connected → Tells e (server_up_gets p e)
up_tells (packets.Subscribe i requests) e up = Asks i requests refl refl up
up_tells (packets.Unsubscribe i filters) e up = Quietly (tt, tt)
up_tells packets.PingReq e up = Quietly tt
up_tells packets.Disconnect e up = Quietly tt
up_tells p e up = flow_tells p e

connect_quiet : (c : Connect) (e : End) → Each Quiet (connect_gets c e).happenings
connect_quiet c e =
    let present = not c.clean_session && e.known in
    cond_both (not c.clean_session && eqb (length c.client_id) 0) (refuses IdentifierRejected e)
    (becomes_connected (packets.ConnAck (connacks.Accepted present) ∷ []) present (record (renewed c.clean_session e) { keep_alive = c.keep_alive }))
    (λ r. Each Quiet r.happenings) (λ b. tt) (λ b. (tt, tt))

open_quiet : (p : Packet) (e : End) → Each Quiet (server_open_gets p e).happenings
open_quiet (packets.Connect c) e = connect_quiet c e
open_quiet p e = tt

gets_tells : (p : Packet) (e : End) → Tells e (server_gets p e)
gets_tells p e = go e.state refl
  where
    go : (s : State) → e.state ≡ s → Tells e (server_gets_in s p e)
    go Disconnected k = Quietly tt
    go Connecting k = Quietly (open_quiet p e)
    go Connected k = up_tells p e k

greeting_quiet : (c : Connect) (e : End) → Each Quiet (greeting c e).happenings
greeting_quiet c e = connect_quiet c (opens e).end

-- ---- copies that are due stay due after the end's move

up_put : (c : ℕ) (to : Option Conn) (ps : List Packet) (w : Work) → up_on c (put_where to ps w).hub.connections ≡ up_on c w.hub.connections
unfolding put_on
up_put c None ps w = refl
up_put c (Some k) ps w =
    up_map (changed (grown (encodings ps)) k) (names_changed (grown (encodings ps)) k (names_grown (encodings ps))) (ups_changed (grown (encodings ps)) k (ups_grown (encodings ps))) c w.hub.connections

up_does : (c key : ℕ) (move : End → Reply) (w : Work) → up_on c (does key move w).hub.connections ≡ up_on c w.hub.connections
unfolding does
up_does c key move w = up_put c (up_on key w.hub.connections) (move (end_of key w.hub.sessions)).out (with_sessions (with_end key (move (end_of key w.hub.sessions)).end) w)

copies_alike : (m : Message) (g h : HubState) → g.rows ≡ h.rows → ((c : ℕ) → up_on c g.connections ≡ up_on c h.connections) → copies_of m g ≡ copies_of m h
unfolding copies_of
copies_alike m g h rows ups =
    λ i. cond (is_hidden_name m.topic) [] (flat_map (λ f. for_key f.0 (copy_by (is_some (ups f.0 i)) m (Some f.1))) (matched m.topic (rows i)))

up_is_there : (key : ℕ) (ss : List HubSession) → (end_of key ss).state ≡ Connected → has key ss ≡ true
up_is_there key ss up = go (has key ss) refl
  where
    go : (b : Bool) → has key ss ≡ b → b ≡ true
    go true k = refl
    go false k = absurd (let clash : Disconnected ≡ Connected = sym (ap (λ (e : End). e.state) (no_session key ss k)) ∙ up in cc)

-- ---- placed copies in acts

marked_more : (c : ℕ) (log : List Act) (act : Act) → marked c (log ++ act ∷ []) ≡ marked c log ++ marked_by c act
marked_more c log act = flat_map-append (marked_by c) log (act ∷ []) ∙ ap (λ (l : List (Bool × Message)). marked c log ++ l) (append-nil (marked_by c act))

-- the later acts place nothing
abbrev Still : List Act → List Act → Type 0
Still log new = (c : ℕ) → marked c new ≡ marked c log

-- the later acts place these copies
abbrev Places : List Act → List Placing → List Act → Type 0
Places log ps new = (c : ℕ) → marked c new ≡ marked c log ++ marked_for c ps

-- an act that places nothing
abbrev Idle : Act → Type 0
Idle act = (c : ℕ) → marked_by c act ≡ []

still_more : (act : Act) → Idle act → (log : List Act) → Still log (log ++ act ∷ [])
still_more act none log c = marked_more c log act ∙ ap (λ (l : List (Bool × Message)). marked c log ++ l) (none c) ∙ append-nil (marked c log)

closed_idle : (k : Conn) (why : HubClose) → Idle (acts.Closed k why)
unfolding marked_by
closed_idle k why c = refl

removed_idle : (key : ℕ) → Idle (acts.Removed key)
unfolding marked_by
removed_idle key c = refl

up_idle : (k : Conn) (key : ℕ) (present : Bool) → Idle (acts.Up k key present)
unfolding marked_by
up_idle k key present c = refl

subscribed_idle : (key : ℕ) (f : List ℕ) (q : Qos) → Idle (acts.Subscribed key f q)
unfolding marked_by
subscribed_idle key f q c = refl

unsubscribed_idle : (key : ℕ) (f : List ℕ) → Idle (acts.Unsubscribed key f)
unfolding marked_by
unsubscribed_idle key f c = refl

took_idle : (key : ℕ) (m : Message) → Idle (acts.Took key m)
unfolding marked_by
took_idle key m c = refl

will_idle : (key : ℕ) (m : Message) → Idle (acts.Will key m)
unfolding marked_by
will_idle key m c = refl

dropped_idle : (key : ℕ) → Idle (acts.WillDropped key)
unfolding marked_by
dropped_idle key c = refl

marked_for-append : (c : ℕ) (ps qs : List Placing) → marked_for c (ps ++ qs) ≡ marked_for c ps ++ marked_for c qs
marked_for-append c [] qs = refl
marked_for-append c (p ∷ ps) qs = go (is_miss p, p.message) (eqb p.key c) (marked_for-append c ps qs)
  where
    go : (this : Bool × Message) (b : Bool) → marked_for c (ps ++ qs) ≡ marked_for c ps ++ marked_for c qs
        → cond b (this ∷ marked_for c (ps ++ qs)) (marked_for c (ps ++ qs)) ≡ cond b (this ∷ marked_for c ps) (marked_for c ps) ++ marked_for c qs
    go this true ih = ap (λ (l : List (Bool × Message)). this ∷ l) ih
    go this false ih = ih

put_did : (k : Conn) (ps : List Packet) (w : Work) → (put_on k ps w).did ≡ w.did
unfolding put_on
put_did k ps w = refl

where_did : (to : Option Conn) (ps : List Packet) (w : Work) → (put_where to ps w).did ≡ w.did
where_did None ps w = refl
where_did (Some k) ps w = put_did k ps w

does_did : (key : ℕ) (move : End → Reply) (w : Work) → (does key move w).did ≡ w.did
unfolding does
does_did key move w = where_did (up_on key w.hub.connections) (move (end_of key w.hub.sessions)).out (with_sessions (with_end key (move (end_of key w.hub.sessions)).end) w)

same_still : (log new : List Act) → new ≡ log → Still log new
same_still log new e c = ap (marked c) e

place_places : (c key : ℕ) (m : Message) (w : Work) → marked c (enqueue key m w).did ≡ marked c w.did ++ cond (eqb key c) ((is_missed key m w.hub, m) ∷ []) []
unfolding enqueue marked_by
place_places c key m w = go (is_missed key m w.hub)
  where
    go : (b : Bool) → marked c (cond b (said (acts.Missed key m) w) (said (acts.Placed key m) (does key (publishes_next m) w))).did ≡ marked c w.did ++ cond (eqb key c) ((b, m) ∷ []) []
    go true = marked_more c w.did (acts.Missed key m)
    go false = marked_more c (does key (publishes_next m) w).did (acts.Placed key m) ∙ ap (λ (log : List Act). marked c log ++ cond (eqb key c) ((false, m) ∷ []) []) (does_did key (publishes_next m) w)

placings_place : (copies : List (ℕ × Message)) (w : Work) → Places w.did (placings copies w) (enqueue_all copies w).did
placings_place [] w c = sym (append-nil (marked c w.did))
placings_place (x ∷ copies) w c =
    placings_place copies (enqueue x.0 x.1 w) c
    ∙ ap (λ (l : List (Bool × Message)). l ++ marked_for c (placings copies (enqueue x.0 x.1 w))) (place_places c x.0 x.1 w)
    ∙ append_assoc (marked c w.did) (cond (eqb x.0 c) ((is_missed x.0 x.1 w.hub, x.1) ∷ []) []) (marked_for c (placings copies (enqueue x.0 x.1 w)))
    ∙ ap (λ (l : List (Bool × Message)). marked c w.did ++ l) (go (is_missed x.0 x.1 w.hub, x.1) (eqb x.0 c) (marked_for c (placings copies (enqueue x.0 x.1 w))))
  where
    go : (this : Bool × Message) (b : Bool) (l : List (Bool × Message)) → cond b (this ∷ []) [] ++ l ≡ cond b (this ∷ l) l
    go this true l = refl
    go this false l = refl

accepts-append : (ps qs : List Placing) → AreAccepts ps → AreAccepts qs → AreAccepts (ps ++ qs)
accepts-append [] qs f g = g
accepts-append (p ∷ ps) qs f g = (f.0, accepts-append ps qs f.1 g)

module _ (config : HubConfig) (ids : IdentifierLaws) (next : NextLaws) (sound : SoundLaws) (small : config.capacity ≤ 65535) where
  abbrev Kept : Work → Type 0
  Kept w = Holds config w.hub

  -- from one work to another, these copies are placed and accepted, or missed, and the books stay
  -- sound
  record Goes (w : Work) (ps : List Placing) (v : Work) : Type 0 where
    accepts : AreAccepts ps
    kept : Kept v
    whole : Whole config ids next small ps
    places : Places w.did ps v.did

  go_on : (w v x : Work) (ps qs : List Placing) → Goes w ps v → Goes v qs x → Goes w (ps ++ qs) x
  go_on w v x ps qs f g = record {
    accepts = accepts-append ps qs f.accepts g.accepts;
    kept = g.kept;
    whole = (
      λ keep. list_any-append is_stored_miss ps qs ∙ or_from (list_any is_stored_miss ps) (list_any is_stored_miss qs) (f.whole.0 keep) (g.whole.0 keep),
      λ unlimited. list_any-append is_plain_miss ps qs ∙ or_from (list_any is_plain_miss ps) (list_any is_plain_miss qs) (f.whole.1 unlimited) (g.whole.1 unlimited),
    );
    places = λ c. g.places c ∙ ap (λ (l : List (Bool × Message)). l ++ marked_for c qs) (f.places c) ∙ append_assoc (marked c w.did) (marked_for c ps) (marked_for c qs)
        ∙ ap (λ (l : List (Bool × Message)). marked c w.did ++ l) (sym (marked_for-append c ps qs));
  }

  quiet : (w v : Work) → Still w.did v.did → Kept v → Goes w [] v
  quiet w v still h = record { accepts = tt; kept = h; whole = (λ keep. refl, λ unlimited. refl); places = λ c. still c ∙ sym (append-nil (marked c w.did)) }

  after_quiet : (w v x : Work) (ps : List Placing) → Still w.did v.did → Goes v ps x → Goes w ps x
  after_quiet w v x ps still g = record { accepts = g.accepts; kept = g.kept; whole = g.whole; places = λ c. g.places c ∙ ap (λ (l : List (Bool × Message)). l ++ marked_for c ps) (still c) }

  then_quiet : (w v x : Work) (ps : List Placing) → Goes w ps v → Goes v [] x → Goes w ps x
  then_quiet w v x ps g q = record { accepts = g.accepts; kept = q.kept; whole = g.whole; places = λ c. q.places c ∙ append-nil (marked c v.did) ∙ g.places c }

  share_goes : (act : Act) (m : Message) (w : Work) → Idle act → Kept w → Room config (copies_of m w.hub) w.hub.sessions → Goes w (in_share act m w) (deliver act m w)
  unfolding deliver
  share_goes act m w none h r =
      let v = retaining act m w in
      let copies = copies_of m w.hub in
      let a = accepting config ids next small copies v (record { is = h.is; books = h.books; rows = h.rows }) (copies_stand (Stands w.hub.sessions) m w.hub h.rows) r in
      after_quiet w v (enqueue_all copies v) (placings copies v) (still_more act none w.did) (record { accepts = a.0; kept = a.1; whole = a.2; places = placings_place copies v })

  -- ---- subscriptions

  subscribed_sessions : (key : ℕ) (rs : List Request) (w : Work) → (subscribed key rs w).hub.sessions ≡ w.hub.sessions
  subscribed_sessions key [] w = refl
  subscribed_sessions key (r ∷ rs) w = subscribed_sessions key rs (said (acts.Subscribed key r.filter r.qos) (record w { hub = record w.hub { rows = with_row key r.filter r.qos w.hub.rows } }))

  subscribed_kept : (key : ℕ) (rs : List Request) (w : Work) → has key w.hub.sessions ≡ true → Kept w → Kept (subscribed key rs w)
  subscribed_kept key [] w there h = h
  subscribed_kept key (r ∷ rs) w there h =
      subscribed_kept key rs (said (acts.Subscribed key r.filter r.qos) (record w { hub = record w.hub { rows = with_row key r.filter r.qos w.hub.rows } })) there
      (record { is = h.is; books = h.books; rows = each_put key_cmp (λ k. Stands w.hub.sessions k.0) (key, r.filter) r.qos w.hub.rows there h.rows })

  unsubscribed_kept : (key : ℕ) (fs : List (List ℕ)) (w : Work) → Kept w → Kept (unsubscribed key fs w)
  unsubscribed_kept key [] w h = h
  unsubscribed_kept key (f ∷ fs) w h =
      unsubscribed_kept key fs (said (acts.Unsubscribed key f) (record w { hub = record w.hub { rows = without_row key f w.hub.rows } }))
      (record { is = h.is; books = h.books; rows = each_filter (λ (r : Row). Stands w.hub.sessions r.0.0) (λ r. not (is_key key f r.0)) w.hub.rows h.rows })

  subscribed_still : (key : ℕ) (rs : List Request) (w : Work) → Still w.did (subscribed key rs w).did
  subscribed_still key [] w c = refl
  subscribed_still key (r ∷ rs) w c =
      subscribed_still key rs (said (acts.Subscribed key r.filter r.qos) (record w { hub = record w.hub { rows = with_row key r.filter r.qos w.hub.rows } })) c
      ∙ still_more (acts.Subscribed key r.filter r.qos) (subscribed_idle key r.filter r.qos) w.did c

  unsubscribed_still : (key : ℕ) (fs : List (List ℕ)) (w : Work) → Still w.did (unsubscribed key fs w).did
  unsubscribed_still key [] w c = refl
  unsubscribed_still key (f ∷ fs) w c =
      unsubscribed_still key fs (said (acts.Unsubscribed key f) (record w { hub = record w.hub { rows = without_row key f w.hub.rows } })) c
      ∙ still_more (acts.Unsubscribed key f) (unsubscribed_idle key f) w.did c

  -- ---- reactions to the reports of an end

  quiet_one : (k : Conn) (key : ℕ) (one : Happening) (w : Work) → Quiet one → Kept w → Goes w [] (answers k key one w)
  unfolding answers
  quiet_one k key (happens.Up present) w q h =
      quiet w (said (acts.Up k key present) w) (still_more (acts.Up k key present) (up_idle k key present) w.did) (record { is = h.is; books = h.books; rows = h.rows })
  quiet_one k key (happens.Unsubscribe i filters) w q h =
      let v = unsubscribed key filters w in
      let u = unsubscribed_kept key filters w h in
      quiet w (does key (unsubacks i) v) (λ c. same_still v.did (does key (unsubacks i) v).did (does_did key (unsubacks i) v) c ∙ unsubscribed_still key filters w c)
      (holds_does config key (unsubacks i) v (u.books key) u)
  quiet_one k key (happens.Handed m) w q h = absurd q
  quiet_one k key (happens.Subscribe i requests) w q h = absurd q
  quiet_one k key (happens.SubAck i codes) w q h = quiet w w (λ c. refl) h
  quiet_one k key (happens.UnsubAck i) w q h = quiet w w (λ c. refl) h
  quiet_one k key happens.Pong w q h = quiet w w (λ c. refl) h

  quiet_all : (k : Conn) (key : ℕ) (all : List Happening) (w : Work) → Each Quiet all → Kept w → Goes w [] (answers_all k key all w)
  quiet_all k key [] w q h = quiet w w (λ c. refl) h
  quiet_all k key (one ∷ later) w q h =
      let first = quiet_one k key one w q.0 h in
      then_quiet w (answers k key one w) (answers_all k key later (answers k key one w)) [] first (quiet_all k key later (answers k key one w) q.1 first.kept)

  none_in : (k : Conn) (key : ℕ) (all : List Happening) (w : Work) → Each Quiet all → in_answers k key all w ≡ []
  none_in k key [] w q = refl
  none_in k key (one ∷ later) w q = ap (λ (l : List Placing). l ++ in_answers k key later (answers k key one w)) (none one q.0) ∙ none_in k key later (answers k key one w) q.1
    where
      none : (one : Happening) → Quiet one → in_answer key one w ≡ []
      none (happens.Handed m) q = absurd q
      none (happens.Subscribe i requests) q = absurd q
      none other q = refl

  -- ---- a packet on a connected connection

  -- a move that leaves the end's book unchanged leaves the room for copies unchanged
  room_does : (copies : List (ℕ × Message)) (key : ℕ) (move : End → Reply) (w : Work) → (move (end_of key w.hub.sessions)).end.book ≡ (end_of key w.hub.sessions).book → Room config copies w.hub.sessions → Room config copies (does key move w).hub.sessions
  room_does copies key move w same r =
      subst (Room config copies) (sym (does_alike key move w).0) (room_with config copies key (move (end_of key w.hub.sessions)).end w.hub.sessions same r)

  -- the end's reports make these copies due, and there is room for them
  due_room : (key : ℕ) (all : List Happening) (copies : List (ℕ × Message)) (w : Work) → Kept w → due key w.hub all ≡ copies → have_room (due key w.hub all) w.hub ≡ true → Room config copies w.hub.sessions
  due_room key all copies w h same e = room config copies w.hub h (subst (λ (c : List (ℕ × Message)). have_room c w.hub ≡ true) same e)

  handed_goes : (k : Conn) (key : ℕ) (m : Message) (move : End → Reply) (w : Work) → (move (end_of key w.hub.sessions)).end.book ≡ (end_of key w.hub.sessions).book → Kept w → have_room (due key w.hub (happens.Handed m ∷ [])) w.hub ≡ true
      → Goes (does key move w) (in_answers k key (happens.Handed m ∷ []) (does key move w)) (answers_all k key (happens.Handed m ∷ []) (does key move w))
  unfolding answers
  handed_goes k key m move w same h e =
      let v = does key move w in
      let copies = copies_of m w.hub in
      let hold = holds_does config key move w (subst (IsKept config) (sym same) (h.books key)) h in
      let due_now : copies_of m v.hub ≡ copies = copies_alike m v.hub w.hub (does_alike key move w).1 (λ c. up_does c key move w) in
      let r = room_does copies key move w same (due_room key (happens.Handed m ∷ []) copies w h (append-nil copies) e) in
      let s = share_goes (acts.Took key m) m v (took_idle key m) hold (subst (λ (c : List (ℕ × Message)). Room config c v.hub.sessions) (sym due_now) r) in
      let x = deliver (acts.Took key m) m v in
      go_on v x x (in_share (acts.Took key m) m v) [] s (quiet x x (λ c. refl) s.kept)

  asked_goes : (k : Conn) (key i : ℕ) (rs : List Request) (move : End → Reply) (w : Work) → (move (end_of key w.hub.sessions)).end.book ≡ (end_of key w.hub.sessions).book → has key w.hub.sessions ≡ true → Kept w
      → have_room (due key w.hub (happens.Subscribe i rs ∷ [])) w.hub ≡ true
      → Goes (does key move w) (in_answers k key (happens.Subscribe i rs ∷ []) (does key move w)) (answers_all k key (happens.Subscribe i rs ∷ []) (does key move w))
  unfolding answers
  asked_goes k key i rs move w same there h e =
      let v = does key move w in
      let old = retained_copies key rs w.hub.retained in
      let copies = retained_copies key rs v.hub.retained in
      let hold = holds_does config key move w (subst (IsKept config) (sym same) (h.books key)) h in
      let stands : has key v.hub.sessions ≡ true = ap (has key) (does_alike key move w).0 ∙ has_with key (move (end_of key w.hub.sessions)).end key w.hub.sessions ∙ there in
      let now : copies ≡ old = ap (retained_copies key rs) (does_alike key move w).3 in
      let first = room_does old key move w same (due_room key (happens.Subscribe i rs ∷ []) old w h (append-nil old) e) in
      let u = subscribed key rs v in
      let kept = subscribed_kept key rs v stands hold in
      let r = subst (λ (ss : List HubSession). Room config copies ss) (sym (subscribed_sessions key rs v)) (subst (λ (c : List (ℕ × Message)). Room config c v.hub.sessions) (sym now) first) in
      let answer = subacks i (granted rs) in
      let x = does key answer u in
      let stays : has key x.hub.sessions ≡ true = ap (has key) (does_alike key answer u).0 ∙ has_with key (answer (end_of key u.hub.sessions)).end key u.hub.sessions ∙ ap (has key) (subscribed_sessions key rs v) ∙ stands in
      let a = accepting config ids next small copies x (holds_does config key answer u (kept.books key) kept) (retained_stand (Stands x.hub.sessions) key rs v.hub.retained stays) (room_does copies key answer u refl r) in
      let y = enqueue_all copies x in
      let asks : Goes v (placings copies x) y = after_quiet v x y (placings copies x) (λ c. same_still u.did x.did (does_did key answer u) c ∙ subscribed_still key rs v c)
      (record { accepts = a.0; kept = a.1; whole = a.2; places = placings_place copies x }) in
      go_on v y y (placings copies x) [] asks (quiet y y (λ c. refl) a.1)

  told_goes : (k : Conn) (key : ℕ) (move : End → Reply) (w : Work) → Tells (end_of key w.hub.sessions) (move (end_of key w.hub.sessions)) → IsKept config (move (end_of key w.hub.sessions)).end.book → Kept w
      → have_room (due key w.hub (move (end_of key w.hub.sessions)).happenings) w.hub ≡ true
      → Goes (does key move w) (in_answers k key (move (end_of key w.hub.sessions)).happenings (does key move w)) (answers_all k key (move (end_of key w.hub.sessions)).happenings (does key move w))
  told_goes k key move w (Quietly q) new h e =
      let v = does key move w in
      let all = (move (end_of key w.hub.sessions)).happenings in
      subst (λ (ps : List Placing). Goes v ps (answers_all k key all v)) (sym (none_in k key all v q)) (quiet_all k key all v q (holds_does config key move w new h))
  told_goes k key move w (Hands m is same) new h e =
      subst (λ (all : List Happening). have_room (due key w.hub all) w.hub ≡ true → Goes (does key move w) (in_answers k key all (does key move w)) (answers_all k key all (does key move w))) (sym is)
      (handed_goes k key m move w same h) e
  told_goes k key move w (Asks i rs is same up) new h e =
      subst (λ (all : List Happening). have_room (due key w.hub all) w.hub ≡ true → Goes (does key move w) (in_answers k key all (does key move w)) (answers_all k key all (does key move w))) (sym is)
      (asked_goes k key i rs move w same (up_is_there key w.hub.sessions up) h) e

  -- ---- the end of a session

  not_same : (a b : ℕ) → not (eqb a b) ≡ true → eqb b a ≡ false
  not_same a b e = false_from_ne_true (eqb b a) (λ t. true≢false (sym e ∙ ap not (eq-eqb a b (sym (eqb-true b a t)))))

  rowed_without : (key : ℕ) (rows : List Row) (ss : List HubSession) → Rowed rows ss → Rowed (without_client key rows) (without_session key ss)
  rowed_without key [] ss f = tt
  rowed_without key (r ∷ rows) ss f =
      cond_both (not (eqb r.0.0 key)) (r ∷ without_client key rows) (without_client key rows) (λ l. Rowed l (without_session key ss))
      (λ e. (has_without key r.0.0 ss ∙ cond-false (eqb key r.0.0) false (has r.0.0 ss) (not_same r.0.0 key e) ∙ f.0, rowed_without key rows ss f.1))
      (λ e. rowed_without key rows ss f.1)

  remove_kept : (key : ℕ) (w : Work) → Kept w → Kept (remove key w)
  unfolding remove
  remove_kept key w h = record {
    is = h.is;
    books = λ c. subst (λ (e : End). IsKept config e.book) (sym (end_without key c w.hub.sessions))
        (cond_both (eqb key c) no_end (end_of c w.hub.sessions) (λ e. IsKept config e.book) (λ t. blank_kept config ids) (λ t. h.books c));
    rows = rowed_without key w.hub.rows w.hub.sessions h.rows;
  }

  remove_if_kept : (b : Bool) (key : ℕ) (w : Work) → Kept w → Kept (remove_if b key w)
  remove_if_kept true key w h = remove_kept key w h
  remove_if_kept false key w h = h

  remove_all_kept : (keys : List ℕ) (w : Work) → Kept w → Kept (remove_all keys w)
  remove_all_kept [] w h = h
  remove_all_kept (key ∷ keys) w h = remove_all_kept keys (remove key w) (remove_kept key w h)

  -- a session stores the time of a disconnect
  marks_kept : (key : Option ℕ) (now : ℕ) (w : Work) → Kept w → Kept (with_sessions (with_left key now) w)
  marks_kept key now w h = record {
    is = h.is;
    books = λ c. subst (λ (e : End). IsKept config e.book) (sym (end_left key now c w.hub.sessions)) (h.books c);
    rows = each_weaker (λ (r : Row). Stands w.hub.sessions r.0.0) (λ (r : Row). Stands (with_left key now w.hub.sessions) r.0.0)
        (λ r there. has_left key now r.0.0 w.hub.sessions ∙ there) w.hub.rows h.rows;
  }

  over_kept : (k : Conn) (why : HubClose) (key : ℕ) (terms : ConnectionTerms) (w : Work) → Kept w → Kept (when_over k why key terms w)
  over_kept k why key terms w h =
      let v = said (acts.Closed k why) (shut k w) in
      remove_if_kept terms.clean_session key (with_sessions (with_end key (over (end_of key w.hub.sessions))) v)
      (holds_with config key (over (end_of key w.hub.sessions)) v (dropped_kept config sound (end_of key w.hub.sessions) (h.books key)) (record { is = h.is; books = h.books; rows = h.rows }))

  remove_if_still : (b : Bool) (key : ℕ) (w : Work) → Still w.did (remove_if b key w).did
  unfolding remove
  remove_if_still true key w = still_more (acts.Removed key) (removed_idle key) w.did
  remove_if_still false key w = λ c. refl

  remove_all_still : (keys : List ℕ) (w : Work) → Still w.did (remove_all keys w).did
  remove_all_still [] w = λ c. refl
  remove_all_still (key ∷ keys) w = λ c. remove_all_still keys (remove key w) c ∙ remove_if_still true key w c

  expire_still : (h : HubState) → Still [] (expire h).did
  unfolding expire
  expire_still h = remove_all_still (expired_keys h) (begin h)

  expire_kept : (h : HubState) → Kept (begin h) → Kept (expire h)
  unfolding expire
  expire_kept h start = remove_all_kept (expired_keys h) (begin h) start

  over_still : (k : Conn) (why : HubClose) (key : ℕ) (terms : ConnectionTerms) (w : Work) → Still w.did (when_over k why key terms w).did
  over_still k why key terms w c =
      remove_if_still terms.clean_session key (with_sessions (with_end key (over (end_of key w.hub.sessions))) (said (acts.Closed k why) (shut k w))) c
      ∙ still_more (acts.Closed k why) (closed_idle k why) w.did c

  will_goes : (key : ℕ) (will : Option Will) (fits : Bool) (w : Work) → Kept w → Goes w (in_will key will fits w) (last_will key will fits w)
  unfolding last_will
  will_goes key None fits w h = quiet w w (λ c. refl) h
  will_goes key (Some will) fits w h = go (fits && enough) refl
    where
      m : Message
      m = will_message will

      enough : Bool
      enough = have_room (copies_of (will_message will) w.hub) w.hub

      go : (b : Bool) → (fits && enough) ≡ b → Goes w (cond b (in_share (acts.Will key m) m w) []) (cond b (deliver (acts.Will key m) m w) (said (acts.WillDropped key) w))
      go true e = share_goes (acts.Will key m) m w (will_idle key m) h (room config (copies_of m w.hub) w.hub h (and_both fits enough e).1)
      go false e = quiet w (said (acts.WillDropped key) w) (still_more (acts.WillDropped key) (dropped_idle key) w.did) (record { is = h.is; books = h.books; rows = h.rows })

  leaving_goes : (k : Conn) (why : HubClose) (fits : Bool) (s : ConnectionState) (w : Work) → Kept w → Goes w (in_leaving k why fits s w) (leaves_behind why fits s (said (acts.Closed k why) (shut k w)))
  unfolding leaves_behind
  leaving_goes k why fits AwaitingConnect w h = quiet w (said (acts.Closed k why) (shut k w)) (still_more (acts.Closed k why) (closed_idle k why) w.did) (record { is = h.is; books = h.books; rows = h.rows })
  leaving_goes k why fits (ConnectedAs key terms last_activity) w h =
      let v = when_over k why key terms w in
      let will = will_after why terms.will in
      after_quiet w v (last_will key will fits v) (in_will key will fits v) (over_still k why key terms w) (will_goes key will fits v (over_kept k why key terms w h))
  leaving_goes k why fits Closed w h = quiet w (said (acts.Closed k why) (shut k w)) (still_more (acts.Closed k why) (closed_idle k why) w.did) (record { is = h.is; books = h.books; rows = h.rows })

  close_goes : (k : Conn) (why : HubClose) (fits : Bool) (w : Work) → Kept w → Goes w (in_close k why fits w) (close k why fits w)
  unfolding close shut_down
  close_goes k why fits w h =
      let g = leaving_goes k why fits (stage_of k w.hub.connections) w h in
      record {
        accepts = g.accepts;
        kept = marks_kept (key_on (stage_of k w.hub.connections)) w.hub.clock (shut_down k why fits w) g.kept;
        whole = g.whole;
        places = g.places;
      }

  put_kept : (k : Conn) (ps : List Packet) (w : Work) → Kept w → Kept (put_on k ps w)
  put_kept k ps w h = holds_alike config (put_on k ps w).hub w.hub (put_alike k ps w) h

  -- packets are queued, and then a connection is closed
  put_close : (k : Conn) (ps : List Packet) (why : HubClose) (fits : Bool) (w : Work) → Kept w → Goes w (in_close k why fits (put_on k ps w)) (close k why fits (put_on k ps w))
  put_close k ps why fits w h =
      let v = put_on k ps w in
      after_quiet w v (close k why fits v) (in_close k why fits v) (same_still w.did v.did (put_did k ps w)) (close_goes k why fits v (put_kept k ps w h))

  -- ---- a packet

  replies_go : (k : Conn) (key : ℕ) (p : Packet) (c : Option CloseReason) (fits : Bool) (w : Work) → Kept w → Goes w (in_replies k key (server_gets p) c fits w) (replies k key (server_gets p) c fits w)
  unfolding replies
  replies_go k key p (Some reason) fits w h = put_close k (server_gets p (end_of key w.hub.sessions)).out (Own reason) fits w h
  replies_go k key p None fits w h = go (have_room (due key w.hub (server_gets p (end_of key w.hub.sessions)).happenings) w.hub) refl
    where
      go : (b : Bool) → have_room (due key w.hub (server_gets p (end_of key w.hub.sessions)).happenings) w.hub ≡ b
          → Goes w (cond b (in_answers k key (server_gets p (end_of key w.hub.sessions)).happenings (does key (server_gets p) w)) (in_close k TargetFull fits w))
          (cond b (answers_all k key (server_gets p (end_of key w.hub.sessions)).happenings (does key (server_gets p) w)) (close k TargetFull fits w))
      go true enough =
          let e = end_of key w.hub.sessions in
          let told = (server_gets p e).happenings in
          let v = does key (server_gets p) w in
          after_quiet w v (answers_all k key told v) (in_answers k key told v) (same_still w.did v.did (does_did key (server_gets p) w))
          (told_goes k key (server_gets p) w (gets_tells p e) (gets_kept config sound p e (h.books key)) h enough)
      go false short = close_goes k TargetFull fits w h

  -- ---- CONNECT

  greet_goes : (k : Conn) (c : Connect) (key : ℕ) (w : Work) → Kept w → Goes w [] (resume_session k c key w)
  unfolding resume_session
  greet_goes k c key w h =
      let e = end_of key w.hub.sessions in
      let v = staged k (ConnectedAs key (terms_of c) w.hub.clock) w in
      let x = does key (greeting c) v in
      after_quiet w x (answers_all k key (greeting c e).happenings x) [] (same_still v.did x.did (does_did key (greeting c) v))
      (quiet_all k key (greeting c e).happenings x (greeting_quiet c e)
      (holds_does config key (greeting c) v (gets_kept config sound (packets.Connect c) (opens e).end (opened_kept config sound e (h.books key))) (record { is = h.is; books = h.books; rows = h.rows })))

  new_kept : (client : List ℕ) (w : Work) → Kept w → Kept (new_session client w)
  unfolding new_session
  new_kept client w h =
      let n = w.hub.next_key in
      let s : HubSession = record { client = client; key = n; end = new_end w.hub.config; left = w.hub.clock } in
      record {
        is = h.is;
        books = λ c. subst (λ (e : End). IsKept config e.book) (sym (end_new s c w.hub.sessions))
            (cond_both (has c w.hub.sessions) (end_of c w.hub.sessions) (cond (eqb n c) (new_end w.hub.config) no_end) (λ e. IsKept config e.book) (λ t. h.books c)
            (λ t. cond_both (eqb n c) (new_end w.hub.config) no_end (λ e. IsKept config e.book) (λ t. blank_kept config ids) (λ t. blank_kept config ids)));
        rows = each_weaker (λ (r : Row). Stands w.hub.sessions r.0.0) (λ (r : Row). Stands (w.hub.sessions ++ s ∷ []) r.0.0)
            (λ r there. has_new s r.0.0 w.hub.sessions ∙ cond-true (has r.0.0 w.hub.sessions) true (eqb n r.0.0) there) w.hub.rows h.rows;
      }

  new_still : (client : List ℕ) (w : Work) → (new_session client w).did ≡ w.did
  unfolding new_session
  new_still client w = refl

  greet_new_goes : (k : Conn) (c : Connect) (client : List ℕ) (w : Work) → Kept w → Goes w [] (start_session k c client w)
  greet_new_goes k c client w h =
      let v = new_session client w in
      after_quiet w v (start_session k c client w) [] (same_still w.did v.did (new_still client w)) (greet_goes k c w.hub.next_key v (new_kept client w h))

  take_over_goes : (o : Option Conn) (fits : Bool) (w : Work) → Kept w → Goes w (in_take_over o fits w) (take_over o fits w)
  take_over_goes None fits w h = quiet w w (λ c. refl) h
  take_over_goes (Some k) fits w h = close_goes k TakenOver fits w h

  goes_on_goes : (k : Conn) (c : Connect) (client : List ℕ) (key : ℕ) (ends : Bool) (w : Work) → Kept w → Goes w [] (goes_on k c client key ends w)
  unfolding goes_on
  goes_on_goes k c client key true w h = greet_new_goes k c client w h
  goes_on_goes k c client key false w h =
      let v = remove key w in
      cond_both c.clean_session (start_session k c client v) (resume_session k c key w) (Goes w [])
      (λ e. after_quiet w v (start_session k c client v) [] (remove_if_still true key w) (greet_new_goes k c client v (remove_kept key w h))) (λ e. greet_goes k c key w h)

  admit_goes : (k : Conn) (c : Connect) (client : List ℕ) (o : Option ℕ) (fits : Bool) (w : Work) → Kept w → Goes w (in_welcome k o None fits w) (accept_connect k c client o fits w)
  admit_goes k c client None fits w h = greet_new_goes k c client w h
  admit_goes k c client (Some key) fits w h =
      let old = up_on key w.hub.connections in
      let v = take_over old fits w in
      let t = take_over_goes old fits w h in
      then_quiet w v (goes_on k c client key (ends_with key w.hub) v) (in_take_over old fits w) t (goes_on_goes k c client key (ends_with key w.hub) v t.kept)

  welcomes_go : (k : Conn) (c : Connect) (code : Option RefusalCode) (fits : Bool) (w : Work) → Kept w
      → Goes w (in_welcome k (key_of (client_of c w.hub.sessions) w.hub.sessions) code fits w) (on_connect k c code fits w)
  unfolding on_connect
  welcomes_go k c (Some code) fits w h = put_close k (packets.ConnAck (connacks.Refused code) ∷ []) (Own (reasons.Refused code)) fits w h
  welcomes_go k c None fits w h = admit_goes k c (client_of c w.hub.sessions) (key_of (client_of c w.hub.sessions) w.hub.sessions) fits w h

  first_goes : (k : Conn) (p : Packet) (fits : Bool) (w : Work) → Kept w → Goes w (in_first k p fits w) (on_first_packet k p fits w)
  unfolding on_first_packet
  first_goes k (packets.Connect c) fits w h = welcomes_go k c (refusal c w.hub) fits w h
  first_goes k p fits w h = close_goes k (Own reasons.Unexpected) fits w h

  -- ---- any packet

  packet_goes : (k : Conn) (p : Packet) (fits : Bool) (s : ConnectionState) (w : Work) → Kept w → Goes w (in_packet k p fits s w) (dispatch_packet k p fits s w)
  unfolding dispatch_packet
  packet_goes k p fits AwaitingConnect w h = first_goes k p fits w h
  packet_goes k p fits (ConnectedAs key terms last_activity) w h = go (is_too_broad p w.hub)
    where
      passed : List Placing
      passed = in_replies k key (server_gets p) (server_gets p (end_of key w.hub.sessions)).close fits w

      go : (b : Bool) → Goes w (cond b (in_close k TooManyMatches fits w) passed) (cond b (close k TooManyMatches fits w) (on_passed_packet k key p fits w))
      go true = close_goes k TooManyMatches fits w h
      go false = replies_go k key p (server_gets p (end_of key w.hub.sessions)).close fits w h
  packet_goes k p fits Closed w h = quiet w w (λ c. refl) h

  arrives_goes : (k : Conn) (p : Packet) (g : Growth) (w : Work) → Kept w → Goes w (in_on_packet k p g w) (arrives k p g w)
  unfolding arrives
  arrives_goes k p g w h = go g.fits
    where
      go : (b : Bool) → Goes w (cond b (in_packet k p g.will_fits (stage_of k w.hub.connections) (touched_on k w)) (in_close k (Own reasons.Memory) g.will_fits w))
          (cond b (dispatch_packet k p g.will_fits (stage_of k w.hub.connections) (touched_on k w)) (close k (Own reasons.Memory) g.will_fits w))
      go true =
          let touched = touched_on k w in
          let a = packet_goes k p g.will_fits (stage_of k w.hub.connections) touched (record { is = h.is; books = h.books; rows = h.rows }) in
          record { accepts = a.accepts; kept = a.kept; whole = a.whole; places = a.places }
      go false = close_goes k (Own reasons.Memory) g.will_fits w h

  takes_goes : (k : Conn) (p : Packet) (g : Growth) (w : Work) → Kept w → Goes w (in_on_packet k p g w) (on_packet k p g w)
  unfolding on_packet
  takes_goes k p g w h =
      let a = arrives_goes k p g w h in
      record { accepts = a.accepts; kept = record { is = a.kept.is; books = a.kept.books; rows = a.kept.rows }; whole = a.whole; places = a.places }

  breaks_go : (k : Conn) (fault : DecodeFault) (fits : Bool) (w : Work) → Kept w → Goes w (in_breaks k (broken k fault w).close fits (put_on k (broken k fault w).out w)) (on_malformed k fault fits w)
  unfolding on_malformed
  breaks_go k fault fits w h = go (broken k fault w).close
    where
      go : (c : Option CloseReason) → Goes w (in_breaks k c fits (put_on k (broken k fault w).out w)) (closes_by k c fits (put_on k (broken k fault w).out w))
      go None = let v = put_on k (broken k fault w).out w in quiet w v (same_still w.did v.did (put_did k (broken k fault w).out w)) (put_kept k (broken k fault w).out w h)
      go (Some reason) = put_close k (broken k fault w).out (Own reason) fits w h

  -- ---- events

  comes_go : (limits : Bounds) (k : Conn) (b : List ℕ) (w w2 : Work) (c : OnBytes limits k b w w2) → Kept w → Goes w (in_on_bytes limits k b w w2 c) w2
  comes_go limits k b w w2 (Arrives p first rest g v v2 on reads more) h =
      let t = takes_goes k p g v h in
      go_on v (on_packet k p g v) v2 (in_on_packet k p g v) (in_on_bytes limits k rest (on_packet k p g v) v2 more) t (comes_go limits k rest (on_packet k p g v) v2 more t.kept)
  comes_go limits k b w w2 (Waits c v on pending) h = quiet v (holding k c v) (λ c. refl) (record { is = h.is; books = h.books; rows = h.rows })
  comes_go limits k b w w2 (Breaks c fault fits v on faulty) h = breaks_go k fault fits v h
  comes_go limits k b w w2 (Starves c fits v on some) h = close_goes k (Own reasons.Memory) fits v h
  comes_go limits k b w w2 (LetsGo c v closed) h = quiet v v (λ c. refl) h

  ticks_go : (within : Option ℕ) (now : ℕ) (xs : List HubConnection) (w w2 : Work) (t : OnTick within now xs w w2) → Kept w → Goes w (in_on_tick within now xs w w2 t) w2
  ticks_go within now xs w w2 (Done v) h = quiet v v (λ c. refl) h
  ticks_go within now xs w w2 (InTime x ys v v2 soon more) h = ticks_go within now ys v v2 more h
  ticks_go within now xs w w2 (Late x ys why fits v v2 late more) h =
      let u = close x.conn why fits v in
      let c = close_goes x.conn why fits v h in
      go_on v u v2 (in_close x.conn why fits v) (in_on_tick within now ys u v2 more) c (ticks_go within now ys u v2 more c.kept)

  ended_goes : (k : Conn) (alive fits : Bool) (w : Work) → Kept w → Goes w (cond alive (in_close k PeerEnded fits w) []) (close_if_open k alive fits w)
  ended_goes k true fits w h = close_goes k PeerEnded fits w h
  ended_goes k false fits w h = quiet w w (λ c. refl) h

  event_goes : (h : HubState) (e : HubEvent) (r : HubReply) (w : Work) (d : Does h e r w) → Holds config h → Goes (begin h) (in_step h e r w d) w
  event_goes h (Opened k) r w d s = quiet (begin h) w (same_still [] w.did (ap (λ (w : Work). w.did) d.0)) (subst Kept (sym d.0) (record { is = s.is; books = s.books; rows = s.rows }))
  event_goes h (Bytes k piece) r w d s =
      let v = holding k [] (begin h) in
      let b = held_on k h.connections ++ piece in
      after_quiet (begin h) v w (in_on_bytes h.config.limits k b v w d.0) (λ c. refl) (comes_go h.config.limits k b v w d.0 (record { is = s.is; books = s.books; rows = s.rows }))
  event_goes h (Ended k) r w d s =
      let alive = is_open (stage_of k h.connections) in
      let over = ended_goes k alive d.0 (begin h) s in
      subst (Goes (begin h) (cond alive (in_close k PeerEnded d.0 (begin h)) [])) (sym d.1)
      (record { accepts = over.accepts; kept = record { is = over.kept.is; books = over.kept.books; rows = over.kept.rows }; whole = over.whole; places = over.places })
  event_goes h (Tick now) r w d s =
      let v = expire (with_clock now h) in
      after_quiet (begin h) v w (in_on_tick h.config.connect_within (max h.clock now) h.connections v w d.0) (expire_still (with_clock now h))
      (ticks_go h.config.connect_within (max h.clock now) h.connections v w d.0 (expire_kept (with_clock now h) (record { is = s.is; books = s.books; rows = s.rows })))
  event_goes h (Collect k) r w d s = quiet (begin h) w (same_still [] w.did (ap (λ (w : Work). w.did) d.0)) (subst Kept (sym d.0) (record { is = s.is; books = s.books; rows = s.rows }))

  run_kept : (es : List Episode) (h h2 : HubState) → Follows h es h2 → Holds config h → Holds config h2
  run_kept [] h h2 f s = subst (Holds config) (sym f) s
  run_kept (e ∷ es) h h2 f s = run_kept es e.work.hub h2 f.2 (event_goes h e.event e.reply e.work f.1 s).kept

new_holds : (config : HubConfig) → IdentifierLaws → Holds config (new_hub config)
new_holds config ids = record { is = refl; books = λ c. blank_kept config ids; rows = tt }

module _ (ids : IdentifierLaws) (next : NextLaws) (sound : SoundLaws) (config : HubConfig) (small : config.capacity ≤ 65535) where
  last_activity : (es : List Episode) (h : HubState) → Follows (new_hub config) es h → Holds config h
  last_activity es h f = run_kept config ids next sound small es (new_hub config) h f (new_holds config ids)

  step : (before : List Episode) (h : HubState) → Follows (new_hub config) before h → (e : HubEvent) (r : HubReply) (w : Work) (d : Does h e r w) → Goes config ids next sound small (begin h) (in_step h e r w d) w
  step before h f e r w d = event_goes config ids next sound small h e r w d (last_activity before h f)

pub laws : IdentifierLaws → NextLaws → SoundLaws → AcceptLaws
laws ids next sound = record {
  books = λ config small es h f key. ((last_activity ids next sound config small es h f).books key).sound;
  accepts = λ config small before h f e r w right d. (step ids next sound config small before h f e r w d).accepts;
  none_missed = λ config closes small before h f e r w right d. (step ids next sound config small before h f e r w d).whole.0 (ap drops_copies closes);
  none_cut = λ config unlimited small before h f e r w right d. (step ids next sound config small before h f e r w d).whole.1 unlimited;
  stored = λ config most is small es h f key.
      subst (λ (o : Option ℕ). IsStored o (end_of key h.sessions).book) is ((last_activity ids next sound config small es h f).books key).stored;
  marked_are = λ config small before h f e r w right d c. ap (marked c) (acts_are h e r w d) ∙ (step ids next sound config small before h f e r w d).places c;
}
