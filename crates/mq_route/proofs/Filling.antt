-- A connection closes for a full session only at a packet that is too much.
use Rattle.std.proofs.Common.{◌≡◌, ◌⊎◌, inl, inr, ℕ, ◌+◌, ◌<◌, Bool, true, false, ◌&&◌, cond, List, [], ◌∷◌, ◌++◌, ◌||◌, map, Option, Some, None, refl, sym, ap, ap₂, subst, subst₂, ◌∙◌, true≢false, append-nil, nat_le, ◌-◌, length, arith, le-leb, eqb}
use Rattle.std.proofs.lemmas.Bool.{and_from, cond_both, leb-false}
use Rattle.mq_flow.specs.Sender.{uses}
use Rattle.mq_flow.specs.Stored.{message_bytes, stored_bytes}
use Rattle.std.proofs.lemmas.List.Sums.{sum_by-cons}
use Rattle.std.specs.List.{list_all}
use Rattle.mq_topic.specs.declared.qos.Qos.{Qos}
use Rattle.mq_topic.specs.declared.qos.Qos.TheVariants.{Q0, Q1, Q2}
use Rattle.mq_topic.specs.Rows.{with_row}
use Rattle.mq_topic.specs.StoreLaws.{StoreLaws}
use Rattle.mq_packet.specs.declared.message.Message.{Message}
use Rattle.mq_packet.specs.declared.publish.Delivery.{Delivery}
use Rattle.mq_packet.specs.declared.packet.Request.{Request}
use Rattle.mq_packet.specs.declared.packet.Packet.{Packet}
use Rattle.mq_packet.specs.declared.packet.Packet.TheVariants as packets
use Rattle.mq_decode.specs.Limits.{Bounds}
use Rattle.mq_end.specs.declared.reason.CloseReason.TheVariants as reasons
use Rattle.mq_end.specs.declared.state.State.{State}
use Rattle.mq_end.specs.declared.state.State.TheVariants.{Connected}
use Rattle.mq_end.specs.End.{End, Reply}
use Rattle.mq_flow.specs.Receiver.{is_new}
use Rattle.mq_flow.specs.Window.{fits_window}
use Rattle.mq_end.specs.declared.happening.Happening.{Happening}
use Rattle.mq_end.specs.declared.happening.Happening.TheVariants as happens
use Rattle.mq_end.specs.declared.reason.CloseReason.{CloseReason}
use Rattle.mq_end.specs.End.{closes}
use Rattle.mq_end.specs.Both.{has_identifier, stores, publish_gets}
use Rattle.mq_end.specs.Server.{server_gets, server_gets_in, server_up_gets}
use Rattle.mq_route.specs.declared.act.Act.{Act}
use Rattle.mq_route.specs.declared.act.Act.TheVariants as acts
use Rattle.mq_route.specs.declared.close.HubClose.TheVariants.{Own, TargetFull, TooManyMatches}
use Rattle.mq_route.specs.declared.conn.Conn.{Conn}
use Rattle.mq_route.specs.declared.event.HubEvent.{HubEvent}
use Rattle.mq_route.specs.declared.event.HubEvent.TheVariants.{Opened, Bytes, Ended, Tick, Collect}
use Rattle.mq_route.specs.declared.reply.HubReply.{HubReply}
use Rattle.mq_route.specs.declared.connection_state.ConnectionState.{ConnectionState}
use Rattle.mq_route.specs.declared.connection_state.ConnectionState.TheVariants.{AwaitingConnect, ConnectedAs, Closed}
use Rattle.mq_route.specs.Copies.{retained_for}
use Rattle.mq_route.specs.Routed.{Seen, seen, seen_after, routes, routed_from, copies_for}
use Rattle.mq_route.specs.Hub.{HubState, HubSession, new_hub, stage_of, is_open, key_on, held_on, end_of, for_key}
use Rattle.mq_route.specs.Work.{Work, begin, put_on, does, drops_copies, leaves, needs, needed_bytes, fits_in, all_fit, have_room, retained_copies, close}
use Rattle.mq_route.specs.Arrives.{Growth, due, due_by, touched, touched_on, answers_all, replies, on_passed_packet, is_too_broad, dispatch_packet, arrives, on_packet}
use Rattle.mq_route.specs.Step.{holding, OnBytes, Arrives, Waits, Breaks, Starves, LetsGo, Does, event_refusal, with_clock}
use Rattle.mq_route.specs.Runs.{Episode, Follows, acts_of}
use Rattle.mq_route.specs.Laws.{for_client}
use Rattle.mq_route.specs.Full.{if_full, full_closes, IsPublishOrSubscribe, asked_by, asked, identifiers_for, bytes_for, IsShortOf, IsAmong, IsTooMuch, ComesTooMuch, IsFullEvent, FullLaws}
use Rattle.mq_route.proofs.Changes.{Anywhere, anywhere, Freely, freely, nothing, Ways, Sound, sound_put, sound_mild}
use Rattle.mq_route.proofs.Closings.{May, Few, inner, outer, only, close_adds}
use Rattle.mq_route.proofs.Closings as closings
use Rattle.mq_route.proofs.Frames.{closed_shut}
use Rattle.mq_route.proofs.Steps.{heard_mild, stage_heard, takes_both, breaks_both, close_both, holding_both, tick_both, ended_both}
use Rattle.mq_route.proofs.Events.{sound_new}
use Rattle.mq_route.proofs.Output.{sound_run}
use Rattle.mq_route.proofs.Missing.{short_parts}
use Rattle.mq_route.specs.Begun.{view_of}
use Rattle.mq_route.proofs.Routing as routing
use Rattle.mq_route.proofs.Reading as reading
use Rattle.mq_route.specs.declared.config.HubConfig.{HubConfig}
use Rattle.mq_route.specs.declared.config.WhenFull.TheVariants.{ClosePublisher, DropCopy}

-- no cause is needed for a close for another reason
ways : (X : Type 0) → Ways (May if_full X)
ways X = closings.ways if_full X (λ reason k. refl) (λ k. refl) (λ k. refl)

-- ---- room

no_bytes : (o : Option ℕ) (used : ℕ) → leaves o used 0 ≡ true
no_bytes None used = refl
no_bytes (Some most) used = le-leb 0 (most - used) (omega arith)

all_room : (config : HubConfig) (ss : List HubSession) → list_all (fits_in config []) ss ≡ true
all_room config [] = refl
all_room config (s ∷ ss) =
    let room = config.capacity - length (uses s.end.book) in
    let bytes = leaves config.most_stored (stored_bytes s.end.book) 0 in
    and_from (nat_le 0 room && bytes) (list_all (fits_in config []) ss)
    (and_from (nat_le 0 room) bytes (le-leb 0 room (omega arith)) (no_bytes config.most_stored (stored_bytes s.end.book))) (all_room config ss)

or_last : (b c : Bool) → c ≡ true → (b || c) ≡ true
or_last true c e = refl
or_last false c e = e

-- there is room for no copies
room_none : (h : HubState) → have_room [] h ≡ true
unfolding have_room all_fit
room_none h = or_last (drops_copies h.config.when_full) (list_all (fits_in h.config []) h.sessions) (all_room h.config h.sessions)

-- a session has fewer identifiers free than its copies need, or may not store their bytes
abbrev IsShortBy : List (ℕ × Message) → HubConfig → HubSession → Type 0
IsShortBy copies config s =
    (config.capacity - length (uses s.end.book) < needs s.key copies)
    ⊎ (leaves config.most_stored (stored_bytes s.end.book) (needed_bytes s.key copies) ≡ false)

abbrev LacksRoom : List (ℕ × Message) → HubConfig → List HubSession → Type 0
LacksRoom copies config ss = (s : HubSession) × IsAmong s ss × IsShortBy copies config s

one_false : (a b : Bool) → (a && b) ≡ false → (a ≡ false) ⊎ (b ≡ false)
one_false true b e = inr e
one_false false b e = inl refl

lacks : (copies : List (ℕ × Message)) (config : HubConfig) (ss : List HubSession) → list_all (fits_in config copies) ss ≡ false → LacksRoom copies config ss
lacks copies config [] h = absurd (true≢false h)
lacks copies config (s ∷ ss) h = go (fits_in config copies s) refl h (lacks copies config ss)
  where
    room : ℕ
    room = config.capacity - length (uses s.end.book)

    short : (nat_le (needs s.key copies) room ≡ false) ⊎ (leaves config.most_stored (stored_bytes s.end.book) (needed_bytes s.key copies) ≡ false) → IsShortBy copies config s
    short (inl e) = inl (leb-false (needs s.key copies) room e)
    short (inr e) = inr e

    go : (b : Bool) → fits_in config copies s ≡ b → (b && list_all (fits_in config copies) ss) ≡ false
        → (list_all (fits_in config copies) ss ≡ false → LacksRoom copies config ss) → LacksRoom copies config (s ∷ ss)
    go true e h ih = let r = ih h in (r.0, inr r.1, r.2)
    go false e h ih =
        (s, inl refl, short (one_false (nat_le (needs s.key copies) room) (leaves config.most_stored (stored_bytes s.end.book) (needed_bytes s.key copies)) e))

not_room : (copies : List (ℕ × Message)) (h : HubState) → have_room copies h ≡ false → LacksRoom copies h.config h.sessions
unfolding all_fit
not_room copies h short = lacks copies h.config h.sessions (short_parts copies h short).1

needs_for : (key : ℕ) (copies : List (ℕ × Message)) → needs key copies ≡ identifiers_for (for_client key copies)
needs_for key [] = refl
needs_for key (x ∷ xs) = sum_by-cons (λ x. cond (eqb x.0 key && has_identifier x.1.qos) 1 0) x xs ∙ go (eqb x.0 key) (needs_for key xs)
  where
    go : (a : Bool) → needs key xs ≡ identifiers_for (for_client key xs)
        → cond (a && has_identifier x.1.qos) 1 0 + needs key xs ≡ identifiers_for (cond a (x.1 ∷ for_client key xs) (for_client key xs))
    go true ih =
        ap (λ (n : ℕ). cond (has_identifier x.1.qos) 1 0 + n) ih ∙ sym (sum_by-cons (λ (m : Message). cond (has_identifier m.qos) 1 0) x.1 (for_client key xs))
    go false ih = omega (arith, ih)

bytes_needed : (key : ℕ) (copies : List (ℕ × Message)) → needed_bytes key copies ≡ bytes_for (for_client key copies)
bytes_needed key [] = refl
bytes_needed key (x ∷ xs) = sum_by-cons (λ x. cond (eqb x.0 key && has_identifier x.1.qos) (message_bytes x.1) 0) x xs ∙ go (eqb x.0 key) (bytes_needed key xs)
  where
    go : (a : Bool) → needed_bytes key xs ≡ bytes_for (for_client key xs)
        → cond (a && has_identifier x.1.qos) (message_bytes x.1) 0 + needed_bytes key xs ≡ bytes_for (cond a (x.1 ∷ for_client key xs) (for_client key xs))
    go true ih =
        ap (λ (n : ℕ). cond (has_identifier x.1.qos) (message_bytes x.1) 0 + n) ih
        ∙ sym (sum_by-cons (λ (m : Message). cond (has_identifier m.qos) (message_bytes m) 0) x.1 (for_client key xs))
    go false ih = omega (arith, ih)

-- the session is short of the messages that are routed to its client
short_of : (copies : List (ℕ × Message)) (ms : List Message) (old config : HubConfig) (s : HubSession) → old ≡ config → for_client s.key copies ≡ ms → IsShortBy copies old s → IsShortOf config s ms
short_of copies ms old config s same is (inl less) =
    inl (subst₂ (λ (c : HubConfig) (n : ℕ). c.capacity - length (uses s.end.book) < n) same (needs_for s.key copies ∙ ap identifiers_for is) less)
short_of copies ms old config s same is (inr lack) =
    inr (subst₂ (λ (c : HubConfig) (n : ℕ). leaves c.most_stored (stored_bytes s.end.book) n ≡ false) same (bytes_needed s.key copies ∙ ap bytes_for is) lack)

-- ---- the due copies are those that the acts route

-- an end reports one thing at most
abbrev IsLone : List Happening → Type 0
IsLone happenings = (happenings ≡ []) ⊎ ((told : Happening) × (happenings ≡ told ∷ []))

handed_lone : (b : Bool) (m : Message) → IsLone (cond b (happens.Handed m ∷ []) [])
handed_lone true m = inr (happens.Handed m, refl)
handed_lone false m = inl refl

publish_lone : (q : Qos) (d : Option Delivery) (m : Message) (e : End) → IsLone (publish_gets q d m e).happenings
publish_lone Q0 None m e = inr (happens.Handed m, refl)
publish_lone Q1 (Some d) m e = inr (happens.Handed m, refl)
publish_lone Q2 (Some d) m e =
    cond_both (fits_window e.window d.id e.received) (stores d.id m e) (closes reasons.Window e) (λ (r : Reply). IsLone r.happenings) (λ t. handed_lone (is_new d.id e.received) m) (λ f. inl refl)
publish_lone q d m e = inl refl

-- only a PUBLISH or a SUBSCRIBE makes copies due
kind_of : (key : ℕ) (h : HubState) (p : Packet) (e : End) → have_room (due key h (server_up_gets p e).happenings) h ≡ false → IsPublishOrSubscribe p × IsLone (server_up_gets p e).happenings
kind_of key h (packets.Publish p) e short = (tt, publish_lone p.message.qos p.delivery p.message e)
kind_of key h (packets.Subscribe i requests) e short = (tt, inr (happens.Subscribe i requests, refl))
kind_of key h p e short = absurd (true≢false (sym (room_none h) ∙ short))

kind_up : (key : ℕ) (h : HubState) (p : Packet) (e : End) → e.state ≡ Connected → have_room (due key h (server_gets p e).happenings) h ≡ false → IsPublishOrSubscribe p × IsLone (server_gets p e).happenings
kind_up key h p e up short =
    subst (λ (s : State). IsPublishOrSubscribe p × IsLone (server_gets_in s p e).happenings) (sym up)
    (kind_of key h p e (subst (λ (s : State). have_room (due key h (server_gets_in s p e).happenings) h ≡ false) up short))

subscribe_routed : (c key : ℕ) (rs : List Request) (s : Seen) → for_client c (retained_copies key rs s.retained) ≡ routed_from c s (map (λ r. acts.Subscribed key r.filter r.qos) rs)
unfolding routes seen_after
subscribe_routed c key [] s = refl
subscribe_routed c key (r ∷ rs) s =
    let first = retained_for r.filter r.qos s.retained in
    routing.for_client-append c (for_key key first) (retained_copies key rs s.retained)
    ∙ ap₂ (λ (a b : List Message). a ++ b) (routing.for_client-key c key first) (subscribe_routed c key rs (record s { rows = with_row key r.filter r.qos s.rows }))

module _ (store : StoreLaws) (log : List Act) where
  told_routed : (h : HubState) (c key : ℕ) (told : Happening) (s : Seen) → s ≡ view_of c h → for_client c (due_by key h told) ≡ routed_from c s (asked_by key told)
  unfolding routes
  told_routed h c key (happens.Handed m) s e = routing.due_is store h c m ∙ ap (λ (s : Seen). copies_for c s m) (sym e) ∙ sym (append-nil (copies_for c s m))
  told_routed h c key (happens.Subscribe i requests) s e =
      ap (λ (ms : List Message). for_client c (retained_copies key requests ms)) (ap (λ (s : Seen). s.retained) (sym e)) ∙ subscribe_routed c key requests s
  told_routed h c key (happens.Up present) s e = refl
  told_routed h c key (happens.Unsubscribe i filters) s e = refl
  told_routed h c key (happens.SubAck i codes) s e = refl
  told_routed h c key (happens.UnsubAck i) s e = refl
  told_routed h c key happens.Pong s e = refl

  due_routed : (h : HubState) (c key : ℕ) (happenings : List Happening) → IsLone happenings → (s : Seen) → s ≡ view_of c h → for_client c (due key h happenings) ≡ routed_from c s (asked key happenings)
  due_routed h c key happenings (inl none) s e =
      ap (λ (l : List Happening). for_client c (due key h l)) none ∙ ap (λ (l : List Happening). routed_from c s (asked key l)) (sym none)
  due_routed h c key happenings (inr one) s e =
      ap (λ (l : List Happening). for_client c (due key h l)) one.1
      ∙ ap (for_client c) (append-nil (due_by key h one.0))
      ∙ told_routed h c key one.0 s e
      ∙ ap (routed_from c s) (sym (append-nil (asked_by key one.0)))
      ∙ ap (λ (l : List Happening). routed_from c s (asked key l)) (sym one.1)

-- ---- a packet for which a session has no room

-- a packet on a connected connection makes copies due for which a session has no room
pub record IsFull (k : Conn) (p : Packet) (w : Work) : Type 0 where
  pub key : ℕ
  pub up : key_on (stage_of k w.hub.connections) ≡ Some key
  pub state : (end_of key w.hub.sessions).state ≡ Connected
  pub short : have_room (due key w.hub (server_gets p (end_of key w.hub.sessions)).happenings) w.hub ≡ false

full_close : (k : Conn) (fits : Bool) (w : Work) → full_closes w.did ≡ [] → full_closes (close k TargetFull fits w).did ≡ k ∷ []
full_close k fits w none = close_adds if_full k TargetFull fits w ∙ ap (λ (l : List Conn). l ++ k ∷ []) none

-- a packet closes no connection for a full session, or its own
abbrev Leaves : Conn → Work → Type 0
Leaves k w = (full_closes w.did ≡ []) ⊎ ((full_closes w.did ≡ k ∷ []) × (stage_of k w.hub.connections ≡ Closed))

own_close : (k : Conn) (reason : CloseReason) (fits : Bool) (w : Work) → Sound w.hub → full_closes w.did ≡ [] → Leaves k (close k (Own reason) fits w)
own_close k reason fits w s none =
    inl (only (close_both (Few if_full [] ⊥) (May if_full ⊥) Anywhere (inner if_full [] ⊥) (outer if_full [] ⊥) (ways ⊥) anywhere k (Own reason) fits w tt (inl (λ k. refl)) (s, inl none)).1)

broad_close : (k : Conn) (fits : Bool) (w : Work) → Sound w.hub → full_closes w.did ≡ [] → Leaves k (close k TooManyMatches fits w)
broad_close k fits w s none =
    inl (only (close_both (Few if_full [] ⊥) (May if_full ⊥) Anywhere (inner if_full [] ⊥) (outer if_full [] ⊥) (ways ⊥) anywhere k TooManyMatches fits w tt (inl (λ k. refl)) (s, inl none)).1)

replies_full : (k : Conn) (key : ℕ) (p : Packet) (fits : Bool) (w : Work) → Sound w.hub → full_closes w.did ≡ []
    → have_room (due key w.hub (server_gets p (end_of key w.hub.sessions)).happenings) w.hub ≡ false → (c : Option CloseReason) → Leaves k (replies k key (server_gets p) c fits w)
unfolding replies put_on
replies_full k key p fits w s none short (Some reason) =
    let out = (server_gets p (end_of key w.hub.sessions)).out in own_close k reason fits (put_on k out w) (sound_put k out w s) none
replies_full k key p fits w s none short None =
    cond_both (have_room (due key w.hub (server_gets p (end_of key w.hub.sessions)).happenings) w.hub)
    (answers_all k key (server_gets p (end_of key w.hub.sessions)).happenings (does key (server_gets p) w)) (close k TargetFull fits w) (Leaves k)
    (λ room. absurd (true≢false (sym room ∙ short))) (λ full. inr (full_close k fits w none, closed_shut k TargetFull fits w))

dispatch_full : (k : Conn) (p : Packet) (fits : Bool) (s : ConnectionState) (now : ℕ) (w : Work) → Sound w.hub → full_closes w.did ≡ [] → (x : IsFull k p w) → key_on (touched now s) ≡ Some x.key
    → Leaves k (dispatch_packet k p fits s w)
unfolding dispatch_packet
dispatch_full k p fits AwaitingConnect now w s none x e = absurd cc
dispatch_full k p fits (ConnectedAs key terms last_activity) now w s none x e =
    let same : x.key ≡ key = cc in
    let short = subst (λ (key : ℕ). have_room (due key w.hub (server_gets p (end_of key w.hub.sessions)).happenings) w.hub ≡ false) same x.short in
    cond_both (is_too_broad p w.hub) (close k TooManyMatches fits w) (on_passed_packet k key p fits w) (Leaves k)
    (λ broad. broad_close k fits w s none)
    (λ narrow. replies_full k key p fits w s none short (server_gets p (end_of key w.hub.sessions)).close)
dispatch_full k p fits Closed now w s none x e = absurd cc

takes_full : (k : Conn) (p : Packet) (g : Growth) (w : Work) → Sound w.hub → full_closes w.did ≡ [] → IsFull k p (touched_on k w) → Leaves k (on_packet k p g w)
unfolding on_packet arrives
takes_full k p g w s none x =
    cond_both g.fits (dispatch_packet k p g.will_fits (stage_of k w.hub.connections) (touched_on k w)) (close k (Own reasons.Memory) g.will_fits w) (Leaves k)
    (λ fits. dispatch_full k p g.will_fits (stage_of k w.hub.connections) w.hub.clock (touched_on k w)
    (sound_mild (λ x. record x { stage = touched w.hub.clock x.stage }) k w (heard_mild w.hub.clock) s) none x (ap key_on (sym (stage_heard k w)) ∙ x.up))
    (λ starved. own_close k reasons.Memory g.will_fits w s none)

-- a closed connection ignores the bytes that follow
pub lets_go : (limits : Bounds) (k : Conn) (b : List ℕ) (w w2 : Work) → OnBytes limits k b w w2 → stage_of k w.hub.connections ≡ Closed → w2 ≡ w
lets_go limits k b w w2 (Arrives p first rest g v v2 on reads more) e = absurd (true≢false (sym on ∙ ap is_open e))
lets_go limits k b w w2 (Waits c v on pending) e = absurd (true≢false (sym on ∙ ap is_open e))
lets_go limits k b w w2 (Breaks c fault fits v on faulty) e = absurd (true≢false (sym on ∙ ap is_open e))
lets_go limits k b w w2 (Starves c fits v on some) e = absurd (true≢false (sym on ∙ ap is_open e))
lets_go limits k b w w2 (LetsGo c v closed) e = refl

-- the time of activity doesn't change the client of a connection
pub key_touched : (now : ℕ) (s : ConnectionState) → key_on (touched now s) ≡ key_on s
key_touched now AwaitingConnect = refl
key_touched now (ConnectedAs key terms last_activity) = refl
key_touched now Closed = refl

-- ---- the bytes of an event

module _ (store : StoreLaws) (log : List Act) (config : HubConfig) where
  -- the acts describe the work, and its configuration is this
  abbrev Told : Work → Type 0
  Told w = routing.Tells store (routing.unseen store) log nothing w × (w.hub.config ≡ config)

  too_much : (k : Conn) (p : Packet) (g : Growth) (w : Work) → Told w → IsFull k p (touched_on k w) → full_closes w.did ≡ [] → full_closes (on_packet k p g w).did ≡ k ∷ [] → IsTooMuch log config k p g w
  too_much k p g w told x none closes =
      let u = touched_on k w in
      let happenings = (server_gets p (end_of x.key u.hub.sessions)).happenings in
      let kind = kind_up x.key u.hub p (end_of x.key u.hub.sessions) x.state x.short in
      let lack = not_room (due x.key u.hub happenings) u.hub x.short in
      let after = (routing.outer store (routing.unseen store) log).mild (λ x. record x { stage = touched w.hub.clock x.stage }) k nothing w (heard_mild w.hub.clock) told.0 in
      record {
        key = x.key;
        connected = sym (key_touched w.hub.clock (stage_of k w.hub.connections)) ∙ ap key_on (sym (stage_heard k w)) ∙ x.up;
        kind = kind.0;
        session = lack.0;
        exists = lack.1;
        short = short_of (due x.key u.hub happenings) (routed_from lack.0.key (seen lack.0.key (log ++ w.did)) (asked x.key happenings)) u.hub.config config lack.0 told.1
            (due_routed store log u.hub lack.0.key x.key happenings kind.1 (seen lack.0.key (log ++ w.did)) (after.0 lack.0.key)) lack.2;
        none_before = none;
        closes = closes;
      }

  -- copies without room are not dropped
  policy : (k : Conn) (p : Packet) (w : Work) → w.hub.config ≡ config → IsFull k p (touched_on k w) → config.when_full ≡ ClosePublisher
  policy k p w same x =
      let u = touched_on k w in
      subst (λ (c : HubConfig). c.when_full ≡ ClosePublisher) same (short_parts (due x.key u.hub (server_gets p (end_of x.key u.hub.sessions)).happenings) u.hub x.short).0

  few_comes : (limits : Bounds) (k : Conn) (b : List ℕ) (w w2 : Work) (c : OnBytes limits k b w w2) → Sound w.hub → Told w → full_closes w.did ≡ []
      → (full_closes w2.did ≡ []) ⊎ ((config.when_full ≡ ClosePublisher) × (full_closes w2.did ≡ k ∷ []) × ComesTooMuch log config limits k b w w2 c)
  few_comes limits k b w w2 (Arrives p first rest g v v2 on reads more) s told none =
      let X : Type 0 = IsFull k p (touched_on k v) in
      let t = takes_both (Few if_full [] X) (May if_full X) Anywhere (inner if_full [] X) (outer if_full [] X) (ways X) anywhere k p g v tt tt
      ((λ key up state short. inr (record { key = key; up = up; state = state; short = short })), (λ key up broad. inl (λ k. refl))) (s, inl none) in
      let a = takes_both (routing.Tells store (routing.unseen store) log) Freely Anywhere (routing.inner store (routing.unseen store) log) (routing.outer store (routing.unseen store) log) freely anywhere k p g v tt tt ((λ key up state short. tt), (λ key up broad. tt)) (s, told.0) in
      let same = takes_both (reading.Same config) Freely Anywhere (reading.same_inner config) (reading.same_outer config) freely anywhere k p g v tt tt ((λ key up state short. tt), (λ key up broad. tt)) (s, told.1) in
      go t.1 (λ none. few_comes limits k rest (on_packet k p g v) v2 more t.0 (a.1, same.1) none)
    where
      now : Work
      now = on_packet k p g v

      Ends : Type 0
      Ends = (full_closes v2.did ≡ []) ⊎ ((config.when_full ≡ ClosePublisher) × (full_closes v2.did ≡ k ∷ []) × (IsTooMuch log config k p g v ⊎ ComesTooMuch log config limits k rest now v2 more))

      More : Type 0
      More = (full_closes v2.did ≡ []) ⊎ ((config.when_full ≡ ClosePublisher) × (full_closes v2.did ≡ k ∷ []) × ComesTooMuch log config limits k rest now v2 more)

      later : More → Ends
      later (inl e) = inl e
      later (inr x) = inr (x.0, x.1, inr x.2)

      here : IsFull k p (touched_on k v) → Leaves k now → (full_closes now.did ≡ [] → More) → Ends
      here x (inl e) ih = later (ih e)
      here x (inr e) ih = inr (policy k p v told.1 x, ap (λ (w : Work). full_closes w.did) (lets_go limits k rest now v2 more e.1) ∙ e.0, inl (too_much k p g v told x none e.0))

      go : (full_closes now.did ≡ []) ⊎ IsFull k p (touched_on k v) → (full_closes now.did ≡ [] → More) → Ends
      go (inl e) ih = later (ih e)
      go (inr x) ih = here x (takes_full k p g v s none x) ih
  few_comes limits k b w w2 (Waits c v on pending) s told none = inl none
  few_comes limits k b w w2 (Breaks c fault fits v on faulty) s told none =
      inl (only (breaks_both (Few if_full [] ⊥) (May if_full ⊥) Anywhere (inner if_full [] ⊥) (outer if_full [] ⊥) (ways ⊥) anywhere k fault fits v tt tt (s, inl none)).1)
  few_comes limits k b w w2 (Starves c fits v on some) s told none =
      inl (only (close_both (Few if_full [] ⊥) (May if_full ⊥) Anywhere (inner if_full [] ⊥) (outer if_full [] ⊥) (ways ⊥) anywhere k (Own reasons.Memory) fits v tt (inl (λ k. refl)) (s, inl none)).1)
  few_comes limits k b w w2 (LetsGo c v closed) s told none = inl none

module _ (store : StoreLaws) (log : List Act) where
  few_event : (h : HubState) (e : HubEvent) (r : HubReply) (w : Work) (d : Does h e r w) → Sound h → routing.Agrees store (routing.unseen store) log h [] → (full_closes w.did ≡ []) ⊎ IsFullEvent log h e r w d
  few_event h (Opened k) r w d s a = inl (ap (λ (w : Work). full_closes w.did) d.0)
  few_event h (Bytes k piece) r w d s a =
      let start = holding_both (routing.Tells store (routing.unseen store) log) Freely Anywhere (routing.inner store (routing.unseen store) log) (routing.outer store (routing.unseen store) log) freely anywhere k [] (begin h) (λ t. routing.holds_tells store (routing.unseen store) log k [] (begin h) t) (s, routing.starts store (routing.unseen store) log h a) in
      few_comes store log h.config h.config.limits k (held_on k h.connections ++ piece) (holding k [] (begin h)) w d.0 start.0 (start.1, refl) refl
  few_event h (Ended k) r w d s a =
      inl (ap (λ (w : Work). full_closes w.did) d.1
      ∙ only (ended_both (Few if_full [] ⊥) (May if_full ⊥) Anywhere (inner if_full [] ⊥) (outer if_full [] ⊥) (ways ⊥) anywhere k (is_open (stage_of k h.connections)) d.0 (begin h) tt (s, inl refl)).1)
  few_event h (Tick now) r w d s a =
      inl (only (tick_both (Few if_full [] ⊥) (May if_full ⊥) Anywhere (inner if_full [] ⊥) (outer if_full [] ⊥) (ways ⊥) anywhere (λ fits w. tt) (inl (λ k. refl)) (with_clock now h) w d.0 (s, inl refl)).1)
  few_event h (Collect k) r w d s a = inl (ap (λ (w : Work). full_closes w.did) d.0)

-- under DropCopy no event is too much
never_event : (log : List Act) (h : HubState) (e : HubEvent) (r : HubReply) (w : Work) (d : Does h e r w) → h.config.when_full ≡ DropCopy → (full_closes w.did ≡ []) ⊎ IsFullEvent log h e r w d → full_closes w.did ≡ []
never_event log h e r w d drops (inl none) = none
never_event log h (Bytes k piece) r w d drops (inr x) = absurd (let clash : DropCopy ≡ ClosePublisher = sym drops ∙ x.0 in cc)
never_event log h (Opened k) r w d drops (inr x) = absurd x
never_event log h (Ended k) r w d drops (inr x) = absurd x
never_event log h (Tick now) r w d drops (inr x) = absurd x
never_event log h (Collect k) r w d drops (inr x) = absurd x

pub laws : StoreLaws → FullLaws
laws store = record {
  closes = full;
  never = λ config drops before h f e r w right d.
      let same = reading.same_run before (new_hub config) h f (sound_new config) in
      never_event (acts_of before) h e r w d (ap (λ (c : HubConfig). c.when_full) same ∙ drops) (full config before h f e r w right d);
}
  where
    full : (config : HubConfig) (before : List Episode) (h : HubState) → Follows (new_hub config) before h → (e : HubEvent) (r : HubReply) (w : Work) → event_refusal e h ≡ None → (d : Does h e r w)
        → (full_closes w.did ≡ []) ⊎ IsFullEvent (acts_of before) h e r w d
    full config before h f e r w right d =
        few_event store (acts_of before) h e r w d (sound_run before (new_hub config) h f (sound_new config))
        (routing.tells_run store (routing.unseen store) before [] (new_hub config) h f (sound_new config) (λ c. refl, λ c. refl))
