-- Properties that packets, opened and ended connections, and ticks keep.
use Rattle.std.proofs.Common.{◌≡◌, ℕ, Bool, true, false, not, ◌&&◌, cond, List, [], ◌∷◌, ◌++◌, length, map, filter, Option, Some, None, is_some, refl, sym, ap, subst, ◌∙◌, eqb, eq-eqb, true≢false, le_refl}
use Rattle.std.proofs.lemmas.Bool.{cond-true, cond-false, cond_both, false_from_ne_true}
use Rattle.std.specs.Option.{option_or}
use Rattle.mq_packet.specs.declared.connack.ConnAck.TheVariants as connacks
use Rattle.mq_packet.specs.declared.connack.RefusalCode.{RefusalCode}
use Rattle.mq_packet.specs.declared.connack.RefusalCode.TheVariants.{IdentifierRejected, ServerUnavailable}
use Rattle.mq_packet.specs.declared.connect.Connect.{Connect}
use Rattle.mq_packet.specs.declared.packet.Packet.{Packet}
use Rattle.mq_packet.specs.declared.packet.Packet.TheVariants as packets
use Rattle.mq_decode.specs.declared.fault.DecodeFault.{DecodeFault}
use Rattle.mq_decode.specs.Limits.{Bounds}
use Rattle.mq_end.specs.declared.happening.Happening.{Happening}
use Rattle.mq_end.specs.declared.reason.CloseReason.{CloseReason}
use Rattle.mq_end.specs.declared.reason.CloseReason.TheVariants as reasons
use Rattle.mq_end.specs.declared.state.State.TheVariants.{Connected}
use Rattle.mq_end.specs.End.{End, renewed}
use Rattle.mq_end.specs.KeepAlive.{is_late}
use Rattle.mq_end.specs.Server.{opens, server_gets}
use Rattle.mq_route.specs.declared.act.Act.TheVariants as acts
use Rattle.mq_route.specs.declared.conn.Conn.{Conn}
use Rattle.mq_route.specs.declared.close.HubClose.{HubClose}
use Rattle.mq_route.specs.declared.close.HubClose.TheVariants.{Own, TargetFull, TakenOver, PeerEnded, NoConnect, TooManyMatches}
use Rattle.mq_route.specs.declared.connection_state.ConnectionState.{ConnectionState}
use Rattle.mq_route.specs.declared.connection_state.ConnectionState.TheVariants.{AwaitingConnect, ConnectedAs, Closed}
use Rattle.mq_route.specs.declared.connection_state.ConnectionTerms.{ConnectionTerms}
use Rattle.mq_route.specs.Routed.{same_conn}
use Rattle.mq_route.specs.Hub.{HubState, HubSession, HubConnection, new_end, no_end, stage_of, with_connection, is_open, key_on, is_clean, is_for, up_on, end_of, end_on, key_of}
use Rattle.mq_route.specs.Welcome.{client_of, refusal, refusal_by_tables, is_unavailable, ends_on}
use Rattle.mq_route.specs.Work.{Work, begin, said, with_connections, staged, shut, put_on, does, have_room, remove, will_after, leaves_behind, shut_down, close}
use Rattle.mq_route.specs.Arrives.{Growth, due, answers, answers_all, replies, greeting, terms_of, resume_session, new_session, start_session, take_over, goes_on, accept_connect, on_connect, on_first_packet, on_passed_packet, is_too_broad, dispatch_packet, touched, touched_on, arrives, noted, on_packet, closes_by, broken, on_malformed}
use Rattle.mq_route.specs.Step.{holding, OnBytes, Arrives, Waits, Breaks, Starves, LetsGo, OnTick, Done, InTime, Late, has_passed, late_reason, is_expired, expired_keys, remove_all, expire, close_if_open}
use Rattle.mq_route.proofs.Lines.{one_conn, upper, up_is, upper_none, conn_in, Mild, stage_here, fresh_known}
use Rattle.mq_route.proofs.Uppers.{IsIdle, unless, upper_at, upper_stage}
use Rattle.mq_route.proofs.Sessions.{has, has_new, end_new, key_there}
use Rattle.mq_route.proofs.Ends.{AreAnswers, faulted_answers, gets_answers, stays_up, greets}
use Rattle.mq_route.proofs.Changes.{Debt, owes, nothing, Inner, Outer, Ways, Nearby, Sound, closing, not_up, is_tied, is_idle, sound_inner, sound_mild, sound_holding, sound_gets, sound_shuts, sound_closes, sound_removes, sound_begins, sound_rises, upper_shut, unless_itself}
use Rattle.mq_route.proofs.Walk.{last_will_keeps, answers_all_keeps}
use Rattle.mq_route.proofs.Frames.{stage_firm, upper_firm, lines_inner, lines_closed, closed_shut, closed_other, has_closed}

-- ---- connections

pub heard_mild : (now : ℕ) → Mild (λ x. record x { stage = touched now x.stage })
heard_mild now x = (refl, refl, λ c. go c x.stage, clean x.stage, refl, opens x.stage)
  where
    go : (c : ℕ) (s : ConnectionState) → is_for c (touched now s) ≡ is_for c s
    go c AwaitingConnect = refl
    go c (ConnectedAs key terms last_activity) = refl
    go c Closed = refl

    clean : (s : ConnectionState) → is_clean (touched now s) ≡ is_clean s
    clean AwaitingConnect = refl
    clean (ConnectedAs key terms last_activity) = refl
    clean Closed = refl

    opens : (s : ConnectionState) → is_open (touched now s) ≡ is_open s
    opens AwaitingConnect = refl
    opens (ConnectedAs key terms last_activity) = refl
    opens Closed = refl

-- the state of a connection after a packet arrived on it
pub stage_heard : (k : Conn) (w : Work) → stage_of k (touched_on k w).hub.connections ≡ touched w.hub.clock (stage_of k w.hub.connections)
stage_heard k w = stage_here (λ x. record x { stage = touched w.hub.clock x.stage }) (touched w.hub.clock) k w.hub.connections (λ x. refl) (λ x. refl) refl

-- ---- CONNECT

-- an accepted CONNECT has a client identifier, or clean session 1
pub accepted : (c : Connect) (h : HubState) → refusal c h ≡ None → (not c.clean_session && eqb (length c.client_id) 0) ≡ false
unfolding refusal
accepted c h none = go (eqb (length c.client_id) 0) c.clean_session none
  where
    go : (empty clean : Bool)
        → cond (empty && not clean) (Some IdentifierRejected) (option_or (refusal_by_tables h.config.users h.config.hashed_users c.login) (cond (is_unavailable c (key_of (client_of c h.sessions) h.sessions) h) (Some ServerUnavailable) None)) ≡ None
        → (not clean && empty) ≡ false
    go true true e = refl
    go false true e = refl
    go false false e = refl
    go true false e = absurd cc

-- a packet on a connected connection may close it if a session has no room, or if it is a SUBSCRIBE
-- that is too broad
abbrev pub Fills : (HubClose → Type 0) → Conn → Packet → Work → Type 0
Fills May k p w = ((key : ℕ) → key_on (stage_of k w.hub.connections) ≡ Some key → (end_of key w.hub.sessions).state ≡ Connected
    → have_room (due key w.hub (server_gets p (end_of key w.hub.sessions)).happenings) w.hub ≡ false → May TargetFull)
    × ((key : ℕ) → key_on (stage_of k w.hub.connections) ≡ Some key → is_too_broad p w.hub ≡ true → May TooManyMatches)

module _ {IsOwn : Conn → Type 0} (R : Debt → Work → Type 0) (May : HubClose → Type 0) (Near : Bool → Work → Type 0) (inner : Inner IsOwn R) (outer : Outer IsOwn R May Near) (ways : Ways May) (nearby : Nearby Near) where
  abbrev pub Both : Debt → Work → Type 0
  Both o w = Sound w.hub × R o w

  sound : Inner IsOwn (λ o w. Sound w.hub)
  sound = sound_inner IsOwn

  pub both : Inner IsOwn Both
  both = record {
    put = λ k ps o w own plain h. (sound.put k ps o w own plain h.0, inner.put k ps o w own plain h.1);
    moves = λ key e o w alike h. (sound.moves key e o w alike h.0, inner.moves key e o w alike h.1);
    marks = λ key now o w h. (sound.marks key now o w h.0, inner.marks key now o w h.1);
    took = λ key m t n w h. (h.0, inner.took key m t n w h.1);
    willed = λ key m w h. (h.0, inner.willed key m w h.1);
    placed = λ key m ps c t n w copy h. (sound.placed key m ps c t n w copy h.0, inner.placed key m ps c t n w copy h.1);
    missed = λ key m c t n w is h. (h.0, inner.missed key m c t n w is h.1);
    subscribed = λ key f q c t n w h. (h.0, inner.subscribed key f q c t n w h.1);
    unsubscribed = λ key f o w h. (h.0, inner.unsubscribed key f o w h.1);
  }

  mild_both : (f : HubConnection → HubConnection) (k : Conn) (o : Debt) (w : Work) → Mild f → Both o w → Both o (with_connections (with_connection f k) w)
  mild_both f k o w m h = (sound_mild f k w m h.0, outer.mild f k o w m h.1)

  -- ---- a close

  leaves_both : (k : Conn) (why : HubClose) (fits : Bool) (s : ConnectionState) (w : Work) → Near fits w → May why → stage_of k w.hub.connections ≡ s → Both nothing w → Both nothing (leaves_behind why fits s (said (acts.Closed k why) (shut k w)))
  unfolding leaves_behind
  leaves_both k why fits AwaitingConnect w near may e h =
      let free : IsIdle (stage_of k w.hub.connections) = subst IsIdle (sym e) (λ c. refl) in
      (sound_shuts k w h.0 free, outer.shuts k why w may h.0 free h.1)
  leaves_both k why fits (ConnectedAs key terms last_activity) w near may e h =
      last_will_keeps Both both key (will_after why terms.will) fits (closing k why key terms w)
      (λ m has short g. (g.0, outer.drops k why key terms last_activity fits w near e m has short g.1))
      (sound_closes k why key terms last_activity w h.0 e, outer.closes k why key terms last_activity w may h.0 e h.1)
  leaves_both k why fits Closed w near may e h =
      let free : IsIdle (stage_of k w.hub.connections) = subst IsIdle (sym e) (λ c. refl) in
      (sound_shuts k w h.0 free, outer.shuts k why w may h.0 free h.1)

  pub close_both : (k : Conn) (why : HubClose) (fits : Bool) (w : Work) → Near fits w → May why → Both nothing w → Both nothing (close k why fits w)
  unfolding close shut_down
  close_both k why fits w near may h =
      both.marks (key_on (stage_of k w.hub.connections)) w.hub.clock nothing (shut_down k why fits w)
      (leaves_both k why fits (stage_of k w.hub.connections) w near may refl h)

  -- ---- a packet on a connected connection

  -- the property after a packet, which is logged if its client was connected and its connection is
  -- open
  abbrev After : Option ℕ → Conn → Packet → Work → Type 0
  After on k p v = Both (owes [] [] (noted on (is_open (stage_of k v.hub.connections)) p)) v

  none_noted : (on : Option ℕ) (p : Packet) → noted on false p ≡ []
  none_noted None p = refl
  none_noted (Some key) p = refl

  after_closed : (on : Option ℕ) (k : Conn) (p : Packet) (why : HubClose) (fits : Bool) (w : Work) → Near fits w → May why → Both nothing w → After on k p (close k why fits w)
  after_closed on k p why fits w near may h =
      let v = close k why fits w in
      let none : noted on (is_open (stage_of k v.hub.connections)) p ≡ [] = ap (λ (s : ConnectionState). noted on (is_open s) p) (closed_shut k why fits w) ∙ none_noted on p in
      subst (λ (n : List (ℕ × Packet)). Both (owes [] [] n) v) (sym none) (close_both k why fits w near may h)

  after_open : (k : Conn) (key : ℕ) (terms : ConnectionTerms) (last_activity : ℕ) (p : Packet) (v : Work) → stage_of k v.hub.connections ≡ ConnectedAs key terms last_activity → Both (owes [] [] ((key, p) ∷ [])) v → After (Some key) k p v
  after_open k key terms last_activity p v e h = subst (λ (s : ConnectionState). Both (owes [] [] (noted (Some key) (is_open s) p)) v) (sym e) h

  module _ (k : Conn) (key : ℕ) (terms : ConnectionTerms) (last_activity : ℕ) (p : Packet) (fits : Bool) (w : Work) (own : IsOwn k) (near : Near fits w) (stage : stage_of k w.hub.connections ≡ ConnectedAs key terms last_activity) (h : Both nothing w)
      (full : have_room (due key w.hub (server_gets p (end_of key w.hub.sessions)).happenings) w.hub ≡ false → May TargetFull) where
    abbrev e : End
    e = end_of key w.hub.sessions

    up_tied : (has key w.hub.sessions ≡ true) × (e.state ≡ Connected) × (e.clean ≡ terms.clean_session)
    up_tied = is_tied key (k, terms.clean_session) w.hub h.0 (upper_at k key terms last_activity w.hub.connections h.0.apart stage)

    -- the client is connected on this connection
    is_home : (j : Conn) → up_on key w.hub.connections ≡ Some j → IsOwn j
    is_home j up =
        let here : up_on key w.hub.connections ≡ Some k = up_is key w.hub.connections ∙ ap conn_in (upper_at k key terms last_activity w.hub.connections h.0.apart stage) in
        let both : Some k ≡ Some j = sym here ∙ up in
        let same : k ≡ j = cc in
        subst IsOwn same own

    after_gets : (server_gets p e).close ≡ None → After (Some key) k p (answers_all k key (server_gets p e).happenings (does key (server_gets p) w))
    after_gets none =
        let g = stays_up key p e up_tied.1 none in
        let r = server_gets p e in
        let Stays : Debt → Work → Type 0 = λ o w. stage_of k w.hub.connections ≡ ConnectedAs key terms last_activity in
        let still = lines_inner (stage_of k) (stage_firm k) (ConnectedAs key terms last_activity) in
        after_open k key terms last_activity p (answers_all k key r.happenings (does key (server_gets p) w))
        (answers_all_keeps Stays still key k r.happenings ((key, p) ∷ []) (server_gets p) w g.told (λ j up. tt) (gets_answers p e) stage)
        (answers_all_keeps Both both key k r.happenings ((key, p) ∷ []) (server_gets p) w g.told is_home (gets_answers p e)
        (sound_gets key r.end w g.state g.clean h.0, outer.gets key p w h.0 up_tied.0 up_tied.1 g h.1))

    after_replies : (c : Option CloseReason) → (server_gets p e).close ≡ c → After (Some key) k p (replies k key (server_gets p) c fits w)
    unfolding replies
    after_replies (Some reason) is = after_closed (Some key) k p (Own reason) fits (put_on k (server_gets p e).out w) (nearby.put fits k (server_gets p e).out w near) (ways.own reason) (both.put k (server_gets p e).out nothing w own (gets_answers p e) h)
    after_replies None is =
        cond_both (have_room (due key w.hub (server_gets p e).happenings) w.hub) (answers_all k key (server_gets p e).happenings (does key (server_gets p) w)) (close k TargetFull fits w) (After (Some key) k p)
        (λ room. after_gets is) (λ short. after_closed (Some key) k p TargetFull fits w near (full short) h)

  -- ---- CONNECT

  greet_both : (k : Conn) (c : Connect) (key : ℕ) (w : Work) → IsOwn k → stage_of k w.hub.connections ≡ AwaitingConnect → (not c.clean_session && eqb (length c.client_id) 0) ≡ false → Both nothing w
      → upper key w.hub.connections ≡ None → has key w.hub.sessions ≡ true → (c.clean_session ≡ true → (end_of key w.hub.sessions).received ≡ (renewed true (end_of key w.hub.sessions)).received) → Both nothing (resume_session k c key w)
  unfolding resume_session answers
  greet_both k c key w own fresh ok h none there new =
      let e = end_of key w.hub.sessions in
      let g = greets c e ok (is_idle key w.hub h.0 none) new in
      let now = w.hub.clock in
      let known = fresh_known k w.hub.connections fresh in
      let free : IsIdle (stage_of k w.hub.connections) = subst IsIdle (sym fresh) (λ c. refl) in
      subst (λ (told : List Happening). Both nothing (answers_all k key told (does key (greeting c) (staged k (ConnectedAs key (terms_of c) now) w)))) (sym g.told) (
        sound_rises k key (terms_of c) now (greeting c) g.present w h.0 known free none there g.state g.clean,
        outer.rises k key (terms_of c) now (greeting c) g.present w own h.0 known fresh none there g.state g.clean g.received (gets_answers (packets.Connect c) (opens e).end) h.1,
      )

  greet_new_both : (k : Conn) (c : Connect) (client : List ℕ) (w : Work) → IsOwn k → stage_of k w.hub.connections ≡ AwaitingConnect → (not c.clean_session && eqb (length c.client_id) 0) ≡ false → Both nothing w → Both nothing (start_session k c client w)
  unfolding new_session
  greet_new_both k c client w own fresh ok h =
      let n = w.hub.next_key in
      let session : HubSession = record { client = client; key = n; end = new_end w.hub.config; left = w.hub.clock } in
      let none = h.0.keyless n (le_refl n) in
      let itself : eqb n n ≡ true = eq-eqb n n refl in
      let is_new : end_of n (w.hub.sessions ++ session ∷ []) ≡ new_end w.hub.config =
      (end_new session n w.hub.sessions ∙ cond-false (has n w.hub.sessions) (end_of n w.hub.sessions) (cond (eqb n n) (new_end w.hub.config) no_end) none ∙ cond-true (eqb n n) (new_end w.hub.config) no_end itself) in
      greet_both k c n (new_session client w) own fresh ok (sound_begins client w h.0, outer.begins client w h.0 h.1)
      (not_up n w.hub h.0 none)
      (has_new session n w.hub.sessions ∙ cond-false (has n w.hub.sessions) true (eqb n n) none ∙ itself)
      (λ clean. subst (λ (e : End). e.received ≡ (renewed true e).received) (sym is_new) refl)

  goes_on_both : (k : Conn) (c : Connect) (client : List ℕ) (key : ℕ) (ends : Bool) (w : Work) → IsOwn k → stage_of k w.hub.connections ≡ AwaitingConnect → (not c.clean_session && eqb (length c.client_id) 0) ≡ false → Both nothing w
      → upper key w.hub.connections ≡ None → (ends ≡ false → has key w.hub.sessions ≡ true) → Both nothing (goes_on k c client key ends w)
  unfolding goes_on remove
  goes_on_both k c client key true w own fresh ok h none there = greet_new_both k c client w own fresh ok h
  goes_on_both k c client key false w own fresh ok h none there =
      cond_both c.clean_session (start_session k c client (remove key w)) (resume_session k c key w) (Both nothing)
      (λ clean. greet_new_both k c client (remove key w) own fresh ok (sound_removes key w h.0 none, outer.removes key w h.0 none h.1))
      (λ keeps. greet_both k c key w own fresh ok h none (there refl) (λ clean. absurd (true≢false (sym clean ∙ keeps))))

  conn_up : (k : Conn) (o : Option (Conn × Bool)) → conn_in o ≡ Some k → (clean : Bool) × (o ≡ Some (k, clean))
  conn_up k None e = absurd cc
  conn_up k (Some u) e = let same : u.0 ≡ k = cc in (u.1, ap (λ (n : Conn). Some (n, u.1)) same)

  over_both : (k : Conn) (c : Connect) (client : List ℕ) (key : ℕ) (fits : Bool) (w : Work) → IsOwn k → Near fits w → stage_of k w.hub.connections ≡ AwaitingConnect → (not c.clean_session && eqb (length c.client_id) 0) ≡ false → Both nothing w
      → has key w.hub.sessions ≡ true → (o : Option Conn) → up_on key w.hub.connections ≡ o → Both nothing (goes_on k c client key (ends_on o w.hub.connections) (take_over o fits w))
  over_both k c client key fits w own near fresh ok h there None e = goes_on_both k c client key false w own fresh ok h (upper_none key w.hub.connections e) (λ keeps. there)
  over_both k c client key fits w own near fresh ok h there (Some old) e =
      let u = conn_up old (upper key w.hub.connections) (sym (up_is key w.hub.connections) ∙ e) in
      let for_key : is_for key (stage_of old w.hub.connections) ≡ true = upper_stage key (old, u.0) w.hub.connections h.0.apart u.1 in
      let far : same_conn old k ≡ false = false_from_ne_true (same_conn old k) (λ same. true≢false (sym for_key ∙ ap (λ (n : Conn). is_for key (stage_of n w.hub.connections)) (one_conn old k same) ∙ ap (is_for key) fresh)) in
      let none : upper key (shut old w).hub.connections ≡ None = upper_shut old key w h.0.apart ∙ ap (unless old) u.1 ∙ unless_itself old u.0 in
      goes_on_both k c client key (is_clean (stage_of old w.hub.connections)) (close old TakenOver fits w) own (closed_other old k TakenOver fits w far ∙ fresh) ok (close_both old TakenOver fits w near ways.over h)
      (lines_closed (upper key) (upper_firm key) None old TakenOver fits w none) (λ keeps. has_closed key true old TakenOver fits w keeps there)

  admit_both : (k : Conn) (c : Connect) (client : List ℕ) (fits : Bool) (w : Work) → IsOwn k → Near fits w → stage_of k w.hub.connections ≡ AwaitingConnect → (not c.clean_session && eqb (length c.client_id) 0) ≡ false → Both nothing w
      → (o : Option ℕ) → key_of client w.hub.sessions ≡ o → Both nothing (accept_connect k c client o fits w)
  admit_both k c client fits w own near fresh ok h None e = greet_new_both k c client w own fresh ok h
  admit_both k c client fits w own near fresh ok h (Some key) e = over_both k c client key fits w own near fresh ok h (key_there client key w.hub.sessions e) (up_on key w.hub.connections) refl

  welcomes_both : (k : Conn) (c : Connect) (fits : Bool) (w : Work) → IsOwn k → Near fits w → stage_of k w.hub.connections ≡ AwaitingConnect → Both nothing w → (code : Option RefusalCode) → refusal c w.hub ≡ code → Both nothing (on_connect k c code fits w)
  unfolding on_connect
  welcomes_both k c fits w own near fresh h (Some code) e =
      let out = packets.ConnAck (connacks.Refused code) ∷ [] in
      close_both k (Own (reasons.Refused code)) fits (put_on k out w) (nearby.put fits k out w near) (ways.own (reasons.Refused code)) (both.put k out nothing w own refl h)
  welcomes_both k c fits w own near fresh h None e =
      admit_both k c (client_of c w.hub.sessions) fits w own near fresh (accepted c w.hub e) h (key_of (client_of c w.hub.sessions) w.hub.sessions) refl

  at_first_both : (k : Conn) (p : Packet) (fits : Bool) (w : Work) → IsOwn k → Near fits w → stage_of k w.hub.connections ≡ AwaitingConnect → Both nothing w → Both nothing (on_first_packet k p fits w)
  unfolding on_first_packet
  at_first_both k (packets.Connect c) fits w own near fresh h = welcomes_both k c fits w own near fresh h (refusal c w.hub) refl
  at_first_both k p fits w own near fresh h = close_both k (Own reasons.Unexpected) fits w near (ways.own reasons.Unexpected) h

  -- ---- any packet

  comes_in_both : (now : ℕ) (k : Conn) (p : Packet) (fits : Bool) (s : ConnectionState) (w : Work) → IsOwn k → Near fits w → Fills May k p w → stage_of k w.hub.connections ≡ touched now s → Both nothing w → After (key_on s) k p (dispatch_packet k p fits s w)
  unfolding dispatch_packet
  comes_in_both now k p fits AwaitingConnect w own near full e h = at_first_both k p fits w own near e h
  comes_in_both now k p fits (ConnectedAs key terms last_activity) w own near full e h =
      cond_both (is_too_broad p w.hub) (close k TooManyMatches fits w) (on_passed_packet k key p fits w) (After (Some key) k p)
      (λ broad. after_closed (Some key) k p TooManyMatches fits w near (full.1 key (ap key_on e) broad) h)
      (λ narrow. after_replies k key terms now p fits w own near e h
      (full.0 key (ap key_on e) (is_tied key (k, terms.clean_session) w.hub h.0 (upper_at k key terms now w.hub.connections h.0.apart e)).1) (server_gets p (end_of key w.hub.sessions)).close refl)
  comes_in_both now k p fits Closed w own near full e h = h

  arrives_both : (k : Conn) (p : Packet) (g : Growth) (w : Work) → IsOwn k → Near g.will_fits w → Fills May k p (touched_on k w) → Both nothing w → After (key_on (stage_of k w.hub.connections)) k p (arrives k p g w)
  unfolding arrives
  arrives_both k p g w own near full h =
      let on = key_on (stage_of k w.hub.connections) in
      cond_both g.fits (dispatch_packet k p g.will_fits (stage_of k w.hub.connections) (touched_on k w)) (close k (Own reasons.Memory) g.will_fits w) (After on k p)
      (λ fits. comes_in_both w.hub.clock k p g.will_fits (stage_of k w.hub.connections) (touched_on k w) own
      (nearby.touches g.will_fits k w near) full (stage_heard k w) (mild_both (λ x. record x { stage = touched w.hub.clock x.stage }) k nothing w (heard_mild w.hub.clock) h))
      (λ starved. after_closed on k p (Own reasons.Memory) g.will_fits w near (ways.own reasons.Memory) h)

  pub takes_both : (k : Conn) (p : Packet) (g : Growth) (w : Work) → IsOwn k → Near g.will_fits w → Fills May k p (touched_on k w) → Both nothing w → Both nothing (on_packet k p g w)
  unfolding on_packet
  takes_both k p g w own near full h =
      let a = arrives_both k p g w own near full h in
      let v = arrives k p g w in
      (a.0, outer.noted (noted (key_on (stage_of k w.hub.connections)) (is_open (stage_of k v.hub.connections)) p) v a.1)

  broken_answers : (k : Conn) (fault : DecodeFault) (w : Work) → AreAnswers (broken k fault w).out
  broken_answers k fault w = faulted_answers fault (end_on (stage_of k w.hub.connections) w.hub.sessions)

  pub breaks_both : (k : Conn) (fault : DecodeFault) (fits : Bool) (w : Work) → IsOwn k → Near fits w → Both nothing w → Both nothing (on_malformed k fault fits w)
  unfolding on_malformed
  breaks_both k fault fits w own near h = go (broken k fault w).close
    where
      go : (c : Option CloseReason) → Both nothing (closes_by k c fits (put_on k (broken k fault w).out w))
      go None = both.put k (broken k fault w).out nothing w own (broken_answers k fault w) h
      go (Some reason) = close_both k (Own reason) fits (put_on k (broken k fault w).out w) (nearby.put fits k (broken k fault w).out w near) (ways.own reason) (both.put k (broken k fault w).out nothing w own (broken_answers k fault w) h)

  -- ---- bytes, ticks, and the end of a connection

  pub comes_both : ((fits : Bool) (w : Work) → Near fits w) → May TargetFull × May TooManyMatches → (limits : Bounds) (k : Conn) → IsOwn k → ((b : List ℕ) (v : Work) → R nothing v → R nothing (holding k b v)) → (b : List ℕ) (w w2 : Work) → OnBytes limits k b w w2 → Both nothing w → Both nothing w2
  comes_both near full limits k own holds b w w2 (Arrives p first rest g v v2 on reads more) h = comes_both near full limits k own holds rest (on_packet k p g v) v2 more (takes_both k p g v own (near g.will_fits v) ((λ key up state short. full.0), (λ key up broad. full.1)) h)
  comes_both near full limits k own holds b w w2 (Waits c v on pending) h = (sound_holding k c v h.0, holds c v h.1)
  comes_both near full limits k own holds b w w2 (Breaks c fault fits v on faulty) h = breaks_both k fault fits v own (near fits v) h
  comes_both near full limits k own holds b w w2 (Starves c fits v on some) h = close_both k (Own reasons.Memory) fits v (near fits v) (ways.own reasons.Memory) h
  comes_both near full limits k own holds b w w2 (LetsGo c v closed) h = h

  pub holding_both : (k : Conn) (b : List ℕ) (w : Work) → (R nothing w → R nothing (holding k b w)) → Both nothing w → Both nothing (holding k b w)
  holding_both k b w holds h = (sound_holding k b w h.0, holds h.1)

  -- sessions of clients that are not connected are removed
  abbrev AreAway : List ℕ → List HubConnection → Type 0
  AreAway [] xs = Unit {0}
  AreAway (key ∷ keys) xs = (upper key xs ≡ None) × AreAway keys xs

  remove_all_both : (keys : List ℕ) (w : Work) → AreAway keys w.hub.connections → Both nothing w → Both nothing (remove_all keys w)
  unfolding remove
  remove_all_both [] w away h = h
  remove_all_both (key ∷ keys) w away h =
      remove_all_both keys (remove key w) (still_away keys key w away.1) (sound_removes key w h.0 away.0, outer.removes key w h.0 away.0 h.1)
    where
      still_away : (keys : List ℕ) (key : ℕ) (w : Work) → AreAway keys w.hub.connections → AreAway keys (remove key w).hub.connections
      still_away keys key w away = away

  -- the expired ones are
  expired_away : (h : HubState) (ss : List HubSession) → AreAway (map (λ s. s.key) (filter (is_expired h) ss)) h.connections
  expired_away h [] = tt
  expired_away h (s ∷ ss) = go (is_expired h s) refl (expired_away h ss)
    where
      first : (a b : Bool) → (a && b) ≡ true → a ≡ true
      first true b e = refl
      first false b e = absurd (true≢false (sym e))

      none_on : (o : Option Conn) → not (is_some o) ≡ true → o ≡ None
      none_on None e = refl
      none_on (Some k) e = absurd (true≢false (sym e))

      go : (b : Bool) → is_expired h s ≡ b → AreAway (map (λ s. s.key) (filter (is_expired h) ss)) h.connections
          → AreAway (map (λ s. s.key) (cond b (s ∷ filter (is_expired h) ss) (filter (is_expired h) ss))) h.connections
      go true is rest = (upper_none s.key h.connections (none_on (up_on s.key h.connections) (first (not (is_some (up_on s.key h.connections))) (has_passed h.config.session_expiry s.left h.clock) is)), rest)
      go false is rest = rest

  pub expire_both : (h : HubState) → Both nothing (begin h) → Both nothing (expire h)
  unfolding expire
  expire_both h start = remove_all_both (expired_keys h) (begin h) (expired_away h h.sessions) start

  -- a tick closes connections for two reasons
  may_late : May NoConnect → (within : Option ℕ) (now since : ℕ) (s : ConnectionState) (why : HubClose) → late_reason within now since s ≡ Some why → May why
  may_late silent within now since AwaitingConnect why e = go (has_passed within since now) e
    where
      go : (b : Bool) → cond b (Some NoConnect) None ≡ Some why → May why
      go true e = let same : NoConnect ≡ why = cc in subst May same silent
      go false e = absurd cc
  may_late silent within now since (ConnectedAs key terms last_activity) why e = go (is_late last_activity terms.keep_alive now) e
    where
      go : (b : Bool) → cond b (Some (Own reasons.KeepAlive)) None ≡ Some why → May why
      go true e = let same : Own reasons.KeepAlive ≡ why = cc in subst May same (ways.own reasons.KeepAlive)
      go false e = absurd cc
  may_late silent within now since Closed why e = absurd cc

  pub ticks_both : ((fits : Bool) (w : Work) → Near fits w) → May NoConnect → (within : Option ℕ) (now : ℕ) (xs : List HubConnection) (w w2 : Work) → OnTick within now xs w w2
      → Both nothing w → Both nothing w2
  ticks_both near silent within now xs w w2 (Done v) h = h
  ticks_both near silent within now xs w w2 (InTime x ys v v2 soon more) h = ticks_both near silent within now ys v v2 more h
  ticks_both near silent within now xs w w2 (Late x ys why fits v v2 late more) h =
      ticks_both near silent within now ys (close x.conn why fits v) v2 more
      (close_both x.conn why fits v (near fits v) (may_late silent within now x.since x.stage why late) h)

  -- a tick
  pub tick_both : ((fits : Bool) (w : Work) → Near fits w) → May NoConnect → (h : HubState) (w : Work) → OnTick h.config.connect_within h.clock h.connections (expire h) w
      → Both nothing (begin h) → Both nothing w
  tick_both near silent h w t start = ticks_both near silent h.config.connect_within h.clock h.connections (expire h) w t (expire_both h start)

  pub ended_both : (k : Conn) (alive fits : Bool) (w : Work) → Near fits w → Both nothing w → Both nothing (close_if_open k alive fits w)
  ended_both k true fits w near h = close_both k PeerEnded fits w near ways.peer h
  ended_both k false fits w near h = h
