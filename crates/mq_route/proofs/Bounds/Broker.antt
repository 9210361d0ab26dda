-- A step of a broker sends at most as many bytes of answers as arrived.
use Rattle.std.proofs.Common.{◌≡◌, ◌⊎◌, inl, inr, ℕ, ◌+◌, ◌≤◌, Bool, true, false, ◌&&◌, cond, List, [], ◌∷◌, ◌++◌, map, length, filter, Option, Some, None, refl, ap, ◌∙◌, arith}
use Rattle.std.proofs.lemmas.Bool.{cond_both}
use Rattle.std.proofs.lemmas.List.{length-append, map-append}
use Rattle.std.proofs.lemmas.List.Concat.{flat_map-append}
use Rattle.mq_packet.specs.declared.connack.ConnAck.TheVariants as connacks
use Rattle.mq_packet.specs.declared.connack.RefusalCode.{RefusalCode}
use Rattle.mq_packet.specs.declared.connect.Connect.{Connect}
use Rattle.mq_packet.specs.declared.connect.Will.{Will}
use Rattle.mq_packet.specs.declared.message.Message.{Message}
use Rattle.mq_packet.specs.declared.packet.Packet.{Packet}
use Rattle.mq_packet.specs.declared.packet.Packet.TheVariants as packets
use Rattle.mq_packet.specs.declared.packet.Request.{Request}
use Rattle.mq_packet.specs.Encoding.{fields, encoding, encodings}
use Rattle.mq_flow.specs.Next.{next_identifier}
use Rattle.mq_end.specs.declared.happening.Happening.{Happening}
use Rattle.mq_end.specs.declared.happening.Happening.TheVariants as happens
use Rattle.mq_end.specs.declared.reason.CloseReason.{CloseReason}
use Rattle.mq_end.specs.declared.reason.CloseReason.TheVariants as reasons
use Rattle.mq_end.specs.End.{End, Reply, over}
use Rattle.mq_end.specs.Server.{opens, server_gets, subacks, unsubacks}
use Rattle.mq_route.specs.declared.act.Act.{Act}
use Rattle.mq_route.specs.declared.act.Act.TheVariants as acts
use Rattle.mq_route.specs.declared.close.HubClose.{HubClose}
use Rattle.mq_route.specs.declared.close.HubClose.TheVariants.{Own, TargetFull, TakenOver, TooManyMatches}
use Rattle.mq_route.specs.declared.conn.Conn.{Conn}
use Rattle.mq_route.specs.declared.connection_state.ConnectionState.{ConnectionState}
use Rattle.mq_route.specs.declared.connection_state.ConnectionState.TheVariants.{AwaitingConnect, ConnectedAs, Closed}
use Rattle.mq_route.specs.Routed.{same_conn}
use Rattle.mq_route.specs.Copies.{kept, will_message}
use Rattle.mq_route.specs.Hub.{HubConnection, is_connection, changed, with_connection, held_on, stage_of, up_on, end_of, with_end, copies_of, key_of}
use Rattle.mq_route.specs.Welcome.{client_of, ends_with, refusal}
use Rattle.mq_route.specs.Work.{Work, said, with_connections, with_sessions, staged, shut, put_on, put_where, does, publishes_next, is_missed, enqueue, enqueue_all, have_room, deliver, remove, last_will, will_after, remove_if, leaves_behind, shut_down, close, subscribed, unsubscribed, retained_copies}
use Rattle.mq_route.specs.Arrives.{Growth, due, granted, answers, answers_all, replies, greeting, terms_of, resume_session, new_session, start_session, take_over, goes_on, accept_connect, on_connect, on_first_packet, on_passed_packet, is_too_broad, dispatch_packet, touched, touched_on, arrives, on_packet}
use Rattle.mq_route.specs.Bounds.Broker.{is_answer, answers_in}
use Rattle.mq_route.proofs.Bounds.Lengths.{connack_size}
use Rattle.mq_route.proofs.Bounds.Packets.{connect_size}
use Rattle.mq_route.proofs.Bounds.Answers.{weight, asked, asked_all, published_none, gets_cost}

filter_joined : {A : Type 0} (p : A → Bool) (xs ys : List A) → filter p (xs ++ ys) ≡ filter p xs ++ filter p ys
filter_joined p [] ys = refl
filter_joined p (x ∷ xs) ys = by (p x) (filter_joined p xs ys)
  where
    by : (b : Bool) → filter p (xs ++ ys) ≡ filter p xs ++ filter p ys → cond b (x ∷ filter p (xs ++ ys)) (filter p (xs ++ ys)) ≡ cond b (x ∷ filter p xs) (filter p xs) ++ filter p ys
    by true e = ap (λ l. x ∷ l) e
    by false e = e

own_packets : (k : Conn) (ps : List Packet) → map (λ (x : Conn × Packet). x.1) (map (λ (p : Packet). (k, p)) ps) ≡ ps
own_packets k [] = refl
own_packets k (p ∷ ps) = ap (λ (l : List Packet). p ∷ l) (own_packets k ps)

weight_joined : (ps qs : List Packet) → weight (ps ++ qs) ≡ weight ps + weight qs
weight_joined ps qs = ap (λ (l : List Packet). length (encodings l)) (filter_joined is_answer ps qs) ∙ ap length (flat_map-append encoding (filter is_answer ps) (filter is_answer qs)) ∙ length-append (encodings (filter is_answer ps)) (encodings (filter is_answer qs))

-- ---- a part of a step

-- the held bytes are unchanged, or none
abbrev pub Lets : List ℕ → List ℕ → Type 0
Lets before after = (after ≡ before) ⊎ (after ≡ [])

pub lets_then : (a b c : List ℕ) → Lets a b → Lets b c → Lets a c
lets_then a b c h (inr none) = inr none
lets_then a b c (inl same) (inl also) = inl (also ∙ same)
lets_then a b c (inr none) (inl also) = inr (also ∙ none)

module _ (k : Conn) where
  abbrev pub written : Work → ℕ
  written w = length (encodings (answers_in w.sent))

  -- from one work to the next, at most n bytes of answers are sent, and the held bytes are
  -- unchanged or none
  pub record Spends (n : ℕ) (w v : Work) : Type 0 where
    pub out : written v ≤ written w + n
    pub held : Lets (held_on k w.hub.connections) (held_on k v.hub.connections)

  pub still : (w : Work) → Spends 0 w w
  still w = record { out = omega arith; held = inl refl }

  -- one part after the other
  pub then_ : (n m : ℕ) (u v w : Work) → Spends n u v → Spends m v w → Spends (n + m) u w
  then_ n m u v w a b = record {
    out = let x = a.out in let y = b.out in omega arith;
    held = lets_then (held_on k u.hub.connections) (held_on k v.hub.connections) (held_on k w.hub.connections) a.held b.held;
  }

  pub more : (n m : ℕ) (w v : Work) → n ≤ m → Spends n w v → Spends m w v
  more n m w v le a = record { out = let x = a.out in omega arith; held = a.held }

  -- ---- connections

  line_changed : (f : HubConnection → HubConnection) (j : Conn) → ((x : HubConnection) → (f x).conn ≡ x.conn) → ((x : HubConnection) → Lets x.held (f x).held) → (xs : List HubConnection) → Lets (held_on k xs) (held_on k (with_connection f j xs))
  line_changed f j names lets [] = inl refl
  line_changed f j names lets (x ∷ xs) =
      by (is_connection k x) (is_connection k (changed f j x)) (ap (λ (c : Conn). same_conn c k) same_name)
      (cond_both (is_connection j x) (f x) x (λ (y : HubConnection). Lets x.held y.held) (λ t. lets x) (λ n. inl refl)) (line_changed f j names lets xs)
    where
      same_name : (changed f j x).conn ≡ x.conn
      same_name = cond_both (is_connection j x) (f x) x (λ (y : HubConnection). y.conn ≡ x.conn) (λ t. names x) (λ n. refl)

      by : (b c : Bool) → c ≡ b → Lets x.held (changed f j x).held → Lets (held_on k xs) (held_on k (with_connection f j xs))
          → Lets (cond b x.held (held_on k xs)) (cond c (changed f j x).held (held_on k (with_connection f j xs)))
      by true true e here later = here
      by false false e here later = later
      by true false e here later = absurd cc
      by false true e here later = absurd cc

  lines_spend : (f : HubConnection → HubConnection) (j : Conn) (w : Work) → ((x : HubConnection) → (f x).conn ≡ x.conn) → ((x : HubConnection) → Lets x.held (f x).held) → Spends 0 w (with_connections (with_connection f j) w)
  lines_spend f j w names lets = record { out = omega arith; held = line_changed f j names lets w.hub.connections }

  pub put_spends : (j : Conn) (ps : List Packet) (w : Work) → Spends (weight ps) w (put_on j ps w)
  unfolding put_on
  put_spends j ps w = record {
    out =
        let all = map-append (λ (x : Conn × Packet). x.1) w.sent (map (λ (p : Packet). (j, p)) ps) in
        let size = ap weight (all ∙ ap (λ (l : List Packet). map (λ (x : Conn × Packet). x.1) w.sent ++ l) (own_packets j ps)) ∙ weight_joined (map (λ (x : Conn × Packet). x.1) w.sent) ps in
        omega arith;
    held = line_changed (λ x. record x { waiting = x.waiting ++ encodings ps }) j (λ x. refl) (λ x. inl refl) w.hub.connections;
  }

  where_spends : (to : Option Conn) (ps : List Packet) (w : Work) → Spends (weight ps) w (put_where to ps w)
  where_spends None ps w = record { out = omega arith; held = inl refl }
  where_spends (Some j) ps w = put_spends j ps w

  does_spends : (key : ℕ) (move : End → Reply) (w : Work) → Spends (weight (move (end_of key w.hub.sessions)).out) w (does key move w)
  unfolding does
  does_spends key move w =
      let a = where_spends (up_on key w.hub.connections) (move (end_of key w.hub.sessions)).out (with_sessions (with_end key (move (end_of key w.hub.sessions)).end) w) in
      record { out = a.out; held = a.held }

  -- ---- placed messages

  place_spends : (key : ℕ) (m : Message) (w : Work) → Spends 0 w (enqueue key m w)
  unfolding enqueue
  place_spends key m w =
      let e = end_of key w.hub.sessions in
      let a = does_spends key (publishes_next m) w in
      let none = published_none m.qos (next_identifier e.last e.book) m e in
      cond_both (is_missed key m w.hub) (said (acts.Missed key m) w) (said (acts.Placed key m) (does key (publishes_next m) w)) (Spends 0 w)
      (λ is. record { out = omega arith; held = inl refl }) (λ is. record { out = let x = a.out in omega arith; held = a.held })

  place_all_spends : (copies : List (ℕ × Message)) (w : Work) → Spends 0 w (enqueue_all copies w)
  place_all_spends [] w = still w
  place_all_spends (x ∷ xs) w = then_ 0 0 w (enqueue x.0 x.1 w) (enqueue_all xs (enqueue x.0 x.1 w)) (place_spends x.0 x.1 w) (place_all_spends xs (enqueue x.0 x.1 w))

  share_spends : (act : Act) (m : Message) (w : Work) → Spends 0 w (deliver act m w)
  unfolding deliver
  share_spends act m w =
      let a = place_all_spends (copies_of m w.hub) (said act (record w { hub = record w.hub { retained = kept m w.hub.retained } })) in
      record { out = a.out; held = a.held }

  -- ---- closes, and wills

  will_spends : (key : ℕ) (will : Option Will) (fits : Bool) (w : Work) → Spends 0 w (last_will key will fits w)
  unfolding last_will
  will_spends key None fits w = still w
  will_spends key (Some will) fits w =
      cond_both (fits && have_room (copies_of (will_message will) w.hub) w.hub) (deliver (acts.Will key (will_message will)) (will_message will) w) (said (acts.WillDropped key) w) (Spends 0 w)
      (λ t. share_spends (acts.Will key (will_message will)) (will_message will) w) (λ f. record { out = omega arith; held = inl refl })

  remove_spends : (key : ℕ) (w : Work) → Spends 0 w (remove key w)
  unfolding remove
  remove_spends key w = record { out = omega arith; held = inl refl }

  remove_if_spends : (b : Bool) (key : ℕ) (w : Work) → Spends 0 w (remove_if b key w)
  remove_if_spends true key w = remove_spends key w
  remove_if_spends false key w = still w

  leaves_spends : (why : HubClose) (fits : Bool) (s : ConnectionState) (w : Work) → Spends 0 w (leaves_behind why fits s w)
  unfolding leaves_behind
  leaves_spends why fits AwaitingConnect w = still w
  leaves_spends why fits (ConnectedAs key terms last_activity) w =
      let v = with_sessions (with_end key (over (end_of key w.hub.sessions))) w in
      let u = remove_if terms.clean_session key v in
      let a = remove_if_spends terms.clean_session key v in
      then_ 0 0 w u (last_will key (will_after why terms.will) fits u) (record { out = a.out; held = a.held }) (will_spends key (will_after why terms.will) fits u)
  leaves_spends why fits Closed w = still w

  shut_spends : (j : Conn) (w : Work) → Spends 0 w (shut j w)
  shut_spends j w = lines_spend (λ x. record x { stage = Closed; held = [] }) j w (λ x. refl) (λ x. inr refl)

  pub close_spends : (j : Conn) (why : HubClose) (fits : Bool) (w : Work) → Spends 0 w (close j why fits w)
  unfolding close shut_down
  close_spends j why fits w =
      let v = said (acts.Closed j why) (shut j w) in
      let a = shut_spends j w in
      let b = then_ 0 0 w v (leaves_behind why fits (stage_of j w.hub.connections) v) (record { out = a.out; held = a.held }) (leaves_spends why fits (stage_of j w.hub.connections) v) in
      record { out = b.out; held = b.held }

  -- ---- answers to reports

  subscribed_spends : (key : ℕ) (rs : List Request) (w : Work) → Spends 0 w (subscribed key rs w)
  subscribed_spends key [] w = still w
  subscribed_spends key (r ∷ rs) w = let a = subscribed_spends key rs _ in record { out = a.out; held = a.held }

  unsubscribed_spends : (key : ℕ) (fs : List (List ℕ)) (w : Work) → Spends 0 w (unsubscribed key fs w)
  unsubscribed_spends key [] w = still w
  unsubscribed_spends key (f ∷ fs) w = let a = unsubscribed_spends key fs _ in record { out = a.out; held = a.held }

  answers_spends : (j : Conn) (key : ℕ) (told : Happening) (w : Work) → Spends (asked told) w (answers j key told w)
  unfolding answers
  answers_spends j key (happens.Up present) w = record { out = omega arith; held = inl refl }
  answers_spends j key (happens.Handed m) w = share_spends (acts.Took key m) m w
  answers_spends j key (happens.Subscribe i requests) w =
      let v = subscribed key requests w in
      let u = does key (subacks i (granted requests)) v in
      let a = then_ 0 (weight (packets.SubAck i (granted requests) ∷ [])) w v u (subscribed_spends key requests w) (does_spends key (subacks i (granted requests)) v) in
      let b = then_ (0 + weight (packets.SubAck i (granted requests) ∷ [])) 0 w u (enqueue_all (retained_copies key requests w.hub.retained) u) a (place_all_spends (retained_copies key requests w.hub.retained) u) in
      more ((0 + weight (packets.SubAck i (granted requests) ∷ [])) + 0) (weight (packets.SubAck i (granted requests) ∷ [])) w (enqueue_all (retained_copies key requests w.hub.retained) u) (omega arith) b
  answers_spends j key (happens.Unsubscribe i filters) w =
      let v = unsubscribed key filters w in
      let a = then_ 0 (weight (packets.UnsubAck i ∷ [])) w v (does key (unsubacks i) v) (unsubscribed_spends key filters w) (does_spends key (unsubacks i) v) in
      more (0 + weight (packets.UnsubAck i ∷ [])) (weight (packets.UnsubAck i ∷ [])) w (does key (unsubacks i) v) (omega arith) a
  answers_spends j key (happens.SubAck i codes) w = still w
  answers_spends j key (happens.UnsubAck i) w = still w
  answers_spends j key happens.Pong w = still w

  answers_all_spends : (j : Conn) (key : ℕ) (told : List Happening) (w : Work) → Spends (asked_all told) w (answers_all j key told w)
  answers_all_spends j key [] w = still w
  answers_all_spends j key (x ∷ xs) w =
      then_ (asked x) (asked_all xs) w (answers j key x w) (answers_all j key xs (answers j key x w)) (answers_spends j key x w) (answers_all_spends j key xs (answers j key x w))

  -- an end makes a move, and its reports are answered
  answered_spends : (j : Conn) (key n : ℕ) (move : End → Reply) (w : Work) → weight (move (end_of key w.hub.sessions)).out + asked_all (move (end_of key w.hub.sessions)).happenings ≤ n
      → Spends n w (answers_all j key (move (end_of key w.hub.sessions)).happenings (does key move w))
  answered_spends j key n move w le =
      let r = move (end_of key w.hub.sessions) in
      let v = does key move w in
      more (weight r.out + asked_all r.happenings) n w (answers_all j key r.happenings v) le
      (then_ (weight r.out) (asked_all r.happenings) w v (answers_all j key r.happenings v) (does_spends key move w) (answers_all_spends j key r.happenings v))

  -- ---- a packet on a connected connection

  replies_spends : (j : Conn) (key n : ℕ) (move : End → Reply) (closed : Option CloseReason) (fits : Bool) (w : Work)
      → weight (move (end_of key w.hub.sessions)).out + asked_all (move (end_of key w.hub.sessions)).happenings ≤ n → Spends n w (replies j key move closed fits w)
  unfolding replies
  replies_spends j key n move (Some reason) fits w le =
      let r = move (end_of key w.hub.sessions) in
      let v = put_on j r.out w in
      more (weight r.out + 0) n w (close j (Own reason) fits v) (omega arith) (then_ (weight r.out) 0 w v (close j (Own reason) fits v) (put_spends j r.out w) (close_spends j (Own reason) fits v))
  replies_spends j key n move None fits w le =
      cond_both (have_room (due key w.hub (move (end_of key w.hub.sessions)).happenings) w.hub) _ _ (Spends n w)
      (λ t. answered_spends j key n move w le)
      (λ f. more 0 n w (close j TargetFull fits w) (omega arith) (close_spends j TargetFull fits w))

  -- ---- CONNECT

  greet_spends : (j : Conn) (c : Connect) (key : ℕ) (w : Work) → Spends (2 + length (fields (packets.Connect c))) w (resume_session j c key w)
  unfolding resume_session
  greet_spends j c key w =
      let v = staged j (ConnectedAs key (terms_of c) w.hub.clock) w in
      let e = end_of key w.hub.sessions in
      let n = 2 + length (fields (packets.Connect c)) in
      let a = lines_spend (λ x. record x { stage = ConnectedAs key (terms_of c) w.hub.clock }) j w (λ x. refl) (λ x. inl refl) in
      let b = answered_spends j key n (greeting c) v (gets_cost (packets.Connect c) (opens e).end) in
      more (0 + n) n w (answers_all j key (greeting c e).happenings (does key (greeting c) v)) (omega arith) (then_ 0 n w v (answers_all j key (greeting c e).happenings (does key (greeting c) v)) a b)

  greet_new_spends : (j : Conn) (c : Connect) (client : List ℕ) (w : Work) → Spends (2 + length (fields (packets.Connect c))) w (start_session j c client w)
  unfolding new_session
  greet_new_spends j c client w = let a = greet_spends j c w.hub.next_key (new_session client w) in record { out = a.out; held = a.held }

  take_over_spends : (on : Option Conn) (fits : Bool) (w : Work) → Spends 0 w (take_over on fits w)
  take_over_spends None fits w = still w
  take_over_spends (Some j) fits w = close_spends j TakenOver fits w

  goes_on_spends : (j : Conn) (c : Connect) (client : List ℕ) (key : ℕ) (ends : Bool) (w : Work) → Spends (2 + length (fields (packets.Connect c))) w (goes_on j c client key ends w)
  unfolding goes_on
  goes_on_spends j c client key true w = greet_new_spends j c client w
  goes_on_spends j c client key false w =
      let n = 2 + length (fields (packets.Connect c)) in
      cond_both c.clean_session (start_session j c client (remove key w)) (resume_session j c key w) (Spends n w)
      (λ t. more (0 + n) n w (start_session j c client (remove key w)) (omega arith) (then_ 0 n w (remove key w) (start_session j c client (remove key w)) (remove_spends key w) (greet_new_spends j c client (remove key w))))
      (λ f. greet_spends j c key w)

  admit_spends : (j : Conn) (c : Connect) (client : List ℕ) (key : Option ℕ) (fits : Bool) (w : Work) → Spends (2 + length (fields (packets.Connect c))) w (accept_connect j c client key fits w)
  admit_spends j c client None fits w = greet_new_spends j c client w
  admit_spends j c client (Some key) fits w =
      let n = 2 + length (fields (packets.Connect c)) in
      let v = take_over (up_on key w.hub.connections) fits w in
      let u = goes_on j c client key (ends_with key w.hub) v in
      more (0 + n) n w u (omega arith) (then_ 0 n w v u (take_over_spends (up_on key w.hub.connections) fits w) (goes_on_spends j c client key (ends_with key w.hub) v))

  welcomes_spends : (j : Conn) (c : Connect) (refused : Option RefusalCode) (fits : Bool) (w : Work) → Spends (2 + length (fields (packets.Connect c))) w (on_connect j c refused fits w)
  unfolding on_connect
  welcomes_spends j c (Some code) fits w =
      let ps = packets.ConnAck (connacks.Refused code) ∷ [] in
      let v = put_on j ps w in
      let u = close j (Own (reasons.Refused code)) fits v in
      let size = connack_size (connacks.Refused code) in
      let some = connect_size c in
      more (weight ps + 0) (2 + length (fields (packets.Connect c))) w u (omega arith) (then_ (weight ps) 0 w v u (put_spends j ps w) (close_spends j (Own (reasons.Refused code)) fits v))
  welcomes_spends j c None fits w = admit_spends j c (client_of c w.hub.sessions) (key_of (client_of c w.hub.sessions) w.hub.sessions) fits w

  -- ---- any packet

  first_spends : (j : Conn) (p : Packet) (fits : Bool) (w : Work) → Spends (2 + length (fields p)) w (on_first_packet j p fits w)
  unfolding on_first_packet
  first_spends j (packets.Connect c) fits w = welcomes_spends j c (refusal c w.hub) fits w
  first_spends j p fits w = more 0 (2 + length (fields p)) w (close j (Own reasons.Unexpected) fits w) (omega arith) (close_spends j (Own reasons.Unexpected) fits w)

  comes_in_spends : (j : Conn) (p : Packet) (fits : Bool) (s : ConnectionState) (w : Work) → Spends (2 + length (fields p)) w (dispatch_packet j p fits s w)
  unfolding dispatch_packet
  comes_in_spends j p fits AwaitingConnect w = first_spends j p fits w
  comes_in_spends j p fits (ConnectedAs key terms last_activity) w =
      let n = 2 + length (fields p) in
      cond_both (is_too_broad p w.hub) (close j TooManyMatches fits w) (on_passed_packet j key p fits w) (Spends n w)
      (λ broad. more 0 n w (close j TooManyMatches fits w) (omega arith) (close_spends j TooManyMatches fits w))
      (λ narrow. replies_spends j key n (server_gets p) (server_gets p (end_of key w.hub.sessions)).close fits w (gets_cost p (end_of key w.hub.sessions)))
  comes_in_spends j p fits Closed w = more 0 (2 + length (fields p)) w w (omega arith) (still w)

  arrives_spends : (j : Conn) (p : Packet) (g : Growth) (w : Work) → Spends (2 + length (fields p)) w (arrives j p g w)
  unfolding arrives
  arrives_spends j p g w =
      let n = 2 + length (fields p) in
      let v = touched_on j w in
      let u = dispatch_packet j p g.will_fits (stage_of j w.hub.connections) v in
      cond_both g.fits u (close j (Own reasons.Memory) g.will_fits w) (Spends n w)
      (λ t. more (0 + n) n w u (omega arith)
      (then_ 0 n w v u (lines_spend (λ x. record x { stage = touched w.hub.clock x.stage }) j w (λ x. refl) (λ x. inl refl)) (comes_in_spends j p g.will_fits (stage_of j w.hub.connections) v)))
      (λ f. more 0 n w (close j (Own reasons.Memory) g.will_fits w) (omega arith) (close_spends j (Own reasons.Memory) g.will_fits w))

  pub takes_spends : (j : Conn) (p : Packet) (g : Growth) (w : Work) → Spends (2 + length (fields p)) w (on_packet j p g w)
  unfolding on_packet
  takes_spends j p g w = let a = arrives_spends j p g w in record { out = a.out; held = a.held }
