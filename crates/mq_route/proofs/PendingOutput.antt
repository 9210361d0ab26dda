-- The pending output of a connection under a limit.
use Rattle.std.proofs.Common.{◌≡◌, ℕ, ◌+◌, ◌-◌, ◌≤◌, Bool, true, false, not, ◌&&◌, cond, List, [], ◌∷◌, ◌++◌, length, map, filter, Option, Some, None, refl, sym, ap, subst, ◌∙◌, append-nil, leb-true, true≢false, arith}
use Rattle.std.proofs.lemmas.Bool.{cond_both}
use Rattle.std.proofs.lemmas.List.{length-append}
use Rattle.std.proofs.lemmas.List.Concat.{flat_map-append}
use Rattle.std.specs.List.{list_all}
use Rattle.mq_topic.specs.declared.qos.Qos.{Qos}
use Rattle.mq_topic.specs.declared.qos.Qos.TheVariants.{Q0, Q1, Q2}
use Rattle.mq_packet.specs.declared.message.Message.{Message}
use Rattle.mq_packet.specs.declared.packet.Packet.{Packet}
use Rattle.mq_packet.specs.declared.packet.Packet.TheVariants as packets
use Rattle.mq_packet.specs.Encoding.{encoding, encodings, encoded_size, fields}
use Rattle.mq_wire.specs.Length.{length_bytes}
use Rattle.mq_wire.specs.Text.{counted}
use Rattle.mq_end.specs.Both.{has_identifier, publishes_at}
use Rattle.mq_end.specs.End.{End, Reply, is_up, over}
use Rattle.mq_end.specs.Sizes.{identifier_size, publish_size}
use Rattle.mq_end.specs.Server.{server_gets}
use Rattle.mq_flow.specs.Next.{next_identifier}
use Rattle.mq_flow.specs.Sender.{publish_packet}
use Rattle.mq_route.specs.declared.act.Act.TheVariants as acts
use Rattle.mq_route.specs.declared.close.HubClose.{HubClose}
use Rattle.mq_route.specs.declared.config.HubConfig.{HubConfig}
use Rattle.mq_route.specs.declared.conn.Conn.{Conn}
use Rattle.mq_route.specs.declared.connection_state.ConnectionState.TheVariants.{ConnectedAs}
use Rattle.mq_route.specs.declared.connection_state.ConnectionTerms.{ConnectionTerms}
use Rattle.mq_route.specs.declared.event.HubEvent.{HubEvent}
use Rattle.mq_route.specs.declared.event.HubEvent.TheVariants.{Opened, Bytes, Ended, Tick, Collect}
use Rattle.mq_route.specs.declared.reply.HubReply.{HubReply}
use Rattle.mq_route.specs.Routed.{same_conn}
use Rattle.mq_route.specs.Hub.{HubState, HubConnection, knows, waiting_on, stage_of, changed, with_connection, is_open, held_on, up_on, end_of, with_end, with_left}
use Rattle.mq_route.specs.Laws.{is_no_plain_publish}
use Rattle.mq_route.specs.Work.{Work, begin, said, with_connections, with_sessions, staged, shut, put_on, put_where, does, publishes_next, leaves, pending_on, publish_bytes, lacks_output, remove, remove_if}
use Rattle.mq_route.specs.Arrives.{new_session}
use Rattle.mq_route.specs.Step.{Does, close_if_open, with_clock, holding}
use Rattle.mq_route.specs.Runs.{Episode, Follows, Stays, ends_it, sent_in, on_conn}
use Rattle.mq_route.proofs.Lines.{one_conn, Names, Bytes as BytesStay, grown, names_changed, bytes_changed, knows_map, waiting_map, put_here, put_there}
use Rattle.mq_route.proofs.Uppers.{risen}
use Rattle.mq_route.proofs.Ends.{AreAnswers}
use Rattle.mq_route.proofs.Changes.{Anywhere, anywhere, Freely, freely, Debt, Everywhere, IsCopy, Inner, Outer, Sound, retaining, subscribing, unsubscribing, closing, rising, names_grown, closed_line}
use Rattle.mq_route.proofs.Steps.{comes_both, holding_both, tick_both, ended_both}
use Rattle.mq_route.proofs.Events.{emptied}
use Rattle.mq_route.proofs.Output.{on_conn-append, on_conn-own, on_conn-other, emptied_here, waiting_opened, knows_opened, kept_line, sound_event}

-- ---- packets

-- the number of bytes of the packets among these that are no PUBLISH of QoS 0
abbrev other_bytes : List Packet → ℕ
other_bytes ps = length (encodings (filter is_no_plain_publish ps))

filter-append : (xs ys : List Packet) → filter is_no_plain_publish (xs ++ ys) ≡ filter is_no_plain_publish xs ++ filter is_no_plain_publish ys
filter-append [] ys = refl
filter-append (x ∷ xs) ys =
    ap (λ (l : List Packet). cond (is_no_plain_publish x) (x ∷ l) l) (filter-append xs ys) ∙ go (is_no_plain_publish x) (filter is_no_plain_publish xs)
  where
    go : (b : Bool) (l : List Packet) → cond b (x ∷ (l ++ filter is_no_plain_publish ys)) (l ++ filter is_no_plain_publish ys) ≡ cond b (x ∷ l) l ++ filter is_no_plain_publish ys
    go true l = refl
    go false l = refl

encodings_length : (ps qs : List Packet) → length (encodings (ps ++ qs)) ≡ length (encodings ps) + length (encodings qs)
encodings_length ps qs = ap length (flat_map-append encoding ps qs) ∙ length-append (encodings ps) (encodings qs)

other_append : (ps qs : List Packet) → other_bytes (ps ++ qs) ≡ other_bytes ps + other_bytes qs
other_append ps qs = ap (λ (l : List Packet). length (encodings l)) (filter-append ps qs) ∙ encodings_length (filter is_no_plain_publish ps) (filter is_no_plain_publish qs)

all_kept : (ps : List Packet) → AreAnswers ps → filter is_no_plain_publish ps ≡ ps
all_kept [] all = refl
all_kept (p ∷ ps) all = go (is_no_plain_publish p) all (all_kept ps)
  where
    go : (b : Bool) → (b && list_all is_no_plain_publish ps) ≡ true → (AreAnswers ps → filter is_no_plain_publish ps ≡ ps) → cond b (p ∷ filter is_no_plain_publish ps) (filter is_no_plain_publish ps) ≡ p ∷ ps
    go true all rest = ap (λ (l : List Packet). p ∷ l) (rest all)
    go false all rest = absurd (true≢false (sym all))

answers_bytes : (ps : List Packet) → AreAnswers ps → other_bytes ps ≡ length (encodings ps)
answers_bytes ps all = ap (λ (l : List Packet). length (encodings l)) (all_kept ps all)

-- a copy of QoS 1 or 2 is no plain PUBLISH; one of QoS 0 has this size
copy_answers : (q : Qos) (i : ℕ) (m : Message) (e : End) → has_identifier q ≡ true → AreAnswers (publishes_at q i m e).out
copy_answers Q0 i m e has = absurd cc
copy_answers Q1 i m e has = cond_both (is_up e.state) (publish_packet i false m ∷ []) [] AreAnswers (λ t. refl) (λ f. refl)
copy_answers Q2 i m e has = cond_both (is_up e.state) (publish_packet i false m ∷ []) [] AreAnswers (λ t. refl) (λ f. refl)

plain_bytes : (m : Message) → m.qos ≡ Q0 → length (encodings (packets.Publish (record { message = m; delivery = None }) ∷ [])) ≡ publish_bytes m
unfolding encoding
plain_bytes m is =
    let p = packets.Publish (record { message = m; delivery = None }) in
    let whole = ap length (append-nil (encoding p)) in
    let all = length-append (length_bytes (length (fields p))) (fields p) in
    let parts = length-append (counted m.topic) m.payload in
    let none = ap identifier_size is in
    let size : length (fields p) ≡ publish_size m = omega arith in
    let framed : length (encoding p) ≡ encoded_size (length (fields p)) = omega arith in
    whole ∙ framed ∙ ap encoded_size size

-- ---- one connection

-- the pending output is at most this number of bytes, and the packets that were sent and are no
-- PUBLISH of QoS 0
record IsBounded (n : Conn) (most base : ℕ) (w : Work) : Type 0 where
  known : knows n w.hub.connections ≡ true
  limit : w.hub.config.most_waiting ≡ Some most
  bytes : length (waiting_on n w.hub.connections) ≤ base + other_bytes (on_conn n w.sent)

module _ (n : Conn) (most base : ℕ) (low : most ≤ base) where
  abbrev Bounded : Work → Type 0
  Bounded w = IsBounded n most base w

  abbrev Bounds : Debt → Work → Type 0
  Bounds o w = Bounded w

  -- a change that keeps names and pending output
  quiet : (g : HubConnection → HubConnection) (w v : Work) → v.hub.connections ≡ map g w.hub.connections → v.hub.config ≡ w.hub.config → v.sent ≡ w.sent → Names g → BytesStay g → Bounded w → Bounded v
  quiet g w v is config sent names bytes r = record {
    known = ap (knows n) is ∙ knows_map g names n w.hub.connections ∙ r.known;
    limit = ap (λ (c : HubConfig). c.most_waiting) config ∙ r.limit;
    bytes = subst (λ (b : List ℕ). length b ≤ base + other_bytes (on_conn n v.sent)) (sym (ap (waiting_on n) is ∙ waiting_map g names bytes n w.hub.connections))
        (subst (λ (ps : List (Conn × Packet)). length (waiting_on n w.hub.connections) ≤ base + other_bytes (on_conn n ps)) (sym sent) r.bytes);
  }

  -- packets are sent on a connection that adds at most the others among them
  put_by : (k : Conn) (ps : List Packet) (w : Work)
      → (same_conn k n ≡ true → length (waiting_on n w.hub.connections) + length (encodings ps) ≤ base + (other_bytes (on_conn n w.sent) + other_bytes ps))
      → Bounded w → Bounded (put_on k ps w)
  unfolding put_on
  put_by k ps w fits r = record {
    known = knows_map (changed (grown (encodings ps)) k) (names_changed (grown (encodings ps)) k (names_grown (encodings ps))) n w.hub.connections ∙ r.known;
    limit = r.limit;
    bytes = go (same_conn k n) refl;
  }
    where
      sent : (ps2 : List Packet) → on_conn n (map (λ p. (k, p)) ps) ≡ ps2 → on_conn n (w.sent ++ map (λ p. (k, p)) ps) ≡ (on_conn n w.sent) ++ ps2
      sent ps2 is = on_conn-append n w.sent (map (λ p. (k, p)) ps) ∙ ap (λ (l : List Packet). (on_conn n w.sent) ++ l) is

      go : (b : Bool) → same_conn k n ≡ b
          → length (waiting_on n (with_connection (grown (encodings ps)) k w.hub.connections)) ≤ base + other_bytes (on_conn n (w.sent ++ map (λ p. (k, p)) ps))
      go true e =
          let now : waiting_on n (with_connection (grown (encodings ps)) k w.hub.connections) ≡ waiting_on n w.hub.connections ++ encodings ps =
          ap (λ (j : Conn). waiting_on n (with_connection (grown (encodings ps)) j w.hub.connections)) (one_conn k n e) ∙ put_here n (encodings ps) w.hub.connections r.known in
          let long = ap length now ∙ length-append (waiting_on n w.hub.connections) (encodings ps) in
          let others = ap other_bytes (sent ps (on_conn-own k n ps e)) ∙ other_append (on_conn n w.sent) ps in
          let enough = fits e in
          omega arith
      go false e =
          let now = put_there k n (grown (encodings ps)) w.hub.connections (names_grown (encodings ps)) e in
          let others = ap other_bytes (sent [] (on_conn-other k n ps e) ∙ append-nil (on_conn n w.sent)) in
          let long = ap length now in
          let bytes = r.bytes in
          omega arith

  put_answers : (k : Conn) (ps : List Packet) (w : Work) → AreAnswers ps → Bounded w → Bounded (put_on k ps w)
  put_answers k ps w plain r = put_by k ps w (λ same. let all = answers_bytes ps plain in let bytes = r.bytes in omega arith) r

  where_answers : (to : Option Conn) (ps : List Packet) (w : Work) → AreAnswers ps → Bounded w → Bounded (put_where to ps w)
  where_answers None ps w plain r = r
  where_answers (Some k) ps w plain r = put_answers k ps w plain r

  -- a copy of QoS 0 is within the limit, or adds nothing
  plain_fits : (pending bytes : ℕ) (o : Option ℕ) → o ≡ Some most → (not (leaves o pending bytes) && true) ≡ false → bytes ≤ most - pending
  plain_fits pending bytes o is sent = leb-true bytes (most - pending) (go (leaves (Some most) pending bytes) refl)
    where
      go : (b : Bool) → leaves (Some most) pending bytes ≡ b → leaves (Some most) pending bytes ≡ true
      go true e = e
      go false e = absurd (true≢false (sym (ap (λ (b : Bool). not b && true) (ap (λ (o : Option ℕ). leaves o pending bytes) is ∙ e)) ∙ sent))

  put_copy : (to : Option Conn) (key i : ℕ) (q : Qos) (m : Message) (e : End) (w : Work) → m.qos ≡ q → up_on key w.hub.connections ≡ to → lacks_output key m w.hub ≡ false → Bounded w
      → Bounded (put_where to (publishes_at q i m e).out w)
  put_copy None key i q m e w is up sent r = r
  put_copy (Some k) key i Q0 m e w is up sent r =
      let pending = pending_on (Some k) w.hub.connections in
      let fits : publish_bytes m ≤ most - pending =
      plain_fits pending (publish_bytes m) w.hub.config.most_waiting r.limit
      (ap (λ (o : Option Conn). not (leaves w.hub.config.most_waiting (pending_on o w.hub.connections) (publish_bytes m)) && true) (sym up)
      ∙ ap (λ (q : Qos). not (leaves w.hub.config.most_waiting (pending_on (up_on key w.hub.connections) w.hub.connections) (publish_bytes m)) && not (has_identifier q)) (sym is)
      ∙ sent) in
      put_by k (publishes_at Q0 i m e).out w
      (λ same.
      let here = ap (λ (j : Conn). length (waiting_on j w.hub.connections)) (one_conn k n same) in
      let size = plain_bytes m is in
      let bytes = r.bytes in
      omega arith) r
  put_copy (Some k) key i Q1 m e w is up sent r = put_answers k (publishes_at Q1 i m e).out w (copy_answers Q1 i m e refl) r
  put_copy (Some k) key i Q2 m e w is up sent r = put_answers k (publishes_at Q2 i m e).out w (copy_answers Q2 i m e refl) r

  places : (key : ℕ) (m : Message) (ps : List Packet) (w : Work) → IsCopy key m ps w → Bounded w → Bounded (said (acts.Placed key m) (put_where (up_on key w.hub.connections) ps w))
  places key m ps w copy r =
      let v = put_where (up_on key w.hub.connections) (publishes_next m copy.end).out w in
      let b = put_copy (up_on key w.hub.connections) key (next_identifier copy.end.last copy.end.book) m.qos m copy.end w refl refl copy.sent r in
      subst (λ (ps : List Packet). Bounded (said (acts.Placed key m) (put_where (up_on key w.hub.connections) ps w))) (sym copy.is)
      (record { known = b.known; limit = b.limit; bytes = b.bytes })

  same : (w v : Work) → v.hub.connections ≡ w.hub.connections → v.hub.config ≡ w.hub.config → v.sent ≡ w.sent → Bounded w → Bounded v
  same w v lines config sent r = record {
    known = ap (knows n) lines ∙ r.known;
    limit = ap (λ (c : HubConfig). c.most_waiting) config ∙ r.limit;
    bytes = subst (λ (xs : List HubConnection). length (waiting_on n xs) ≤ base + other_bytes (on_conn n v.sent)) (sym lines)
        (subst (λ (ps : List (Conn × Packet)). length (waiting_on n w.hub.connections) ≤ base + other_bytes (on_conn n ps)) (sym sent) r.bytes);
  }

  inner : Inner Everywhere Bounds
  inner = record {
    put = λ k ps o w own plain r. put_answers k ps w plain r;
    moves = λ key e o w alike r. same w (with_sessions (with_end key e) w) refl refl refl r;
    marks = λ key now o w r. same w (with_sessions (with_left key now) w) refl refl refl r;
    took = λ key m t c w r. same w (retaining (acts.Took key m) m w) refl refl refl r;
    willed = λ key m w r. same w (retaining (acts.Will key m) m w) refl refl refl r;
    placed = λ key m ps d t c w copy r. places key m ps w copy r;
    missed = λ key m d t c w is r. same w (said (acts.Missed key m) w) refl refl refl r;
    subscribed = λ key f q d t c w r. same w (subscribing key f q w) refl refl refl r;
    unsubscribed = λ key f o w r. same w (unsubscribing key f w) refl refl refl r;
  }

  removes : (key : ℕ) (w : Work) → Bounded w → Bounded (remove key w)
  unfolding remove
  removes key w r = same w (remove key w) refl refl refl r

  removes_if : (b : Bool) (key : ℕ) (w : Work) → Bounded w → Bounded (remove_if b key w)
  removes_if true key w r = removes key w r
  removes_if false key w r = r

  begins : (client : List ℕ) (w : Work) → Bounded w → Bounded (new_session client w)
  unfolding new_session
  begins client w r = same w (new_session client w) refl refl refl r

  shuts : (k : Conn) (why : HubClose) (w : Work) → Bounded w → Bounded (said (acts.Closed k why) (shut k w))
  shuts k why w r = quiet (changed closed_line k) w (said (acts.Closed k why) (shut k w)) refl refl refl (names_changed closed_line k (λ x. refl)) (bytes_changed closed_line k (λ x. refl)) r

  rises : (k : Conn) (key : ℕ) (terms : ConnectionTerms) (last_activity : ℕ) (move : End → Reply) (present : Bool) (w : Work) → AreAnswers (move (end_of key w.hub.sessions)).out → Bounded w
      → Bounded (rising k key terms last_activity move present w)
  unfolding does
  rises k key terms last_activity move present w plain r =
      let v = staged k (ConnectedAs key terms last_activity) w in
      let e = end_of key w.hub.sessions in
      let u = with_sessions (with_end key (move e).end) v in
      let up = quiet (changed (risen k key terms last_activity) k) w u refl refl refl (names_changed (risen k key terms last_activity) k (λ x. refl)) (bytes_changed (risen k key terms last_activity) k (λ x. refl)) r in
      let d = put_where (up_on key v.hub.connections) (move e).out u in
      same d (said (acts.Up k key present) d) refl refl refl (where_answers (up_on key v.hub.connections) (move e).out u plain up)

  mild : (f : HubConnection → HubConnection) (k : Conn) (w : Work) → Names f → BytesStay f → Bounded w → Bounded (with_connections (with_connection f k) w)
  mild f k w names bytes r = quiet (changed f k) w (with_connections (with_connection f k) w) refl refl refl (names_changed f k names) (bytes_changed f k bytes) r

  outer : Outer Everywhere Bounds Freely Anywhere
  outer = record {
    mild = λ f k o w m r. mild f k w (λ x. (m x).0) (λ x. (m x).1) r;
    gets = λ key p w s there up g r. same w (with_sessions (with_end key (server_gets p (end_of key w.hub.sessions)).end) w) refl refl refl r;
    noted = λ c w r. same w (record w { came = w.came ++ c }) refl refl refl r;
    shuts = λ k why w may s free r. shuts k why w r;
    closes = λ k why key terms last_activity w may s e r.
        let v = said (acts.Closed k why) (shut k w) in
        let u = with_sessions (with_end key (over (end_of key w.hub.sessions))) v in
        removes_if terms.clean_session key u (same v u refl refl refl (shuts k why w r));
    drops = λ k why key terms last_activity fits w near stage m has short r. same (closing k why key terms w) (said (acts.WillDropped key) (closing k why key terms w)) refl refl refl r;
    removes = λ key w s none r. removes key w r;
    begins = λ client w s r. begins client w r;
    rises = λ k key terms last_activity move present w own s known free none there up clean received plain r. rises k key terms last_activity move present w plain r;
  }

  holds : (k : Conn) (b : List ℕ) (w : Work) → Bounded w → Bounded (holding k b w)
  holds k b w r = mild (λ x. record x { held = b }) k w (λ x. refl) (λ x. refl) r

  -- ---- events

  starts : (h : HubState) → knows n h.connections ≡ true → h.config.most_waiting ≡ Some most → length (waiting_on n h.connections) ≤ base → Bounded (begin h)
  starts h known limit few = record { known = known; limit = limit; bytes = omega (arith, few) }

  event : (h : HubState) (e : HubEvent) (r : HubReply) (w : Work) → Does h e r w → ends_it n e ≡ false → Sound h → Bounded (begin h) → Bounded w
  event h (Opened k) r w d stays s b =
      subst Bounded (sym d.0) (record {
        known = knows_opened n k h.clock h.connections b.known;
        limit = b.limit;
        bytes = subst (λ (l : List ℕ). length l ≤ base + other_bytes []) (sym (waiting_opened n k h.clock h.connections b.known)) b.bytes;
      })
  event h (Bytes k piece) r w d stays s b =
      let start = holding_both Bounds Freely Anywhere inner outer freely anywhere k [] (begin h) (λ r. holds k [] (begin h) r) (s, b) in
      (comes_both Bounds Freely Anywhere inner outer freely anywhere (λ fits w. tt) (tt, tt) h.config.limits k tt (holds k) (held_on k h.connections ++ piece) (holding k [] (begin h)) w d.0 start).1
  event h (Ended k) r w d stays s b =
      let end = (ended_both Bounds Freely Anywhere inner outer freely anywhere k (is_open (stage_of k h.connections)) d.0 (begin h) tt (s, b)).1 in
      let v = close_if_open k (is_open (stage_of k h.connections)) d.0 (begin h) in
      let kept = kept_line n k stays v.hub.connections in
      subst Bounded (sym d.1) (record {
        known = kept.0 ∙ end.known;
        limit = end.limit;
        bytes = subst (λ (l : List ℕ). length l ≤ base + other_bytes (on_conn n v.sent)) (sym kept.1) end.bytes;
      })
  event h (Tick now) r w d stays s b =
      (tick_both Bounds Freely Anywhere inner outer freely anywhere (λ fits w. tt) tt (with_clock now h) w d.0 (s, same (begin h) (begin (with_clock now h)) refl refl refl b)).1
  event h (Collect k) r w d stays s b =
      subst Bounded (sym d.0) (record {
        known = knows_map (changed emptied k) (names_changed emptied k (λ x. refl)) n h.connections ∙ b.known;
        limit = b.limit;
        bytes = go (same_conn k n) refl;
      })
    where
      go : (t : Bool) → same_conn k n ≡ t → length (waiting_on n (with_connection emptied k h.connections)) ≤ base + other_bytes []
      go true e =
          subst (λ (l : List ℕ). length l ≤ base + other_bytes []) (sym (ap (λ (j : Conn). waiting_on n (with_connection emptied j h.connections)) (one_conn k n e) ∙ emptied_here n h.connections)) (omega arith)
      go false e = subst (λ (l : List ℕ). length l ≤ base + other_bytes []) (sym (put_there k n emptied h.connections (λ x. refl) e)) b.bytes

-- ---- runs

pub bounded_run : (n : Conn) (most base : ℕ) → most ≤ base → (es : List Episode) (h h2 : HubState) → Follows h es h2 → Stays n es → Sound h → knows n h.connections ≡ true
    → h.config.most_waiting ≡ Some most → length (waiting_on n h.connections) ≤ base → length (waiting_on n h2.connections) ≤ base + other_bytes (on_conn n (sent_in es))
bounded_run n most base low [] h h2 f stays s known limit few = subst (λ (h : HubState). length (waiting_on n h.connections) ≤ base + 0) (sym f) (omega (arith, few))
bounded_run n most base low (e ∷ es) h h2 f stays s known limit few =
    let b = event n most base low h e.event e.reply e.work f.1 stays.0 s (starts n most base low h known limit few) in
    let first = other_bytes (on_conn n e.work.sent) in
    let later = bounded_run n most (base + first) (omega arith) es e.work.hub h2 f.2 stays.1 (sound_event h e.event e.reply e.work f.0 f.1 s) b.known b.limit b.bytes in
    let all = ap other_bytes (on_conn-append n e.work.sent (sent_in es)) ∙ other_append (on_conn n e.work.sent) (on_conn n (sent_in es)) in
    omega arith
