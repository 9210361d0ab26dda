-- The packets that are read are those that the bytes encode.
use Rattle.std.proofs.Common.{◌≡◌, ℕ, Bool, true, false, not, cond, ◌&&◌, ◌||◌, List, [], ◌∷◌, ◌++◌, Option, Some, None, refl, sym, ap, subst, ◌∙◌, true≢false, append_assoc, append-nil}
use Rattle.std.proofs.lemmas.Bool.{cond-true, cond-false, cond_both}
use Rattle.mq_packet.specs.declared.packet.Packet.{Packet}
use Rattle.mq_packet.specs.Encoding.{encodings}
use Rattle.mq_decode.specs.declared.fault.DecodeFault.{DecodeFault}
use Rattle.mq_decode.specs.Grammar.{Stream}
use Rattle.mq_decode.specs.Limits.{Bounds}
use Rattle.mq_decode.proofs.Streams.{stream_join}
use Rattle.mq_end.specs.declared.reason.CloseReason.{CloseReason}
use Rattle.mq_end.specs.declared.reason.CloseReason.TheVariants as reasons
use Rattle.mq_end.specs.End.{End, Reply, closes, over, is_up}
use Rattle.mq_end.specs.Server.{level_refused}
use Rattle.mq_end.specs.State.{is_level, server_faulted}
use Rattle.mq_route.specs.declared.conn.Conn.{Conn}
use Rattle.mq_route.specs.declared.act.Act.TheVariants as acts
use Rattle.mq_route.specs.declared.close.HubClose.TheVariants.{Own}
use Rattle.mq_route.specs.declared.config.HubConfig.{HubConfig}
use Rattle.mq_route.specs.declared.event.HubEvent.{HubEvent}
use Rattle.mq_route.specs.declared.event.HubEvent.TheVariants.{Opened, Bytes, Ended, Tick, Collect}
use Rattle.mq_route.specs.declared.reply.HubReply.{HubReply}
use Rattle.mq_route.specs.declared.connection_state.ConnectionState.{ConnectionState}
use Rattle.mq_route.specs.declared.connection_state.ConnectionState.TheVariants.{AwaitingConnect, ConnectedAs, Closed}
use Rattle.mq_route.specs.declared.connection_state.ConnectionTerms.{ConnectionTerms}
use Rattle.mq_route.specs.Routed.{same_conn}
use Rattle.mq_route.specs.Hub.{HubState, HubConnection, new_hub, is_connection, knows, stage_of, held_on, changed, with_connection, without_connection, is_open, up_on, end_on, end_of, with_end}
use Rattle.mq_route.specs.Work.{Work, begin, said, with_connections, with_sessions, staged, shut, put_on, does, remove, remove_if}
use Rattle.mq_route.specs.Arrives.{new_session, on_packet, broken, closes_by, on_malformed}
use Rattle.mq_route.specs.Step.{holding, OnBytes, Arrives, Waits, Breaks, Starves, LetsGo, Does, event_refusal, close_if_open, with_clock}
use Rattle.mq_route.specs.Runs.{Episode, Follows, Stays, ends_it}
use Rattle.mq_route.specs.Reading.{reads_in, read_by, read_on, bytes_to, arrived, ReadLaws}
use Rattle.mq_route.proofs.Lines.{one_conn, same_conn-itself, Names, grown, names_changed, stage_here, stage_there, helds_changed, opens_changed, held_map, open_map, held_there, held_here, open_known}
use Rattle.mq_route.proofs.Uppers.{newcomer, risen}
use Rattle.mq_route.proofs.Changes.{Anywhere, anywhere, Freely, freely, Debt, owes, nothing, Everywhere, Inner, Sends, sent_where, Outer, Sound, names_grown, closed_line, rising}
use Rattle.mq_route.proofs.Frames.{Firm, stage_firm, closed_shut}
use Rattle.mq_route.proofs.Steps.{comes_both, holding_both, tick_both, ended_both}
use Rattle.mq_route.proofs.Events.{sound_new, emptied}
use Rattle.mq_route.proofs.Output.{leaves, sound_event, sound_run}
use Rattle.mq_route.proofs.Logging.{logs_event}

-- ---- the configuration

module _ (c : HubConfig) where
  abbrev pub Same : Debt → Work → Type 0
  Same o w = w.hub.config ≡ c

  same_put : Sends Same
  unfolding put_on
  same_put k ps o w r = r

  pub same_inner : Inner Everywhere Same
  same_inner = record {
    put = λ k ps o w own plain r. same_put k ps o w r;
    moves = λ key e o w alike r. r;
    marks = λ key now o w r. r;
    took = λ key m t n w r. r;
    willed = λ key m w r. r;
    placed = λ key m ps d t n w copy r. sent_where Same same_put (up_on key w.hub.connections) ps (owes ((key, m) ∷ d) t n) w r;
    missed = λ key m d t n w is r. r;
    subscribed = λ key f q d t n w r. r;
    unsubscribed = λ key f o w r. r;
  }

  same_removed : (b : Bool) (key : ℕ) (w : Work) → Same nothing w → Same nothing (remove_if b key w)
  unfolding remove
  same_removed true key w r = r
  same_removed false key w r = r

  same_begun : (client : List ℕ) (w : Work) → Same nothing w → Same nothing (new_session client w)
  unfolding new_session
  same_begun client w r = r

  same_risen : (k : Conn) (key : ℕ) (terms : ConnectionTerms) (last_activity : ℕ) (move : End → Reply) (present : Bool) (w : Work) → Same nothing w → Same nothing (rising k key terms last_activity move present w)
  unfolding does
  same_risen k key terms last_activity move present w r =
      let v = staged k (ConnectedAs key terms last_activity) w in
      let e = end_of key w.hub.sessions in
      sent_where Same same_put (up_on key v.hub.connections) (move e).out nothing (with_sessions (with_end key (move e).end) v) r

  pub same_outer : Outer Everywhere Same Freely Anywhere
  same_outer = record {
    mild = λ f k o w m r. r;
    gets = λ key p w s there up g r. r;
    noted = λ n w r. r;
    shuts = λ k why w may s free r. r;
    closes = λ k why key terms last_activity w may s e r. same_removed terms.clean_session key (with_sessions (with_end key (over (end_of key w.hub.sessions))) (said (acts.Closed k why) (shut k w))) r;
    drops = λ k why key terms last_activity fits w near stage m has short r. r;
    removes = λ key w s none r. same_removed true key w r;
    begins = λ client w s r. same_begun client w r;
    rises = λ k key terms last_activity move present w own s known fresh none there up clean received plain r. same_risen k key terms last_activity move present w r;
  }

pub same_event : (h : HubState) (e : HubEvent) (r : HubReply) (w : Work) → Does h e r w → Sound h → w.hub.config ≡ h.config
same_event h (Opened k) r w d s = ap (λ (w : Work). w.hub.config) d.0
same_event h (Bytes k piece) r w d s =
    let c = h.config in
    (comes_both (Same c) Freely Anywhere (same_inner c) (same_outer c) freely anywhere (λ fits w. tt) (tt, tt) h.config.limits k tt (λ b v r. r) (held_on k h.connections ++ piece) (holding k [] (begin h)) w d.0
    (holding_both (Same c) Freely Anywhere (same_inner c) (same_outer c) freely anywhere k [] (begin h) (λ r. r) (s, refl))).1
same_event h (Ended k) r w d s =
    let c = h.config in
    ap (λ (w : Work). w.hub.config) d.1 ∙ (ended_both (Same c) Freely Anywhere (same_inner c) (same_outer c) freely anywhere k (is_open (stage_of k h.connections)) d.0 (begin h) tt (s, refl)).1
same_event h (Tick now) r w d s =
    let c = h.config in
    (tick_both (Same c) Freely Anywhere (same_inner c) (same_outer c) freely anywhere (λ fits w. tt) tt (with_clock now h) w d.0 (s, refl)).1
same_event h (Collect k) r w d s = ap (λ (w : Work). w.hub.config) d.0

pub same_run : (es : List Episode) (h h2 : HubState) → Follows h es h2 → Sound h → h2.config ≡ h.config
same_run [] h h2 f s = ap (λ (h : HubState). h.config) f
same_run (e ∷ es) h h2 f s = same_run es e.work.hub h2 f.2 (sound_event h e.event e.reply e.work f.0 f.1 s) ∙ same_event h e.event e.reply e.work f.1 s

-- ---- a connection without input

held_firm : (n : Conn) → Firm (held_on n)
held_firm n b k xs = held_map (changed (grown b) k) (names_changed (grown b) k (names_grown b)) (helds_changed (grown b) k (λ x. refl)) n xs

module _ (n : Conn) (A : Type 0) (kept : List ℕ) where
  -- if the connection is open, it was open and holds these bytes
  abbrev Still : Debt → Work → Type 0
  Still o w = is_open (stage_of n w.hub.connections) ≡ true → A × (held_on n w.hub.connections ≡ kept)

  put_still : (k : Conn) (ps : List Packet) (o : Debt) (w : Work) → Still o w → Still o (put_on k ps w)
  unfolding put_on
  put_still k ps o w r up =
      let s = r (ap is_open (sym (stage_firm n (encodings ps) k w.hub.connections)) ∙ up) in (s.0, held_firm n (encodings ps) k w.hub.connections ∙ s.1)

  still_inner : Inner Everywhere Still
  still_inner = record {
    put = λ k ps o w own plain r. put_still k ps o w r;
    moves = λ key e o w alike r. r;
    marks = λ key now o w r. r;
    took = λ key m t c w r. r;
    willed = λ key m w r. r;
    placed = λ key m ps d t c w copy r. sent_where Still put_still (up_on key w.hub.connections) ps (owes ((key, m) ∷ d) t c) w r;
    missed = λ key m d t c w is r. r;
    subscribed = λ key f q d t c w r. r;
    unsubscribed = λ key f o w r. r;
  }

  -- a change of another connection
  other_still : (k : Conn) (f : HubConnection → HubConnection) → Names f → same_conn k n ≡ false → (w : Work) → Still nothing w → Still nothing (with_connections (with_connection f k) w)
  other_still k f names apart w r up =
      let s = r (ap is_open (sym (stage_there k n f w.hub.connections names apart)) ∙ up) in (s.0, held_there k n f w.hub.connections names apart ∙ s.1)

  shut_still : (k : Conn) (w : Work) → Still nothing w → Still nothing (shut k w)
  shut_still k w r = go (same_conn k n) refl
    where
      go : (b : Bool) → same_conn k n ≡ b → Still nothing (shut k w)
      go true same up =
          let closed : stage_of k (shut k w).hub.connections ≡ Closed = stage_here closed_line (λ s. Closed) k w.hub.connections (λ x. refl) (λ x. refl) refl in
          absurd (true≢false (sym up ∙ ap (λ (m : Conn). is_open (stage_of m (shut k w).hub.connections)) (sym (one_conn k n same)) ∙ ap is_open closed))
      go false apart up = other_still k closed_line (λ x. refl) apart w r up

  removed_still : (b : Bool) (key : ℕ) (w : Work) → Still nothing w → Still nothing (remove_if b key w)
  unfolding remove
  removed_still true key w r = r
  removed_still false key w r = r

  begun_still : (client : List ℕ) (w : Work) → Still nothing w → Still nothing (new_session client w)
  unfolding new_session
  begun_still client w r = r

  staged_still : (k : Conn) (key : ℕ) (terms : ConnectionTerms) (last_activity : ℕ) (w : Work) → stage_of k w.hub.connections ≡ AwaitingConnect → Still nothing w → Still nothing (staged k (ConnectedAs key terms last_activity) w)
  staged_still k key terms last_activity w fresh r = go (same_conn k n) refl
    where
      go : (b : Bool) → same_conn k n ≡ b → Still nothing (staged k (ConnectedAs key terms last_activity) w)
      go true same up =
          let f = risen k key terms last_activity in
          let s = r (ap is_open (ap (λ (m : Conn). stage_of m w.hub.connections) (sym (one_conn k n same)) ∙ fresh)) in
          (s.0, held_map (changed f k) (names_changed f k (λ x. refl)) (helds_changed f k (λ x. refl)) n w.hub.connections ∙ s.1)
      go false apart up = other_still k (risen k key terms last_activity) (λ x. refl) apart w r up

  risen_still : (k : Conn) (key : ℕ) (terms : ConnectionTerms) (last_activity : ℕ) (move : End → Reply) (present : Bool) (w : Work) → stage_of k w.hub.connections ≡ AwaitingConnect → Still nothing w
      → Still nothing (rising k key terms last_activity move present w)
  unfolding does
  risen_still k key terms last_activity move present w fresh r =
      let v = staged k (ConnectedAs key terms last_activity) w in
      let e = end_of key w.hub.sessions in
      sent_where Still put_still (up_on key v.hub.connections) (move e).out nothing (with_sessions (with_end key (move e).end) v) (staged_still k key terms last_activity w fresh r)

  still_outer : Outer Everywhere Still Freely Anywhere
  still_outer = record {
    mild = λ f k o w m r up.
        let s = r (sym (open_map (changed f k) (names_changed f k (λ x. (m x).0)) (opens_changed f k (λ x. (m x).5)) n w.hub.connections) ∙ up) in
        (s.0, held_map (changed f k) (names_changed f k (λ x. (m x).0)) (helds_changed f k (λ x. (m x).4)) n w.hub.connections ∙ s.1);
    gets = λ key p w s there up g r. r;
    noted = λ c w r. r;
    shuts = λ k why w may s free r. shut_still k w r;
    closes = λ k why key terms last_activity w may s e r. removed_still terms.clean_session key (with_sessions (with_end key (over (end_of key w.hub.sessions))) (said (acts.Closed k why) (shut k w))) (shut_still k w r);
    drops = λ k why key terms last_activity fits w near stage m has short r. r;
    removes = λ key w s none r. removed_still true key w r;
    begins = λ client w s r. begun_still client w r;
    rises = λ k key terms last_activity move present w own s known fresh none there up clean received plain r. risen_still k key terms last_activity move present w fresh r;
  }

-- ---- bytes of a connection

-- what reading these bytes leaves
pub record ReadsIn (k : Conn) (limits : Bounds) (packets : List Packet) (bytes : List ℕ) (h h2 : HubState) : Type 0 where
  pub front : List ℕ
  pub rest : List ℕ
  pub stream : Stream limits packets front
  pub parts : bytes ≡ front ++ rest
  pub held : is_open (stage_of k h2.connections) ≡ true → (is_open (stage_of k h.connections) ≡ true) × (held_on k h2.connections ≡ rest)
  pub closed : is_open (stage_of k h.connections) ≡ false → packets ≡ []

-- a fault closes the connection
fault_closes : (fault : DecodeFault) (e : End) → (reason : CloseReason) × ((server_faulted fault e).close ≡ Some reason)
fault_closes fault e =
    cond_both (not (is_up e.state) && is_level fault.kind) (level_refused e) (closes (reasons.Fault fault) e) (λ (r : Reply). (reason : CloseReason) × (r.close ≡ Some reason)) (λ t. (_, refl)) (λ f. (_, refl))

malformed_shut : (k : Conn) (fault : DecodeFault) (fits : Bool) (w : Work) → stage_of k (on_malformed k fault fits w).hub.connections ≡ Closed
unfolding on_malformed
malformed_shut k fault fits w =
    let c = fault_closes fault (end_on (stage_of k w.hub.connections) w.hub.sessions) in
    let v = put_on k (broken k fault w).out w in
    ap (λ (o : Option CloseReason). stage_of k (closes_by k o fits v).hub.connections) c.1 ∙ closed_shut k (Own c.0) fits v

not_open : (s : ConnectionState) (A : Type 0) → s ≡ Closed → is_open s ≡ true → A
not_open s A e up = absurd (true≢false (sym up ∙ ap is_open e))

reads_comes : (limits : Bounds) (k : Conn) (b : List ℕ) (w w2 : Work) (c : OnBytes limits k b w w2) → ReadsIn k limits (reads_in limits k b w w2 c) b w.hub w2.hub
reads_comes limits k b w w2 (Arrives p first rest g v v2 on reads more) =
    let later = reads_comes limits k rest (on_packet k p g v) v2 more in
    record {
      front = first ++ later.front;
      rest = later.rest;
      stream = (first, later.front, reads, later.stream, refl);
      parts = ap (λ (l : List ℕ). first ++ l) later.parts ∙ sym (append_assoc first later.front later.rest);
      held = λ up. (on, (later.held up).1);
      closed = λ shut. absurd (true≢false (sym on ∙ shut));
    }
reads_comes limits k b w w2 (Waits c v on pending) =
    record { front = []; rest = c; stream = refl; parts = refl; held = λ up. (on, held_here k c v.hub.connections (open_known k v.hub.connections on)); closed = λ shut. refl }
reads_comes limits k b w w2 (Breaks c fault fits v on faulty) =
    record { front = []; rest = c; stream = refl; parts = refl; held = λ up. not_open _ _ (malformed_shut k fault fits v) up; closed = λ shut. refl }
reads_comes limits k b w w2 (Starves c fits v on some) =
    record { front = []; rest = c; stream = refl; parts = refl; held = λ up. not_open _ _ (closed_shut k (Own reasons.Memory) fits v) up; closed = λ shut. refl }
reads_comes limits k b w w2 (LetsGo c v closed) =
    record { front = []; rest = c; stream = refl; parts = refl; held = λ up. absurd (true≢false (sym up ∙ closed)); closed = λ shut. refl }

-- ---- events

-- nothing arrives, and nothing is read
quiet : (n : Conn) (limits : Bounds) (h : HubState) (w : Work) → Still n (is_open (stage_of n h.connections) ≡ true) (held_on n h.connections) nothing w → ReadsIn n limits [] (held_on n h.connections ++ []) h w.hub
quiet n limits h w still = record { front = []; rest = held_on n h.connections; stream = refl; parts = append-nil (held_on n h.connections); held = still; closed = λ shut. refl }

begins_still : (n : Conn) (h : HubState) → Still n (is_open (stage_of n h.connections) ≡ true) (held_on n h.connections) nothing (begin h)
begins_still n h up = (up, refl)

newcomer_after : (n k : Conn) (at : ℕ) (xs : List HubConnection) → knows n xs ≡ true → (stage_of n (xs ++ newcomer k at ∷ []) ≡ stage_of n xs) × (held_on n (xs ++ newcomer k at ∷ []) ≡ held_on n xs)
newcomer_after n k at [] h = absurd (true≢false (sym h))
newcomer_after n k at (x ∷ xs) h = go (is_connection n x) refl (newcomer_after n k at xs)
  where
    go : (b : Bool) → is_connection n x ≡ b → (knows n xs ≡ true → (stage_of n (xs ++ newcomer k at ∷ []) ≡ stage_of n xs) × (held_on n (xs ++ newcomer k at ∷ []) ≡ held_on n xs))
        → (stage_of n (x ∷ (xs ++ newcomer k at ∷ [])) ≡ stage_of n (x ∷ xs)) × (held_on n (x ∷ (xs ++ newcomer k at ∷ [])) ≡ held_on n (x ∷ xs))
    go true e ih = (
      cond-true (is_connection n x) x.stage (stage_of n (xs ++ newcomer k at ∷ [])) e ∙ sym (cond-true (is_connection n x) x.stage (stage_of n xs) e),
      cond-true (is_connection n x) x.held (held_on n (xs ++ newcomer k at ∷ [])) e ∙ sym (cond-true (is_connection n x) x.held (held_on n xs) e),
    )
    go false e ih =
        let r = ih (sym (ap (λ (t : Bool). t || knows n xs) e) ∙ h) in
        (ap (λ (s : ConnectionState). cond (is_connection n x) x.stage s) r.0, ap (λ (b : List ℕ). cond (is_connection n x) x.held b) r.1)

-- the end of another connection
others_after : (n k : Conn) → same_conn k n ≡ false → (xs : List HubConnection) → (stage_of n (without_connection k xs) ≡ stage_of n xs) × (held_on n (without_connection k xs) ≡ held_on n xs)
others_after n k apart [] = (refl, refl)
others_after n k apart (x ∷ xs) = go (is_connection k x) refl (others_after n k apart xs)
  where
    go : (b : Bool) → is_connection k x ≡ b → (stage_of n (without_connection k xs) ≡ stage_of n xs) × (held_on n (without_connection k xs) ≡ held_on n xs)
        → (stage_of n (without_connection k (x ∷ xs)) ≡ stage_of n (x ∷ xs)) × (held_on n (without_connection k (x ∷ xs)) ≡ held_on n (x ∷ xs))
    go true e ih =
        let far : is_connection n x ≡ false = ap (λ (j : Conn). same_conn j n) (one_conn x.conn k e) ∙ apart in
        let gone : without_connection k (x ∷ xs) ≡ without_connection k xs = cond-false (not (is_connection k x)) (x ∷ without_connection k xs) (without_connection k xs) (ap not e) in (
          ap (stage_of n) gone ∙ ih.0 ∙ sym (cond-false (is_connection n x) x.stage (stage_of n xs) far),
          ap (held_on n) gone ∙ ih.1 ∙ sym (cond-false (is_connection n x) x.held (held_on n xs) far),
        )
    go false e ih =
        let stays : without_connection k (x ∷ xs) ≡ x ∷ without_connection k xs = cond-true (not (is_connection k x)) (x ∷ without_connection k xs) (without_connection k xs) (ap not e) in (
          ap (stage_of n) stays ∙ ap (λ (s : ConnectionState). cond (is_connection n x) x.stage s) ih.0,
          ap (held_on n) stays ∙ ap (λ (b : List ℕ). cond (is_connection n x) x.held b) ih.1,
        )

-- the bytes of the event's own connection
reads_own : (k : Conn) (h : HubState) (piece : List ℕ) (r : HubReply) (w : Work) (d : Does h (Bytes k piece) r w)
    → ReadsIn k h.config.limits (read_by k h (Bytes k piece) r w d) (held_on k h.connections ++ bytes_to k (Bytes k piece)) h w.hub
reads_own k h piece r w d =
    let c = reads_comes h.config.limits k (held_on k h.connections ++ piece) (holding k [] (begin h)) w d.0 in
    let f : HubConnection → HubConnection = λ x. record x { held = [] } in
    let start : stage_of k (holding k [] (begin h)).hub.connections ≡ stage_of k h.connections = stage_here f (λ s. s) k h.connections (λ x. refl) (λ x. refl) refl in
    let packets = reads_in h.config.limits k (held_on k h.connections ++ piece) (holding k [] (begin h)) w d.0 in
    subst (λ (b : Bool). ReadsIn k h.config.limits (cond b packets []) (held_on k h.connections ++ cond b piece []) h w.hub) (sym (same_conn-itself k))
    (record {
      front = c.front;
      rest = c.rest;
      stream = c.stream;
      parts = c.parts;
      held = λ up. let s = c.held up in (ap is_open (sym start) ∙ s.0, s.1);
      closed = λ shut. c.closed (ap is_open start ∙ shut);
    })

reads_event : (n : Conn) (h : HubState) (e : HubEvent) (r : HubReply) (w : Work) → event_refusal e h ≡ None → (d : Does h e r w) → ends_it n e ≡ false → Sound h → knows n h.connections ≡ true
    → ReadsIn n h.config.limits (read_by n h e r w d) (held_on n h.connections ++ bytes_to n e) h w.hub
reads_event n h (Opened k) r w right d stays s known =
    quiet n h.config.limits h w (subst (λ (w : Work). Still n (is_open (stage_of n h.connections) ≡ true) (held_on n h.connections) nothing w) (sym d.0)
    (λ up. let same = newcomer_after n k h.clock h.connections known in (ap is_open (sym same.0) ∙ up, same.1)))
reads_event n h (Bytes k piece) r w right d stays s known = go (same_conn k n) refl
  where
    packets : List Packet
    packets = reads_in h.config.limits k (held_on k h.connections ++ piece) (holding k [] (begin h)) w d.0

    go : (b : Bool) → same_conn k n ≡ b → ReadsIn n h.config.limits (cond (same_conn k n) packets []) (held_on n h.connections ++ cond (same_conn k n) piece []) h w.hub
    go true same =
        subst (λ (m : Conn). ReadsIn m h.config.limits (cond (same_conn k m) packets []) (held_on m h.connections ++ cond (same_conn k m) piece []) h w.hub) (one_conn k n same) (reads_own k h piece r w d)
    go false apart =
        let A : Type 0 = is_open (stage_of n h.connections) ≡ true in
        let b = held_on n h.connections in
        let holds : (c : List ℕ) (v : Work) → Still n A b nothing v → Still n A b nothing (holding k c v) = λ c v r. other_still n A b k (λ x. record x { held = c }) (λ x. refl) apart v r in
        let start = holding_both (Still n A b) Freely Anywhere (still_inner n A b) (still_outer n A b) freely anywhere k [] (begin h) (holds [] (begin h)) (s, begins_still n h) in
        let end = comes_both (Still n A b) Freely Anywhere (still_inner n A b) (still_outer n A b) freely anywhere (λ fits w. tt) (tt, tt) h.config.limits k tt holds (held_on k h.connections ++ piece) (holding k [] (begin h)) w d.0 start in
        subst (λ (t : Bool). ReadsIn n h.config.limits (cond t packets []) (held_on n h.connections ++ cond t piece []) h w.hub) (sym apart) (quiet n h.config.limits h w end.1)
reads_event n h (Ended k) r w right d stays s known =
    let A : Type 0 = is_open (stage_of n h.connections) ≡ true in
    let b = held_on n h.connections in
    let end = ended_both (Still n A b) Freely Anywhere (still_inner n A b) (still_outer n A b) freely anywhere k (is_open (stage_of k h.connections)) d.0 (begin h) tt (s, begins_still n h) in
    let v = close_if_open k (is_open (stage_of k h.connections)) d.0 (begin h) in
    let kept = others_after n k stays v.hub.connections in
    quiet n h.config.limits h w (subst (λ (w : Work). Still n A b nothing w) (sym d.1) (λ up. let s = end.1 (ap is_open (sym kept.0) ∙ up) in (s.0, kept.1 ∙ s.1)))
reads_event n h (Tick now) r w right d stays s known =
    let A : Type 0 = is_open (stage_of n h.connections) ≡ true in
    let b = held_on n h.connections in
    quiet n h.config.limits h w
    (tick_both (Still n A b) Freely Anywhere (still_inner n A b) (still_outer n A b) freely anywhere (λ fits w. tt) tt (with_clock now h) w d.0 (s, begins_still n h)).1
reads_event n h (Collect k) r w right d stays s known =
    let f = changed emptied k in
    let names : Names f = names_changed emptied k (λ x. refl) in
    quiet n h.config.limits h w (subst (λ (w : Work). Still n (is_open (stage_of n h.connections) ≡ true) (held_on n h.connections) nothing w) (sym d.0)
    (λ up. (sym (open_map f names (opens_changed emptied k (λ x. refl)) n h.connections) ∙ up, held_map f names (helds_changed emptied k (λ x. refl)) n h.connections)))

-- ---- runs

knows_event : (n : Conn) (h : HubState) (e : HubEvent) (r : HubReply) (w : Work) → event_refusal e h ≡ None → Does h e r w → ends_it n e ≡ false → Sound h → knows n h.connections ≡ true → knows n w.hub.connections ≡ true
knows_event n h e r w right d stays s known = (leaves n h e r w right d stays s known).1

-- two parts of a run, one after the other
joins : (n : Conn) (limits : Bounds) (ps qs : List Packet) (base bytes more : List ℕ) (h mid h2 : HubState) → ReadsIn n limits ps (base ++ bytes) h mid → ReadsIn n limits qs (held_on n mid.connections ++ more) mid h2
    → ReadsIn n limits (ps ++ qs) (base ++ (bytes ++ more)) h h2
joins n limits ps qs base bytes more h mid h2 a b = go (is_open (stage_of n mid.connections)) refl
  where
    none : (ps qs : List Packet) → ps ≡ [] → qs ≡ [] → ps ++ qs ≡ []
    none ps qs p q = λ i. p i ++ q i

    shut : is_open (stage_of n h.connections) ≡ false → is_open (stage_of n mid.connections) ≡ false
    shut closed = go (is_open (stage_of n mid.connections)) refl
      where
        go : (t : Bool) → is_open (stage_of n mid.connections) ≡ t → t ≡ false
        go true up = absurd (true≢false (sym (a.held up).0 ∙ closed))
        go false closed = refl

    go : (t : Bool) → is_open (stage_of n mid.connections) ≡ t → ReadsIn n limits (ps ++ qs) (base ++ (bytes ++ more)) h h2
    go true up = record {
      front = a.front ++ b.front;
      rest = b.rest;
      stream = stream_join limits ps qs a.front b.front a.stream b.stream;
      parts = sym (append_assoc base bytes more)
          ∙ ap (λ (l : List ℕ). l ++ more) a.parts
          ∙ append_assoc a.front a.rest more
          ∙ ap (λ (l : List ℕ). a.front ++ l) (ap (λ (l : List ℕ). l ++ more) (sym (a.held up).1) ∙ b.parts)
          ∙ sym (append_assoc a.front b.front b.rest);
      held = λ end. ((a.held up).0, (b.held end).1);
      closed = λ closed. none ps qs (a.closed closed) (b.closed (shut closed));
    }
    go false closed = record {
      front = a.front;
      rest = a.rest ++ more;
      stream = subst (λ (l : List Packet). Stream limits l a.front) (sym (ap (λ (l : List Packet). ps ++ l) (b.closed closed) ∙ append-nil ps)) a.stream;
      parts = sym (append_assoc base bytes more) ∙ ap (λ (l : List ℕ). l ++ more) a.parts ∙ append_assoc a.front a.rest more;
      held = λ end. absurd (true≢false (sym (b.held end).0 ∙ closed));
      closed = λ closed. none ps qs (a.closed closed) (b.closed (shut closed));
    }

reads_run : (n : Conn) (limits : Bounds) (es : List Episode) (h h2 : HubState) (f : Follows h es h2) → h.config.limits ≡ limits → Stays n es → Sound h → knows n h.connections ≡ true
    → ReadsIn n limits (read_on n h es h2 f) (held_on n h.connections ++ arrived n es) h h2
reads_run n limits [] h h2 f same st s known =
    subst (λ (g : HubState). ReadsIn n limits [] (held_on n h.connections ++ []) h g) (sym f) (quiet n limits h (begin h) (begins_still n h))
reads_run n limits (e ∷ es) h h2 f same st s known =
    let first = subst (λ (l : Bounds). ReadsIn n l (read_by n h e.event e.reply e.work f.1) (held_on n h.connections ++ bytes_to n e.event) h e.work.hub) same (reads_event n h e.event e.reply e.work f.0 f.1 st.0 s known) in
    let later = reads_run n limits es e.work.hub h2 f.2 (ap (λ (c : HubConfig). c.limits) (same_event h e.event e.reply e.work f.1 s) ∙ same) st.1 (sound_event h e.event e.reply e.work f.0 f.1 s)
    (knows_event n h e.event e.reply e.work f.0 f.1 st.0 s known) in
    joins n limits (read_by n h e.event e.reply e.work f.1) (read_on n e.work.hub es h2 f.2) (held_on n h.connections) (bytes_to n e.event) (arrived n es) h e.work.hub h2 first later

pub laws : ReadLaws
laws = record {
  same_config = λ config es h f. same_run es (new_hub config) h f (sound_new config);
  read = λ config before h f after h2 g k stays known.
      let same = ap (λ (c : HubConfig). c.limits) (same_run before (new_hub config) h f (sound_new config)) in
      let r = reads_run k config.limits after h h2 g same stays (sound_run before (new_hub config) h f (sound_new config)) known in
      record { front = r.front; rest = r.rest; stream = r.stream; parts = r.parts; held = λ up. (r.held up).1 };
  logged = logs_event;
}
