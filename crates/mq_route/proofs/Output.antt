-- The bytes written on a connection are the encodings of the packets that were sent on it.
use Rattle.std.proofs.Common.{◌≡◌, ℕ, Bool, true, false, not, cond, ◌||◌, List, [], ◌∷◌, ◌++◌, map, None, refl, sym, ap, ap₂, subst, ◌∙◌, append_assoc, append-nil}
use Rattle.std.proofs.lemmas.Bool.{cond-true, cond-false}
use Rattle.std.proofs.lemmas.List.Concat.{flat_map-append}
use Rattle.mq_packet.specs.declared.packet.Packet.{Packet}
use Rattle.mq_packet.specs.Encoding.{encoding, encodings}
use Rattle.mq_end.specs.End.{End, Reply, over}
use Rattle.mq_route.specs.declared.act.Act.TheVariants as acts
use Rattle.mq_route.specs.declared.close.HubClose.{HubClose}
use Rattle.mq_route.specs.declared.conn.Conn.{Conn}
use Rattle.mq_route.specs.declared.event.HubEvent.{HubEvent}
use Rattle.mq_route.specs.declared.event.HubEvent.TheVariants.{Opened, Bytes, Ended, Tick, Collect}
use Rattle.mq_route.specs.declared.reply.HubReply.{HubReply}
use Rattle.mq_route.specs.declared.connection_state.ConnectionState.TheVariants.{ConnectedAs}
use Rattle.mq_route.specs.declared.connection_state.ConnectionTerms.{ConnectionTerms}
use Rattle.mq_route.specs.Routed.{same_conn}
use Rattle.mq_route.specs.Hub.{HubState, HubConnection, is_connection, knows, waiting_on, stage_of, changed, with_connection, without_connection, is_open, held_on, up_on, end_of, with_end}
use Rattle.mq_route.specs.Work.{Work, begin, said, with_sessions, staged, shut, put_on, does, remove, remove_if, close}
use Rattle.mq_route.specs.Arrives.{new_session}
use Rattle.mq_route.specs.Step.{Does, event_refusal, on_open, on_end, close_if_open, on_collect, expire, with_clock, holding}
use Rattle.mq_route.specs.Runs.{Episode, Follows, Stays, ends_it, collects, written_by, written, sent_in, on_conn}
use Rattle.mq_route.proofs.Lines.{one_conn, Names, Bytes as BytesStay, grown, names_changed, bytes_changed, knows_map, waiting_map, put_here, put_there}
use Rattle.mq_route.proofs.Uppers.{newcomer, risen}
use Rattle.mq_route.proofs.Changes.{Anywhere, anywhere, Freely, freely, Debt, owes, nothing, Everywhere, Inner, sent_where, Outer, Sound, names_grown, closed_line}
use Rattle.mq_route.proofs.Steps.{close_both, comes_both, holding_both, expire_both, tick_both, ended_both}
use Rattle.mq_route.proofs.Events.{not_known, sound_opened, sound_collected, sound_without, ended_idle, emptied}

-- ---- the packets of a connection

pub on_conn-append : (n : Conn) (xs ys : List (Conn × Packet)) → on_conn n (xs ++ ys) ≡ on_conn n xs ++ on_conn n ys
on_conn-append n [] ys = refl
on_conn-append n (x ∷ xs) ys = go (same_conn x.0 n) (on_conn-append n xs ys)
  where
    go : (b : Bool) → on_conn n (xs ++ ys) ≡ on_conn n xs ++ on_conn n ys → cond b (x.1 ∷ on_conn n (xs ++ ys)) (on_conn n (xs ++ ys)) ≡ cond b (x.1 ∷ on_conn n xs) (on_conn n xs) ++ on_conn n ys
    go true ih = ap (λ (l : List Packet). x.1 ∷ l) ih
    go false ih = ih

pub on_conn-own : (k n : Conn) (ps : List Packet) → same_conn k n ≡ true → on_conn n (map (λ p. (k, p)) ps) ≡ ps
on_conn-own k n [] e = refl
on_conn-own k n (p ∷ ps) e = cond-true (same_conn k n) (p ∷ on_conn n (map (λ p. (k, p)) ps)) (on_conn n (map (λ p. (k, p)) ps)) e ∙ ap (λ (l : List Packet). p ∷ l) (on_conn-own k n ps e)

pub on_conn-other : (k n : Conn) (ps : List Packet) → same_conn k n ≡ false → on_conn n (map (λ p. (k, p)) ps) ≡ []
on_conn-other k n [] e = refl
on_conn-other k n (p ∷ ps) e = cond-false (same_conn k n) (p ∷ on_conn n (map (λ p. (k, p)) ps)) (on_conn n (map (λ p. (k, p)) ps)) e ∙ on_conn-other k n ps e

module _ (n : Conn) (base : List ℕ) where
  -- the pending output is the earlier pending output and the encodings of the packets that were
  -- sent
  abbrev pub Grows : Debt → Work → Type 0
  Grows o w = (knows n w.hub.connections ≡ true) × (waiting_on n w.hub.connections ≡ base ++ encodings (on_conn n w.sent))

  -- a change that keeps names and pending output
  quiet : (g : HubConnection → HubConnection) (w : Work) → Names g → BytesStay g → (o : Debt) → Grows o w → (knows n (map g w.hub.connections) ≡ true) × (waiting_on n (map g w.hub.connections) ≡ base ++ encodings (on_conn n w.sent))
  quiet g w h b o r = (knows_map g h n w.hub.connections ∙ r.0, waiting_map g h b n w.hub.connections ∙ r.1)

  put_grows : (k : Conn) (ps : List Packet) (o : Debt) (w : Work) → Grows o w → Grows o (put_on k ps w)
  unfolding put_on
  put_grows k ps o w r = (knows_map (changed (grown (encodings ps)) k) (names_changed (grown (encodings ps)) k (names_grown (encodings ps))) n w.hub.connections ∙ r.0, go (same_conn k n) refl)
    where
      old : List Packet
      old = on_conn n w.sent

      go : (b : Bool) → same_conn k n ≡ b
          → waiting_on n (with_connection (grown (encodings ps)) k w.hub.connections) ≡ base ++ encodings (on_conn n (w.sent ++ map (λ p. (k, p)) ps))
      go true e =
          ap (λ (j : Conn). waiting_on n (with_connection (grown (encodings ps)) j w.hub.connections)) (one_conn k n e)
          ∙ put_here n (encodings ps) w.hub.connections r.0
          ∙ ap (λ (b : List ℕ). b ++ encodings ps) r.1
          ∙ append_assoc base (encodings (on_conn n w.sent)) (encodings ps)
          ∙ ap (λ (b : List ℕ). base ++ b) (sym (flat_map-append encoding (on_conn n w.sent) ps)
          ∙ ap encodings (ap (λ (l : List Packet). on_conn n w.sent ++ l) (sym (on_conn-own k n ps e)) ∙ sym (on_conn-append n w.sent (map (λ p. (k, p)) ps))))
      go false e =
          put_there k n (grown (encodings ps)) w.hub.connections (names_grown (encodings ps)) e
          ∙ r.1
          ∙ ap (λ (l : List Packet). base ++ encodings l) (sym (on_conn-append n w.sent (map (λ p. (k, p)) ps) ∙ ap (λ (l : List Packet). on_conn n w.sent ++ l) (on_conn-other k n ps e) ∙ append-nil (on_conn n w.sent)))

  pub inner : Inner Everywhere Grows
  inner = record {
    put = λ k ps o w own plain r. put_grows k ps o w r;
    moves = λ key e o w alike r. r;
    marks = λ key now o w r. r;
    took = λ key m t c w r. r;
    willed = λ key m w r. r;
    placed = λ key m ps d t c w copy r. sent_where Grows put_grows (up_on key w.hub.connections) ps (owes ((key, m) ∷ d) t c) w r;
    missed = λ key m d t c w is r. r;
    subscribed = λ key f q d t c w r. r;
    unsubscribed = λ key f o w r. r;
  }

  remove_grows : (key : ℕ) (w : Work) → Grows nothing w → Grows nothing (remove key w)
  unfolding remove
  remove_grows key w r = r

  remove_if_grows : (b : Bool) (key : ℕ) (w : Work) → Grows nothing w → Grows nothing (remove_if b key w)
  remove_if_grows true key w r = remove_grows key w r
  remove_if_grows false key w r = r

  shut_grows : (k : Conn) (w : Work) → Grows nothing w → Grows nothing (shut k w)
  shut_grows k w r = quiet (changed closed_line k) w (names_changed closed_line k (λ x. refl)) (bytes_changed closed_line k (λ x. refl)) nothing r

  begins_grows : (client : List ℕ) (w : Work) → Grows nothing w → Grows nothing (new_session client w)
  unfolding new_session
  begins_grows client w r = r

  rises_grows : (k : Conn) (key : ℕ) (terms : ConnectionTerms) (last_activity : ℕ) (move : End → Reply) (w : Work) → Grows nothing w → Grows nothing (does key move (staged k (ConnectedAs key terms last_activity) w))
  unfolding does
  rises_grows k key terms last_activity move w r =
      let v = staged k (ConnectedAs key terms last_activity) w in
      let e = end_of key w.hub.sessions in
      sent_where Grows put_grows (up_on key v.hub.connections) (move e).out nothing (with_sessions (with_end key (move e).end) v)
      (quiet (changed (risen k key terms last_activity) k) w (names_changed (risen k key terms last_activity) k (λ x. refl)) (bytes_changed (risen k key terms last_activity) k (λ x. refl)) nothing r)

  pub holds_grows : (k : Conn) (b : List ℕ) (w : Work) → Grows nothing w → Grows nothing (holding k b w)
  holds_grows k b w r = quiet (changed (λ x. record x { held = b }) k) w (names_changed (λ x. record x { held = b }) k (λ x. refl)) (bytes_changed (λ x. record x { held = b }) k (λ x. refl)) nothing r

  pub outer : Outer Everywhere Grows Freely Anywhere
  outer = record {
    mild = λ f k o w m r. quiet (changed f k) w (names_changed f k (λ x. (m x).0)) (bytes_changed f k (λ x. (m x).1)) o r;
    gets = λ key p w s there up g r. r;
    noted = λ c w r. r;
    shuts = λ k why w may s free r. shut_grows k w r;
    closes = λ k why key terms last_activity w may s e r. remove_if_grows terms.clean_session key (with_sessions (with_end key (over (end_of key w.hub.sessions))) (said (acts.Closed k why) (shut k w))) (shut_grows k w r);
    drops = λ k why key terms last_activity fits w near stage m has short r. r;
    removes = λ key w s none r. remove_grows key w r;
    begins = λ client w s r. begins_grows client w r;
    rises = λ k key terms last_activity move present w own s known free none there up clean received plain r. rises_grows k key terms last_activity move w r;
  }

-- the connection's output is taken
pub emptied_here : (n : Conn) (xs : List HubConnection) → waiting_on n (with_connection emptied n xs) ≡ []
emptied_here n [] = refl
emptied_here n (x ∷ xs) = go (is_connection n x) refl (emptied_here n xs)
  where
    go : (b : Bool) → is_connection n x ≡ b → waiting_on n (with_connection emptied n xs) ≡ [] → waiting_on n (with_connection emptied n (x ∷ xs)) ≡ []
    go true e ih =
        ap (λ (y : HubConnection). cond (same_conn y.conn n) y.waiting (waiting_on n (with_connection emptied n xs))) (cond-true (is_connection n x) (record x { waiting = [] }) x e)
        ∙ cond-true (is_connection n x) [] (waiting_on n (with_connection emptied n xs)) e
    go false e ih =
        ap (λ (y : HubConnection). cond (same_conn y.conn n) y.waiting (waiting_on n (with_connection emptied n xs))) (cond-false (is_connection n x) (record x { waiting = [] }) x e)
        ∙ cond-false (is_connection n x) x.waiting (waiting_on n (with_connection emptied n xs)) e
        ∙ ih

-- no property
abbrev pub Any : Debt → Work → Type 0
Any o w = Unit {0}

pub any_inner : Inner Everywhere Any
any_inner = record {
  put = λ k ps o w own plain r. tt;
  moves = λ key e o w alike r. tt;
  marks = λ key now o w r. tt;
  took = λ key m t c w r. tt;
  willed = λ key m w r. tt;
  placed = λ key m ps d t c w copy r. tt;
  missed = λ key m d t c w is r. tt;
  subscribed = λ key f q d t c w r. tt;
  unsubscribed = λ key f o w r. tt;
}

pub any_outer : Outer Everywhere Any Freely Anywhere
any_outer = record {
  mild = λ f k o w m r. tt;
  gets = λ key p w s there up g r. tt;
  noted = λ c w r. tt;
  shuts = λ k why w may s free r. tt;
  closes = λ k why key terms last_activity w may s e r. tt;
  drops = λ k why key terms last_activity fits w near stage m has short r. tt;
  removes = λ key w s none r. tt;
  begins = λ client w s r. tt;
  rises = λ k key terms last_activity move present w own s known free none there up clean received plain r. tt;
}

-- ---- events

-- the state after an event
abbrev pub Leaves : Conn → HubState → HubEvent → HubReply → Work → Type 0
Leaves n h e r w = Sound w.hub × (knows n w.hub.connections ≡ true) × (cond (collects n e) r.output [] ++ waiting_on n w.hub.connections ≡ waiting_on n h.connections ++ encodings (on_conn n w.sent))

pub waiting_opened : (n k : Conn) (at : ℕ) (xs : List HubConnection) → knows n xs ≡ true → waiting_on n (xs ++ newcomer k at ∷ []) ≡ waiting_on n xs
waiting_opened n k at [] h = absurd cc
waiting_opened n k at (x ∷ xs) h = go (is_connection n x) refl (waiting_opened n k at xs)
  where
    go : (b : Bool) → is_connection n x ≡ b → (knows n xs ≡ true → waiting_on n (xs ++ newcomer k at ∷ []) ≡ waiting_on n xs) → waiting_on n (x ∷ (xs ++ newcomer k at ∷ [])) ≡ waiting_on n (x ∷ xs)
    go true e ih =
        cond-true (is_connection n x) x.waiting (waiting_on n (xs ++ newcomer k at ∷ [])) e ∙ sym (cond-true (is_connection n x) x.waiting (waiting_on n xs) e)
    go false e ih =
        ap (λ (b : List ℕ). cond (is_connection n x) x.waiting b) (ih (sym (ap (λ (t : Bool). t || knows n xs) e) ∙ h))

pub knows_opened : (n k : Conn) (at : ℕ) (xs : List HubConnection) → knows n xs ≡ true → knows n (xs ++ newcomer k at ∷ []) ≡ true
knows_opened n k at [] h = absurd cc
knows_opened n k at (x ∷ xs) h = go (is_connection n x) (knows_opened n k at xs) h
  where
    go : (b : Bool) → (knows n xs ≡ true → knows n (xs ++ newcomer k at ∷ []) ≡ true) → (b || knows n xs) ≡ true → (b || knows n (xs ++ newcomer k at ∷ [])) ≡ true
    go true ih e = refl
    go false ih e = ih e

-- the end of a connection leaves the others unchanged
pub kept_line : (n k : Conn) → same_conn k n ≡ false → (xs : List HubConnection) → (knows n (without_connection k xs) ≡ knows n xs) × (waiting_on n (without_connection k xs) ≡ waiting_on n xs)
kept_line n k apart [] = (refl, refl)
kept_line n k apart (x ∷ xs) = go (is_connection k x) refl (kept_line n k apart xs)
  where
    go : (b : Bool) → is_connection k x ≡ b → (knows n (without_connection k xs) ≡ knows n xs) × (waiting_on n (without_connection k xs) ≡ waiting_on n xs)
        → (knows n (without_connection k (x ∷ xs)) ≡ knows n (x ∷ xs)) × (waiting_on n (without_connection k (x ∷ xs)) ≡ waiting_on n (x ∷ xs))
    go true e ih =
        let far : is_connection n x ≡ false = ap (λ (j : Conn). same_conn j n) (one_conn x.conn k e) ∙ apart in
        let gone : without_connection k (x ∷ xs) ≡ without_connection k xs = cond-false (not (is_connection k x)) (x ∷ without_connection k xs) (without_connection k xs) (ap not e) in (
          ap (knows n) gone ∙ ih.0 ∙ sym (ap (λ (t : Bool). t || knows n xs) far),
          ap (waiting_on n) gone ∙ ih.1 ∙ sym (cond-false (is_connection n x) x.waiting (waiting_on n xs) far),
        )
    go false e ih =
        let stays : without_connection k (x ∷ xs) ≡ x ∷ without_connection k xs = cond-true (not (is_connection k x)) (x ∷ without_connection k xs) (without_connection k xs) (ap not e) in (
          ap (knows n) stays ∙ ap (λ (t : Bool). is_connection n x || t) ih.0,
          ap (waiting_on n) stays ∙ ap (λ (b : List ℕ). cond (is_connection n x) x.waiting b) ih.1,
        )

begins_at : (n : Conn) (h : HubState) → knows n h.connections ≡ true → Grows n (waiting_on n h.connections) nothing (begin h)
begins_at n h known = (known, sym (append-nil (waiting_on n h.connections)))

-- no output is taken, and the pending output grew
grew : (n : Conn) (h : HubState) (e : HubEvent) (r : HubReply) (w : Work) → cond (collects n e) r.output [] ≡ [] → Sound w.hub → Grows n (waiting_on n h.connections) nothing w → Leaves n h e r w
grew n h e r w none s g = (s, g.0, ap (λ (b : List ℕ). b ++ waiting_on n w.hub.connections) none ∙ g.1)

collected_leaves : (n k : Conn) (h : HubState) (r : HubReply) → r.output ≡ waiting_on k h.connections → Sound h → knows n h.connections ≡ true → Leaves n h (Collect k) r (begin (on_collect k h))
collected_leaves n k h r out s known = (sound_collected k h s, knows_map (changed emptied k) (names_changed emptied k (λ x. refl)) n h.connections ∙ known, go (same_conn k n) refl)
  where
    go : (b : Bool) → same_conn k n ≡ b → cond (same_conn k n) r.output [] ++ waiting_on n (on_collect k h).connections ≡ waiting_on n h.connections ++ []
    go true e =
        ap₂ (λ (a b : List ℕ). a ++ b) (cond-true (same_conn k n) r.output [] e ∙ out ∙ ap (λ (j : Conn). waiting_on j h.connections) (one_conn k n e))
        (ap (λ (j : Conn). waiting_on n (with_connection emptied j h.connections)) (one_conn k n e) ∙ emptied_here n h.connections)
    go false e =
        ap₂ (λ (a b : List ℕ). a ++ b) (cond-false (same_conn k n) r.output [] e) (put_there k n emptied h.connections (λ x. refl) e) ∙ sym (append-nil (waiting_on n h.connections))

pub leaves : (n : Conn) (h : HubState) (e : HubEvent) (r : HubReply) (w : Work) → event_refusal e h ≡ None → Does h e r w → ends_it n e ≡ false → Sound h → knows n h.connections ≡ true → Leaves n h e r w
leaves n h (Opened k) r w right d stays s known =
    subst (Leaves n h (Opened k) r) (sym d.0)
    (grew n h (Opened k) r (begin (on_open k h)) refl (sound_opened k h (not_known k h right) s)
    (knows_opened n k h.clock h.connections known, waiting_opened n k h.clock h.connections known ∙ sym (append-nil (waiting_on n h.connections))))
leaves n h (Bytes k piece) r w right d stays s known =
    let base = waiting_on n h.connections in
    let start = holding_both (Grows n base) Freely Anywhere (inner n base) (outer n base) freely anywhere k [] (begin h) (λ r. holds_grows n base k [] (begin h) r) (s, begins_at n h known) in
    let end = comes_both (Grows n base) Freely Anywhere (inner n base) (outer n base) freely anywhere (λ fits w. tt) (tt, tt) h.config.limits k tt (holds_grows n base k) (held_on k h.connections ++ piece) (holding k [] (begin h)) w d.0 start in
    grew n h (Bytes k piece) r w refl end.0 end.1
leaves n h (Ended k) r w right d stays s known =
    let base = waiting_on n h.connections in
    let fits = d.0 in
    let end = ended_both (Grows n base) Freely Anywhere (inner n base) (outer n base) freely anywhere k (is_open (stage_of k h.connections)) fits (begin h) tt (s, begins_at n h known) in
    let v = close_if_open k (is_open (stage_of k h.connections)) fits (begin h) in
    let kept = kept_line n k stays v.hub.connections in
    subst (Leaves n h (Ended k) r) (sym d.1)
    (grew n h (Ended k) r (on_end k fits h) refl (sound_without k v (ended_idle k fits (begin h)) end.0) (kept.0 ∙ end.1.0, kept.1 ∙ end.1.1))
leaves n h (Tick now) r w right d stays s known =
    let base = waiting_on n h.connections in
    let end = tick_both (Grows n base) Freely Anywhere (inner n base) (outer n base) freely anywhere (λ fits w. tt) tt (with_clock now h) w d.0 (s, begins_at n h known) in
    grew n h (Tick now) r w refl end.0 end.1
leaves n h (Collect k) r w right d stays s known =
    subst (Leaves n h (Collect k) r) (sym d.0) (collected_leaves n k h r (ap (λ (r : HubReply). r.output) d.1) s known)

-- ---- runs

-- a run keeps the invariants of sessions and connections
pub sound_event : (h : HubState) (e : HubEvent) (r : HubReply) (w : Work) → event_refusal e h ≡ None → Does h e r w → Sound h → Sound w.hub
sound_event h (Opened k) r w right d s = subst (λ (w : Work). Sound w.hub) (sym d.0) (sound_opened k h (not_known k h right) s)
sound_event h (Bytes k piece) r w right d s = (comes_both Any Freely Anywhere any_inner any_outer freely anywhere (λ fits w. tt) (tt, tt) h.config.limits k tt (λ b v r. tt) (held_on k h.connections ++ piece) (holding k [] (begin h)) w d.0 (holding_both Any Freely Anywhere any_inner any_outer freely anywhere k [] (begin h) (λ r. tt) (s, tt))).0
sound_event h (Ended k) r w right d s =
    let v = close_if_open k (is_open (stage_of k h.connections)) d.0 (begin h) in
    subst (λ (w : Work). Sound w.hub) (sym d.1) (sound_without k v (ended_idle k d.0 (begin h)) (ended_both Any Freely Anywhere any_inner any_outer freely anywhere k (is_open (stage_of k h.connections)) d.0 (begin h) tt (s, tt)).0)
sound_event h (Tick now) r w right d s = (tick_both Any Freely Anywhere any_inner any_outer freely anywhere (λ fits w. tt) tt (with_clock now h) w d.0 (s, tt)).0
sound_event h (Collect k) r w right d s = subst (λ (w : Work). Sound w.hub) (sym d.0) (sound_collected k h s)

pub sound_close : (k : Conn) (why : HubClose) (fits : Bool) (w : Work) → Sound w.hub → Sound (close k why fits w).hub
sound_close k why fits w s = (close_both Any Freely Anywhere any_inner any_outer freely anywhere k why fits w tt tt (s, tt)).0

pub sound_expire : (h : HubState) → Sound h → Sound (expire h).hub
sound_expire h s = (expire_both Any Freely Anywhere any_inner any_outer freely anywhere h (s, tt)).0

pub sound_run : (es : List Episode) (h h2 : HubState) → Follows h es h2 → Sound h → Sound h2
sound_run [] h h2 f s = subst Sound (sym f) s
sound_run (e ∷ es) h h2 f s = sound_run es e.work.hub h2 f.2 (sound_event h e.event e.reply e.work f.0 f.1 s)

pub written_is : (n : Conn) (es : List Episode) (h h2 : HubState) → Follows h es h2 → Stays n es → Sound h → knows n h.connections ≡ true → written n es ++ waiting_on n h2.connections ≡ waiting_on n h.connections ++ encodings (on_conn n (sent_in es))
written_is n [] h h2 f st s known = ap (λ (h : HubState). waiting_on n h.connections) f ∙ sym (append-nil (waiting_on n h.connections))
written_is n (e ∷ es) h h2 f st s known =
    let l = leaves n h e.event e.reply e.work f.0 f.1 st.0 s known in
    let mid = waiting_on n e.work.hub.connections in
    let first = on_conn n e.work.sent in
    let later = on_conn n (sent_in es) in
    append_assoc (written_by n e) (written n es) (waiting_on n h2.connections)
    ∙ ap (λ (b : List ℕ). written_by n e ++ b) (written_is n es e.work.hub h2 f.2 st.1 l.0 l.1)
    ∙ sym (append_assoc (written_by n e) mid (encodings later))
    ∙ ap (λ (b : List ℕ). b ++ encodings later) l.2
    ∙ append_assoc (waiting_on n h.connections) (encodings first) (encodings later)
    ∙ ap (λ (b : List ℕ). waiting_on n h.connections ++ b) (sym (flat_map-append encoding first later) ∙ ap encodings (sym (on_conn-append n e.work.sent (sent_in es))))
