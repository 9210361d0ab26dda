-- Each dropped will has a reason.
use Rattle.std.proofs.Common.{◌≡◌, ◌⊎◌, inl, inr, ℕ, Bool, true, false, ◌&&◌, ◌||◌, cond, List, [], ◌∷◌, ◌++◌, map, max, Option, Some, is_some, refl, sym, ap, ap₂, subst, ◌∙◌, append-nil, eqb, eqb-true, true≢false}
use Rattle.std.proofs.lemmas.List.Concat.{flat_map-append}
use Rattle.std.specs.List.{flat_map, list_all}
use Rattle.mq_topic.specs.Rows.{matched, without_client}
use Rattle.mq_packet.specs.declared.connect.Will.{Will}
use Rattle.mq_packet.specs.declared.message.Message.{Message}
use Rattle.mq_packet.specs.declared.packet.Packet.{Packet}
use Rattle.mq_packet.specs.Encoding.{encodings}
use Rattle.mq_decode.specs.Limits.{Bounds}
use Rattle.mq_end.specs.declared.reason.CloseReason.TheVariants as reasons
use Rattle.mq_end.specs.End.{End, Reply, over}
use Rattle.mq_route.specs.declared.act.Act.{Act}
use Rattle.mq_route.specs.declared.act.Act.TheVariants as acts
use Rattle.mq_route.specs.declared.close.HubClose.{HubClose}
use Rattle.mq_route.specs.declared.close.HubClose.TheVariants.{Own}
use Rattle.mq_route.specs.declared.config.HubConfig.{HubConfig}
use Rattle.mq_route.specs.declared.config.WhenFull.TheVariants.{ClosePublisher}
use Rattle.mq_route.specs.declared.conn.Conn.{Conn}
use Rattle.mq_route.specs.declared.event.HubEvent.{HubEvent}
use Rattle.mq_route.specs.declared.event.HubEvent.TheVariants.{Opened, Bytes, Ended, Tick, Collect}
use Rattle.mq_route.specs.declared.reply.HubReply.{HubReply}
use Rattle.mq_route.specs.declared.connection_state.ConnectionState.{ConnectionState}
use Rattle.mq_route.specs.declared.connection_state.ConnectionState.TheVariants.{AwaitingConnect, ConnectedAs, Closed}
use Rattle.mq_route.specs.declared.connection_state.ConnectionTerms.{ConnectionTerms}
use Rattle.mq_route.specs.Routed.{same_conn}
use Rattle.mq_route.specs.Copies.{will_message, copy_by, is_hidden_name}
use Rattle.mq_route.specs.Hub.{HubState, HubConnection, new_hub, is_connection, is_for, changed, stage_of, is_open, held_on, up_on, end_of, with_end, without_session, for_key, copies_of}
use Rattle.mq_route.specs.Work.{Work, begin, said, with_sessions, staged, shut, put_on, put_where, does, drops_copies, fits_in, all_fit, have_room, remove, remove_if, will_after, close}
use Rattle.mq_route.specs.Arrives.{new_session, touched, touched_on, on_packet}
use Rattle.mq_route.specs.Step.{holding, OnBytes, Arrives, Waits, Breaks, Starves, LetsGo, OnTick, Done, InTime, Late, Does, expired_keys, remove_all, expire, with_clock}
use Rattle.mq_route.specs.Dropped.{dropped_by, dropped, is_in, LosesWill, OnBytesLosing, OnTickLosing, IsLosingEvent, WillLaws}
use Rattle.mq_route.proofs.Lines.{one_conn, Names, Ups, grown, names_changed, ups_changed, stage_there}
use Rattle.mq_route.proofs.Changes.{Debt, owes, nothing, Freely, freely, Anywhere, anywhere, Everywhere, Inner, sent_where, Outer, Nearby, IsShort, Sound, sound_holding, closing, rising, closed_line, names_grown, ups_grown}
use Rattle.mq_route.proofs.Frames.{stage_firm}
use Rattle.mq_route.proofs.Steps.{heard_mild, stage_heard, takes_both, breaks_both, close_both, expire_both, ended_both}
use Rattle.mq_route.proofs.Events.{sound_new}
use Rattle.mq_route.proofs.Output.{sound_run}
use Rattle.mq_route.proofs.Missing.{short_parts}
use Rattle.mq_route.proofs.Reading as reading

-- ---- works that differ little

-- the connection of a client after connection k closed doesn't depend on a change that keeps names
-- and clients
up_shut_map : (g : HubConnection → HubConnection) → Names g → Ups g → (k : Conn) (c : ℕ) (xs : List HubConnection)
    → up_on c (map (changed closed_line k) (map g xs)) ≡ up_on c (map (changed closed_line k) xs)
up_shut_map g h u k c [] = refl
up_shut_map g h u k c (x ∷ xs) = λ i. cond (alike i) (Some (named i)) (up_shut_map g h u k c xs i)
  where
    alike_as : (b : Bool) → is_for c (cond b (closed_line (g x)) (g x)).stage ≡ is_for c (cond b (closed_line x) x).stage
    alike_as true = refl
    alike_as false = (u x).0 c

    alike : is_for c (changed closed_line k (g x)).stage ≡ is_for c (changed closed_line k x).stage
    alike = ap (λ (a : Conn). is_for c (cond (same_conn a k) (closed_line (g x)) (g x)).stage) (h x) ∙ alike_as (is_connection k x)

    named_as : (b : Bool) → (cond b (closed_line (g x)) (g x)).conn ≡ (cond b (closed_line x) x).conn
    named_as true = h x
    named_as false = h x

    named : (changed closed_line k (g x)).conn ≡ (changed closed_line k x).conn
    named = ap (λ (a : Conn). (cond (same_conn a k) (closed_line (g x)) (g x)).conn) (h x) ∙ named_as (is_connection k x)

-- connection k is connected with these terms
abbrev Connects : Conn → ℕ → ConnectionTerms → Work → Type 0
Connects k key terms w = (last_activity : ℕ) × (stage_of k w.hub.connections ≡ ConnectedAs key terms last_activity)

-- the works differ only in pending output and in times of activity
abbrev IsNear : Bool → Work → Bool → Work → Type 0
IsNear fits w other v = (other ≡ fits) × (v.hub.config ≡ w.hub.config) × (v.hub.sessions ≡ w.hub.sessions) × (v.hub.rows ≡ w.hub.rows)
    × ((k : Conn) (c : ℕ) → up_on c (shut k v).hub.connections ≡ up_on c (shut k w).hub.connections)
    × ((k : Conn) (key : ℕ) (terms : ConnectionTerms) (last_activity : ℕ) → stage_of k v.hub.connections ≡ ConnectedAs key terms last_activity → Connects k key terms w)

at_itself : (fits : Bool) (w : Work) → IsNear fits w fits w
at_itself fits w = (refl, refl, refl, refl, λ k c. refl, λ k key terms last_activity e. (last_activity, e))

put_near : (fits : Bool) (w : Work) (other : Bool) (k : Conn) (ps : List Packet) (v : Work) → IsNear fits w other v → IsNear fits w other (put_on k ps v)
unfolding put_on
put_near fits w other k ps v n =
    let b = encodings ps in (
      n.0,
      n.1,
      n.2,
      n.3,
      λ j c. up_shut_map (changed (grown b) k) (names_changed (grown b) k (names_grown b)) (ups_changed (grown b) k (ups_grown b)) j c v.hub.connections ∙ n.4 j c,
      λ j key terms last_activity e. n.5 j key terms last_activity (sym (stage_firm j b k v.hub.connections) ∙ e),
    )

from_touched : (now : ℕ) (s : ConnectionState) (key : ℕ) (terms : ConnectionTerms) (last_activity : ℕ) → touched now s ≡ ConnectedAs key terms last_activity → (before : ℕ) × (s ≡ ConnectedAs key terms before)
from_touched now AwaitingConnect key terms last_activity e = absurd cc
from_touched now (ConnectedAs other others before) key terms last_activity e =
    let a : other ≡ key = cc in
    let b : others ≡ terms = cc in
    (before, λ i. ConnectedAs (a i) (b i) before)
from_touched now Closed key terms last_activity e = absurd cc

was_connected : (k j : Conn) (v : Work) (key : ℕ) (terms : ConnectionTerms) (last_activity : ℕ) → stage_of j (touched_on k v).hub.connections ≡ ConnectedAs key terms last_activity → Connects j key terms v
was_connected k j v key terms last_activity e = go (same_conn k j) refl
  where
    go : (b : Bool) → same_conn k j ≡ b → Connects j key terms v
    go true same =
        let here = subst (λ (n : Conn). stage_of n (touched_on k v).hub.connections ≡ ConnectedAs key terms last_activity) (sym (one_conn k j same)) e in
        subst (λ (n : Conn). Connects n key terms v) (one_conn k j same) (from_touched v.hub.clock (stage_of k v.hub.connections) key terms last_activity (sym (stage_heard k v) ∙ here))
    go false apart = (last_activity, sym (stage_there k j (λ x. record x { stage = touched v.hub.clock x.stage }) v.hub.connections (λ x. refl) apart) ∙ e)

touch_near : (fits : Bool) (w : Work) (other : Bool) (k : Conn) (v : Work) → IsNear fits w other v → IsNear fits w other (touched_on k v)
touch_near fits w other k v n =
    let f : HubConnection → HubConnection = λ x. record x { stage = touched v.hub.clock x.stage } in
    let ups : Ups f = λ x. let m = heard_mild v.hub.clock x in (m.2, m.3) in (
      n.0,
      n.1,
      n.2,
      n.3,
      λ j c. up_shut_map (changed f k) (names_changed f k (λ x. refl)) (ups_changed f k ups) j c v.hub.connections ∙ n.4 j c,
      λ j key terms last_activity e. let old = was_connected k j v key terms last_activity e in n.5 j key terms old.0 old.1,
    )

nearby : (fits : Bool) (w : Work) → Nearby (IsNear fits w)
nearby fits w = record { put = put_near fits w; touches = touch_near fits w }

-- ---- the room for a will's copies

room_alike : (m : Message) (g h : HubState) → g.config ≡ h.config → g.sessions ≡ h.sessions → g.rows ≡ h.rows → ((c : ℕ) → up_on c g.connections ≡ up_on c h.connections)
    → have_room (copies_of m g) g ≡ have_room (copies_of m h) h
unfolding have_room all_fit copies_of
room_alike m g h c s r u = λ i. drops_copies (c i).when_full || list_all
    (fits_in (c i) (cond (is_hidden_name m.topic) [] (flat_map (λ found. for_key found.0 (copy_by (is_some (u found.0 i)) m (Some found.1))) (matched m.topic (r i))))) (s i)

-- a client's session is disconnected after its connection closed
abbrev over_in : Conn → HubClose → ℕ → Work → Work
over_in k why key w = with_sessions (with_end key (over (end_of key w.hub.sessions))) (said (acts.Closed k why) (shut k w))

room_if : (m : Message) (k : Conn) (why : HubClose) (key : ℕ) (v w : Work) → v.hub.config ≡ w.hub.config → v.hub.sessions ≡ w.hub.sessions → v.hub.rows ≡ w.hub.rows
    → ((c : ℕ) → up_on c (shut k v).hub.connections ≡ up_on c (shut k w).hub.connections)
    → (clean : Bool) → have_room (copies_of m (remove_if clean key (over_in k why key v)).hub) (remove_if clean key (over_in k why key v)).hub
    ≡ have_room (copies_of m (remove_if clean key (over_in k why key w)).hub) (remove_if clean key (over_in k why key w)).hub
unfolding remove
room_if m k why key v w c s r u true =
    room_alike m (remove key (over_in k why key v)).hub (remove key (over_in k why key w)).hub c
    (λ i. without_session key (with_end key (over (end_of key (s i))) (s i))) (λ i. without_client key (r i)) u
room_if m k why key v w c s r u false = room_alike m (over_in k why key v).hub (over_in k why key w).hub c (λ i. with_end key (over (end_of key (s i))) (s i)) r u

either : (fits room : Bool) (P : Type 0) → (room ≡ false → P) → (fits && room) ≡ false → (fits ≡ false) ⊎ (P × (room ≡ false))
either true room P keeps e = inr (keeps e, e)
either false room P keeps e = inl refl

-- a close keeps the configuration
closing_config : (k : Conn) (why : HubClose) (key : ℕ) (terms : ConnectionTerms) (w : Work) → (closing k why key terms w).hub.config ≡ w.hub.config
unfolding remove
closing_config k why key terms w = go terms.clean_session
  where
    go : (b : Bool) → (remove_if b key (over_in k why key w)).hub.config ≡ w.hub.config
    go true = refl
    go false = refl

-- the close of a connection whose client loses its will
loses : (config : HubConfig) (fits : Bool) (w : Work) → w.hub.config ≡ config → (other : Bool) (k : Conn) (why : HubClose) (key : ℕ) (terms : ConnectionTerms) (last_activity : ℕ) (v : Work) → IsNear fits w other v
    → stage_of k v.hub.connections ≡ ConnectedAs key terms last_activity → (m : Will) → will_after why terms.will ≡ Some m → IsShort m other (closing k why key terms v) → LosesWill config.when_full key fits w
loses config fits w is other k why key terms last_activity v near stage m has short =
    let old = near.5 k key terms last_activity stage in
    let after = closing k why key terms w in
    let room = room_if (will_message m) k why key v w near.1 near.2 near.3 (λ c. near.4 k c) terms.clean_session in
    record {
      conn = k;
      why = why;
      terms = terms;
      last_activity = old.0;
      connected = old.1;
      will = m;
      has = has;
      short = either fits (have_room (copies_of (will_message m) after.hub) after.hub) (config.when_full ≡ ClosePublisher)
          (λ lacks. subst (λ (c : HubConfig). c.when_full ≡ ClosePublisher) (closing_config k why key terms w ∙ is) (short_parts (copies_of (will_message m) after.hub) after.hub lacks).0) (sym (ap₂ (λ (a b : Bool). a && b) near.0 room) ∙ short);
    }

-- ---- one more act

dropped_more : (did : List Act) (act : Act) → dropped (did ++ act ∷ []) ≡ dropped did ++ dropped_by act
dropped_more did act = flat_map-append dropped_by did (act ∷ []) ∙ ap (λ (l : List ℕ). dropped did ++ l) (append-nil (dropped_by act))

last_in : (c key : ℕ) (xs : List ℕ) → is_in c (xs ++ key ∷ []) ≡ true → (is_in c xs ≡ true) ⊎ (key ≡ c)
last_in c key [] h = go (eqb key c) refl h
  where
    go : (b : Bool) → eqb key c ≡ b → (b || false) ≡ true → (false ≡ true) ⊎ (key ≡ c)
    go true e h = inr (eqb-true key c e)
    go false e h = absurd (true≢false (sym h))
last_in c key (x ∷ xs) h = go (eqb x c) h (last_in c key xs)
  where
    go : (b : Bool) → (b || is_in c (xs ++ key ∷ [])) ≡ true → (is_in c (xs ++ key ∷ []) ≡ true → (is_in c xs ≡ true) ⊎ (key ≡ c)) → ((b || is_in c xs) ≡ true) ⊎ (key ≡ c)
    go true h ih = inl refl
    go false h ih = ih h

-- each dropped will was dropped before this work, or has a reason
module _ (config : HubConfig) (fits : Bool) (w : Work) (is : w.hub.config ≡ config) where
  abbrev Explained : List Act → Type 0
  Explained did = (c : ℕ) → is_in c (dropped did) ≡ true → (is_in c (dropped w.did) ≡ true) ⊎ LosesWill config.when_full c fits w

  abbrev Few : Debt → Work → Type 0
  Few o v = Explained v.did

  few_more : (did : List Act) (act : Act) → dropped_by act ≡ [] → Explained did → Explained (did ++ act ∷ [])
  few_more did act none r c i = r c (subst (λ (l : List ℕ). is_in c l ≡ true) (dropped_more did act ∙ ap (λ (l : List ℕ). dropped did ++ l) none ∙ append-nil (dropped did)) i)

  put_few : (k : Conn) (ps : List Packet) (o : Debt) (v : Work) → Few o v → Few o (put_on k ps v)
  unfolding put_on
  put_few k ps o v r = r

  inner : Inner Everywhere Few
  unfolding dropped_by
  inner = record {
    put = λ k ps o v own plain r. put_few k ps o v r;
    moves = λ key e o v alike r. r;
    marks = λ key now o v r. r;
    took = λ key m t n v r. few_more v.did (acts.Took key m) refl r;
    willed = λ key m v r. few_more v.did (acts.Will key m) refl r;
    placed = λ key m ps c t n v copy r.
        let u = put_where (up_on key v.hub.connections) ps v in
        few_more u.did (acts.Placed key m) refl (sent_where Few put_few (up_on key v.hub.connections) ps (owes ((key, m) ∷ c) t n) v r);
    missed = λ key m c t n v is r. few_more v.did (acts.Missed key m) refl r;
    subscribed = λ key f q c t n v r. few_more v.did (acts.Subscribed key f q) refl r;
    unsubscribed = λ key f o v r. few_more v.did (acts.Unsubscribed key f) refl r;
  }

  closed_few : (k : Conn) (why : HubClose) (did : List Act) → Explained did → Explained (did ++ acts.Closed k why ∷ [])
  unfolding dropped_by
  closed_few k why did r = few_more did (acts.Closed k why) refl r

  removes_few : (key : ℕ) (v : Work) → Few nothing v → Few nothing (remove key v)
  unfolding remove dropped_by
  removes_few key v r = few_more v.did (acts.Removed key) refl r

  remove_if_few : (b : Bool) (key : ℕ) (v : Work) → Few nothing v → Few nothing (remove_if b key v)
  remove_if_few true key v r = removes_few key v r
  remove_if_few false key v r = r

  drops_few : (key : ℕ) (did : List Act) → LosesWill config.when_full key fits w → Explained did → Explained (did ++ acts.WillDropped key ∷ [])
  unfolding dropped_by
  drops_few key did reason r c i = go (last_in c key (dropped did) (subst (λ (l : List ℕ). is_in c l ≡ true) (dropped_more did (acts.WillDropped key)) i))
    where
      go : (is_in c (dropped did) ≡ true) ⊎ (key ≡ c) → (is_in c (dropped w.did) ≡ true) ⊎ LosesWill config.when_full c fits w
      go (inl old) = r c old
      go (inr same) = inr (subst (λ (d : ℕ). LosesWill config.when_full d fits w) same reason)

  begins_few : (client : List ℕ) (v : Work) → Few nothing v → Few nothing (new_session client v)
  unfolding new_session
  begins_few client v r = r

  rises_few : (k : Conn) (key : ℕ) (terms : ConnectionTerms) (last_activity : ℕ) (move : End → Reply) (present : Bool) (v : Work) → Few nothing v → Few nothing (rising k key terms last_activity move present v)
  unfolding does dropped_by
  rises_few k key terms last_activity move present v r =
      let u = staged k (ConnectedAs key terms last_activity) v in
      let e = end_of key v.hub.sessions in
      let x = with_sessions (with_end key (move e).end) u in
      let d = put_where (up_on key u.hub.connections) (move e).out x in
      few_more d.did (acts.Up k key present) refl (sent_where Few put_few (up_on key u.hub.connections) (move e).out nothing x r)

  outer : Outer Everywhere Few Freely (IsNear fits w)
  outer = record {
    mild = λ f k o v m r. r;
    gets = λ key p v s there up g r. r;
    noted = λ n v r. r;
    shuts = λ k why v may s free r. closed_few k why v.did r;
    closes = λ k why key terms last_activity v may s e r.
        remove_if_few terms.clean_session key (over_in k why key v) (closed_few k why v.did r);
    drops = λ k why key terms last_activity other v near stage m has short r.
        drops_few key (closing k why key terms v).did (loses config fits w is other k why key terms last_activity v near stage m has short) r;
    removes = λ key v s none r. removes_few key v r;
    begins = λ client v s r. begins_few client v r;
    rises = λ k key terms last_activity move present v own s known free none there up clean received plain r. rises_few k key terms last_activity move present v r;
  }

few_comes : (config : HubConfig) (limits : Bounds) (k : Conn) (b : List ℕ) (w w2 : Work) (comes : OnBytes limits k b w w2) → Sound w.hub → w.hub.config ≡ config → (c : ℕ) → is_in c (dropped w2.did) ≡ true
    → (is_in c (dropped w.did) ≡ true) ⊎ OnBytesLosing config.when_full c limits k b w w2 comes
few_comes config limits k b w w2 (Arrives p first rest g v v2 on reads more) s is c i =
    let f = g.will_fits in
    let t = takes_both (Few config f v is) Freely (IsNear f v) (inner config f v is) (outer config f v is) freely (nearby f v) k p g v tt (at_itself f v) ((λ key up state short. tt), (λ key up broad. tt)) (s, λ c i. inl i) in
    let same = takes_both (reading.Same config) Freely Anywhere (reading.same_inner config) (reading.same_outer config) freely anywhere k p g v tt tt ((λ key up state short. tt), (λ key up broad. tt)) (s, is) in
    go (t.1 c) (few_comes config limits k rest (on_packet k p g v) v2 more t.0 same.1 c i)
  where
    Loses : Type 0
    Loses = LosesWill config.when_full c g.will_fits v

    More : Type 0
    More = OnBytesLosing config.when_full c limits k rest (on_packet k p g v) v2 more

    go : (is_in c (dropped (on_packet k p g v).did) ≡ true → (is_in c (dropped v.did) ≡ true) ⊎ Loses) → (is_in c (dropped (on_packet k p g v).did) ≡ true) ⊎ More
        → (is_in c (dropped v.did) ≡ true) ⊎ (Loses ⊎ More)
    go here (inr x) = inr (inr x)
    go here (inl old) = now (here old)
      where
        now : (is_in c (dropped v.did) ≡ true) ⊎ Loses → (is_in c (dropped v.did) ≡ true) ⊎ (Loses ⊎ More)
        now (inl e) = inl e
        now (inr x) = inr (inl x)
few_comes config limits k b w w2 (Waits c v on pending) s is n i = inl i
few_comes config limits k b w w2 (Breaks c fault fits v on faulty) s is n i =
    (breaks_both (Few config fits v is) Freely (IsNear fits v) (inner config fits v is) (outer config fits v is) freely (nearby fits v) k fault fits v tt (at_itself fits v) (s, λ c i. inl i)).1 n i
few_comes config limits k b w w2 (Starves c fits v on some) s is n i =
    (close_both (Few config fits v is) Freely (IsNear fits v) (inner config fits v is) (outer config fits v is) freely (nearby fits v) k (Own reasons.Memory) fits v (at_itself fits v) tt (s, λ c i. inl i)).1 n i
few_comes config limits k b w w2 (LetsGo c v closed) s is n i = inl i

few_ticks : (config : HubConfig) (within : Option ℕ) (now : ℕ) (xs : List HubConnection) (w w2 : Work) (t : OnTick within now xs w w2) → Sound w.hub → w.hub.config ≡ config → (c : ℕ) → is_in c (dropped w2.did) ≡ true
    → (is_in c (dropped w.did) ≡ true) ⊎ OnTickLosing config.when_full c within now xs w w2 t
few_ticks config within now xs w w2 (Done v) s is c i = inl i
few_ticks config within now xs w w2 (InTime x ys v v2 soon more) s is c i = few_ticks config within now ys v v2 more s is c i
few_ticks config within now xs w w2 (Late x ys why fits v v2 late more) s is c i =
    let t = close_both (Few config fits v is) Freely (IsNear fits v) (inner config fits v is) (outer config fits v is) freely (nearby fits v) x.conn why fits v (at_itself fits v) tt (s, λ c i. inl i) in
    let same = close_both (reading.Same config) Freely Anywhere (reading.same_inner config) (reading.same_outer config) freely anywhere x.conn why fits v tt tt (s, is) in
    go (t.1 c) (few_ticks config within now ys u v2 more t.0 same.1 c i)
  where
    u : Work
    u = close x.conn why fits v

    Loses : Type 0
    Loses = LosesWill config.when_full c fits v

    More : Type 0
    More = OnTickLosing config.when_full c within now ys u v2 more

    go : (is_in c (dropped u.did) ≡ true → (is_in c (dropped v.did) ≡ true) ⊎ Loses) → (is_in c (dropped u.did) ≡ true) ⊎ More → (is_in c (dropped v.did) ≡ true) ⊎ (Loses ⊎ More)
    go here (inr x) = inr (inr x)
    go here (inl old) = soon (here old)
      where
        soon : (is_in c (dropped v.did) ≡ true) ⊎ Loses → (is_in c (dropped v.did) ≡ true) ⊎ (Loses ⊎ More)
        soon (inl e) = inl e
        soon (inr x) = inr (inl x)

-- no will is dropped when sessions expire
dropped_removed : (keys : List ℕ) (w : Work) → dropped (remove_all keys w).did ≡ dropped w.did
unfolding remove dropped_by
dropped_removed [] w = refl
dropped_removed (key ∷ keys) w = dropped_removed keys (remove key w) ∙ one key w
  where
    one : (key : ℕ) (w : Work) → dropped (remove key w).did ≡ dropped w.did
    one key w = dropped_more w.did (acts.Removed key) ∙ append-nil (dropped w.did)

dropped_expired : (h : HubState) → dropped (expire h).did ≡ []
unfolding expire
dropped_expired h = dropped_removed (expired_keys h) (begin h)

-- a step begins with no will dropped
none_yet : (A : Type 0) → (false ≡ true) ⊎ A → A
none_yet A (inl e) = absurd (true≢false (sym e))
none_yet A (inr x) = x

few_event : (h : HubState) (e : HubEvent) (r : HubReply) (w : Work) (d : Does h e r w) → Sound h → (c : ℕ) → is_in c (dropped w.did) ≡ true → IsLosingEvent c h e r w d
few_event h (Opened k) r w d s c i = absurd (true≢false (sym i ∙ ap (λ (w : Work). is_in c (dropped w.did)) d.0))
few_event h (Bytes k piece) r w d s c i =
    let start = holding k [] (begin h) in
    none_yet (OnBytesLosing h.config.when_full c h.config.limits k (held_on k h.connections ++ piece) start w d.0)
    (few_comes h.config h.config.limits k (held_on k h.connections ++ piece) start w d.0 (sound_holding k [] (begin h) s) refl c i)
few_event h (Ended k) r w d s c i =
    let f = d.0 in
    let b = begin h in
    let end = ended_both (Few h.config f b refl) Freely (IsNear f b) (inner h.config f b refl) (outer h.config f b refl) freely (nearby f b) k (is_open (stage_of k h.connections)) f b (at_itself f b) (s, λ c i. inl i) in
    none_yet (LosesWill h.config.when_full c f b) (end.1 c (subst (λ (w : Work). is_in c (dropped w.did) ≡ true) d.1 i))
few_event h (Tick now) r w d s c i =
    let v = expire (with_clock now h) in
    let start = expire_both (reading.Same h.config) Freely Anywhere (reading.same_inner h.config) (reading.same_outer h.config) freely anywhere (with_clock now h) (s, refl) in
    go (OnTickLosing h.config.when_full c h.config.connect_within (max h.clock now) h.connections v w d.0)
    (few_ticks h.config h.config.connect_within (max h.clock now) h.connections v w d.0 start.0 start.1 c i)
  where
    go : (A : Type 0) → (is_in c (dropped (expire (with_clock now h)).did) ≡ true) ⊎ A → A
    go A (inl e) = absurd (true≢false (sym e ∙ ap (is_in c) (dropped_expired (with_clock now h))))
    go A (inr x) = x
few_event h (Collect k) r w d s c i = absurd (true≢false (sym i ∙ ap (λ (w : Work). is_in c (dropped w.did)) d.0))

pub laws : WillLaws
laws = record { drops = λ config before h f e r w right d c i. few_event h e r w d (sound_run before (new_hub config) h f (sound_new config)) c i }
