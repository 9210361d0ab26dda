-- The senders' books of a broker's sessions stay sound, and copies that are not missed are
-- accepted.
use Rattle.std.proofs.Common.{◌≡◌, ℕ, ◌+◌, ◌-◌, ◌≤◌, nat_le, Bool, true, false, cond, not, ◌&&◌, ◌||◌, List, [], ◌∷◌, ◌++◌, length, filter, Option, Some, None, is_some, refl, sym, ap, subst, ◌∙◌, eqb, eqb-true, eq-eqb, leb-true, leb-false, true≢false, arith}
use Rattle.std.proofs.lemmas.Bool.{cond-true, cond-false, cond_both, or_from, or_parts, false_from_ne_true}
use Rattle.std.proofs.lemmas.List.Sums.{sum_by-cons}
use Rattle.std.specs.List.{list_all, list_any, flat_map}
use Rattle.std.specs.FinMap.{put}
use Rattle.std.specs.FinMap.Entries.{by_order}
use Rattle.std.specs.Ordering.{nat_cmp}
use Rattle.std.specs.declared.cmp.Ordering.{Ordering}
use Rattle.std.specs.declared.cmp.Ordering.TheVariants.{Less, Equal, Greater}
use Rattle.mq_topic.specs.declared.qos.Qos.{Qos}
use Rattle.mq_topic.specs.declared.qos.Qos.TheVariants.{Q0, Q1, Q2}
use Rattle.mq_topic.specs.Matching.{is_match}
use Rattle.mq_topic.specs.Rows.{Row, matched, greater_of, qos_of}
use Rattle.mq_packet.specs.declared.message.Message.{Message}
use Rattle.mq_packet.specs.declared.packet.Packet.{Packet}
use Rattle.mq_packet.specs.declared.packet.Request.{Request}
use Rattle.mq_flow.specs.Laws.{IsSound, IdentifierLaws}
use Rattle.mq_flow.specs.Next.{next_identifier, NextLaws}
use Rattle.mq_flow.specs.Sender.{SenderBook, IsFirstFree, blank_book, is_full, accept, uses}
use Rattle.mq_flow.specs.Stored.{message_bytes, stored_bytes}
use Rattle.mq_end.specs.Both.{has_identifier, publishes_at}
use Rattle.mq_end.specs.End.{End, Reply, is_up, over}
use Rattle.mq_end.specs.Laws.{SoundLaws}
use Rattle.mq_end.specs.Server.{opens, server_gets}
use Rattle.mq_route.specs.declared.config.HubConfig.{HubConfig}
use Rattle.mq_route.specs.declared.conn.Conn.{Conn}
use Rattle.mq_route.specs.declared.act.Act.TheVariants as acts
use Rattle.mq_route.specs.Copies.{is_hidden_name, copy_by, retained_for}
use Rattle.mq_route.specs.Hub.{HubState, HubSession, end_of, with_end, up_on, for_key, copies_of}
use Rattle.mq_route.specs.Work.{Work, said, with_sessions, put_on, put_where, does, publishes_next, drops_copies, leaves, lacks_room, lacks_output, pending_on, publish_bytes, is_missed, enqueue, enqueue_all, needs, needed_bytes, fits_in, all_fit, have_room, retained_copies}
use Rattle.mq_route.specs.Accepted.{Placing, IsAccept, is_stored_miss, is_plain_miss, AreAccepts, placings}
use Rattle.mq_route.proofs.StoredBytes.{Leaves, Within, IsStored, leaves_le, le_leaves, leaves_less, leaves_next, within_next, stored_accept, blank_stored, over_stored, gets_stored}
use Rattle.mq_route.proofs.Sessions.{has, has_with, end_with, each_there, each_with}

-- ---- lists

-- P holds of each element
abbrev pub Each : {X : Type 0} → (X → Type 0) → List X → Type 0
Each P [] = Unit {0}
Each P (x ∷ xs) = P x × Each P xs

pub each_append : {X : Type 0} (P : X → Type 0) (xs ys : List X) → Each P xs → Each P ys → Each P (xs ++ ys)
each_append P [] ys f g = g
each_append P (x ∷ xs) ys f g = (f.0, each_append P xs ys f.1 g)

pub each_filter : {X : Type 0} (P : X → Type 0) (test : X → Bool) (xs : List X) → Each P xs → Each P (filter test xs)
each_filter P test [] f = tt
each_filter P test (x ∷ xs) f =
    cond_both (test x) (x ∷ filter test xs) (filter test xs) (Each P) (λ e. (f.0, each_filter P test xs f.1)) (λ e. each_filter P test xs f.1)

pub each_weaker : {X : Type 0} (P Q : X → Type 0) → ((x : X) → P x → Q x) → (xs : List X) → Each P xs → Each Q xs
each_weaker P Q h [] f = tt
each_weaker P Q h (x ∷ xs) f = (h x f.0, each_weaker P Q h xs f.1)

-- a property of the key and value that are put into a map, and of all others
pub each_put : {K V : Type 0} (order : K → K → Ordering) (P : K → Type 0) (k : K) (v : V) (xs : List (K × V)) → P k → Each (λ x. P x.0) xs → Each (λ x. P x.0) (put order k v xs)
each_put order P k v [] p f = (p, tt)
each_put order P k v (x ∷ xs) p f = go (order k x.0) (each_put order P k v xs p f.1)
  where
    go : (o : Ordering) → Each (λ x. P x.0) (put order k v xs) → Each (λ x. P x.0) (by_order o ((k, v) ∷ x ∷ xs) ((x.0, v) ∷ xs) (x ∷ put order k v xs))
    go Less ih = (p, f)
    go Equal ih = (f.0, f.1)
    go Greater ih = (f.0, ih)

pub and_both : (x y : Bool) → (x && y) ≡ true → (x ≡ true) × (y ≡ true)
and_both true y e = (refl, e)
and_both false y e = absurd cc

-- ---- clients with due copies

-- the client has a session
abbrev pub Stands : List HubSession → ℕ → Type 0
Stands ss c = has c ss ≡ true

-- each subscription is of a client with a session
abbrev pub Rowed : List Row → List HubSession → Type 0
Rowed rows ss = Each (λ r. Stands ss r.0.0) rows

matched_stands : (P : ℕ → Type 0) (name : List ℕ) (rows : List Row) → Each (λ r. P r.0.0) rows → Each (λ found. P found.0) (matched name rows)
matched_stands P name [] f = tt
matched_stands P name (r ∷ rows) f =
    let found = matched name rows in
    let ih = matched_stands P name rows f.1 in
    cond_both (is_match r.0.1 name) (put nat_cmp r.0.0 (greater_of r.1 (qos_of r.0.0 found)) found) found (Each (λ found. P found.0))
    (λ e. each_put nat_cmp P r.0.0 (greater_of r.1 (qos_of r.0.0 found)) found f.0 ih) (λ e. ih)

abbrev pub For : (ℕ → Type 0) → List (ℕ × Message) → Type 0
For P copies = Each (λ x. P x.0) copies

for_one : (P : ℕ → Type 0) (key : ℕ) (ms : List Message) → P key → For P (for_key key ms)
for_one P key [] p = tt
for_one P key (m ∷ ms) p = (p, for_one P key ms p)

for_found : (P : ℕ → Type 0) (m : Message) (h : HubState) (found : List (ℕ × Qos)) → Each (λ f. P f.0) found
    → For P (flat_map (λ f. for_key f.0 (copy_by (is_some (up_on f.0 h.connections)) m (Some f.1))) found)
for_found P m h [] p = tt
for_found P m h (f ∷ found) p =
    let ms = copy_by (is_some (up_on f.0 h.connections)) m (Some f.1) in
    each_append (λ x. P x.0) (for_key f.0 ms) (flat_map (λ f. for_key f.0 (copy_by (is_some (up_on f.0 h.connections)) m (Some f.1))) found)
    (for_one P f.0 ms p.0) (for_found P m h found p.1)

-- copies of a message are for clients with subscriptions
pub copies_stand : (P : ℕ → Type 0) (m : Message) (h : HubState) → Each (λ r. P r.0.0) h.rows → For P (copies_of m h)
unfolding copies_of
copies_stand P m h f =
    let found = matched m.topic h.rows in
    cond_both (is_hidden_name m.topic) [] (flat_map (λ f. for_key f.0 (copy_by (is_some (up_on f.0 h.connections)) m (Some f.1))) found) (For P)
    (λ e. tt) (λ e. for_found P m h found (matched_stands P m.topic h.rows f))

pub retained_stand : (P : ℕ → Type 0) (key : ℕ) (rs : List Request) (ms : List Message) → P key → For P (retained_copies key rs ms)
retained_stand P key [] ms p = tt
retained_stand P key (r ∷ rs) ms p =
    each_append (λ x. P x.0) (for_key key (retained_for r.filter r.qos ms)) (retained_copies key rs ms) (for_one P key (retained_for r.filter r.qos ms) p) (retained_stand P key rs ms p)

-- ---- sent packets leave the sessions unchanged

pub put_on_keeps : (k : Conn) (ps : List Packet) (w : Work) → (put_on k ps w).hub.sessions ≡ w.hub.sessions
unfolding put_on
put_on_keeps k ps w = refl

abbrev pub IsAlikeHub : HubState → HubState → Type 0
IsAlikeHub g h = (g.sessions ≡ h.sessions) × (g.rows ≡ h.rows) × (g.config ≡ h.config) × (g.retained ≡ h.retained)

pub put_alike : (k : Conn) (ps : List Packet) (w : Work) → IsAlikeHub (put_on k ps w).hub w.hub
unfolding put_on
put_alike k ps w = (refl, refl, refl, refl)

pub where_alike : (to : Option Conn) (ps : List Packet) (w : Work) → IsAlikeHub (put_where to ps w).hub w.hub
where_alike None ps w = (refl, refl, refl, refl)
where_alike (Some k) ps w = put_alike k ps w

pub does_alike : (key : ℕ) (move : End → Reply) (w : Work) → IsAlikeHub (does key move w).hub (with_sessions (with_end key (move (end_of key w.hub.sessions)).end) w).hub
unfolding does
does_alike key move w = where_alike (up_on key w.hub.connections) (move (end_of key w.hub.sessions)).out (with_sessions (with_end key (move (end_of key w.hub.sessions)).end) w)

-- a copy that is placed
pub place_goes : (key : ℕ) (m : Message) (w : Work) → is_missed key m w.hub ≡ false → enqueue key m w ≡ said (acts.Placed key m) (does key (publishes_next m) w)
unfolding enqueue
place_goes key m w e = cond-false (is_missed key m w.hub) (said (acts.Missed key m) w) (said (acts.Placed key m) (does key (publishes_next m) w)) e

-- one that is missed
pub place_misses : (key : ℕ) (m : Message) (w : Work) → is_missed key m w.hub ≡ true → enqueue key m w ≡ said (acts.Missed key m) w
unfolding enqueue
place_misses key m w e = cond-true (is_missed key m w.hub) (said (acts.Missed key m) w) (said (acts.Placed key m) (does key (publishes_next m) w)) e

pub place_alike : (key : ℕ) (m : Message) (w : Work) → is_missed key m w.hub ≡ false → IsAlikeHub (enqueue key m w).hub (with_sessions (with_end key (publishes_next m (end_of key w.hub.sessions)).end) w).hub
place_alike key m w e =
    subst (λ (v : Work). IsAlikeHub v.hub (with_sessions (with_end key (publishes_next m (end_of key w.hub.sessions)).end) w).hub) (sym (place_goes key m w e)) (does_alike key (publishes_next m) w)

any_has : (c : ℕ) (ss : List HubSession) → has c ss ≡ true → list_any (λ s. eqb s.key c) ss ≡ true
any_has c [] h = absurd cc
any_has c (s ∷ ss) h = go (eqb s.key c) (any_has c ss) h
  where
    go : (b : Bool) → (has c ss ≡ true → list_any (λ s. eqb s.key c) ss ≡ true) → cond b true (has c ss) ≡ true → (b || list_any (λ s. eqb s.key c) ss) ≡ true
    go true ih h = refl
    go false ih h = ih h

-- ---- books

module _ (config : HubConfig) where
  -- the book is sound, and stores no more bytes than it may
  pub record IsKept (b : SenderBook) : Type 0 where
    pub sound : IsSound config.capacity b
    pub stored : IsStored config.most_stored b

  pub blank_kept : IdentifierLaws → IsKept blank_book
  blank_kept ids = record { sound = ids.at_first config.capacity; stored = blank_stored config.most_stored }

  pub gets_kept : SoundLaws → (p : Packet) (e : End) → IsKept e.book → IsKept (server_gets p e).end.book
  gets_kept laws p e k = record { sound = laws.server config.capacity p e k.sound; stored = gets_stored config.most_stored p e k.stored }

  pub opened_kept : SoundLaws → (e : End) → IsKept e.book → IsKept (opens e).end.book
  opened_kept laws e k = record { sound = laws.opened config.capacity e k.sound; stored = over_stored config.most_stored e k.stored }

  pub dropped_kept : SoundLaws → (e : End) → IsKept e.book → IsKept (over e).book
  dropped_kept laws e k = record { sound = laws.drop config.capacity e k.sound; stored = over_stored config.most_stored e k.stored }

  -- each client's book is kept
  abbrev pub Sounds : List HubSession → Type 0
  Sounds ss = (c : ℕ) → IsKept (end_of c ss).book

  -- A broker has this configuration, its books are kept, and its subscriptions are of clients with
  -- sessions.
  pub record Holds (h : HubState) : Type 0 where
    pub is : h.config ≡ config
    pub books : Sounds h.sessions
    pub rows : Rowed h.rows h.sessions

  pub holds_alike : (g h : HubState) → IsAlikeHub g h → Holds h → Holds g
  holds_alike g h same hold = record {
    is = same.2 ∙ hold.is;
    books = subst Sounds (sym same.0) hold.books;
    rows = subst (λ (ss : List HubSession). Rowed g.rows ss) (sym same.0) (subst (λ (rows : List Row). Rowed rows h.sessions) (sym same.1) hold.rows);
  }

  rowed_with : (key : ℕ) (e : End) (rows : List Row) (ss : List HubSession) → Rowed rows ss → Rowed rows (with_end key e ss)
  rowed_with key e rows ss f = each_weaker (λ (r : Row). Stands ss r.0.0) (λ (r : Row). Stands (with_end key e ss) r.0.0) (λ r there. has_with key e r.0.0 ss ∙ there) rows f

  pub holds_with : (key : ℕ) (e : End) (w : Work) → IsKept e.book → Holds w.hub → Holds (with_sessions (with_end key e) w).hub
  holds_with key e w kept h = record {
    is = h.is;
    books = each_with (λ c there e. IsKept e.book) key e w.hub.sessions h.books (λ there. kept);
    rows = rowed_with key e w.hub.rows w.hub.sessions h.rows;
  }

  pub holds_does : (key : ℕ) (move : End → Reply) (w : Work) → IsKept (move (end_of key w.hub.sessions)).end.book → Holds w.hub → Holds (does key move w).hub
  holds_does key move w kept h =
      let u = with_sessions (with_end key (move (end_of key w.hub.sessions)).end) w in
      holds_alike (does key move w).hub u.hub (does_alike key move w) (holds_with key (move (end_of key w.hub.sessions)).end w kept h)

  -- ---- room

  -- the end has as many identifiers free as these copies need, and may store their bytes
  pub record Roomy (copies : List (ℕ × Message)) (c : ℕ) (e : End) : Type 0 where
    pub free : needs c copies + length (uses e.book) ≤ config.capacity
    pub left : Leaves config.most_stored (stored_bytes e.book) (needed_bytes c copies)

  -- each session has room for these copies, unless copies may be dropped
  abbrev pub Fits : List (ℕ × Message) → ℕ → Bool → End → Type 0
  Fits copies c there e = drops_copies config.when_full ≡ false → there ≡ true → Roomy copies c e

  abbrev pub Room : List (ℕ × Message) → List HubSession → Type 0
  Room copies ss = (c : ℕ) → Fits copies c (has c ss) (end_of c ss)

  le_room : (n used : ℕ) → used ≤ config.capacity → n ≤ config.capacity - used → n + used ≤ config.capacity
  le_room n used within le = omega arith

  abbrev Capable : End → Type 0
  Capable x = length (uses x.book) ≤ config.capacity

  fits_at : (copies : List (ℕ × Message)) (c : ℕ) (ss : List HubSession) → list_all (fits_in config copies) ss ≡ true → has c ss ≡ true → Capable (end_of c ss) → Roomy copies c (end_of c ss)
  fits_at copies c [] e there within = absurd cc
  fits_at copies c (s ∷ ss) e there within = go (eqb s.key c) refl (fits_at copies c ss parts.1)
    where
      parts : (fits_in config copies s ≡ true) × (list_all (fits_in config copies) ss ≡ true)
      parts = and_both (fits_in config copies s) (list_all (fits_in config copies) ss) e

      go : (b : Bool) → eqb s.key c ≡ b → (has c ss ≡ true → Capable (end_of c ss) → Roomy copies c (end_of c ss)) → Roomy copies c (end_of c (s ∷ ss))
      go true k later =
          let here : end_of c (s ∷ ss) ≡ s.end = cond-true (eqb s.key c) s.end (end_of c ss) k in
          let used = length (uses s.end.book) in
          let enough : fits_in config copies (record s { key = c }) ≡ true = subst (λ (d : ℕ). fits_in config copies (record s { key = d }) ≡ true) (eqb-true s.key c k) parts.0 in
          let both = and_both (nat_le (needs c copies) (config.capacity - used)) (leaves config.most_stored (stored_bytes s.end.book) (needed_bytes c copies)) enough in
          subst (Roomy copies c) (sym here) (record {
            free = le_room (needs c copies) used (subst Capable here within) (leb-true (needs c copies) (config.capacity - used) both.0);
            left = leaves_le config.most_stored (stored_bytes s.end.book) (needed_bytes c copies) both.1;
          })
      go false k later =
          let here : end_of c (s ∷ ss) ≡ end_of c ss = cond-false (eqb s.key c) s.end (end_of c ss) k in
          subst (Roomy copies c) (sym here) (later (sym (cond-false (eqb s.key c) true (has c ss) k) ∙ there) (subst Capable here within))

  or_second : (x y : Bool) → x ≡ false → (x || y) ≡ true → y ≡ true
  or_second false y k e = e
  or_second true y k e = absurd cc

  pub room : (copies : List (ℕ × Message)) (h : HubState) → Holds h → have_room copies h ≡ true → Room copies h.sessions
  unfolding have_room all_fit
  room copies h hold e c keep there =
      let all = list_all (fits_in h.config copies) h.sessions in
      fits_at copies c h.sessions
      (subst (λ (g : HubConfig). list_all (fits_in g copies) h.sessions ≡ true) hold.is
      (or_second (drops_copies h.config.when_full) all (ap (λ (g : HubConfig). drops_copies g.when_full) hold.is ∙ keep) e))
      there (hold.books c).sound.within

  -- an end whose book is unchanged has as much room as before
  roomy_same : (copies : List (ℕ × Message)) (key : ℕ) (e f : End) → e.book ≡ f.book → Roomy copies key f → Roomy copies key e
  roomy_same copies key e f same r = record {
    free = subst (λ (b : SenderBook). needs key copies + length (uses b) ≤ config.capacity) (sym same) r.free;
    left = subst (λ (b : SenderBook). Leaves config.most_stored (stored_bytes b) (needed_bytes key copies)) (sym same) r.left;
  }

  pub room_with : (copies : List (ℕ × Message)) (key : ℕ) (e : End) (ss : List HubSession) → e.book ≡ (end_of key ss).book → Room copies ss → Room copies (with_end key e ss)
  room_with copies key e ss same r =
      each_with (Fits copies) key e ss r (λ there keep t. roomy_same copies key e (end_of key ss) same (r key keep there))

  -- ---- placed copies

  module _ (ids : IdentifierLaws) (next : NextLaws) (small : config.capacity ≤ 65535) where
    not_full : (n used : ℕ) → (1 + n) + used ≤ config.capacity → nat_le config.capacity used ≡ false
    not_full n used le = false_from_ne_true (nat_le config.capacity used) (λ e. let over = leb-true config.capacity used e in omega arith)

    one_more : (n used new : ℕ) → new ≡ used + 1 → (1 + n) + used ≤ config.capacity → n + new ≤ config.capacity
    one_more n used new more le = omega arith

    -- the next identifier is accepted
    abbrev Takes : End → Type 0
    Takes e = (is_full config.capacity e.book ≡ false) × IsFirstFree e.last e.book (next_identifier e.last e.book)

    takes : (n : ℕ) (e : End) → (1 + n) + length (uses e.book) ≤ config.capacity → Takes e
    takes n e le =
        let full = not_full n (length (uses e.book)) le in
        (full, next.first config.capacity e.last e.book small full)

    accepted : (n : ℕ) (m : Message) (sent : Bool) (e : End) → IsKept e.book → (1 + n) + length (uses e.book) ≤ config.capacity → Leaves config.most_stored (stored_bytes e.book) (message_bytes m)
        → IsKept (accept (next_identifier e.last e.book) m sent e.book) × (n + length (uses (accept (next_identifier e.last e.book) m sent e.book)) ≤ config.capacity)
    accepted n m sent e kept le left =
        let i = next_identifier e.last e.book in
        let t = takes n e le in
        let new = accept i m sent e.book in (
          record {
            sound = ids.accepts config.capacity i m sent e.book t.0 t.1.free kept.sound;
            stored = subst (Within config.most_stored) (sym (stored_accept i m sent e.book)) (within_next config.most_stored (stored_bytes e.book) (message_bytes m) kept.stored left);
          },
          one_more n (length (uses e.book)) (length (uses new)) (ids.accepted config.capacity i m sent e.book t.0 t.1.free).more le,
        )

    -- an end with room publishes a message
    published : (q : Qos) (n : ℕ) (m : Message) (e : End) → IsKept e.book → (cond (has_identifier q) 1 0 + n) + length (uses e.book) ≤ config.capacity
        → (has_identifier q ≡ true → Leaves config.most_stored (stored_bytes e.book) (message_bytes m))
        → IsKept (publishes_at q (next_identifier e.last e.book) m e).end.book × (n + length (uses (publishes_at q (next_identifier e.last e.book) m e).end.book) ≤ config.capacity)
    published Q0 n m e kept le left = (kept, omega arith)
    published Q1 n m e kept le left = accepted n m (is_up e.state) e kept le (left refl)
    published Q2 n m e kept le left = accepted n m (is_up e.state) e kept le (left refl)

    -- then there is room for the bytes of the later messages
    published_left : (q : Qos) (i rest : ℕ) (m : Message) (e : End) → Leaves config.most_stored (stored_bytes e.book) (cond (has_identifier q) (message_bytes m) 0 + rest)
        → Leaves config.most_stored (stored_bytes (publishes_at q i m e).end.book) rest
    published_left Q0 i rest m e l = leaves_less config.most_stored (stored_bytes e.book) rest (0 + rest) (omega arith) l
    published_left Q1 i rest m e l =
        subst (λ (n : ℕ). Leaves config.most_stored n rest) (sym (stored_accept i m (is_up e.state) e.book)) (leaves_next config.most_stored (stored_bytes e.book) (message_bytes m) rest l)
    published_left Q2 i rest m e l =
        subst (λ (n : ℕ). Leaves config.most_stored n rest) (sym (stored_accept i m (is_up e.state) e.book)) (leaves_next config.most_stored (stored_bytes e.book) (message_bytes m) rest l)

    published_is : (q : Qos) (i : ℕ) (m : Message) (e : End) → has_identifier q ≡ true → (publishes_at q i m e).end ≡ record e { book = accept i m (is_up e.state) e.book; last = i }
    published_is Q0 i m e h = absurd cc
    published_is Q1 i m e h = refl
    published_is Q2 i m e h = refl

    needs_cons : (c : ℕ) (x : ℕ × Message) (copies : List (ℕ × Message)) → needs c (x ∷ copies) ≡ cond (eqb x.0 c && has_identifier x.1.qos) 1 0 + needs c copies
    needs_cons c x copies = sum_by-cons (λ (y : ℕ × Message). cond (eqb y.0 c && has_identifier y.1.qos) 1 0) x copies

    bytes_cons : (c : ℕ) (x : ℕ × Message) (copies : List (ℕ × Message)) → needed_bytes c (x ∷ copies) ≡ cond (eqb x.0 c && has_identifier x.1.qos) (message_bytes x.1) 0 + needed_bytes c copies
    bytes_cons c x copies = sum_by-cons (λ (y : ℕ × Message). cond (eqb y.0 c && has_identifier y.1.qos) (message_bytes y.1) 0) x copies

    -- the identifiers and bytes that the first of several copies needs
    need_here : (key : ℕ) (m : Message) (copies : List (ℕ × Message)) → needs key ((key, m) ∷ copies) ≡ cond (has_identifier m.qos) 1 0 + needs key copies
    need_here key m copies = needs_cons key (key, m) copies ∙ ap (λ (b : Bool). cond (b && has_identifier m.qos) 1 0 + needs key copies) (eq-eqb key key refl)

    bytes_here : (key : ℕ) (m : Message) (copies : List (ℕ × Message)) → needed_bytes key ((key, m) ∷ copies) ≡ cond (has_identifier m.qos) (message_bytes m) 0 + needed_bytes key copies
    bytes_here key m copies = bytes_cons key (key, m) copies ∙ ap (λ (b : Bool). cond (b && has_identifier m.qos) (message_bytes m) 0 + needed_bytes key copies) (eq-eqb key key refl)

    -- there is room for fewer copies
    roomy_less : (c : ℕ) (x : ℕ × Message) (copies : List (ℕ × Message)) (e : End) → Roomy (x ∷ copies) c e → Roomy copies c e
    roomy_less c x copies e r = record {
      free = let more = needs_cons c x copies in let fits = r.free in omega arith;
      left = leaves_less config.most_stored (stored_bytes e.book) (needed_bytes c copies) (needed_bytes c (x ∷ copies)) (let more = bytes_cons c x copies in omega arith) r.left;
    }

    -- a copy that is not missed has an identifier free, and its bytes may be stored
    spare_by : (d : Bool) (q : Qos) (n used : ℕ) (other : Bool) → used ≤ config.capacity → (d ≡ false → (cond (has_identifier q) 1 0 + n) + used ≤ config.capacity)
        → (d && (has_identifier q && (nat_le config.capacity used || other))) ≡ false → (cond (has_identifier q) 1 0 + 0) + used ≤ config.capacity
    spare_by false q n used other within le e = let now = le refl in omega arith
    spare_by true Q0 n used other within le e = omega arith
    spare_by true Q1 n used other within le e = let less = leb-false config.capacity used (or_parts (nat_le config.capacity used) other e).0 in omega arith
    spare_by true Q2 n used other within le e = let less = leb-false config.capacity used (or_parts (nat_le config.capacity used) other e).0 in omega arith

    is_true : (b : Bool) → not b ≡ false → b ≡ true
    is_true true e = refl
    is_true false e = absurd (true≢false e)

    left_by : (d : Bool) (q : Qos) (full : Bool) (used bytes rest : ℕ) → (d ≡ false → Leaves config.most_stored used (cond (has_identifier q) bytes 0 + rest))
        → (d && (has_identifier q && (full || not (leaves config.most_stored used bytes)))) ≡ false → has_identifier q ≡ true → Leaves config.most_stored used bytes
    left_by d Q0 full used bytes rest l e has = absurd cc
    left_by false Q1 full used bytes rest l e has = leaves_less config.most_stored used bytes (bytes + rest) (omega arith) (l refl)
    left_by false Q2 full used bytes rest l e has = leaves_less config.most_stored used bytes (bytes + rest) (omega arith) (l refl)
    left_by true Q1 full used bytes rest l e has =
        leaves_le config.most_stored used bytes (is_true (leaves config.most_stored used bytes) (or_parts full (not (leaves config.most_stored used bytes)) e).1)
    left_by true Q2 full used bytes rest l e has =
        leaves_le config.most_stored used bytes (is_true (leaves config.most_stored used bytes) (or_parts full (not (leaves config.most_stored used bytes)) e).1)

    -- the room after a copy is placed
    module _ (key : ℕ) (m : Message) (copies : List (ℕ × Message)) (w : Work) (hold : Holds w.hub) (there : has key w.hub.sessions ≡ true) (r : Room ((key, m) ∷ copies) w.hub.sessions)
        (goes : is_missed key m w.hub ≡ false) where
      abbrev e : End
      e = end_of key w.hub.sessions

      enough : drops_copies config.when_full ≡ false → (cond (has_identifier m.qos) 1 0 + needs key copies) + length (uses e.book) ≤ config.capacity
      enough keep = subst (λ (n : ℕ). n + length (uses e.book) ≤ config.capacity) (need_here key m copies) (r key keep there).free

      enough_bytes : drops_copies config.when_full ≡ false → Leaves config.most_stored (stored_bytes e.book) (cond (has_identifier m.qos) (message_bytes m) 0 + needed_bytes key copies)
      enough_bytes keep = subst (Leaves config.most_stored (stored_bytes e.book)) (bytes_here key m copies) (r key keep there).left

      -- the session does not lack room
      stays : (drops_copies config.when_full && (has_identifier m.qos && (nat_le config.capacity (length (uses e.book)) || not (leaves config.most_stored (stored_bytes e.book) (message_bytes m))))) ≡ false
      stays =
          subst (λ (g : HubConfig). (drops_copies g.when_full && (has_identifier m.qos && (nat_le g.capacity (length (uses e.book)) || not (leaves g.most_stored (stored_bytes e.book) (message_bytes m))))) ≡ false) hold.is
          (or_parts (drops_copies w.hub.config.when_full && lacks_room key m w.hub) (lacks_output key m w.hub) goes).0

      spare : (cond (has_identifier m.qos) 1 0 + 0) + length (uses e.book) ≤ config.capacity
      spare =
          spare_by (drops_copies config.when_full) m.qos (needs key copies) (length (uses e.book)) (not (leaves config.most_stored (stored_bytes e.book) (message_bytes m)))
          (hold.books key).sound.within enough stays

      spare_bytes : has_identifier m.qos ≡ true → Leaves config.most_stored (stored_bytes e.book) (message_bytes m)
      spare_bytes = left_by (drops_copies config.when_full) m.qos (nat_le config.capacity (length (uses e.book))) (stored_bytes e.book) (message_bytes m) (needed_bytes key copies) enough_bytes stays

      abbrev after : Work
      after = with_sessions (with_end key (publishes_next m e).end) w

      sessions_after : (enqueue key m w).hub.sessions ≡ with_end key (publishes_next m e).end w.hub.sessions
      sessions_after = (place_alike key m w goes).0

      place_holds : Holds (enqueue key m w).hub
      place_holds =
          holds_alike (enqueue key m w).hub after.hub (place_alike key m w goes) (holds_with key (publishes_next m e).end w (published m.qos 0 m e (hold.books key) spare spare_bytes).0 hold)

      place_room : Room copies (enqueue key m w).hub.sessions
      place_room =
          subst (Room copies) (sym sessions_after)
          (each_there (Fits copies) key (publishes_next m e).end w.hub.sessions there
          (λ keep t. record {
            free = (published m.qos (needs key copies) m e (hold.books key) (enough keep) spare_bytes).1;
            left = published_left m.qos (next_identifier e.last e.book) (needed_bytes key copies) m e (enough_bytes keep);
          })
          (λ c apart keep t. roomy_less c (key, m) copies (end_of c w.hub.sessions) (r c keep t)))

      place_accepts : has_identifier m.qos ≡ true → IsAccept (record { key = key; message = m; at = w })
      place_accepts h =
          let t = takes 0 e (subst (λ (b : Bool). (cond b 1 0 + 0) + length (uses e.book) ≤ config.capacity) h spare) in
          record {
            there = any_has key w.hub.sessions there;
            room = subst (λ (g : HubConfig). is_full g.capacity e.book ≡ false) (sym hold.is) t.0;
            bytes = subst (λ (g : HubConfig). leaves g.most_stored (stored_bytes e.book) (message_bytes m) ≡ true) (sym hold.is)
                (le_leaves config.most_stored (stored_bytes e.book) (message_bytes m) (spare_bytes h));
            first = t.1;
            accepts = ap (end_of key) sessions_after ∙ end_with key (publishes_next m e).end w.hub.sessions there ∙ published_is m.qos (next_identifier e.last e.book) m e h;
          }

    -- a copy of QoS 1 or 2 is missed only under DropCopy
    stored_no : (d l x has : Bool) → d ≡ false → (((d && l) || (x && not has)) && has) ≡ false
    stored_no d l x has e = ap (λ (d : Bool). ((d && l) || (x && not has)) && has) e ∙ go x has
      where
        go : (x has : Bool) → (((false && l) || (x && not has)) && has) ≡ false
        go true true = refl
        go true false = refl
        go false true = refl
        go false false = refl

    -- one of QoS 0 only if pending output has a limit
    plain_no : (d full x has : Bool) → x ≡ false → (((d && (has && full)) || (x && not has)) && not has) ≡ false
    plain_no d full x has e = ap (λ (x : Bool). ((d && (has && full)) || (x && not has)) && not has) e ∙ go d has
      where
        both_false : (b : Bool) → (b && false) ≡ false
        both_false true = refl
        both_false false = refl

        go : (d has : Bool) → (((d && (has && full)) || (false && not has)) && not has) ≡ false
        go d true = both_false ((d && full) || false)
        go true false = refl
        go false false = refl

    kept_by : (key : ℕ) (m : Message) (w : Work) → Holds w.hub → drops_copies config.when_full ≡ false → (is_missed key m w.hub && has_identifier m.qos) ≡ false
    kept_by key m w hold keep =
        stored_no (drops_copies w.hub.config.when_full) (lacks_room key m w.hub)
        (not (leaves w.hub.config.most_waiting (pending_on (up_on key w.hub.connections) w.hub.connections) (publish_bytes m))) (has_identifier m.qos)
        (ap (λ (g : HubConfig). drops_copies g.when_full) hold.is ∙ keep)

    sent_by : (key : ℕ) (m : Message) (w : Work) → Holds w.hub → config.most_waiting ≡ None → (is_missed key m w.hub && not (has_identifier m.qos)) ≡ false
    sent_by key m w hold unlimited =
        let e = end_of key w.hub.sessions in
        plain_no (drops_copies w.hub.config.when_full) (is_full w.hub.config.capacity e.book || not (leaves w.hub.config.most_stored (stored_bytes e.book) (message_bytes m)))
        (not (leaves w.hub.config.most_waiting (pending_on (up_on key w.hub.connections) w.hub.connections) (publish_bytes m))) (has_identifier m.qos)
        (ap (λ (o : Option ℕ). not (leaves o (pending_on (up_on key w.hub.connections) w.hub.connections) (publish_bytes m))) (ap (λ (g : HubConfig). g.most_waiting) hold.is ∙ unlimited))

    -- no copy of QoS 1 or 2 is missed, unless copies may be dropped; none of QoS 0, unless pending
    -- output has a limit
    abbrev pub Whole : List Placing → Type 0
    Whole ps = (drops_copies config.when_full ≡ false → list_any is_stored_miss ps ≡ false) × (config.most_waiting ≡ None → list_any is_plain_miss ps ≡ false)

    -- copies for which there is room, or that may be dropped, are accepted or missed, and the books
    -- stay sound
    pub accepting : (copies : List (ℕ × Message)) (w : Work) → Holds w.hub → For (Stands w.hub.sessions) copies → Room copies w.hub.sessions
        → AreAccepts (placings copies w) × Holds (enqueue_all copies w).hub × Whole (placings copies w)
    accepting [] w hold stand r = (tt, hold, (λ keep. refl, λ unlimited. refl))
    accepting (x ∷ copies) w hold stand r = go (is_missed x.0 x.1 w.hub) refl (accepting copies (enqueue x.0 x.1 w))
      where
        fewer : Room copies w.hub.sessions
        fewer c keep t = roomy_less c x copies (end_of c w.hub.sessions) (r c keep t)

        whole : Whole (placings copies (enqueue x.0 x.1 w)) → Whole (placings (x ∷ copies) w)
        whole more = (
          λ keep. or_from (is_missed x.0 x.1 w.hub && has_identifier x.1.qos) (list_any is_stored_miss (placings copies (enqueue x.0 x.1 w))) (kept_by x.0 x.1 w hold keep) (more.0 keep),
          λ unlimited. or_from (is_missed x.0 x.1 w.hub && not (has_identifier x.1.qos)) (list_any is_plain_miss (placings copies (enqueue x.0 x.1 w))) (sent_by x.0 x.1 w hold unlimited) (more.1 unlimited),
        )

        go : (b : Bool) → is_missed x.0 x.1 w.hub ≡ b
            → (Holds (enqueue x.0 x.1 w).hub → For (Stands (enqueue x.0 x.1 w).hub.sessions) copies → Room copies (enqueue x.0 x.1 w).hub.sessions
            → AreAccepts (placings copies (enqueue x.0 x.1 w)) × Holds (enqueue_all copies (enqueue x.0 x.1 w)).hub × Whole (placings copies (enqueue x.0 x.1 w)))
            → AreAccepts (placings (x ∷ copies) w) × Holds (enqueue_all copies (enqueue x.0 x.1 w)).hub × Whole (placings (x ∷ copies) w)
        go true is ih =
            let stays : w ≡ record (enqueue x.0 x.1 w) { did = w.did } = ap (λ (v : Work). record v { did = w.did }) (sym (place_misses x.0 x.1 w is)) in
            let more = ih (subst Holds (ap (λ (v : Work). v.hub) stays) hold) (subst (λ (v : Work). For (Stands v.hub.sessions) copies) stays stand.1) (subst (λ (v : Work). Room copies v.hub.sessions) stays fewer) in
            ((λ goes. absurd (true≢false (sym is ∙ goes)), more.0), more.1, whole more.2)
        go false is ih =
            let ss = (enqueue x.0 x.1 w).hub.sessions in
            let e = (publishes_next x.1 (end_of x.0 w.hub.sessions)).end in
            let later = each_weaker (λ (y : ℕ × Message). Stands w.hub.sessions y.0) (λ (y : ℕ × Message). Stands ss y.0)
            (λ y there. ap (has y.0) (place_alike x.0 x.1 w is).0 ∙ has_with x.0 e y.0 w.hub.sessions ∙ there) copies stand.1 in
            let more = ih (place_holds x.0 x.1 copies w hold stand.0 r is) later (place_room x.0 x.1 copies w hold stand.0 r is) in
            ((λ goes. place_accepts x.0 x.1 copies w hold stand.0 r is, more.0), more.1, whole more.2)
