-- Room for messages in the ends of sessions.
use Rattle.std.proofs.Common.{◌≡◌, ℕ, zero, suc, ◌+◌, ◌-◌, ◌<◌, ◌≤◌, Bool, true, false, cond, ◌&&◌, ◌||◌, List, [], ◌∷◌, ◌++◌, filter, length, take, drop, get_or, Option, Some, None, refl, sym, ap, ap₂, subst, ◌∙◌, arith, eqb, nat_le, eqb-true, eq-eqb, true≢false, zero-add}
use Rattle.std.proofs.lemmas.Bool.{cond-true, cond-false, ne_eqb, le-leb}
use Rattle.std.proofs.lemmas.List.Sums.{sum_by-cons}
use Rattle.std.specs.List.{AllByRecursion, list_all, sum_by}
use Rattle.mq_packet.specs.declared.message.Message.{Message}
use Rattle.mq_flow.specs.Sender.{uses}
use Rattle.mq_flow.specs.Stored.{message_bytes, stored_bytes}
use Rattle.mq_end.specs.Both.{has_identifier}
use Rattle.mq_route.specs.declared.config.HubConfig.{HubConfig}
use Rattle.mq_route.specs.Hub.{HubState, HubSession, for_key}
use Rattle.mq_route.specs.Work.{all_fit, drops_copies, fits_in, have_room, leaves, needed_bytes, needs}
use Rattle.mq_tables.specs.declared.sessions.session.BrokerSession.{BrokerSession}
use Rattle.mq_tables.specs.Rules.{bytes_of, has_room}
use Rattle.mq_tables.specs.Sessions.{AreAscending, session_of, session_at}
use Rattle.mq_tables.specs.Publishing.{AreSameButRoom, AreStillReady, placed_at, published}
use Rattle.mq_tables.proofs.SessionRoom.{all_may_go_same, all_there, changed_other, count, fits_by, fits_own, leaves_is, only_own, other_fits, room_of, same_capacity, same_session, same_sessions, some_same, weighed, weighed_cons}
use Rattle.mq_hub.specs.Inside.Placement.{AreApart, AreFor, AreReady, HasSessions, IsFor, is_among}

some_none : {X : Type 0} {x : X} → Some x ≡ None → ⊥
some_none e = absurd cc

or_left : (a b : Bool) → (a || b) ≡ false → a ≡ false
or_left true b e = absurd (true≢false e)
or_left false b e = refl

or_right : (a b : Bool) → (a || b) ≡ false → b ≡ false
or_right true b e = absurd (true≢false e)
or_right false b e = e

-- the sum of a measure over messages of QoS 1 and 2
abbrev total : (Message → ℕ) → List Message → ℕ
total w ms = sum_by (λ m. cond (has_identifier m.qos) (w m) 0) ms

none_weighed : (w : Message → ℕ) (key : ℕ) (cs : List (ℕ × Message)) → is_among key cs ≡ false → weighed w key cs ≡ 0
none_weighed w key [] none = refl
none_weighed w key (c ∷ cs) none =
    weighed_cons w key c cs
    ∙ ap (λ (b : Bool). cond (b && has_identifier c.1.qos) (w c.1) 0 + weighed w key cs) (or_left (eqb c.0 key) (is_among key cs) none)
    ∙ zero-add (weighed w key cs) ∙ none_weighed w key cs (or_right (eqb c.0 key) (is_among key cs) none)

own_weighed : (w : Message → ℕ) (key : ℕ) (ms : List Message) (cs : List (ℕ × Message)) → is_among key cs ≡ false → weighed w key (for_key key ms ++ cs) ≡ total w ms
own_weighed w key [] cs none = none_weighed w key cs none
own_weighed w key (m ∷ ms) cs none =
    weighed_cons w key (key, m) (for_key key ms ++ cs)
    ∙ ap (λ (b : Bool). cond (b && has_identifier m.qos) (w m) 0 + weighed w key (for_key key ms ++ cs)) (eq-eqb key key refl)
    ∙ ap (λ (n : ℕ). cond (has_identifier m.qos) (w m) 0 + n) (own_weighed w key ms cs none)
    ∙ sym (sum_by-cons (λ x. cond (has_identifier x.qos) (w x) 0) m ms)

counted : (ms : List Message) → total (λ m. 1) ms ≡ count ms
counted [] = refl
counted (m ∷ ms) = sum_by-cons (λ x. cond (has_identifier x.qos) 1 0) m ms ∙ go (has_identifier m.qos) (counted ms)
  where
    go : (b : Bool) → total (λ x. 1) ms ≡ count ms
        → cond b 1 0 + total (λ x. 1) ms ≡ length (cond b (m ∷ filter (λ x. has_identifier x.qos) ms) (filter (λ x. has_identifier x.qos) ms))
    go true e = omega arith
    go false e = zero-add (total (λ x. 1) ms) ∙ e

leaves_nothing : (o : Option ℕ) (used : ℕ) → leaves o used 0 ≡ true
leaves_nothing None used = refl
leaves_nothing (Some most) used = le-leb 0 (most - used) (omega arith)

own_fits : (config : HubConfig) (key : ℕ) (ms : List Message) (cs : List (ℕ × Message)) (s : BrokerSession) → is_among key cs ≡ false → s.key ≡ key
    → fits_in config (for_key key ms ++ cs) (session_of s) ≡ fits_own config ms s
own_fits config key ms cs s none same =
    ap₂ (fits_by config s.end.end)
    (subst (λ (k : ℕ). needs k (for_key key ms ++ cs) ≡ count ms) (sym same) (own_weighed (λ m. 1) key ms cs none ∙ counted ms))
    (subst (λ (k : ℕ). needed_bytes k (for_key key ms ++ cs) ≡ bytes_of ms) (sym same) (own_weighed message_bytes key ms cs none))

rest_fits : (config : HubConfig) (key : ℕ) (cs : List (ℕ × Message)) (s : BrokerSession) → is_among key cs ≡ false → s.key ≡ key → fits_in config cs (session_of s) ≡ true
rest_fits config key cs s none same =
    ap₂ (fits_by config s.end.end)
    (subst (λ (k : ℕ). needs k cs ≡ 0) (sym same) (none_weighed (λ m. 1) key cs none))
    (subst (λ (k : ℕ). needed_bytes k cs ≡ 0) (sym same) (none_weighed message_bytes key cs none))
    ∙ ap₂ (λ (a b : Bool). a && b) (le-leb 0 (config.capacity - length (uses s.end.end.book)) (omega arith)) (leaves_nothing config.most_stored (stored_bytes s.end.end.book))

with_own : (config : HubConfig) (key : ℕ) (ms : List Message) (cs : List (ℕ × Message)) (ts : List BrokerSession) → is_among key cs ≡ false
    → AllByRecursion (λ s. s.key ≡ key → fits_own config ms s ≡ true) ts → room_of config (for_key key ms ++ cs) ts ≡ room_of config cs ts
with_own config key ms cs [] none fits = refl
with_own config key ms cs (t ∷ ts) none fits = ap₂ (λ (a b : Bool). a && b) (go (eqb key t.key) refl) (with_own config key ms cs ts none fits.1)
  where
    go : (b : Bool) → eqb key t.key ≡ b → fits_in config (for_key key ms ++ cs) (session_of t) ≡ fits_in config cs (session_of t)
    go true e =
        let same : t.key ≡ key = sym (eqb-true key t.key e) in
        own_fits config key ms cs t none same ∙ fits.0 same ∙ sym (rest_fits config key cs t none same)
    go false e = other_fits config key ms cs t e

and_no : (a : Bool) → (a && false) ≡ false
and_no true = refl
and_no false = refl

short_own : (config : HubConfig) (key : ℕ) (ms : List Message) (cs : List (ℕ × Message)) (t : BrokerSession) (ts : List BrokerSession) → is_among key cs ≡ false → session_at key ts ≡ Some t
    → fits_own config ms t ≡ false → room_of config (for_key key ms ++ cs) ts ≡ false
short_own config key ms cs t [] none there short = absurd cc
short_own config key ms cs t (s ∷ ts) none there short = go (eqb s.key key) refl (short_own config key ms cs t ts none)
  where
    go : (b : Bool) → eqb s.key key ≡ b → (session_at key ts ≡ Some t → fits_own config ms t ≡ false → room_of config (for_key key ms ++ cs) ts ≡ false)
        → room_of config (for_key key ms ++ cs) (s ∷ ts) ≡ false
    go true e rest =
        let is : s ≡ t = some_same (sym (cond-true (eqb s.key key) (Some s) (session_at key ts) e) ∙ there) in
        ap (λ (b : Bool). b && room_of config (for_key key ms ++ cs) ts)
        (own_fits config key ms cs s none (eqb-true s.key key e) ∙ subst (λ (x : BrokerSession). fits_own config ms x ≡ false) (sym is) short)
    go false e rest =
        ap (λ (b : Bool). fits_in config (for_key key ms ++ cs) (session_of s) && b) (rest (sym (cond-false (eqb s.key key) (Some s) (session_at key ts) e) ∙ there) short)
        ∙ and_no (fits_in config (for_key key ms ++ cs) (session_of s))

pub is_for_same : (key : ℕ) (ms : List Message) (old new : List BrokerSession) → AreSameButRoom old new → IsFor key ms old → IsFor key ms new
is_for_same key ms old new same for =
    let w = same_session key for.session old new same for.there in
    record { session = w.0; there = w.1; may_go = all_may_go_same ms w.0 for.session w.2 for.may_go }

pub are_for_same : (old new : List BrokerSession) (cs : List (ℕ × Message)) → AreSameButRoom old new → AreFor old cs → AreFor new cs
are_for_same old new [] same all = tt
are_for_same old new (c ∷ cs) same all = (is_for_same c.0 (c.1 ∷ []) old new same all.0, are_for_same old new cs same all.1)

pub has_same : (old new : List BrokerSession) (h : HubState) → AreSameButRoom old new → HasSessions old h → HasSessions new h
has_same old new h same has = record {
  sessions = has.sessions ∙ sym (same_sessions old new same);
  capacity = same_capacity h.config.capacity old new same has.capacity;
}

-- whether there is room for the messages of a client besides these copies
pub enough_own : (key : ℕ) (ms : List Message) (cs : List (ℕ × Message)) (h : HubState) (s : BrokerSession) (ts : List BrokerSession) → AreAscending ts → session_at key ts ≡ Some s → HasSessions ts h
    → is_among key cs ≡ false → fits_own h.config ms s ≡ true → all_fit (for_key key ms ++ cs) h ≡ all_fit cs h
unfolding all_fit
enough_own key ms cs h s ts up there has none fits =
    ap (λ (ss : List HubSession). list_all (fits_in h.config (for_key key ms ++ cs)) ss) has.sessions
    ∙ with_own h.config key ms cs ts none (only_own (λ x. fits_own h.config ms x ≡ true) key s ts up there fits)
    ∙ ap (λ (ss : List HubSession). list_all (fits_in h.config cs) ss) (sym has.sessions)

pub few_own : (key : ℕ) (ms : List Message) (cs : List (ℕ × Message)) (h : HubState) (s : BrokerSession) (ts : List BrokerSession) → session_at key ts ≡ Some s → HasSessions ts h
    → is_among key cs ≡ false → fits_own h.config ms s ≡ false → all_fit (for_key key ms ++ cs) h ≡ false
unfolding all_fit
few_own key ms cs h s ts there has none short =
    ap (λ (ss : List HubSession). list_all (fits_in h.config (for_key key ms ++ cs)) ss) has.sessions
    ∙ short_own h.config key ms cs s ts none there short

-- a copy without an identifier needs no room
plain_weighs : (w : Message → ℕ) (k key : ℕ) (m : Message) (cs : List (ℕ × Message)) → has_identifier m.qos ≡ false → weighed w k ((key, m) ∷ cs) ≡ weighed w k cs
plain_weighs w k key m cs plain =
    weighed_cons w k (key, m) cs
    ∙ ap (λ (b : Bool). cond (eqb key k && b) (w m) 0 + weighed w k cs) plain
    ∙ ap (λ (b : Bool). cond b (w m) 0 + weighed w k cs) (and_no (eqb key k))
    ∙ zero-add (weighed w k cs)

pub plain_fits : (key : ℕ) (m : Message) (cs : List (ℕ × Message)) (h : HubState) → has_identifier m.qos ≡ false → all_fit ((key, m) ∷ cs) h ≡ all_fit cs h
unfolding all_fit
plain_fits key m cs h plain = go h.sessions
  where
    go : (ss : List HubSession) → list_all (fits_in h.config ((key, m) ∷ cs)) ss ≡ list_all (fits_in h.config cs) ss
    go [] = refl
    go (s ∷ ss) =
        ap₂ (λ (a b : Bool). a && b)
        (ap₂ (fits_by h.config s.end) (plain_weighs (λ x. 1) s.key key m cs plain) (plain_weighs message_bytes s.key key m cs plain))
        (go ss)

-- what a session has room for is what a broker with it has room for
pub fits_is : (key : ℕ) (most_stored : Option ℕ) (ms : List Message) (h : HubState) (s : BrokerSession) (ts : List BrokerSession) → session_at key ts ≡ Some s → HasSessions ts h
    → h.config.most_stored ≡ most_stored → fits_own h.config ms s ≡ has_room most_stored ms s.end
fits_is key most_stored ms h s ts there has stored =
    let cap = all_there (λ t. t.end.capacity ≡ h.config.capacity) key s ts has.capacity there in
    let used = stored_bytes s.end.end.book in
    ap₂ (λ (n : ℕ) (o : Option ℕ). nat_le (count ms) (n - length (uses s.end.end.book)) && leaves o used (bytes_of ms)) (sym cap) stored
    ∙ ap (λ (b : Bool). nat_le (count ms) (s.end.capacity - length (uses s.end.end.book)) && b) (leaves_is most_stored used (bytes_of ms))

-- ---- one copy after another

pub all_more : {X : Type 0} (P : X → Type 0) (xs : List X) (i : ℕ) (d : X) → i < length xs → AllByRecursion P (take i xs) → P (get_or xs i d) → AllByRecursion P (take (suc i) xs)
all_more P [] i d l all p = absurd (omega arith)
all_more P (x ∷ xs) zero d l all p = (p, tt)
all_more P (x ∷ xs) (suc i) d l all p = (all.0, all_more P xs i d (omega arith) all.1 p)

pub all_at : {X : Type 0} (P : X → Type 0) (xs : List X) (i : ℕ) (d : X) → i < length xs → AllByRecursion P xs → P (get_or xs i d)
all_at P [] i d l all = absurd (omega arith)
all_at P (x ∷ xs) zero d l all = all.0
all_at P (x ∷ xs) (suc i) d l all = all_at P xs i d (omega arith) all.1

pub still_all : (more : ℕ) (old new : List BrokerSession) (cs : List (ℕ × Message)) → AreStillReady old new → AreReady more old cs → AreReady more new cs
still_all more old new [] still all = tt
still_all more old new (c ∷ cs) still all = (still c.0 (c.1 ∷ []) more all.0, still_all more old new cs still all.1)

pub apart_at : (cs : List (ℕ × Message)) (i : ℕ) (d : ℕ × Message) → i < length cs → AreApart cs → is_among (get_or cs i d).0 (drop (suc i) cs) ≡ false
apart_at [] i d l apart = absurd (omega arith)
apart_at (c ∷ cs) zero d l apart = apart.0
apart_at (c ∷ cs) (suc i) d l apart = apart_at cs i d (omega arith) apart.1

pub drop_at : (cs : List (ℕ × Message)) (i : ℕ) (d : ℕ × Message) → i < length cs → drop i cs ≡ get_or cs i d ∷ drop (suc i) cs
drop_at [] i d l = absurd (omega arith)
drop_at (c ∷ cs) zero d l = refl
drop_at (c ∷ cs) (suc i) d l = drop_at cs i d (omega arith)

pub ended : (cs : List (ℕ × Message)) (i : ℕ) → length cs ≤ i → drop i cs ≡ []
ended [] zero l = refl
ended [] (suc i) l = refl
ended (c ∷ cs) zero l = absurd (omega arith)
ended (c ∷ cs) (suc i) l = ended cs i (omega arith)

pub fit_none : (h : HubState) → all_fit [] h ≡ true
unfolding all_fit
fit_none h = go h.sessions
  where
    go : (ss : List HubSession) → list_all (fits_in h.config []) ss ≡ true
    go [] = refl
    go (s ∷ ss) =
        ap₂ (λ (a b : Bool). a && b)
        (ap₂ (λ (a b : Bool). a && b) (le-leb 0 (h.config.capacity - length (uses s.end.book)) (omega arith)) (leaves_nothing h.config.most_stored (stored_bytes s.end.book)))
        (go ss)

-- so there is room for no copies
pub room_none : (h : HubState) → have_room [] h ≡ true
unfolding have_room
room_none h = ap (λ (b : Bool). drops_copies h.config.when_full || b) (fit_none h) ∙ either (drops_copies h.config.when_full)
  where
    either : (b : Bool) → (b || true) ≡ true
    either true = refl
    either false = refl

-- placing a copy leaves the room of other clients' sessions
pub placed_others : (key : ℕ) (m : Message) (more : ℕ) (ts : List BrokerSession) (cs : List (ℕ × Message)) → is_among key cs ≡ false → AreReady more ts cs → AreReady more (placed_at key m ts) cs
placed_others key m more ts [] none all = tt
placed_others key m more ts (c ∷ cs) none all =
    let apart : eqb key c.0 ≡ false = turned key c.0 (or_left (eqb c.0 key) (is_among key cs) none) in (
      record { session = all.0.session; there = changed_other (published m) key c.0 ts apart ∙ all.0.there; ready = all.0.ready },
      placed_others key m more ts cs (or_right (eqb c.0 key) (is_among key cs) none) all.1,
    )
  where
    turned : (a b : ℕ) → eqb b a ≡ false → eqb a b ≡ false
    turned a b e = ne_eqb a b (λ same. true≢false (sym (eq-eqb b a (sym same)) ∙ e))
