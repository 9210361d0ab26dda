-- Room for messages in the ends of sessions.
use Rattle.std.proofs.Common.{◌≡◌, ℕ, suc, ◌+◌, ◌-◌, ◌<◌, ◌≤◌, Bool, true, false, cond, ◌&&◌, List, [], ◌∷◌, ◌++◌, map, filter, length, Option, Some, None, IfSome, Result, Ok, Err, OnOk, refl, sym, ap, ap₂, subst, ◌∙◌, arith, eqb, nat_le, eqb-true, eq-eqb, true≢false, zero-add}
use Rattle.std.specs.Prelude.{⊤}
use Rattle.std.proofs.lemmas.Bool.{cond-true, cond-false, ne_eqb}
use Rattle.std.proofs.lemmas.List.Sums.{sum_by-cons}
use Rattle.std.specs.List.{AllByRecursion, list_all, sum_by}
use Rattle.mq_packet.specs.declared.message.Message.{Message}
use Rattle.mq_flow.specs.Sender.{uses}
use Rattle.mq_flow.specs.Stored.{message_bytes, stored_bytes}
use Rattle.mq_end.specs.declared.refusal.PublishRefusal.{PublishRefusal}
use Rattle.mq_end.specs.Both.{has_identifier}
use Rattle.mq_end.specs.End.{End, is_up}
use Rattle.mq_end.specs.Ready.{HasRoom}
use Rattle.mq_end.specs.Server.{ready_refusal}
use Rattle.mq_end.specs.Sizes.{publish_size}
use Rattle.mq_end.specs.State.{EndState, Room}
use Rattle.mq_route.specs.declared.config.HubConfig.{HubConfig}
use Rattle.mq_route.specs.Hub.{HubSession, end_of, for_key}
use Rattle.mq_route.specs.Work.{fits_in, leaves}
use Rattle.mq_tables.specs.declared.sessions.session.BrokerSession.{BrokerSession}
use Rattle.mq_tables.specs.Rules.{bytes_of, fits_left, left_of}
use Rattle.mq_tables.specs.Sessions.{AreAscending, sessions_of, session_of, session_at, with_server}
use Rattle.mq_tables.specs.Publishing.{AreSameButRoom, AreStillReady, IsReadyAt, MayGo, ReadiesAt, roomless}
pub use Rattle.mq_tables.proofs.SessionLemmas.{some_same}

-- ---- how many identifiers copies need

abbrev pub count : List Message → ℕ
count ms = length (filter (λ m. has_identifier m.qos) ms)

-- the same, over the copies for a client
abbrev pub weighed : (Message → ℕ) → ℕ → List (ℕ × Message) → ℕ
weighed w key cs = sum_by (λ x. cond (eqb x.0 key && has_identifier x.1.qos) (w x.1) 0) cs

pub weighed_cons : (w : Message → ℕ) (k : ℕ) (x : ℕ × Message) (xs : List (ℕ × Message)) → weighed w k (x ∷ xs) ≡ cond (eqb x.0 k && has_identifier x.1.qos) (w x.1) 0 + weighed w k xs
weighed_cons w k x xs = sum_by-cons (λ c. cond (eqb c.0 k && has_identifier c.1.qos) (w c.1) 0) x xs

other_weighed : (w : Message → ℕ) (k key : ℕ) (ms : List Message) (cs : List (ℕ × Message)) → eqb key k ≡ false → weighed w k (for_key key ms ++ cs) ≡ weighed w k cs
other_weighed w k key [] cs apart = refl
other_weighed w k key (m ∷ ms) cs apart =
    weighed_cons w k (key, m) (for_key key ms ++ cs)
    ∙ ap (λ (b : Bool). cond (b && has_identifier m.qos) (w m) 0 + weighed w k (for_key key ms ++ cs)) apart
    ∙ zero-add (weighed w k (for_key key ms ++ cs)) ∙ other_weighed w k key ms cs apart

-- ---- whether the sessions have room

abbrev pub room_of : HubConfig → List (ℕ × Message) → List BrokerSession → Bool
room_of config cs ts = list_all (fits_in config cs) (sessions_of ts)

-- a session has this number of identifiers free, and may store this number of bytes
abbrev pub fits_by : HubConfig → End → ℕ → ℕ → Bool
fits_by config e n bytes = nat_le n (config.capacity - length (uses e.book)) && leaves config.most_stored (stored_bytes e.book) bytes

-- a session has room for these messages
abbrev pub fits_own : HubConfig → List Message → BrokerSession → Bool
fits_own config ms s = fits_by config s.end.end (count ms) (bytes_of ms)

pub other_fits : (config : HubConfig) (key : ℕ) (ms : List Message) (cs : List (ℕ × Message)) (s : BrokerSession) → eqb key s.key ≡ false
    → fits_in config (for_key key ms ++ cs) (session_of s) ≡ fits_in config cs (session_of s)
other_fits config key ms cs s apart =
    ap₂ (fits_by config s.end.end) (other_weighed (λ m. 1) s.key key ms cs apart) (other_weighed message_bytes s.key key ms cs apart)

-- ---- the one session of a key

-- sessions above a key are not of it
none_of_key : (P : BrokerSession → Type 0) (key : ℕ) (ts : List BrokerSession) → AllByRecursion (λ s. key < s.key) ts → AllByRecursion (λ s. s.key ≡ key → P s) ts
none_of_key P key [] above = tt
none_of_key P key (s ∷ ts) above = let l = above.0 in (λ same. absurd (omega arith), none_of_key P key ts above.1)

pub only_own : (P : BrokerSession → Type 0) (key : ℕ) (t : BrokerSession) (ts : List BrokerSession) → AreAscending ts → session_at key ts ≡ Some t → P t → AllByRecursion (λ s. s.key ≡ key → P s) ts
only_own P key t [] up there p = tt
only_own P key t (s ∷ ts) up there p = go (eqb s.key key) refl (only_own P key t ts up.1)
  where
    go : (b : Bool) → eqb s.key key ≡ b → (session_at key ts ≡ Some t → P t → AllByRecursion (λ s. s.key ≡ key → P s) ts) → AllByRecursion (λ s. s.key ≡ key → P s) (s ∷ ts)
    go true e rest =
        let is : s ≡ t = some_same (sym (cond-true (eqb s.key key) (Some s) (session_at key ts) e) ∙ there) in
        (λ same. subst P (sym is) p, none_of_key P key ts (subst (λ (k : ℕ). AllByRecursion (λ s. k < s.key) ts) (eqb-true s.key key e) up.0))
    go false e rest =
        (λ same. absurd (true≢false (sym (eq-eqb s.key key same) ∙ e)), rest (sym (cond-false (eqb s.key key) (Some s) (session_at key ts) e) ∙ there) p)

pub key_there : (key : ℕ) (t : BrokerSession) (ts : List BrokerSession) → session_at key ts ≡ Some t → t.key ≡ key
key_there key t [] there = absurd cc
key_there key t (s ∷ ts) there = go (eqb s.key key) refl (key_there key t ts)
  where
    go : (b : Bool) → eqb s.key key ≡ b → (session_at key ts ≡ Some t → t.key ≡ key) → t.key ≡ key
    go true e rest = subst (λ (x : BrokerSession). x.key ≡ key) (some_same (sym (cond-true (eqb s.key key) (Some s) (session_at key ts) e) ∙ there)) (eqb-true s.key key e)
    go false e rest = rest (sym (cond-false (eqb s.key key) (Some s) (session_at key ts) e) ∙ there)

-- the sessions after a change of that of a key
abbrev pub changing : (EndState → EndState) → ℕ → BrokerSession → BrokerSession
changing f key t = cond (eqb t.key key) (record t { end = f t.end }) t

abbrev pub changed_at : (EndState → EndState) → ℕ → List BrokerSession → List BrokerSession
changed_at f key ts = map (changing f key) ts

pub same_change : (f : EndState → EndState) (key : ℕ) (t : BrokerSession) (ts : List BrokerSession) → AreAscending ts → session_at key ts ≡ Some t → with_server key (f t.end) ts ≡ changed_at f key ts
same_change f key t ts up there = go ts (only_own (λ s. f s.end ≡ f t.end) key t ts up there refl)
  where
    one : (s : BrokerSession) (b : Bool) → eqb s.key key ≡ b → (s.key ≡ key → f s.end ≡ f t.end) → cond b (record s { end = f t.end }) s ≡ cond b (record s { end = f s.end }) s
    one s true e same = ap (λ (x : EndState). record s { end = x }) (sym (same (eqb-true s.key key e)))
    one s false e same = refl

    go : (ss : List BrokerSession) → AllByRecursion (λ s. s.key ≡ key → f s.end ≡ f t.end) ss → with_server key (f t.end) ss ≡ changed_at f key ss
    go [] all = refl
    go (s ∷ ss) all = ap₂ (λ (x : BrokerSession) (xs : List BrokerSession). x ∷ xs) (one s (eqb s.key key) refl all.0) (go ss all.1)

pub changed_own : (f : EndState → EndState) (key : ℕ) (t : BrokerSession) (ts : List BrokerSession) → session_at key ts ≡ Some t → session_at key (changed_at f key ts) ≡ Some (record t { end = f t.end })
changed_own f key t [] there = absurd cc
changed_own f key t (s ∷ ts) there = go (eqb s.key key) refl (changed_own f key t ts)
  where
    go : (b : Bool) → eqb s.key key ≡ b → (session_at key ts ≡ Some t → session_at key (changed_at f key ts) ≡ Some (record t { end = f t.end }))
        → session_at key (cond b (record s { end = f s.end }) s ∷ changed_at f key ts) ≡ Some (record t { end = f t.end })
    go true e rest =
        let is : s ≡ t = some_same (sym (cond-true (eqb s.key key) (Some s) (session_at key ts) e) ∙ there) in
        cond-true (eqb s.key key) (Some (record s { end = f s.end })) (session_at key (changed_at f key ts)) e ∙ ap (λ (x : BrokerSession). Some (record x { end = f x.end })) is
    go false e rest =
        cond-false (eqb s.key key) (Some s) (session_at key (changed_at f key ts)) e ∙ rest (sym (cond-false (eqb s.key key) (Some s) (session_at key ts) e) ∙ there)

pub changed_other : (f : EndState → EndState) (key k : ℕ) (ts : List BrokerSession) → eqb key k ≡ false → session_at k (changed_at f key ts) ≡ session_at k ts
changed_other f key k [] apart = refl
changed_other f key k (s ∷ ts) apart = go (eqb s.key key) refl (changed_other f key k ts apart)
  where
    go : (b : Bool) → eqb s.key key ≡ b → session_at k (changed_at f key ts) ≡ session_at k ts → session_at k (cond b (record s { end = f s.end }) s ∷ changed_at f key ts) ≡ session_at k (s ∷ ts)
    go true e rest =
        let no : eqb s.key k ≡ false = subst (λ (x : ℕ). eqb x k ≡ false) (sym (eqb-true s.key key e)) apart in
        cond-false (eqb s.key k) (Some (record s { end = f s.end })) (session_at k (changed_at f key ts)) no ∙ rest ∙ sym (cond-false (eqb s.key k) (Some s) (session_at k ts) no)
    go false e rest = ap (λ (o : Option BrokerSession). cond (eqb s.key k) (Some s) o) rest

-- a change of one session leaves the ends of other clients
pub end_changed : (f : EndState → EndState) (key k : ℕ) (ts : List BrokerSession) → eqb k key ≡ false → end_of k (sessions_of (changed_at f key ts)) ≡ end_of k (sessions_of ts)
end_changed f key k [] apart = refl
end_changed f key k (s ∷ ts) apart = go (eqb s.key key) refl (end_changed f key k ts apart)
  where
    go : (b : Bool) → eqb s.key key ≡ b → end_of k (sessions_of (changed_at f key ts)) ≡ end_of k (sessions_of ts)
        → end_of k (sessions_of (cond b (record s { end = f s.end }) s ∷ changed_at f key ts)) ≡ end_of k (sessions_of (s ∷ ts))
    go true e rest =
        let no : eqb s.key k ≡ false = ne_eqb s.key k (λ same. true≢false (sym (eq-eqb k key (sym same ∙ eqb-true s.key key e)) ∙ apart)) in
        cond-false (eqb s.key k) (f s.end).end (end_of k (sessions_of (changed_at f key ts))) no ∙ rest
        ∙ sym (cond-false (eqb s.key k) s.end.end (end_of k (sessions_of ts)) no)
    go false e rest = ap (λ (x : End). cond (eqb s.key k) s.end.end x) rest

pub changed_length : (f : EndState → EndState) (key : ℕ) (ts : List BrokerSession) → length (changed_at f key ts) ≡ length ts
changed_length f key [] = refl
changed_length f key (t ∷ ts) = ap suc (changed_length f key ts)

-- ---- sessions whose room alone changed

abbrev rooming : Room → EndState → EndState
rooming r s = record s { room = r }

reroomed_same : (room : Room) (key : ℕ) (ts : List BrokerSession) → map roomless (changed_at (rooming room) key ts) ≡ map roomless ts
reroomed_same room key [] = refl
reroomed_same room key (t ∷ ts) = ap₂ (λ (x : BrokerSession) (xs : List BrokerSession). x ∷ xs) (one (eqb t.key key)) (reroomed_same room key ts)
  where
    one : (b : Bool) → roomless (cond b (record t { end = rooming room t.end }) t) ≡ roomless t
    one true = refl
    one false = refl

-- the end of a session has other room
pub other_room : (room : Room) (key : ℕ) (t : BrokerSession) (ts : List BrokerSession) → AreAscending ts → session_at key ts ≡ Some t → AreSameButRoom ts (with_server key (record t.end { room = room }) ts)
other_room room key t ts up there = ap (map roomless) (same_change (rooming room) key t ts up there) ∙ reroomed_same room key ts

pub same_sessions : (old new : List BrokerSession) → AreSameButRoom old new → sessions_of new ≡ sessions_of old
same_sessions old new same = sym (go new) ∙ ap (map session_of) same ∙ go old
  where
    go : (ts : List BrokerSession) → map session_of (map roomless ts) ≡ map session_of ts
    go [] = refl
    go (t ∷ ts) = ap (λ (ss : List HubSession). session_of t ∷ ss) (go ts)

same_first : (s t : BrokerSession) (ss ts : List BrokerSession) → roomless s ∷ map roomless ss ≡ roomless t ∷ map roomless ts → roomless s ≡ roomless t
same_first s t ss ts e = cc

same_later : (s t : BrokerSession) (ss ts : List BrokerSession) → roomless s ∷ map roomless ss ≡ roomless t ∷ map roomless ts → map roomless ss ≡ map roomless ts
same_later s t ss ts e = cc

pub same_session : (key : ℕ) (t : BrokerSession) (old new : List BrokerSession) → AreSameButRoom old new → session_at key old ≡ Some t → (s : BrokerSession) × (session_at key new ≡ Some s) × (roomless s ≡ roomless t)
same_session key t [] new same there = absurd cc
same_session key t (o ∷ old) [] same there = absurd cc
same_session key t (o ∷ old) (n ∷ new) same there = go (eqb o.key key) refl (same_session key t old new (same_later n o new old same))
  where
    alike : n.key ≡ o.key
    alike = ap (λ (x : BrokerSession). x.key) (same_first n o new old same)

    go : (b : Bool) → eqb o.key key ≡ b → (session_at key old ≡ Some t → (s : BrokerSession) × (session_at key new ≡ Some s) × (roomless s ≡ roomless t))
        → (s : BrokerSession) × (session_at key (n ∷ new) ≡ Some s) × (roomless s ≡ roomless t)
    go true e rest =
        let is : o ≡ t = some_same (sym (cond-true (eqb o.key key) (Some o) (session_at key old) e) ∙ there) in (
          n,
          cond-true (eqb n.key key) (Some n) (session_at key new) (ap (λ (k : ℕ). eqb k key) alike ∙ e),
          same_first n o new old same ∙ ap roomless is,
        )
    go false e rest =
        let w = rest (sym (cond-false (eqb o.key key) (Some o) (session_at key old) e) ∙ there) in (
          w.0,
          cond-false (eqb n.key key) (Some n) (session_at key new) (ap (λ (k : ℕ). eqb k key) alike ∙ e) ∙ w.1,
          w.2,
        )

may_go_same : (m : Message) (s t : BrokerSession) → roomless s ≡ roomless t → MayGo m t.end → MayGo m s.end
may_go_same m s t same may = record {
  known = ap (λ (x : BrokerSession). x.end.end.known) same ∙ may.known;
  up = λ once. ap (λ (x : BrokerSession). is_up x.end.end.state) same ∙ may.up once;
  fits = subst (λ (n : ℕ). publish_size m ≤ n) (sym (ap (λ (x : BrokerSession). x.end.limit.most) same)) may.fits;
}

pub all_may_go_same : (ms : List Message) (s t : BrokerSession) → roomless s ≡ roomless t → AllByRecursion (λ m. MayGo m t.end) ms → AllByRecursion (λ m. MayGo m s.end) ms
all_may_go_same [] s t same all = tt
all_may_go_same (m ∷ ms) s t same all = (may_go_same m s t same all.0, all_may_go_same ms s t same all.1)

pub same_capacity : (cap : ℕ) (old new : List BrokerSession) → AreSameButRoom old new → AllByRecursion (λ t. t.end.capacity ≡ cap) old → AllByRecursion (λ t. t.end.capacity ≡ cap) new
same_capacity cap old [] same all = tt
same_capacity cap [] (n ∷ new) same all = absurd cc
same_capacity cap (o ∷ old) (n ∷ new) same all =
    (ap (λ (x : BrokerSession). x.end.capacity) (same_first n o new old same) ∙ all.0, same_capacity cap old new (same_later n o new old same) all.1)

-- ---- the result

pub all_there : (P : BrokerSession → Type 0) (key : ℕ) (t : BrokerSession) (ts : List BrokerSession) → AllByRecursion P ts → session_at key ts ≡ Some t → P t
all_there P key t [] all there = absurd cc
all_there P key t (s ∷ ts) all there = go (eqb s.key key) refl (all_there P key t ts all.1)
  where
    go : (b : Bool) → eqb s.key key ≡ b → (session_at key ts ≡ Some t → P t) → P t
    go true e rest = subst P (some_same (sym (cond-true (eqb s.key key) (Some s) (session_at key ts) e) ∙ there)) all.0
    go false e rest = rest (sym (cond-false (eqb s.key key) (Some s) (session_at key ts) e) ∙ there)

ok_err : (a : Result ⊤ PublishRefusal) (why : PublishRefusal) → a ≡ Ok tt → a ≡ Err why → ⊥
ok_err a why e f = absurd cc

module _ (key : ℕ) (ms : List Message) (more : ℕ) (answer : Result ⊤ PublishRefusal) (old new : List BrokerSession) (up : AreAscending old) (r : ReadiesAt key ms more answer old new) where
  readied : new ≡ changed_at (rooming r.end.room) key old
  readied = r.after ∙ ap (λ (e : EndState). with_server key e old) r.readies.same ∙ same_change (rooming r.end.room) key r.session old up r.there

  pub ready_same : AreSameButRoom old new
  ready_same = ap (map roomless) readied ∙ reroomed_same r.end.room key old

  pub ready_still : AreStillReady old new
  ready_still k others n was = subst (λ (ts : List BrokerSession). IsReadyAt k others n ts) (sym readied) (go (eqb key k) refl)
    where
      go : (b : Bool) → eqb key k ≡ b → IsReadyAt k others n (changed_at (rooming r.end.room) key old)
      go true e =
          let same : key ≡ k = eqb-true key k e in
          let there : session_at key old ≡ Some was.session = subst (λ (x : ℕ). session_at x old ≡ Some was.session) (sym same) was.there in
          let is : was.session ≡ r.session = some_same (sym there ∙ r.there) in
          record {
            session = record was.session { end = rooming r.end.room was.session.end };
            there = subst (λ (x : ℕ). session_at x (changed_at (rooming r.end.room) key old) ≡ Some (record was.session { end = rooming r.end.room was.session.end })) same
                (changed_own (rooming r.end.room) key was.session old there);
            ready = record {
              accepted = was.ready.accepted;
              room = subst (λ (x : BrokerSession). HasRoom others n (rooming r.end.room x.end)) (sym is)
                  (subst (λ (x : EndState). HasRoom others n x) r.readies.same (r.readies.before others n (subst (λ (x : BrokerSession). HasRoom others n x.end) is was.ready.room)));
            };
          }
      go false e = record { session = was.session; there = changed_other (rooming r.end.room) key k old e ∙ was.there; ready = was.ready }

  not_refused : answer ≡ Ok tt → ready_refusal r.session.end.limit.most r.session.end.capacity ms r.session.end.end ≡ None
  not_refused ok = go (ready_refusal r.session.end.limit.most r.session.end.capacity ms r.session.end.end) refl
    where
      go : (o : Option PublishRefusal) → ready_refusal r.session.end.limit.most r.session.end.capacity ms r.session.end.end ≡ o → o ≡ None
      go None e = refl
      go (Some why) e = absurd (ok_err answer why ok (subst (λ (o : Option PublishRefusal). IfSome o (λ why. answer ≡ Err why)) e r.readies.refused))

  pub ready_now : answer ≡ Ok tt → IsReadyAt key ms more new
  ready_now ok = subst (λ (ts : List BrokerSession). IsReadyAt key ms more ts) (sym readied) (record {
    session = record r.session { end = rooming r.end.room r.session.end };
    there = changed_own (rooming r.end.room) key r.session old r.there;
    ready = record {
      accepted = not_refused ok;
      room = subst (λ (x : EndState). HasRoom ms more x) r.readies.same (subst (λ (a : Result ⊤ PublishRefusal). OnOk a (HasRoom ms more r.end)) ok r.readies.room);
    };
  })

pub leaves_is : (o : Option ℕ) (used more : ℕ) → leaves o used more ≡ fits_left (left_of o used) more
leaves_is None used more = refl
leaves_is (Some most) used more = refl
