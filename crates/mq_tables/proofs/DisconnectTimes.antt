-- A session stores the time of its client's last disconnect.
use Rattle.std.proofs.Common.{◌≡◌, ℕ, ◌<◌, Bool, true, false, cond, List, [], ◌∷◌, Option, Some, None, is_some, refl, sym, ap, ap₂, subst, ◌∙◌, eqb}
use Rattle.std.proofs.lemmas.Bool.{cond-true, cond-false, cond_both}
use Rattle.mq_packet.specs.declared.connect.Connect.{Connect}
use Rattle.mq_packet.specs.declared.message.Message.{Message}
use Rattle.mq_end.specs.Ready.{HasConnectRoom}
use Rattle.mq_route.specs.Hub.{HubSession, key_of, with_left}
use Rattle.mq_tables.specs.declared.sessions.session.BrokerSession.{BrokerSession}
use Rattle.mq_tables.specs.Connecting.{HasConnectRoomAt}
use Rattle.mq_tables.specs.Sessions.{AreAscending, AreBelow, marked_at, marking, session_at, session_of, sessions_of}
use Rattle.mq_tables.specs.Output.{output_of}
use Rattle.mq_tables.proofs.SessionLemmas.{ascending_acted, named_acted, some_same}

module _ (key now : ℕ) where
  abbrev pub stamped : BrokerSession → BrokerSession
  stamped t = record t { left_at = now }

  key_kept : (t : BrokerSession) → (marking key now t).key ≡ t.key
  key_kept t = cond_both (eqb t.key key) (stamped t) t (λ (s : BrokerSession). s.key ≡ t.key) (λ e. refl) (λ e. refl)

  -- ---- the table

  pub named_marked : (n : List ℕ) (ts : List BrokerSession) → key_of n (sessions_of (marked_at key now ts)) ≡ key_of n (sessions_of ts)
  named_marked n ts = named_acted stamped (λ t. refl) (λ t. refl) key n ts

  pub ascending_marked : (ts : List BrokerSession) → AreAscending ts → AreAscending (marked_at key now ts)
  ascending_marked ts up = ascending_acted stamped (λ t. refl) (λ t. refl) key ts up

  -- no session has the key
  pub absent_marked : (ts : List BrokerSession) → session_at key ts ≡ None → marked_at key now ts ≡ ts
  absent_marked [] none = refl
  absent_marked (t ∷ ts) none = go (eqb t.key key) refl (absent_marked ts)
    where
      go : (b : Bool) → eqb t.key key ≡ b → (session_at key ts ≡ None → marked_at key now ts ≡ ts) → marked_at key now (t ∷ ts) ≡ t ∷ ts
      go true same rest = let some : Some t ≡ None = sym (cond-true (eqb t.key key) (Some t) (session_at key ts) same) ∙ none in absurd cc
      go false other rest =
          λ i. cond-false (eqb t.key key) (stamped t) t other i ∷ rest (sym (cond-false (eqb t.key key) (Some t) (session_at key ts) other) ∙ none) i

  -- ---- what the broker's definition sees

  pub sessions_marked : (ts : List BrokerSession) → sessions_of (marked_at key now ts) ≡ with_left (Some key) now (sessions_of ts)
  sessions_marked [] = refl
  sessions_marked (t ∷ ts) = ap₂ (λ (x : HubSession) (xs : List HubSession). x ∷ xs) (go (eqb t.key key)) (sessions_marked ts)
    where
      go : (b : Bool) → session_of (cond b (stamped t) t) ≡ cond b (record (session_of t) { left = now }) (session_of t)
      go true = refl
      go false = refl

  pub output_marked : (c : ℕ) (ts : List BrokerSession) → output_of c (marked_at key now ts) ≡ output_of c ts
  output_marked c [] = refl
  output_marked c (t ∷ ts) = go (eqb t.key key) (output_marked c ts)
    where
      go : (b : Bool) → output_of c (marked_at key now ts) ≡ output_of c ts → output_of c (cond b (stamped t) t ∷ marked_at key now ts) ≡ output_of c (t ∷ ts)
      go true rest = ap (cond (eqb t.key c) t.end.output) rest
      go false rest = ap (cond (eqb t.key c) t.end.output) rest

  -- ---- the invariant of a broker

  pub there_marked : (c : ℕ) (ts : List BrokerSession) → is_some (session_at c (marked_at key now ts)) ≡ is_some (session_at c ts)
  there_marked c [] = refl
  there_marked c (t ∷ ts) = go (eqb t.key key) (there_marked c ts)
    where
      step : (b : Bool) (x y : BrokerSession) (o p : Option BrokerSession) → is_some o ≡ is_some p → is_some (cond b (Some x) o) ≡ is_some (cond b (Some y) p)
      step true x y o p rest = refl
      step false x y o p rest = rest

      go : (b : Bool) → is_some (session_at c (marked_at key now ts)) ≡ is_some (session_at c ts)
          → is_some (session_at c (cond b (stamped t) t ∷ marked_at key now ts)) ≡ is_some (session_at c (t ∷ ts))
      go true rest = step (eqb t.key c) (stamped t) t (session_at c (marked_at key now ts)) (session_at c ts) rest
      go false rest = step (eqb t.key c) t t (session_at c (marked_at key now ts)) (session_at c ts) rest

  pub below_marked : (next : ℕ) (ts : List BrokerSession) → AreBelow next ts → AreBelow next (marked_at key now ts)
  below_marked next [] all = tt
  below_marked next (t ∷ ts) all = (subst (λ (n : ℕ). n < next) (sym (key_kept t)) all.0, below_marked next ts all.1)

  -- room to process a CONNECT stays
  pub room_marked : (c : Connect) (other : ℕ) (ms : List Message) (more : ℕ) (ts : List BrokerSession) → HasConnectRoomAt c other ms more ts → HasConnectRoomAt c other ms more (marked_at key now ts)
  room_marked c other ms more ts h =
      let s = h.session in
      record { session = marking key now s; there = at s ts h.there; connect_end = cond_both (eqb s.key key) (stamped s) s (λ (x : BrokerSession). HasConnectRoomOf x) (λ e. h.connect_end) (λ e. h.connect_end) }
    where
      HasConnectRoomOf : BrokerSession → Type 0
      HasConnectRoomOf x = HasConnectRoom c ms more x.end

      at : (s : BrokerSession) (ts : List BrokerSession) → session_at other ts ≡ Some s → session_at other (marked_at key now ts) ≡ Some (marking key now s)
      at s [] there = absurd cc
      at s (t ∷ ts) there = go (eqb t.key other) refl (at s ts)
        where
          go : (b : Bool) → eqb t.key other ≡ b → (session_at other ts ≡ Some s → session_at other (marked_at key now ts) ≡ Some (marking key now s))
              → session_at other (marked_at key now (t ∷ ts)) ≡ Some (marking key now s)
          go true same rest =
              let is : t ≡ s = some_same (sym (cond-true (eqb t.key other) (Some t) (session_at other ts) same) ∙ there) in
              cond-true (eqb (marking key now t).key other) (Some (marking key now t)) (session_at other (marked_at key now ts)) (ap (λ (n : ℕ). eqb n other) (key_kept t) ∙ same)
              ∙ ap (λ (x : BrokerSession). Some (marking key now x)) is
          go false apart rest =
              cond-false (eqb (marking key now t).key other) (Some (marking key now t)) (session_at other (marked_at key now ts)) (ap (λ (n : ℕ). eqb n other) (key_kept t) ∙ apart)
              ∙ rest (sym (cond-false (eqb t.key other) (Some t) (session_at other ts) apart) ∙ there)
