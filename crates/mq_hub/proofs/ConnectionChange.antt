-- Changing a connection and the end of its session, as the broker's definition sees it.
use Rattle.std.proofs.Common.{◌≡◌, ℕ, Bool, true, false, cond, List, [], ◌∷◌, Option, Some, None, refl, sym, ap, ap₂, subst, ◌∙◌, eqb, eqb-true, eq-eqb, true≢false}
use Rattle.std.proofs.lemmas.Bool.{cond-true, cond-false, ne_eqb}
use Rattle.std.specs.Option.{is_some}
use Rattle.mq_end.specs.State.{EndState}
use Rattle.mq_route.specs.declared.conn.Conn.{Conn}
use Rattle.mq_route.specs.declared.connection_state.ConnectionState.{ConnectionState}
use Rattle.mq_route.specs.declared.connection_state.ConnectionState.TheVariants.{AwaitingConnect, ConnectedAs, Closed}
use Rattle.mq_route.specs.declared.connection_state.ConnectionTerms.{ConnectionTerms}
use Rattle.mq_route.specs.Hub.{HubConnection, is_for, is_connection, key_on, knows, stage_of, up_on, waiting_on, with_connection}
use Rattle.mq_tables.specs.declared.sessions.session.BrokerSession.{BrokerSession}
use Rattle.mq_tables.specs.Output.{output_of}
use Rattle.mq_tables.specs.Sessions.{session_at, with_server}
use Rattle.mq_tables.proofs.ConnectionTable.{one_conn, unknown}
use Rattle.mq_hub.specs.Inside.Invariant.{AreApart, HasSession}
use Rattle.mq_hub.specs.Inside.View.{all_seen, seen, waiting_by}
use Rattle.mq_hub.proofs.TableView.{knows_seen}

-- ---- the connection of a name

pub stage_seen : (k : Conn) (ts : List BrokerSession) (xs : List HubConnection) → stage_of k (all_seen ts xs) ≡ stage_of k xs
stage_seen k ts [] = refl
stage_seen k ts (x ∷ xs) = ap (λ (s : ConnectionState). cond (is_connection k x) x.stage s) (stage_seen k ts xs)

-- the first one has the name, so no other has
pub rest_unknown : (k : Conn) (x : HubConnection) (xs : List HubConnection) → is_connection k x ≡ true → knows x.conn xs ≡ false → knows k xs ≡ false
rest_unknown k x xs same none = subst (λ (n : Conn). knows n xs ≡ false) (one_conn x.conn k same) none

-- a client is connected on its connection
pub up_there : (k : Conn) (key : ℕ) (terms : ConnectionTerms) (last_activity : ℕ) (xs : List HubConnection) → stage_of k xs ≡ ConnectedAs key terms last_activity → is_some (up_on key xs) ≡ true
up_there k key terms last_activity [] at = absurd cc
up_there k key terms last_activity (x ∷ xs) at = go (is_connection k x) refl (up_there k key terms last_activity xs)
  where
    later : (b : Bool) → is_some (up_on key xs) ≡ true → is_some (cond b (Some x.conn) (up_on key xs)) ≡ true
    later true up = refl
    later false up = up

    go : (b : Bool) → is_connection k x ≡ b → (stage_of k xs ≡ ConnectedAs key terms last_activity → is_some (up_on key xs) ≡ true) → is_some (up_on key (x ∷ xs)) ≡ true
    go true same rest =
        let here : x.stage ≡ ConnectedAs key terms last_activity = sym (cond-true (is_connection k x) x.stage (stage_of k xs) same) ∙ at in
        ap is_some (ap (λ (s : ConnectionState). cond (is_for key s) (Some x.conn) (up_on key xs)) here ∙ cond-true (eqb key key) (Some x.conn) (up_on key xs) (eq-eqb key key refl))
    go false apart rest = later (is_for key x.stage) (rest (sym (cond-false (is_connection k x) x.stage (stage_of k xs) apart) ∙ at))

-- ---- the session of a connected connection, and the others

module _ (key : ℕ) (ts us : List BrokerSession) (other : (x : HubConnection) → is_for key x.stage ≡ false → seen us x ≡ seen ts x) where
  -- if its client is connected on none of these, they are seen as before
  pub seen_others : (xs : List HubConnection) → up_on key xs ≡ None → all_seen us xs ≡ all_seen ts xs
  seen_others [] none = refl
  seen_others (x ∷ xs) none = go (is_for key x.stage) refl (seen_others xs)
    where
      go : (b : Bool) → is_for key x.stage ≡ b → (up_on key xs ≡ None → all_seen us xs ≡ all_seen ts xs) → all_seen us (x ∷ xs) ≡ all_seen ts (x ∷ xs)
      go true up rest =
          let w : Some x.conn ≡ None = sym (cond-true (is_for key x.stage) (Some x.conn) (up_on key xs) up) ∙ none in
          absurd cc
      go false down rest =
          ap₂ (λ (y : HubConnection) (ys : List HubConnection). y ∷ ys) (other x down) (rest (sym (cond-false (is_for key x.stage) (Some x.conn) (up_on key xs) down) ∙ none))

  module _ (k : Conn) (terms : ConnectionTerms) (last_activity : ℕ) (f g : HubConnection → HubConnection) (here : (x : HubConnection) → x.stage ≡ ConnectedAs key terms last_activity → seen us (f x) ≡ g (seen ts x)) where
    -- the connection on which the client is connected changes, and its session with it
    pub seen_changed : (xs : List HubConnection) → AreApart xs → stage_of k xs ≡ ConnectedAs key terms last_activity → all_seen us (with_connection f k xs) ≡ with_connection g k (all_seen ts xs)
    seen_changed [] apart at = refl
    seen_changed (x ∷ xs) apart at = go (is_connection k x) refl (seen_changed xs apart.2)
      where
        go : (b : Bool) → is_connection k x ≡ b → (stage_of k xs ≡ ConnectedAs key terms last_activity → all_seen us (with_connection f k xs) ≡ with_connection g k (all_seen ts xs))
            → all_seen us (with_connection f k (x ∷ xs)) ≡ with_connection g k (all_seen ts (x ∷ xs))
        go true same rest =
            let stage : x.stage ≡ ConnectedAs key terms last_activity = sym (cond-true (is_connection k x) x.stage (stage_of k xs) same) ∙ at in
            let none : knows k xs ≡ false = rest_unknown k x xs same apart.0 in
            let up : is_for key x.stage ≡ true = ap (is_for key) stage ∙ eq-eqb key key refl in
            ap₂ (λ (y : HubConnection) (ys : List HubConnection). y ∷ ys)
            (ap (seen us) (cond-true (is_connection k x) (f x) x same) ∙ here x stage ∙ sym (cond-true (is_connection k x) (g (seen ts x)) (seen ts x) same))
            (ap (all_seen us) (unknown f k xs none) ∙ seen_others xs (apart.1 key up) ∙ sym (unknown g k (all_seen ts xs) (knows_seen k ts xs ∙ none)))
        go false differ rest =
            let stage : stage_of k xs ≡ ConnectedAs key terms last_activity = sym (cond-false (is_connection k x) x.stage (stage_of k xs) differ) ∙ at in
            ap₂ (λ (y : HubConnection) (ys : List HubConnection). y ∷ ys)
            (ap (seen us) (cond-false (is_connection k x) (f x) x differ) ∙ other x (down (is_for key x.stage) refl stage) ∙ sym (cond-false (is_connection k x) (g (seen ts x)) (seen ts x) differ))
            (rest stage)
          where
            down : (b : Bool) → is_for key x.stage ≡ b → stage_of k xs ≡ ConnectedAs key terms last_activity → is_for key x.stage ≡ false
            down false e stage = e
            down true e stage = absurd (true≢false (sym (up_there k key terms last_activity xs stage) ∙ ap is_some (apart.1 key e)))

-- ---- a connection that isn't up

module _ (k : Conn) (ts : List BrokerSession) (s : ConnectionState) (f g : HubConnection → HubConnection) (here : (x : HubConnection) → x.stage ≡ s → seen ts (f x) ≡ g (seen ts x)) where
  pub seen_still : (xs : List HubConnection) → AreApart xs → stage_of k xs ≡ s → all_seen ts (with_connection f k xs) ≡ with_connection g k (all_seen ts xs)
  seen_still [] apart at = refl
  seen_still (x ∷ xs) apart at = go (is_connection k x) refl (seen_still xs apart.2)
    where
      go : (b : Bool) → is_connection k x ≡ b → (stage_of k xs ≡ s → all_seen ts (with_connection f k xs) ≡ with_connection g k (all_seen ts xs))
          → all_seen ts (with_connection f k (x ∷ xs)) ≡ with_connection g k (all_seen ts (x ∷ xs))
      go true same rest =
          let none : knows k xs ≡ false = rest_unknown k x xs same apart.0 in
          ap₂ (λ (y : HubConnection) (ys : List HubConnection). y ∷ ys)
          (ap (seen ts) (cond-true (is_connection k x) (f x) x same) ∙ here x (sym (cond-true (is_connection k x) x.stage (stage_of k xs) same) ∙ at)
          ∙ sym (cond-true (is_connection k x) (g (seen ts x)) (seen ts x) same))
          (ap (all_seen ts) (unknown f k xs none) ∙ sym (unknown g k (all_seen ts xs) (knows_seen k ts xs ∙ none)))
      go false differ rest =
          ap₂ (λ (y : HubConnection) (ys : List HubConnection). y ∷ ys)
          (ap (seen ts) (cond-false (is_connection k x) (f x) x differ) ∙ sym (cond-false (is_connection k x) (g (seen ts x)) (seen ts x) differ))
          (rest (sym (cond-false (is_connection k x) x.stage (stage_of k xs) differ) ∙ at))

-- ---- pending output

pub waiting_up : (k : Conn) (key : ℕ) (terms : ConnectionTerms) (last_activity : ℕ) (ts : List BrokerSession) (xs : List HubConnection) → stage_of k xs ≡ ConnectedAs key terms last_activity
    → waiting_on k (all_seen ts xs) ≡ output_of key ts
waiting_up k key terms last_activity ts [] at = absurd cc
waiting_up k key terms last_activity ts (x ∷ xs) at = go (is_connection k x) refl (waiting_up k key terms last_activity ts xs)
  where
    go : (b : Bool) → is_connection k x ≡ b → (stage_of k xs ≡ ConnectedAs key terms last_activity → waiting_on k (all_seen ts xs) ≡ output_of key ts)
        → waiting_on k (all_seen ts (x ∷ xs)) ≡ output_of key ts
    go true same rest =
        cond-true (is_connection k x) (seen ts x).waiting (waiting_on k (all_seen ts xs)) same
        ∙ ap (λ (s : ConnectionState). waiting_by s ts x.waiting) (sym (cond-true (is_connection k x) x.stage (stage_of k xs) same) ∙ at)
    go false differ rest =
        cond-false (is_connection k x) (seen ts x).waiting (waiting_on k (all_seen ts xs)) differ ∙ rest (sym (cond-false (is_connection k x) x.stage (stage_of k xs) differ) ∙ at)

-- the pending output of a connection without client is its own
pub own_bytes : (s : ConnectionState) (ts : List BrokerSession) (own : List ℕ) → key_on s ≡ None → waiting_by s ts own ≡ own
own_bytes AwaitingConnect ts own none = refl
own_bytes (ConnectedAs key terms last_activity) ts own none = absurd cc
own_bytes Closed ts own none = refl

pub waiting_own : (k : Conn) (ts : List BrokerSession) (xs : List HubConnection) → key_on (stage_of k xs) ≡ None → waiting_on k (all_seen ts xs) ≡ waiting_on k xs
waiting_own k ts [] none = refl
waiting_own k ts (x ∷ xs) none = go (is_connection k x) refl (waiting_own k ts xs)
  where
    go : (b : Bool) → is_connection k x ≡ b → (key_on (stage_of k xs) ≡ None → waiting_on k (all_seen ts xs) ≡ waiting_on k xs) → waiting_on k (all_seen ts (x ∷ xs)) ≡ waiting_on k (x ∷ xs)
    go true same rest =
        ap (λ (b : List ℕ). cond (is_connection k x) b (waiting_on k (all_seen ts xs)))
        (own_bytes x.stage ts x.waiting (ap key_on (sym (cond-true (is_connection k x) x.stage (stage_of k xs) same)) ∙ none))
        ∙ cond-true (is_connection k x) x.waiting (waiting_on k (all_seen ts xs)) same ∙ sym (cond-true (is_connection k x) x.waiting (waiting_on k xs) same)
    go false differ rest =
        ap (λ (b : List ℕ). cond (is_connection k x) (seen ts x).waiting b) (rest (ap key_on (sym (cond-false (is_connection k x) x.stage (stage_of k xs) differ)) ∙ none))
        ∙ cond-false (is_connection k x) (seen ts x).waiting (waiting_on k xs) differ ∙ sym (cond-false (is_connection k x) x.waiting (waiting_on k xs) differ)

-- ---- another end of a session

module _ (key : ℕ) (e : EndState) where
  pub output_here : (ts : List BrokerSession) → HasSession ts key → output_of key (with_server key e ts) ≡ e.output
  output_here [] stands = absurd (true≢false (sym stands))
  output_here (t ∷ ts) stands = go (eqb t.key key) refl (output_here ts)
    where
      go : (b : Bool) → eqb t.key key ≡ b → (HasSession ts key → output_of key (with_server key e ts) ≡ e.output) → output_of key (with_server key e (t ∷ ts)) ≡ e.output
      go true same rest =
          ap (λ (u : BrokerSession). output_of key (u ∷ with_server key e ts)) (cond-true (eqb t.key key) (record t { end = e }) t same)
          ∙ cond-true (eqb t.key key) e.output (output_of key (with_server key e ts)) same
      go false differ rest =
          ap (λ (u : BrokerSession). output_of key (u ∷ with_server key e ts)) (cond-false (eqb t.key key) (record t { end = e }) t differ)
          ∙ cond-false (eqb t.key key) t.end.output (output_of key (with_server key e ts)) differ
          ∙ rest (ap is_some (sym (cond-false (eqb t.key key) (Some t) (session_at key ts) differ)) ∙ stands)

  output_other : (c : ℕ) (ts : List BrokerSession) → eqb c key ≡ false → output_of c (with_server key e ts) ≡ output_of c ts
  output_other c [] apart = refl
  output_other c (t ∷ ts) apart = go (eqb t.key key) refl (output_other c ts apart)
    where
      go : (b : Bool) → eqb t.key key ≡ b → output_of c (with_server key e ts) ≡ output_of c ts → output_of c (with_server key e (t ∷ ts)) ≡ output_of c (t ∷ ts)
      go true same rest =
          let far : eqb t.key c ≡ false = ne_eqb t.key c (λ w. true≢false (sym (eq-eqb c key (sym w ∙ eqb-true t.key key same)) ∙ apart)) in
          ap (λ (u : BrokerSession). output_of c (u ∷ with_server key e ts)) (cond-true (eqb t.key key) (record t { end = e }) t same)
          ∙ cond-false (eqb t.key c) e.output (output_of c (with_server key e ts)) far ∙ rest ∙ sym (cond-false (eqb t.key c) t.end.output (output_of c ts) far)
      go false differ rest =
          ap (λ (u : BrokerSession). output_of c (u ∷ with_server key e ts)) (cond-false (eqb t.key key) (record t { end = e }) t differ)
          ∙ ap (λ (b : List ℕ). cond (eqb t.key c) t.end.output b) rest

  waiting_other : (s : ConnectionState) (ts : List BrokerSession) (own : List ℕ) → is_for key s ≡ false → waiting_by s (with_server key e ts) own ≡ waiting_by s ts own
  waiting_other AwaitingConnect ts own apart = refl
  waiting_other (ConnectedAs c terms last_activity) ts own apart = output_other c ts apart
  waiting_other Closed ts own apart = refl

  pub seen_served : (ts : List BrokerSession) (x : HubConnection) → is_for key x.stage ≡ false → seen (with_server key e ts) x ≡ seen ts x
  seen_served ts x apart = ap (λ (b : List ℕ). record x { waiting = b }) (waiting_other x.stage ts x.waiting apart)

-- ---- the connection of a client

pub up_seen : (key : ℕ) (ts : List BrokerSession) (xs : List HubConnection) → up_on key (all_seen ts xs) ≡ up_on key xs
up_seen key ts [] = refl
up_seen key ts (x ∷ xs) = ap (λ (o : Option Conn). cond (is_for key x.stage) (Some x.conn) o) (up_seen key ts xs)
