-- A connection on which a client is connected is closed.
use Rattle.std.proofs.Common.{◌≡◌, ◌||◌, ℕ, Bool, true, false, cond, List, [], ◌∷◌, Option, Some, None, refl, sym, ap, ap₂, subst, ◌∙◌, eqb}
use Rattle.std.proofs.lemmas.Bool.{cond-false}
use Rattle.std.specs.Option.{IfSome}
use Rattle.mq_end.specs.State.{EndState}
use Rattle.mq_route.specs.declared.conn.Conn.{Conn}
use Rattle.mq_route.specs.Hub.{HubSession, HubConnection, is_connection, key_on, knows, stage_of, with_end, with_connection}
use Rattle.mq_tables.specs.declared.sessions.session.BrokerSession.{BrokerSession}
use Rattle.mq_tables.specs.Connections.{left_with}
use Rattle.mq_tables.specs.Sessions.{session_of, sessions_of, session_at, with_server, without_key}

-- ---- connections

-- a connected connection is known
pub up_known : (k : Conn) (key : ℕ) (xs : List HubConnection) → key_on (stage_of k xs) ≡ Some key → knows k xs ≡ true
up_known k key [] up = absurd cc
up_known k key (x ∷ xs) up = go (is_connection k x) refl (up_known k key xs)
  where
    go : (b : Bool) → is_connection k x ≡ b → (key_on (stage_of k xs) ≡ Some key → knows k xs ≡ true) → knows k (x ∷ xs) ≡ true
    go true same rest = ap (λ (b : Bool). b || knows k xs) same
    go false differ rest =
        ap (λ (b : Bool). b || knows k xs) differ ∙ rest (ap key_on (sym (cond-false (is_connection k x) x.stage (stage_of k xs) differ)) ∙ up)

-- ---- sessions

-- an end is exchanged as in the definition
pub sessions_with : (key : ℕ) (e : EndState) (ts : List BrokerSession) → sessions_of (with_server key e ts) ≡ with_end key e.end (sessions_of ts)
sessions_with key e [] = refl
sessions_with key e (s ∷ ts) = ap₂ (λ (x : HubSession) (xs : List HubSession). x ∷ xs) (go (eqb s.key key)) (sessions_with key e ts)
  where
    go : (b : Bool) → session_of (cond b (record s { end = e }) s) ≡ cond b (record (session_of s) { end = e.end }) (session_of s)
    go true = refl
    go false = refl

pub without_with : (key : ℕ) (e : EndState) (ts : List BrokerSession) → without_key key (with_server key e ts) ≡ without_key key ts
without_with key e [] = refl
without_with key e (s ∷ ts) = go (eqb s.key key) refl (without_with key e ts)
  where
    go : (b : Bool) → eqb s.key key ≡ b → without_key key (with_server key e ts) ≡ without_key key ts
        → without_key key (with_server key e (s ∷ ts)) ≡ without_key key (s ∷ ts)
    go true same rest = rw same (rw same rest)
    go false differ rest = rw differ (rw differ (ap (λ (rs : List BrokerSession). s ∷ rs) rest))

-- ---- the table

-- the connection has the pending output of the session's end then
pub left_lines : (k : Conn) (o : Option BrokerSession) (b : List ℕ) (xs ys : List HubConnection) → IfSome o (λ s. b ≡ s.end.output)
    → ys ≡ with_connection (left_with b) k xs → IfSome o (λ s. ys ≡ with_connection (left_with s.end.output) k xs)
left_lines k None b xs ys is says = tt
left_lines k (Some s) b xs ys is says = says ∙ ap (λ (c : List ℕ). with_connection (left_with c) k xs) is

-- for the session of a connected connection
pub lines_there : (k : Conn) (key : ℕ) (s : BrokerSession) (ts : List BrokerSession) (xs ys : List HubConnection) → session_at key ts ≡ Some s
    → IfSome (session_at key ts) (λ r. ys ≡ with_connection (left_with r.end.output) k xs) → ys ≡ with_connection (left_with s.end.output) k xs
lines_there k key s ts xs ys there says = subst (λ (o : Option BrokerSession). IfSome o (λ r. ys ≡ with_connection (left_with r.end.output) k xs)) there says
