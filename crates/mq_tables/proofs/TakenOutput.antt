-- The pending output of a connection is taken.
use Rattle.std.proofs.Common.{◌≡◌, ℕ, Bool, true, false, List, [], ◌∷◌, Some, refl, sym, ap, ap₂, ◌∙◌, eqb}
use Rattle.std.proofs.lemmas.Bool.{cond_both, cond-true, cond-false}
use Rattle.mq_end.specs.State.{EndState}
use Rattle.mq_route.specs.declared.conn.Conn.{Conn}
use Rattle.mq_route.specs.Hub.{HubConnection, is_connection, with_connection}
use Rattle.mq_tables.specs.declared.sessions.session.BrokerSession.{BrokerSession}
use Rattle.mq_tables.specs.Output.{output_of}
use Rattle.mq_tables.specs.Sessions.{served_by, session_at, with_server}

abbrev pub emptied : HubConnection → HubConnection
emptied x = record x { waiting = [] }

pub still_lines : (k : Conn) (xs : List HubConnection) → with_connection (λ x. x) k xs ≡ xs
still_lines k [] = refl
still_lines k (x ∷ xs) = λ i. cond_both (is_connection k x) x x (λ (y : HubConnection). y ≡ x) (λ e. refl) (λ e. refl) i ∷ still_lines k xs i

-- ---- which bytes they are

pub output_found : (key : ℕ) (t : BrokerSession) (ts : List BrokerSession) → session_at key ts ≡ Some t → output_of key ts ≡ t.end.output
output_found key t [] there = absurd cc
output_found key t (s ∷ ts) there = go (eqb s.key key) refl (output_found key t ts)
  where
    go : (b : Bool) → eqb s.key key ≡ b → (session_at key ts ≡ Some t → output_of key ts ≡ t.end.output) → output_of key (s ∷ ts) ≡ t.end.output
    go true at rest =
        let w : Some s ≡ Some t = sym (cond-true (eqb s.key key) (Some s) (session_at key ts) at) ∙ there in
        let is : s ≡ t = cc in
        cond-true (eqb s.key key) s.end.output (output_of key ts) at ∙ ap (λ (u : BrokerSession). u.end.output) is
    go false at rest =
        cond-false (eqb s.key key) s.end.output (output_of key ts) at ∙ rest (sym (cond-false (eqb s.key key) (Some s) (session_at key ts) at) ∙ there)

pub served_twice : (key : ℕ) (d e : EndState) (ts : List BrokerSession) → with_server key e (with_server key d ts) ≡ with_server key e ts
served_twice key d e [] = refl
served_twice key d e (s ∷ ts) = go (eqb s.key key) refl (served_twice key d e ts)
  where
    go : (b : Bool) → eqb s.key key ≡ b → with_server key e (with_server key d ts) ≡ with_server key e ts → with_server key e (with_server key d (s ∷ ts)) ≡ with_server key e (s ∷ ts)
    go true at rest =
        ap₂ (λ (x : BrokerSession) (xs : List BrokerSession). x ∷ xs)
        (ap (served_by key e) (cond-true (eqb s.key key) (record s { end = d }) s at) ∙ cond-true (eqb s.key key) (record s { end = e }) (record s { end = d }) at
        ∙ sym (cond-true (eqb s.key key) (record s { end = e }) s at)) rest
    go false at rest = ap₂ (λ (x : BrokerSession) (xs : List BrokerSession). x ∷ xs) (ap (served_by key e) (cond-false (eqb s.key key) (record s { end = d }) s at)) rest
