-- The length of a connection's pending output.
use Rattle.std.proofs.Common.{◌≡◌, ℕ, Bool, true, false, List, [], ◌∷◌, Some, None, refl, sym, ◌∙◌, eqb}
use Rattle.std.proofs.lemmas.Bool.{cond-true, cond-false, or_parts}
use Rattle.mq_route.specs.declared.conn.Conn.{Conn}
use Rattle.mq_route.specs.Hub.{HubConnection, is_connection, knows, waiting_on}
use Rattle.mq_tables.specs.declared.sessions.session.BrokerSession.{BrokerSession}
use Rattle.mq_tables.specs.Sessions.{session_at}
use Rattle.mq_tables.specs.Output.{output_of}

some_none : {X : Type 0} {x : X} → Some x ≡ None → ⊥
some_none e = absurd cc

-- a key without a session has no output
pub output_none : (key : ℕ) (ts : List BrokerSession) → session_at key ts ≡ None → output_of key ts ≡ []
output_none key [] none = refl
output_none key (t ∷ ts) none = go (eqb t.key key) refl (output_none key ts)
  where
    go : (b : Bool) → (eqb t.key key) ≡ b → (session_at key ts ≡ None → output_of key ts ≡ []) → output_of key (t ∷ ts) ≡ []
    go true e rest = absurd (some_none (sym (cond-true (eqb t.key key) (Some t) (session_at key ts) e) ∙ none))
    go false e rest = cond-false (eqb t.key key) t.end.output (output_of key ts) e ∙ rest (sym (cond-false (eqb t.key key) (Some t) (session_at key ts) e) ∙ none)

-- nor has an unknown connection
pub unknown_waits : (k : Conn) (xs : List HubConnection) → knows k xs ≡ false → waiting_on k xs ≡ []
unknown_waits k [] none = refl
unknown_waits k (x ∷ xs) none =
    let parts = or_parts (is_connection k x) (knows k xs) none in
    cond-false (is_connection k x) x.waiting (waiting_on k xs) parts.0 ∙ unknown_waits k xs parts.1
