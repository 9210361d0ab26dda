-- Names of connections, and connections that a broker does not know.
use Rattle.std.proofs.Common.{◌≡◌, ◌∙◌, ◌&&◌, Bool, true, false, cond, List, [], ◌∷◌, Some, None, eqb, eqb-true, eq-eqb, refl}
use Rattle.std.proofs.lemmas.Bool.{and_parts, cond-false, or_parts}
use Rattle.mq_route.specs.declared.conn.Conn.{Conn}
use Rattle.mq_route.specs.declared.connection_state.ConnectionState.TheVariants.{Closed}
use Rattle.mq_route.specs.declared.event.HubEvent.TheVariants.{Opened}
use Rattle.mq_route.specs.declared.refusal.HubRefusal.TheVariants as refusals
use Rattle.mq_route.specs.Hub.{HubConnection, HubState, is_connection, knows, stage_of}
use Rattle.mq_route.specs.Routed.{same_conn}
use Rattle.mq_route.specs.Step.{event_refusal}

pub one_conn : (a b : Conn) → same_conn a b ≡ true → a ≡ b
one_conn a b e =
    let p = and_parts (eqb a.worker b.worker) (eqb a.nth b.nth) e in
    λ i. record { worker = eqb-true a.worker b.worker p.0 i; nth = eqb-true a.nth b.nth p.1 i }

pub same_conn-itself : (a : Conn) → same_conn a a ≡ true
same_conn-itself a = λ i. eq-eqb a.worker a.worker refl i && eq-eqb a.nth a.nth refl i

-- an unknown connection is closed
pub unknown_shut : (k : Conn) (xs : List HubConnection) → knows k xs ≡ false → stage_of k xs ≡ Closed
unknown_shut k [] h = refl
unknown_shut k (x ∷ xs) h =
    let p = or_parts (is_connection k x) (knows k xs) h in
    cond-false (is_connection k x) x.stage (stage_of k xs) p.0 ∙ unknown_shut k xs p.1

-- a connection that may be opened is not known
pub not_known : (k : Conn) (h : HubState) → event_refusal (Opened k) h ≡ None → knows k h.connections ≡ false
not_known k h e = go (knows k h.connections) e
  where
    go : (b : Bool) → cond b (Some refusals.ConnInUse) None ≡ None → b ≡ false
    go true e = absurd cc
    go false e = refl
