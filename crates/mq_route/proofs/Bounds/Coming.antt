-- A step with bytes of a connection.
use Rattle.std.proofs.Common.{◌≡◌, inl, inr, ℕ, ◌+◌, ◌≤◌, Bool, true, false, not, ◌&&◌, cond, List, [], ◌∷◌, ◌++◌, length, Option, Some, None, refl, sym, ap, subst, ◌∙◌, arith}
use Rattle.std.proofs.lemmas.Bool.{cond_both}
use Rattle.std.proofs.lemmas.List.{length-append}
use Rattle.mq_wire.specs.Bytes.{AreBytes}
use Rattle.mq_packet.specs.declared.connack.ConnAck.TheVariants as connacks
use Rattle.mq_packet.specs.declared.connack.RefusalCode.TheVariants.{UnacceptableProtocolVersion}
use Rattle.mq_decode.specs.declared.fault.DecodeFault.{DecodeFault}
use Rattle.mq_decode.specs.Limits.{Bounds}
use Rattle.mq_decode.specs.Grammar.{Faulty, Pending}
use Rattle.mq_decode.specs.Laws.{PendingIsShort}
use Rattle.mq_decode.proofs.FieldLaws.{AreBytes-rest}
use Rattle.mq_end.specs.declared.reason.CloseReason.{CloseReason}
use Rattle.mq_end.specs.declared.reason.CloseReason.TheVariants as reasons
use Rattle.mq_end.specs.End.{End, closes, is_up}
use Rattle.mq_end.specs.Server.{level_refused}
use Rattle.mq_end.specs.State.{is_level, server_faulted}
use Rattle.mq_route.specs.declared.close.HubClose.TheVariants.{Own}
use Rattle.mq_route.specs.declared.conn.Conn.{Conn}
use Rattle.mq_route.specs.Hub.{HubState, HubConnection, is_connection, with_connection, held_on, stage_of, end_on}
use Rattle.mq_route.specs.Work.{Work, begin, put_on, close}
use Rattle.mq_route.specs.Arrives.{on_packet, closes_by, broken, on_malformed}
use Rattle.mq_route.specs.Step.{OnBytes, Arrives, Waits, Breaks, Starves, LetsGo, holding}
use Rattle.mq_route.specs.Bounds.Broker.{BrokerBounds}
use Rattle.mq_route.proofs.Bounds.Lengths.{read_size, connack_size}
use Rattle.mq_route.proofs.Bounds.Faults.{level_size}
use Rattle.mq_route.proofs.Bounds.Answers.{weight}
use Rattle.mq_route.proofs.Bounds.Broker.{Lets, Spends, written, takes_spends, close_spends, put_spends, then_, more, still}
use Rattle.mq_route.proofs.Bounds.Ends.{joined_bytes, both_true}

-- the held bytes, or none if the connection is not known
holds : (k : Conn) (b : List ℕ) (xs : List HubConnection) → Lets b (held_on k (with_connection (λ x. record x { held = b }) k xs))
holds k b [] = inr refl
holds k b (x ∷ xs) = by (holds k b xs) (is_connection k x) refl
  where
    clash : (c : Bool) → c ≡ true → c ≡ false → ⊥
    clash c t f = let e : true ≡ false = sym t ∙ f in cc

    by : Lets b (held_on k (with_connection (λ x. record x { held = b }) k xs)) → (c : Bool) → is_connection k x ≡ c
        → Lets b (cond (is_connection k (cond c (record x { held = b }) x)) (cond c (record x { held = b }) x).held (held_on k (with_connection (λ x. record x { held = b }) k xs)))
    by later true e = cond_both (is_connection k x) b (held_on k (with_connection (λ x. record x { held = b }) k xs)) (Lets b) (λ t. inl refl) (λ n. later)
    by later false e = cond_both (is_connection k x) x.held (held_on k (with_connection (λ x. record x { held = b }) k xs)) (Lets b) (λ t. absurd (clash (is_connection k x) t e)) (λ n. later)

-- ---- malformed bytes

level_weight : (e : End) → weight (level_refused e).out ≤ 4
level_weight e = let size = connack_size (connacks.Refused UnacceptableProtocolVersion) in omega arith

broken_weight : (limit : Bounds) (b : List ℕ) (fault : DecodeFault) (e : End) → Faulty limit b fault.kind fault.place → weight (server_faulted fault e).out ≤ length b
broken_weight limit b fault e bad =
    cond_both (not (is_up e.state) && is_level fault.kind) (level_refused e) (closes (reasons.Fault fault) e) (λ r. weight r.out ≤ length b)
    (λ t. let few = level_weight e in let size = level_size limit b fault.kind fault.place (both_true (not (is_up e.state)) (is_level fault.kind) t) bad in omega arith) (λ f. omega arith)

closes_by_spends : (k j : Conn) (why : Option CloseReason) (fits : Bool) (w : Work) → Spends k 0 w (closes_by j why fits w)
closes_by_spends k j None fits w = still k w
closes_by_spends k j (Some reason) fits w = close_spends k j (Own reason) fits w

breaks_spends : (limit : Bounds) (b : List ℕ) (k : Conn) (fault : DecodeFault) (fits : Bool) (w : Work) → Faulty limit b fault.kind fault.place → Spends k (length b) w (on_malformed k fault fits w)
unfolding on_malformed
breaks_spends limit b k fault fits w bad =
    let r = broken k fault w in
    let v = put_on k r.out w in
    let few = broken_weight limit b fault (end_on (stage_of k w.hub.connections) w.hub.sessions) bad in
    more k (weight r.out + 0) (length b) w (closes_by k r.close fits v) (omega arith) (then_ k (weight r.out) 0 w v (closes_by k r.close fits v) (put_spends k k r.out w) (closes_by_spends k k r.close fits v))

-- ---- all bytes

lets_size : (a b : List ℕ) → Lets a b → length b ≤ length a
lets_size a b (inl same) = let e = ap length same in omega arith
lets_size a b (inr none) = let e = ap length none in omega arith

lets_nothing : (a b : List ℕ) → a ≡ [] → Lets a b → b ≡ []
lets_nothing a b none (inl same) = same ∙ none
lets_nothing a b none (inr nothing) = nothing

-- bytes on a connection that holds none
comes_within : (limit : Bounds) (k : Conn) (b : List ℕ) (w v : Work) → held_on k w.hub.connections ≡ [] → OnBytes limit k b w v → written k v + length (held_on k v.hub.connections) ≤ written k w + length b
comes_within limit k b w v none (Arrives p first rest g w2 v2 here reads later) =
    let a = takes_spends k k p g w in
    let size = read_size limit.lenient p first reads.0 in
    let all = comes_within limit k rest (on_packet k p g w) v (lets_nothing (held_on k w.hub.connections) (held_on k (on_packet k p g w).hub.connections) none a.held) later in
    let parts = length-append first rest in
    let out = a.out in
    omega arith
comes_within limit k b w v none (Waits b2 w2 here pending) = let size = lets_size b (held_on k (holding k b w).hub.connections) (holds k b w.hub.connections) in omega arith
comes_within limit k b w v none (Breaks b2 fault fits w2 here bad) =
    let a = breaks_spends limit b k fault fits w bad in
    let size = ap length (lets_nothing (held_on k w.hub.connections) (held_on k (on_malformed k fault fits w).hub.connections) none a.held) in
    let out = a.out in
    omega arith
comes_within limit k b w v none (Starves b2 fits w2 here some) =
    let a = close_spends k k (Own reasons.Memory) fits w in
    let size = ap length (lets_nothing (held_on k w.hub.connections) (held_on k (close k (Own reasons.Memory) fits w).hub.connections) none a.held) in
    let out = a.out in
    omega arith
comes_within limit k b w v none (LetsGo b2 w2 shut) = let size = ap length none in omega arith

-- they are bytes, and at most five more than the limit
abbrev HeldWithin : Bounds → List ℕ → Type 0
HeldWithin limit b = AreBytes b × (length b ≤ 5 + limit.most)

nothing_held : (limit : Bounds) (b : List ℕ) → b ≡ [] → HeldWithin limit b
nothing_held limit b none = (subst AreBytes (sym none) (λ i. omega arith), let size = ap length none in omega arith)

waits_held : PendingIsShort → (limit : Bounds) (b c : List ℕ) → AreBytes b → Pending limit b → Lets b c → HeldWithin limit c
waits_held short limit b c bytes pending (inl same) = (subst AreBytes (sym same) bytes, let size = ap length same in let few = short limit b bytes pending in omega arith)
waits_held short limit b c bytes pending (inr none) = nothing_held limit c none

comes_held : PendingIsShort → (limit : Bounds) (k : Conn) (b : List ℕ) (w v : Work) → AreBytes b → held_on k w.hub.connections ≡ [] → OnBytes limit k b w v → HeldWithin limit (held_on k v.hub.connections)
comes_held short limit k b w v bytes none (Arrives p first rest g w2 v2 here reads later) =
    comes_held short limit k rest (on_packet k p g w) v (AreBytes-rest first rest bytes) (lets_nothing (held_on k w.hub.connections) (held_on k (on_packet k p g w).hub.connections) none (takes_spends k k p g w).held) later
comes_held short limit k b w v bytes none (Waits b2 w2 here pending) = waits_held short limit b (held_on k (holding k b w).hub.connections) bytes pending (holds k b w.hub.connections)
comes_held short limit k b w v bytes none (Breaks b2 fault fits w2 here bad) =
    nothing_held limit (held_on k (on_malformed k fault fits w).hub.connections) (lets_nothing (held_on k w.hub.connections) (held_on k (on_malformed k fault fits w).hub.connections) none (breaks_spends limit b k fault fits w bad).held)
comes_held short limit k b w v bytes none (Starves b2 fits w2 here some) =
    nothing_held limit (held_on k (close k (Own reasons.Memory) fits w).hub.connections)
    (lets_nothing (held_on k w.hub.connections) (held_on k (close k (Own reasons.Memory) fits w).hub.connections) none (close_spends k k (Own reasons.Memory) fits w).held)
comes_held short limit k b w v bytes none (LetsGo b2 w2 shut) = nothing_held limit (held_on k w.hub.connections) none

-- the step begins with no held bytes
emptied : (k : Conn) (h : HubState) → held_on k (holding k [] (begin h)).hub.connections ≡ []
emptied k h = by (holds k [] h.connections)
  where
    by : Lets [] (held_on k (holding k [] (begin h)).hub.connections) → held_on k (holding k [] (begin h)).hub.connections ≡ []
    by (inl same) = same
    by (inr none) = none

pub laws : PendingIsShort → BrokerBounds
laws short = record {
  answers = λ h k piece r w does.
      let all = comes_within h.config.limits k (held_on k h.connections ++ piece) (holding k [] (begin h)) w (emptied k h) does.0 in
      let parts = length-append (held_on k h.connections) piece in
      omega arith;
  held = λ h k piece r w does before bytes.
      comes_held short h.config.limits k (held_on k h.connections ++ piece) (holding k [] (begin h)) w (joined_bytes (held_on k h.connections) piece before bytes) (emptied k h) does.0;
}
