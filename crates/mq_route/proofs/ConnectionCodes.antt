-- The bytes of a connection determine all of it but its pending output.
use Rattle.std.proofs.Common.{◌≡◌, ℕ, Option, Some, None, List, [], ◌∷◌, ◌++◌, length, refl, sym, ap, ◌∙◌, append_assoc, arith}
use Rattle.mq_wire.specs.Number.{number}
use Rattle.mq_packet.specs.declared.connect.Will.{Will}
use Rattle.mq_packet.specs.Encoding.{bit}
use Rattle.mq_flow.specs.Saved.{count}
use Rattle.mq_route.specs.declared.connection_state.ConnectionTerms.{ConnectionTerms}
use Rattle.mq_route.specs.declared.connection_state.ConnectionState.{ConnectionState}
use Rattle.mq_route.specs.declared.connection_state.ConnectionState.TheVariants.{AwaitingConnect, ConnectedAs, Closed}
use Rattle.mq_route.specs.Copies.{will_message}
use Rattle.mq_route.specs.Hub.{HubConnection}
use Rattle.mq_route.specs.Snapshot.{eight, quieted, saved_connection, saved_message, saved_state, saved_will}
use Rattle.mq_route.proofs.Codes.{bit_is, cons_parts, count_code, eight_code, fronts, message_code, number_code}

-- bytes with different first bytes differ
other_tag : (m n : ℕ) (xs ys : List ℕ) → (m ≡ n → ⊥) → m ∷ xs ≡ n ∷ ys → ⊥
other_tag m n xs ys differ e = differ (cons_parts m n xs ys e).0

-- ---- states

will_code : (v w : Option Will) (r s : List ℕ) → saved_will v ++ r ≡ saved_will w ++ s → (v ≡ w) × (r ≡ s)
unfolding saved_will
will_code None None r s e = (refl, (cons_parts 0 0 r s e).1)
will_code None (Some w) r s e = absurd (other_tag 0 1 r (saved_message (will_message w) ++ s) (λ f. omega arith) e)
will_code (Some v) None r s e = absurd (other_tag 1 0 (saved_message (will_message v) ++ r) s (λ f. omega arith) e)
will_code (Some v) (Some w) r s e =
    let parts = cons_parts 1 1 (saved_message (will_message v) ++ r) (saved_message (will_message w) ++ s) e in
    let message = message_code (will_message v) (will_message w) r s parts.1 in
    (λ i. Some (record { topic = (message.0 i).topic; message = (message.0 i).payload; qos = (message.0 i).qos; retain = (message.0 i).retain }), message.1)

abbrev saved_terms : ConnectionTerms → List ℕ
saved_terms t = bit t.clean_session ∷ (number t.keep_alive ++ saved_will t.will)

terms_code : (t u : ConnectionTerms) (r s : List ℕ) → saved_terms t ++ r ≡ saved_terms u ++ s → (t ≡ u) × (r ≡ s)
terms_code t u r s e =
    let first = cons_parts (bit t.clean_session) (bit u.clean_session) ((number t.keep_alive ++ saved_will t.will) ++ r) ((number u.keep_alive ++ saved_will u.will) ++ s) e in
    let keep_alive = number_code t.keep_alive u.keep_alive (saved_will t.will ++ r) (saved_will u.will ++ s)
    (sym (append_assoc (number t.keep_alive) (saved_will t.will) r) ∙ first.1 ∙ append_assoc (number u.keep_alive) (saved_will u.will) s) in
    let will = will_code t.will u.will r s keep_alive.1 in
    let clean = bit_is t.clean_session u.clean_session first.0 in
    (λ i. record { clean_session = clean i; keep_alive = keep_alive.0 i; will = will.0 i }, will.1)

-- a connected client: its key, the time of its last packet, its terms
abbrev saved_client : ℕ → ConnectionTerms → ℕ → List ℕ
saved_client key terms last_activity = count key ++ (eight last_activity ++ saved_terms terms)

client_code : (key other : ℕ) (t u : ConnectionTerms) (m n : ℕ) (r s : List ℕ) → saved_client key t m ++ r ≡ saved_client other u n ++ s → (ConnectedAs key t m ≡ ConnectedAs other u n) × (r ≡ s)
client_code key other t u m n r s e =
    let flat : (k : ℕ) (v : ConnectionTerms) (l : ℕ) (w : List ℕ) → saved_client k v l ++ w ≡ count k ++ (eight l ++ (saved_terms v ++ w))
    = λ k v l w. append_assoc (count k) (eight l ++ saved_terms v) w ∙ ap (λ (x : List ℕ). count k ++ x) (append_assoc (eight l) (saved_terms v) w) in
    let client = count_code key other (eight m ++ (saved_terms t ++ r)) (eight n ++ (saved_terms u ++ s)) (sym (flat key t m r) ∙ e ∙ flat other u n s) in
    let last_activity = eight_code m n (saved_terms t ++ r) (saved_terms u ++ s) client.1 in
    let terms = terms_code t u r s last_activity.1 in
    (λ i. ConnectedAs (client.0 i) (terms.0 i) (last_activity.0 i), terms.1)

state_code : (x y : ConnectionState) (r s : List ℕ) → saved_state x ++ r ≡ saved_state y ++ s → (x ≡ y) × (r ≡ s)
unfolding saved_state
state_code AwaitingConnect AwaitingConnect r s e = (refl, (cons_parts 0 0 r s e).1)
state_code AwaitingConnect (ConnectedAs other u n) r s e = absurd (other_tag 0 1 r (saved_client other u n ++ s) (λ f. omega arith) e)
state_code AwaitingConnect Closed r s e = absurd (other_tag 0 2 r s (λ f. omega arith) e)
state_code (ConnectedAs key t m) AwaitingConnect r s e = absurd (other_tag 1 0 (saved_client key t m ++ r) s (λ f. omega arith) e)
state_code (ConnectedAs key t m) (ConnectedAs other u n) r s e =
    client_code key other t u m n r s (cons_parts 1 1 (saved_client key t m ++ r) (saved_client other u n ++ s) e).1
state_code (ConnectedAs key t m) Closed r s e = absurd (other_tag 1 2 (saved_client key t m ++ r) s (λ f. omega arith) e)
state_code Closed AwaitingConnect r s e = absurd (other_tag 2 0 r s (λ f. omega arith) e)
state_code Closed (ConnectedAs other u n) r s e = absurd (other_tag 2 1 r (saved_client other u n ++ s) (λ f. omega arith) e)
state_code Closed Closed r s e = (refl, (cons_parts 2 2 r s e).1)

-- ---- connections

-- connections without pending output
pub connection_code : (x y : HubConnection) (r s : List ℕ) → x.waiting ≡ [] → y.waiting ≡ [] → saved_connection x ++ r ≡ saved_connection y ++ s → (x ≡ y) × (r ≡ s)
unfolding saved_connection
connection_code x y r s p q e =
    let behind : HubConnection → List ℕ → List ℕ = λ z t. eight (length z.held) ++ (z.held ++ t) in
    let flat : (z : HubConnection) (t : List ℕ) → saved_connection z ++ t ≡ number z.conn.worker ++ (count z.conn.nth ++ (eight z.since ++ (saved_state z.stage ++ behind z t)))
    = λ z t.
    let held = eight (length z.held) ++ z.held in
    append_assoc (number z.conn.worker) (count z.conn.nth ++ (eight z.since ++ (saved_state z.stage ++ held))) t
    ∙ ap (λ (u : List ℕ). number z.conn.worker ++ u) (append_assoc (count z.conn.nth) (eight z.since ++ (saved_state z.stage ++ held)) t
    ∙ ap (λ (u : List ℕ). count z.conn.nth ++ u) (append_assoc (eight z.since) (saved_state z.stage ++ held) t
    ∙ ap (λ (u : List ℕ). eight z.since ++ u) (append_assoc (saved_state z.stage) held t
    ∙ ap (λ (u : List ℕ). saved_state z.stage ++ u) (append_assoc (eight (length z.held)) z.held t)))) in
    let worker = number_code x.conn.worker y.conn.worker _ _ (sym (flat x r) ∙ e ∙ flat y s) in
    let nth = count_code x.conn.nth y.conn.nth (eight x.since ++ (saved_state x.stage ++ behind x r)) (eight y.since ++ (saved_state y.stage ++ behind y s)) worker.1 in
    let since = eight_code x.since y.since (saved_state x.stage ++ behind x r) (saved_state y.stage ++ behind y s) nth.1 in
    let state = state_code x.stage y.stage (behind x r) (behind y s) since.1 in
    let size = eight_code (length x.held) (length y.held) (x.held ++ r) (y.held ++ s) state.1 in
    let held = fronts x.held y.held r s size.0 size.1 in
    let waiting = p ∙ sym q in
    (λ i. record { conn = record { worker = worker.0 i; nth = nth.0 i }; stage = state.0 i; held = held.0 i; waiting = waiting i; since = since.0 i }, held.1)

-- the pending output is not stored
pub connection_again : (x : HubConnection) → saved_connection (quieted x) ≡ saved_connection x
unfolding saved_connection
connection_again x = refl
