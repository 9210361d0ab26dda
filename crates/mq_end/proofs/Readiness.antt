-- An end that is ready for messages stays ready.
use Rattle.std.proofs.Common.{◌≡◌, ℕ, ◌+◌, ◌-◌, ◌≤◌, Bool, true, false, not, ◌&&◌, ◌||◌, cond, ltb, leb, eqb, List, [], ◌∷◌, ◌++◌, map, length, filter, Option, Some, None, refl, ap, ◌∙◌, arith}
use Rattle.std.specs.List.{list_any}
use Rattle.std.proofs.lemmas.Bool.{ltb-false, le-ltb, lt-leb}
use Rattle.std.proofs.lemmas.List.{length-append, length-map}
use Rattle.mq_topic.specs.declared.qos.Qos.{Qos}
use Rattle.mq_topic.specs.declared.qos.Qos.TheVariants.{Q0, Q1, Q2}
use Rattle.mq_packet.specs.declared.message.Message.{Message}
use Rattle.mq_packet.specs.declared.publish.Delivery.{Delivery}
use Rattle.mq_packet.specs.declared.packet.Packet.{Packet}
use Rattle.mq_packet.specs.declared.packet.Packet.TheVariants as packets
use Rattle.mq_flow.specs.declared.entry.SenderEntry.{SenderEntry}
use Rattle.mq_flow.specs.declared.claim.Claimed.{Claimed}
use Rattle.mq_flow.specs.Sender.{SenderBook, uses, accept, is_awaited, is_full, same_qos, without_entry, on_puback, on_pubrec, on_pubcomp}
use Rattle.mq_flow.specs.Window.{fits_window}
use Rattle.mq_end.specs.declared.state.State.{State}
use Rattle.mq_end.specs.declared.state.State.TheVariants.{Disconnected, Connecting, Connected}
use Rattle.mq_end.specs.declared.reason.CloseReason.{CloseReason}
use Rattle.mq_end.specs.declared.reason.CloseReason.TheVariants as reasons
use Rattle.mq_end.specs.declared.refusal.PublishRefusal.{PublishRefusal}
use Rattle.mq_end.specs.declared.refusal.PublishRefusal.TheVariants as refusals
use Rattle.mq_end.specs.End.{End, is_up, closes}
use Rattle.mq_end.specs.Both.{has_identifier, publishes, publishes_at, publish_refusal, flow_gets, publish_gets, stores}
use Rattle.mq_end.specs.Sizes.{publish_size}
use Rattle.mq_end.specs.Server.{ready_refusal, server_publish_refusal, server_up_gets, server_gets_in, server_gets}
use Rattle.mq_end.specs.ReadyLaws.{ReadyLaws}
use Rattle.mq_end.proofs.Soundness.{last_of}

-- ---- the tests

no_refusal : (x : PublishRefusal) → Some x ≡ None → ⊥
no_refusal x h = cc

four : (a b c d : Bool) (w x y z : PublishRefusal) → cond a (Some w) (cond b (Some x) (cond c (Some y) (cond d (Some z) None))) ≡ None → (a ≡ false) × (b ≡ false) × (c ≡ false) × (d ≡ false)
four true b c d w x y z h = absurd (no_refusal w h)
four false b c d w x y z h = let t = three b c d x y z h in (refl, t.0, t.1, t.2)
  where
    three : (b c d : Bool) (x y z : PublishRefusal) → cond b (Some x) (cond c (Some y) (cond d (Some z) None)) ≡ None → (b ≡ false) × (c ≡ false) × (d ≡ false)
    three b c d x y z h = last_of b c d x y z h

four_none : (a b c d : Bool) (w x y z : PublishRefusal) → a ≡ false → b ≡ false → c ≡ false → d ≡ false → cond a (Some w) (cond b (Some x) (cond c (Some y) (cond d (Some z) None))) ≡ None
four_none a b c d w x y z p q r s =
    ap (λ (t : Bool). cond t (Some w) (cond b (Some x) (cond c (Some y) (cond d (Some z) None)))) p
    ∙ ap (λ (t : Bool). cond t (Some x) (cond c (Some y) (cond d (Some z) None))) q
    ∙ ap (λ (t : Bool). cond t (Some y) (cond d (Some z) None)) r
    ∙ ap (λ (t : Bool). cond t (Some z) None) s

first_of : (a b : Bool) → (a || b) ≡ false → a ≡ false
first_of true b h = absurd cc
first_of false b h = refl

second_of : (a b : Bool) → (a || b) ≡ false → b ≡ false
second_of true b h = absurd cc
second_of false b h = h

-- the four tests of an end that is ready
tests : (limit capacity : ℕ) (ms : List Message) (e : End) → ready_refusal limit capacity ms e ≡ None
    → (list_any (λ m. not e.known) ms ≡ false) × (list_any (λ m. not (has_identifier m.qos) && not (is_up e.state)) ms ≡ false) × (list_any (λ m. ltb limit (publish_size m)) ms ≡ false)
    × (ltb (capacity - length (uses e.book)) (length (filter (λ m. has_identifier m.qos) ms)) ≡ false)
tests limit capacity ms e h =
    four (list_any (λ m. not e.known) ms) (list_any (λ m. not (has_identifier m.qos) && not (is_up e.state)) ms) (list_any (λ m. ltb limit (publish_size m)) ms)
    (ltb (capacity - length (uses e.book)) (length (filter (λ m. has_identifier m.qos) ms))) refusals.NoSession refusals.NotConnected refusals.TooLarge refusals.Full h

-- an end like one that is ready, in which there is room for the messages
like_ready : (limit capacity : ℕ) (ms : List Message) (e f : End) → f.known ≡ e.known → f.state ≡ e.state → list_any (λ m. not e.known) ms ≡ false → list_any (λ m. not (has_identifier m.qos) && not (is_up e.state)) ms ≡ false
    → list_any (λ m. ltb limit (publish_size m)) ms ≡ false → length (filter (λ m. has_identifier m.qos) ms) ≤ capacity - length (uses f.book) → ready_refusal limit capacity ms f ≡ None
like_ready limit capacity ms e f known state a b c room =
    four_none (list_any (λ m. not f.known) ms) (list_any (λ m. not (has_identifier m.qos) && not (is_up f.state)) ms) (list_any (λ m. ltb limit (publish_size m)) ms)
    (ltb (capacity - length (uses f.book)) (length (filter (λ m. has_identifier m.qos) ms))) refusals.NoSession refusals.NotConnected refusals.TooLarge refusals.Full
    (ap (λ (k : Bool). list_any (λ m. not k) ms) known ∙ a) (ap (λ (s : State). list_any (λ m. not (has_identifier m.qos) && not (is_up s)) ms) state ∙ b) c
    (le-ltb (capacity - length (uses f.book)) (length (filter (λ m. has_identifier m.qos) ms)) room)

-- An end in which no more identifiers are in use than before.
pub fewer_ready : (limit capacity : ℕ) (ms : List Message) (e f : End) → f.known ≡ e.known → f.state ≡ e.state → length (uses f.book) ≤ length (uses e.book) → ready_refusal limit capacity ms e ≡ None → ready_refusal limit capacity ms f ≡ None
fewer_ready limit capacity ms e f known state few h =
    let t = tests limit capacity ms e h in
    let room = ltb-false (capacity - length (uses e.book)) (length (filter (λ m. has_identifier m.qos) ms)) t.3 in
    like_ready limit capacity ms e f known state t.0 t.1 t.2 (omega arith)

-- ---- one of the messages

not_not : (b : Bool) → not b ≡ false → b ≡ true
not_not true h = refl
not_not false h = absurd cc

room_for_one : (has : Bool) (m : Message) (rest : List Message) (capacity used : ℕ) → length (cond has (m ∷ rest) rest) ≤ capacity - used → (has && leb capacity used) ≡ false
room_for_one true m rest capacity used h = lt-leb capacity used (omega arith)
room_for_one false m rest capacity used h = refl

first_accepted : (limit capacity : ℕ) (m : Message) (ms : List Message) (e : End) → ready_refusal limit capacity (m ∷ ms) e ≡ None → server_publish_refusal limit capacity m e ≡ None
first_accepted limit capacity m ms e h =
    let t = tests limit capacity (m ∷ ms) e h in
    let known = not_not e.known (first_of (not e.known) (list_any (λ m. not e.known) ms) t.0) in
    let up = first_of (not (has_identifier m.qos) && not (is_up e.state)) (list_any (λ m. not (has_identifier m.qos) && not (is_up e.state)) ms) t.1 in
    let size = first_of (ltb limit (publish_size m)) (list_any (λ m. ltb limit (publish_size m)) ms) t.2 in
    let room = ltb-false (capacity - length (uses e.book)) (length (filter (λ m. has_identifier m.qos) (m ∷ ms))) t.3 in
    let full = room_for_one (has_identifier m.qos) m (filter (λ m. has_identifier m.qos) ms) capacity (length (uses e.book)) room in
    ap (λ (k : Bool). cond k (publish_refusal limit capacity m e) (Some refusals.NoSession)) known
    ∙ ap (λ (t : Bool). cond t (Some refusals.NotConnected) (cond (ltb limit (publish_size m)) (Some refusals.TooLarge) (cond (has_identifier m.qos && is_full capacity e.book) (Some refusals.Full) None))) up
    ∙ ap (λ (t : Bool). cond t (Some refusals.TooLarge) (cond (has_identifier m.qos && is_full capacity e.book) (Some refusals.Full) None)) size
    ∙ ap (λ (t : Bool). cond t (Some refusals.Full) None) full

length_uses : (b : SenderBook) → length (uses b) ≡ length b.entries + (length b.released + length b.claimed)
length_uses b =
    let e = length-map b.entries (λ (e : SenderEntry). e.id) in
    let c = length-map b.claimed (λ (c : Claimed). c.id) in
    let whole = length-append (map (λ (e : SenderEntry). e.id) b.entries) (b.released ++ map (λ (c : Claimed). c.id) b.claimed) in
    let back = length-append b.released (map (λ (c : Claimed). c.id) b.claimed) in
    omega arith

one_more_use : (i : ℕ) (m : Message) (sent : Bool) (b : SenderBook) → length (uses (accept i m sent b)) ≡ length (uses b) + 1
one_more_use i m sent b =
    let new = length_uses (accept i m sent b) in
    let old = length_uses b in
    let more = length-append b.entries (record { id = i; message = m; sent = sent } ∷ []) in
    omega arith

published_uses : (q : Qos) (i : ℕ) (m : Message) (e : End) → length (uses (publishes_at q i m e).end.book) ≡ length (uses e.book) + cond (has_identifier q) 1 0
published_uses Q0 i m e = omega arith
published_uses Q1 i m e = one_more_use i m (is_up e.state) e.book
published_uses Q2 i m e = one_more_use i m (is_up e.state) e.book

published_known : (q : Qos) (i : ℕ) (m : Message) (e : End) → (publishes_at q i m e).end.known ≡ e.known
published_known Q0 i m e = refl
published_known Q1 i m e = refl
published_known Q2 i m e = refl

published_state : (q : Qos) (i : ℕ) (m : Message) (e : End) → (publishes_at q i m e).end.state ≡ e.state
published_state Q0 i m e = refl
published_state Q1 i m e = refl
published_state Q2 i m e = refl

room_for_rest : (has : Bool) (m : Message) (rest : List Message) (capacity used after : ℕ) → after ≡ used + cond has 1 0 → length (cond has (m ∷ rest) rest) ≤ capacity - used → length rest ≤ capacity - after
room_for_rest true m rest capacity used after e h = omega arith
room_for_rest false m rest capacity used after e h = omega arith

others_ready : (limit capacity i : ℕ) (m : Message) (ms : List Message) (e : End) → ready_refusal limit capacity (m ∷ ms) e ≡ None → ready_refusal limit capacity ms (publishes i m e).end ≡ None
others_ready limit capacity i m ms e h =
    let t = tests limit capacity (m ∷ ms) e h in
    let room = ltb-false (capacity - length (uses e.book)) (length (filter (λ m. has_identifier m.qos) (m ∷ ms))) t.3 in
    like_ready limit capacity ms e (publishes i m e).end (published_known m.qos i m e) (published_state m.qos i m e) (second_of (not e.known) (list_any (λ m. not e.known) ms) t.0)
    (second_of (not (has_identifier m.qos) && not (is_up e.state)) (list_any (λ m. not (has_identifier m.qos) && not (is_up e.state)) ms) t.1) (second_of (ltb limit (publish_size m)) (list_any (λ m. ltb limit (publish_size m)) ms) t.2)
    (room_for_rest (has_identifier m.qos) m (filter (λ m. has_identifier m.qos) ms) capacity (length (uses e.book)) (length (uses (publishes i m e).end.book)) (published_uses m.qos i m e) room)

-- ---- acknowledgements

filter_fewer : {A : Type 0} (p : A → Bool) (xs : List A) → length (filter p xs) ≤ length xs
filter_fewer p [] = omega arith
filter_fewer p (x ∷ xs) = by (p x) (filter_fewer p xs)
  where
    by : (b : Bool) → length (filter p xs) ≤ length xs → length (cond b (x ∷ filter p xs) (filter p xs)) ≤ length (x ∷ xs)
    by true h = omega arith
    by false h = omega arith

-- A pending message is removed.
awaited_out : (q : Qos) (i : ℕ) (es : List SenderEntry) → is_awaited q i es ≡ true → length (without_entry i es) + 1 ≤ length es
awaited_out q i [] h = absurd cc
awaited_out q i (e ∷ es) h = by (same_qos q e.message.qos) (eqb e.id i) e.sent (λ k. awaited_out q i es k) h
  where
    by : (a b s : Bool) → (is_awaited q i es ≡ true → length (without_entry i es) + 1 ≤ length es) → ((a && (b && s)) || is_awaited q i es) ≡ true → length (cond (not b) (e ∷ without_entry i es) (without_entry i es)) + 1 ≤ length (e ∷ es)
    by a true s rest k = let few = filter_fewer (λ (e : SenderEntry). not (eqb e.id i)) es in omega arith
    by true false s rest k = let less = rest k in omega arith
    by false false s rest k = let less = rest k in omega arith

puback_uses : (i : ℕ) (b : SenderBook) → length (uses (on_puback i b)) ≤ length (uses b)
puback_uses i b =
    let new = length_uses (on_puback i b) in
    let old = length_uses b in
    let few : length (on_puback i b).entries ≤ length b.entries = by (is_awaited Q1 i b.entries) in
    omega arith
  where
    by : (t : Bool) → length (cond t (without_entry i b.entries) b.entries) ≤ length b.entries
    by true = filter_fewer (λ (e : SenderEntry). not (eqb e.id i)) b.entries
    by false = omega arith

pubrec_uses : (i : ℕ) (b : SenderBook) → length (uses (on_pubrec i b)) ≤ length (uses b)
pubrec_uses i b =
    let new = length_uses (on_pubrec i b) in
    let old = length_uses b in
    let few : length (on_pubrec i b).entries + length (on_pubrec i b).released ≤ length b.entries + length b.released = by (is_awaited Q2 i b.entries) refl in
    omega arith
  where
    by : (t : Bool) → is_awaited Q2 i b.entries ≡ t → length (cond t (without_entry i b.entries) b.entries) + length (cond t (b.released ++ i ∷ []) b.released) ≤ length b.entries + length b.released
    by true is =
        let less = awaited_out Q2 i b.entries is in
        let more = length-append b.released (i ∷ []) in
        omega arith
    by false is = omega arith

pubcomp_uses : (i : ℕ) (b : SenderBook) → length (uses (on_pubcomp i b)) ≤ length (uses b)
pubcomp_uses i b =
    let new = length_uses (on_pubcomp i b) in
    let old = length_uses b in
    let few = filter_fewer (λ (j : ℕ). not (eqb j i)) b.released in
    omega arith

-- ---- any packet that does not close the end

-- The invariant of an end that is ready.
record Keeps (e f : End) : Type 0 where
  known : f.known ≡ e.known
  state : f.state ≡ e.state
  uses : length (uses f.book) ≤ length (uses e.book)

same_end : (e : End) → Keeps e e
same_end e = record { known = refl; state = refl; uses = omega arith }

goes_on : (reason : CloseReason) → Some reason ≡ None → ⊥
goes_on reason h = cc

published_to : (q : Qos) (d : Option Delivery) (m : Message) (e : End) → (publish_gets q d m e).close ≡ None → Keeps e (publish_gets q d m e).end
published_to Q0 None m e h = same_end e
published_to Q0 (Some d) m e h = absurd (goes_on reasons.Unexpected h)
published_to Q1 None m e h = absurd (goes_on reasons.Unexpected h)
published_to Q1 (Some d) m e h = same_end e
published_to Q2 None m e h = absurd (goes_on reasons.Unexpected h)
published_to Q2 (Some d) m e h = by (fits_window e.window d.id e.received) h
  where
    by : (fits : Bool) → (cond fits (stores d.id m e) (closes reasons.Window e)).close ≡ None → Keeps e (cond fits (stores d.id m e) (closes reasons.Window e)).end
    by true k = record { known = refl; state = refl; uses = omega arith }
    by false k = absurd (goes_on reasons.Window k)

flow_keeps : (p : Packet) (e : End) → (flow_gets p e).close ≡ None → Keeps e (flow_gets p e).end
flow_keeps (packets.Publish p) e h = published_to p.message.qos p.delivery p.message e h
flow_keeps (packets.PubAck i) e h = record { known = refl; state = refl; uses = puback_uses i e.book }
flow_keeps (packets.PubRec i) e h = record { known = refl; state = refl; uses = pubrec_uses i e.book }
flow_keeps (packets.PubRel i) e h = record { known = refl; state = refl; uses = omega arith }
flow_keeps (packets.PubComp i) e h = record { known = refl; state = refl; uses = pubcomp_uses i e.book }
flow_keeps p e h = absurd (goes_on reasons.Unexpected h)

up_keeps : (p : Packet) (e : End) → (server_up_gets p e).close ≡ None → Keeps e (server_up_gets p e).end
up_keeps (packets.Subscribe i requests) e h = same_end e
up_keeps (packets.Unsubscribe i filters) e h = same_end e
up_keeps packets.PingReq e h = same_end e
up_keeps packets.Disconnect e h = absurd (goes_on reasons.Left h)
up_keeps p e h = flow_keeps p e h

gets_keeps : (s : State) (p : Packet) (e : End) → is_up s ≡ true → (server_gets_in s p e).close ≡ None → Keeps e (server_gets_in s p e).end
gets_keeps Disconnected p e up h = absurd cc
gets_keeps Connecting p e up h = absurd cc
gets_keeps Connected p e up h = up_keeps p e h

pub laws : ReadyLaws
laws = record {
  first = first_accepted;
  others = others_ready;
  taken = λ limit capacity p ms e up going h.
      let k = gets_keeps e.state p e up going in
      fewer_ready limit capacity ms e (server_gets p e).end k.known k.state k.uses h;
}
