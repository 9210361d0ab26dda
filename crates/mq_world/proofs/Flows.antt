-- A packet of a message flow arrives at a connected side.
use Rattle.std.proofs.Common.{◌≡◌, ℕ, Bool, true, false, cond, not, Option, Some, None, List, [], ◌∷◌, ◌++◌, refl, sym, ap, subst, ◌∙◌, arith}
use Rattle.std.proofs.lemmas.Bool.{cond_both}
use Rattle.std.specs.FinSet as FinSet
use Rattle.mq_topic.specs.declared.qos.Qos.{Qos}
use Rattle.mq_topic.specs.declared.qos.Qos.TheVariants.{Q0, Q1, Q2}
use Rattle.mq_packet.specs.declared.message.Message.{Message}
use Rattle.mq_packet.specs.declared.publish.Delivery.{Delivery}
use Rattle.mq_packet.specs.declared.packet.Packet.{Packet}
use Rattle.mq_packet.specs.declared.packet.Packet.TheVariants as packets
use Rattle.mq_flow.specs.declared.entry.SenderEntry.{SenderEntry}
use Rattle.mq_flow.specs.Sender.{SenderBook, times, held, is_awaited, without, without_entry}
use Rattle.mq_flow.specs.Window.{fits_window}
use Rattle.mq_flow.specs.Laws.{IsSound}
use Rattle.mq_flow.proofs.Books.{laws as books, times_uses}
use Rattle.mq_flow.proofs.Counting.{times_same, without_first}
use Rattle.mq_end.specs.declared.state.State.TheVariants.{Connected}
use Rattle.mq_end.specs.declared.happening.Happening.TheVariants as happens
use Rattle.mq_end.specs.declared.reason.CloseReason.TheVariants as reasons
use Rattle.mq_end.specs.End.{Reply, closes}
use Rattle.mq_end.specs.Both.{stores, publish_gets, flow_gets}
use Rattle.mq_world.specs.Half.{Half, joined, put, took, last_place}
use Rattle.mq_world.proofs.Lists.{each_filter, ids, without_pair, pair_absent, pair_first, held_without, first_awaited}
use Rattle.mq_world.proofs.Second.{Second}
use Rattle.mq_world.proofs.Second as second
use Rattle.mq_world.proofs.First.{First, Zeroth, zeroth_takes}
use Rattle.mq_world.proofs.First as first
use Rattle.mq_world.proofs.Queues.{answers, flight, same_answers, same_flight, puback_joins, pubrec_joins, pubcomp_joins, pubrel_joins}
use Rattle.mq_world.proofs.Both.{IsSent, IsHeld, Both, finish, upon, once_of, once_first, apart, close_keeps}

-- The invariant that the arrival of a packet keeps.
abbrev pub Keeps : ℕ → Half → List Packet → Half → Reply → Type 0
Keeps capacity x rest y r = Both capacity (took x rest r).half (put r.out y)

closes_keeps : (capacity : ℕ) (h y : Half) (p : Packet) (rest : List Packet) → Both capacity (upon h Connected (p ∷ rest)) y
    → Keeps capacity (upon h Connected (p ∷ rest)) rest y (closes reasons.Unexpected (upon h Connected (p ∷ rest)).end)
closes_keeps capacity h y p rest b = close_keeps capacity h y Connected (p ∷ rest) rest [] None refl refl tt b

-- ---- PUBLISH

publish_0 : (capacity : ℕ) (h y : Half) (m : Message) (rest : List Packet)
    → Both capacity (upon h Connected (packets.Publish (record { message = record m { qos = Q0 }; delivery = None }) ∷ rest)) y
    → Keeps capacity (upon h Connected (packets.Publish (record { message = record m { qos = Q0 }; delivery = None }) ∷ rest)) rest y
    (publish_gets Q0 None (record m { qos = Q0 }) (upon h Connected rest).end)
publish_0 capacity h y m rest b =
    finish capacity _ y (took (upon h Connected rest) rest (publish_gets Q0 None (record m { qos = Q0 }) (upon h Connected rest).end)).half [] (answers y.coming)
    (flight y.coming) (same_answers y.end.state y.coming [] refl) (same_flight y.end.state y.coming [] refl)
    b.to_y
    (b.to_x.0, b.to_x.1, zeroth_takes _ _ _ (record m { qos = Q0 }) b.to_x.2)
    b.own_x
    refl
    b.queue_x.1
    tt
    b

publish_1 : (capacity : ℕ) (h y : Half) (m : Message) (d : Delivery) (rest : List Packet)
    → Both capacity (upon h Connected (packets.Publish (record { message = record m { qos = Q1 }; delivery = Some d }) ∷ rest)) y
    → Keeps capacity (upon h Connected (packets.Publish (record { message = record m { qos = Q1 }; delivery = Some d }) ∷ rest)) rest y
    (publish_gets Q1 (Some d) (record m { qos = Q1 }) (upon h Connected rest).end)
publish_1 capacity h y m d rest b =
    finish capacity _ y (took (upon h Connected rest) rest (publish_gets Q1 (Some d) (record m { qos = Q1 }) (upon h Connected rest).end)).half (packets.PubAck d.id ∷ [])
    (record {
      pubrecs = (answers y.coming).pubrecs;
      pubcomps = (answers y.coming).pubcomps;
      pubacks = joined y.end.state (answers y.coming).pubacks (d.id ∷ []);
    }) (flight y.coming)
    (puback_joins y.end.state y.coming d.id) (same_flight y.end.state y.coming (packets.PubAck d.id ∷ []) refl)
    b.to_y
    (b.to_x.0, first.takes_publish d.id (record m { qos = Q1 }) b.to_x.1, b.to_x.2)
    b.own_x
    refl
    b.queue_x.1
    (tt, tt)
    b

publish_2 : (capacity : ℕ) (h y : Half) (m : Message) (d : Delivery) (rest : List Packet)
    → Both capacity (upon h Connected (packets.Publish (record { message = record m { qos = Q2 }; delivery = Some d }) ∷ rest)) y
    → Keeps capacity (upon h Connected (packets.Publish (record { message = record m { qos = Q2 }; delivery = Some d }) ∷ rest)) rest y
    (stores d.id (record m { qos = Q2 }) (upon h Connected rest).end)
publish_2 capacity h y m d rest b = by_set (FinSet.contains h.end.received d.id) refl
  where
    by_set : (t : Bool) → FinSet.contains h.end.received d.id ≡ t
        → Keeps capacity (upon h Connected (packets.Publish (record { message = record m { qos = Q2 }; delivery = Some d }) ∷ rest)) rest y
        (record {
          end = record (upon h Connected rest).end { received = FinSet.insert h.end.received d.id };
          out = packets.PubRec d.id ∷ [];
          happenings = cond (not t) (happens.Handed (record m { qos = Q2 }) ∷ []) [];
          freed = [];
          close = None;
        })
    by_set true e =
        finish capacity (upon h Connected (packets.Publish (record { message = record m { qos = Q2 }; delivery = Some d }) ∷ rest)) y
        (record h { end = record h.end { state = Connected; clean = false; received = FinSet.insert h.end.received d.id }; coming = rest }) (packets.PubRec d.id ∷ [])
        (record {
          pubrecs = joined y.end.state (answers y.coming).pubrecs (d.id ∷ []);
          pubcomps = (answers y.coming).pubcomps;
          pubacks = (answers y.coming).pubacks;
        }) (flight y.coming)
        (pubrec_joins y.end.state y.coming d.id) (same_flight y.end.state y.coming (packets.PubRec d.id ∷ []) refl)
        b.to_y
        (second.takes_publish d.id (record m { qos = Q2 }) b.to_x.0 (once_of capacity y.end.book b.own_y.0) true e, b.to_x.1, b.to_x.2)
        b.own_x
        refl
        b.queue_x.1
        (tt, tt)
        b
    by_set false e =
        finish capacity (upon h Connected (packets.Publish (record { message = record m { qos = Q2 }; delivery = Some d }) ∷ rest)) y
        (record h {
          end = record h.end { state = Connected; clean = false; received = FinSet.insert h.end.received d.id };
          coming = rest;
          handed = record h.handed { exactly_once = h.handed.exactly_once ++ record m { qos = Q2 } ∷ [] };
        }) (packets.PubRec d.id ∷ [])
        (record {
          pubrecs = joined y.end.state (answers y.coming).pubrecs (d.id ∷ []);
          pubcomps = (answers y.coming).pubcomps;
          pubacks = (answers y.coming).pubacks;
        }) (flight y.coming)
        (pubrec_joins y.end.state y.coming d.id) (same_flight y.end.state y.coming (packets.PubRec d.id ∷ []) refl)
        b.to_y
        (second.takes_publish d.id (record m { qos = Q2 }) b.to_x.0 (once_of capacity y.end.book b.own_y.0) false e, b.to_x.1, b.to_x.2)
        b.own_x
        refl
        b.queue_x.1
        (tt, tt)
        b

publish_keeps : (capacity : ℕ) (h y : Half) (q : Qos) (d : Option Delivery) (m : Message) (rest : List Packet)
    → Both capacity (upon h Connected (packets.Publish (record { message = record m { qos = q }; delivery = d }) ∷ rest)) y
    → Keeps capacity (upon h Connected (packets.Publish (record { message = record m { qos = q }; delivery = d }) ∷ rest)) rest y
    (publish_gets q d (record m { qos = q }) (upon h Connected rest).end)
publish_keeps capacity h y Q0 None m rest b = publish_0 capacity h y m rest b
publish_keeps capacity h y Q1 (Some d) m rest b = publish_1 capacity h y m d rest b
publish_keeps capacity h y Q2 (Some d) m rest b =
    cond_both (fits_window h.end.window d.id h.end.received) (stores d.id (record m { qos = Q2 }) (upon h Connected rest).end)
    (closes reasons.Window (upon h Connected rest).end)
    (Keeps capacity (upon h Connected (packets.Publish (record { message = record m { qos = Q2 }; delivery = Some d }) ∷ rest)) rest y)
    (λ t. publish_2 capacity h y m d rest b)
    (λ f. close_keeps capacity h y Connected (packets.Publish (record { message = record m { qos = Q2 }; delivery = Some d }) ∷ rest) rest [] None refl refl tt b)
publish_keeps capacity h y q d m rest b = closes_keeps capacity h y (packets.Publish (record { message = record m { qos = q }; delivery = d })) rest b

-- ---- PUBACK

puback_keeps : (capacity : ℕ) (h y : Half) (i : ℕ) (rest : List Packet) → Both capacity (upon h Connected (packets.PubAck i ∷ rest)) y
    → Keeps capacity (upon h Connected (packets.PubAck i ∷ rest)) rest y (flow_gets (packets.PubAck i) (upon h Connected rest).end)
puback_keeps capacity h y i rest b =
    elim (first.takes_puback i (once_first capacity h.end.book b.own_x.0) b.to_y.1) [
      | first.Oldest a later split same now ↦
          let book : SenderBook = h.end.book in
          let es : List SenderEntry = book.entries in
          let waits : is_awaited Q1 i es ≡ true = subst (λ (k : ℕ). is_awaited Q1 k es ≡ true) same (first_awaited Q1 es a later b.own_x.1 split) in
          let counted : times i (ids (held Q1 es)) ≡ times i (i ∷ ids later) =
          ap (λ (q : List (ℕ × Message)). times i (ids q)) split ∙ ap (λ (k : ℕ). times i (k ∷ ids later)) same in
          let one = times_same i (ids later) in
          let far = apart capacity book b.own_x.0 i in
          let left_1 : held Q1 (without_entry i es) ≡ later = held_without Q1 i es ∙ (ap (without_pair i) split ∙ pair_first i a later same (omega arith)) in
          let left_2 : held Q2 (without_entry i es) ≡ held Q2 es = held_without Q2 i es ∙ pair_absent i (held Q2 es) (omega arith) in
          let P : Bool → Type 0 = λ t. Keeps capacity (upon h Connected (packets.PubAck i ∷ rest)) rest y
          (record {
            end = record (upon h Connected rest).end { book = record book { entries = cond t (without_entry i es) es } };
            out = [];
            happenings = [];
            freed = cond t (i ∷ []) [];
            close = None;
          }) in
          subst P (sym waits)
          (finish capacity (upon h Connected (packets.PubAck i ∷ rest)) y
          (record h {
            end = record h.end { state = Connected; clean = false; book = record book { entries = without_entry i es } };
            coming = rest;
            freed = h.freed ++ last_place i h.accepted.at_least_once ∷ [];
          }) []
          (answers y.coming) (flight y.coming) (same_answers y.end.state y.coming [] refl) (same_flight y.end.state y.coming [] refl) (
            subst (λ (entries_now : List (ℕ × Message)). Second Connected y.end.state entries_now book.released y.end.received (answers rest).pubrecs
                (answers rest).pubcomps (flight y.coming).publishes_2
                (flight y.coming).pubrels h.accepted.exactly_once y.handed.exactly_once) (sym left_2) b.to_y.0,
            subst (λ (entries_now : List (ℕ × Message)). First Connected y.end.state entries_now (answers rest).pubacks
                (flight y.coming).publishes_1 h.accepted.at_least_once y.handed.at_least_once
                (h.freed ++ last_place i h.accepted.at_least_once ∷ [])) (sym left_1) now,
            b.to_y.2,
          )
          b.to_x (
            subst (λ (t : Bool). IsSound capacity (record book { entries = cond t (without_entry i es) es })) waits (books.puback capacity i book b.own_x.0),
            each_filter IsSent _ es b.own_x.1,
            each_filter IsHeld _ es b.own_x.2,
          )
          refl
          b.queue_x.1
          tt
          b)
    ]

-- ---- PUBREC

pubrec_keeps : (capacity : ℕ) (h y : Half) (i : ℕ) (rest : List Packet) → Both capacity (upon h Connected (packets.PubRec i ∷ rest)) y
    → Keeps capacity (upon h Connected (packets.PubRec i ∷ rest)) rest y (flow_gets (packets.PubRec i) (upon h Connected rest).end)
pubrec_keeps capacity h y i rest b =
    elim (second.takes_pubrec i b.to_y.0) [
      | second.First a later split same now ↦
          let book : SenderBook = h.end.book in
          let es : List SenderEntry = book.entries in
          let waits : is_awaited Q2 i es ≡ true = subst (λ (k : ℕ). is_awaited Q2 k es ≡ true) same (first_awaited Q2 es a later b.own_x.1 split) in
          let counted : times i (ids (held Q2 es)) ≡ times i (i ∷ ids later) =
          ap (λ (q : List (ℕ × Message)). times i (ids q)) split ∙ ap (λ (k : ℕ). times i (k ∷ ids later)) same in
          let one = times_same i (ids later) in
          let far = apart capacity book b.own_x.0 i in
          let left_2 : held Q2 (without_entry i es) ≡ later = held_without Q2 i es ∙ (ap (without_pair i) split ∙ pair_first i a later same (omega arith)) in
          let left_1 : held Q1 (without_entry i es) ≡ held Q1 es = held_without Q1 i es ∙ pair_absent i (held Q1 es) (omega arith) in
          let P : Bool → Type 0 = λ t. Keeps capacity (upon h Connected (packets.PubRec i ∷ rest)) rest y
          (record {
            end =
                record (upon h Connected rest).end {
                  book =
                      record book {
                        entries = cond t (without_entry i es) es;
                        released = cond t
                            (book.released ++ i ∷ []) book.released;
                      };
                };
            out = cond t (packets.PubRel i ∷ []) [];
            happenings = [];
            freed = [];
            close = None;
          }) in
          subst P (sym waits)
          (finish capacity (upon h Connected (packets.PubRec i ∷ rest)) y
          (record h {
            end =
                record h.end { state = Connected; clean = false; book = record book { entries = without_entry i es; released = book.released ++ i ∷ [] } };
            coming = rest;
          }) (packets.PubRel i ∷ [])
          (answers y.coming) (record {
            publishes_2 = (flight y.coming).publishes_2;
            publishes_1 = (flight y.coming).publishes_1;
            pubrels = joined y.end.state (flight y.coming).pubrels (i ∷ []);
            messages_0 = (flight y.coming).messages_0;
          })
          (same_answers y.end.state y.coming (packets.PubRel i ∷ []) refl) (pubrel_joins y.end.state y.coming i) (
            subst (λ (entries_now : List (ℕ × Message)). Second Connected y.end.state entries_now (book.released ++ i ∷ []) y.end.received
                (answers rest).pubrecs (answers rest).pubcomps (flight y.coming).publishes_2
                (joined y.end.state (flight y.coming).pubrels (i ∷ [])) h.accepted.exactly_once y.handed.exactly_once) (sym left_2) now,
            subst (λ (entries_now : List (ℕ × Message)). First Connected y.end.state entries_now (answers rest).pubacks
                (flight y.coming).publishes_1 h.accepted.at_least_once y.handed.at_least_once h.freed) (sym left_1) b.to_y.1,
            b.to_y.2,
          )
          b.to_x (
            subst (λ (t : Bool). IsSound capacity
                (record book {
                  entries = cond t (without_entry i es) es;
                  released = cond t (book.released ++ i ∷ []) book.released;
                })) waits (books.pubrec capacity i book b.own_x.0),
            each_filter IsSent _ es b.own_x.1,
            each_filter IsHeld _ es b.own_x.2,
          )
          refl
          b.queue_x.1
          (tt, tt)
          b)
    ]

-- ---- PUBREL

pubrel_keeps : (capacity : ℕ) (h y : Half) (i : ℕ) (rest : List Packet) → Both capacity (upon h Connected (packets.PubRel i ∷ rest)) y
    → Keeps capacity (upon h Connected (packets.PubRel i ∷ rest)) rest y (flow_gets (packets.PubRel i) (upon h Connected rest).end)
pubrel_keeps capacity h y i rest b =
    finish capacity (upon h Connected (packets.PubRel i ∷ rest)) y
    (record h { end = record h.end { state = Connected; clean = false; received = FinSet.remove h.end.received i }; coming = rest }) (packets.PubComp i ∷ [])
    (record {
      pubrecs = (answers y.coming).pubrecs;
      pubcomps = joined y.end.state (answers y.coming).pubcomps (i ∷ []);
      pubacks = (answers y.coming).pubacks;
    }) (flight y.coming)
    (pubcomp_joins y.end.state y.coming i) (same_flight y.end.state y.coming (packets.PubComp i ∷ []) refl)
    b.to_y
    (second.takes_pubrel i b.to_x.0 (once_of capacity y.end.book b.own_y.0), b.to_x.1, b.to_x.2)
    b.own_x
    refl
    b.queue_x.1
    (tt, tt)
    b

-- ---- PUBCOMP

pubcomp_keeps : (capacity : ℕ) (h y : Half) (i : ℕ) (rest : List Packet) → Both capacity (upon h Connected (packets.PubComp i ∷ rest)) y
    → Keeps capacity (upon h Connected (packets.PubComp i ∷ rest)) rest y (flow_gets (packets.PubComp i) (upon h Connected rest).end)
pubcomp_keeps capacity h y i rest b =
    elim (second.takes_pubcomp i b.to_y.0) [
      | second.Oldest later split now ↦
          let book : SenderBook = h.end.book in
          let counted : times i book.released ≡ times i (i ∷ later) = ap (times i) split in
          let one = times_same i later in
          let far = b.own_x.0.distinct i in
          let all = times_uses i book in
          let left : without i book.released ≡ later = ap (without i) split ∙ without_first i later (omega arith) in
          finish capacity (upon h Connected (packets.PubComp i ∷ rest)) y
          (record h { end = record h.end { state = Connected; clean = false; book = record book { released = without i book.released } }; coming = rest }) []
          (answers y.coming) (flight y.coming) (same_answers y.end.state y.coming [] refl) (same_flight y.end.state y.coming [] refl) (
            subst (λ (released_now : List ℕ). Second Connected y.end.state (held Q2 book.entries) released_now y.end.received (answers rest).pubrecs
                (answers rest).pubcomps (flight y.coming).publishes_2 (flight y.coming).pubrels h.accepted.exactly_once y.handed.exactly_once) (sym left) now,
            b.to_y.1,
            b.to_y.2,
          )
          b.to_x
          (books.pubcomp capacity i book b.own_x.0, b.own_x.1, b.own_x.2)
          refl
          b.queue_x.1
          tt
          b
    ]

-- ---- any packet of a flow

pub flow_keeps : (capacity : ℕ) (h y : Half) (p : Packet) (rest : List Packet) → Both capacity (upon h Connected (p ∷ rest)) y
    → Keeps capacity (upon h Connected (p ∷ rest)) rest y (flow_gets p (upon h Connected (p ∷ rest)).end)
flow_keeps capacity h y (packets.Publish p) rest b = publish_keeps capacity h y p.message.qos p.delivery p.message rest b
flow_keeps capacity h y (packets.PubAck i) rest b = puback_keeps capacity h y i rest b
flow_keeps capacity h y (packets.PubRec i) rest b = pubrec_keeps capacity h y i rest b
flow_keeps capacity h y (packets.PubRel i) rest b = pubrel_keeps capacity h y i rest b
flow_keeps capacity h y (packets.PubComp i) rest b = pubcomp_keeps capacity h y i rest b
flow_keeps capacity h y p rest b = closes_keeps capacity h y p rest b
