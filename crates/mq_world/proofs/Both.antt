-- The invariant between two sides at every point of a run.
use Rattle.std.proofs.Common.{◌≡◌, ℕ, ◌+◌, ◌≤◌, true, false, Option, List, [], ◌∷◌, ◌++◌, map, refl, sym, subst, arith}
use Rattle.mq_topic.specs.declared.qos.Qos.TheVariants.{Q1, Q2}
use Rattle.mq_packet.specs.declared.message.Message.{Message}
use Rattle.mq_packet.specs.declared.packet.Packet.{Packet}
use Rattle.mq_packet.specs.declared.packet.Packet.TheVariants as packets
use Rattle.mq_flow.specs.declared.entry.SenderEntry.{SenderEntry}
use Rattle.mq_flow.specs.declared.claim.Claimed.{Claimed}
use Rattle.mq_flow.specs.Sender.{SenderBook, times, held, resent, all_sent}
use Rattle.mq_flow.specs.Receiver.{ReceiverBook}
use Rattle.mq_flow.specs.Laws.{IsSound}
use Rattle.mq_flow.proofs.Books.{laws as books, times_uses}
use Rattle.mq_end.specs.declared.state.State.{State}
use Rattle.mq_end.specs.declared.state.State.TheVariants.{Disconnected, Connecting, Connected}
use Rattle.mq_end.specs.declared.reason.CloseReason.{CloseReason}
use Rattle.mq_end.specs.End.{is_up}
use Rattle.mq_end.specs.Both.{has_identifier}
use Rattle.mq_world.specs.Half.{Half, Accepted, HandedOn, joined, put}
use Rattle.mq_world.specs.Machine.{first_packet}
use Rattle.mq_world.proofs.Stages.{When}
use Rattle.mq_world.proofs.Lists.{Each, each_append, each_map, ids, times_held, held_sent}
use Rattle.mq_world.proofs.Second.{Second, Once}
use Rattle.mq_world.proofs.Second as second
use Rattle.mq_world.proofs.First.{First, Zeroth, zeroth_lost}
use Rattle.mq_world.proofs.First as first
use Rattle.mq_world.proofs.Queues.{Answers, Flight, answers, flight, no_answers, no_flight, same_answers, same_flight, resent_answers, resent_joins}

-- the only CONNECT is the one that a new connection begins with
abbrev pub IsPlain : Packet → Type 0
IsPlain (packets.Connect c) = c ≡ first_packet
IsPlain p = Unit {0}

-- from a sender in a state and with a book to a receiver
abbrev pub Ways : State → SenderBook → State → ReceiverBook → Answers → Flight → Accepted → HandedOn → List ℕ → Type 0
Ways x book y stored answering flying accepted handed places_freed =
    Second x y (held Q2 book.entries) book.released stored answering.pubrecs answering.pubcomps flying.publishes_2 flying.pubrels
    accepted.exactly_once handed.exactly_once
    × First x y (held Q1 book.entries) answering.pubacks flying.publishes_1 accepted.at_least_once handed.at_least_once places_freed
    × Zeroth flying.messages_0 accepted.at_most_once handed.at_most_once

abbrev pub WayOf : Half → Half → Type 0
WayOf x y = Ways x.end.state x.end.book y.end.state y.end.received (answers x.coming) (flight y.coming) x.accepted y.handed x.freed

abbrev pub IsSent : SenderEntry → Type 0
IsSent e = e.sent ≡ true

abbrev pub IsHeld : SenderEntry → Type 0
IsHeld e = has_identifier e.message.qos ≡ true

-- The sender's book alone: it is sound; if the side is connected, every message was sent; no
-- message with QoS 0 is stored.
abbrev pub OwnOf : ℕ → State → SenderBook → Type 0
OwnOf capacity st b = IsSound capacity b × When (is_up st) (Each IsSent b.entries) × Each IsHeld b.entries

pub record Both (capacity : ℕ) (x y : Half) : Type 0 where
  pub to_y : WayOf x y
  pub to_x : WayOf y x
  pub own_x : OwnOf capacity x.end.state x.end.book
  pub own_y : OwnOf capacity y.end.state y.end.book
  pub kept_x : x.end.clean ≡ false
  pub kept_y : y.end.clean ≡ false
  pub queue_x : Each IsPlain x.coming
  pub queue_y : Each IsPlain y.coming

pub turned : (capacity : ℕ) (x y : Half) → Both capacity x y → Both capacity y x
turned capacity x y b =
    record { to_y = b.to_x; to_x = b.to_y; own_x = b.own_y; own_y = b.own_x; kept_x = b.kept_y; kept_y = b.kept_x; queue_x = b.queue_y; queue_y = b.queue_x }

pub plain_joined : (st : State) (q ps : List Packet) → Each IsPlain q → Each IsPlain ps → Each IsPlain (joined st q ps)
plain_joined Disconnected q ps a b = a
plain_joined Connecting q ps a b = each_append IsPlain q ps a b
plain_joined Connected q ps a b = each_append IsPlain q ps a b

-- after a move of x, which puts packets out
pub finish : (capacity : ℕ) (x y x2 : Half) (ps : List Packet) (answering : Answers) (flying : Flight)
    → answers (joined y.end.state y.coming ps) ≡ answering → flight (joined y.end.state y.coming ps) ≡ flying
    → Ways x2.end.state x2.end.book y.end.state y.end.received (answers x2.coming) flying x2.accepted y.handed x2.freed
    → Ways y.end.state y.end.book x2.end.state x2.end.received answering (flight x2.coming) y.accepted x2.handed y.freed
    → OwnOf capacity x2.end.state x2.end.book → x2.end.clean ≡ false → Each IsPlain x2.coming → Each IsPlain ps → Both capacity x y
    → Both capacity x2 (put ps y)
finish capacity x y x2 ps answering flying is_answering is_flying to_y to_x own kept queue plain b = record {
  to_y = subst (λ (f : Flight). Ways x2.end.state x2.end.book y.end.state y.end.received (answers x2.coming) f x2.accepted y.handed x2.freed)
      (sym is_flying) to_y;
  to_x = subst (λ (a : Answers). Ways y.end.state y.end.book x2.end.state x2.end.received a (flight x2.coming) y.accepted x2.handed y.freed)
      (sym is_answering) to_x;
  own_x = own;
  own_y = b.own_y;
  kept_x = kept;
  kept_y = b.kept_y;
  queue_x = queue;
  queue_y = plain_joined y.end.state y.coming ps b.queue_y plain;
}

-- a side in a state, with this in the queue toward it, whose connection has clean session 0
abbrev pub upon : Half → State → List Packet → Half
upon h st q = record h { end = record h.end { state = st; clean = false }; coming = q }

-- ---- distinct identifiers

pub once_of : (capacity : ℕ) (b : SenderBook) → IsSound capacity b → Once (held Q2 b.entries) b.released
once_of capacity b s i = let d = s.distinct i in let e = times_uses i b in let f = times_held i b.entries in omega arith

pub once_first : (capacity : ℕ) (b : SenderBook) → IsSound capacity b → (i : ℕ) → times i (ids (held Q1 b.entries)) ≤ 1
once_first capacity b s i = let d = s.distinct i in let e = times_uses i b in let f = times_held i b.entries in omega arith

pub apart : (capacity : ℕ) (b : SenderBook) → IsSound capacity b → (i : ℕ) → times i (ids (held Q1 b.entries)) + times i (ids (held Q2 b.entries)) ≤ 1
apart capacity b s i = let d = s.distinct i in let e = times_uses i b in let f = times_held i b.entries in omega arith

-- ---- the side closes, or its connection is lost

pub close_keeps : (capacity : ℕ) (h y : Half) (st : State) (q rest ps : List Packet) (reason : Option CloseReason) → answers ps ≡ no_answers
    → flight ps ≡ no_flight → Each IsPlain ps → Both capacity (upon h st q) y
    → Both capacity
    (record h { end = record h.end { book = record h.end.book { claimed = [] }; state = Disconnected; clean = false; keep_alive = 0 }; coming = [] })
    (put ps y)
close_keeps capacity h y st q rest ps reason none_answering none_flying plain b =
    finish capacity (upon h st q) y
    (record h { end = record h.end { book = record h.end.book { claimed = [] }; state = Disconnected; clean = false; keep_alive = 0 }; coming = [] }) ps
    (answers y.coming) (flight y.coming)
    (same_answers y.end.state y.coming ps none_answering) (same_flight y.end.state y.coming ps none_flying)
    (second.sender_drops b.to_y.0, first.sender_drops b.to_y.1, b.to_y.2)
    (second.receiver_drops b.to_x.0, first.receiver_drops b.to_x.1, zeroth_lost _ _ _ b.to_x.2)
    (books.drops capacity h.end.book b.own_x.0, tt, b.own_x.2)
    refl
    tt
    plain
    b

-- ---- The side connects

pub up_keeps : (capacity : ℕ) (h y : Half) (p : Packet) (rest before : List Packet) (alive : ℕ) → answers before ≡ no_answers
    → flight before ≡ no_flight → Each IsPlain before
    → answers (p ∷ rest) ≡ answers rest → flight (p ∷ rest) ≡ flight rest → Both capacity (upon h Connecting (p ∷ rest)) y
    → Both capacity
    (record h { end = record h.end { book = all_sent h.end.book; state = Connected; known = true; clean = false; keep_alive = alive }; coming = rest })
    (put (before ++ resent h.end.book) y)
up_keeps capacity h y p rest before alive none_answering none_flying plain rest_answers rest_flight b =
    let book : SenderBook = h.end.book in
    let way2 : Second Connected y.end.state (held Q2 book.entries) book.released y.end.received (answers rest).pubrecs (answers rest).pubcomps
    (joined y.end.state (flight y.coming).publishes_2 (held Q2 book.entries))
    (joined y.end.state (flight y.coming).pubrels book.released) h.accepted.exactly_once y.handed.exactly_once =
    subst (λ (a : Answers). Second Connected y.end.state (held Q2 book.entries) book.released y.end.received a.pubrecs a.pubcomps
    (joined y.end.state (flight y.coming).publishes_2 (held Q2 book.entries))
    (joined y.end.state (flight y.coming).pubrels book.released) h.accepted.exactly_once y.handed.exactly_once)
    rest_answers (second.sender_up b.to_y.0) in
    let way1 : First Connected y.end.state (held Q1 book.entries) (answers rest).pubacks
    (joined y.end.state (flight y.coming).publishes_1 (held Q1 book.entries)) h.accepted.at_least_once y.handed.at_least_once h.freed =
    subst (λ (a : Answers). First Connected y.end.state (held Q1 book.entries) a.pubacks
    (joined y.end.state (flight y.coming).publishes_1 (held Q1 book.entries)) h.accepted.at_least_once y.handed.at_least_once h.freed)
    rest_answers (first.sender_up b.to_y.1) in
    finish capacity (upon h Connecting (p ∷ rest)) y
    (record h { end = record h.end { book = all_sent h.end.book; state = Connected; known = true; clean = false; keep_alive = alive }; coming = rest })
    (before ++ resent h.end.book)
    (answers y.coming) (record {
      publishes_2 = joined y.end.state (flight y.coming).publishes_2 (held Q2 book.entries);
      publishes_1 = joined y.end.state (flight y.coming).publishes_1 (held Q1 book.entries);
      pubrels = joined y.end.state (flight y.coming).pubrels book.released;
      messages_0 = (flight y.coming).messages_0;
    })
    (same_answers y.end.state y.coming (before ++ resent book) (resent_answers before book none_answering))
    (resent_joins y.end.state y.coming before book none_flying) (
      subst (λ (entries_now : List (ℕ × Message)). Second Connected y.end.state entries_now book.released y.end.received (answers rest).pubrecs
          (answers rest).pubcomps (joined y.end.state (flight y.coming).publishes_2 (held Q2 book.entries))
          (joined y.end.state (flight y.coming).pubrels book.released) h.accepted.exactly_once y.handed.exactly_once) (sym
          (held_sent Q2 book.entries)) way2,
      subst (λ (entries_now : List (ℕ × Message)). First Connected y.end.state entries_now (answers rest).pubacks
          (joined y.end.state (flight y.coming).publishes_1 (held Q1 book.entries)) h.accepted.at_least_once y.handed.at_least_once h.freed) (sym
          (held_sent Q1 book.entries)) way1,
      b.to_y.2,
    )
    (subst (λ (f : Flight). Ways y.end.state y.end.book Connected h.end.received (answers y.coming) f y.accepted h.handed y.freed) rest_flight
    (second.receiver_up b.to_x.0, first.receiver_up b.to_x.1, b.to_x.2)) (
      books.sends capacity book b.own_x.0,
      each_map IsSent (λ (e : SenderEntry). record { id = e.id; message = e.message; sent = true }) book.entries (λ e. refl),
      held_still book.entries b.own_x.2,
    )
    refl
    b.queue_x.1
    (each_append IsPlain before (resent book) plain (plain_resent book))
    b
  where
    held_still : (es : List SenderEntry) → Each IsHeld es → Each IsHeld (map (λ (e : SenderEntry). record { id = e.id; message = e.message; sent = true }) es)
    held_still [] k = tt
    held_still (e ∷ es) k = (k.0, held_still es k.1)

    plain_resent : (b : SenderBook) → Each IsPlain (resent b)
    plain_resent b =
        each_append IsPlain (map packets.PubRel b.released) _ (each_map IsPlain packets.PubRel b.released (λ i. tt)) (each_map IsPlain _ b.entries (λ e. tt))

-- ---- No packet of a message flow arrives or is sent

pub calm_keeps : (capacity : ℕ) (h y : Half) (st : State) (p : Packet) (rest ps : List Packet) (cs : List Claimed) → answers ps ≡ no_answers
    → flight ps ≡ no_flight → Each IsPlain ps
    → answers (p ∷ rest) ≡ answers rest → flight (p ∷ rest) ≡ flight rest → IsSound capacity (record h.end.book { claimed = cs })
    → Both capacity (upon h st (p ∷ rest)) y
    → Both capacity (record h { end = record h.end { book = record h.end.book { claimed = cs }; state = st; clean = false }; coming = rest }) (put ps y)
calm_keeps capacity h y st p rest ps cs none_answering none_flying plain rest_answers rest_flight sound b =
    finish capacity (upon h st (p ∷ rest)) y
    (record h { end = record h.end { book = record h.end.book { claimed = cs }; state = st; clean = false }; coming = rest }) ps
    (answers y.coming) (flight y.coming)
    (same_answers y.end.state y.coming ps none_answering) (same_flight y.end.state y.coming ps none_flying)
    (subst (λ (a : Answers). Ways st h.end.book y.end.state y.end.received a (flight y.coming) h.accepted y.handed h.freed) rest_answers b.to_y)
    (subst (λ (f : Flight). Ways y.end.state y.end.book st h.end.received (answers y.coming) f y.accepted h.handed y.freed) rest_flight b.to_x)
    (sound, b.own_x.1, b.own_x.2)
    refl
    b.queue_x.1
    plain
    b
