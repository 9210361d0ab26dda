-- The bytes that a sender's book stores, and what a limit leaves.
use Rattle.std.proofs.Common.{◌≡◌, ℕ, ◌+◌, ◌-◌, ◌≤◌, Bool, true, false, cond, not, ◌&&◌, List, [], ◌∷◌, length, map, filter, Option, Some, None, refl, sym, ap, subst, ◌∙◌, leb-true, le-leb, le_refl, eqb, arith}
use Rattle.std.proofs.lemmas.Bool.{cond_both}
use Rattle.std.proofs.lemmas.List.Sums.{sum_by-cons, sum_by_push}
use Rattle.mq_topic.specs.declared.qos.Qos.{Qos}
use Rattle.mq_topic.specs.declared.qos.Qos.TheVariants.{Q0, Q1, Q2}
use Rattle.mq_packet.specs.declared.connack.ConnAck.TheVariants as connacks
use Rattle.mq_packet.specs.declared.connack.RefusalCode.TheVariants.{IdentifierRejected}
use Rattle.mq_packet.specs.declared.connect.Connect.{Connect}
use Rattle.mq_packet.specs.declared.message.Message.{Message}
use Rattle.mq_packet.specs.declared.packet.Packet.{Packet}
use Rattle.mq_packet.specs.declared.packet.Packet.TheVariants as packets
use Rattle.mq_packet.specs.declared.publish.Delivery.{Delivery}
use Rattle.mq_flow.specs.declared.entry.SenderEntry.{SenderEntry}
use Rattle.mq_flow.specs.Sender.{SenderBook, blank_book, is_awaited, accept, without_entry, all_sent, no_claims}
use Rattle.mq_flow.specs.Stored.{message_bytes, entry_bytes, stored_bytes}
use Rattle.mq_flow.specs.Window.{fits_window}
use Rattle.mq_end.specs.declared.reason.CloseReason.TheVariants as reasons
use Rattle.mq_end.specs.declared.state.State.{State}
use Rattle.mq_end.specs.declared.state.State.TheVariants.{Disconnected, Connecting, Connected}
use Rattle.mq_end.specs.Both.{stores, publish_gets, flow_gets}
use Rattle.mq_end.specs.End.{End, over, closes, renewed, becomes_connected}
use Rattle.mq_end.specs.Server.{refuses, connect_gets, server_open_gets, server_up_gets, server_gets_in, server_gets}
use Rattle.mq_route.specs.Work.{leaves}

-- ---- what a limit leaves

-- the limit leaves room for this number of bytes
abbrev pub Leaves : Option ℕ → ℕ → ℕ → Type 0
Leaves None used more = Unit {0}
Leaves (Some most) used more = more ≤ most - used

-- this number of bytes is within the limit
abbrev pub Within : Option ℕ → ℕ → Type 0
Within None used = Unit {0}
Within (Some most) used = used ≤ most

pub leaves_le : (o : Option ℕ) (used more : ℕ) → leaves o used more ≡ true → Leaves o used more
leaves_le None used more e = tt
leaves_le (Some most) used more e = leb-true more (most - used) e

pub le_leaves : (o : Option ℕ) (used more : ℕ) → Leaves o used more → leaves o used more ≡ true
le_leaves None used more l = refl
le_leaves (Some most) used more l = le-leb more (most - used) l

pub leaves_less : (o : Option ℕ) (used a b : ℕ) → a ≤ b → Leaves o used b → Leaves o used a
leaves_less None used a b less l = tt
leaves_less (Some most) used a b less l = omega arith

-- after a part is used, there is room for the rest
pub leaves_next : (o : Option ℕ) (used a b : ℕ) → Leaves o used (a + b) → Leaves o (used + a) b
leaves_next None used a b l = tt
leaves_next (Some most) used a b l = omega arith

pub within_next : (o : Option ℕ) (used a : ℕ) → Within o used → Leaves o used a → Within o (used + a)
within_next None used a w l = tt
within_next (Some most) used a w l = omega arith

pub within_less : (o : Option ℕ) (a b : ℕ) → a ≤ b → Within o b → Within o a
within_less None a b less w = tt
within_less (Some most) a b less w = omega arith

pub within_none : (o : Option ℕ) → Within o 0
within_none None = tt
within_none (Some most) = omega arith

-- ---- stored bytes

bytes_cons : (e : SenderEntry) (es : List SenderEntry) → entry_bytes (e ∷ es) ≡ message_bytes e.message + entry_bytes es
bytes_cons e es = sum_by-cons (λ (e : SenderEntry). message_bytes e.message) e es

pub stored_accept : (i : ℕ) (m : Message) (sent : Bool) (b : SenderBook) → stored_bytes (accept i m sent b) ≡ stored_bytes b + message_bytes m
stored_accept i m sent b = sum_by_push (λ (e : SenderEntry). message_bytes e.message) b.entries (record { id = i; message = m; sent = sent })

fewer_bytes : (p : SenderEntry → Bool) (es : List SenderEntry) → entry_bytes (filter p es) ≤ entry_bytes es
fewer_bytes p [] = le_refl 0
fewer_bytes p (e ∷ es) =
    let less = fewer_bytes p es in
    let all = bytes_cons e es in
    cond_both (p e) (e ∷ filter p es) (filter p es) (λ (l : List SenderEntry). entry_bytes l ≤ entry_bytes (e ∷ es))
    (λ t. let some = bytes_cons e (filter p es) in omega arith) (λ f. omega arith)

sent_bytes : (es : List SenderEntry) → entry_bytes (map (λ e. record { id = e.id; message = e.message; sent = true }) es) ≡ entry_bytes es
sent_bytes [] = refl
sent_bytes (e ∷ es) =
    bytes_cons (record { id = e.id; message = e.message; sent = true }) (map (λ e. record { id = e.id; message = e.message; sent = true }) es)
    ∙ ap (λ (n : ℕ). message_bytes e.message + n) (sent_bytes es)
    ∙ sym (bytes_cons e es)

module _ (o : Option ℕ) where
  -- the book is within the limit
  abbrev pub IsStored : SenderBook → Type 0
  IsStored b = Within o (stored_bytes b)

  less_stored : (a b : SenderBook) → stored_bytes a ≤ stored_bytes b → IsStored b → IsStored a
  less_stored a b less s = within_less o (stored_bytes a) (stored_bytes b) less s

  pub blank_stored : IsStored blank_book
  blank_stored = within_none o

  -- an acknowledged message is removed
  without_stored : (awaited : Bool) (i : ℕ) (es : List SenderEntry) (b : SenderBook) → b.entries ≡ es → IsStored b → Within o (entry_bytes (cond awaited (without_entry i es) es))
  without_stored awaited i es b is s =
      let all : Within o (entry_bytes es) = subst (λ (l : List SenderEntry). Within o (entry_bytes l)) is s in
      cond_both awaited (without_entry i es) es (λ (l : List SenderEntry). Within o (entry_bytes l))
      (λ t. within_less o (entry_bytes (without_entry i es)) (entry_bytes es) (fewer_bytes (λ e. not (eqb e.id i)) es) all) (λ f. all)

  sent_stored : (b : SenderBook) → IsStored b → IsStored (all_sent b)
  sent_stored b s = subst (Within o) (sym (sent_bytes b.entries)) s

  pub over_stored : (e : End) → IsStored e.book → IsStored (over e).book
  over_stored e s = cond_both e.clean blank_book (no_claims e.book) IsStored (λ t. blank_stored) (λ f. s)

  renewed_stored : (clean : Bool) (e : End) → IsStored e.book → IsStored (renewed clean e).book
  renewed_stored true e s = blank_stored
  renewed_stored false e s = s

  publish_stored : (q : Qos) (d : Option Delivery) (m : Message) (e : End) → IsStored e.book → IsStored (publish_gets q d m e).end.book
  publish_stored Q0 None m e s = s
  publish_stored Q1 (Some d) m e s = s
  publish_stored Q2 (Some d) m e s =
      cond_both (fits_window e.window d.id e.received) (stores d.id m e) (closes reasons.Window e) (λ r. IsStored r.end.book) (λ t. s) (λ f. over_stored e s)
  publish_stored q d m e s = over_stored e s

  flow_stored : (p : Packet) (e : End) → IsStored e.book → IsStored (flow_gets p e).end.book
  flow_stored (packets.Publish p) e s = publish_stored p.message.qos p.delivery p.message e s
  flow_stored (packets.PubAck i) e s = without_stored (is_awaited Q1 i e.book.entries) i e.book.entries e.book refl s
  flow_stored (packets.PubRec i) e s = without_stored (is_awaited Q2 i e.book.entries) i e.book.entries e.book refl s
  flow_stored (packets.PubRel i) e s = s
  flow_stored (packets.PubComp i) e s = s
  flow_stored p e s = over_stored e s

  connect_stored : (c : Connect) (e : End) → IsStored e.book → IsStored (connect_gets c e).end.book
  connect_stored c e s =
      cond_both (not c.clean_session && eqb (length c.client_id) 0) (refuses IdentifierRejected e)
      (becomes_connected (packets.ConnAck (connacks.Accepted (not c.clean_session && e.known)) ∷ []) (not c.clean_session && e.known) (record (renewed c.clean_session e) { keep_alive = c.keep_alive }))
      (λ r. IsStored r.end.book) (λ t. over_stored e s) (λ f. sent_stored (renewed c.clean_session e).book (renewed_stored c.clean_session e s))

  open_stored : (p : Packet) (e : End) → IsStored e.book → IsStored (server_open_gets p e).end.book
  open_stored (packets.Connect c) e s = connect_stored c e s
  open_stored p e s = over_stored e s

  up_stored : (p : Packet) (e : End) → IsStored e.book → IsStored (server_up_gets p e).end.book
  up_stored (packets.Subscribe i requests) e s = s
  up_stored (packets.Unsubscribe i filters) e s = s
  up_stored packets.PingReq e s = s
  up_stored packets.Disconnect e s = over_stored e s
  up_stored p e s = flow_stored p e s

  in_stored : (st : State) (p : Packet) (e : End) → IsStored e.book → IsStored (server_gets_in st p e).end.book
  in_stored Disconnected p e s = s
  in_stored Connecting p e s = open_stored p e s
  in_stored Connected p e s = up_stored p e s

  -- a packet stores nothing more
  pub gets_stored : (p : Packet) (e : End) → IsStored e.book → IsStored (server_gets p e).end.book
  gets_stored p e s = in_stored e.state p e s
