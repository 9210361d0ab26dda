-- Stored messages and packets in flight, over every run.
use Rattle.std.proofs.Common.{◌≡◌, ℕ, Bool, true, false, not, ◌&&◌, eqb, Option, Some, None, List, [], ◌∷◌, ◌++◌, map, length, refl, sym, subst}
use Rattle.std.proofs.lemmas.Bool.{cond_both}
use Rattle.mq_topic.specs.declared.qos.Qos.{Qos}
use Rattle.mq_topic.specs.declared.qos.Qos.TheVariants.{Q0, Q1, Q2}
use Rattle.mq_packet.specs.Identifier.{IsIdentifier}
use Rattle.mq_packet.specs.Publication.{fits_delivery}
use Rattle.mq_packet.specs.declared.message.Message.{Message}
use Rattle.mq_packet.specs.declared.publish.Delivery.{Delivery}
use Rattle.mq_packet.specs.declared.connect.Connect.{Connect}
use Rattle.mq_packet.specs.declared.connack.ConnAck.{ConnAck}
use Rattle.mq_packet.specs.declared.connack.ConnAck.TheVariants as connacks
use Rattle.mq_packet.specs.declared.connack.RefusalCode.TheVariants.{IdentifierRejected}
use Rattle.mq_packet.specs.declared.packet.Packet.{Packet}
use Rattle.mq_packet.specs.declared.packet.Packet.TheVariants as packets
use Rattle.mq_flow.specs.declared.entry.SenderEntry.{SenderEntry}
use Rattle.mq_flow.specs.Window.{fits_window}
use Rattle.mq_flow.specs.Sender.{SenderBook, blank_book, no_claims, resent, publish_packet, is_awaited, without_entry}
use Rattle.mq_end.specs.declared.state.State.{State}
use Rattle.mq_end.specs.declared.state.State.TheVariants.{Disconnected, Connecting, Connected}
use Rattle.mq_end.specs.declared.reason.CloseReason.TheVariants as reasons
use Rattle.mq_end.specs.End.{End, Reply, drops, is_up, over, closes, becomes_connected, renewed}
use Rattle.mq_end.specs.Both.{stores, publish_gets, flow_gets, has_identifier, publishes_at}
use Rattle.mq_end.specs.Client.{leaves, connack_gets, client_open_gets, client_up_gets, client_gets_in}
use Rattle.mq_end.specs.Server.{connect_gets, refuses, server_open_gets, server_up_gets, server_gets_in}
use Rattle.mq_end.specs.Laws.{MayHave}
use Rattle.mq_world.specs.declared.side.Side.{Side}
use Rattle.mq_world.specs.declared.side.Side.TheVariants.{Client, Server}
use Rattle.mq_world.specs.Half.{Half, Outcome, Action, Publishes, Arrives, Drops, Leaves, Pings, joined, kept, put, took, arrival, publication, May}
use Rattle.mq_world.specs.Half.{moved, gets}
use Rattle.mq_world.specs.Machine.{Machine, Move, By, Opens, Restarts, Run, IsAllowed, after, blank_machine, without_keep_alive}
use Rattle.mq_world.specs.Orders.{Each}
use Rattle.mq_world.specs.Carried.{IsCarried, IsEntry, IsPublication, CarriesOnly, PublishOnly, CarriedLaw}
use Rattle.mq_world.proofs.Lists.{each_append, each_filter, each_mapped}

module _ (test : Message → Bool) where
  -- The messages in a book.
  abbrev pub Holds : SenderBook → Type 0
  Holds b = Each (IsEntry test) b.entries × Each IsIdentifier b.released

  -- The effect of a packet.
  abbrev pub Leaves_well : Reply → Type 0
  Leaves_well r = Holds r.end.book × Each (IsCarried test) r.out

  over_well : (e : End) → Holds e.book → Holds (over e).book
  over_well e h = cond_both e.clean blank_book (no_claims e.book) Holds (λ t. (tt, tt)) (λ f. h)

  renewed_well : (clean : Bool) (e : End) → Holds e.book → Holds (renewed clean e).book
  renewed_well true e h = (tt, tt)
  renewed_well false e h = h

  publish_well : (q : Qos) (d : Option Delivery) (m : Message) (e : End) → IsPublication test (record m { qos = q }) d → Holds e.book
      → Leaves_well (publish_gets q d (record m { qos = q }) e)
  publish_well Q0 None m e p h = (h, tt)
  publish_well Q1 (Some d) m e p h = (h, (p.2, tt))
  publish_well Q2 (Some d) m e p h =
      cond_both (fits_window e.window d.id e.received) (stores d.id (record m { qos = Q2 }) e) (closes reasons.Window e) Leaves_well
      (λ t. (h, (p.2, tt))) (λ f. (over_well e h, tt))
  publish_well q d m e p h = (over_well e h, tt)

  flow_well : (p : Packet) (e : End) → IsCarried test p → Holds e.book → Leaves_well (flow_gets p e)
  flow_well (packets.Publish p) e c h = publish_well p.message.qos p.delivery p.message e c h
  flow_well (packets.PubAck i) e c h = (
    (
      cond_both (is_awaited Q1 i e.book.entries) (without_entry i e.book.entries) e.book.entries (Each (IsEntry test))
          (λ t. each_filter (IsEntry test) _ e.book.entries h.0) (λ f. h.0),
      h.1,
    ),
    tt,
  )
  flow_well (packets.PubRec i) e c h = (
    (
      cond_both (is_awaited Q2 i e.book.entries) (without_entry i e.book.entries) e.book.entries (Each (IsEntry test))
          (λ t. each_filter (IsEntry test) _ e.book.entries h.0) (λ f. h.0),
      cond_both (is_awaited Q2 i e.book.entries) (e.book.released ++ i ∷ []) e.book.released (Each IsIdentifier)
          (λ t. each_append IsIdentifier e.book.released (i ∷ []) h.1 (c, tt)) (λ f. h.1),
    ),
    cond_both (is_awaited Q2 i e.book.entries) (packets.PubRel i ∷ []) [] (Each (IsCarried test)) (λ t. (c, tt)) (λ f. tt),
  )
  flow_well (packets.PubRel i) e c h = (h, (c, tt))
  flow_well (packets.PubComp i) e c h = ((h.0, each_filter IsIdentifier _ e.book.released h.1), tt)
  flow_well p e c h = (over_well e h, tt)

  -- ---- the re-sending

  entry_carried : (e : SenderEntry) → IsEntry test e → IsCarried test (publish_packet e.id e.sent e.message)
  entry_carried e h = (h.0, fits e.message.qos h.1, h.2)
    where
      fits : (q : Qos) → has_identifier q ≡ true → fits_delivery q (Some (record { id = e.id; dup = e.sent })) ≡ true
      fits Q0 k = cc
      fits Q1 k = refl
      fits Q2 k = refl

  resent_well : (b : SenderBook) → Holds b → Each (IsCarried test) (resent b)
  resent_well b h =
      each_append (IsCarried test) (map packets.PubRel b.released) (map (λ (e : SenderEntry). publish_packet e.id e.sent e.message) b.entries)
      (each_mapped IsIdentifier (IsCarried test) packets.PubRel b.released (λ i k. k) h.1)
      (each_mapped (IsEntry test) (IsCarried test) (λ (e : SenderEntry). publish_packet e.id e.sent e.message) b.entries entry_carried h.0)

  comes_up_well : (before : List Packet) (present : Bool) (e : End) → Each (IsCarried test) before → Holds e.book → Leaves_well (becomes_connected before present e)
  comes_up_well before present e c h = (
    (each_mapped (IsEntry test) (IsEntry test) (λ (e : SenderEntry). record { id = e.id; message = e.message; sent = true }) e.book.entries (λ e k. k) h.0, h.1),
    each_append (IsCarried test) before (resent e.book) c (resent_well e.book h),
  )

  -- ---- each side

  connack_well : (a : ConnAck) (e : End) → Holds e.book → Leaves_well (connack_gets a e)
  connack_well (connacks.Refused code) e h = (over_well e h, tt)
  connack_well (connacks.Accepted present) e h =
      cond_both (e.clean && present) (closes reasons.Unexpected e) _ Leaves_well (λ t. (over_well e h, tt))
      (λ f. cond_both (not e.clean && (e.known && not present)) (closes reasons.SessionLost e) (becomes_connected [] present e) Leaves_well
      (λ t. (over_well e h, tt)) (λ f. comes_up_well [] present e tt h))

  client_open_well : (p : Packet) (e : End) → Holds e.book → Leaves_well (client_open_gets p e)
  client_open_well (packets.ConnAck a) e h = connack_well a e h
  client_open_well p e h = (over_well e h, tt)

  client_up_well : (p : Packet) (e : End) → IsCarried test p → Holds e.book → Leaves_well (client_up_gets p e)
  client_up_well (packets.SubAck i codes) e c h = absurd c
  client_up_well (packets.UnsubAck i) e c h = absurd c
  client_up_well packets.PingResp e c h = (h, tt)
  client_up_well p e c h = flow_well p e c h

  connect_well : (c : Connect) (e : End) → Holds e.book → Leaves_well (connect_gets c e)
  connect_well c e h =
      cond_both (not c.clean_session && eqb (length c.client_id) 0) (refuses IdentifierRejected e) _ Leaves_well (λ t. (over_well e h, (tt, tt)))
      (λ f. comes_up_well (packets.ConnAck (connacks.Accepted (not c.clean_session && e.known)) ∷ []) (not c.clean_session && e.known)
      (record (renewed c.clean_session e) { keep_alive = c.keep_alive }) (tt, tt) (renewed_well c.clean_session e h))

  server_open_well : (p : Packet) (e : End) → Holds e.book → Leaves_well (server_open_gets p e)
  server_open_well (packets.Connect c) e h = connect_well c e h
  server_open_well p e h = (over_well e h, tt)

  server_up_well : (p : Packet) (e : End) → IsCarried test p → Holds e.book → Leaves_well (server_up_gets p e)
  server_up_well (packets.Subscribe i requests) e c h = absurd c
  server_up_well (packets.Unsubscribe i filters) e c h = absurd c
  server_up_well packets.PingReq e c h = (h, (tt, tt))
  server_up_well packets.Disconnect e c h = (over_well e h, tt)
  server_up_well p e c h = flow_well p e c h

  client_well : (st : State) (p : Packet) (e : End) → IsCarried test p → Holds e.book → Leaves_well (client_gets_in st p e)
  client_well Disconnected p e c h = (h, tt)
  client_well Connecting p e c h = client_open_well p e h
  client_well Connected p e c h = client_up_well p e c h

  server_well : (st : State) (p : Packet) (e : End) → IsCarried test p → Holds e.book → Leaves_well (server_gets_in st p e)
  server_well Disconnected p e c h = (h, tt)
  server_well Connecting p e c h = server_open_well p e h
  server_well Connected p e c h = server_up_well p e c h

  gets_well : (side : Side) (p : Packet) (e : End) → IsCarried test p → Holds e.book → Leaves_well (gets side p e)
  gets_well Client p e c h = client_well e.state p e c h
  gets_well Server p e c h = server_well e.state p e c h

  -- ---- moves

  joined_well : (st : State) (q ps : List Packet) → Each (IsCarried test) q → Each (IsCarried test) ps → Each (IsCarried test) (joined st q ps)
  joined_well Disconnected q ps a b = a
  joined_well Connecting q ps a b = each_append (IsCarried test) q ps a b
  joined_well Connected q ps a b = each_append (IsCarried test) q ps a b

  kept_well : (st : State) (q : List Packet) → Each (IsCarried test) q → Each (IsCarried test) (kept st q)
  kept_well Disconnected q c = tt
  kept_well Connecting q c = c
  kept_well Connected q c = c

  -- The messages of a side, and the packets in flight to it.
  abbrev pub Well : Half → Type 0
  Well h = Holds h.end.book × Each (IsCarried test) h.coming

  abbrev pub Moves_well : Outcome → Type 0
  Moves_well o = Well o.half × Each (IsCarried test) o.out

  took_well : (h : Half) (rest : List Packet) (r : Reply) → Each (IsCarried test) rest → Leaves_well r → Moves_well (took h rest r)
  took_well h rest r c l = ((l.0, kept_well r.end.state rest c), l.1)

  arrival_well : (q : List Packet) (side : Side) (h : Half) → Each (IsCarried test) q → Well h → Moves_well (arrival q side h)
  arrival_well [] side h c k = (k, tt)
  arrival_well (p ∷ rest) side h c k = took_well h rest (gets side p h.end) c.1 (gets_well side p h.end c.0 k.0)

  published_well : (q : Qos) (i : ℕ) (m : Message) (e : End) → test (record m { qos = q }) ≡ true → MayHave (has_identifier q) e i → Holds e.book
      → Leaves_well (publishes_at q i (record m { qos = q }) e)
  published_well Q0 i m e t free h = (h, ((t, refl, tt), tt))
  published_well Q1 i m e t free h = (
    (each_append (IsEntry test) e.book.entries _ h.0 ((t, refl, free.0), tt), h.1),
    cond_both (is_up e.state) (publish_packet i false (record m { qos = Q1 }) ∷ []) [] (Each (IsCarried test)) (λ u. ((t, refl, free.0), tt)) (λ d. tt),
  )
  published_well Q2 i m e t free h = (
    (each_append (IsEntry test) e.book.entries _ h.0 ((t, refl, free.0), tt), h.1),
    cond_both (is_up e.state) (publish_packet i false (record m { qos = Q2 }) ∷ []) [] (Each (IsCarried test)) (λ u. ((t, refl, free.0), tt)) (λ d. tt),
  )

  publication_well : (i : ℕ) (m : Message) (h : Half) → test m ≡ true → MayHave (has_identifier m.qos) h.end i → Well h → Moves_well (publication i m h)
  publication_well i m h t free k = let l = published_well m.qos i m h.end t free k.0 in ((l.0, k.1), l.1)

  -- the messages of an action pass the test
  abbrev pub Passes : Action → Type 0
  Passes (Publishes i m) = test m ≡ true
  Passes action = Unit {0}

  move_well : (limit capacity : ℕ) (side : Side) (action : Action) (h : Half) → May limit capacity side action h → Passes action → Well h
      → Moves_well (moved side action h)
  move_well limit capacity side (Publishes i m) h may t k = publication_well i m h t may.1 k
  move_well limit capacity side Arrives h may t k = arrival_well h.coming side h k.1 k
  move_well limit capacity side Drops h may t k = took_well h [] (drops h.end) tt (over_well h.end k.0, tt)
  move_well limit capacity side Leaves h may t k = took_well h [] (leaves h.end) tt (over_well h.end k.0, (tt, tt))
  move_well limit capacity side Pings h may t k = (k, (tt, tt))

  put_well : (ps : List Packet) (h : Half) → Each (IsCarried test) ps → Well h → Well (put ps h)
  put_well ps h c k = (k.0, joined_well h.end.state h.coming ps k.1 c)

  abbrev pub Allowed : Move → Type 0
  Allowed (By side action) = Passes action
  Allowed Opens = Unit {0}
  Allowed Restarts = Unit {0}

  after_well : (limit capacity : ℕ) (w : Machine) (move : Move) → IsAllowed limit capacity w move → Allowed move → Well w.client → Well w.server
      → Well (after w move).client × Well (after w move).server
  after_well limit capacity w (By Client action) may t c s = let m = move_well limit capacity Client action w.client may t c in (m.0, put_well _ w.server m.1 s)
  after_well limit capacity w (By Server action) may t c s = let m = move_well limit capacity Server action w.server may t s in (put_well _ w.client m.1 c, m.0)
  after_well limit capacity w Opens may t c s = ((over_well w.client.end c.0, tt), (over_well w.server.end s.0, (refl, tt)))
  after_well limit capacity w Restarts may t c s =
      let m = move_well limit capacity Client Drops (without_keep_alive w.client) tt tt c in (m.0, put_well _ w.server m.1 s)

  first_of : (move : Move) (moves : List Move) → PublishOnly test (move ∷ moves) → Allowed move × PublishOnly test moves
  first_of (By side (Publishes i m)) moves p = (p.0, p.1)
  first_of (By side Arrives) moves p = (tt, p)
  first_of (By side Drops) moves p = (tt, p)
  first_of (By side Leaves) moves p = (tt, p)
  first_of (By side Pings) moves p = (tt, p)
  first_of Opens moves p = (tt, p)
  first_of Restarts moves p = (tt, p)

  run_well : (limit capacity : ℕ) (w : Machine) (moves : List Move) (v : Machine) → PublishOnly test moves → Run limit capacity w moves v
      → Well w.client → Well w.server → Well v.client × Well v.server
  run_well limit capacity w [] v p run c s = subst (λ (u : Machine). Well u.client × Well u.server) (sym run) (c, s)
  run_well limit capacity w (move ∷ moves) v p run c s =
      let f = first_of move moves p in
      let k = after_well limit capacity w move run.0 f.0 c s in
      run_well limit capacity (after w move) moves v f.1 run.1 k.0 k.1

  of_well : (h : Half) → Well h → CarriesOnly test h
  of_well h k = record { entries = k.0.0; released = k.0.1; coming = k.1 }

pub carried : CarriedLaw
carried test limit capacity window moves w p run =
    let k = run_well test limit capacity (blank_machine window) moves w p run ((tt, tt), tt) ((tt, tt), tt) in
    (of_well test w.client k.0, of_well test w.server k.1)
