-- The bounds of both ends.
use Rattle.std.proofs.Common.{◌≡◌, ℕ, zero, suc, ◌+◌, ◌≤◌, Bool, true, false, not, ◌&&◌, ◌⊎◌, inl, inr, List, [], ◌∷◌, ◌++◌, length, Option, Some, None, refl, sym, ap, subst, ◌∙◌, append_assoc, append-nil, arith}
use Rattle.std.proofs.lemmas.Bool.{cond_both}
use Rattle.std.proofs.lemmas.List.{length-append}
use Rattle.std.specs.FinSet.{len}
use Rattle.mq_wire.specs.Bytes.{AreBytes}
use Rattle.mq_packet.specs.declared.connack.RefusalCode.TheVariants.{UnacceptableProtocolVersion}
use Rattle.mq_packet.specs.declared.packet.Packet.{Packet}
use Rattle.mq_packet.specs.Encoding.{EncodingLaws, fields, encodings}
use Rattle.mq_decode.specs.declared.fault.DecodeFault.{DecodeFault}
use Rattle.mq_decode.specs.Limits.{Bounds}
use Rattle.mq_decode.specs.Grammar.{Reads, Stream, Faulty}
use Rattle.mq_decode.specs.Laws.{PendingIsShort}
use Rattle.mq_end.specs.declared.state.State.{State}
use Rattle.mq_end.specs.declared.state.State.TheVariants.{Disconnected, Connecting}
use Rattle.mq_end.specs.declared.happening.Happening.{Happening}
use Rattle.mq_end.specs.declared.reason.CloseReason.{CloseReason}
use Rattle.mq_end.specs.declared.reason.CloseReason.TheVariants as reasons
use Rattle.mq_end.specs.End.{End, Reply, closes, is_live, is_up, one_by_one}
use Rattle.mq_end.specs.Client.{client_gets}
use Rattle.mq_end.specs.Server.{server_gets, level_refused}
use Rattle.mq_end.specs.State.{EndState, PutsOut, is_level, client_faulted, server_faulted}
use Rattle.mq_end.specs.Receiving.{Receives, Shows, ClientTakes, TakesOne, held_after}
use Rattle.mq_end.specs.Laws.{ClosingLaws, WindowLaws, KeepsWindow}
use Rattle.mq_route.specs.Bounds.Costs.{has_up_event, book_for, sent_again, kept}
use Rattle.mq_route.specs.Bounds.Waiting.{WaitsOn, Hears, Ignores, WaitsThrough}
use Rattle.mq_route.specs.Bounds.Ends.{PacketBounds, Connects, ReceiveBounds, TakeBounds, BoundsLaws}
use Rattle.mq_route.proofs.Bounds.Again.{again_size}
use Rattle.mq_route.proofs.Bounds.Lengths.{read_size, put_size}
use Rattle.mq_route.proofs.Bounds.Packets.{OutWithin, client_answer, server_answer, refused_out}
use Rattle.mq_route.proofs.Bounds.Rises.{client_calm, server_calm, client_opens, server_opens}
use Rattle.mq_route.proofs.Bounds.Faults.{level_size}
use Rattle.mq_route.proofs.Bounds.Stored.{StoresWithin, client_stored, server_stored, over_stores}
use Rattle.mq_route.proofs.Bounds.Walk.{Does, BreaksOff, first_book}
use Rattle.mq_route.proofs.Bounds.Endings.{ending_quiet, Stayed, StaysOpen, IsShut, received_out, received_once, received_still, received_stayed, received_held, received_stored}

-- ---- the two ends

client_does : ClosingLaws → Does 0 client_gets
client_does closing = record { answer = client_answer; calm = client_calm; opens = client_opens; stores = client_stored; ignores = closing.client_ignores }

server_does : ClosingLaws → Does 4 server_gets
server_does closing = record { answer = server_answer; calm = server_calm; opens = server_opens; stores = server_stored; ignores = closing.server_ignores }

client_breaks : BreaksOff 0 client_faulted
client_breaks = record {
  quiet = λ fault e. refl;
  closed = λ fault e. refl;
  short = λ limit b fault e bad. omega arith;
  refused = λ fault e. omega arith;
  stores = λ fault e. over_stores e 0;
}

pub both_true : (a b : Bool) → (a && b) ≡ true → b ≡ true
both_true true b h = h
both_true false b h = absurd cc

level_out : (e : End) → length (encodings (level_refused e).out) ≤ 4
level_out e = let few = refused_out UnacceptableProtocolVersion e e.book 4 (omega arith) in omega arith

server_breaks : BreaksOff 4 server_faulted
server_breaks = record { quiet = quiet; closed = closed; short = short; refused = refused; stores = stores }
  where
    answered : DecodeFault → End → Bool
    answered fault e = not (is_up e.state) && is_level fault.kind

    quiet : (fault : DecodeFault) (e : End) → has_up_event (server_faulted fault e).happenings ≡ false
    quiet fault e = cond_both (not (is_up e.state) && is_level fault.kind) (level_refused e) (closes (reasons.Fault fault) e) (λ r. has_up_event r.happenings ≡ false) (λ t. refl) (λ f. refl)

    closed : (fault : DecodeFault) (e : End) → (server_faulted fault e).end.state ≡ Disconnected
    closed fault e = cond_both (not (is_up e.state) && is_level fault.kind) (level_refused e) (closes (reasons.Fault fault) e) (λ r. r.end.state ≡ Disconnected) (λ t. refl) (λ f. refl)

    short : (limit : Bounds) (b : List ℕ) (fault : DecodeFault) (e : End) → Faulty limit b fault.kind fault.place → length (encodings (server_faulted fault e).out) ≤ length b
    short limit b fault e bad =
        cond_both (not (is_up e.state) && is_level fault.kind) (level_refused e) (closes (reasons.Fault fault) e) (λ r. length (encodings r.out) ≤ length b)
        (λ t. let few = level_out e in let size = level_size limit b fault.kind fault.place (both_true (not (is_up e.state)) (is_level fault.kind) t) bad in omega arith) (λ f. omega arith)

    refused : (fault : DecodeFault) (e : End) → length (encodings (server_faulted fault e).out) ≤ 4
    refused fault e = cond_both (not (is_up e.state) && is_level fault.kind) (level_refused e) (closes (reasons.Fault fault) e) (λ r. length (encodings r.out) ≤ 4) (λ t. level_out e) (λ f. omega arith)

    stores : (fault : DecodeFault) (e : End) → StoresWithin 0 e (server_faulted fault e).end
    stores fault e = cond_both (not (is_up e.state) && is_level fault.kind) (level_refused e) (closes (reasons.Fault fault) e) (λ r. StoresWithin 0 e r.end) (λ t. over_stores e 0) (λ f. over_stores e 0)

-- ---- one packet

packet_bounds : (refusal : ℕ) (gets : Packet → End → Reply) → Does refusal gets → ((p : Packet) (e : End) → KeepsWindow e (gets p e).end) → PacketBounds gets
packet_bounds refusal gets does window = record {
  answer = λ lenient p b e h. let one = does.answer p e in let size = read_size lenient p b h in omega arith;
  stored = does.stores;
  window = window;
}

-- ---- bytes

abbrev pub ReceivesBy : (Packet → End → Reply) → (DecodeFault → End → Reply) → List ℕ → EndState → EndState → List Happening → List ℕ → Option CloseReason → Type 0
ReceivesBy gets faulted piece old new happenings acknowledged closed = (r : Reply)
    × Receives old.limit gets faulted (old.held ++ piece) old.end r new.held
    × Shows r old new happenings acknowledged closed

-- the lemmas from which the bounds of `receive` follow
pub record Given (refusal : ℕ) (gets : Packet → End → Reply) (faulted : DecodeFault → End → Reply) : Type 0 where
  pub encoding : EncodingLaws
  pub short : PendingIsShort
  pub does : Does refusal gets
  pub on_malformed : BreaksOff refusal faulted

pub joined_bytes : (a b : List ℕ) → AreBytes a → AreBytes b → AreBytes (a ++ b)
joined_bytes [] b h k i = k i
joined_bytes (x ∷ a) b h k zero = h 0
joined_bytes (x ∷ a) b h k (suc i) = joined_bytes a b (λ j. h (suc j)) k i

grown : (refusal : ℕ) (gets : Packet → End → Reply) (faulted : DecodeFault → End → Reply) → Given refusal gets faulted
    → (piece : List ℕ) (old new : EndState) (happenings : List Happening) (acknowledged : List ℕ) (closed : Option CloseReason) → (h : ReceivesBy gets faulted piece old new happenings acknowledged closed)
    → (b : Bool) → has_up_event happenings ≡ b → kept new ≤ (kept old + length piece) + length (sent_again b (first_book h.1.packets old.end.book))
grown refusal gets faulted g piece old new happenings acknowledged closed h b up =
    let all = received_out refusal gets faulted g.does g.on_malformed old.limit (old.held ++ piece) old.end h.0 new.held h.1 in
    let put = put_size g.encoding h.0.out old.output new.output h.2.out in
    let parts = length-append old.held piece in
    let same = ap (λ (c : Bool). length (sent_again c (first_book h.1.packets old.end.book))) (sym (ap has_up_event h.2.told) ∙ up) in
    omega arith

-- the first packet is the one that connects an end
connects : (refusal : ℕ) (gets : Packet → End → Reply) (faulted : DecodeFault → End → Reply) → Given refusal gets faulted
    → (piece : List ℕ) (old new : EndState) (happenings : List Happening) (acknowledged : List ℕ) (closed : Option CloseReason) → (h : ReceivesBy gets faulted piece old new happenings acknowledged closed)
    → has_up_event happenings ≡ true → Connects piece old new
connects refusal gets faulted g piece old new happenings acknowledged closed h up = by h.1.packets refl h.1.stream
  where
    quiet : has_up_event (one_by_one gets h.1.packets old.end).happenings ≡ true
    quiet =
        sym (ending_quiet refusal faulted g.on_malformed old.limit (one_by_one gets h.1.packets old.end) h.1.rest h.0 new.held h.1.ending) ∙ (sym (ap has_up_event h.2.told) ∙ up)

    by : (ps : List Packet) → h.1.packets ≡ ps → Stream old.limit ps h.1.front → Connects piece old new
    by [] none stream = absurd (let e : false ≡ true = sym (ap (λ (ps : List Packet). has_up_event (one_by_one gets ps old.end).happenings) none) ∙ quiet in cc)
    by (p ∷ ps) is stream = record {
      first = p;
      front = stream.0;
      rest = stream.1 ++ h.1.rest;
      parts = h.1.parts ∙ (ap (λ (b : List ℕ). b ++ h.1.rest) stream.4 ∙ append_assoc stream.0 stream.1 h.1.rest);
      reads = stream.2;
      grows = subst (λ (ps : List Packet). kept new ≤ (kept old + length piece) + length (sent_again true (first_book ps old.end.book))) is
          (grown refusal gets faulted g piece old new happenings acknowledged closed h true up);
    }

still_output : (ps : List Packet) (old new : List ℕ) → ps ≡ [] → PutsOut ps old new → new ≡ old
still_output ps old new none out = by (subst (λ (ps : List Packet). PutsOut ps old new) none out)
  where
    by : PutsOut [] old new → new ≡ old
    by p = p.2 ∙ ap (λ (b : List ℕ). old ++ b) p.1 ∙ append-nil old

-- ---- many pieces

-- a waiting or closed end, and the bytes that it stores
data Waiting (refusal : ℕ) (limit : Bounds) (s : EndState) : Type 0 where
  IsOpen : s.end.state ≡ Connecting → s.output ≡ [] → AreBytes s.held → length s.held ≤ 5 + limit.most → s.limit ≡ limit → Waiting refusal limit s
  IsOver : s.end.state ≡ Disconnected → length s.output ≤ refusal → s.held ≡ [] → Waiting refusal limit s

not_live : (st : State) → st ≡ Disconnected → is_live st ≡ true → ⊥
not_live st is h = let e : false ≡ true = sym (ap is_live is) ∙ h in cc

live : (st : State) → st ≡ Connecting → is_live st ≡ false → ⊥
live st is h = let e : true ≡ false = sym (ap is_live is) ∙ h in cc

touched : (refusal : ℕ) (gets : Packet → End → Reply) (faulted : DecodeFault → End → Reply) → Given refusal gets faulted → (limit : Bounds)
    → (piece : List ℕ) (old new : EndState) (happenings : List Happening) (acknowledged : List ℕ) (closed : Option CloseReason) → ReceivesBy gets faulted piece old new happenings acknowledged closed
    → AreBytes piece → has_up_event happenings ≡ false → new.limit ≡ old.limit → old.end.state ≡ Connecting → old.output ≡ [] → AreBytes old.held → old.limit ≡ limit → Waiting refusal limit new
touched refusal gets faulted g limit piece old new happenings acknowledged closed h bytes quiet same waits nothing held is =
    by (received_stayed refusal gets faulted g.does g.on_malformed old.limit (old.held ++ piece) old.end h.0 new.held h.1 waits (sym (ap has_up_event h.2.told) ∙ quiet))
  where
    by : Stayed refusal old.end h.0 new.held → Waiting refusal limit new
    by (StaysOpen still) =
        let few = received_held g.short gets faulted old.limit (old.held ++ piece) old.end h.0 new.held h.1 (joined_bytes old.held piece held bytes) in
        let most = ap (λ (b : Bounds). b.most) is in
        let size = few.1 in
        IsOpen (ap (λ (e : End). e.state) h.2.after ∙ (ap (λ (r : Reply). r.end.state) still ∙ waits)) (still_output h.0.out old.output new.output (ap (λ (r : Reply). r.out) still) h.2.out ∙ nothing) few.0 (omega arith) (same ∙ is)
    by (IsShut over few none) =
        let put = put_size g.encoding h.0.out old.output new.output h.2.out in
        let none_before = ap length nothing in
        IsOver (ap (λ (e : End). e.state) h.2.after ∙ over) (omega arith) none

step : (refusal : ℕ) (gets : Packet → End → Reply) (faulted : DecodeFault → End → Reply) → Given refusal gets faulted → (limit : Bounds)
    → (piece : List ℕ) (old new : EndState) → WaitsOn (ReceivesBy gets faulted) piece old new → Waiting refusal limit old → Waiting refusal limit new
step refusal gets faulted g limit piece old new (Hears happenings acknowledged closed bytes is_live h quiet same) (IsOpen waits nothing held few is) =
    touched refusal gets faulted g limit piece old new happenings acknowledged closed h bytes quiet same waits nothing held is
step refusal gets faulted g limit piece old new (Hears happenings acknowledged closed bytes is_live h quiet same) (IsOver shut few none) = absurd (not_live old.end.state shut is_live)
step refusal gets faulted g limit piece old new (Ignores dead same) (IsOpen waits nothing held few is) = absurd (live old.end.state waits dead)
step refusal gets faulted g limit piece old new (Ignores dead same) (IsOver shut few none) = subst (Waiting refusal limit) (sym same) (IsOver shut few none)

through : (refusal : ℕ) (gets : Packet → End → Reply) (faulted : DecodeFault → End → Reply) → Given refusal gets faulted → (limit : Bounds)
    → (pieces : List (List ℕ)) (old new : EndState) → WaitsThrough (ReceivesBy gets faulted) pieces old new → Waiting refusal limit old → Waiting refusal limit new
through refusal gets faulted g limit [] old new h w = subst (Waiting refusal limit) (sym h) w
through refusal gets faulted g limit (piece ∷ pieces) old new h w = through refusal gets faulted g limit pieces h.0 new h.2 (step refusal gets faulted g limit piece old h.0 h.1 w)

kept_while : (refusal : ℕ) (limit : Bounds) (s : EndState) → Waiting refusal limit s → (length s.held ≤ 5 + limit.most) × (length s.output ≤ refusal)
kept_while refusal limit s (IsOpen waits nothing held few is) = (few, let none = ap length nothing in omega arith)
kept_while refusal limit s (IsOver shut few none) = (let nothing = ap length none in omega arith, few)

-- ---- all of them

receive_bounds : (refusal : ℕ) (gets : Packet → End → Reply) (faulted : DecodeFault → End → Reply) → Given refusal gets faulted → ReceiveBounds refusal (ReceivesBy gets faulted)
receive_bounds refusal gets faulted g = record {
  grows = λ c quiet. let all = grown refusal gets faulted g c.piece c.old c.new c.happenings c.acknowledged c.closed c.received false quiet in omega arith;
  comes_up = λ c up. connects refusal gets faulted g c.piece c.old c.new c.happenings c.acknowledged c.closed c.received up;
  once = λ c up.
      received_once refusal gets faulted g.does g.on_malformed c.old.limit (c.old.held ++ c.piece) c.old.end c.received.0 c.new.held c.received.1 (sym (ap has_up_event c.received.2.told) ∙ up);
  waits = λ c is.
      let still = received_still refusal gets faulted g.does g.on_malformed c.old.limit (c.old.held ++ c.piece) c.old.end c.received.0 c.new.held c.received.1 (sym (ap (λ (e : End). e.state) c.received.2.after) ∙ is) in
      (still.before, still_output c.received.0.out c.old.output c.new.output (ap (λ (r : Reply). r.out) still.nothing) c.received.2.out);
  refuses = λ c is quiet.
      refused_output c.old.end c.received.0 c.new.held c.old.output c.new.output (received_stayed refusal gets faulted g.does g.on_malformed c.old.limit (c.old.held ++ c.piece) c.old.end c.received.0 c.new.held c.received.1 is (sym (ap has_up_event c.received.2.told) ∙ quiet))
      (put_size g.encoding c.received.0.out c.old.output c.new.output c.received.2.out);
  held = λ c before bytes.
      received_held g.short gets faulted c.old.limit (c.old.held ++ c.piece) c.old.end c.received.0 c.new.held c.received.1 (joined_bytes c.old.held c.piece before bytes);
  stored = λ c.
      let all = received_stored refusal gets faulted g.does g.on_malformed c.old.limit (c.old.held ++ c.piece) c.old.end c.received.0 c.new.held c.received.1 in
      let same = ap (λ (e : End). len e.received) c.received.2.after in
      let parts = length-append c.old.held c.piece in
      omega arith;
  stranger = λ pieces old new waits nothing none h.
      kept_while refusal old.limit new (through refusal gets faulted g old.limit pieces old new h
      (IsOpen waits nothing (subst AreBytes (sym none) (λ i. omega arith)) (let size = ap length none in omega arith) refl));
}
  where
    refused_output : (e : End) (r : Reply) (held old new : List ℕ) → Stayed refusal e r held → length new ≡ length old + length (encodings r.out) → length new ≤ length old + refusal
    refused_output e r held old new (StaysOpen still) size = let none = ap (λ (r : Reply). length (encodings r.out)) still in omega arith
    refused_output e r held old new (IsShut over few none) size = omega arith

-- ---- whole packets by themselves

shut_holds : (c : Option CloseReason) (held : List ℕ) → length (held_after c held) ≤ length held
shut_holds None held = omega arith
shut_holds (Some reason) held = omega arith

taken : EncodingLaws → (gets : Packet → End → Reply) → ((p : Packet) (e : End) → OutWithin (2 + length (fields p)) (book_for p e.book) (gets p e)) → (lenient : Bool) (p : Packet) (b : List ℕ) (old new : EndState) (happenings : List Happening) (reply : Reply)
    → Reads lenient p b → (reply ≡ gets p old.end) ⊎ (reply ≡ closes reasons.Memory old.end) → PutsOut reply.out old.output new.output → happenings ≡ reply.happenings → new.held ≡ held_after reply.close old.held
    → kept new ≤ (kept old + length b) + length (sent_again (has_up_event happenings) (book_for p old.end.book))
taken encoding gets answer lenient p b old new happenings reply reads does out told held =
    let put = put_size encoding reply.out old.output new.output out in
    let few = by does in
    let same = ap (λ (hs : List Happening). length (sent_again (has_up_event hs) (book_for p old.end.book))) told in
    let left = ap length held in
    let less = shut_holds reply.close old.held in
    omega arith
  where
    by : (reply ≡ gets p old.end) ⊎ (reply ≡ closes reasons.Memory old.end) → OutWithin (length b) (book_for p old.end.book) reply
    by (inl is) = subst (OutWithin (length b) (book_for p old.end.book)) (sym is) (let one = answer p old.end in let size = read_size lenient p b reads in omega arith)
    by (inr is) = subst (OutWithin (length b) (book_for p old.end.book)) (sym is) (omega arith)

client_takes : EncodingLaws → TakeBounds ClientTakes
client_takes encoding = record {
  grows = λ now lenient p b old new happenings acknowledged closed h reads.
      taken encoding client_gets client_answer lenient p b old new happenings h.reply reads h.does h.shows.out h.shows.told (ap (λ (s : EndState). s.held) h.state);
}

server_takes : EncodingLaws → TakeBounds TakesOne
server_takes encoding = record {
  grows = λ now lenient p b old new happenings acknowledged closed h reads.
      taken encoding server_gets server_answer lenient p b old new happenings h.reply reads h.does h.shows.out h.shows.told (ap (λ (s : EndState). s.held) h.state);
}

-- ---- all of it

pub laws : EncodingLaws → PendingIsShort → ClosingLaws → WindowLaws → BoundsLaws
laws encoding short closing window = record {
  client_packet = packet_bounds 0 client_gets (client_does closing) (λ p e. window.client (p ∷ []) e);
  server_packet = packet_bounds 4 server_gets (server_does closing) (λ p e. window.server (p ∷ []) e);
  client = receive_bounds 0 client_gets client_faulted (record { encoding = encoding; short = short; does = client_does closing; on_malformed = client_breaks });
  server = receive_bounds 4 server_gets server_faulted (record { encoding = encoding; short = short; does = server_does closing; on_malformed = server_breaks });
  client_takes = client_takes encoding;
  server_takes = server_takes encoding;
  again = again_size;
}
