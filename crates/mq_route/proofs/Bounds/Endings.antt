-- The result of bytes: packets, and then the rest.
use Rattle.std.proofs.Common.{◌≡◌, ℕ, ◌+◌, ◌*◌, ◌≤◌, Bool, true, false, List, [], ◌∷◌, length, Option, Some, None, refl, sym, ap, subst, ◌∙◌, arith}
use Rattle.std.specs.FinSet.{len}
use Rattle.std.proofs.lemmas.List.{length-append}
use Rattle.mq_wire.specs.Bytes.{AreBytes}
use Rattle.mq_packet.specs.declared.packet.Packet.{Packet}
use Rattle.mq_packet.specs.Encoding.{encodings}
use Rattle.mq_decode.specs.declared.fault.DecodeFault.{DecodeFault}
use Rattle.mq_decode.specs.Limits.{Bounds}
use Rattle.mq_decode.specs.Laws.{PendingIsShort}
use Rattle.mq_decode.proofs.FieldLaws.{AreBytes-rest}
use Rattle.mq_flow.specs.Sender.{SenderBook}
use Rattle.mq_end.specs.declared.state.State.{State}
use Rattle.mq_end.specs.declared.state.State.TheVariants.{Disconnected, Connecting, Connected}
use Rattle.mq_end.specs.declared.reason.CloseReason.{CloseReason}
use Rattle.mq_end.specs.declared.reason.CloseReason.TheVariants as reasons
use Rattle.mq_end.specs.End.{End, Reply, silent, closes, followed, one_by_one}
use Rattle.mq_end.specs.Receiving.{Ending, Waits, Closes, Breaks, Starves, Receives}
use Rattle.mq_route.specs.Bounds.Costs.{has_up_event, sent_again}
use Rattle.mq_route.proofs.Bounds.Lengths.{joined_size}
use Rattle.mq_route.proofs.Bounds.Rises.{is_open}
use Rattle.mq_route.proofs.Bounds.Stored.{over_stores}
use Rattle.mq_route.proofs.Bounds.Walk.{Does, BreaksOff, Refused, Nothing, Closed, told_after, all_calm, first_book, all_out, all_stored, all_refused, settled}

not_both : (o : Option CloseReason) (reason : CloseReason) → o ≡ None → o ≡ Some reason → ⊥
not_both o reason h k =
    let e : None ≡ Some reason = sym h ∙ k in
    cc

-- ---- output

-- a reply within bytes, followed by one without reports
after_out : (s t : Reply) (front rest : List ℕ) (book : SenderBook) → has_up_event t.happenings ≡ false → length (encodings t.out) ≤ length rest
    → length (encodings s.out) ≤ length front + length (sent_again (has_up_event s.happenings) book)
    → length (encodings (followed s t).out) ≤ (length front + length rest) + length (sent_again (has_up_event (followed s t).happenings) book)
after_out s t front rest book quiet few before =
    let parts = joined_size s.out t.out in
    let same = ap (λ (b : Bool). length (sent_again b book)) (told_after s.happenings t.happenings quiet) in
    omega arith

-- the output and the held bytes are within the incoming bytes and the retransmissions
abbrev pub AllWithin : List ℕ → List ℕ → SenderBook → List ℕ → Reply → Type 0
AllWithin front rest book held r = length (encodings r.out) + length held ≤ (length front + length rest) + length (sent_again (has_up_event r.happenings) book)

ending_out : (refusal : ℕ) (faulted : DecodeFault → End → Reply) → BreaksOff refusal faulted → (limit : Bounds) (s : Reply) (front rest : List ℕ) (book : SenderBook) (r : Reply) (held : List ℕ)
    → length (encodings s.out) ≤ length front + length (sent_again (has_up_event s.happenings) book) → Ending limit faulted s rest r held → AllWithin front rest book held r
ending_out refusal faulted on_malformed limit s front rest book r held before (Waits pending none same is_held) =
    subst (AllWithin front rest book held) (sym same) (let size = ap length is_held in omega arith)
ending_out refusal faulted on_malformed limit s front rest book r held before (Closes reason closed same is_held) =
    subst (AllWithin front rest book held) (sym same) (let size = ap length is_held in omega arith)
ending_out refusal faulted on_malformed limit s front rest book r held before (Breaks fault bad none same is_held) =
    subst (AllWithin front rest book held) (sym same) (
    let size = ap length is_held in
    let all = after_out s (faulted fault s.end) front rest book (on_malformed.quiet fault s.end) (on_malformed.short limit rest fault s.end bad) before in
    omega arith)
ending_out refusal faulted on_malformed limit s front rest book r held before (Starves more none same is_held) =
    subst (AllWithin front rest book held) (sym same) (
    let size = ap length is_held in
    let all = after_out s (closes reasons.Memory s.end) front rest book refl (omega arith) before in
    omega arith)

pub received_out : (refusal : ℕ) (gets : Packet → End → Reply) (faulted : DecodeFault → End → Reply) → Does refusal gets → BreaksOff refusal faulted → (limit : Bounds) (b : List ℕ) (e : End) (r : Reply) (held : List ℕ)
    → (h : Receives limit gets faulted b e r held) → length (encodings r.out) + length held ≤ length b + length (sent_again (has_up_event r.happenings) (first_book h.packets e.book))
received_out refusal gets faulted does on_malformed limit b e r held h =
    let all = ending_out refusal faulted on_malformed limit (one_by_one gets h.packets e) h.front h.rest (first_book h.packets e.book) r held (all_out refusal gets does limit h.packets h.front e h.stream) h.ending in
    let whole = ap length h.parts ∙ length-append h.front h.rest in
    omega arith

-- ---- an end that connects

pub ending_quiet : (refusal : ℕ) (faulted : DecodeFault → End → Reply) → BreaksOff refusal faulted → (limit : Bounds) (s : Reply) (rest : List ℕ) (r : Reply) (held : List ℕ)
    → Ending limit faulted s rest r held → has_up_event r.happenings ≡ has_up_event s.happenings
ending_quiet refusal faulted on_malformed limit s rest r held (Waits pending none same is_held) = ap (λ (t : Reply). has_up_event t.happenings) same
ending_quiet refusal faulted on_malformed limit s rest r held (Closes reason closed same is_held) = ap (λ (t : Reply). has_up_event t.happenings) same
ending_quiet refusal faulted on_malformed limit s rest r held (Breaks fault bad none same is_held) = ap (λ (t : Reply). has_up_event t.happenings) same ∙ told_after s.happenings (faulted fault s.end).happenings (on_malformed.quiet fault s.end)
ending_quiet refusal faulted on_malformed limit s rest r held (Starves more none same is_held) = ap (λ (t : Reply). has_up_event t.happenings) same ∙ told_after s.happenings [] refl

pub received_once : (refusal : ℕ) (gets : Packet → End → Reply) (faulted : DecodeFault → End → Reply) → Does refusal gets → BreaksOff refusal faulted → (limit : Bounds) (b : List ℕ) (e : End) (r : Reply) (held : List ℕ)
    → Receives limit gets faulted b e r held → has_up_event r.happenings ≡ true → e.state ≡ Connecting
received_once refusal gets faulted does on_malformed limit b e r held h up = by e.state refl
  where
    none : is_open e.state ≡ false → ⊥
    none shut =
        let quiet = (all_calm refusal gets does h.packets e shut).quiet in
        let e : true ≡ false = sym up ∙ (ending_quiet refusal faulted on_malformed limit (one_by_one gets h.packets e) h.rest r held h.ending ∙ quiet) in
        cc

    by : (st : State) → e.state ≡ st → st ≡ Connecting
    by Disconnected is = absurd (none (ap is_open is))
    by Connecting is = refl
    by Connected is = absurd (none (ap is_open is))

-- ---- a waiting end

-- an end that still waits
pub record StillWaits (e : End) (r : Reply) : Type 0 where
  pub before : e.state ≡ Connecting
  pub nothing : r ≡ silent e

not_closed : (st : State) → st ≡ Connecting → st ≡ Disconnected → ⊥
not_closed st a b = let e : Connecting ≡ Disconnected = sym a ∙ b in cc

packets_still : (refusal : ℕ) (gets : Packet → End → Reply) → Does refusal gets → (ps : List Packet) (e : End) → (one_by_one gets ps e).end.state ≡ Connecting → StillWaits e (one_by_one gets ps e)
packets_still refusal gets does [] e h = record { before = h; nothing = refl }
packets_still refusal gets does (p ∷ ps) e h =
    let gone = (all_calm refusal gets does ps (gets p e).end (settled refusal gets does p e)).gone in
    let e : false ≡ true = sym gone ∙ ap is_open h in
    absurd cc

ending_still : (refusal : ℕ) (gets : Packet → End → Reply) (faulted : DecodeFault → End → Reply) → Does refusal gets → BreaksOff refusal faulted → (limit : Bounds) (ps : List Packet) (rest : List ℕ) (e : End) (r : Reply) (held : List ℕ)
    → Ending limit faulted (one_by_one gets ps e) rest r held → r.end.state ≡ Connecting → StillWaits e r
ending_still refusal gets faulted does on_malformed limit ps rest e r held (Waits pending none same is_held) h =
    subst (StillWaits e) (sym same) (packets_still refusal gets does ps e (sym (ap (λ (t : Reply). t.end.state) same) ∙ h))
ending_still refusal gets faulted does on_malformed limit ps rest e r held (Closes reason closed same is_held) h =
    subst (StillWaits e) (sym same) (packets_still refusal gets does ps e (sym (ap (λ (t : Reply). t.end.state) same) ∙ h))
ending_still refusal gets faulted does on_malformed limit ps rest e r held (Breaks fault bad none same is_held) h =
    absurd (not_closed r.end.state h (ap (λ (t : Reply). t.end.state) same ∙ on_malformed.closed fault (one_by_one gets ps e).end))
ending_still refusal gets faulted does on_malformed limit ps rest e r held (Starves more none same is_held) h =
    absurd (not_closed r.end.state h (ap (λ (t : Reply). t.end.state) same))

pub received_still : (refusal : ℕ) (gets : Packet → End → Reply) (faulted : DecodeFault → End → Reply) → Does refusal gets → BreaksOff refusal faulted → (limit : Bounds) (b : List ℕ) (e : End) (r : Reply) (held : List ℕ)
    → Receives limit gets faulted b e r held → r.end.state ≡ Connecting → StillWaits e r
received_still refusal gets faulted does on_malformed limit b e r held h waits = ending_still refusal gets faulted does on_malformed limit h.packets h.rest e r held h.ending waits

-- ---- an end that does not connect

-- An end that waited and did not connect still waits without output, or is closed after at most a
-- refusal.
pub data Stayed (refusal : ℕ) (e : End) (r : Reply) (held : List ℕ) : Type 0 where
  StaysOpen : r ≡ silent e → Stayed refusal e r held
  IsShut : r.end.state ≡ Disconnected → length (encodings r.out) ≤ refusal → held ≡ [] → Stayed refusal e r held

ending_stayed : (refusal : ℕ) (gets : Packet → End → Reply) (faulted : DecodeFault → End → Reply) → BreaksOff refusal faulted → (limit : Bounds) (s : Reply) (rest : List ℕ) (e : End) (r : Reply) (held : List ℕ)
    → Refused refusal s e → Ending limit faulted s rest r held → Stayed refusal e r held
ending_stayed refusal gets faulted on_malformed limit s rest e r held (Nothing is) (Waits pending none same is_held) = StaysOpen (same ∙ is)
ending_stayed refusal gets faulted on_malformed limit s rest e r held (Nothing is) (Closes reason closed same is_held) =
    absurd (not_both s.close reason (ap (λ (t : Reply). t.close) is) closed)
ending_stayed refusal gets faulted on_malformed limit s rest e r held (Nothing is) (Breaks fault bad none same is_held) =
    let all = ap (λ (t : Reply). length (encodings t.out)) same in
    let parts = joined_size s.out (faulted fault s.end).out in
    let before = ap (λ (t : Reply). length (encodings t.out)) is in
    let few = on_malformed.refused fault s.end in
    IsShut (ap (λ (t : Reply). t.end.state) same ∙ on_malformed.closed fault s.end) (omega arith) is_held
ending_stayed refusal gets faulted on_malformed limit s rest e r held (Nothing is) (Starves more none same is_held) =
    let all = ap (λ (t : Reply). length (encodings t.out)) same in
    let parts = joined_size s.out [] in
    let before = ap (λ (t : Reply). length (encodings t.out)) is in
    IsShut (ap (λ (t : Reply). t.end.state) same) (omega arith) is_held
ending_stayed refusal gets faulted on_malformed limit s rest e r held (Closed reason closed shut few) (Closes why again same is_held) =
    let all = ap (λ (t : Reply). length (encodings t.out)) same in
    IsShut (ap (λ (t : Reply). t.end.state) same ∙ shut) (omega arith) is_held
ending_stayed refusal gets faulted on_malformed limit s rest e r held (Closed reason closed shut few) (Waits pending none same is_held) = absurd (not_both s.close reason none closed)
ending_stayed refusal gets faulted on_malformed limit s rest e r held (Closed reason closed shut few) (Breaks fault bad none same is_held) = absurd (not_both s.close reason none closed)
ending_stayed refusal gets faulted on_malformed limit s rest e r held (Closed reason closed shut few) (Starves more none same is_held) = absurd (not_both s.close reason none closed)

pub received_stayed : (refusal : ℕ) (gets : Packet → End → Reply) (faulted : DecodeFault → End → Reply) → Does refusal gets → BreaksOff refusal faulted → (limit : Bounds) (b : List ℕ) (e : End) (r : Reply) (held : List ℕ)
    → Receives limit gets faulted b e r held → e.state ≡ Connecting → has_up_event r.happenings ≡ false → Stayed refusal e r held
received_stayed refusal gets faulted does on_malformed limit b e r held h waits quiet =
    let s : Reply = one_by_one gets h.packets e in
    ending_stayed refusal gets faulted on_malformed limit s h.rest e r held
    (all_refused refusal gets does h.packets e waits (sym (ending_quiet refusal faulted on_malformed limit s h.rest r held h.ending) ∙ quiet)) h.ending

-- ---- held bytes

ending_held : PendingIsShort → (faulted : DecodeFault → End → Reply) (limit : Bounds) (s : Reply) (rest : List ℕ) (r : Reply) (held : List ℕ) → AreBytes rest → Ending limit faulted s rest r held → AreBytes held × (length held ≤ 5 + limit.most)
ending_held short faulted limit s rest r held bytes (Waits pending none same is_held) =
    let few = short limit rest bytes pending in
    let size = ap length is_held in
    (subst AreBytes (sym is_held) bytes, omega arith)
ending_held short faulted limit s rest r held bytes (Closes reason closed same is_held) = nothing held is_held limit
  where
    nothing : (held : List ℕ) → held ≡ [] → (limit : Bounds) → AreBytes held × (length held ≤ 5 + limit.most)
    nothing held is limit = (subst AreBytes (sym is) (λ i. omega arith), let size = ap length is in omega arith)
ending_held short faulted limit s rest r held bytes (Breaks fault bad none same is_held) = (subst AreBytes (sym is_held) (λ i. omega arith), let size = ap length is_held in omega arith)
ending_held short faulted limit s rest r held bytes (Starves more none same is_held) = (subst AreBytes (sym is_held) (λ i. omega arith), let size = ap length is_held in omega arith)

pub received_held : PendingIsShort → (gets : Packet → End → Reply) (faulted : DecodeFault → End → Reply) (limit : Bounds) (b : List ℕ) (e : End) (r : Reply) (held : List ℕ)
    → Receives limit gets faulted b e r held → AreBytes b → AreBytes held × (length held ≤ 5 + limit.most)
received_held short gets faulted limit b e r held h bytes =
    ending_held short faulted limit (one_by_one gets h.packets e) h.rest r held (AreBytes-rest h.front h.rest (subst AreBytes h.parts bytes)) h.ending

-- ---- stored identifiers

ending_stored : (refusal : ℕ) (faulted : DecodeFault → End → Reply) → BreaksOff refusal faulted → (limit : Bounds) (s : Reply) (rest : List ℕ) (r : Reply) (held : List ℕ)
    → Ending limit faulted s rest r held → len r.end.received ≤ len s.end.received
ending_stored refusal faulted on_malformed limit s rest r held (Waits pending none same is_held) = let e = ap (λ (t : Reply). len t.end.received) same in omega arith
ending_stored refusal faulted on_malformed limit s rest r held (Closes reason closed same is_held) = let e = ap (λ (t : Reply). len t.end.received) same in omega arith
ending_stored refusal faulted on_malformed limit s rest r held (Breaks fault bad none same is_held) =
    let e = ap (λ (t : Reply). len t.end.received) same in
    let less = on_malformed.stores fault s.end in
    omega arith
ending_stored refusal faulted on_malformed limit s rest r held (Starves more none same is_held) =
    let e = ap (λ (t : Reply). len t.end.received) same in
    let less = over_stores s.end 0 in
    omega arith

pub received_stored : (refusal : ℕ) (gets : Packet → End → Reply) (faulted : DecodeFault → End → Reply) → Does refusal gets → BreaksOff refusal faulted → (limit : Bounds) (b : List ℕ) (e : End) (r : Reply) (held : List ℕ)
    → Receives limit gets faulted b e r held → 7 * len r.end.received ≤ 7 * len e.received + length b
received_stored refusal gets faulted does on_malformed limit b e r held h =
    let s : Reply = one_by_one gets h.packets e in
    let all = all_stored refusal gets does limit h.packets h.front e h.stream in
    let less = ending_stored refusal faulted on_malformed limit s h.rest r held h.ending in
    let whole = ap length h.parts ∙ length-append h.front h.rest in
    omega arith
