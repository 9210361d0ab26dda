-- Received bytes: complete packets, and a rest.
use Rattle.std.proofs.Common.{◌≡◌, ℕ, ◌<◌, ◌+◌, List, [], ◌∷◌, ◌++◌, length, Option, Some, None, refl, sym, ap, subst, ◌∙◌, append_assoc, arith}
use Rattle.std.proofs.lemmas.List.{length-append}
use Rattle.mq_packet.specs.declared.packet.Packet.{Packet}
use Rattle.mq_decode.specs.declared.fault.FaultKind.{FaultKind}
use Rattle.mq_decode.specs.declared.fault.DecodeFault.{DecodeFault}
use Rattle.mq_decode.specs.Limits.{Bounds}
use Rattle.mq_decode.specs.Grammar.{Stream, Pending, Faulty, AtFirst, AtLength, AtSize, AtField, Reading, Begins}
use Rattle.mq_decode.specs.Laws.{ReadsAgain}
use Rattle.mq_end.specs.declared.reason.CloseReason.{CloseReason}
use Rattle.mq_end.specs.declared.reason.CloseReason.TheVariants as reasons
use Rattle.mq_end.specs.End.{End, Reply, first_reason, followed, one_by_one, closes}
use Rattle.mq_end.specs.Receiving.{Receives, Waits, Closes, Breaks, Starves, Taken, TakesAll, Closed, Starved}

-- ---- streams and their rests

pub record Split (limit : Bounds) (ps qs : List Packet) (b : List ℕ) : Type 0 where
  pub front : List ℕ
  pub rest : List ℕ
  pub first : Stream limit ps front
  pub second : Stream limit qs rest
  pub parts : b ≡ front ++ rest

pub split : (limit : Bounds) (ps qs : List Packet) (b : List ℕ) → Stream limit (ps ++ qs) b → Split limit ps qs b
split limit [] qs b h = record { front = []; rest = b; first = refl; second = h; parts = refl }
split limit (p ∷ ps) qs b h =
    let s = split limit ps qs h.1 h.3 in
    record { front = h.0 ++ s.front; rest = s.rest; first = (h.0, s.front, h.2, s.first, refl); second = s.second; parts = h.4 ∙ ap (λ (t : List ℕ). h.0 ++ t) s.parts ∙ sym (append_assoc h.0 s.front s.rest) }

-- A fault belongs to a byte.
pub faulty_some : (limit : Bounds) (b : List ℕ) (k : FaultKind) (place : ℕ) → Faulty limit b k place → 0 < length b
faulty_some limit b k place (AtFirst h) = subst (λ (t : List ℕ). 0 < length t) (sym h.bytes) (omega arith)
faulty_some limit b k place (AtLength h) = subst (λ (t : List ℕ). 0 < length t) (sym h.bytes) (omega arith)
faulty_some limit b k place (AtSize h) = subst (λ (t : List ℕ). 0 < length t) (sym h.bytes) (omega arith)
faulty_some limit b k place (AtField h) = subst (λ (t : List ℕ). 0 < length t) (sym h.bytes) (omega arith)

-- no bytes are an incomplete packet
pub pending_nil : (limit : Bounds) → ReadsAgain → Pending limit []
pending_nil limit again = record {
  not_whole = λ p first rest h parts. absurd (omega (arith, again.some limit p first h, ap length parts, length-append first rest));
  not_faulty = λ k place h. absurd (omega (arith, faulty_some limit [] k place h));
}

-- a packet takes a byte
stream_some : (limit : Bounds) (p : Packet) (ps : List Packet) (b more : List ℕ) → ReadsAgain → Stream limit (p ∷ ps) b → 0 < length (b ++ more)
stream_some limit p ps b more again h =
    let a = again.some limit p h.0 h.2 in
    let e : length (b ++ more) ≡ (length h.0 + length h.1) + length more = length-append b more ∙ ap (λ (n : ℕ). n + length more) (ap length h.4 ∙ length-append h.0 h.1) in
    omega arith

-- ---- Packets that were processed

not_both : (a : Option CloseReason) (reason : CloseReason) → a ≡ None → a ≡ Some reason → ⊥
not_both a reason h k =
    let e : None ≡ Some reason = sym h ∙ k in
    cc

-- If the end did not close, all packets were processed.
pub record TakenAll (gets : Packet → End → Reply) (ps : List Packet) (e : End) (r : Reply) : Type 0 where
  pub going : (one_by_one gets ps e).close ≡ None
  pub all : r ≡ one_by_one gets ps e

pub taken_all : (gets : Packet → End → Reply) (ps : List Packet) (e : End) (r : Reply) → Taken gets ps e r → r.close ≡ None → TakenAll gets ps e r
taken_all gets ps e r (TakesAll going all) none = record { going = going; all = all }
taken_all gets ps e r (Closed first rest reason parts shut all) none = absurd (not_both r.close reason none (ap (λ (s : Reply). s.close) all ∙ shut))
taken_all gets ps e r (Starved first rest p parts going all) none =
    absurd (not_both r.close reasons.Memory none (ap (λ (s : Reply). s.close) all ∙ ap (λ (c : Option CloseReason). first_reason c (Some reasons.Memory)) going))

-- It closed among the packets of a stream.
pub received_shut : (limit : Bounds) (gets : Packet → End → Reply) (faulted : DecodeFault → End → Reply) (ps : List Packet) (b front rest : List ℕ) (e : End) (r : Reply) (reason : CloseReason) (held : List ℕ)
    → ReadsAgain → Stream limit ps front → b ≡ front ++ rest → Taken gets ps e r → r.close ≡ Some reason → held ≡ [] → Receives limit gets faulted b e r held
received_shut limit gets faulted ps b front rest e r reason held again stream parts (TakesAll going all) shut none =
    absurd (not_both r.close reason (ap (λ (s : Reply). s.close) all ∙ going) shut)
received_shut limit gets faulted ps b front rest e r reason held again stream parts (Closed first last why cut shut all) closed none =
    let s = split limit first last front (subst (λ (t : List Packet). Stream limit t front) cut stream) in
    record {
      packets = first;
      front = s.front;
      rest = s.rest ++ rest;
      stream = s.first;
      parts = parts ∙ ap (λ (t : List ℕ). t ++ rest) s.parts ∙ append_assoc s.front s.rest rest;
      ending = Closes why shut all none;
    }
received_shut limit gets faulted ps b front rest e r reason held again stream parts (Starved first last p cut going all) closed none =
    let s = split limit first (p ∷ last) front (subst (λ (t : List Packet). Stream limit t front) cut stream) in
    record {
      packets = first;
      front = s.front;
      rest = s.rest ++ rest;
      stream = s.first;
      parts = parts ∙ ap (λ (t : List ℕ). t ++ rest) s.parts ∙ append_assoc s.front s.rest rest;
      ending = Starves (stream_some limit p last s.rest rest again s.second) going all none;
    }

-- All packets were processed, and an incomplete one is held.
pub received_all : (limit : Bounds) (gets : Packet → End → Reply) (faulted : DecodeFault → End → Reply) (ps : List Packet) (b rest : List ℕ) (e : End) (r : Reply) (held : List ℕ)
    → Reading limit b ps rest None → Taken gets ps e r → r.close ≡ None → held ≡ rest → Receives limit gets faulted b e r held
received_all limit gets faulted ps b rest e r held reading taken none same =
    let t = taken_all gets ps e r taken none in
    record { packets = ps; front = reading.front; rest = rest; stream = reading.stream; parts = reading.parts; ending = Waits reading.ends t.going t.all same }

-- A fault follows them.
pub received_fault : (limit : Bounds) (gets : Packet → End → Reply) (faulted : DecodeFault → End → Reply) (ps : List Packet) (b rest : List ℕ) (fault : DecodeFault) (e : End) (r : Reply)
    → Reading limit b ps rest (Some fault) → Taken gets ps e r → r.close ≡ None → Receives limit gets faulted b e (followed r (faulted fault r.end)) []
received_fault limit gets faulted ps b rest fault e r reading taken none =
    let t = taken_all gets ps e r taken none in
    record { packets = ps; front = reading.front; rest = rest; stream = reading.stream; parts = reading.parts; ending = Breaks fault reading.ends t.going (ap (λ (s : Reply). followed s (faulted fault s.end)) t.all) refl }

-- A fault follows them, and an allocation for its response failed.
pub received_fault_starved : (limit : Bounds) (gets : Packet → End → Reply) (faulted : DecodeFault → End → Reply) (ps : List Packet) (b rest : List ℕ) (fault : DecodeFault) (e : End) (r : Reply)
    → Reading limit b ps rest (Some fault) → Taken gets ps e r → r.close ≡ None → Receives limit gets faulted b e (followed r (closes reasons.Memory r.end)) []
received_fault_starved limit gets faulted ps b rest fault e r reading taken none =
    let t = taken_all gets ps e r taken none in
    record {
      packets = ps;
      front = reading.front;
      rest = rest;
      stream = reading.stream;
      parts = reading.parts;
      ending = Starves (faulty_some limit rest fault.kind fault.place reading.ends) t.going (ap (λ (s : Reply). followed s (closes reasons.Memory s.end)) t.all) refl;
    }

-- An allocation failed for a packet behind them.
pub received_starved : (limit : Bounds) (gets : Packet → End → Reply) (faulted : DecodeFault → End → Reply) (ps : List Packet) (b : List ℕ) (e : End) (r : Reply)
    → Begins limit b ps → Taken gets ps e r → r.close ≡ None → Receives limit gets faulted b e (followed r (closes reasons.Memory r.end)) []
received_starved limit gets faulted ps b e r begins taken none =
    let t = taken_all gets ps e r taken none in
    record {
      packets = ps;
      front = begins.front;
      rest = begins.rest;
      stream = begins.stream;
      parts = begins.parts;
      ending = Starves begins.left t.going (ap (λ (s : Reply). followed s (closes reasons.Memory s.end)) t.all) refl;
    }
