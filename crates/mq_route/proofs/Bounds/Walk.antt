-- Packets one after another.
use Rattle.std.proofs.Common.{◌≡◌, ℕ, ◌+◌, ◌*◌, ◌≤◌, Bool, true, false, ◌||◌, cond, List, [], ◌∷◌, ◌++◌, length, Option, Some, refl, sym, ap, ◌∙◌, arith}
use Rattle.std.specs.FinSet.{len}
use Rattle.std.proofs.lemmas.List.{length-append}
use Rattle.std.proofs.lemmas.List.Folds.{list_any-append}
use Rattle.mq_packet.specs.declared.packet.Packet.{Packet}
use Rattle.mq_packet.specs.Encoding.{fields, encodings}
use Rattle.mq_decode.specs.declared.fault.DecodeFault.{DecodeFault}
use Rattle.mq_decode.specs.Limits.{Bounds}
use Rattle.mq_decode.specs.Grammar.{Stream, Faulty}
use Rattle.mq_end.specs.declared.state.State.{State}
use Rattle.mq_end.specs.declared.state.State.TheVariants.{Disconnected, Connecting, Connected}
use Rattle.mq_end.specs.declared.happening.Happening.{Happening}
use Rattle.mq_end.specs.declared.reason.CloseReason.{CloseReason}
use Rattle.mq_end.specs.End.{End, Reply, silent, one_by_one, first_reason}
use Rattle.mq_end.specs.Ready.{is_exactly_once}
use Rattle.mq_flow.specs.Sender.{SenderBook}
use Rattle.mq_route.specs.Bounds.Costs.{is_up_event, has_up_event, book_for, sent_again}
use Rattle.mq_route.proofs.Bounds.Lengths.{read_size, joined_size}
use Rattle.mq_route.proofs.Bounds.Packets.{OutWithin}
use Rattle.mq_route.proofs.Bounds.Rises.{is_open, IsCalm, Opens}
use Rattle.mq_route.proofs.Bounds.Stored.{StoresWithin, stored_size}

-- The lemmas about each packet at an end.
pub record Does (refusal : ℕ) (gets : Packet → End → Reply) : Type 0 where
  pub answer : (p : Packet) (e : End) → OutWithin (2 + length (fields p)) (book_for p e.book) (gets p e)
  pub calm : (p : Packet) (e : End) → is_open e.state ≡ false → IsCalm (gets p e)
  pub opens : (p : Packet) (e : End) → e.state ≡ Connecting → Opens refusal (gets p e)
  pub stores : (p : Packet) (e : End) → StoresWithin (cond (is_exactly_once p) 1 0) e (gets p e).end
  pub ignores : (ps : List Packet) (e : End) → e.state ≡ Disconnected → one_by_one gets ps e ≡ silent e

-- The lemmas about malformed bytes.
pub record BreaksOff (refusal : ℕ) (faulted : DecodeFault → End → Reply) : Type 0 where
  pub quiet : (fault : DecodeFault) (e : End) → has_up_event (faulted fault e).happenings ≡ false
  pub closed : (fault : DecodeFault) (e : End) → (faulted fault e).end.state ≡ Disconnected
  pub short : (limit : Bounds) (b : List ℕ) (fault : DecodeFault) (e : End) → Faulty limit b fault.kind fault.place → length (encodings (faulted fault e).out) ≤ length b
  pub refused : (fault : DecodeFault) (e : End) → length (encodings (faulted fault e).out) ≤ refusal
  pub stores : (fault : DecodeFault) (e : End) → StoresWithin 0 e (faulted fault e).end

-- ---- tests

or_none : (a b : Bool) → b ≡ false → (a || b) ≡ a
or_none true b h = refl
or_none false b h = h

first_none : (a b : Bool) → (a || b) ≡ false → a ≡ false
first_none true b h = absurd cc
first_none false b h = refl

-- a report that is no connection doesn't change whether the end connects
pub told_after : (first later : List Happening) → has_up_event later ≡ false → has_up_event (first ++ later) ≡ has_up_event first
told_after first later h = list_any-append is_up_event first later ∙ or_none (has_up_event first) (has_up_event later) h

told_first : (first later : List Happening) → has_up_event (first ++ later) ≡ false → has_up_event first ≡ false
told_first first later h = first_none (has_up_event first) (has_up_event later) (sym (list_any-append is_up_event first later) ∙ h)

-- ---- packets

-- after a packet, an end doesn't wait for the first one
pub settled : (refusal : ℕ) (gets : Packet → End → Reply) → Does refusal gets → (p : Packet) (e : End) → is_open (gets p e).end.state ≡ false
settled refusal gets does p e = by e.state refl
  where
    by : (st : State) → e.state ≡ st → is_open (gets p e).end.state ≡ false
    by Disconnected h = (does.calm p e (ap is_open h)).gone
    by Connecting h = (does.opens p e h).gone
    by Connected h = (does.calm p e (ap is_open h)).gone

pub all_calm : (refusal : ℕ) (gets : Packet → End → Reply) → Does refusal gets → (ps : List Packet) (e : End) → is_open e.state ≡ false → IsCalm (one_by_one gets ps e)
all_calm refusal gets does [] e h = record { quiet = refl; gone = h }
all_calm refusal gets does (p ∷ ps) e h =
    let first = does.calm p e h in
    let later = all_calm refusal gets does ps (gets p e).end first.gone in
    record {
      quiet = told_after (gets p e).happenings (one_by_one gets ps (gets p e).end).happenings later.quiet ∙ first.quiet;
      gone = later.gone;
    }

-- the book with which the first of these packets connects an end
abbrev pub first_book : List Packet → SenderBook → SenderBook
first_book [] book = book
first_book (p ∷ ps) book = book_for p book

pub all_out : (refusal : ℕ) (gets : Packet → End → Reply) → Does refusal gets → (limit : Bounds) (ps : List Packet) (front : List ℕ) (e : End) → Stream limit ps front
    → length (encodings (one_by_one gets ps e).out) ≤ length front + length (sent_again (has_up_event (one_by_one gets ps e).happenings) (first_book ps e.book))
all_out refusal gets does limit [] front e h = omega arith
all_out refusal gets does limit (p ∷ ps) front e h =
    let r : Reply = gets p e in
    let s : Reply = one_by_one gets ps r.end in
    let one = does.answer p e in
    let size = read_size limit.lenient p h.0 h.2.0 in
    let calm = all_calm refusal gets does ps r.end (settled refusal gets does p e) in
    let later = all_out refusal gets does limit ps h.1 r.end h.3 in
    let none = ap (λ (b : Bool). length (sent_again b (first_book ps r.end.book))) calm.quiet in
    let same = ap (λ (b : Bool). length (sent_again b (book_for p e.book))) (told_after r.happenings s.happenings calm.quiet) in
    let parts = joined_size r.out s.out in
    let whole = ap length h.4 ∙ length-append h.0 h.1 in
    omega arith

pub all_stored : (refusal : ℕ) (gets : Packet → End → Reply) → Does refusal gets → (limit : Bounds) (ps : List Packet) (front : List ℕ) (e : End) → Stream limit ps front
    → 7 * len (one_by_one gets ps e).end.received ≤ 7 * len e.received + length front
all_stored refusal gets does limit [] front e h = omega arith
all_stored refusal gets does limit (p ∷ ps) front e h =
    let r : Reply = gets p e in
    let one = does.stores p e in
    let size = stored_size limit.lenient p h.0 h.2.0 in
    let later = all_stored refusal gets does limit ps h.1 r.end h.3 in
    let whole = ap length h.4 ∙ length-append h.0 h.1 in
    omega arith

-- a waiting end that does not connect got nothing, or closed
pub data Refused (refusal : ℕ) (s : Reply) (e : End) : Type 0 where
  Nothing : s ≡ silent e → Refused refusal s e
  Closed : (reason : CloseReason) → s.close ≡ Some reason → s.end.state ≡ Disconnected → length (encodings s.out) ≤ refusal → Refused refusal s e

pub all_refused : (refusal : ℕ) (gets : Packet → End → Reply) → Does refusal gets → (ps : List Packet) (e : End) → e.state ≡ Connecting → has_up_event (one_by_one gets ps e).happenings ≡ false → Refused refusal (one_by_one gets ps e) e
all_refused refusal gets does [] e waits quiet = Nothing refl
all_refused refusal gets does (p ∷ ps) e waits quiet =
    let r : Reply = gets p e in
    let s : Reply = one_by_one gets ps r.end in
    let shut = (does.opens p e waits).shut (told_first r.happenings s.happenings quiet) in
    let ignored = does.ignores ps r.end shut.2 in
    let parts = joined_size r.out s.out in
    let none = ap (λ (t : Reply). length (encodings t.out)) ignored in
    let few = shut.3 in
    Closed shut.0 (ap (λ (c : Option CloseReason). first_reason c s.close) shut.1) (ap (λ (t : Reply). t.end.state) ignored ∙ shut.2) (omega arith)
