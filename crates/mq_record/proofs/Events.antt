-- Events that are encoded and read back.
use Rattle.std.proofs.Common.{◌≡◌, ◌≢◌, inl, inr, ℕ, suc, ◌+◌, ◌<◌, ◌≤◌, Bool, true, List, [], ◌∷◌, ◌++◌, length, take, drop, get_or, refl, sym, ◌∙◌, ap, subst, arith, length-append, length-take, length-drop, append_assoc, take-append-drop, if◌then◌else◌, nat_le, Result, Ok, Err}
use Rattle.std.proofs.Math.Seq.{take-append_seam}
use Rattle.std.proofs.lemmas.List.{append-nil, drop-drop, get_or-append-add}
use Rattle.std.proofs.lemmas.Bool.{cases_eq, cases_Bool, le-leb, ne_eqb, leb-true, false≢true}
use Rattle.mq_wire.specs.Bytes.{AreBytes}
use Rattle.mq_route.specs.declared.conn.Conn.{Conn}
use Rattle.mq_route.specs.declared.event.HubEvent.{HubEvent}
use Rattle.mq_route.specs.declared.event.HubEvent.TheVariants.{Opened, Bytes, Ended, Tick, Collect}
use Rattle.mq_record.specs.declared.fault.RecordFault.{RecordFault}
use Rattle.mq_record.specs.declared.fault.RecordFault.TheVariants.{Cut, Tag}
use Rattle.mq_record.specs.Encoding.{four_bytes, eight_bytes, conn_bytes, event_bytes, entry_bytes, is_recorded}
use Rattle.mq_record.specs.Reading.{four_in, eight_in, conn_in, if_whole, read_tagged, read_event, AreRecorded}
use Rattle.mq_record.specs.Laws.{IsFront}
use Rattle.mq_record.proofs.Digits.{conn_law, four_law, eight_law, conn_again, eight_again, four_again}

abbrev pub okay : HubEvent × ℕ → Result (HubEvent × ℕ) RecordFault
okay found = Ok found

abbrev pub failed : RecordFault → Result (HubEvent × ℕ) RecordFault
failed fault = Err fault

pub whole : (b : List ℕ) (n : ℕ) (event : HubEvent) → n ≤ length b → if_whole b n event ≡ Ok (event, n + 1)
whole b n event le = ap (λ (q : Bool). if q then okay (event, n + 1) else Err Cut) (le-leb n (length b) le)

pub event_again : (event : HubEvent) (rest : List ℕ) → is_recorded event ≡ true → read_event (event_bytes event ++ rest) ≡ Ok (event, length (event_bytes event))
event_again (Opened conn) rest is =
    whole (conn_bytes conn ++ rest) 6 (Opened (conn_in (conn_bytes conn ++ rest))) (omega arith)
    ∙ ap (λ (c : Conn). okay (Opened c, 7)) (conn_again conn rest)
event_again (Bytes conn piece) rest is =
    let b : List ℕ = (conn_bytes conn ++ (four_bytes (length piece) ++ piece)) ++ rest in
    let m : ℕ = four_in b 6 in
    let m_is : m ≡ length piece = four_again (length piece) in
    let taken : take m (piece ++ rest) ≡ piece = ap (λ (k : ℕ). take k (piece ++ rest)) m_is ∙ take-append_seam piece rest in
    let size : 10 + m + 1 ≡ length (event_bytes (Bytes conn piece)) = omega (arith, m_is) in
    whole b (10 + m) (Bytes (conn_in b) (take m (piece ++ rest))) (omega (arith, m_is, length-append piece rest))
    ∙ ap (λ (c : Conn). okay (Bytes c (take m (piece ++ rest)), 10 + m + 1)) (conn_again conn ((four_bytes (length piece) ++ piece) ++ rest))
    ∙ ap (λ (l : List ℕ). okay (Bytes conn l, 10 + m + 1)) taken
    ∙ ap (λ (k : ℕ). okay (Bytes conn piece, k)) size
event_again (Ended conn) rest is =
    whole (conn_bytes conn ++ rest) 6 (Ended (conn_in (conn_bytes conn ++ rest))) (omega arith)
    ∙ ap (λ (c : Conn). okay (Ended c, 7)) (conn_again conn rest)
event_again (Tick now) rest is =
    whole (eight_bytes now ++ rest) 8 (Tick (eight_in (eight_bytes now ++ rest) 0)) (omega arith)
    ∙ ap (λ (n : ℕ). okay (Tick n, 9)) (eight_again now rest)
event_again (Collect conn) rest is = absurd (false≢true is)

pub whole_found : (b : List ℕ) (n : ℕ) (event found : HubEvent) (size : ℕ) → if_whole b n event ≡ Ok (found, size)
    → (n ≤ length b) × (event ≡ found) × (n + 1 ≡ size)
whole_found b n event found size is = elim (cases_Bool (nat_le n (length b))) [
  | inl fits ↦
      let le : n ≤ length b = leb-true n (length b) fits in
      let same : okay (event, n + 1) ≡ okay (found, size) = sym (whole b n event le) ∙ is in
      let parts : ◌≡◌ {A = HubEvent × ℕ} (event, n + 1) (found, size) = cc in
      (le, ap (λ (x : HubEvent × ℕ). x.0) parts, ap (λ (x : HubEvent × ℕ). x.1) parts)
  | inr short ↦
      let cut : failed Cut ≡ Ok (found, size) = sym (ap (λ (q : Bool). if q then okay (event, n + 1) else Err Cut) short) ∙ is in
      absurd (cc)
]

pub by_tag : (P : ℕ → Type 0) (t : ℕ) → P 1 → P 2 → P 3 → P 4 → (t ≢ 1 → t ≢ 2 → t ≢ 3 → t ≢ 4 → P t) → P t
by_tag P t p1 p2 p3 p4 other = elim (cases_eq t 1) [
  | inl is ↦ subst P (sym is) p1
  | inr n1 ↦ elim (cases_eq t 2) [
    | inl is ↦ subst P (sym is) p2
    | inr n2 ↦ elim (cases_eq t 3) [
      | inl is ↦ subst P (sym is) p3
      | inr n3 ↦ elim (cases_eq t 4) [
        | inl is ↦ subst P (sym is) p4
        | inr n4 ↦ other n1 n2 n3 n4
      ]
    ]
  ]
]

pub unknown : (t : ℕ) (b : List ℕ) → t ≢ 1 → t ≢ 2 → t ≢ 3 → t ≢ 4 → read_tagged t b ≡ Err (Tag t)
unknown t b n1 n2 n3 n4 = simp (ne_eqb t 1 n1, ne_eqb t 2 n2, ne_eqb t 3 n3, ne_eqb t 4 n4)

moved : (event found : HubEvent) (n size : ℕ) (b : List ℕ) → event ≡ found → n ≡ size → IsFront event n b → IsFront found size b
moved event found n size b same count front =
    subst (λ (k : ℕ). IsFront found k b) count (subst (λ (f : HubEvent). IsFront f n b) same front)

opened_found : (b : List ℕ) (event : HubEvent) (size : ℕ) → AreBytes b → read_tagged 1 b ≡ Ok (event, size) → IsFront event size (1 ∷ b)
opened_found b event size small is =
    let w = whole_found b 6 (Opened (conn_in b)) event size is in
    moved (Opened (conn_in b)) event 7 size (1 ∷ b) w.1 w.2 (record {
      recorded = refl;
      parts = ap (λ (l : List ℕ). 1 ∷ l) (conn_law b small w.0);
      size_is = refl;
    })

ended_found : (b : List ℕ) (event : HubEvent) (size : ℕ) → AreBytes b → read_tagged 3 b ≡ Ok (event, size) → IsFront event size (3 ∷ b)
ended_found b event size small is =
    let w = whole_found b 6 (Ended (conn_in b)) event size is in
    moved (Ended (conn_in b)) event 7 size (3 ∷ b) w.1 w.2 (record {
      recorded = refl;
      parts = ap (λ (l : List ℕ). 3 ∷ l) (conn_law b small w.0);
      size_is = refl;
    })

tick_found : (b : List ℕ) (event : HubEvent) (size : ℕ) → AreBytes b → read_tagged 4 b ≡ Ok (event, size) → IsFront event size (4 ∷ b)
tick_found b event size small is =
    let w = whole_found b 8 (Tick (eight_in b 0)) event size is in
    moved (Tick (eight_in b 0)) event 9 size (4 ∷ b) w.1 w.2 (record {
      recorded = refl;
      parts = ap (λ (l : List ℕ). 4 ∷ l) (eight_law b small w.0);
      size_is = refl;
    })

piece_front : (b : List ℕ) → AreBytes b → 10 + four_in b 6 ≤ length b
    → IsFront (Bytes (conn_in b) (take (four_in b 6) (drop 10 b))) (10 + four_in b 6 + 1) (2 ∷ b)
piece_front [] small le = absurd (omega arith)
piece_front (a ∷ []) small le = absurd (omega arith)
piece_front (a ∷ b ∷ []) small le = absurd (omega arith)
piece_front (a ∷ b ∷ c ∷ []) small le = absurd (omega arith)
piece_front (a ∷ b ∷ c ∷ d ∷ []) small le = absurd (omega arith)
piece_front (a ∷ b ∷ c ∷ d ∷ e ∷ []) small le = absurd (omega arith)
piece_front (a ∷ b ∷ c ∷ d ∷ e ∷ f ∷ r) small le =
    let all : List ℕ = a ∷ b ∷ c ∷ d ∷ e ∷ f ∷ r in
    let n : ℕ = four_in r 0 in
    let behind : AreBytes r = λ i. small (suc (suc (suc (suc (suc (suc i)))))) in
    let piece : List ℕ = take n (drop 4 r) in
    let count : length piece ≡ n = omega (arith, length-take n (drop 4 r), length-drop 4 r, le) in
    let last : drop (10 + n + 1) (2 ∷ all) ≡ drop n (drop 4 r) =
    ap (λ (k : ℕ). drop k (2 ∷ all)) (omega arith) ∙ sym (drop-drop n 11 (2 ∷ all)) in
    record {
      recorded = refl;
      parts =
          ap (λ (l : List ℕ). 2 ∷ l) (conn_law all small (omega arith))
          ∙ ap (λ (l : List ℕ). 2 ∷ (conn_bytes (conn_in all) ++ l)) (four_law r behind (omega arith))
          ∙ ap (λ (l : List ℕ). 2 ∷ (conn_bytes (conn_in all) ++ (four_bytes n ++ l))) (sym (take-append-drop n (drop 4 r)))
          ∙ ap (λ (k : ℕ). 2 ∷ (conn_bytes (conn_in all) ++ (four_bytes k ++ (piece ++ drop n (drop 4 r))))) (sym count)
          ∙ ap (λ (l : List ℕ). 2 ∷ (conn_bytes (conn_in all) ++ (four_bytes (length piece) ++ (piece ++ l)))) (sym last);
      size_is = omega (arith, count);
    }

piece_found : (b : List ℕ) (event : HubEvent) (size : ℕ) → AreBytes b → read_tagged 2 b ≡ Ok (event, size) → IsFront event size (2 ∷ b)
piece_found b event size small is =
    let made : HubEvent = Bytes (conn_in b) (take (four_in b 6) (drop 10 b)) in
    let w = whole_found b (10 + four_in b 6) made event size is in
    moved made event (10 + four_in b 6 + 1) size (2 ∷ b) w.1 w.2 (piece_front b small w.0)

pub event_found : (b : List ℕ) (event : HubEvent) (size : ℕ) → AreBytes b → read_event b ≡ Ok (event, size) → IsFront event size b
event_found [] event size small is = absurd (cc)
event_found (t ∷ b) event size small is =
    let behind : AreBytes b = λ i. small (suc i) in
    by_tag (λ (k : ℕ). read_tagged k b ≡ Ok (event, size) → IsFront event size (k ∷ b)) t
    (opened_found b event size behind) (piece_found b event size behind)
    (ended_found b event size behind) (tick_found b event size behind)
    (λ n1 n2 n3 n4 found. let bad : failed (Tag t) ≡ Ok (event, size) = sym (unknown t b n1 n2 n3 n4) ∙ found in absurd (cc)) is

pub some_bytes : (event : HubEvent) → is_recorded event ≡ true → 0 < length (event_bytes event)
some_bytes (Opened conn) is = omega arith
some_bytes (Bytes conn piece) is = omega arith
some_bytes (Ended conn) is = omega arith
some_bytes (Tick now) is = omega arith
some_bytes (Collect conn) is = absurd (false≢true is)

pub size_within : (b : List ℕ) (event : HubEvent) (size : ℕ) → AreBytes b → read_event b ≡ Ok (event, size) → (0 < size) × (size ≤ length b)
size_within b event size small is =
    let front = event_found b event size small is in
    let some = some_bytes event front.recorded in
    let count : length b ≡ length (event_bytes event) + length (drop size b) = ap length front.parts ∙ length-append (event_bytes event) (drop size b) in
    let size_is : size ≡ length (event_bytes event) = front.size_is in
    (omega (arith, some, size_is), omega (arith, count, size_is))

entry_push : (events : List HubEvent) (event : HubEvent) → entry_bytes (events ++ event ∷ []) ≡ entry_bytes events ++ event_bytes event
entry_push [] event = append-nil (event_bytes event)
entry_push (x ∷ events) event = ap (λ (l : List ℕ). event_bytes x ++ l) (entry_push events event) ∙ sym (append_assoc (event_bytes x) (entry_bytes events) (event_bytes event))

pub recorded_push : (events : List HubEvent) (event : HubEvent) → AreRecorded events → is_recorded event ≡ true → AreRecorded (events ++ event ∷ [])
recorded_push [] event all is = (is, tt)
recorded_push (x ∷ events) event all is = (all.0, recorded_push events event all.1 is)

pub entry_step : (events : List HubEvent) (event : HubEvent) (size : ℕ) (b all : List ℕ) → IsFront event size b
    → all ≡ entry_bytes events ++ b → all ≡ entry_bytes (events ++ event ∷ []) ++ drop size b
entry_step events event size b all front so_far =
    so_far
    ∙ ap (λ (l : List ℕ). entry_bytes events ++ l) front.parts
    ∙ sym (append_assoc (entry_bytes events) (event_bytes event) (drop size b))
    ∙ ap (λ (l : List ℕ). l ++ drop size b) (sym (entry_push events event))

pub bytes_behind : (front b all : List ℕ) → AreBytes all → all ≡ front ++ b → AreBytes b
bytes_behind front b all small parts i =
    let same : get_or all (length front + i) 0 ≡ get_or b i 0 = ap (λ (l : List ℕ). get_or l (length front + i) 0) parts ∙ get_or-append-add front b i 0 in
    omega (arith, same, small (length front + i))
