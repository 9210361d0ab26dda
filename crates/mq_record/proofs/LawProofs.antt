-- Proofs of the laws of recorded events.
use Rattle.std.proofs.Common.{◌≡◌, ◌≢◌, inl, inr, ℕ, zero, suc, ◌+◌, ◌-◌, ◌<◌, ◌≤◌, Bool, true, List, [], ◌∷◌, ◌++◌, length, take, drop, get_or, refl, sym, ◌∙◌, ap, subst, arith, length-append, append_assoc, if◌then◌else◌, nat_le, Ok, Err}
use Rattle.std.proofs.Math.Seq.{drop-append_seam}
use Rattle.std.proofs.lemmas.List.{append-nil, drop_all, get_or_append_left}
use Rattle.std.proofs.lemmas.Bool.{cases_Bool, leb-true, leb-false, false≢true}
use Rattle.mq_wire.specs.Bytes.{AreBytes}
use Rattle.mq_route.specs.declared.conn.Conn.{Conn}
use Rattle.mq_route.specs.declared.event.HubEvent.{HubEvent}
use Rattle.mq_route.specs.declared.event.HubEvent.TheVariants.{Opened, Bytes, Ended, Tick, Collect}
use Rattle.mq_record.specs.declared.fault.RecordFault.{RecordFault}
use Rattle.mq_record.specs.declared.fault.RecordFault.TheVariants.{Cut, Tag}
use Rattle.mq_record.specs.Encoding.{four_bytes, eight_bytes, conn_bytes, event_bytes, entry_bytes, is_recorded}
use Rattle.mq_record.specs.Reading.{four_in, eight_in, conn_in, if_whole, read_tagged, read_event, AreRecorded}
use Rattle.mq_record.specs.Laws.{IsCut, HasUnknownTag, RecordLaws}
use Rattle.mq_record.proofs.Digits.{four_again}
use Rattle.mq_record.proofs.Events.{okay, failed, whole, event_again, event_found, by_tag, unknown, some_bytes}

-- one encoding each
one : (event other : HubEvent) (rest more : List ℕ) → is_recorded event ≡ true → is_recorded other ≡ true
    → event_bytes event ++ rest ≡ event_bytes other ++ more → event ≡ other
one event other rest more is is2 same =
    let n = length (event_bytes event) in
    let m = length (event_bytes other) in
    let read : okay (event, n) ≡ okay (other, m) = sym (event_again event rest is) ∙ ap read_event same ∙ event_again other more is2 in
    let pair : ◌≡◌ {A = HubEvent × ℕ} (event, n) (other, m) = cc in
    ap (λ (x : HubEvent × ℕ). x.0) pair

same_rest : (event : HubEvent) (rest more : List ℕ) → event_bytes event ++ rest ≡ event_bytes event ++ more → rest ≡ more
same_rest event rest more same =
    sym (drop-append_seam (event_bytes event) rest)
    ∙ ap (λ (l : List ℕ). drop (length (event_bytes event)) l) same
    ∙ drop-append_seam (event_bytes event) more

-- the two lists of events begin with one event, and the bytes behind it are the same
next_same : (event other : HubEvent) (rest more : List ℕ) → is_recorded event ≡ true → is_recorded other ≡ true
    → event_bytes event ++ rest ≡ event_bytes other ++ more → (event ≡ other) × (rest ≡ more)
next_same event other rest more is is2 same =
    let equal = one event other rest more is is2 same in
    (equal, same_rest event rest more (same ∙ ap (λ (e : HubEvent). event_bytes e ++ more) (sym equal)))

not_empty : (event : HubEvent) (rest : List ℕ) → is_recorded event ≡ true → [] ≡ event_bytes event ++ rest → ⊥
not_empty event rest is same = omega (arith, ap length same, length-append (event_bytes event) rest, some_bytes event is)

same_events : (events others : List HubEvent) → AreRecorded events → AreRecorded others → entry_bytes events ≡ entry_bytes others → events ≡ others
same_events [] [] all all2 same = refl
same_events [] (y ∷ others) all all2 same = absurd (not_empty y (entry_bytes others) all2.0 same)
same_events (x ∷ events) [] all all2 same = absurd (not_empty x (entry_bytes events) all.0 (sym same))
same_events (x ∷ events) (y ∷ others) all all2 same =
    let next = next_same x y (entry_bytes events) (entry_bytes others) all.0 all2.0 same in
    ap (λ (e : HubEvent). e ∷ events) next.0 ∙ ap (λ (l : List HubEvent). y ∷ l) (same_events events others all.1 all2.1 next.1)

no_stop : (events before : List HubEvent) (rest : List ℕ) (fault : RecordFault) → AreRecorded events → AreRecorded before
    → entry_bytes events ≡ entry_bytes before ++ rest → rest ≢ [] → read_event rest ≡ Err fault → ⊥
no_stop [] [] rest fault all all2 same more is = more (sym same)
no_stop [] (y ∷ before) rest fault all all2 same more is =
    not_empty y (entry_bytes before ++ rest) all2.0 (same ∙ append_assoc (event_bytes y) (entry_bytes before) rest)
no_stop (x ∷ events) [] rest fault all all2 same more is =
    let bad : okay (x, length (event_bytes x)) ≡ failed fault = sym (event_again x (entry_bytes events) all.0) ∙ ap read_event same ∙ is in
    absurd (cc)
no_stop (x ∷ events) (y ∷ before) rest fault all all2 same more is =
    let next = next_same x y (entry_bytes events) (entry_bytes before ++ rest) all.0 all2.0 (same ∙ append_assoc (event_bytes y) (entry_bytes before) rest) in
    no_stop events before rest fault all.1 all2.1 next.1 more is

never_both : (event : HubEvent) (rest b : List ℕ) (fault : RecordFault) → is_recorded event ≡ true → b ≡ event_bytes event ++ rest
    → read_event b ≡ Err fault → ⊥
never_both event rest b fault is same err =
    let bad : okay (event, length (event_bytes event)) ≡ failed fault = sym (event_again event rest is) ∙ ap read_event (sym same) ∙ err in
    absurd (cc)

one_stop : (events before : List HubEvent) (rest more : List ℕ) (fault other : RecordFault) → AreRecorded events → AreRecorded before
    → entry_bytes events ++ rest ≡ entry_bytes before ++ more → read_event rest ≡ Err fault → read_event more ≡ Err other → fault ≡ other
one_stop [] [] rest more fault other all all2 same is is2 =
    let both : failed fault ≡ failed other = sym is ∙ ap read_event same ∙ is2 in
    cc
one_stop [] (y ∷ before) rest more fault other all all2 same is is2 =
    absurd (never_both y (entry_bytes before ++ more) rest fault all2.0 (same ∙ append_assoc (event_bytes y) (entry_bytes before) more) is)
one_stop (x ∷ events) [] rest more fault other all all2 same is is2 =
    absurd (never_both x (entry_bytes events ++ rest) more other all.0 (sym same ∙ append_assoc (event_bytes x) (entry_bytes events) rest) is2)
one_stop (x ∷ events) (y ∷ before) rest more fault other all all2 same is is2 =
    let next = next_same x y (entry_bytes events ++ rest) (entry_bytes before ++ more) all.0 all2.0
    (sym (append_assoc (event_bytes x) (entry_bytes events) rest) ∙ same ∙ append_assoc (event_bytes y) (entry_bytes before) more) in
    one_stop events before rest more fault other all.1 all2.1 next.1 is is2

-- tags
never_tag : (b : List ℕ) (n : ℕ) (event : HubEvent) (t : ℕ) → if_whole b n event ≡ Err (Tag t) → ⊥
never_tag b n event t is = elim (cases_Bool (nat_le n (length b))) [
  | inl fits ↦
      let bad : okay (event, n + 1) ≡ failed (Tag t) = sym (ap (λ (q : Bool). if q then okay (event, n + 1) else Err Cut) fits) ∙ is in
      absurd (cc)
  | inr short ↦
      let bad : failed Cut ≡ failed (Tag t) = sym (ap (λ (q : Bool). if q then okay (event, n + 1) else Err Cut) short) ∙ is in
      absurd (cc)
]

tag_again : (t : ℕ) (b : List ℕ) → HasUnknownTag t b → read_event b ≡ Err (Tag t)
tag_again t b has = ap read_event has.parts ∙ unknown t has.behind has.opened has.bytes_arrived has.ended has.tick

tag_found : (t : ℕ) (b : List ℕ) → read_event b ≡ Err (Tag t) → HasUnknownTag t b
tag_found t [] is = let bad : failed Cut ≡ failed (Tag t) = is in absurd (cc)
tag_found t (x ∷ b) is =
    by_tag (λ (k : ℕ). read_tagged k b ≡ Err (Tag t) → HasUnknownTag t (k ∷ b)) x
    (λ found. absurd (never_tag b 6 (Opened (conn_in b)) t found))
    (λ found. absurd (never_tag b (10 + four_in b 6) (Bytes (conn_in b) (take (four_in b 6) (drop 10 b))) t found))
    (λ found. absurd (never_tag b 6 (Ended (conn_in b)) t found))
    (λ found. absurd (never_tag b 8 (Tick (eight_in b 0)) t found))
    (λ n1 n2 n3 n4 found.
    let both : failed (Tag x) ≡ failed (Tag t) = sym (unknown x b n1 n2 n3 n4) ∙ found in
    let same : x ≡ t = cc in
    subst (λ (k : ℕ). HasUnknownTag k (x ∷ b)) same (record { behind = b; parts = refl; opened = n1; bytes_arrived = n2; ended = n3; tick = n4 }))
    is

-- cuts
some_length : (l : List ℕ) → l ≢ [] → 0 < length l
some_length [] some = absurd (some refl)
some_length (x ∷ l) some = omega arith

too_short : (b : List ℕ) (n : ℕ) (event : HubEvent) → length b < n → if_whole b n event ≡ Err Cut
too_short b n event less = elim (cases_Bool (nat_le n (length b))) [
  | inl fits ↦ absurd (omega (arith, leb-true n (length b) fits, less))
  | inr short ↦ ap (λ (q : Bool). if q then okay (event, n + 1) else Err Cut) short
]

-- the first n bytes of an encoding are too few
less_than : (b missing all : List ℕ) → missing ≢ [] → b ++ missing ≡ all → length b < length all
less_than b missing all some parts = omega (arith, length-append b missing, ap length parts, some_length missing some)

four_in_front : (b r : List ℕ) (at : ℕ) → at + 4 ≤ length b → four_in (b ++ r) at ≡ four_in b at
four_in_front b r at le = omega (arith, get_or_append_left b r 0 at (omega arith), get_or_append_left b r 0 (at + 1) (omega arith), get_or_append_left b r 0 (at + 2) (omega arith), get_or_append_left b r 0 (at + 2 + 1) (omega arith))

cut_piece : (b missing piece : List ℕ) (conn : Conn) → missing ≢ [] → b ++ missing ≡ conn_bytes conn ++ (four_bytes (length piece) ++ piece)
    → length b < 10 + four_in b 6
cut_piece b missing piece conn some parts = elim (cases_Bool (nat_le 10 (length b))) [
  | inl fits ↦
      let le : 10 ≤ length b = leb-true 10 (length b) fits in
      let count : four_in b 6 ≡ length piece = sym (four_in_front b missing 6 le) ∙ ap (λ (l : List ℕ). four_in l 6) parts ∙ four_again (length piece) in
      omega (arith, count, less_than b missing (conn_bytes conn ++ (four_bytes (length piece) ++ piece)) some parts)
  | inr short ↦ omega (arith, leb-false 10 (length b) short)
]

cut_tagged : (t : ℕ) (b missing : List ℕ) (event : HubEvent) → is_recorded event ≡ true → missing ≢ []
    → event_bytes event ≡ t ∷ (b ++ missing) → read_tagged t b ≡ Err Cut
cut_tagged t b missing (Opened conn) is some parts =
    let tag : t ≡ 1 = cc in
    let rest : b ++ missing ≡ conn_bytes conn = cc in
    ap (λ (k : ℕ). read_tagged k b) tag ∙ too_short b 6 (Opened (conn_in b)) (less_than b missing (conn_bytes conn) some rest)
cut_tagged t b missing (Bytes conn piece) is some parts =
    let tag : t ≡ 2 = cc in
    let rest : b ++ missing ≡ conn_bytes conn ++ (four_bytes (length piece) ++ piece) = cc in
    ap (λ (k : ℕ). read_tagged k b) tag ∙ too_short b (10 + four_in b 6) (Bytes (conn_in b) (take (four_in b 6) (drop 10 b))) (cut_piece b missing piece conn some rest)
cut_tagged t b missing (Ended conn) is some parts =
    let tag : t ≡ 3 = cc in
    let rest : b ++ missing ≡ conn_bytes conn = cc in
    ap (λ (k : ℕ). read_tagged k b) tag ∙ too_short b 6 (Ended (conn_in b)) (less_than b missing (conn_bytes conn) some rest)
cut_tagged t b missing (Tick now) is some parts =
    let tag : t ≡ 4 = cc in
    let rest : b ++ missing ≡ eight_bytes now = cc in
    ap (λ (k : ℕ). read_tagged k b) tag ∙ too_short b 8 (Tick (eight_in b 0)) (less_than b missing (eight_bytes now) some rest)
cut_tagged t b missing (Collect conn) is some parts = absurd (false≢true is)

cut_again : (b : List ℕ) → IsCut b → read_event b ≡ Err Cut
cut_again [] cut = refl
cut_again (t ∷ b) cut = cut_tagged t b cut.missing cut.event cut.recorded cut.some cut.parts

-- bytes that complete an event
zeros : ℕ → List ℕ
zeros zero = []
zeros (suc k) = 0 ∷ zeros k

length_zeros : (k : ℕ) → length (zeros k) ≡ k
unfolding zeros
length_zeros zero = refl
length_zeros (suc k) = ap suc (length_zeros k)

zero_in : (k i : ℕ) → get_or (zeros k) i 0 ≡ 0
unfolding zeros
zero_in zero i = refl
zero_in (suc k) zero = refl
zero_in (suc k) (suc i) = zero_in k i

padded_in : (b : List ℕ) (k i : ℕ) → get_or (b ++ zeros k) i 0 ≡ get_or b i 0
padded_in [] k i = zero_in k i
padded_in (x ∷ b) k zero = refl
padded_in (x ∷ b) k (suc i) = padded_in b k i

padded_bytes : (b : List ℕ) (k : ℕ) → AreBytes b → AreBytes (b ++ zeros k)
padded_bytes b k small i = omega (arith, padded_in b k i, small i)

four_padded : (b : List ℕ) (k : ℕ) → four_in (b ++ zeros k) 6 ≡ four_in b 6
four_padded b k = omega (arith, padded_in b k 6, padded_in b k 7, padded_in b k 8, padded_in b k 9)

cut_less : (b : List ℕ) (n : ℕ) (event : HubEvent) → if_whole b n event ≡ Err Cut → length b < n
cut_less b n event is = elim (cases_Bool (nat_le n (length b))) [
  | inl fits ↦
      let bad : okay (event, n + 1) ≡ failed Cut = sym (ap (λ (q : Bool). if q then okay (event, n + 1) else Err Cut) fits) ∙ is in
      absurd (cc)
  | inr short ↦ leb-false n (length b) short
]

-- an event that is read once n bytes follow the tag
completed : (t : ℕ) (b : List ℕ) (n : ℕ) (event : HubEvent) → AreBytes (t ∷ b) → length b < n
    → read_tagged t (b ++ zeros (n - length b)) ≡ Ok (event, n + 1) → IsCut (t ∷ b)
completed t b n event small less is =
    let pad : List ℕ = zeros (n - length b) in
    let all : List ℕ = t ∷ (b ++ pad) in
    let count : length (b ++ pad) ≡ n = omega (arith, length-append b pad, length_zeros (n - length b), less) in
    let front = event_found all event (n + 1) (padded_bytes (t ∷ b) (n - length b) small) is in
    let none : drop (n + 1) all ≡ [] = drop_all (n + 1) all (omega (arith, count)) in
    record {
      event = event;
      missing = pad;
      recorded = front.recorded;
      some = λ empty. omega (arith, ap length empty, length_zeros (n - length b), less);
      parts = sym (front.parts ∙ ap (λ (l : List ℕ). event_bytes event ++ l) none ∙ append-nil (event_bytes event));
    }

-- an event of n bytes behind its tag
complete : (t : ℕ) (b : List ℕ) (n : ℕ) (event : HubEvent) → AreBytes (t ∷ b) → length b < n
    → read_tagged t (b ++ zeros (n - length b)) ≡ if_whole (b ++ zeros (n - length b)) n event → IsCut (t ∷ b)
complete t b n event small less is =
    let pad : List ℕ = zeros (n - length b) in
    completed t b n event small less
    (is ∙ whole (b ++ pad) n event (omega (arith, length-append b pad, length_zeros (n - length b), less)))

cut_found : (b : List ℕ) → AreBytes b → read_event b ≡ Err Cut → IsCut b
cut_found [] small is = record { event = Tick 0; missing = event_bytes (Tick 0); recorded = refl; some = λ empty. absurd (cc); parts = refl }
cut_found (t ∷ b) small is =
    by_tag (λ (k : ℕ). AreBytes (k ∷ b) → read_tagged k b ≡ Err Cut → IsCut (k ∷ b)) t
    (λ bytes found. let less = cut_less b 6 (Opened (conn_in b)) found in
    complete 1 b 6 (Opened (conn_in (b ++ zeros (6 - length b)))) bytes less refl)
    (λ bytes found.
    let n = 10 + four_in b 6 in
    let less = cut_less b n (Bytes (conn_in b) (take (four_in b 6) (drop 10 b))) found in
    let all : List ℕ = b ++ zeros (n - length b) in
    let made : HubEvent = Bytes (conn_in all) (take (four_in all 6) (drop 10 all)) in
    complete 2 b n made bytes less (ap (λ (k : ℕ). if_whole all (10 + k) made) (four_padded b (n - length b))))
    (λ bytes found. let less = cut_less b 6 (Ended (conn_in b)) found in
    complete 3 b 6 (Ended (conn_in (b ++ zeros (6 - length b)))) bytes less refl)
    (λ bytes found. let less = cut_less b 8 (Tick (eight_in b 0)) found in
    complete 4 b 8 (Tick (eight_in (b ++ zeros (8 - length b)) 0)) bytes less refl)
    (λ n1 n2 n3 n4 bytes found.
    let bad : failed (Tag t) ≡ failed Cut = sym (unknown t b n1 n2 n3 n4) ∙ found in
    absurd (cc))
    small is

pub laws : RecordLaws
laws = record {
  again = event_again;
  found = λ b event size small is. event_found b event size small is;
  one = next_same;
  cut_again = cut_again;
  cut_found = cut_found;
  tag_again = tag_again;
  tag_found = tag_found;
  one_fault = λ fault other b stop stop2. one_stop stop.events stop2.events stop.rest stop2.rest fault other stop.recorded stop2.recorded (sym stop.parts ∙ stop2.parts) stop.fault_is stop2.fault_is;
  one_entry = λ events others b first second. same_events events others first.recorded second.recorded (sym first.parts ∙ second.parts);
  no_fault = λ events fault b entry stop. no_stop events stop.events stop.rest fault entry.recorded stop.recorded (sym entry.parts ∙ stop.parts) stop.more stop.fault_is;
}
