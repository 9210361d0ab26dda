-- Reading a session step by step, as the loops and the functions of the crate do.
use Rattle.std.proofs.Common.{◌≡◌, ℕ, suc, ◌+◌, ◌-◌, ◌<◌, ◌≤◌, false, eqb, ltb, List, [], ◌∷◌, length, take, refl, sym, ◌∙◌, arith, Result, Ok, Err}
use Rattle.std.proofs.lemmas.Bool.{false_from_ne_true, and_left, le-ltb, ltb-false, ne_eqb}
use Rattle.std.proofs.lemmas.Bool.Decides.{nat_tests}
use Rattle.std.proofs.lemmas.List.{length-append}
use Rattle.std.proofs.lemmas.Str.{IsUtf8-from_is_utf8}
use Rattle.std.specs.Option.{is_none}
use Rattle.std.specs.Str.{IsUtf8, is_utf8}
use Rattle.mq_topic.specs.Fault.{name_fault}
use Rattle.mq_flow.specs.Sender.{SenderBook, uses, times, IsFree, is_full}
use Rattle.mq_flow.specs.Sending.{Sending, Keeps}
use Rattle.mq_flow.specs.Loading.{bad_at, number_at, free_at, topic_at, is_topic, with_entry_at, entries_at, with_released, with_released_at, released_at, next_at, received_at}
use Rattle.mq_flow.specs.Receiver.{ReceiverBook, on_publish}
use Rattle.mq_flow.proofs.Counting.{times_append}
use Rattle.mq_flow.proofs.Books.{times_uses, length_uses, gives_sound}

-- Bytes that are not UTF-8 are not a topic name.
pub not_topic : (t : List ℕ) → (IsUtf8 t → ⊥) → is_topic t ≡ false
not_topic t not = and_left (is_utf8 t) (is_none (name_fault t)) (false_from_ne_true (is_utf8 t) (λ e. not (IsUtf8-from_is_utf8 t e)))

pub bad_text : (bytes rest : List ℕ) (n : ℕ) → number_at bytes ≡ Ok (n, rest) → n ≤ length rest → (IsUtf8 (take n rest) → ⊥) → topic_at bytes ≡ bad_at bytes
unfolding topic_at
bad_text bytes rest n read fits not = rw (read, le-ltb (length rest) n fits, not_topic (take n rest) not) refl

-- ---- a released identifier

pub times_released : (i j : ℕ) (b : SenderBook) → times j (uses (with_released i b)) ≡ times j (uses b) + times j (i ∷ [])
times_released i j b =
    let e = times_uses j (with_released i b) in
    let f = times_uses j b in
    let g = times_append j b.released (i ∷ []) in
    omega arith

pub length_released : (i : ℕ) (b : SenderBook) → length (uses (with_released i b)) ≡ length (uses b) + 1
length_released i b =
    let e = length_uses (with_released i b) in
    let f = length_uses b in
    let g = length-append b.released (i ∷ []) in
    omega arith

pub keeps_released : (s : Sending) (i : ℕ) → Keeps s → is_full s.capacity s.book ≡ false → IsFree s.book i → Keeps (record s { book = with_released i s.book })
keeps_released s i k room free = record {
  sound = gives_sound s.capacity i s.book (with_released i s.book) room free (λ j. times_released i j s.book) (length_released i s.book) k.sound;
  able = k.able;
  most = k.most;
  acknowledged = k.acknowledged;
}

-- a book with fewer identifiers in use than there is room for is not full
pub not_full : (capacity : ℕ) (b : SenderBook) → length (uses b) < capacity → is_full capacity b ≡ false
not_full capacity b h = grind (arith, nat_tests)

-- ---- a free identifier

pub unused : (i : ℕ) (b : SenderBook) → ltb 0 (times i (uses b)) ≡ false → times i (uses b) ≡ 0
unused i b none = let z = ltb-false 0 (times i (uses b)) none in omega arith

pub free_read : (b : SenderBook) (bytes : List ℕ) (i : ℕ) (rest : List ℕ) → number_at bytes ≡ Ok (i, rest) → 0 < i → times i (uses b) ≡ 0 → free_at b bytes ≡ Ok (i, rest)
unfolding free_at
free_read b bytes i rest read some unused =
    let one : eqb i 0 ≡ false = ne_eqb i 0 (λ z. omega arith) in
    let two : ltb 0 (times i (uses b)) ≡ false = le-ltb 0 (times i (uses b)) (omega arith) in
    rw (read, one, two) refl

-- ---- one step of a loop, and its end

pub entries_next : (limit : ℕ) → (n i : ℕ) (b after : SenderBook) (bytes rest : List ℕ) (total : Result (SenderBook × List ℕ) ℕ) → i < n → with_entry_at limit b bytes ≡ Ok (after, rest)
    → entries_at limit (n - i) b bytes ≡ total → entries_at limit (n - (i + 1)) after rest ≡ total
entries_next limit n i b after bytes rest total more read told =
    let left : n - i ≡ suc (n - (i + 1)) = omega arith in
    let one : entries_at limit (n - i) b bytes ≡ entries_at limit (n - (i + 1)) after rest = rw (left, read) refl in
    sym one ∙ told

pub entries_stop : (limit : ℕ) → (n i left : ℕ) (b : SenderBook) (bytes : List ℕ) (total : Result (SenderBook × List ℕ) ℕ) → i < n → with_entry_at limit b bytes ≡ Err left
    → entries_at limit (n - i) b bytes ≡ total → total ≡ Err left
entries_stop limit n i left b bytes total more read told =
    let steps : n - i ≡ suc (n - (i + 1)) = omega arith in
    let one : entries_at limit (n - i) b bytes ≡ Err left = rw (steps, read) refl in
    sym told ∙ one

pub released_next : (n i : ℕ) (b after : SenderBook) (bytes rest : List ℕ) (total : Result (SenderBook × List ℕ) ℕ) → i < n → with_released_at b bytes ≡ Ok (after, rest)
    → released_at (n - i) b bytes ≡ total → released_at (n - (i + 1)) after rest ≡ total
released_next n i b after bytes rest total more read told =
    let left : n - i ≡ suc (n - (i + 1)) = omega arith in
    let one : released_at (n - i) b bytes ≡ released_at (n - (i + 1)) after rest = rw (left, read) refl in
    sym one ∙ told

pub released_stop : (n i left : ℕ) (b : SenderBook) (bytes : List ℕ) (total : Result (SenderBook × List ℕ) ℕ) → i < n → with_released_at b bytes ≡ Err left
    → released_at (n - i) b bytes ≡ total → total ≡ Err left
released_stop n i left b bytes total more read told =
    let steps : n - i ≡ suc (n - (i + 1)) = omega arith in
    let one : released_at (n - i) b bytes ≡ Err left = rw (steps, read) refl in
    sym told ∙ one

pub received_next : (n i last id : ℕ) (r : ReceiverBook) (bytes rest : List ℕ) (total : Result (ReceiverBook × List ℕ) ℕ) → i < n → next_at last bytes ≡ Ok (id, rest)
    → received_at (n - i) last r bytes ≡ total → received_at (n - (i + 1)) id (on_publish id r) rest ≡ total
received_next n i last id r bytes rest total more read told =
    let left : n - i ≡ suc (n - (i + 1)) = omega arith in
    let one : received_at (n - i) last r bytes ≡ received_at (n - (i + 1)) id (on_publish id r) rest = rw (left, read) refl in
    sym one ∙ told

pub received_stop : (n i last left : ℕ) (r : ReceiverBook) (bytes : List ℕ) (total : Result (ReceiverBook × List ℕ) ℕ) → i < n → next_at last bytes ≡ Err left
    → received_at (n - i) last r bytes ≡ total → total ≡ Err left
received_stop n i last left r bytes total more read told =
    let steps : n - i ≡ suc (n - (i + 1)) = omega arith in
    let one : received_at (n - i) last r bytes ≡ Err left = rw (steps, read) refl in
    sym told ∙ one
