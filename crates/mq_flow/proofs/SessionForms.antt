-- The laws of the saved form of a session: writing and reading are inverse to each other.
use Rattle.std.proofs.Common.{◌≡◌, ℕ, zero, suc, ◌+◌, ◌-◌, ◌<◌, ◌≤◌, Bool, true, false, ◌||◌, eqb, List, [], ◌∷◌, ◌++◌, length, filter, Ok, refl, sym, ap, subst, ◌∙◌, append_assoc, arith}
use Rattle.std.specs.List.{flat_map, list_any, range_with_len, AllByRecursion}
use Rattle.std.specs.Ordering.{nat_cmp}
use Rattle.std.specs.FinSet.{contains, insert, contains-insert, contains-empty, same_set, nat_cmp-IsAntisymmetric}
use Rattle.std.specs.Cmp.{nat_cmp_total}
use Rattle.mq_packet.specs.Identifier.{IsIdentifier}
use Rattle.mq_flow.specs.declared.entry.SenderEntry.{SenderEntry}
use Rattle.mq_flow.specs.declared.claim.Claimed.{Claimed}
use Rattle.mq_flow.specs.Sender.{SenderBook, blank_book, uses}
use Rattle.mq_flow.specs.Sending.{Sending}
use Rattle.mq_flow.specs.Receiver.{ReceiverBook, none_received, on_publish}
use Rattle.mq_flow.specs.Laws.{IsSound}
use Rattle.mq_wire.specs.Number.{number}
use Rattle.mq_flow.specs.Saved.{saved_entry, saved_ids, saved_sender, ascending, saved_receiver, IsKept}
use Rattle.mq_wire.specs.Bytes.{AreBytes}
use Rattle.mq_flow.specs.Loading.{◌>>=◌, number_at, capacity_at, number_within, entries_at, released_at, released_within, book_at, sender_at, next_at, received_at, receiver_at}
use Rattle.mq_flow.proofs.Books.{at_first, fewer, length_uses}
use Rattle.mq_flow.proofs.Ascending.{Rising, sifted, tied_is, risen, ascending_rises, ascending_members}
use Rattle.mq_flow.proofs.Fields.{bind_ok, ok_is, Takes, takes, Takes-then, number_found, number_again, capacity_found, capacity_again, within_found, within_again, next_found, next_again}
use Rattle.mq_flow.proofs.EntryForms.{EntriesTaken, times_more_released, entries_found, entries_again, released_found, released_again, more_entries, more_released}

-- ---- a receiver

inserted : (r : ReceiverBook) (i q : ℕ) → contains (insert r i) q ≡ (eqb i q || contains r q)
inserted r i q = contains-insert nat_cmp_total r i q ∙ ap (λ b. b || contains r q) (tied_is q i)

regroup : (a b c : Bool) → ((a || b) || c) ≡ (b || (a || c))
regroup true true c = refl
regroup true false c = refl
regroup false b c = refl

pub record ReceivedTaken (n last : ℕ) (r : ReceiverBook) (bytes : List ℕ) (after : ReceiverBook) (rest : List ℕ) : Type 0 where
  pub ids : List ℕ
  pub takes : Takes bytes (flat_map number ids) rest
  pub counted : length ids ≡ n
  pub rising : Rising (last + 1) ids
  pub members : (q : ℕ) → contains after q ≡ (contains r q || list_any (λ k. eqb k q) ids)

or_nothing : (a : Bool) → a ≡ (a || false)
or_nothing true = refl
or_nothing false = refl

pub received_found : (n last : ℕ) (r : ReceiverBook) (bytes : List ℕ) (x : ReceiverBook × List ℕ) → AreBytes bytes → received_at n last r bytes ≡ Ok x → ReceivedTaken n last r bytes x.0 x.1
received_found zero last r bytes x h e =
    subst (λ (y : ReceiverBook × List ℕ). ReceivedTaken 0 last r bytes y.0 y.1) (ok_is (r, bytes) x e)
    (record { ids = []; takes = takes bytes [] bytes h refl; counted = refl; rising = tt; members = λ q. or_nothing (contains r q) })
received_found (suc n) last r bytes x h e =
    let i = bind_ok (next_at last bytes) (λ id. received_at n id.0 (on_publish id.0 r) id.1) x e in
    let one = next_found last bytes i.0 h i.1 in
    let others = received_found n i.0.0 (on_publish i.0.0 r) i.0.1 x one.0.rest_bytes i.2 in
    let id = i.0.0 in
    record {
      ids = id ∷ others.ids;
      takes = Takes-then (number id) (flat_map number others.ids) one.0 others.takes;
      counted = omega (arith, others.counted);
      rising = (omega (arith, one.1), one.2, others.rising);
      members = λ q. others.members q ∙ ap (λ b. b || list_any (λ k. eqb k q) others.ids) (inserted r id q) ∙ regroup (eqb id q) (contains r q) (list_any (λ k. eqb k q) others.ids);
    }

pub receiver_found : (bytes : List ℕ) (x : ReceiverBook × List ℕ) → AreBytes bytes → receiver_at bytes ≡ Ok x → Takes bytes (saved_receiver x.0) x.1 × ((i : ℕ) → contains x.0 i ≡ true → IsIdentifier i)
unfolding receiver_at ascending
receiver_found bytes x h e =
    let n = bind_ok (number_at bytes) (λ n. received_at n.0 0 none_received n.1) x e in
    let a = number_found bytes n.0 h n.1 in
    let r = received_found n.0.0 0 none_received n.0.1 x a.0.rest_bytes n.2 in
    let members : (q : ℕ) → contains x.0 q ≡ list_any (λ k. eqb k q) r.ids = λ q. r.members q ∙ ap (λ b. b || list_any (λ k. eqb k q) r.ids) (contains-empty nat_cmp q) in
    let same : filter (λ i. contains x.0 i) (range_with_len 1 65535) ≡ r.ids = sifted (λ i. contains x.0 i) 65535 1 r.ids refl (λ q m. members q) r.rising in
    let both : Takes bytes (number n.0.0 ++ flat_map number r.ids) x.1 = Takes-then (number n.0.0) (flat_map number r.ids) a.0 r.takes in
    let whole : Takes bytes (saved_ids r.ids) x.1 = subst (λ (k : ℕ). Takes bytes (number k ++ flat_map number r.ids) x.1) (sym r.counted) both in
    (subst (λ (ids : List ℕ). Takes bytes (saved_ids ids) x.1) (sym same) whole, λ i there. risen 1 r.ids i r.rising (sym (members i) ∙ there))

-- the set with identifiers more
stored : ReceiverBook → List ℕ → ReceiverBook
stored r [] = r
stored r (i ∷ ids) = stored (on_publish i r) ids

stored_members : (r : ReceiverBook) (ids : List ℕ) (q : ℕ) → contains (stored r ids) q ≡ (contains r q || list_any (λ k. eqb k q) ids)
unfolding stored
stored_members r [] q = or_nothing (contains r q)
stored_members r (i ∷ ids) q =
    stored_members (on_publish i r) ids q ∙ ap (λ b. b || list_any (λ k. eqb k q) ids) (inserted r i q) ∙ regroup (eqb i q) (contains r q) (list_any (λ k. eqb k q) ids)

received_step : (n last : ℕ) (r : ReceiverBook) (bytes : List ℕ) (i : ℕ) (rest : List ℕ) → next_at last bytes ≡ Ok (i, rest) → received_at (suc n) last r bytes ≡ received_at n i (on_publish i r) rest
received_step n last r bytes i rest read = rw read refl

received_again : (n : ℕ) (ids : List ℕ) (last : ℕ) (r : ReceiverBook) (rest : List ℕ) → length ids ≡ n → Rising (last + 1) ids → received_at n last r (flat_map number ids ++ rest) ≡ Ok (stored r ids, rest)
unfolding stored
received_again zero [] last r rest l up = refl
received_again zero (i ∷ ids) last r rest l up = absurd (omega arith)
received_again (suc n) [] last r rest l up = absurd (omega arith)
received_again (suc n) (i ∷ ids) last r rest l up =
    let first = next_again last i (flat_map number ids ++ rest) (omega (arith, up.0)) in
    let regrouped : flat_map number (i ∷ ids) ++ rest ≡ number i ++ (flat_map number ids ++ rest) = append_assoc (number i) (flat_map number ids) rest in
    ap (received_at (suc n) last r) regrouped
    ∙ received_step n last r (number i ++ (flat_map number ids ++ rest)) i (flat_map number ids ++ rest) first
    ∙ received_again n ids i (on_publish i r) rest (omega arith) up.2

pub receiver_again : (r : ReceiverBook) (rest : List ℕ) → ((i : ℕ) → contains r i ≡ true → IsIdentifier i) → receiver_at (saved_receiver r ++ rest) ≡ Ok (r, rest)
unfolding receiver_at
receiver_again r rest each =
    let ids = ascending r in
    let read = number_again (length ids) (flat_map number ids ++ rest) in
    let others = received_again (length ids) ids 0 none_received rest refl (ascending_rises r) in
    let same : stored none_received ids ≡ r = same_set nat_cmp_total nat_cmp-IsAntisymmetric (stored none_received ids) r
    (λ q. stored_members none_received ids q ∙ ap (λ b. b || list_any (λ k. eqb k q) ids) (contains-empty nat_cmp q) ∙ ascending_members r each q) in
    rw read (others ∙ ap (λ (s : ReceiverBook). Ok (s, rest)) same)

-- ---- a sender

-- The result of reading a sender.
pub record SenderTaken (limit : ℕ) (bytes : List ℕ) (s : Sending) (rest : List ℕ) : Type 0 where
  pub takes : Takes bytes (saved_sender s) rest
  pub unclaimed : s.book.claimed ≡ []
  pub unreserved : s.room ≡ 0
  pub sound : IsSound s.capacity s.book
  pub able : 0 < s.capacity
  pub most : s.capacity ≤ 65535
  pub last : s.last ≤ 65535
  pub entries : AllByRecursion (IsKept limit) s.book.entries

-- a book that has these, and no claims
abbrev made_book : List SenderEntry → List ℕ → SenderBook
made_book es ids = more_released (more_entries blank_book es) ids

-- The result of reading the released identifiers.
record ReleasedPart (room : ℕ) (b : SenderBook) (bytes : List ℕ) (after : SenderBook) (rest : List ℕ) : Type 0 where
  pub ids : List ℕ
  pub book : after ≡ more_released b ids
  pub takes : Takes bytes (saved_ids ids) rest
  pub sound : (c : ℕ) → IsSound c b → length (uses b) + room ≤ c → IsSound c after

released_part : (room : ℕ) (b : SenderBook) (bytes : List ℕ) (x : SenderBook × List ℕ) → AreBytes bytes → released_within room b bytes ≡ Ok x → ReleasedPart room b bytes x.0 x.1
released_part room b bytes x h e =
    let m = bind_ok (number_within room bytes) (λ m. released_at m.0 b m.1) x e in
    counted m.0.0 m.0.1 (within_found room bytes m.0 h m.1).0 (within_found room bytes m.0 h m.1).1 m.2
  where
    counted : (m : ℕ) (behind : List ℕ) → Takes bytes (number m) behind → m ≤ room → released_at m b behind ≡ Ok x → ReleasedPart room b bytes x.0 x.1
    counted m behind first few read =
        let taken = released_found m b behind x first.rest_bytes read in
        record {
          ids = taken.ids;
          book = taken.book;
          takes = subst (λ (k : ℕ). Takes bytes (number k ++ flat_map number taken.ids) x.1) (sym taken.counted) (Takes-then (number m) (flat_map number taken.ids) first taken.takes);
          sound = λ c s fits. taken.sound c s (omega arith);
        }

-- The result of reading a book.
record BookPart (limit : ℕ) (capacity : ℕ) (bytes : List ℕ) (b : SenderBook) (rest : List ℕ) : Type 0 where
  pub entries : List SenderEntry
  pub ids : List ℕ
  pub book : b ≡ made_book entries ids
  pub takes : Takes bytes (number (length entries) ++ (flat_map saved_entry entries ++ saved_ids ids)) rest
  pub sound : IsSound capacity b
  pub each : AllByRecursion (IsKept limit) entries

book_found : (limit : ℕ) → (capacity : ℕ) (bytes : List ℕ) (x : SenderBook × List ℕ) → AreBytes bytes → book_at limit capacity bytes ≡ Ok x → BookPart limit capacity bytes x.0 x.1
book_found limit capacity bytes x h e =
    let n = bind_ok (number_within capacity bytes) (λ n. entries_at limit n.0 blank_book n.1 >>= λ entries. released_within (capacity - n.0) entries.0 entries.1) x e in
    counted n.0.0 n.0.1 (within_found capacity bytes n.0 h n.1).0 (within_found capacity bytes n.0 h n.1).1 n.2
  where
    both : (n : ℕ) (behind : List ℕ) (b : SenderBook) (after : List ℕ) → Takes bytes (number n) behind → n ≤ capacity → EntriesTaken limit n blank_book behind b after → ReleasedPart (capacity - n) b after x.0 x.1 → BookPart limit capacity bytes x.0 x.1
    both n behind b after first few entries released = record {
      entries = entries.entries;
      ids = released.ids;
      book = released.book ∙ ap (λ (b : SenderBook). more_released b released.ids) entries.book;
      takes = subst (λ (k : ℕ). Takes bytes (number k ++ (flat_map saved_entry entries.entries ++ saved_ids released.ids)) x.1) (sym entries.counted)
          (Takes-then (number n) (flat_map saved_entry entries.entries ++ saved_ids released.ids) first (Takes-then (flat_map saved_entry entries.entries) (saved_ids released.ids) entries.takes released.takes));
      sound = released.sound capacity (entries.sound capacity (at_first capacity) (omega arith)) (omega (arith, entries.longer));
      each = entries.each;
    }

    counted : (n : ℕ) (behind : List ℕ) → Takes bytes (number n) behind → n ≤ capacity → (entries_at limit n blank_book behind >>= λ entries. released_within (capacity - n) entries.0 entries.1) ≡ Ok x → BookPart limit capacity bytes x.0 x.1
    counted n behind first few read =
        let e = bind_ok (entries_at limit n blank_book behind) (λ entries. released_within (capacity - n) entries.0 entries.1) x read in
        let entries = entries_found limit n blank_book behind e.0 first.rest_bytes e.1 in
        both n behind e.0.0 e.0.1 first few entries (released_part (capacity - n) e.0.0 e.0.1 x entries.takes.rest_bytes e.2)

pub sender_found : (limit : ℕ) → (bytes : List ℕ) (x : Sending × List ℕ) → AreBytes bytes → sender_at limit bytes ≡ Ok x → SenderTaken limit bytes x.0 x.1
unfolding sender_at
sender_found limit bytes x h e =
    let c = bind_ok (capacity_at bytes) (λ capacity. number_at capacity.1 >>= λ last. book_at limit capacity.0 last.1 >>= λ book. Ok (record { book = book.0; capacity = capacity.0; last = last.0; room = 0 }, book.1)) x e in
    let first = capacity_found bytes c.0 h c.1 in
    after_capacity c.0.0 c.0.1 first.0 first.1 first.2 c.2
  where
    whole : (capacity last : ℕ) (front behind : List ℕ) (b : SenderBook) (rest : List ℕ) → Takes bytes (number capacity) front → 0 < capacity → capacity < 65536 → Takes front (number last) behind → last < 65536
        → BookPart limit capacity behind b rest → SenderTaken limit bytes (record { book = b; capacity = capacity; last = last; room = 0 }) rest
    whole capacity last front behind b rest first able most second small part =
        let body : SenderBook → List ℕ = λ k. number (length k.entries) ++ (flat_map saved_entry k.entries ++ saved_ids k.released) in
        let text : Takes behind (body b) rest = subst (λ (k : SenderBook). Takes behind (body k) rest) (sym part.book) part.takes in
        record {
          takes = Takes-then (number capacity) (number last ++ body b) first (Takes-then (number last) (body b) second text);
          unclaimed = ap (λ (k : SenderBook). k.claimed) part.book;
          unreserved = refl;
          sound = part.sound;
          able = able;
          most = omega arith;
          last = omega arith;
          entries = subst (λ (k : SenderBook). AllByRecursion (IsKept limit) k.entries) (sym part.book) part.each;
        }

    after_last : (capacity last : ℕ) (front behind : List ℕ) → Takes bytes (number capacity) front → 0 < capacity → capacity < 65536 → Takes front (number last) behind → last < 65536
        → (book_at limit capacity behind >>= λ book. Ok (record { book = book.0; capacity = capacity; last = last; room = 0 }, book.1)) ≡ Ok x → SenderTaken limit bytes x.0 x.1
    after_last capacity last front behind first able most second small read =
        let b = bind_ok (book_at limit capacity behind) (λ book. Ok (record { book = book.0; capacity = capacity; last = last; room = 0 }, book.1)) x read in
        let made : Sending × List ℕ = (record { book = b.0.0; capacity = capacity; last = last; room = 0 }, b.0.1) in
        subst (λ (y : Sending × List ℕ). SenderTaken limit bytes y.0 y.1) (ok_is made x b.2)
        (whole capacity last front behind b.0.0 b.0.1 first able most second small (book_found limit capacity behind b.0 second.rest_bytes b.1))

    after_capacity : (capacity : ℕ) (front : List ℕ) → Takes bytes (number capacity) front → 0 < capacity → capacity < 65536
        → (number_at front >>= λ last. book_at limit capacity last.1 >>= λ book. Ok (record { book = book.0; capacity = capacity; last = last.0; room = 0 }, book.1)) ≡ Ok x → SenderTaken limit bytes x.0 x.1
    after_capacity capacity front first able most read =
        let l = bind_ok (number_at front) (λ last. book_at limit capacity last.1 >>= λ book. Ok (record { book = book.0; capacity = capacity; last = last.0; room = 0 }, book.1)) x read in
        let second = number_found front l.0 first.rest_bytes l.1 in
        after_last capacity l.0.0 front l.0.1 first able most second.0 second.1 l.2

-- a book without its released identifiers is sound too
sound_entries : (c : ℕ) (es : List SenderEntry) (ids : List ℕ) → IsSound c (made_book es ids) → IsSound c (more_entries blank_book es)
sound_entries c es ids s =
    fewer c (made_book es ids) (more_entries blank_book es)
    (λ i. let t = times_more_released i (more_entries blank_book es) ids in omega arith)
    (let a = length_uses (made_book es ids) in let b = length_uses (more_entries blank_book es) in omega arith)
    s

book_again : (limit : ℕ) → (c : ℕ) (es : List SenderEntry) (ids rest : List ℕ) → IsSound c (made_book es ids) → AllByRecursion (IsKept limit) es
    → book_at limit c (number (length es) ++ (flat_map saved_entry es ++ (number (length ids) ++ (flat_map number ids ++ rest)))) ≡ Ok (made_book es ids, rest)
book_again limit c es ids rest s each =
    let behind = number (length ids) ++ (flat_map number ids ++ rest) in
    let used = length_uses (made_book es ids) in
    let within = s.within in
    let few : length es ≤ c = omega arith in
    let fewer_yet : length ids ≤ c - length es = omega arith in
    rw (
      within_again c (length es) (flat_map saved_entry es ++ behind) few,
      entries_again limit (length es) es blank_book c behind refl (sound_entries c es ids s) each,
      within_again (c - length es) (length ids) (flat_map number ids ++ rest) fewer_yet,
      released_again (length ids) ids (more_entries blank_book es) c rest refl s,
    ) refl

made_again : (limit : ℕ) → (capacity last : ℕ) (es : List SenderEntry) (ids rest : List ℕ) → 0 < capacity → IsSound capacity (made_book es ids) → AllByRecursion (IsKept limit) es
    → sender_at limit (saved_sender (record { book = made_book es ids; capacity = capacity; last = last; room = 0 }) ++ rest) ≡ Ok (record { book = made_book es ids; capacity = capacity; last = last; room = 0 }, rest)
unfolding sender_at
made_again limit capacity last es ids rest able s each =
    let text = number (length es) ++ (flat_map saved_entry es ++ (number (length ids) ++ (flat_map number ids ++ rest))) in
    let regrouped : saved_sender (record { book = made_book es ids; capacity = capacity; last = last; room = 0 }) ++ rest ≡ number capacity ++ (number last ++ text) =
    ap (λ (t : List ℕ). number capacity ++ (number last ++ (number (length es) ++ t))) (append_assoc (flat_map saved_entry es) (saved_ids ids) rest) in
    rw (regrouped, capacity_again capacity (number last ++ text) able, number_again last text, book_again limit capacity es ids rest s each) refl

pub sender_again : (limit : ℕ) → (s : Sending) (rest : List ℕ) → s.book.claimed ≡ [] → s.room ≡ 0 → 0 < s.capacity → IsSound s.capacity s.book → AllByRecursion (IsKept limit) s.book.entries → sender_at limit (saved_sender s ++ rest) ≡ Ok (s, rest)
sender_again limit s rest unclaimed unreserved able sound each =
    let same : s.book ≡ made_book s.book.entries s.book.released = ap (λ (cs : List Claimed). record s.book { claimed = cs }) unclaimed in
    let P : SenderBook → ℕ → Type 0 = λ b n. sender_at limit (saved_sender (record s { book = b }) ++ rest) ≡ Ok (record s { book = b; room = n }, rest) in
    subst (λ (n : ℕ). P s.book n) (sym unreserved) (subst (λ (b : SenderBook). P b 0) (sym same) (made_again limit s.capacity s.last s.book.entries s.book.released rest able (subst (IsSound s.capacity) same sound) each))
