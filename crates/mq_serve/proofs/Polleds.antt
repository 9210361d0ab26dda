-- Written bytes, some of which are pending.
use Rattle.std.proofs.Common.{◌≡◌, ◌⊎◌, inl, inr, ℕ, List, [], ◌++◌, Option, None, Some, refl, sym, ap, ◌∙◌, take, drop, append-nil, append_assoc}
use Rattle.std.proofs.KnownBytes.{Keeps-trans}
use Rattle.std.proofs.lemmas.List.{take-append-drop}
use Rattle.std.specs.Bool.{⊤}
use Rattle.std.specs.Io.KnownBytes.{Appends, Keeps, append_known}
use Rattle.std.specs.Prelude.{OnErr, OnOk, Result, Ok, Err}
use Rattle.mq_packet.specs.Writing.{AppendsFront}
use Rattle.mq_serve.specs.Pending.{Sends, WritesFront, bytes_of}
use Rattle.mq_serve.specs.Polled.{Polled, written_of}

keeps_front : (pending rest : List ℕ) (old new : Option (List ℕ)) → WritesFront pending rest old new → Keeps (append_known old pending) (append_known new rest)
keeps_front pending rest None new w = tt
keeps_front pending rest (Some xs) None w = w.written
keeps_front pending rest (Some xs) (Some ys) w =
    ap (λ z. z ++ rest) w.written ∙ append_assoc xs (take w.count pending) rest ∙ ap (λ z. xs ++ (take w.count pending ++ z)) w.left ∙ ap (λ z. xs ++ z) (take-append-drop w.count pending)

keeps_pending : (pending rest : List ℕ) (old new : Option (List ℕ)) → Keeps old new → rest ≡ pending → Keeps (append_known old pending) (append_known new rest)
keeps_pending pending rest None new kept same = tt
keeps_pending pending rest (Some xs) None kept same = kept
keeps_pending pending rest (Some xs) (Some ys) kept same = ap (λ z. z ++ rest) kept ∙ ap (λ z. xs ++ z) same

-- pending output was written
pub keeps_written : (first old new : Polled) → Keeps (written_of first) (written_of old) → WritesFront (bytes_of old.pending) (bytes_of new.pending) old.taken new.taken → Keeps (written_of first) (written_of new)
keeps_written first old new before wrote = Keeps-trans _ _ _ before (keeps_front (bytes_of old.pending) (bytes_of new.pending) old.taken new.taken wrote)

-- bytes were read
pub keeps_read : (first old new : Polled) → Keeps (written_of first) (written_of old) → Keeps old.taken new.taken → new.pending ≡ old.pending → Keeps (written_of first) (written_of new)
keeps_read first old new before kept same = Keeps-trans _ _ _ before (keeps_pending (bytes_of old.pending) (bytes_of new.pending) old.taken new.taken kept (ap bytes_of same))

appends_sends : (bytes pending rest : List ℕ) (old new : Option (List ℕ)) → Sends bytes pending rest old new → Appends (append_known old pending) (append_known new rest) bytes
appends_sends bytes pending rest None new s = tt
appends_sends bytes pending rest (Some xs) None s = s.written
appends_sends bytes pending rest (Some xs) (Some ys) s = by_cases s.waits
  where
    by_cases : (pending ≡ []) ⊎ (s.count ≡ 0) → ys ++ rest ≡ (xs ++ pending) ++ bytes
    by_cases (inl none) =
        let rest_is : rest ≡ drop s.count bytes = s.left ∙ ap (λ z. z ++ drop s.count bytes) none in
        ap (λ z. z ++ rest) s.written ∙ append_assoc xs (take s.count bytes) rest ∙ ap (λ z. xs ++ (take s.count bytes ++ z)) rest_is ∙ ap (λ z. xs ++ z) (take-append-drop s.count bytes)
        ∙ ap (λ z. z ++ bytes) (sym (append-nil xs)) ∙ ap (λ z. (xs ++ z) ++ bytes) (sym none)
    by_cases (inr zero_is) =
        let taken_is : ys ≡ xs = s.written ∙ ap (λ k. xs ++ take k bytes) zero_is ∙ append-nil xs in
        let rest_is : rest ≡ pending ++ bytes = s.left ∙ ap (λ k. pending ++ drop k bytes) zero_is in
        ap (λ z. z ++ rest) taken_is ∙ ap (λ z. xs ++ z) rest_is ∙ sym (append_assoc xs pending bytes)

-- bytes were sent
pub appends_sent : {E : Type 0} (r : Result ⊤ E) (bytes : List ℕ) (old new : Polled) → OnOk r (Sends bytes (bytes_of old.pending) (bytes_of new.pending) old.taken new.taken) → OnOk r (Appends (written_of old) (written_of new) bytes)
appends_sent (Ok done) bytes old new sent = appends_sends bytes (bytes_of old.pending) (bytes_of new.pending) old.taken new.taken sent
appends_sent (Err e) bytes old new sent = tt

front_appends : (front pending rest : List ℕ) (old new : Option (List ℕ)) → Appends old new front → rest ≡ pending → pending ≡ [] → Appends (append_known old pending) (append_known new rest) front
front_appends front pending rest None new wrote same none = tt
front_appends front pending rest (Some xs) None wrote same none = wrote
front_appends front pending rest (Some xs) (Some ys) wrote same none =
    ap (λ z. ys ++ z) (same ∙ none) ∙ append-nil ys ∙ wrote ∙ ap (λ z. z ++ front) (sym (append-nil xs) ∙ ap (λ z. xs ++ z) (sym none))

keeps_appends : (pending rest : List ℕ) (old new : Option (List ℕ)) → Keeps old new → rest ≡ pending → Appends (append_known old pending) (append_known new rest) []
keeps_appends pending rest None new kept same = tt
keeps_appends pending rest (Some xs) None kept same = kept
keeps_appends pending rest (Some xs) (Some ys) kept same = ap (λ z. z ++ rest) kept ∙ ap (λ z. xs ++ z) same ∙ sym (append-nil (xs ++ pending))

front_failed : (bytes pending rest : List ℕ) (old new : Option (List ℕ)) → AppendsFront old new bytes → rest ≡ pending → (pending ≡ []) ⊎ Keeps old new → AppendsFront (append_known old pending) (append_known new rest) bytes
front_failed bytes pending rest old new f same (inl none) = record { front = f.front; rest = f.rest; parts = f.parts; appends = front_appends f.front pending rest old new f.appends same none }
front_failed bytes pending rest old new f same (inr kept) = record { front = []; rest = bytes; parts = refl; appends = keeps_appends pending rest old new kept same }

-- a part of the bytes was sent
pub front_sent : {E : Type 0} (r : Result ⊤ E) (bytes : List ℕ) (old new : Polled) → OnErr r (AppendsFront old.taken new.taken bytes) → OnErr r (new.pending ≡ old.pending) → OnErr r ((bytes_of old.pending ≡ []) ⊎ Keeps old.taken new.taken)
    → OnErr r (AppendsFront (written_of old) (written_of new) bytes)
front_sent (Ok done) bytes old new wrote same waits = tt
front_sent (Err e) bytes old new wrote same waits = front_failed bytes (bytes_of old.pending) (bytes_of new.pending) old.taken new.taken wrote (ap bytes_of same) waits
