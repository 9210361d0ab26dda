-- The bytes taken from a reader.
use Rattle.std.proofs.Common.{◌≡◌, ℕ, ◌<◌, ◌≤◌, List, [], ◌++◌, length, take, drop, Option, Some, None, Result, Ok, Err, sym, ap, subst, ◌∙◌, append_assoc, arith}
use Rattle.std.specs.Prelude.{IfSome, IfNone, IfOk, IfErr, OnErr}
use Rattle.std.specs.Io.KnownBytes.{Consumes, IsAtEnd}
use Rattle.std.proofs.lemmas.List.{append-nil, length-append, take-append-drop}
use Rattle.mq_packet.specs.declared.packet.Packet.{Packet}
use Rattle.mq_decode.specs.declared.fault.DecodeError.{DecodeError}
use Rattle.mq_decode.specs.declared.fault.DecodeError.TheVariants as decodes
use Rattle.mq_decode.specs.declared.read.ReadError.{ReadError}
use Rattle.mq_decode.specs.declared.read.ReadError.TheVariants as errors
use Rattle.mq_decode.specs.Limits.{Bounds}
use Rattle.mq_decode.specs.Grammar.{ReadsWithin, Faulty, Pending, Wants, IsFront}
use Rattle.mq_decode.specs.Laws.{ReadsAgain}
use Rattle.mq_decode.specs.Reader.{ReadStops, Answers, TakesSized, TakesWithin}
use Rattle.mq_decode.specs.Inside.Reader.{FillStops, stop_of, without_size}
use Rattle.mq_decode.proofs.Streams.{PendingBefore, before_alone, before_more, faulty_more}

-- something was left
pub left_some : (left now : Option (List ℕ)) (b : List ℕ) → 0 < length b → Consumes left now b → IfSome left (λ all. 0 < length all)
left_some None now b some c = tt
left_some (Some xs) None b some c = absurd c
left_some (Some xs) (Some ys) b some c = omega (arith, ap length c, length-append b ys, some)

-- The bytes taken are faulty, and so are all remaining bytes.
pub stops_at : (limit : Bounds) (left now : Option (List ℕ)) (b : List ℕ) (e : DecodeError) → IsFront limit b (Err e) → Consumes left now b → ReadStops limit left (stop_of e)
stops_at limit left now b decodes.Memory h c = left_some left now b h c
stops_at limit None now b (decodes.Fault fault) h c = tt
stops_at limit (Some xs) None b (decodes.Fault fault) h c = absurd c
stops_at limit (Some xs) (Some ys) b (decodes.Fault fault) h c = subst (λ (t : List ℕ). Faulty limit t fault.kind fault.place) (sym c) (faulty_more limit b ys fault.kind fault.place h)

-- the bytes that were taken are all of the packet
pub all_taken : (limit : Bounds) (b : List ℕ) (n : ℕ) (p : Packet) → PendingBefore limit b → (n ≤ length b) × ReadsWithin limit p (take n b) → ReadsWithin limit p b
all_taken limit b n p before h =
    let none : drop n b ≡ [] = before_alone limit b before p (take n b) (drop n b) h.1 (sym (take-append-drop n b)) in
    let same : take n b ≡ b = sym (append-nil (take n b)) ∙ (ap (λ (t : List ℕ). take n b ++ t) (sym none) ∙ take-append-drop n b) in
    subst (ReadsWithin limit p) same h.1

-- The remaining bytes were pending.
pub left_pending : (limit : Bounds) (left now : Option (List ℕ)) (b : List ℕ) → Pending limit b → 0 < length b → Consumes left now b → IsAtEnd now → IfSome left (λ all. Pending limit all × (0 < length all))
left_pending limit None now b h some c end = tt
left_pending limit (Some xs) None b h some c end = absurd c
left_pending limit (Some xs) (Some ys) b h some c end =
    let all : xs ≡ b = c ∙ (ap (λ (t : List ℕ). b ++ t) end ∙ append-nil b) in
    subst (λ (t : List ℕ). Pending limit t × (0 < length t)) (sym all) (h, some)

-- Nothing more was read.
pub fill_stops : (limit : Bounds) (left now : Option (List ℕ)) (b : List ℕ) (e : ReadError) → 0 < length b → Consumes left now b → FillStops e → ReadStops limit left e
fill_stops limit left now b errors.Cut some c h = absurd h
fill_stops limit left now b (errors.Io error) some c h = tt
fill_stops limit left now b (errors.Fault fault) some c h = absurd h
fill_stops limit left now b errors.Memory some c h = left_some left now b some c

-- a reader that is at its end before it gives a byte was at its end
pub end_before : (left now : Option (List ℕ)) (b : List ℕ) → Consumes left now b → b ≡ [] → IsAtEnd now → IsAtEnd left
end_before None now b c none end = tt
end_before (Some xs) None b c none end = absurd c
end_before (Some xs) (Some ys) b c none end = c ∙ (ap (λ (t : List ℕ). t ++ ys) none ∙ end)

some_is : {a b : List ℕ} → Some a ≡ Some b → a ≡ b
some_is e = cc

-- The encoding at the front is the packet that was read.
pub answers : (laws : ReadsAgain) (limit : Bounds) (p : Packet) (s rest : List ℕ) (r : Result (Option Packet) ReadError) (left now : Option (List ℕ)) → ReadsWithin limit p s → left ≡ Some (s ++ rest)
    → IfOk r (λ o. IfSome o (λ q. (t : List ℕ) × ReadsWithin limit q t × Consumes left now t)) → IfOk r (λ o. IfNone o (IsAtEnd left)) → IfErr r (ReadStops limit left) → Answers p rest r now
answers laws limit p s rest r None now h e packet none err = absurd cc
answers laws limit p s rest (Ok None) (Some xs) now h e packet none err =
    let all : s ++ rest ≡ [] = sym (some_is e) ∙ none in
    absurd (omega (arith, laws.some limit p s h, ap length all, length-append s rest))
answers laws limit p s rest (Ok (Some q)) (Some xs) None h e packet none err = absurd packet.2
answers laws limit p s rest (Ok (Some q)) (Some xs) (Some ys) h e packet none err =
    let one = laws.one limit p q s packet.0 rest ys h packet.1 (sym (some_is e) ∙ packet.2) in
    (ap (λ (x : Packet). Some x) (sym one.0), ap (λ (x : List ℕ). Some x) (sym one.1))
answers laws limit p s rest (Err errors.Cut) (Some xs) now h e packet none err = err.0.not_whole p s rest h (some_is e)
answers laws limit p s rest (Err (errors.Io error)) (Some xs) now h e packet none err = tt
answers laws limit p s rest (Err (errors.Fault fault)) (Some xs) now h e packet none err =
    laws.right limit p s rest fault.kind fault.place h (subst (λ (b : List ℕ). Faulty limit b fault.kind fault.place) (some_is e) err)
answers laws limit p s rest (Err errors.Memory) (Some xs) now h e packet none err = tt

-- one read after another
pub consumes_then : (left mid now : Option (List ℕ)) (a b c : List ℕ) → c ≡ a ++ b → Consumes left mid a → Consumes mid now b → Consumes left now c
consumes_then None mid now a b c e h k = tt
consumes_then (Some xs) None now a b c e h k = absurd h
consumes_then (Some xs) (Some ys) None a b c e h k = absurd k
consumes_then (Some xs) (Some ys) (Some zs) a b c e h k = h ∙ (ap (λ (t : List ℕ). a ++ t) k ∙ (sym (append_assoc a b zs) ∙ ap (λ (t : List ℕ). t ++ zs) (sym e)))

-- ---- the same without its size

pub sized_packet : (limit : Bounds) (r : Result (Option (Packet × ℕ)) ReadError) (left now : Option (List ℕ)) → IfOk r (λ o. IfSome o (TakesSized limit left now))
    → IfOk (without_size r) (λ o. IfSome o (λ p. (s : List ℕ) × ReadsWithin limit p s × Consumes left now s))
sized_packet limit (Ok None) left now h = tt
sized_packet limit (Ok (Some x)) left now h = (h.0, h.1, h.2)
sized_packet limit (Err e) left now h = tt

pub sized_none : (r : Result (Option (Packet × ℕ)) ReadError) (left : Option (List ℕ)) → IfOk r (λ o. IfNone o (IsAtEnd left)) → IfOk (without_size r) (λ o. IfNone o (IsAtEnd left))
sized_none (Ok None) left h = h
sized_none (Ok (Some x)) left h = tt
sized_none (Err e) left h = tt

pub sized_err : (limit : Bounds) (r : Result (Option (Packet × ℕ)) ReadError) (left : Option (List ℕ)) → IfErr r (ReadStops limit left) → IfErr (without_size r) (ReadStops limit left)
sized_err limit (Ok None) left h = tt
sized_err limit (Ok (Some x)) left h = tt
sized_err limit (Err e) left h = h

pub sized_within : (limit : Bounds) (r : Result (Option (Packet × ℕ)) ReadError) (left now : Option (List ℕ)) → OnErr r (TakesWithin limit left now) → OnErr (without_size r) (TakesWithin limit left now)
sized_within limit (Ok None) left now h = tt
sized_within limit (Ok (Some x)) left now h = tt
sized_within limit (Err e) left now h = h

-- ---- more is read

pub longer : (b held new more : List ℕ) → held ≡ b → new ≡ held ++ more → 0 < length b → 0 < length new
longer b held new more same e some = omega (arith, ap length same, ap length e, length-append held more, some)

-- The bytes taken are pending, and the next read takes at most what is missing.
pub more_taken : (limit : Bounds) (b held new more : List ℕ) (wanted : ℕ) (left mid now : Option (List ℕ)) → held ≡ b → Pending limit b → Wants limit held wanted → length more ≤ wanted → new ≡ held ++ more
    → Consumes left mid b → Consumes mid now more → Consumes left now new × PendingBefore limit new
more_taken limit b held new more wanted left mid now same pending wants few e taken read =
    let all : new ≡ b ++ more = e ∙ ap (λ (t : List ℕ). t ++ more) same in
    let before = before_more limit held more wanted (subst (Pending limit) (sym same) pending) wants few in
    (consumes_then left mid now b more new all taken read, subst (PendingBefore limit) (sym e) before)
