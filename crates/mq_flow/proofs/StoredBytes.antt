-- The bytes of the messages of a table.
use Rattle.std.proofs.Common.{◌≡◌, ℕ, ◌+◌, ◌*◌, ◌^◌, ◌<◌, ◌≤◌, ◌∙◌, ◌-◌, Bool, true, false, cond, eqb, List, [], ◌∷◌, ◌++◌, length, map, Some, refl, sym, ap, subst, lit<, arith}
use Rattle.std.proofs.lemmas.List.Sums.{sum_by-cons, sum_by-append}
use Rattle.std.specs.List.{AllByRecursion}
use Rattle.std.specs.Map.{lookup, remove_entry}
use Rattle.mq_flow.specs.declared.entry.SenderEntry.{SenderEntry}
use Rattle.mq_flow.specs.declared.table.Held.{Held}
use Rattle.mq_flow.specs.declared.table.Held.TheVariants.{Waiting, Released}
use Rattle.mq_flow.specs.Held.{messages, message_in}
use Rattle.mq_flow.specs.Inside.Held.{gone_out, bytes_in, bytes_found, bytes_under}
use Rattle.mq_flow.specs.Stored.{message_bytes, entry_bytes, AreCounted}
use Rattle.mq_flow.proofs.Tables.{both_kinds}

abbrev weight : SenderEntry → ℕ
weight e = message_bytes e.message

pub bytes_cons : (e : SenderEntry) (es : List SenderEntry) → entry_bytes (e ∷ es) ≡ message_bytes e.message + entry_bytes es
bytes_cons e es = sum_by-cons weight e es

bytes_append : (es fs : List SenderEntry) → entry_bytes (es ++ fs) ≡ entry_bytes es + entry_bytes fs
bytes_append es fs = sum_by-append weight es fs

-- ---- one place

one_bytes : (h : Held) → entry_bytes (message_in h) ≡ bytes_in h
one_bytes (Waiting e) = let one = bytes_cons e [] in omega arith
one_bytes (Released i) = refl

messages_cons : (i : ℕ) (h : Held) (ps : List (ℕ × Held)) → entry_bytes (messages ((i, h) ∷ ps)) ≡ bytes_in h + entry_bytes (messages ps)
messages_cons i h ps = bytes_append (message_in h) (messages ps) ∙ ap (λ (n : ℕ). n + entry_bytes (messages ps)) (one_bytes h)

pub bytes_put : (i : ℕ) (h : Held) (ps : List (ℕ × Held)) → entry_bytes (messages (ps ++ (i, h) ∷ [])) ≡ entry_bytes (messages ps) + bytes_in h
bytes_put i h [] = let one = messages_cons i h [] in omega arith
bytes_put i h ((j, g) ∷ ps) =
    let first = messages_cons j g (ps ++ (i, h) ∷ []) in
    let all = messages_cons j g ps in
    let rest = bytes_put i h ps in
    omega arith

pub bytes_taken : (i : ℕ) (ps : List (ℕ × Held)) → entry_bytes (messages (remove_entry (eqb i) ps)) + bytes_under i ps ≡ entry_bytes (messages ps)
bytes_taken i [] = refl
bytes_taken i ((j, h) ∷ ps) = go (eqb i j) (bytes_taken i ps)
  where
    go : (b : Bool) → entry_bytes (messages (remove_entry (eqb i) ps)) + bytes_under i ps ≡ entry_bytes (messages ps)
        → entry_bytes (messages (cond b ps ((j, h) ∷ remove_entry (eqb i) ps))) + bytes_found (cond b (Some h) (lookup (eqb i) ps)) ≡ entry_bytes (messages ((j, h) ∷ ps))
    go true rest = let all = messages_cons j h ps in omega arith
    go false rest =
        let all = messages_cons j h ps in
        let some = messages_cons j h (remove_entry (eqb i) ps) in
        omega arith

gone_bytes : (h : Held) → bytes_in (gone_out h) ≡ bytes_in h
gone_bytes (Waiting e) = refl
gone_bytes (Released i) = refl

bytes_gone : (ps : List (ℕ × Held)) → entry_bytes (messages (map (λ p. (p.0, gone_out p.1)) ps)) ≡ entry_bytes (messages ps)
bytes_gone [] = refl
bytes_gone ((i, h) ∷ ps) =
    messages_cons i (gone_out h) (map (λ p. (p.0, gone_out p.1)) ps)
    ∙ ap (λ (n : ℕ). n + entry_bytes (messages (map (λ p. (p.0, gone_out p.1)) ps))) (gone_bytes h)
    ∙ ap (λ (n : ℕ). bytes_in h + n) (bytes_gone ps)
    ∙ sym (messages_cons i h ps)

-- ---- each message is short

abbrev Short : SenderEntry → Type 0
Short e = message_bytes e.message < 2 ^ 29

abbrev AreShort : List (ℕ × Held) → Type 0
AreShort ps = AllByRecursion Short (messages ps)

short_cons : (i : ℕ) (h : Held) (ps : List (ℕ × Held)) → AllByRecursion Short (message_in h) → AreShort ps → AreShort ((i, h) ∷ ps)
short_cons i (Waiting e) ps one rest = (one.0, rest)
short_cons i (Released j) ps one rest = rest

short_first : (i : ℕ) (h : Held) (ps : List (ℕ × Held)) → AreShort ((i, h) ∷ ps) → AllByRecursion Short (message_in h)
short_first i (Waiting e) ps all = (all.0, tt)
short_first i (Released j) ps all = tt

short_rest : (i : ℕ) (h : Held) (ps : List (ℕ × Held)) → AreShort ((i, h) ∷ ps) → AreShort ps
short_rest i (Waiting e) ps all = all.1
short_rest i (Released j) ps all = all

short_held : (h : Held) → bytes_in h < 2 ^ 29 → AllByRecursion Short (message_in h)
short_held (Waiting e) less = (less, tt)
short_held (Released i) less = tt

short_put : (i : ℕ) (h : Held) (ps : List (ℕ × Held)) → bytes_in h < 2 ^ 29 → AreShort ps → AreShort (ps ++ (i, h) ∷ [])
short_put i h [] less all = short_cons i h [] (short_held h less) tt
short_put i h ((j, g) ∷ ps) less all = short_cons j g (ps ++ (i, h) ∷ []) (short_first j g ps all) (short_put i h ps less (short_rest j g ps all))

short_taken : (i : ℕ) (ps : List (ℕ × Held)) → AreShort ps → AreShort (remove_entry (eqb i) ps)
short_taken i [] all = tt
short_taken i ((j, h) ∷ ps) all = go (eqb i j) (short_taken i ps (short_rest j h ps all))
  where
    go : (b : Bool) → AreShort (remove_entry (eqb i) ps) → AreShort (cond b ps ((j, h) ∷ remove_entry (eqb i) ps))
    go true rest = short_rest j h ps all
    go false rest = short_cons j h (remove_entry (eqb i) ps) (short_first j h ps all) rest

short_gone : (ps : List (ℕ × Held)) → AreShort ps → AreShort (map (λ p. (p.0, gone_out p.1)) ps)
short_gone [] all = tt
short_gone ((i, Waiting e) ∷ ps) all = (all.0, short_gone ps all.1)
short_gone ((i, Released j) ∷ ps) all = short_gone ps all

-- ---- the sum

-- messages have less than this number of bytes in all
short_sum : (es : List SenderEntry) → AllByRecursion Short es → entry_bytes es ≤ length es * 2 ^ 29
short_sum [] all = omega arith
short_sum (e ∷ es) all = let one = all.0 in let rest = short_sum es all.1 in let sum = bytes_cons e es in omega arith

pub bytes_bound : (n : ℕ) (ps : List (ℕ × Held)) → AreCounted n (messages ps) → length ps < 65536 → n < 2 ^ 46
bytes_bound n ps counted few =
    let sum = short_sum (messages ps) counted.short in
    let kinds = both_kinds ps in
    let is = counted.sum in
    omega arith

pub counted_put : (n i : ℕ) (h : Held) (ps ts : List (ℕ × Held)) → ts ≡ ps ++ (i, h) ∷ [] → bytes_in h < 2 ^ 29 → AreCounted n (messages ps) → AreCounted (n + bytes_in h) (messages ts)
counted_put n i h ps ts is less counted = subst (λ (xs : List (ℕ × Held)). AreCounted (n + bytes_in h) (messages xs)) (sym is) (record {
  sum = ap (λ (k : ℕ). k + bytes_in h) counted.sum ∙ sym (bytes_put i h ps);
  short = short_put i h ps less counted.short;
})

pub counted_taken : (n i : ℕ) (ps ts : List (ℕ × Held)) → ts ≡ remove_entry (eqb i) ps → AreCounted n (messages ps) → AreCounted (n - bytes_under i ps) (messages ts)
counted_taken n i ps ts is counted = subst (λ (xs : List (ℕ × Held)). AreCounted (n - bytes_under i ps) (messages xs)) (sym is) (record {
  sum = let all = bytes_taken i ps in let sum = counted.sum in omega arith;
  short = short_taken i ps counted.short;
})

pub counted_released : (n i : ℕ) (ps ts : List (ℕ × Held)) → ts ≡ remove_entry (eqb i) ps ++ (i, Released i) ∷ [] → AreCounted n (messages ps) → AreCounted (n - bytes_under i ps) (messages ts)
counted_released n i ps ts is counted = subst (λ (xs : List (ℕ × Held)). AreCounted (n - bytes_under i ps) (messages xs)) (sym is) (record {
  sum = let all = bytes_taken i ps in let sum = counted.sum in let more = bytes_put i (Released i) (remove_entry (eqb i) ps) in omega arith;
  short = short_put i (Released i) (remove_entry (eqb i) ps) (lit< tt) (short_taken i ps counted.short);
})

pub counted_gone : (n : ℕ) (ps ts : List (ℕ × Held)) → ts ≡ map (λ p. (p.0, gone_out p.1)) ps → AreCounted n (messages ps) → AreCounted n (messages ts)
counted_gone n ps ts is counted = subst (λ (xs : List (ℕ × Held)). AreCounted n (messages xs)) (sym is) (record {
  sum = counted.sum ∙ sym (bytes_gone ps);
  short = short_gone ps counted.short;
})
