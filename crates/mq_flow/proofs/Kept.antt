-- The sender's invariant at each move, and its book after it.
use Rattle.std.proofs.Common.{◌≡◌, ℕ, ◌+◌, ◌<◌, ◌≤◌, ◌∙◌, Bool, true, false, not, cond, ◌||◌, eqb, ltb, List, [], ◌∷◌, ◌++◌, map, length, remove, Option, Some, None, refl, sym, ap, arith, append-nil}
use Rattle.std.specs.List.{list_any, HoldsAt}
use Rattle.std.specs.Option.{is_some}
use Rattle.std.specs.Map.{keys_of, lookup, remove_entry}
use Rattle.std.proofs.lemmas.Bool.{lt-ltb, le-ltb}
use Rattle.std.proofs.lemmas.Bool.Decides.{nat_tests}
use Rattle.std.proofs.lemmas.Grind.{flat_map-append}
use Rattle.std.proofs.lemmas.List.{map-id}
use Rattle.mq_topic.specs.declared.qos.Qos.{Qos}
use Rattle.mq_topic.specs.declared.qos.Qos.TheVariants.{Q0, Q1, Q2}
use Rattle.mq_packet.specs.declared.message.Message.{Message}
use Rattle.mq_flow.specs.declared.entry.SenderEntry.{SenderEntry}
use Rattle.mq_flow.specs.declared.claim.Claim.{Claim}
use Rattle.mq_flow.specs.declared.claim.Claimed.{Claimed}
use Rattle.mq_flow.specs.declared.table.Held.{Held}
use Rattle.mq_flow.specs.declared.table.Held.TheVariants.{Waiting, Released}
use Rattle.mq_flow.specs.Sender.{SenderBook, uses, times, IsFree, is_full, same_qos, is_awaited, accept, claim, release, no_claims, all_sent, on_puback, on_pubrec, on_pubcomp, without, without_entry, without_claim}
use Rattle.mq_flow.specs.Held.{message_in, release_in, messages, releases, book_of, AreUnder}
use Rattle.mq_flow.specs.Inside.Held.{gone_out}
use Rattle.mq_flow.specs.Loading.{with_released}
use Rattle.mq_flow.specs.Sending.{Sending, Keeps}
use Rattle.mq_flow.specs.Laws.{IsSound}
use Rattle.mq_flow.proofs.Tables.{both_kinds}
use Rattle.mq_flow.proofs.Counting.{without_absent, awaited_there}
use Rattle.mq_flow.proofs.Books.{laws, times_uses, length_uses}
use Rattle.mq_flow.proofs.Queues.{remove_is, others_absent, any_times, none_push, none_filter}
use Rattle.mq_flow.proofs.Holding.{times_keys, found_keys, messages_removed, releases_removed, messages_gone, releases_gone}

-- the claims of a book that is sound have each identifier at most once
pub once_claimed : (capacity i : ℕ) (b : SenderBook) → IsSound capacity b → times i (map (λ c. c.id) b.claimed) ≤ 1
once_claimed capacity i b s = let d = s.distinct i in let t = times_uses i b in omega arith

-- the book after an acknowledgement that something waits for
puback_is : (i : ℕ) (b : SenderBook) → is_awaited Q1 i b.entries ≡ true → on_puback i b ≡ record b { entries = without_entry i b.entries }
puback_is i b h = ap (λ t. record b { entries = cond t (without_entry i b.entries) b.entries }) h

pubrec_is : (i : ℕ) (b : SenderBook) → is_awaited Q2 i b.entries ≡ true → on_pubrec i b ≡ record b { entries = without_entry i b.entries; released = b.released ++ i ∷ [] }
pubrec_is i b h = ap (λ t. record b { entries = cond t (without_entry i b.entries) b.entries; released = cond t (b.released ++ i ∷ []) b.released }) h

-- ---- The table, the requests and the book

-- Each identifier occurs in the table at most once.
pub once_keys : (capacity : ℕ) (ps : List (ℕ × Held)) (cs : List Claimed) → AreUnder ps → IsSound capacity (book_of ps cs) → (i : ℕ) → times i (keys_of ps) ≤ 1
once_keys capacity ps cs u s i = let d = s.distinct i in let t = times_uses i (book_of ps cs) in let k = times_keys ps u i in omega arith

pub uses_keys : (ps : List (ℕ × Held)) (cs : List Claimed) → AreUnder ps → (i : ℕ) → times i (uses (book_of ps cs)) ≡ times i (keys_of ps) + times i (map (λ c. c.id) cs)
uses_keys ps cs u i = let t = times_uses i (book_of ps cs) in let k = times_keys ps u i in omega arith

pub length_used : (ps : List (ℕ × Held)) (cs : List Claimed) → length (uses (book_of ps cs)) ≡ length ps + length cs
length_used ps cs = let u = length_uses (book_of ps cs) in let p = both_kinds ps in omega arith

-- an identifier that is free is not in the table
pub free_absent : (i : ℕ) (ps : List (ℕ × Held)) (cs : List Claimed) → AreUnder ps → times i (uses (book_of ps cs)) ≡ 0 → lookup (eqb i) ps ≡ None
free_absent i ps cs u z = let t = uses_keys ps cs u i in nothing (lookup (eqb i) ps) (found_keys i ps ∙ le-ltb 0 (times i (keys_of ps)) (omega arith))
  where
    nothing : (o : Option Held) → is_some o ≡ false → o ≡ None
    nothing (Some h) e = absurd cc
    nothing None e = refl

-- A pending message is in the table.
pub awaited_kept : (q : Qos) (i : ℕ) (ps : List (ℕ × Held)) → AreUnder ps → is_awaited q i (messages ps) ≡ true → is_some (lookup (eqb i) ps) ≡ true
awaited_kept q i ps u h = let a = awaited_there q i (messages ps) h in let t = times_keys ps u i in found_keys i ps ∙ lt-ltb 0 (times i (keys_of ps)) (omega arith)

-- A pending message is not released.
awaited_unreleased : (q : Qos) (capacity i : ℕ) (ps : List (ℕ × Held)) (cs : List Claimed) → IsSound capacity (book_of ps cs) → is_awaited q i (messages ps) ≡ true → without i (releases ps) ≡ releases ps
awaited_unreleased q capacity i ps cs s h =
    let a = awaited_there q i (messages ps) h in
    let t = times_uses i (book_of ps cs) in
    let d = s.distinct i in
    without_absent i (releases ps) (omega arith)

-- A released identifier is no message.
released_acknowledged : (capacity i : ℕ) (ps : List (ℕ × Held)) (cs : List Claimed) → IsSound capacity (book_of ps cs) → list_any (λ j. eqb j i) (releases ps) ≡ true → without_entry i (messages ps) ≡ messages ps
released_acknowledged capacity i ps cs s h =
    let r : ltb 0 (times i (releases ps)) ≡ true = sym (any_times (λ (j : ℕ). j) i (releases ps) ∙ ap (λ (l : List ℕ). ltb 0 (times i l)) (map-id (releases ps))) ∙ h in
    let t = times_uses i (book_of ps cs) in
    let d = s.distinct i in
    others_absent (λ (e : SenderEntry). e.id) i (messages ps) (grind (arith, nat_tests))

pub table_accept : (i : ℕ) (m : Message) (sent : Bool) (ps : List (ℕ × Held)) (cs : List Claimed) → book_of (ps ++ (i, Waiting (record { id = i; message = m; sent = sent })) ∷ []) cs ≡ accept i m sent (book_of ps cs)
table_accept i m sent ps cs = λ t. record {
  entries = flat_map-append (λ (p : ℕ × Held). message_in p.1) ps ((i, Waiting (record { id = i; message = m; sent = sent })) ∷ []) t;
  released = (flat_map-append (λ (p : ℕ × Held). release_in p.1) ps ((i, Waiting (record { id = i; message = m; sent = sent })) ∷ []) ∙ append-nil (releases ps)) t;
  claimed = cs;
}

pub table_released : (i : ℕ) (ps : List (ℕ × Held)) (cs : List Claimed) → book_of (ps ++ (i, Released i) ∷ []) cs ≡ with_released i (book_of ps cs)
table_released i ps cs = λ t. record {
  entries = (flat_map-append (λ (p : ℕ × Held). message_in p.1) ps ((i, Released i) ∷ []) ∙ append-nil (messages ps)) t;
  released = flat_map-append (λ (p : ℕ × Held). release_in p.1) ps ((i, Released i) ∷ []) t;
  claimed = cs;
}

pub table_puback : (capacity i : ℕ) (ps : List (ℕ × Held)) (cs : List Claimed) → AreUnder ps → IsSound capacity (book_of ps cs) → is_awaited Q1 i (messages ps) ≡ true → book_of (remove_entry (eqb i) ps) cs ≡ on_puback i (book_of ps cs)
table_puback capacity i ps cs u s h =
    let once = once_keys capacity ps cs u s in
    let gone = messages_removed i ps u once in
    let kept = releases_removed i ps u once ∙ awaited_unreleased Q1 capacity i ps cs s h in
    (λ t. record { entries = gone t; released = kept t; claimed = cs }) ∙ sym (puback_is i (book_of ps cs) h)

pub table_pubrec : (capacity i : ℕ) (ps : List (ℕ × Held)) (cs : List Claimed) → AreUnder ps → IsSound capacity (book_of ps cs) → is_awaited Q2 i (messages ps) ≡ true → book_of (remove_entry (eqb i) ps ++ (i, Released i) ∷ []) cs ≡ on_pubrec i (book_of ps cs)
table_pubrec capacity i ps cs u s h =
    let once = once_keys capacity ps cs u s in
    let gone = messages_removed i ps u once in
    let kept = ap (λ (js : List ℕ). js ++ i ∷ []) (releases_removed i ps u once ∙ awaited_unreleased Q2 capacity i ps cs s h) in
    table_released i (remove_entry (eqb i) ps) cs ∙ (λ t. record { entries = gone t; released = kept t; claimed = cs }) ∙ sym (pubrec_is i (book_of ps cs) h)

pub table_pubcomp : (capacity i : ℕ) (ps : List (ℕ × Held)) (cs : List Claimed) → AreUnder ps → IsSound capacity (book_of ps cs) → list_any (λ j. eqb j i) (releases ps) ≡ true → book_of (remove_entry (eqb i) ps) cs ≡ on_pubcomp i (book_of ps cs)
table_pubcomp capacity i ps cs u s h =
    let once = once_keys capacity ps cs u s in
    let kept = messages_removed i ps u once ∙ released_acknowledged capacity i ps cs s h in
    let gone = releases_removed i ps u once in
    λ t. record { entries = kept t; released = gone t; claimed = cs }

pub table_sent : (ps : List (ℕ × Held)) (cs : List Claimed) → book_of (map (λ p. (p.0, gone_out p.1)) ps) cs ≡ all_sent (book_of ps cs)
table_sent ps cs = λ t. record { entries = messages_gone ps t; released = releases_gone ps t; claimed = cs }

-- ---- the moves

-- a message is accepted
pub keeps_accept : (s : Sending) (i : ℕ) (message : Message) (sent : Bool) → Keeps s → is_full s.capacity s.book ≡ false → IsFree s.book i → (message.qos ≡ Q0 → ⊥) → Keeps (record s { book = accept i message sent s.book; last = i })
keeps_accept s i message sent k room free acknowledged = record {
  sound = laws.accepts s.capacity i message sent s.book room free k.sound;
  able = k.able;
  most = k.most;
  acknowledged = none_push (λ (e : SenderEntry). same_qos Q0 e.message.qos) s.book.entries _ k.acknowledged (not_zero message acknowledged);
}
  where
    not_zero : (message : Message) → (message.qos ≡ Q0 → ⊥) → same_qos Q0 message.qos ≡ false
    not_zero message n = elim message.qos as (λ q. (q ≡ Q0 → ⊥) → same_qos Q0 q ≡ false) [ Q0 ↦ λ h. absurd (h refl) | Q1 ↦ λ h. refl | Q2 ↦ λ h. refl ] n

pub keeps_claim : (s : Sending) (i : ℕ) (kind : Claim) (count : ℕ) → Keeps s → is_full s.capacity s.book ≡ false → IsFree s.book i → Keeps (record s { book = claim i kind count s.book; last = i })
keeps_claim s i kind count k room free = record {
  sound = laws.claims s.capacity i kind count s.book room free k.sound;
  able = k.able;
  most = k.most;
  acknowledged = k.acknowledged;
}

-- the same messages, or none that was not there before
keeps_same : (s : Sending) (b : SenderBook) → Keeps s → IsSound s.capacity b → list_any (λ e. same_qos Q0 e.message.qos) b.entries ≡ false → Keeps (record s { book = b })
keeps_same s b k sound acknowledged = record { sound = sound; able = k.able; most = k.most; acknowledged = acknowledged }

pub keeps_release : (s : Sending) (i : ℕ) → Keeps s → Keeps (record s { book = release i s.book })
keeps_release s i k = keeps_same s (release i s.book) k (laws.releases s.capacity i s.book k.sound) k.acknowledged

pub keeps_no_claims : (s : Sending) → Keeps s → Keeps (record s { book = no_claims s.book })
keeps_no_claims s k = keeps_same s (no_claims s.book) k (laws.drops s.capacity s.book k.sound) k.acknowledged

pub none_sent : (es : List SenderEntry) → list_any (λ (e : SenderEntry). same_qos Q0 e.message.qos) (map (λ (e : SenderEntry). record { id = e.id; message = e.message; sent = true }) es) ≡ list_any (λ (e : SenderEntry). same_qos Q0 e.message.qos) es
none_sent [] = refl
none_sent (e ∷ es) = ap (λ b. same_qos Q0 e.message.qos || b) (none_sent es)

pub keeps_sent : (s : Sending) → Keeps s → Keeps (record s { book = all_sent s.book })
keeps_sent s k = keeps_same s (all_sent s.book) k (laws.sends s.capacity s.book k.sound) (none_sent s.book.entries ∙ k.acknowledged)

none_out : (i : ℕ) (es : List SenderEntry) (t : Bool) → list_any (λ (e : SenderEntry). same_qos Q0 e.message.qos) es ≡ false → list_any (λ (e : SenderEntry). same_qos Q0 e.message.qos) (cond t (without_entry i es) es) ≡ false
none_out i es true n = none_filter (λ (e : SenderEntry). same_qos Q0 e.message.qos) (λ (e : SenderEntry). not (eqb e.id i)) es n
none_out i es false n = n

pub keeps_puback : (s : Sending) (i : ℕ) → Keeps s → Keeps (record s { book = on_puback i s.book })
keeps_puback s i k = keeps_same s (on_puback i s.book) k (laws.puback s.capacity i s.book k.sound) (none_out i s.book.entries (is_awaited Q1 i s.book.entries) k.acknowledged)

pub keeps_pubrec : (s : Sending) (i : ℕ) → Keeps s → Keeps (record s { book = on_pubrec i s.book })
keeps_pubrec s i k = keeps_same s (on_pubrec i s.book) k (laws.pubrec s.capacity i s.book k.sound) (none_out i s.book.entries (is_awaited Q2 i s.book.entries) k.acknowledged)

pub keeps_pubcomp : (s : Sending) (i : ℕ) → Keeps s → Keeps (record s { book = on_pubcomp i s.book })
keeps_pubcomp s i k = keeps_same s (on_pubcomp i s.book) k (laws.pubcomp s.capacity i s.book k.sound) k.acknowledged

-- ---- The remaining requests

pub claim_out : (s : Sending) (i at : ℕ) → Keeps s → at < length s.book.claimed → HoldsAt (λ c. c.id ≡ i) s.book.claimed at → remove s.book.claimed at ≡ without_claim i s.book.claimed
claim_out s i at k l h = remove_is (λ (c : Claimed). c.id) i s.book.claimed at l h (once_claimed s.capacity i s.book k.sound)

-- an identifier that is not released or claimed changes nothing
pub absent_released : (i : ℕ) (b : SenderBook) → list_any (λ j. eqb j i) b.released ≡ false → without i b.released ≡ b.released
absent_released i b h =
    let t = any_times (λ (j : ℕ). j) i b.released in
    let z : ltb 0 (times i (map (λ (j : ℕ). j) b.released)) ≡ false = sym t ∙ h in
    others_absent (λ (j : ℕ). j) i b.released (grind (arith, nat_tests))

pub absent_claimed : (i : ℕ) (b : SenderBook) → list_any (λ c. eqb c.id i) b.claimed ≡ false → without_claim i b.claimed ≡ b.claimed
absent_claimed i b h =
    let t = any_times (λ (c : Claimed). c.id) i b.claimed in
    let z : ltb 0 (times i (map (λ (c : Claimed). c.id) b.claimed)) ≡ false = sym t ∙ h in
    others_absent (λ (c : Claimed). c.id) i b.claimed (grind (arith, nat_tests))
