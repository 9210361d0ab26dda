-- The laws of single fields of the saved form: writing and reading are inverse to each other.
use Rattle.std.proofs.Common.{◌≡◌, ℕ, ◌+◌, ◌*◌, ◌/◌, ◌%◌, ◌<◌, ◌≤◌, Bool, true, false, cond, not, ◌||◌, eqb, ltb, leb, List, [], ◌∷◌, ◌++◌, length, take, drop, Result, Ok, Err, Option, Some, None, refl, sym, ap, subst, ◌∙◌, append_assoc, arith}
use Rattle.std.specs.List.{list_any}
use Rattle.std.specs.Option.{is_none, option_or}
use Rattle.std.specs.Str.{is_utf8}
use Rattle.std.proofs.lemmas.Bool.{ltb-false, le-ltb, leb-false, lt-leb, eqb-false, eqb-true, ne_eqb, or_parts, and_parts, and_from, not-true}
use Rattle.std.proofs.lemmas.List.{take_at, drop_at, length-append, length-take, take-append-drop, get_or-drop}
use Rattle.std.proofs.Math.Seq.{drop-append_seam}
use Rattle.mq_topic.specs.declared.qos.Qos.{Qos}
use Rattle.mq_topic.specs.declared.qos.Qos.TheVariants.{Q0, Q1, Q2}
use Rattle.mq_topic.specs.Qos.{qos_number}
use Rattle.mq_topic.specs.Topic.{IsTopicName, is_topic_name, is_wildcard}
use Rattle.mq_topic.specs.Fault.{name_fault}
use Rattle.mq_topic.specs.declared.fault.TopicFault.{TopicFault}
use Rattle.mq_topic.specs.declared.fault.TopicFault.TheVariants.{Empty, Nul, TooLong, Wildcard}
use Rattle.mq_packet.specs.Encoding.{bit}
use Rattle.mq_flow.specs.declared.load.Flags.{Flags}
use Rattle.mq_flow.specs.Sender.{SenderBook, uses, times, IsFree}
use Rattle.mq_wire.specs.Number.{number}
use Rattle.mq_wire.specs.Text.{counted}
use Rattle.mq_flow.specs.Saved.{count, saved_payload}
use Rattle.mq_wire.specs.Bytes.{AreBytes}
use Rattle.mq_flow.specs.Loading.{◌>>=◌, bad_at, number_at, count_at, capacity_at, number_within, free_at, qos_at, flag_at, flags_at, is_topic, topic_at, is_over_limit, payload_at, next_at}

-- ---- steps

-- the value of a step that did not fail
pub bind_ok : {A B : Type 0} (r : Result A ℕ) (f : A → Result B ℕ) (y : B) → (r >>= f) ≡ Ok y → (x : A) × (r ≡ Ok x) × (f x ≡ Ok y)
bind_ok (Ok x) f y e = (x, refl, e)
bind_ok (Err d) f y e = absurd cc

-- a test that did not fail
pub guard_ok : {A : Type 0} (b : Bool) (d : ℕ) (x y : A) → cond b (Err d) (Ok x) ≡ Ok y → (b ≡ false) × (x ≡ y)
guard_ok true d x y e = absurd cc
guard_ok false d x y e = (refl, cc)

-- a reading that succeeds
abbrev pub done : {A : Type 0} → A → Result A ℕ
done x = Ok x

pub ok_is : {A : Type 0} (x y : A) → done x ≡ done y → x ≡ y
ok_is x y e = cc

-- ---- bytes

AreBytes-drop : (n : ℕ) (bytes : List ℕ) → AreBytes bytes → AreBytes (drop n bytes)
AreBytes-drop n bytes h i = rw get_or-drop (h (n + i))

pub AreBytes-rest : (front rest : List ℕ) → AreBytes (front ++ rest) → AreBytes rest
AreBytes-rest front rest h = subst AreBytes (drop-append_seam front rest) (AreBytes-drop (length front) (front ++ rest) h)

-- A field was read from the front: its encoding comes first, and the rest are bytes.
pub record Takes (bytes text rest : List ℕ) : Type 0 where
  pub parts : bytes ≡ text ++ rest
  pub rest_bytes : AreBytes rest

pub takes : (bytes text rest : List ℕ) → AreBytes bytes → bytes ≡ text ++ rest → Takes bytes text rest
takes bytes text rest h parts = record { parts = parts; rest_bytes = AreBytes-rest text rest (subst AreBytes parts h) }

-- one field, and then another
pub Takes-then : {a b c : List ℕ} (x y : List ℕ) → Takes a x b → Takes b y c → Takes a (x ++ y) c
Takes-then {c = c} x y p q = record { parts = p.parts ∙ (ap (λ (t : List ℕ). x ++ t) q.parts ∙ sym (append_assoc x y c)); rest_bytes = q.rest_bytes }

-- ---- a number of two bytes

pub number_found : (bytes : List ℕ) (x : ℕ × List ℕ) → AreBytes bytes → number_at bytes ≡ Ok x → Takes bytes (number x.0) x.1 × (x.0 < 65536)
unfolding number_at
number_found [] x h e = absurd cc
number_found (a ∷ []) x h e = absurd cc
number_found (a ∷ b ∷ rest) x h e =
    let high : a < 256 = h 0 in
    let low : b < 256 = h 1 in
    let a_is : (256 * a + b) / 256 ≡ a = omega arith in
    let b_is : (256 * a + b) % 256 ≡ b = omega arith in
    let whole : a ∷ b ∷ rest ≡ number (256 * a + b) ++ rest = rw (a_is, b_is) refl in
    subst (λ (y : ℕ × List ℕ). Takes (a ∷ b ∷ rest) (number y.0) y.1 × (y.0 < 65536)) (ok_is (256 * a + b, rest) x e) (takes _ _ rest h whole, omega arith)

pub number_again : (n : ℕ) (rest : List ℕ) → number_at (number n ++ rest) ≡ Ok (n, rest)
unfolding number_at
number_again n rest = let back : 256 * (n / 256) + n % 256 ≡ n = omega arith in rw back refl

-- ---- a number of four bytes

pub count_found : (bytes : List ℕ) (x : ℕ × List ℕ) → AreBytes bytes → count_at bytes ≡ Ok x → Takes bytes (count x.0) x.1
unfolding count_at
count_found bytes x h e = elim (ltb (length bytes) 4) as (λ b. cond b (bad_at bytes) (number_at bytes >>= λ high. number_at high.1 >>= λ low. Ok (65536 * high.0 + low.0, low.1)) ≡ Ok x → Takes bytes (count x.0) x.1) [
  | true ↦ λ e. absurd cc
  | false ↦ λ e.
      let high = bind_ok (number_at bytes) (λ high. number_at high.1 >>= λ low. Ok (65536 * high.0 + low.0, low.1)) x e in
      let low = bind_ok (number_at high.0.1) (λ low. Ok (65536 * high.0.0 + low.0, low.1)) x high.2 in
      let a = number_found bytes high.0 h high.1 in
      let b = number_found high.0.1 low.0 a.0.rest_bytes low.1 in
      let n = 65536 * high.0.0 + low.0.0 in
      let high_is : n / 65536 ≡ high.0.0 = omega (arith, b.1) in
      let low_is : n % 65536 ≡ low.0.0 = omega (arith, b.1) in
      let both = Takes-then (number high.0.0) (number low.0.0) a.0 b.0 in
      let whole : Takes bytes (count n) low.0.1 = subst (λ (t : List ℕ). Takes bytes t low.0.1) (ap (λ k. number k ++ number low.0.0) (sym high_is) ∙ ap (λ k. number (n / 65536) ++ number k) (sym low_is)) both in
      subst (λ (y : ℕ × List ℕ). Takes bytes (count y.0) y.1) (ok_is (n, low.0.1) x low.2) whole
] e

pub count_again : (n : ℕ) (rest : List ℕ) → count_at (count n ++ rest) ≡ Ok (n, rest)
unfolding count_at
count_again n rest =
    let long : ltb (length (count n ++ rest)) 4 ≡ false = le-ltb _ _ (omega arith) in
    let back : 65536 * (n / 65536) + n % 65536 ≡ n = omega arith in
    rw (long, number_again (n / 65536) (number (n % 65536) ++ rest), number_again (n % 65536) rest, back) refl

-- ---- numbers that are tested

pub capacity_found : (bytes : List ℕ) (x : ℕ × List ℕ) → AreBytes bytes → capacity_at bytes ≡ Ok x → Takes bytes (number x.0) x.1 × (0 < x.0) × (x.0 < 65536)
unfolding capacity_at
capacity_found bytes x h e =
    let b = bind_ok (number_at bytes) (λ n. cond (eqb n.0 0) (bad_at bytes) (Ok n)) x e in
    let g = guard_ok (eqb b.0.0 0) (length bytes) b.0 x b.2 in
    let n = number_found bytes b.0 h b.1 in
    let some = eqb-false b.0.0 0 g.0 in
    let able : 0 < b.0.0 = omega arith in
    subst (λ (y : ℕ × List ℕ). Takes bytes (number y.0) y.1 × (0 < y.0) × (y.0 < 65536)) g.1 (n.0, able, n.1)

pub capacity_again : (n : ℕ) (rest : List ℕ) → 0 < n → capacity_at (number n ++ rest) ≡ Ok (n, rest)
unfolding capacity_at
capacity_again n rest able = let some : eqb n 0 ≡ false = ne_eqb n 0 (λ z. omega arith) in rw (number_again n rest, some) refl

pub within_found : (room : ℕ) (bytes : List ℕ) (x : ℕ × List ℕ) → AreBytes bytes → number_within room bytes ≡ Ok x → Takes bytes (number x.0) x.1 × (x.0 ≤ room)
unfolding number_within
within_found room bytes x h e =
    let b = bind_ok (number_at bytes) (λ n. cond (ltb room n.0) (bad_at bytes) (Ok n)) x e in
    let g = guard_ok (ltb room b.0.0) (length bytes) b.0 x b.2 in
    let n = number_found bytes b.0 h b.1 in
    subst (λ (y : ℕ × List ℕ). Takes bytes (number y.0) y.1 × (y.0 ≤ room)) g.1 (n.0, ltb-false room b.0.0 g.0)

pub within_again : (room n : ℕ) (rest : List ℕ) → n ≤ room → number_within room (number n ++ rest) ≡ Ok (n, rest)
unfolding number_within
within_again room n rest fits = let small : ltb room n ≡ false = le-ltb room n fits in rw (number_again n rest, small) refl

pub next_found : (last : ℕ) (bytes : List ℕ) (x : ℕ × List ℕ) → AreBytes bytes → next_at last bytes ≡ Ok x → Takes bytes (number x.0) x.1 × (last < x.0) × (x.0 < 65536)
unfolding next_at
next_found last bytes x h e =
    let b = bind_ok (number_at bytes) (λ n. cond (leb n.0 last) (bad_at bytes) (Ok n)) x e in
    let g = guard_ok (leb b.0.0 last) (length bytes) b.0 x b.2 in
    let n = number_found bytes b.0 h b.1 in
    subst (λ (y : ℕ × List ℕ). Takes bytes (number y.0) y.1 × (last < y.0) × (y.0 < 65536)) g.1 (n.0, leb-false b.0.0 last g.0, n.1)

pub next_again : (last n : ℕ) (rest : List ℕ) → last < n → next_at last (number n ++ rest) ≡ Ok (n, rest)
unfolding next_at
next_again last n rest more = let after : leb n last ≡ false = lt-leb n last more in rw (number_again n rest, after) refl

pub free_found : (b : SenderBook) (bytes : List ℕ) (x : ℕ × List ℕ) → AreBytes bytes → free_at b bytes ≡ Ok x → Takes bytes (number x.0) x.1 × IsFree b x.0
unfolding free_at
free_found b bytes x h e =
    let i = bind_ok (number_at bytes) (λ id. cond (eqb id.0 0 || ltb 0 (times id.0 (uses b))) (bad_at bytes) (Ok id)) x e in
    let g = guard_ok (eqb i.0.0 0 || ltb 0 (times i.0.0 (uses b))) (length bytes) i.0 x i.2 in
    let n = number_found bytes i.0 h i.1 in
    let parts = or_parts (eqb i.0.0 0) (ltb 0 (times i.0.0 (uses b))) g.0 in
    let some = eqb-false i.0.0 0 parts.0 in
    let unused = ltb-false 0 (times i.0.0 (uses b)) parts.1 in
    let free : IsFree b i.0.0 = ((omega arith, n.1), omega arith) in
    subst (λ (y : ℕ × List ℕ). Takes bytes (number y.0) y.1 × IsFree b y.0) g.1 (n.0, free)

pub free_again : (b : SenderBook) (id : ℕ) (rest : List ℕ) → IsFree b id → free_at b (number id ++ rest) ≡ Ok (id, rest)
unfolding free_at
free_again b id rest free =
    let some : eqb id 0 ≡ false = ne_eqb id 0 (λ z. omega (arith, free.0.0)) in
    let unused : ltb 0 (times id (uses b)) ≡ false = le-ltb 0 (times id (uses b)) (omega (arith, free.1)) in
    rw (number_again id rest, some, unused) refl

-- ---- flags

pub qos_found : (bytes : List ℕ) (x : Qos × List ℕ) → AreBytes bytes → qos_at bytes ≡ Ok x → Takes bytes (qos_number x.0 ∷ []) x.1 × (x.0 ≡ Q0 → ⊥)
unfolding qos_at
qos_found [] x h e = absurd cc
qos_found (b ∷ rest) x h e =
    let P : Qos × List ℕ → Type 0 = λ y. Takes (b ∷ rest) (qos_number y.0 ∷ []) y.1 × (y.0 ≡ Q0 → ⊥) in
    elim (eqb b 1) as (λ t. eqb b 1 ≡ t → cond t (Ok (Q1, rest)) (cond (eqb b 2) (Ok (Q2, rest)) (bad_at (b ∷ rest))) ≡ Ok x → P x) [
      | true ↦ λ one e. let is : b ≡ 1 = eqb-true b 1 one in subst P (ok_is (Q1, rest) x e) (takes _ _ rest h (rw is refl), λ q. cc)
      | false ↦ λ _ e. elim (eqb b 2) as (λ t. eqb b 2 ≡ t → cond t (Ok (Q2, rest)) (bad_at (b ∷ rest)) ≡ Ok x → P x) [
        | true ↦ λ two e. let is : b ≡ 2 = eqb-true b 2 two in subst P (ok_is (Q2, rest) x e) (takes _ _ rest h (rw is refl), λ q. cc)
        | false ↦ λ _ e. absurd cc
      ] refl e
    ] refl e

pub qos_again : (q : Qos) (rest : List ℕ) → (q ≡ Q0 → ⊥) → qos_at (qos_number q ∷ rest) ≡ Ok (q, rest)
unfolding qos_at
qos_again Q0 rest kept = absurd (kept refl)
qos_again Q1 rest kept = refl
qos_again Q2 rest kept = refl

pub flag_found : (bytes : List ℕ) (x : Bool × List ℕ) → AreBytes bytes → flag_at bytes ≡ Ok x → Takes bytes (bit x.0 ∷ []) x.1
unfolding flag_at
flag_found [] x h e = absurd cc
flag_found (b ∷ rest) x h e =
    let P : Bool × List ℕ → Type 0 = λ y. Takes (b ∷ rest) (bit y.0 ∷ []) y.1 in
    elim (eqb b 0) as (λ t. eqb b 0 ≡ t → cond t (Ok (false, rest)) (cond (eqb b 1) (Ok (true, rest)) (bad_at (b ∷ rest))) ≡ Ok x → P x) [
      | true ↦ λ zero e. let is : b ≡ 0 = eqb-true b 0 zero in subst P (ok_is (false, rest) x e) (takes _ _ rest h (rw is refl))
      | false ↦ λ _ e. elim (eqb b 1) as (λ t. eqb b 1 ≡ t → cond t (Ok (true, rest)) (bad_at (b ∷ rest)) ≡ Ok x → P x) [
        | true ↦ λ one e. let is : b ≡ 1 = eqb-true b 1 one in subst P (ok_is (true, rest) x e) (takes _ _ rest h (rw is refl))
        | false ↦ λ _ e. absurd cc
      ] refl e
    ] refl e

pub flag_again : (f : Bool) (rest : List ℕ) → flag_at (bit f ∷ rest) ≡ Ok (f, rest)
unfolding flag_at
flag_again false rest = refl
flag_again true rest = refl

abbrev pub flag_bytes : Flags → List ℕ
flag_bytes f = qos_number f.qos ∷ bit f.sent ∷ bit f.retain ∷ []

pub flags_found : (bytes : List ℕ) (x : Flags × List ℕ) → AreBytes bytes → flags_at bytes ≡ Ok x → Takes bytes (flag_bytes x.0) x.1 × (x.0.qos ≡ Q0 → ⊥)
unfolding flags_at
flags_found bytes x h e =
    let q = bind_ok (qos_at bytes) (λ qos. flag_at qos.1 >>= λ sent. flag_at sent.1 >>= λ retain. Ok (record { qos = qos.0; sent = sent.0; retain = retain.0 }, retain.1)) x e in
    let s = bind_ok (flag_at q.0.1) (λ sent. flag_at sent.1 >>= λ retain. Ok (record { qos = q.0.0; sent = sent.0; retain = retain.0 }, retain.1)) x q.2 in
    let r = bind_ok (flag_at s.0.1) (λ retain. Ok (record { qos = q.0.0; sent = s.0.0; retain = retain.0 }, retain.1)) x s.2 in
    let a = qos_found bytes q.0 h q.1 in
    let b = flag_found q.0.1 s.0 a.0.rest_bytes s.1 in
    let c = flag_found s.0.1 r.0 b.rest_bytes r.1 in
    let made : Flags × List ℕ = (record { qos = q.0.0; sent = s.0.0; retain = r.0.0 }, r.0.1) in
    let all = Takes-then (qos_number q.0.0 ∷ []) (bit s.0.0 ∷ bit r.0.0 ∷ []) a.0 (Takes-then (bit s.0.0 ∷ []) (bit r.0.0 ∷ []) b c) in
    subst (λ (y : Flags × List ℕ). Takes bytes (flag_bytes y.0) y.1 × (y.0.qos ≡ Q0 → ⊥)) (ok_is made x r.2) (all, a.1)

pub flags_again : (f : Flags) (rest : List ℕ) → (f.qos ≡ Q0 → ⊥) → flags_at (flag_bytes f ++ rest) ≡ Ok (f, rest)
unfolding flags_at
flags_again f rest kept = rw (qos_again f.qos (bit f.sent ∷ bit f.retain ∷ rest) kept, flag_again f.sent (bit f.retain ∷ rest), flag_again f.retain rest) refl

-- ---- a topic name

abbrev pub first_fault : Bool → Bool → Bool → Bool → Option TopicFault
first_fault a b c d = option_or (cond a (Some Empty) (cond b (Some Nul) (cond c (Some TooLong) None))) (cond d (Some Wildcard) None)

no_fault : (a b c d : Bool) → is_none (first_fault a b c d) ≡ true → (a ≡ false) × (b ≡ false) × (c ≡ false) × (d ≡ false)
no_fault true b c d e = absurd cc
no_fault false true c d e = absurd cc
no_fault false false true d e = absurd cc
no_fault false false false true e = absurd cc
no_fault false false false false e = (refl, refl, refl, refl)

topic_name : (t : List ℕ) → is_topic t ≡ true → IsTopicName t
topic_name t e =
    let parts = and_parts (is_utf8 t) (is_none (name_fault t)) e in
    let f = no_fault (eqb (length t) 0) (list_any (λ b. eqb b 0) t) (ltb 65535 (length t)) (list_any is_wildcard t) parts.1 in
    let short = ltb-false 65535 (length t) f.2 in
    let name : is_topic_name t ≡ true = rw (f.0, f.3) refl in
    record { text = record { utf8 = parts.0; no_nul = f.1; short = omega arith }; name = name }

name_topic : (t : List ℕ) → IsTopicName t → is_topic t ≡ true
name_topic t is =
    let parts = and_parts (not (eqb (length t) 0)) (not (list_any is_wildcard t)) is.name in
    let some = not-true (eqb (length t) 0) parts.0 in
    let plain = not-true (list_any is_wildcard t) parts.1 in
    let short = le-ltb 65535 (length t) (omega (arith, is.text.short)) in
    let fault : is_none (first_fault (eqb (length t) 0) (list_any (λ b. eqb b 0) t) (ltb 65535 (length t)) (list_any is_wildcard t)) ≡ true = rw (some, is.text.no_nul, short, plain) refl in
    and_from (is_utf8 t) (is_none (name_fault t)) is.text.utf8 fault

pub topic_found : (bytes : List ℕ) (x : List ℕ × List ℕ) → AreBytes bytes → topic_at bytes ≡ Ok x → Takes bytes (counted x.0) x.1 × IsTopicName x.0
unfolding topic_at
topic_found bytes x h e =
    let b = bind_ok (number_at bytes) (λ n. cond (ltb (length n.1) n.0) (bad_at bytes) (cond (is_topic (take n.0 n.1)) (Ok (take n.0 n.1, drop n.0 n.1)) (bad_at bytes))) x e in
    let n = b.0.0 in
    let behind = b.0.1 in
    let l = number_found bytes b.0 h b.1 in
    let P : List ℕ × List ℕ → Type 0 = λ y. Takes bytes (counted y.0) y.1 × IsTopicName y.0 in
    elim (ltb (length behind) n) as (λ t. ltb (length behind) n ≡ t → cond t (bad_at bytes) (cond (is_topic (take n behind)) (Ok (take n behind, drop n behind)) (bad_at bytes)) ≡ Ok x → P x) [
      | true ↦ λ _ e. absurd cc
      | false ↦ λ fits e. elim (is_topic (take n behind)) as (λ t. is_topic (take n behind) ≡ t → cond t (Ok (take n behind, drop n behind)) (bad_at bytes) ≡ Ok x → P x) [
        | true ↦ λ name e. subst P (ok_is (take n behind, drop n behind) x e) (counted_found bytes n behind l.0 (ltb-false (length behind) n fits), topic_name (take n behind) name)
        | false ↦ λ _ e. absurd cc
      ] refl e
    ] refl b.2
  where
    counted_found : (bytes : List ℕ) (n : ℕ) (behind : List ℕ) → Takes bytes (number n) behind → n ≤ length behind → Takes bytes (counted (take n behind)) (drop n behind)
    counted_found bytes n behind first fits =
        let len : length (take n behind) ≡ n = omega (arith, length-take n behind) in
        let second = takes behind (take n behind) (drop n behind) first.rest_bytes (sym (take-append-drop n behind)) in
        let both : Takes bytes (number n ++ take n behind) (drop n behind) = Takes-then (number n) (take n behind) first second in
        subst (λ (k : ℕ). Takes bytes (number k ++ take n behind) (drop n behind)) (sym len) both

pub topic_again : (t rest : List ℕ) → IsTopicName t → topic_at (counted t ++ rest) ≡ Ok (t, rest)
unfolding topic_at
topic_again t rest is =
    let long : ltb (length (t ++ rest)) (length t) ≡ false = le-ltb _ _ (omega (arith, length-append t rest)) in
    rw (number_again (length t) (t ++ rest), long, take_at t rest (length t) refl, drop_at t rest (length t) refl, name_topic t is) refl

-- ---- a payload

pub payload_found : (limit : ℕ) → (topic : ℕ) (bytes : List ℕ) (x : List ℕ × List ℕ) → AreBytes bytes → payload_at limit topic bytes ≡ Ok x → Takes bytes (saved_payload x.0) x.1 × (2 + topic + 2 + length x.0 ≤ limit)
unfolding payload_at
payload_found limit topic bytes x h e =
    let b = bind_ok (count_at bytes) (λ n. cond (is_over_limit limit topic n.0 || ltb (length n.1) n.0) (bad_at n.1) (Ok (take n.0 n.1, drop n.0 n.1))) x e in
    let n = b.0.0 in
    let behind = b.0.1 in
    let g = guard_ok (is_over_limit limit topic n || ltb (length behind) n) (length behind) (take n behind, drop n behind) x b.2 in
    let parts = or_parts (is_over_limit limit topic n) (ltb (length behind) n) g.0 in
    let small = ltb-false limit (2 + topic + 2 + n) parts.0 in
    let fits = ltb-false (length behind) n parts.1 in
    let len : length (take n behind) ≡ n = omega (arith, length-take n behind) in
    let first = count_found bytes b.0 h b.1 in
    let second = takes behind (take n behind) (drop n behind) first.rest_bytes (sym (take-append-drop n behind)) in
    let both : Takes bytes (count n ++ take n behind) (drop n behind) = Takes-then (count n) (take n behind) first second in
    let whole : Takes bytes (saved_payload (take n behind)) (drop n behind) = subst (λ (k : ℕ). Takes bytes (count k ++ take n behind) (drop n behind)) (sym len) both in
    let within : 2 + topic + 2 + length (take n behind) ≤ limit = omega arith in
    subst (λ (y : List ℕ × List ℕ). Takes bytes (saved_payload y.0) y.1 × (2 + topic + 2 + length y.0 ≤ limit)) g.1 (whole, within)

pub payload_again : (limit : ℕ) → (topic : ℕ) (p rest : List ℕ) → 2 + topic + 2 + length p ≤ limit → payload_at limit topic (saved_payload p ++ rest) ≡ Ok (p, rest)
unfolding payload_at
payload_again limit topic p rest within =
    let small : ltb limit (2 + topic + 2 + length p) ≡ false = le-ltb _ _ within in
    let long : ltb (length (p ++ rest)) (length p) ≡ false = le-ltb _ _ (omega (arith, length-append p rest)) in
    rw (count_again (length p) (p ++ rest), small, long, take_at p rest (length p) refl, drop_at p rest (length p) refl) refl
