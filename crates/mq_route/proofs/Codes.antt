-- Encodings whose bytes determine the value and the bytes behind it.
use Rattle.std.proofs.Common.{◌≡◌, ℕ, ◌/◌, ◌%◌, Bool, true, false, List, [], ◌∷◌, ◌++◌, length, refl, sym, ap, ◌∙◌, append_assoc, arith}
use Rattle.std.specs.List.{flat_map, AllByRecursion}
use Rattle.mq_wire.specs.Number.{number}
use Rattle.mq_wire.specs.Text.{counted}
use Rattle.mq_topic.specs.declared.qos.Qos.{Qos}
use Rattle.mq_topic.specs.declared.qos.Qos.TheVariants.{Q0, Q1, Q2}
use Rattle.mq_topic.specs.Qos.{qos_number}
use Rattle.mq_topic.specs.Rows.{Row}
use Rattle.mq_packet.specs.Encoding.{bit}
use Rattle.mq_packet.specs.declared.message.Message.{Message}
use Rattle.mq_flow.specs.Saved.{count, saved_payload}
use Rattle.mq_flow.specs.Loading.{number_at, count_at}
use Rattle.mq_flow.proofs.Fields.{done, ok_is, number_again, count_again}
use Rattle.mq_route.specs.Snapshot.{eight, listed, saved_row, saved_message}

-- ---- lists

-- a list determines its first item and the rest
pub cons_parts : {A : Type 0} (x y : A) (xs ys : List A) → x ∷ xs ≡ y ∷ ys → (x ≡ y) × (xs ≡ ys)
cons_parts x y xs ys e = (cc, cc)

-- fronts of equal length
pub fronts : (xs ys r s : List ℕ) → length xs ≡ length ys → xs ++ r ≡ ys ++ s → (xs ≡ ys) × (r ≡ s)
fronts [] [] r s l e = (refl, e)
fronts [] (y ∷ ys) r s l e = absurd (omega arith)
fronts (x ∷ xs) [] r s l e = absurd (omega arith)
fronts (x ∷ xs) (y ∷ ys) r s l e =
    let parts = cons_parts x y (xs ++ r) (ys ++ s) e in
    let more = fronts xs ys r s (omega arith) parts.1 in
    (λ i. parts.0 i ∷ more.0 i, more.1)

pub pair_parts : {A : Type 0} (x y : A) (r s : List ℕ) → done {A = A × List ℕ} (x, r) ≡ done {A = A × List ℕ} (y, s) → (x ≡ y) × (r ≡ s)
pair_parts {A = A} x y r s e =
    let a : A × List ℕ = (x, r) in
    let b : A × List ℕ = (y, s) in
    let same : a ≡ b = ok_is a b e in
    (ap (λ (p : A × List ℕ). p.0) same, ap (λ (p : A × List ℕ). p.1) same)

-- ---- numbers

pub number_code : (m n : ℕ) (r s : List ℕ) → number m ++ r ≡ number n ++ s → (m ≡ n) × (r ≡ s)
number_code m n r s e = pair_parts m n r s (sym (number_again m r) ∙ ap number_at e ∙ number_again n s)

pub count_code : (m n : ℕ) (r s : List ℕ) → count m ++ r ≡ count n ++ s → (m ≡ n) × (r ≡ s)
count_code m n r s e = pair_parts m n r s (sym (count_again m r) ∙ ap count_at e ∙ count_again n s)

halves : (m n : ℕ) → m / 4294967296 ≡ n / 4294967296 → m % 4294967296 ≡ n % 4294967296 → m ≡ n
halves m n a b = omega arith

pub eight_code : (m n : ℕ) (r s : List ℕ) → eight m ++ r ≡ eight n ++ s → (m ≡ n) × (r ≡ s)
unfolding eight
eight_code m n r s e =
    let high = count_code (m / 4294967296) (n / 4294967296) (count (m % 4294967296) ++ r) (count (n % 4294967296) ++ s)
    (sym (append_assoc (count (m / 4294967296)) (count (m % 4294967296)) r) ∙ e ∙ append_assoc (count (n / 4294967296)) (count (n % 4294967296)) s) in
    let low = count_code (m % 4294967296) (n % 4294967296) r s high.1 in
    (halves m n high.0 low.0, low.1)

-- ---- texts

pub counted_code : (t u : List ℕ) (r s : List ℕ) → counted t ++ r ≡ counted u ++ s → (t ≡ u) × (r ≡ s)
counted_code t u r s e =
    let size = number_code (length t) (length u) (t ++ r) (u ++ s) (sym (append_assoc (number (length t)) t r) ∙ e ∙ append_assoc (number (length u)) u s) in
    fronts t u r s size.0 size.1

pub payload_code : (t u : List ℕ) (r s : List ℕ) → saved_payload t ++ r ≡ saved_payload u ++ s → (t ≡ u) × (r ≡ s)
payload_code t u r s e =
    let size = count_code (length t) (length u) (t ++ r) (u ++ s) (sym (append_assoc (count (length t)) t r) ∙ e ∙ append_assoc (count (length u)) u s) in
    fronts t u r s size.0 size.1

pub bit_is : (b c : Bool) → bit b ≡ bit c → b ≡ c
bit_is false false e = refl
bit_is false true e = absurd (omega arith)
bit_is true false e = absurd (omega arith)
bit_is true true e = refl

pub qos_is : (q p : Qos) → qos_number q ≡ qos_number p → q ≡ p
qos_is Q0 Q0 e = refl
qos_is Q1 Q1 e = refl
qos_is Q2 Q2 e = refl
qos_is Q0 Q1 e = absurd (omega arith)
qos_is Q0 Q2 e = absurd (omega arith)
qos_is Q1 Q0 e = absurd (omega arith)
qos_is Q1 Q2 e = absurd (omega arith)
qos_is Q2 Q0 e = absurd (omega arith)
qos_is Q2 Q1 e = absurd (omega arith)

-- ---- rows and messages

pub row_code : (x y : Row) (r s : List ℕ) → saved_row x ++ r ≡ saved_row y ++ s → (x ≡ y) × (r ≡ s)
unfolding saved_row
row_code x y r s e =
    let flat : (z : Row) (t : List ℕ) → saved_row z ++ t ≡ count z.0.0 ++ (counted z.0.1 ++ (qos_number z.1 ∷ t))
    = λ z t. append_assoc (count z.0.0) (counted z.0.1 ++ qos_number z.1 ∷ []) t ∙ ap (λ (u : List ℕ). count z.0.0 ++ u) (append_assoc (counted z.0.1) (qos_number z.1 ∷ []) t) in
    let client = count_code x.0.0 y.0.0 (counted x.0.1 ++ (qos_number x.1 ∷ r)) (counted y.0.1 ++ (qos_number y.1 ∷ s)) (sym (flat x r) ∙ e ∙ flat y s) in
    let filter = counted_code x.0.1 y.0.1 (qos_number x.1 ∷ r) (qos_number y.1 ∷ s) client.1 in
    let last = cons_parts (qos_number x.1) (qos_number y.1) r s filter.1 in
    let qos = qos_is x.1 y.1 last.0 in
    (λ i. ((client.0 i, filter.0 i), qos i), last.1)

-- the topic name and the payload of a message
pub body_code : (m n : Message) (r s : List ℕ) → (counted m.topic ++ saved_payload m.payload) ++ r ≡ (counted n.topic ++ saved_payload n.payload) ++ s → (m.topic ≡ n.topic) × (m.payload ≡ n.payload) × (r ≡ s)
body_code m n r s e =
    let topic = counted_code m.topic n.topic (saved_payload m.payload ++ r) (saved_payload n.payload ++ s)
    (sym (append_assoc (counted m.topic) (saved_payload m.payload) r) ∙ e ∙ append_assoc (counted n.topic) (saved_payload n.payload) s) in
    let payload = payload_code m.payload n.payload r s topic.1 in
    (topic.0, payload.0, payload.1)

pub message_code : (m n : Message) (r s : List ℕ) → saved_message m ++ r ≡ saved_message n ++ s → (m ≡ n) × (r ≡ s)
unfolding saved_message
message_code m n r s e =
    let first = cons_parts (qos_number m.qos) (qos_number n.qos) (bit m.retain ∷ ((counted m.topic ++ saved_payload m.payload) ++ r)) (bit n.retain ∷ ((counted n.topic ++ saved_payload n.payload) ++ s)) e in
    let second = cons_parts (bit m.retain) (bit n.retain) ((counted m.topic ++ saved_payload m.payload) ++ r) ((counted n.topic ++ saved_payload n.payload) ++ s) first.1 in
    let body = body_code m n r s second.1 in
    let qos = qos_is m.qos n.qos first.0 in
    let retain = bit_is m.retain n.retain second.0 in
    (λ i. record { topic = body.0 i; payload = body.1 i; qos = qos i; retain = retain i }, body.2)

-- ---- several

-- each item has this property, which nothing lacks
pub all_any : {A : Type 0} (xs : List A) → AllByRecursion (λ (x : A). Unit {0}) xs
all_any [] = tt
all_any (x ∷ xs) = (tt, all_any xs)

-- lists of equal length, of items with a property whose encodings determine them
pub each_code : {A : Type 0} (P : A → Type 0) (saved : A → List ℕ) → ((x y : A) (r s : List ℕ) → P x → P y → saved x ++ r ≡ saved y ++ s → (x ≡ y) × (r ≡ s)) → (xs ys : List A) (r s : List ℕ)
    → AllByRecursion P xs → AllByRecursion P ys → length xs ≡ length ys → flat_map saved xs ++ r ≡ flat_map saved ys ++ s → (xs ≡ ys) × (r ≡ s)
each_code P saved code [] [] r s p q l e = (refl, e)
each_code P saved code [] (y ∷ ys) r s p q l e = absurd (omega arith)
each_code P saved code (x ∷ xs) [] r s p q l e = absurd (omega arith)
each_code P saved code (x ∷ xs) (y ∷ ys) r s p q l e =
    let first = code x y (flat_map saved xs ++ r) (flat_map saved ys ++ s) p.0 q.0
    (sym (append_assoc (saved x) (flat_map saved xs) r) ∙ e ∙ append_assoc (saved y) (flat_map saved ys) s) in
    let more = each_code P saved code xs ys r s p.1 q.1 (omega arith) first.1 in
    (λ i. first.0 i ∷ more.0 i, more.1)

pub listed_code : {A : Type 0} (P : A → Type 0) (saved : A → List ℕ) → ((x y : A) (r s : List ℕ) → P x → P y → saved x ++ r ≡ saved y ++ s → (x ≡ y) × (r ≡ s)) → (xs ys : List A) (r s : List ℕ)
    → AllByRecursion P xs → AllByRecursion P ys → listed saved xs ++ r ≡ listed saved ys ++ s → (xs ≡ ys) × (r ≡ s)
listed_code P saved code xs ys r s p q e =
    let size = eight_code (length xs) (length ys) (flat_map saved xs ++ r) (flat_map saved ys ++ s)
    (sym (append_assoc (eight (length xs)) (flat_map saved xs) r) ∙ e ∙ append_assoc (eight (length ys)) (flat_map saved ys) s) in
    each_code P saved code xs ys r s p q size.0 size.1
