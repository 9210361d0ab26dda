-- Numbers that are written and read back.
use Rattle.std.proofs.Common.{◌≡◌, ℕ, suc, ◌+◌, ◌*◌, ◌/◌, ◌%◌, ◌<◌, ◌≤◌, List, [], ◌∷◌, ◌++◌, length, take, drop, refl, sym, ◌∙◌, ap, ap₂, arith, append_assoc, length-append}
use Rattle.std.proofs.lemmas.List.{drop_at, length-take-le, take_at, take-append-drop}
use Rattle.std.specs.Int.{w16, w32, to_be_bytes}
use Rattle.mq_wire.specs.Bytes.{AreBytes}
use Rattle.mq_wire.specs.Number.{number, number_in}
use Rattle.mq_route.specs.declared.conn.Conn.{Conn}
use Rattle.mq_record.specs.Encoding.{four_bytes, eight_bytes, conn_bytes}
use Rattle.mq_record.specs.Reading.{four_in, eight_in, conn_in}

-- two numbers that two pairs of bytes give
pub number_back : (a b n : ℕ) → a < 256 → b < 256 → n ≡ 256 * a + b → number n ≡ a ∷ b ∷ []
number_back a b n la lb is =
    let high : n / 256 ≡ a = omega (arith, is) in
    let low : n % 256 ≡ b = omega (arith, is) in
    ap (λ (k : ℕ). k ∷ n % 256 ∷ []) high ∙ ap (λ (k : ℕ). a ∷ k ∷ []) low

pub four_back : (x y n : ℕ) → y < 65536 → n ≡ 65536 * x + y → four_bytes n ≡ number x ++ number y
four_back x y n ly is =
    let high : n / 65536 ≡ x = omega (arith, is) in
    let low : n % 65536 ≡ y = omega (arith, is) in
    ap (λ (k : ℕ). number k ++ number (n % 65536)) high ∙ ap (λ (k : ℕ). number x ++ number k) low

pub eight_back : (x y n : ℕ) → y < 4294967296 → n ≡ 4294967296 * x + y → eight_bytes n ≡ four_bytes x ++ four_bytes y
eight_back x y n ly is =
    let high : n / 4294967296 ≡ x = omega (arith, is) in
    let low : n % 4294967296 ≡ y = omega (arith, is) in
    ap (λ (k : ℕ). four_bytes k ++ four_bytes (n % 4294967296)) high ∙ ap (λ (k : ℕ). four_bytes x ++ four_bytes k) low

-- the bytes of a number are its bytes as std gives them
pub two_be : (n : ℕ) → n < 65536 → to_be_bytes w16 n ≡ number n
two_be n low = sym (number_back (n / 256 % 256) (n % 256) n (omega arith) (omega arith) (omega arith))

pub four_be : (n : ℕ) → n < 4294967296 → to_be_bytes w32 n ≡ four_bytes n
four_be n low = sym (
    four_back (256 * (n / 16777216 % 256) + n / 65536 % 256) (256 * (n / 256 % 256) + n % 256) n (omega arith) (omega arith)
    ∙ ap (λ (l : List ℕ). l ++ number (256 * (n / 256 % 256) + n % 256)) (number_back (n / 16777216 % 256) (n / 65536 % 256) _ (omega arith) (omega arith) refl)
    ∙ ap (λ (l : List ℕ). n / 16777216 % 256 ∷ n / 65536 % 256 ∷ l) (number_back (n / 256 % 256) (n % 256) _ (omega arith) (omega arith) refl))

pub number_law : (b : List ℕ) → AreBytes b → 2 ≤ length b → b ≡ number (number_in b 0) ++ drop 2 b
number_law [] small le = absurd (omega arith)
number_law (x ∷ []) small le = absurd (omega arith)
number_law (x ∷ y ∷ r) small le = ap (λ (l : List ℕ). l ++ r) (sym (number_back x y (256 * x + y) (small 0) (small 1) refl))

pub four_law : (b : List ℕ) → AreBytes b → 4 ≤ length b → b ≡ four_bytes (four_in b 0) ++ drop 4 b
four_law [] small le = absurd (omega arith)
four_law (w ∷ []) small le = absurd (omega arith)
four_law (w ∷ x ∷ []) small le = absurd (omega arith)
four_law (w ∷ x ∷ y ∷ []) small le = absurd (omega arith)
four_law (w ∷ x ∷ y ∷ z ∷ r) small le =
    let lw : w < 256 = small 0 in
    let lx : x < 256 = small 1 in
    let ly : y < 256 = small 2 in
    let lz : z < 256 = small 3 in
    ap (λ (l : List ℕ). l ++ r) (sym (
    four_back (256 * w + x) (256 * y + z) (65536 * (256 * w + x) + (256 * y + z)) (omega arith) refl
    ∙ ap (λ (l : List ℕ). l ++ number (256 * y + z)) (number_back w x (256 * w + x) lw lx refl)
    ∙ ap (λ (l : List ℕ). w ∷ x ∷ l) (number_back y z (256 * y + z) ly lz refl)))

pub four_low : (b : List ℕ) (at : ℕ) → AreBytes b → four_in b at < 4294967296
four_low b at small = omega (arith, small at, small (at + 1), small (at + 2), small (at + 2 + 1))

pub eight_law : (b : List ℕ) → AreBytes b → 8 ≤ length b → b ≡ eight_bytes (eight_in b 0) ++ drop 8 b
eight_law [] small le = absurd (omega arith)
eight_law (w ∷ []) small le = absurd (omega arith)
eight_law (w ∷ x ∷ []) small le = absurd (omega arith)
eight_law (w ∷ x ∷ y ∷ []) small le = absurd (omega arith)
eight_law (w ∷ x ∷ y ∷ z ∷ r) small le =
    let b : List ℕ = w ∷ x ∷ y ∷ z ∷ r in
    let behind : AreBytes r = λ i. small (suc (suc (suc (suc i)))) in
    let last : r ≡ four_bytes (four_in r 0) ++ drop 4 r = four_law r behind (omega arith) in
    four_law b small (omega arith)
    ∙ ap (λ (l : List ℕ). four_bytes (four_in b 0) ++ l) last
    ∙ ap (λ (l : List ℕ). l ++ drop 4 r) (sym (eight_back (four_in b 0) (four_in r 0) (eight_in b 0) (four_low r 0 behind) refl))

pub conn_law : (b : List ℕ) → AreBytes b → 6 ≤ length b → b ≡ conn_bytes (conn_in b) ++ drop 6 b
conn_law [] small le = absurd (omega arith)
conn_law (x ∷ []) small le = absurd (omega arith)
conn_law (x ∷ y ∷ r) small le =
    let b : List ℕ = x ∷ y ∷ r in
    number_law b small (omega arith)
    ∙ ap (λ (l : List ℕ). number (number_in b 0) ++ l) (four_law r (λ i. small (suc (suc i))) (omega arith))

-- numbers are read back, however large
pub four_again : (n : ℕ) → 65536 * (256 * (n / 65536 / 256) + n / 65536 % 256) + (256 * (n % 65536 / 256) + n % 65536 % 256) ≡ n
four_again n = omega arith

pub conn_again : (conn : Conn) (rest : List ℕ) → conn_in (conn_bytes conn ++ rest) ≡ conn
conn_again conn rest =
    let worker_is : 256 * (conn.worker / 256) + conn.worker % 256 ≡ conn.worker = omega arith in
    let made : ℕ → ℕ → Conn = λ (w n : ℕ). record { worker = w; nth = n } in
    ap (λ (k : ℕ). made k (four_in (conn_bytes conn ++ rest) 2)) worker_is
    ∙ ap (λ (k : ℕ). made conn.worker k) (four_again conn.nth)

pub eight_again : (n : ℕ) (rest : List ℕ) → eight_in (eight_bytes n ++ rest) 0 ≡ n
eight_again n rest =
    let whole : 4294967296 * (n / 4294967296) + n % 4294967296 ≡ n = omega arith in
    ap (λ (k : ℕ). 4294967296 * k + four_in (eight_bytes n ++ rest) 4) (four_again (n / 4294967296))
    ∙ ap (λ (k : ℕ). 4294967296 * (n / 4294967296) + k) (four_again (n % 4294967296))
    ∙ whole

-- the front of an encoded piece, and the piece behind it
pub front_first : (old front piece : List ℕ) (conn : Conn) (n : ℕ) → front ≡ 2 ∷ (conn_bytes conn ++ four_bytes n)
    → old ++ (front ++ piece) ≡ old ++ 2 ∷ (conn_bytes conn ++ (four_bytes n ++ piece))
front_first old front piece conn n is = ap (λ (l : List ℕ). old ++ (l ++ piece)) is

-- a piece of which the front is kept: its length is overwritten, and the rest is cut off
pub front_kept : (all before four piece new : List ℕ) (conn : Conn) (at taken : ℕ)
    → all ≡ before ++ 2 ∷ (conn_bytes conn ++ (four ++ piece)) → length before ≡ at → length four ≡ 4 → length new ≡ 4 → taken ≤ length piece
    → take (at + 11 + taken) (take (at + 7) all ++ (new ++ drop 4 (drop (at + 7) all))) ≡ before ++ 2 ∷ (conn_bytes conn ++ (new ++ take taken piece))
front_kept all before four piece new conn at taken is at_is four_is new_is within =
    let head : List ℕ = 2 ∷ conn_bytes conn in
    let front : List ℕ = before ++ head in
    let long : length front ≡ at + 7 = omega (arith, length-append before head) in
    let split : all ≡ front ++ (four ++ piece) = is ∙ sym (append_assoc before head (four ++ piece)) in
    let low : take (at + 7) all ≡ front = ap (λ (l : List ℕ). take (at + 7) l) split ∙ take_at front (four ++ piece) (at + 7) long in
    let high : drop 4 (drop (at + 7) all) ≡ piece =
    ap (λ (l : List ℕ). drop 4 (drop (at + 7) l)) split ∙ ap (λ (l : List ℕ). drop 4 l) (drop_at front (four ++ piece) (at + 7) long) ∙ drop_at four piece 4 four_is in
    let cut : take (at + 11 + taken) (front ++ (new ++ piece)) ≡ front ++ (new ++ take taken piece) =
    ap (λ (l : List ℕ). take (at + 11 + taken) (front ++ (new ++ l))) (sym (take-append-drop taken piece))
    ∙ ap (λ (l : List ℕ). take (at + 11 + taken) l) (sym (append_assoc front new (take taken piece ++ drop taken piece)) ∙ sym (append_assoc (front ++ new) (take taken piece) (drop taken piece)))
    ∙ take_at ((front ++ new) ++ take taken piece) (drop taken piece) (at + 11 + taken)
    (omega (arith, length-append (front ++ new) (take taken piece), length-append front new, length-take-le taken piece within, long, new_is, within))
    ∙ append_assoc front new (take taken piece) in
    ap₂ (λ (l m : List ℕ). take (at + 11 + taken) (l ++ (new ++ m))) low high ∙ cut ∙ append_assoc before head (new ++ take taken piece)
