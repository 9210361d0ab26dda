-- The packet at the front of a buffer, and its fields.
use Rattle.std.proofs.Common.{◌≡◌, ℕ, ◌+◌, ◌-◌, ◌≤◌, Bool, true, false, List, ◌∷◌, ◌++◌, length, take, drop, sym, ap, subst, ◌∙◌, append_assoc, take-append-drop, arith}
use Rattle.std.proofs.Math.Seq.{take-length}
use Rattle.mq_wire.specs.Length.{LengthUnder}
use Rattle.mq_wire.specs.Reading.{LengthLaws, read_length}
use Rattle.mq_wire.specs.declared.length_reading.LengthReading.{LengthReading}
use Rattle.mq_wire.specs.declared.length_reading.LengthReading.TheVariants.{Whole, Unfinished, TooLong, Overlong}
use Rattle.mq_packet.specs.declared.packet.Packet.{Packet}
use Rattle.mq_packet.specs.Encoding.{fields, first_byte}
use Rattle.mq_decode.specs.Limits.{Bounds}
use Rattle.mq_decode.specs.Grammar.{ReadsWithin}
use Rattle.mq_bytes.specs.Places.{Lies}
use Rattle.mq_bytes.proofs.Lying.{lies_behind_header, header_size}

-- The fixed header of a packet that is read.
pub record Header (limits : Bounds) (p : Packet) (b : List ℕ) (n : ℕ) : Type 0 where
  pub len : List ℕ
  pub formed : LengthUnder limits.lenient (length (fields p)) len
  pub bytes : take n b ≡ first_byte p ∷ (len ++ fields p)

header_in : (lenient : Bool) (most : ℕ) (p : Packet) (b : List ℕ) (n : ℕ) → ReadsWithin (record { most = most; lenient = lenient }) p (take n b) → Header (record { most = most; lenient = lenient }) p b n
header_in false most p b n h = record { len = h.0.len; formed = h.0.formed; bytes = h.0.bytes }
header_in true most p b n h = record { len = h.0.len; formed = h.0.formed; bytes = h.0.bytes }

pub header_of : (limits : Bounds) (p : Packet) (b : List ℕ) (n : ℕ) → ReadsWithin limits p (take n b) → Header limits p b n
header_of limits p b n h = header_in limits.lenient limits.most p b n h

-- the buffer, with the bytes behind the packet
whole : (b : List ℕ) (n first : ℕ) (len body : List ℕ) → take n b ≡ first ∷ (len ++ body) → b ≡ first ∷ (len ++ (body ++ drop n b))
whole b n first len body e = sym (take-append-drop n b) ∙ (ap (λ (z : List ℕ). z ++ drop n b) e ∙ ap (λ (z : List ℕ). first ∷ z) (append_assoc len body (drop n b)))

-- What `fields_start` says.
abbrev pub Starts : List ℕ → ℕ → Type 0
Starts b start = (lenient : Bool) (first n : ℕ) (len rest : List ℕ) → LengthUnder lenient n len → b ≡ first ∷ (len ++ rest) → start ≡ 1 + length len

start_of : (limits : Bounds) (p : Packet) (b : List ℕ) (n start : ℕ) → Starts b start → (h : Header limits p b n) → start ≡ 1 + length h.len
start_of limits p b n start s h = s limits.lenient (first_byte p) (length (fields p)) h.len (fields p ++ drop n b) h.formed (whole b n (first_byte p) h.len (fields p) h.bytes)

pub located : (limits : Bounds) (p : Packet) (b : List ℕ) (n start : ℕ) → ReadsWithin limits p (take n b) → Starts b start → Lies b start (fields p)
located limits p b n start r s =
    let h = header_of limits p b n r in
    subst (λ (k : ℕ). Lies b k (fields p)) (sym (start_of limits p b n start s h)) (lies_behind_header b n (first_byte p) h.len (fields p) h.bytes)

pub located_size : (limits : Bounds) (p : Packet) (b : List ℕ) (n start : ℕ) → n ≤ length b → ReadsWithin limits p (take n b) → Starts b start → n ≡ start + length (fields p)
located_size limits p b n start within r s =
    let h = header_of limits p b n r in
    let size = header_size b n (first_byte p) h.len (fields p) within h.bytes in
    let here = start_of limits p b n start s h in
    omega arith

-- A length that is read behind the first byte.
loosely : LengthLaws → (lenient : Bool) (n : ℕ) (len : List ℕ) → LengthUnder lenient n len → LengthUnder true n len
loosely laws false n len h = laws.reads true n len h
loosely laws true n len h = h

read_behind : LengthLaws → (lenient : Bool) (n : ℕ) (len rest behind : List ℕ) → LengthUnder lenient n len → behind ≡ len ++ rest → read_length true behind ≡ Whole n (length len)
read_behind laws lenient n len rest behind h e = ap (λ (z : List ℕ). read_length true z) e ∙ laws.again true n len rest (loosely laws lenient n len h)

-- all bytes but the first
tail_of : (first : ℕ) (t b : List ℕ) → b ≡ first ∷ t → take (length b - 1) (drop 1 b) ≡ t
tail_of first t b e =
    let all = ap length e in
    let size : length b - 1 ≡ length t = omega arith in
    let rest : drop 1 b ≡ t = ap (λ (z : List ℕ). drop 1 z) e in
    ap (λ (k : ℕ). take k (drop 1 b)) size ∙ (ap (λ (z : List ℕ). take (length t) z) rest ∙ take-length t)

size_is : (a b c d : ℕ) → Whole a b ≡ Whole c d → b ≡ d
size_is a b c d e = cc

pub start_found : LengthLaws → (number size : ℕ) (b : List ℕ) → Whole number size ≡ read_length true (take (length b - 1) (drop 1 b)) → Starts b (1 + size)
start_found laws number size b read lenient first n len rest h e =
    let found = read_behind laws lenient n len rest (take (length b - 1) (drop 1 b)) h (tail_of first (len ++ rest) b e) in
    ap (λ (k : ℕ). 1 + k) (size_is number size n (length len) (read ∙ found))

-- no length was read
abbrev pub IsNoLength : LengthReading → Type 0
IsNoLength (Whole n size) = ⊥
IsNoLength Unfinished = Unit {0}
IsNoLength TooLong = Unit {0}
IsNoLength (Overlong size) = Unit {0}

pub no_start : LengthLaws → (b : List ℕ) (r : LengthReading) → IsNoLength r → r ≡ read_length true (take (length b - 1) (drop 1 b)) → Starts b 0
no_start laws b r fails read lenient first n len rest h e =
    let found = read_behind laws lenient n len rest (take (length b - 1) (drop 1 b)) h (tail_of first (len ++ rest) b e) in
    absurd (subst IsNoLength (read ∙ found) fails)
