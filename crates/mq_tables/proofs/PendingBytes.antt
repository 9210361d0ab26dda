-- The incomplete packet that a decoder holds.
use Rattle.std.proofs.Common.{◌≡◌, ℕ, ◌<◌, Bool, true, false, List, [], ◌∷◌, ◌++◌, length, None, sym, ap, subst, arith, append-nil}
use Rattle.std.proofs.lemmas.List.{length-append}
use Rattle.mq_packet.specs.declared.packet.Packet.{Packet}
use Rattle.mq_packet.specs.Encoding.{fields, first_byte}
use Rattle.mq_decode.specs.declared.fault.FaultKind.{FaultKind}
use Rattle.mq_decode.specs.Grammar.{Faulty, AtFirst, AtLength, AtSize, AtField, Pending, Reads, ReadsWithin}
use Rattle.mq_decode.specs.Limits.{Bounds}
use Rattle.mq_decode.specs.State.{State}
use Rattle.mq_tables.specs.Connections.{IsDecoding}

-- a packet has at least one byte
pub some_bytes : (lenient : Bool) (p : Packet) (b : List ℕ) → Reads lenient p b → 0 < length b
some_bytes false p b reads = let w : length b ≡ length (first_byte p ∷ reads.len ++ fields p) = ap length reads.bytes in omega (arith, w)
some_bytes true p b reads = let w : length b ≡ length (first_byte p ∷ reads.len ++ fields p) = ap length reads.bytes in omega (arith, w)

-- malformed bytes are at least one
pub faulty_some : (limits : Bounds) (b : List ℕ) (kind : FaultKind) (place : ℕ) → Faulty limits b kind place → 0 < length b
faulty_some limits b kind place (AtFirst f) = let w : length b ≡ length (f.first ∷ f.rest) = ap length f.bytes in omega (arith, w)
faulty_some limits b kind place (AtLength f) = let w : length b ≡ length (f.first ∷ f.rest) = ap length f.bytes in omega (arith, w)
faulty_some limits b kind place (AtSize f) = let w : length b ≡ length (f.first ∷ f.len ++ f.rest) = ap length f.bytes in omega (arith, w)
faulty_some limits b kind place (AtField f) = let w : length b ≡ length (f.first ∷ f.len ++ (f.body ++ f.rest)) = ap length f.bytes in omega (arith, w)

-- so no bytes are an incomplete packet
pub none_pending : (limits : Bounds) → Pending limits []
none_pending limits = record {
  not_whole = λ p first rest reads same.
      let some = some_bytes limits.lenient p first reads.0 in
      let both : length {A = ℕ} [] ≡ length (first ++ rest) = ap length same in
      let sum = length-append first rest in
      omega (arith, some, both, sum);
  not_faulty = λ kind place faulty. omega (arith, faulty_some limits [] kind place faulty);
}

-- a whole packet does not end before the bytes that come
pub takes_some : (limits : Bounds) (held front : List ℕ) (p : Packet) → Pending limits held → ReadsWithin limits p (held ++ front) → 0 < length front
takes_some limits held [] p pending reads =
    let whole = subst (λ (b : List ℕ). ReadsWithin limits p b) (append-nil held) reads in
    absurd (pending.not_whole p held [] whole (sym (append-nil held)))
takes_some limits held (x ∷ xs) p pending reads = omega arith

-- ---- decoders

-- one that holds nothing
pub empty_decoding : (limits : Bounds) (d : State) → d.limit ≡ limits → d.failed ≡ None → d.held ≡ [] → IsDecoding limits d
empty_decoding limits d limit failed held = (limit, failed, subst (λ (b : List ℕ). Pending limits b) (sym held) (none_pending limits))

-- the same one
pub same_decoding : (limits : Bounds) (d e : State) → e ≡ d → IsDecoding limits d → IsDecoding limits e
same_decoding limits d e same decoding = subst (λ (x : State). IsDecoding limits x) (sym same) decoding
