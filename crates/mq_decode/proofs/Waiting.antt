-- A piece that is shorter than the missing part of the held packet.
use Rattle.std.proofs.Common.{◌≡◌, ℕ, ◌<◌, List, [], ◌∷◌, ◌++◌, length, refl, sym, arith, inl}
use Rattle.std.proofs.lemmas.List.{append-nil, length-append}
use Rattle.mq_packet.specs.declared.packet.Packet.{Packet}
use Rattle.mq_decode.specs.declared.fault.DecodeError.{DecodeError}
use Rattle.mq_decode.specs.declared.fault.DecodeError.TheVariants as errors
use Rattle.mq_decode.specs.Copied.{Copies, counted_more}
use Rattle.mq_decode.specs.Grammar.{Pending, Goes, Stops, Wants}
use Rattle.mq_decode.specs.Limits.{Bounds}
use Rattle.mq_decode.proofs.Copying.{goes_all}
use Rattle.mq_decode.proofs.Streams.{memory_stops, none_goes, pending_nil}

-- no packet is whole
pub short_goes : (limit : Bounds) (held piece : List ℕ) (w : ℕ) (old : List Packet) (rest : List ℕ) → Pending limit held → Wants limit held w → length piece < w → rest ≡ held ++ piece
    → Goes limit (held ++ piece) old old rest
short_goes limit held piece w old rest pending wants few rest_is =
    goes_all limit held piece (length piece) old old rest (omega arith) (none_goes limit held piece old rest (wants pending piece few) rest_is)

-- all of it is copied
pub copied : (limit : Bounds) (held piece : List ℕ) (old c : ℕ) → Pending limit (held ++ piece) → c ≡ counted_more old (length piece) → Copies limit held piece old c
copied limit [] piece old c pending count = (
  length piece,
  record {
    added = [];
    after = piece;
    parts = refl;
    adds = refl;
    packets = [];
    left = piece;
    reading = record { front = []; stream = refl; parts = refl; ends = pending };
    count = omega arith;
  },
  count,
)
copied limit (b ∷ held) piece old c pending count = (
  length piece,
  record {
    added = piece;
    after = [];
    parts = sym (append-nil piece);
    adds = inl (pending, refl);
    packets = [];
    left = [];
    reading = record { front = []; stream = refl; parts = refl; ends = pending_nil limit };
    count = omega arith;
  },
  count,
)

pub short_copied : (limit : Bounds) (held piece : List ℕ) (w old c : ℕ) → Pending limit held → Wants limit held w → length piece < w → c ≡ counted_more old (length piece) → Copies limit held piece old c
short_copied limit held piece w old c pending wants few count = copied limit held piece old c (wants pending piece few) count

-- memory ran out
pub short_stops : (limit : Bounds) (held piece : List ℕ) (old : List Packet) (e : DecodeError) → e ≡ errors.Memory → 0 < length piece → Stops limit (held ++ piece) old old e
short_stops limit held piece old e memory some = memory_stops limit (held ++ piece) old old e memory refl (omega (arith, some, length-append held piece))
