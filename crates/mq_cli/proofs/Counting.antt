-- The packets counted in an input.
use Rattle.std.proofs.Common.{◌≡◌, ℕ, zero, suc, ◌+◌, ◌≤◌, ◌==◌, false, List, [], ◌∷◌, ◌++◌, length, Option, Some, None, refl, ap, arith}
use Rattle.std.specs.Prelude.{IfSome}
use Rattle.std.specs.Io.KnownBytes.{Consumes, IsAtEnd}
use Rattle.std.proofs.lemmas.Bool.Decides.{nat_tests}
use Rattle.std.proofs.lemmas.List.{length-append}
use Rattle.mq_packet.specs.declared.packet.Packet.{Packet}
use Rattle.mq_decode.specs.declared.fault.DecodeFault.{DecodeFault}
use Rattle.mq_decode.specs.Limits.{Bounds}
use Rattle.mq_decode.specs.Grammar.{Reading, Stream}
use Rattle.mq_decode.specs.Laws.{ReadsAgain}
use Rattle.mq_cli.specs.declared.stream.StreamEnd.TheVariants as shown
use Rattle.mq_cli.specs.declared.count.CountEnd.TheVariants as ends
use Rattle.mq_cli.specs.Count.{Counts, EndsAt}
use Rattle.mq_cli.specs.Inside.Count.{count_rest}
use Rattle.mq_cli.specs.Show.{Reads}
use Rattle.mq_cli.specs.Inside.Status.{end_of_rest}
use Rattle.mq_cli.proofs.InTurn.{Printed, end_of, fault_of, more_printed, more_read, none_printed}

-- The bytes read are those of the counted packets, followed by these.
pub record Counted (limits : Bounds) (left now : Option (List ℕ)) (bytes : List ℕ) (total number : ℕ) : Type 0 where
  pub read : Printed limits left now None None bytes total
  pub all : number ≡ length read.packets

-- nothing yet
pub none_counted : (limits : Bounds) (left : Option (List ℕ)) (bytes : List ℕ) → bytes ≡ [] → Counted limits left left bytes 0 0
unfolding none_printed
none_counted limits left bytes e = record { read = none_printed limits left None bytes e; all = refl }

-- more bytes were read
pub more_bytes : (limits : Bounds) (left mid now : Option (List ℕ)) (bytes after more : List ℕ) (total sum count number : ℕ) → Counted limits left mid bytes total number → count ≡ length more → after ≡ bytes ++ more
    → Consumes mid now more → sum ≡ total + count → Counted limits left now after sum number
unfolding more_read
more_bytes limits left mid now bytes after more total sum count number c n e took added =
    record { read = more_read limits left mid now None None bytes after more total sum count c.read n e took added; all = c.all }

-- and packets counted
pub more_counted : (limits : Bounds) (left now : Option (List ℕ)) (bytes rest : List ℕ) (packets : List Packet) (fault : Option DecodeFault) (total number sum : ℕ) → Counted limits left now bytes total number
    → Reading limits bytes packets rest fault → sum ≡ number + length packets → Counted limits left now rest total sum
unfolding more_printed
more_counted limits left now bytes rest packets fault total number sum c r e = record {
  read = more_printed limits left now None None None bytes rest packets fault total c.read r tt;
  all = omega (arith, e, c.all, length-append c.read.packets packets);
}

-- each packet takes a byte
few_packets : (laws : ReadsAgain) (limits : Bounds) (packets : List Packet) (bytes : List ℕ) → Stream limits packets bytes → length packets ≤ length bytes
few_packets laws limits [] bytes h = omega arith
few_packets laws limits (p ∷ packets) bytes h =
    omega (arith, few_packets laws limits packets h.1 h.3, laws.some limits p h.0 h.2, ap length h.4, length-append h.0 h.1)

pub few_counted : (laws : ReadsAgain) (limits : Bounds) (left now : Option (List ℕ)) (bytes : List ℕ) (total number : ℕ) → Counted limits left now bytes total number → number ≤ total
few_counted laws limits left now bytes total number c = omega (arith, c.all, c.read.size, few_packets laws limits c.read.packets c.read.front c.read.stream)

-- they end with a fault
pub fault_counted : (limits : Bounds) (left now : Option (List ℕ)) (before bytes : List ℕ) (packets : List Packet) (total number start : ℕ) (fault : DecodeFault) → Counted limits left now bytes total number
    → Reading limits before packets bytes (Some fault) → start + length bytes ≡ total → IfSome left (Counts limits (record { packets = number; end = ends.Fault fault start }))
fault_counted limits None now before bytes packets total number start fault c r e = tt
fault_counted limits (Some xs) now before bytes packets total number start fault c r e =
    (c.read.packets, fault_of limits (Some xs) now None None bytes total start fault c.read packets before r e, c.all)

counts_rest : (limits : Bounds) (all : List ℕ) (packets : List Packet) (held : ℕ) → Reads limits all packets (end_of_rest held) → EndsAt limits all packets (count_rest held)
counts_rest limits all packets zero h = h
counts_rest limits all packets (suc held) h =
    let some : (suc held == 0) ≡ false = grind (arith, nat_tests) in
    let rest : Reads limits all packets (shown.Held (suc held)) = rw some at h in
    rw some (rest.0, rest.1, omega (arith, rest.2))

-- they end with a rest, or with nothing
pub rest_counted : (limits : Bounds) (left now : Option (List ℕ)) (before bytes : List ℕ) (packets : List Packet) (total number held : ℕ) → Counted limits left now bytes total number
    → Reading limits before packets bytes None → IsAtEnd now → held ≡ length bytes → IfSome left (Counts limits (record { packets = number; end = count_rest held }))
rest_counted limits None now before bytes packets total number held c r end e = tt
rest_counted limits (Some xs) now before bytes packets total number held c r end e =
    let reads = end_of limits (Some xs) now None None bytes total c.read packets before r end in
    rw e (c.read.packets, counts_rest limits xs c.read.packets (length bytes) reads, c.all)
