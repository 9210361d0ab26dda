-- The packets printed from a reader.
use Rattle.std.proofs.Common.{◌≡◌, ℕ, ◌+◌, ◌^◌, ◌≤◌, Bool, false, ◌==◌, List, [], ◌∷◌, ◌++◌, length, drop, flat_map, Option, Some, None, Result, Ok, Err, refl, sym, ap, subst, ◌∙◌, append_assoc, inl, inr, arith}
use Rattle.std.specs.Prelude.{IfOk, IfSome, OnOk}
use Rattle.std.specs.Io.KnownBytes.{Appends, Consumes, IsAtEnd}
use Rattle.std.proofs.KnownBytes.{Appends-trans}
use Rattle.std.proofs.lemmas.Bool.Decides.{nat_tests}
use Rattle.std.proofs.lemmas.List.{append-nil, length-append}
use Rattle.std.proofs.lemmas.List.Concat.{flat_map-append}
use Rattle.mq_packet.specs.declared.packet.Packet.{Packet}
use Rattle.mq_decode.specs.declared.fault.DecodeFault.{DecodeFault}
use Rattle.mq_decode.specs.Limits.{Bounds}
use Rattle.mq_decode.specs.Grammar.{Reading, Stream}
use Rattle.mq_decode.proofs.Streams.{faulty_more, stream_join}
use Rattle.mq_packet.specs.Lines.{Prints}
use Rattle.mq_cli.specs.declared.stream.StreamEnd.{StreamEnd}
use Rattle.mq_cli.specs.declared.stream.StreamEnd.TheVariants.{Fault}
use Rattle.mq_cli.specs.Printed.{end_lines, fault_line, packet_line, shown_lines}
use Rattle.mq_cli.specs.Show.{AreFirst, Reads}
use Rattle.mq_cli.specs.Stops.{IsTooLong}
use Rattle.mq_cli.specs.Status.{IsCutShort, IsStreamShown, end_status, widest}
use Rattle.mq_cli.specs.Inside.Status.{end_of_rest}
use Rattle.mq_cli.proofs.Streams.{behind}

-- The bytes read are those of the printed packets, followed by these.
pub record Printed (limits : Bounds) (left now old new : Option (List ℕ)) (bytes : List ℕ) (total : ℕ) : Type 0 where
  pub packets : List Packet
  pub front : List ℕ
  pub stream : Stream limits packets front
  pub taken : Consumes left now (front ++ bytes)
  pub size : total ≡ length front + length bytes
  pub lines : Appends old new (flat_map packet_line packets)

pub same_bytes : (left : Option (List ℕ)) → Consumes left left []
same_bytes None = tt
same_bytes (Some xs) = refl

pub same_text : (old : Option (List ℕ)) → Appends old old []
same_text None = tt
same_text (Some xs) = sym (append-nil xs)

-- one read after another
pub consumes_then : (left mid now : Option (List ℕ)) (a b : List ℕ) → Consumes left mid a → Consumes mid now b → Consumes left now (a ++ b)
consumes_then None mid now a b h k = tt
consumes_then (Some xs) None now a b h k = absurd h
consumes_then (Some xs) (Some ys) None a b h k = absurd k
consumes_then (Some xs) (Some ys) (Some zs) a b h k = h ∙ (ap (λ (t : List ℕ). a ++ t) k ∙ sym (append_assoc a b zs))

-- nothing yet
unfoldable pub none_printed : (limits : Bounds) (left old : Option (List ℕ)) (bytes : List ℕ) → bytes ≡ [] → Printed limits left left old old bytes 0
none_printed limits left old bytes e = record {
  packets = [];
  front = [];
  stream = refl;
  taken = subst (Consumes left left) (sym e) (same_bytes left);
  size = omega (arith, ap length e);
  lines = same_text old;
}

-- more bytes were read
unfoldable pub more_read : (limits : Bounds) (left mid now old new : Option (List ℕ)) (bytes after more : List ℕ) (total sum count : ℕ) → Printed limits left mid old new bytes total → count ≡ length more → after ≡ bytes ++ more
    → Consumes mid now more → sum ≡ total + count → Printed limits left now old new after sum
more_read limits left mid now old new bytes after more total sum count p n e took added = record {
  packets = p.packets;
  front = p.front;
  stream = p.stream;
  taken = subst (Consumes left now) (append_assoc p.front bytes more ∙ ap (λ (t : List ℕ). p.front ++ t) (sym e)) (consumes_then left mid now (p.front ++ bytes) more p.taken took);
  size = omega (arith, added, p.size, n, ap length e, length-append bytes more);
  lines = p.lines;
}

-- and packets printed
unfoldable pub more_printed : (limits : Bounds) (left now old mid new : Option (List ℕ)) (bytes rest : List ℕ) (packets : List Packet) (fault : Option DecodeFault) (total : ℕ) → Printed limits left now old mid bytes total
    → Reading limits bytes packets rest fault → Appends mid new (flat_map packet_line packets) → Printed limits left now old new rest total
more_printed limits left now old mid new bytes rest packets fault total p r k = record {
  packets = p.packets ++ packets;
  front = p.front ++ r.front;
  stream = stream_join limits p.packets packets p.front r.front p.stream r.stream;
  taken = subst (Consumes left now) (ap (λ (t : List ℕ). p.front ++ t) r.parts ∙ sym (append_assoc p.front r.front rest)) p.taken;
  size = omega (arith, p.size, ap length r.parts, length-append r.front rest, length-append p.front r.front);
  lines = subst (Appends old new) (sym (flat_map-append packet_line p.packets packets)) (Appends-trans old mid new (flat_map packet_line p.packets) (flat_map packet_line packets) p.lines k);
}

-- ---- The packets as part of all bytes

first_of : (limits : Bounds) (left now old new : Option (List ℕ)) (bytes : List ℕ) (total : ℕ) (p : Printed limits left now old new bytes total) → IfSome left (λ all. AreFirst limits all p.packets)
first_of limits None now old new bytes total p = tt
first_of limits (Some xs) None old new bytes total p = absurd p.taken
first_of limits (Some xs) (Some ys) old new bytes total p = (p.front, bytes ++ ys, p.stream, p.taken ∙ append_assoc p.front bytes ys)

pub fault_of : (limits : Bounds) (left now old new : Option (List ℕ)) (bytes : List ℕ) (total start : ℕ) (fault : DecodeFault) (p : Printed limits left now old new bytes total) (packets : List Packet) (before : List ℕ)
    → Reading limits before packets bytes (Some fault) → start + length bytes ≡ total → IfSome left (λ all. Reads limits all p.packets (Fault fault start))
fault_of limits None now old new bytes total start fault p packets before r e = tt
fault_of limits (Some xs) None old new bytes total start fault p packets before r e = absurd p.taken
fault_of limits (Some xs) (Some ys) old new bytes total start fault p packets before r e = (
  bytes ++ ys,
  record { front = p.front; stream = p.stream; parts = p.taken ∙ append_assoc p.front bytes ys; ends = faulty_more limits bytes ys fault.kind fault.place r.ends },
  omega (arith, e, p.size, ap length p.taken, length-append (p.front ++ bytes) ys, length-append p.front bytes, length-append bytes ys),
)

rest_of : (limits : Bounds) (all packets_bytes rest : List ℕ) (packets : List Packet) → Reading limits all packets rest None → Reads limits all packets (end_of_rest (length rest))
rest_of limits all front [] packets r = r
rest_of limits all front (b ∷ rest) packets r =
    let some : (length (b ∷ rest) == 0) ≡ false = grind (arith, nat_tests) in
    rw some (b ∷ rest, r, refl, omega arith)

pub end_of : (limits : Bounds) (left now old new : Option (List ℕ)) (bytes : List ℕ) (total : ℕ) (p : Printed limits left now old new bytes total) (packets : List Packet) (before : List ℕ)
    → Reading limits before packets bytes None → IsAtEnd now → IfSome left (λ all. Reads limits all p.packets (end_of_rest (length bytes)))
end_of limits None now old new bytes total p packets before r end = tt
end_of limits (Some xs) None old new bytes total p packets before r end = absurd p.taken
end_of limits (Some xs) (Some ys) old new bytes total p packets before r end =
    let parts : xs ≡ p.front ++ bytes = p.taken ∙ (ap (λ (t : List ℕ). (p.front ++ bytes) ++ t) end ∙ append-nil (p.front ++ bytes)) in
    rest_of limits xs p.front bytes p.packets (record { front = p.front; stream = p.stream; parts = parts; ends = r.ends })

-- ---- the status and the lines

at_widest : (lenient : Bool) (limits : Bounds) (left : Option (List ℕ)) (P : Bounds → List ℕ → Type 0) → limits ≡ widest lenient → IfSome left (P limits) → IfSome left (P (widest lenient))
at_widest lenient limits left P e h = subst (λ (l : Bounds). IfSome left (P l)) e h

-- the bytes can't be read on
pub cut_short : {E : Type 0} (lenient : Bool) (limits : Bounds) (left now old mid new : Option (List ℕ)) (fails : Bool) (bytes : List ℕ) (total : ℕ) (r : Result ℕ E) (n : ℕ) (line : List ℕ) → limits ≡ widest lenient
    → Printed limits left now old mid bytes total → IfOk r (λ status. status ≡ n) → OnOk r (Appends mid new line) → IsCutShort left fails n line → IfOk r (λ status. Prints old new (IsStreamShown lenient left fails status))
cut_short lenient limits left now old mid new fails bytes total (Err e) n line is p status k cut = tt
cut_short lenient limits left now old mid new fails bytes total (Ok x) n line is p status k cut = (
  flat_map packet_line p.packets ++ line,
  Appends-trans old mid new (flat_map packet_line p.packets) line p.lines k,
  inr (p.packets, line, at_widest lenient limits left (λ l all. AreFirst l all p.packets) is (first_of limits left now old mid bytes total p), subst (λ (m : ℕ). IsCutShort left fails m line) (sym status) cut, refl),
)

-- there are too many bytes
pub too_long : (limits : Bounds) (left mid now old new : Option (List ℕ)) (bytes more : List ℕ) (total : ℕ) → Printed limits left mid old new bytes total → Consumes mid now more → 2 ^ 64 ≤ total + length more → IsTooLong left
too_long limits None mid now old new bytes more total p took n = tt
too_long limits (Some xs) None now old new bytes more total p took n = absurd p.taken
too_long limits (Some xs) (Some ys) None old new bytes more total p took n = absurd took
too_long limits (Some xs) (Some ys) (Some zs) old new bytes more total p took n =
    omega (arith, n, p.size, ap length p.taken, ap length took, length-append (p.front ++ bytes) ys, length-append p.front bytes, length-append more zs)

ended : {E : Type 0} (lenient : Bool) (left old mid new : Option (List ℕ)) (fails : Bool) (packets : List Packet) (r : Result ℕ E) (end : StreamEnd) → IfSome left (λ all. Reads (widest lenient) all packets end)
    → Appends old mid (flat_map packet_line packets) → IfOk r (λ status. status ≡ end_status end) → OnOk r (Appends mid new (end_lines end)) → IfOk r (λ status. Prints old new (IsStreamShown lenient left fails status))
ended lenient left old mid new fails packets (Err e) end reads lines status k = tt
ended lenient left old mid new fails packets (Ok x) end reads lines status k =
    (shown_lines packets end, Appends-trans old mid new (flat_map packet_line packets) (end_lines end) lines k, inl (packets, end, reads, status, refl))

-- they end with a fault
pub faulted : {E : Type 0} (lenient : Bool) (limits : Bounds) (left now old mid new : Option (List ℕ)) (fails : Bool) (before bytes : List ℕ) (packets : List Packet) (total start : ℕ) (fault : DecodeFault) (r : Result ℕ E) → limits ≡ widest lenient
    → Printed limits left now old mid bytes total → Reading limits before packets bytes (Some fault) → start + length bytes ≡ total → IfOk r (λ status. status ≡ 1) → OnOk r (Appends mid new (fault_line fault start))
    → IfOk r (λ status. Prints old new (IsStreamShown lenient left fails status))
faulted lenient limits left now old mid new fails before bytes packets total start fault r is p reading e status k =
    ended lenient left old mid new fails p.packets r (Fault fault start) (at_widest lenient limits left (λ l all. Reads l all p.packets (Fault fault start)) is (fault_of limits left now old mid bytes total start fault p packets before reading e)) p.lines status k

-- they end with a rest, or with nothing
pub finished : {E : Type 0} (lenient : Bool) (limits : Bounds) (left now old mid new : Option (List ℕ)) (fails : Bool) (before bytes : List ℕ) (packets : List Packet) (total held : ℕ) (r : Result ℕ E) → limits ≡ widest lenient
    → Printed limits left now old mid bytes total → Reading limits before packets bytes None → IsAtEnd now → held ≡ length bytes → IfOk r (λ status. status ≡ end_status (end_of_rest held)) → OnOk r (Appends mid new (end_lines (end_of_rest held)))
    → IfOk r (λ status. Prints old new (IsStreamShown lenient left fails status))
finished lenient limits left now old mid new fails before bytes packets total held r is p reading end e status k =
    let reads = subst (λ (n : ℕ). IfSome left (λ all. Reads limits all p.packets (end_of_rest n))) (sym e) (end_of limits left now old mid bytes total p packets before reading end) in
    ended lenient left old mid new fails p.packets r (end_of_rest held) (at_widest lenient limits left (λ l all. Reads l all p.packets (end_of_rest held)) is reads) p.lines status k

-- ---- the front

-- The size of the packets.
pub rest_is : (limits : Bounds) (bytes rest : List ℕ) (packets : List Packet) (fault : Option DecodeFault) (n : ℕ) → Reading limits bytes packets rest fault → n + length rest ≡ length bytes
    → (n ≤ length bytes) × Reading limits bytes packets (drop n bytes) fault
rest_is limits bytes rest packets fault n r e =
    let front : length r.front ≡ n = omega (arith, e, ap length r.parts, length-append r.front rest) in
    let same : drop n bytes ≡ rest = behind bytes r.front rest n r.parts front in
    (omega (arith, e), subst (λ (t : List ℕ). Reading limits bytes packets t fault) (sym same) r)
