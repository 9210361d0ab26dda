-- The result of reading at the front is the one that the grammar states.
use Rattle.std.proofs.Common.{◌≡◌, ℕ, zero, suc, ◌+◌, ◌-◌, ◌^◌, ◌<◌, ◌≤◌, Bool, true, false, cond, ltb, List, [], ◌∷◌, ◌++◌, length, take, drop, Option, Some, None, Result, Ok, Err, refl, sym, ap, subst, ◌∙◌, append_assoc, arith}
use Rattle.std.proofs.lemmas.Bool.{ltb-false}
use Rattle.std.proofs.lemmas.List.{take_at, length-append, length-take, take-append-drop}
use Rattle.std.specs.Prelude.{IfSome}
use Rattle.mq_wire.specs.declared.length_reading.LengthReading.{LengthReading}
use Rattle.mq_wire.specs.declared.length_reading.LengthReading.TheVariants.{Whole, Unfinished, TooLong, Overlong}
use Rattle.mq_wire.specs.Bytes.{AreBytes}
use Rattle.mq_wire.specs.Length.{LengthUnder}
use Rattle.mq_wire.specs.Reading.{read_length}
use Rattle.mq_packet.specs.declared.packet.Packet.{Packet}
use Rattle.mq_packet.specs.Encoding.{fields, first_byte}
use Rattle.mq_decode.specs.declared.fault.FaultKind.{FaultKind}
use Rattle.mq_decode.specs.declared.fault.FaultKind.TheVariants.{LengthTooLong, LengthOverlong, OverLimit}
use Rattle.mq_decode.specs.declared.fault.BadField.{BadField}
use Rattle.mq_decode.specs.declared.fault.DecodeFault.{DecodeFault}
use Rattle.mq_decode.specs.declared.kind.Kind.{Kind}
use Rattle.mq_decode.specs.Kind.{kind_at, fixed_size, wrong_size, size_fault}
use Rattle.mq_decode.specs.Bodies.{body_at}
use Rattle.mq_decode.specs.Inside.Front.{sized, header_of, header_at, len_told, front_at}
use Rattle.mq_decode.specs.Limits.{Bounds}
use Rattle.mq_decode.specs.Grammar.{ReadsWithin, HasHeader, Faulty, AtFirst, AtLength, AtSize, AtField, Pending}
use Rattle.mq_decode.specs.declared.packet_view.View.{View}
use Rattle.mq_decode.specs.declared.packet_view.View.TheVariants as views
use Rattle.mq_decode.specs.Views.{IsView, view_read}
use Rattle.mq_decode.proofs.FieldLaws.{Wire, AreBytes-rest}
use Rattle.mq_decode.proofs.KindLaws.{kind_byte, byte_again, kind_found}
use Rattle.mq_decode.proofs.BodyLaws.{body_found}
use Rattle.mq_decode.proofs.FrontLaws.{Read, reads_from, header_is, told_is, whole_again, faulty_again, pending_at}

abbrev pub FrontFound : Bounds → List ℕ → Read → Type 0
FrontFound limit b (Ok None) = Pending limit b
FrontFound limit b (Ok (Some x)) = (x.1 ≤ length b) × ReadsWithin limit x.0 (take x.1 b)
FrontFound limit b (Err fault) = Faulty limit b fault.kind fault.place

is_pending : (w : Wire) (limit : Bounds) (b : List ℕ) → front_at limit b ≡ Ok None → FrontFound limit b (front_at limit b)
is_pending w limit b e = subst (FrontFound limit b) (sym e) (pending_at w limit b e)

is_faulty : (w : Wire) (limit : Bounds) (b : List ℕ) (k : FaultKind) (place : ℕ) → Faulty limit b k place → FrontFound limit b (front_at limit b)
is_faulty w limit b k place h = subst (FrontFound limit b) (sym (faulty_again w limit b k place h)) h

is_whole : (w : Wire) (limit : Bounds) (p : Packet) (s rest : List ℕ) → ReadsWithin limit p s → FrontFound limit (s ++ rest) (front_at limit (s ++ rest))
is_whole w limit p s rest h =
    let front : take (length s) (s ++ rest) ≡ s = take_at s rest (length s) refl in
    let fits : length s ≤ length (s ++ rest) = omega (arith, length-append s rest) in
    subst (FrontFound limit (s ++ rest)) (sym (whole_again w limit p s rest h)) (fits, rw front h)

pub AreBytes-front : (front rest : List ℕ) → AreBytes (front ++ rest) → AreBytes front
AreBytes-front [] rest bytes i = omega arith
AreBytes-front (b ∷ front) rest bytes zero = bytes 0
AreBytes-front (b ∷ front) rest bytes (suc i) = AreBytes-front front rest (λ j. bytes (suc j)) i

-- ---- from the last step to the first

within : (limit : ℕ) (kind : Kind) (n : ℕ) → size_fault limit kind n ≡ None → n ≤ limit
within limit kind n e = go (ltb limit n) refl e
  where
    go : (b : Bool) → ltb limit n ≡ b → cond b (Some OverLimit) (wrong_size (fixed_size kind) n) ≡ None → n ≤ limit
    go true is e = absurd cc
    go false is e = ltb-false _ _ is

-- the header is right, and all bytes of the fields are there
fields_found : (w : Wire) (limit : Bounds) (first : ℕ) (kind : Kind) (len body rest : List ℕ) → kind_at first ≡ Ok kind → LengthUnder limit.lenient (length body) len → size_fault limit.most kind (length body) ≡ None
    → AreBytes body → FrontFound limit (first ∷ (len ++ (body ++ rest))) (front_at limit (first ∷ (len ++ (body ++ rest))))
fields_found w limit first kind len body rest right formed size bytes = go (body_at kind body) refl
  where
    go : (r : Result Packet BadField) → body_at kind body ≡ r → FrontFound limit (first ∷ (len ++ (body ++ rest))) (front_at limit (first ∷ (len ++ (body ++ rest))))
    go (Err bad) e = is_faulty w limit (first ∷ (len ++ (body ++ rest))) bad.kind (1 + length len + length body - bad.left)
        (AtField (record { first = first; len = len; body = body; rest = rest; bytes = refl; kind = kind; right = right; formed = formed; size = size; left = bad.left; fault = e; here = refl }))
    go (Ok p) e =
        let k = kind_found first kind right in
        let small : length body < 2 ^ 28 = w.lengths.below limit.lenient (length body) len formed in
        let f = body_found w kind body p k.1 small bytes e in
        let first_is : first ≡ first_byte p = k.0 ∙ (ap kind_byte (sym f.kind_is) ∙ byte_again p f.packet) in
        let s : List ℕ = first ∷ (len ++ body) in
        let encoded : s ≡ first_byte p ∷ (len ++ fields p) = rw (first_is, f.parts) refl in
        let count : length body ≡ length (fields p) = ap length f.parts in
        let whole : ReadsWithin limit p s = (
          reads_from limit.lenient p s (record { packet = f.packet; len = len; formed = subst (λ (n : ℕ). LengthUnder limit.lenient n len) count formed; bytes = encoded }),
          subst (λ (n : ℕ). n ≤ limit.most) count (within limit.most kind (length body) size),
        ) in
        let regrouped : s ++ rest ≡ first ∷ (len ++ (body ++ rest)) = ap (λ (t : List ℕ). first ∷ t) (append_assoc len body rest) in
        subst (λ (b : List ℕ). FrontFound limit b (front_at limit b)) regrouped (is_whole w limit p s rest whole)

-- fewer bytes than the remaining length says
too_short : (w : Wire) (limit : Bounds) (first n : ℕ) (kind : Kind) (len rest : List ℕ) → kind_at first ≡ Ok kind → LengthUnder limit.lenient n len → size_fault limit.most kind n ≡ None
    → ltb (length (first ∷ (len ++ rest))) (1 + length len + n) ≡ true → front_at limit (first ∷ (len ++ rest)) ≡ Ok None
unfolding front_at header_at
too_short w limit first n kind len rest right formed size short = rw (right, w.lengths.again limit.lenient n len rest formed, size, short) refl

-- the remaining length is whole
length_found : (w : Wire) (limit : Bounds) (first n : ℕ) (kind : Kind) (len rest : List ℕ) → kind_at first ≡ Ok kind → LengthUnder limit.lenient n len → AreBytes rest → FrontFound limit (first ∷ (len ++ rest)) (front_at limit (first ∷ (len ++ rest)))
length_found w limit first n kind len rest right formed bytes = go (size_fault limit.most kind n) refl
  where
    enough : (t : Bool) → ltb (length (first ∷ (len ++ rest))) (1 + length len + n) ≡ t → size_fault limit.most kind n ≡ None → FrontFound limit (first ∷ (len ++ rest)) (front_at limit (first ∷ (len ++ rest)))
    enough true is size = is_pending w limit (first ∷ (len ++ rest)) (too_short w limit first n kind len rest right formed size is)
    enough false is size =
        let long : 1 + length len + n ≤ length (first ∷ (len ++ rest)) = ltb-false _ _ is in
        let count : length (take n rest) ≡ n = omega (arith, length-take n rest, length-append len rest) in
        let split : take n rest ++ drop n rest ≡ rest = take-append-drop n rest in
        let body_bytes : AreBytes (take n rest) = AreBytes-front (take n rest) (drop n rest) (subst AreBytes (sym split) bytes) in
        subst (λ (r : List ℕ). FrontFound limit (first ∷ (len ++ r)) (front_at limit (first ∷ (len ++ r)))) split
        (fields_found w limit first kind len (take n rest) (drop n rest) right (subst (λ (m : ℕ). LengthUnder limit.lenient m len) (sym count) formed) (rw count size) body_bytes)

    go : (o : Option FaultKind) → size_fault limit.most kind n ≡ o → FrontFound limit (first ∷ (len ++ rest)) (front_at limit (first ∷ (len ++ rest)))
    go (Some k) size = is_faulty w limit (first ∷ (len ++ rest)) k 1 (AtSize (record { first = first; n = n; len = len; rest = rest; bytes = refl; kind = kind; right = right; formed = formed; fault = size; here = refl }))
    go None size = enough (ltb (length (first ∷ (len ++ rest))) (1 + length len + n)) refl size

unfinished_is : (limit : Bounds) (first : ℕ) (kind : Kind) (rest : List ℕ) → kind_at first ≡ Ok kind → read_length limit.lenient rest ≡ Unfinished → front_at limit (first ∷ rest) ≡ Ok None
unfolding front_at header_at
unfinished_is limit first kind rest right e = rw (right, e) refl

-- the first byte is right
first_found : (w : Wire) (limit : Bounds) (first : ℕ) (kind : Kind) (rest : List ℕ) → kind_at first ≡ Ok kind → AreBytes rest → FrontFound limit (first ∷ rest) (front_at limit (first ∷ rest))
first_found w limit first kind rest right bytes = go (read_length limit.lenient rest) refl
  where
    go : (l : LengthReading) → read_length limit.lenient rest ≡ l → FrontFound limit (first ∷ rest) (front_at limit (first ∷ rest))
    go Unfinished e = is_pending w limit (first ∷ rest) (unfinished_is limit first kind rest right e)
    go TooLong e = is_faulty w limit (first ∷ rest) LengthTooLong 4 (AtLength (record { first = first; rest = rest; bytes = refl; kind = kind; right = right; fault = (w.lengths.too_long_found limit.lenient rest bytes e, refl) }))
    go (Overlong size) e = is_faulty w limit (first ∷ rest) LengthOverlong size (AtLength (record { first = first; rest = rest; bytes = refl; kind = kind; right = right; fault = w.lengths.overlong_found limit.lenient rest size bytes e }))
    go (Whole n size) e =
        let f = w.lengths.found limit.lenient rest n size bytes e in
        let split : take size rest ++ drop size rest ≡ rest = take-append-drop size rest in
        let rest_bytes : AreBytes (drop size rest) = AreBytes-rest (take size rest) (drop size rest) (subst AreBytes (sym split) bytes) in
        subst (λ (r : List ℕ). FrontFound limit (first ∷ r) (front_at limit (first ∷ r))) split (length_found w limit first n kind (take size rest) (drop size rest) right f.1 rest_bytes)

nothing_is : (limit : Bounds) → front_at limit [] ≡ Ok None
unfolding front_at header_at
nothing_is limit = refl

pub front_found : (w : Wire) (limit : Bounds) (b : List ℕ) → AreBytes b → FrontFound limit b (front_at limit b)
front_found w limit [] bytes = is_pending w limit [] (nothing_is limit)
front_found w limit (first ∷ rest) bytes = go (kind_at first) refl
  where
    go : (r : Result Kind FaultKind) → kind_at first ≡ r → FrontFound limit (first ∷ rest) (front_at limit (first ∷ rest))
    go (Err k) e = is_faulty w limit (first ∷ rest) k 0 (AtFirst (record { first = first; rest = rest; bytes = refl; fault = e; here = refl }))
    go (Ok kind) e = first_found w limit first kind rest e (λ i. bytes (suc i))

-- ---- A length that was found belongs to a valid header

abbrev pub Told : Bounds → List ℕ → Type 0
Told limit b = IfSome (len_told (header_at limit b)) (HasHeader limit b)

none_told : (limit : Bounds) (b : List ℕ) → len_told (header_at limit b) ≡ None → Told limit b
none_told limit b e = subst (λ (o : Option ℕ). IfSome o (HasHeader limit b)) (sym e) (record {})

some_told : (w : Wire) (limit : Bounds) (b : List ℕ) (size : ℕ) → HasHeader limit b size → Told limit b
some_told w limit b size h = subst (λ (o : Option ℕ). IfSome o (HasHeader limit b)) (sym (told_is w limit b size h)) h

size_told : (w : Wire) (limit : Bounds) (first n : ℕ) (kind : Kind) (len rest : List ℕ) → kind_at first ≡ Ok kind → LengthUnder limit.lenient n len → Told limit (first ∷ (len ++ rest))
size_told w limit first n kind len rest right formed = go (size_fault limit.most kind n) refl
  where
    header : header_at limit (first ∷ (len ++ rest)) ≡ sized (size_fault limit.most kind n) kind (length len) n
    header = header_is w limit first n kind len rest right formed

    go : (o : Option FaultKind) → size_fault limit.most kind n ≡ o → Told limit (first ∷ (len ++ rest))
    go (Some k) size = none_told limit (first ∷ (len ++ rest)) (ap len_told header ∙ rw size refl)
    go None size = some_told w limit (first ∷ (len ++ rest)) (1 + length len + n)
        (record { first = first; n = n; len = len; rest = rest; bytes = refl; kind = kind; right = right; formed = formed; fits = size; told = refl })

not_told : (limit : Bounds) (first : ℕ) (kind : Kind) (rest : List ℕ) (l : LengthReading) → kind_at first ≡ Ok kind → read_length limit.lenient rest ≡ l → len_told (header_of limit kind l) ≡ None → Told limit (first ∷ rest)
unfolding header_at
not_told limit first kind rest l right e none = none_told limit (first ∷ rest) (rw (right, e) none)

length_told : (w : Wire) (limit : Bounds) (first : ℕ) (kind : Kind) (rest : List ℕ) → kind_at first ≡ Ok kind → AreBytes rest → Told limit (first ∷ rest)
length_told w limit first kind rest right bytes = go (read_length limit.lenient rest) refl
  where
    go : (l : LengthReading) → read_length limit.lenient rest ≡ l → Told limit (first ∷ rest)
    go (Whole n size) e =
        let split : take size rest ++ drop size rest ≡ rest = take-append-drop size rest in
        subst (λ (r : List ℕ). Told limit (first ∷ r)) split
        (size_told w limit first n kind (take size rest) (drop size rest) right (w.lengths.found limit.lenient rest n size bytes e).1)
    go Unfinished e = not_told limit first kind rest Unfinished right e refl
    go TooLong e = not_told limit first kind rest TooLong right e refl
    go (Overlong size) e = not_told limit first kind rest (Overlong size) right e refl

wrong_told : (limit : Bounds) (first : ℕ) (k : FaultKind) (rest : List ℕ) → kind_at first ≡ Err k → Told limit (first ∷ rest)
unfolding header_at
wrong_told limit first k rest e = none_told limit (first ∷ rest) (rw e refl)

nothing_told : (limit : Bounds) → Told limit []
unfolding header_at
nothing_told limit = none_told limit [] refl

pub told_found : (w : Wire) (limit : Bounds) (b : List ℕ) → AreBytes b → Told limit b
told_found w limit [] bytes = nothing_told limit
told_found w limit (first ∷ rest) bytes = go (kind_at first) refl
  where
    go : (r : Result Kind FaultKind) → kind_at first ≡ r → Told limit (first ∷ rest)
    go (Err k) e = wrong_told limit first k rest e
    go (Ok kind) e = length_told w limit first kind rest e (λ i. bytes (suc i))

-- The result of a view.
pub view_is : (w : Wire) (limit : Bounds) (b : List ℕ) (v : View) → AreBytes b → view_read v ≡ front_at limit b → IsView limit b v
view_is w limit b (views.Whole packet n) bytes e = subst (FrontFound limit b) (sym e) (front_found w limit b bytes)
view_is w limit b views.More bytes e = subst (FrontFound limit b) (sym e) (front_found w limit b bytes)
view_is w limit b (views.Fault fault) bytes e = subst (FrontFound limit b) (sym e) (front_found w limit b bytes)

-- The view with this result.
pub more_is : (v : View) → view_read v ≡ Ok None → v ≡ views.More
more_is (views.Whole packet n) e = absurd cc
more_is views.More e = refl
more_is (views.Fault fault) e = absurd cc

pub fault_is : (v : View) (fault : DecodeFault) → view_read v ≡ Err fault → v ≡ views.Fault fault
fault_is (views.Whole packet n) fault e = absurd cc
fault_is views.More fault e = absurd cc
fault_is (views.Fault other) fault e = cc
