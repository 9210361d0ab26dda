-- The most frequent packets, found without a view.
use Rattle.std.proofs.Common.{◌≡◌, ℕ, suc, ◌+◌, ◌-◌, ◌≤◌, ◌*◌, ◌<◌, ◌^◌, Bool, true, false, ◌||◌, ◌==◌, List, [], ◌∷◌, ◌++◌, length, take, drop, get_or, slice_range, refl, sym, ap, subst, ◌∙◌, append_assoc, arith}
use Rattle.std.specs.List.{list_any}
use Rattle.std.specs.Prelude.{Option, None, Some, IfSome}
use Rattle.std.proofs.lemmas.Bool.{ne_eqb, or_parts, or_from}
use Rattle.std.proofs.lemmas.List.{take_at, length-append, length-take, length-drop, get_or-drop, drop-drop, take_rest}
use Rattle.std.proofs.lemmas.List.Folds.{drop_split}
use Rattle.mq_wire.specs.Bytes.{AreBytes}
use Rattle.mq_wire.specs.Length.{Length, LengthUnder}
use Rattle.mq_wire.specs.Number.{NumberLaws, number, number_in}
use Rattle.mq_wire.specs.Reading.{LengthLaws, read_length}
use Rattle.mq_wire.specs.declared.length_reading.LengthReading.TheVariants.{Whole}
use Rattle.mq_wire.specs.Text.{counted}
use Rattle.mq_wire.specs.Inside.Text.{is_special}
use Rattle.mq_wire.proofs.Texts.{plain_text}
use Rattle.mq_topic.specs.Qos.{qos_number}
use Rattle.mq_topic.specs.declared.qos.Qos.{Qos}
use Rattle.mq_topic.specs.Topic.{IsTopicName, is_wildcard}
use Rattle.mq_packet.specs.declared.packet.Packet.{Packet}
use Rattle.mq_packet.specs.declared.packet.Packet.TheVariants as packets
use Rattle.mq_packet.specs.declared.publish.Delivery.{Delivery}
use Rattle.mq_packet.specs.Encoding.{bit, delivery_fields, dup_bit, fields, first_byte, publish_fields}
use Rattle.mq_packet.specs.Identifier.{IsIdentifier}
use Rattle.mq_packet.specs.Publication.{Publication, fits_delivery}
use Rattle.mq_packet.specs.Values.{IsPacket, IsPublication}
use Rattle.mq_decode.specs.Limits.{Bounds}
use Rattle.mq_decode.proofs.FrontLaws.{reads_from}
use Rattle.mq_bytes.specs.declared.places.Front.TheVariants as fronts
use Rattle.mq_bytes.specs.declared.places.PacketFields.{PacketFields}
use Rattle.mq_bytes.specs.Places.{IsLocated, Lies, Shows, ShowsPublish, dup_of}
use Rattle.mq_bytes.proofs.Lying.{lies_behind_header}

-- A packet is found if the front of the buffer is its encoding.
found : (limits : Bounds) (b : List ℕ) (f : PacketFields) (p : Packet) (len : List ℕ) → IsPacket p → LengthUnder limits.lenient (length (fields p)) len → length (fields p) ≤ limits.most → take f.size b ≡ first_byte p ∷ (len ++ fields p) → f.size ≤ length b → Shows b f p → IsLocated limits b (fronts.Whole f)
found limits b f p len packet formed within bytes size shows =
    (p, size, (reads_from limits.lenient p (take f.size b) (record { packet = packet; len = len; formed = formed; bytes = bytes }), within), shows)

one_byte : (lenient : Bool) (n : ℕ) → n < 128 → LengthUnder lenient n (n ∷ [])
one_byte false n small = ((small, refl), omega arith, tt)
one_byte true n small = ((small, refl), omega arith)

-- The number in the first two bytes.
number_front : NumberLaws → (b : List ℕ) → AreBytes b → 2 ≤ length b → take 2 b ≡ number (number_in b 0)
number_front laws b bytes two =
    ap (λ (z : List ℕ). take 2 z) (laws.found b bytes two) ∙ take_at (number (number_in b 0)) (drop 2 b) 2 refl

bytes_behind : (b : List ℕ) (at : ℕ) → AreBytes b → AreBytes (drop at b)
bytes_behind b at bytes i = subst (λ (k : ℕ). k < 256) (sym (get_or-drop at b i 0)) (bytes (at + i))

-- ---- packets of four and two bytes

four : NumberLaws → (b : List ℕ) (first id : ℕ) → AreBytes b → 4 ≤ length b → get_or b 0 0 ≡ first → get_or b 1 0 ≡ 2 → id ≡ number_in b 2 → take 4 b ≡ first ∷ (2 ∷ number id)
four laws [] first id bytes long one two is = absurd (omega arith)
four laws (x ∷ []) first id bytes long one two is = absurd (omega arith)
four laws (x ∷ y ∷ rest) first id bytes long one two is =
    let back : take 2 rest ≡ number (number_in rest 0) = number_front laws rest (λ i. bytes (suc (suc i))) (omega arith) in
    let same : take 2 rest ≡ number id = back ∙ ap number (sym is) in
    ap (λ (k : ℕ). k ∷ (y ∷ take 2 rest)) one ∙ (ap (λ (k : ℕ). first ∷ (k ∷ take 2 rest)) two ∙ ap (λ (z : List ℕ). first ∷ (2 ∷ z)) same)

pub acknowledged : NumberLaws → (limits : Bounds) (b : List ℕ) (f : PacketFields) (p : Packet) (id : ℕ) → AreBytes b → 4 ≤ length b → get_or b 0 0 ≡ first_byte p → get_or b 1 0 ≡ 2 → id ≡ number_in b 2 → IsPacket p → fields p ≡ number id → f.size ≡ 4 → Shows b f p → 2 ≤ limits.most → IsLocated limits b (fronts.Whole f)
acknowledged laws limits b f p id bytes long one two is packet body size shows most =
    let count : length (fields p) ≡ 2 = ap length body in
    let front : take 4 b ≡ first_byte p ∷ (2 ∷ fields p) = four laws b (first_byte p) id bytes long one two is ∙ ap (λ (z : List ℕ). first_byte p ∷ (2 ∷ z)) (sym body) in
    found limits b f p (2 ∷ []) packet
    (subst (λ (n : ℕ). LengthUnder limits.lenient n (2 ∷ [])) (sym count) (one_byte limits.lenient 2 (omega arith)))
    (omega arith) (subst (λ (n : ℕ). take n b ≡ first_byte p ∷ (2 ∷ fields p)) (sym size) front) (omega arith) shows

two_bytes : (b : List ℕ) (first : ℕ) → 2 ≤ length b → get_or b 0 0 ≡ first → get_or b 1 0 ≡ 0 → take 2 b ≡ first ∷ (0 ∷ [])
two_bytes [] first long one two = absurd (omega arith)
two_bytes (x ∷ []) first long one two = absurd (omega arith)
two_bytes (x ∷ y ∷ rest) first long one two = ap (λ (k : ℕ). k ∷ (y ∷ [])) one ∙ ap (λ (k : ℕ). first ∷ (k ∷ [])) two

pub without : (limits : Bounds) (b : List ℕ) (f : PacketFields) (p : Packet) → 2 ≤ length b → get_or b 0 0 ≡ first_byte p → get_or b 1 0 ≡ 0 → IsPacket p → fields p ≡ [] → f.size ≡ 2 → Shows b f p → IsLocated limits b (fronts.Whole f)
without limits b f p long one two packet body size shows =
    let count : length (fields p) ≡ 0 = ap length body in
    let front : take 2 b ≡ first_byte p ∷ (0 ∷ fields p) = two_bytes b (first_byte p) long one two ∙ ap (λ (z : List ℕ). first_byte p ∷ (0 ∷ z)) (sym body) in
    found limits b f p (0 ∷ []) packet
    (subst (λ (n : ℕ). LengthUnder limits.lenient n (0 ∷ [])) (sym count) (one_byte limits.lenient 0 (omega arith)))
    (omega arith) (subst (λ (n : ℕ). take n b ≡ first_byte p ∷ (0 ∷ fields p)) (sym size) front) (omega arith) shows

-- ---- PUBLISH (3.3)

-- The front of a buffer: its first byte, the bytes up to `start`, and those up to `end`.
split : (b : List ℕ) (first start end : ℕ) → get_or b 0 0 ≡ first → 0 < start → start ≤ end → end ≤ length b → take end b ≡ first ∷ (slice_range b 1 start ++ slice_range b start end)
split [] first start end one some order within = absurd (omega arith)
split (x ∷ t) first start end one some order within =
    let b : List ℕ = x ∷ t in
    let len = slice_range b 1 start in
    let body = slice_range b start end in
    let near : t ≡ len ++ drop start b = drop_split b 1 start (omega arith) in
    let far : drop start b ≡ body ++ drop end b = drop_split b start end order in
    let parts : t ≡ (len ++ body) ++ drop end b = near ∙ (ap (λ (z : List ℕ). len ++ z) far ∙ sym (append_assoc len body (drop end b))) in
    let whole : b ≡ (first ∷ (len ++ body)) ++ drop end b = ap (λ (z : List ℕ). x ∷ z) parts ∙ ap (λ (k : ℕ). k ∷ ((len ++ body) ++ drop end b)) one in
    let size : length (first ∷ (len ++ body)) ≡ end = omega (arith, length-append len body, length-take (start - 1) (drop 1 b), length-drop 1 b, length-take (end - start) (drop start b), length-drop start b) in
    ap (λ (z : List ℕ). take end z) whole ∙ take_at (first ∷ (len ++ body)) (drop end b) end size

pub publish_located : LengthLaws → (limits : Bounds) (b : List ℕ) (f : PacketFields) (p : Publication) (n start end : ℕ) → IsPublication p → get_or b 0 0 ≡ first_byte (packets.Publish p) → Length n (slice_range b 1 start) → 2 ≤ start → end ≡ start + n → end ≤ length b → slice_range b start end ≡ publish_fields p → n ≤ limits.most → f.size ≡ end → (Lies b start (publish_fields p) → ShowsPublish b f p) → IsLocated limits b (fronts.Whole f)
publish_located laws limits b f p n start end valid one formed some sum within body most size shows =
    let first = first_byte (packets.Publish p) in
    let len = slice_range b 1 start in
    let front : take end b ≡ first ∷ (len ++ publish_fields p) = split b first start end one (omega arith) (omega arith) within ∙ ap (λ (z : List ℕ). first ∷ (len ++ z)) body in
    let count : n ≡ length (publish_fields p) = omega (arith, ap length body, length-take (end - start) (drop start b), length-drop start b) in
    let place : 1 + length len ≡ start = omega (arith, length-take (start - 1) (drop 1 b), length-drop 1 b) in
    let lies : Lies b start (publish_fields p) = subst (λ (k : ℕ). Lies b k (publish_fields p)) place (lies_behind_header b end first len (publish_fields p) front) in
    found limits b f (packets.Publish p) len valid
    (laws.reads limits.lenient (length (publish_fields p)) len (subst (λ (k : ℕ). Length k len) count formed))
    (omega arith) (subst (λ (k : ℕ). take k b ≡ first ∷ (len ++ publish_fields p)) (sym size) front) (omega arith) (shows lies)

-- ---- the remaining length

take_one : (t : List ℕ) → 0 < length t → take 1 t ≡ get_or t 0 0 ∷ []
take_one [] some = absurd (omega arith)
take_one (x ∷ t) some = refl

-- It has one byte.
pub short_length : (b : List ℕ) (n : ℕ) → 2 ≤ length b → n ≡ get_or b 1 0 → n < 128 → Length n (slice_range b 1 2)
short_length [] n long is small = absurd (omega arith)
short_length (x ∷ t) n long is small =
    let one : take 1 t ≡ n ∷ [] = take_one t (omega arith) ∙ ap (λ (k : ℕ). k ∷ []) (sym is) in
    subst (λ (z : List ℕ). Length n z) (sym one) ((small, refl), omega arith, tt)

-- The bytes that were read as a length.
pub record LengthRead (b : List ℕ) (n count : ℕ) : Type 0 where
  pub formed : Length n (slice_range b 1 (1 + count))
  pub some : 2 ≤ 1 + count
  pub within : 1 + count ≤ length b

pub length_read : LengthLaws → (b : List ℕ) (n count : ℕ) → AreBytes b → Whole n count ≡ read_length false (take (length b - 1) (drop 1 b)) → LengthRead b n count
length_read laws b n count bytes read =
    let behind : take (length b - 1) (drop 1 b) ≡ drop 1 b = take_rest b 1 in
    let found = laws.found false (drop 1 b) n count (bytes_behind b 1 bytes) (sym (read ∙ ap (λ (z : List ℕ). read_length false z) behind)) in
    let least = laws.some false n (take count (drop 1 b)) found.1 in
    let size : 1 + count - 1 ≡ count = omega arith in
    record {
      formed = subst (λ (k : ℕ). Length n (take k (drop 1 b))) (sym size) found.1;
      some = omega (arith, length-take count (drop 1 b));
      within = omega (arith, found.0, length-drop 1 b, length-take count (drop 1 b));
    }

-- ---- topic names of ASCII

any_parts : (p q : ℕ → Bool) (t : List ℕ) → list_any (λ b. p b || q b) t ≡ false → (list_any p t ≡ false) × (list_any q t ≡ false)
any_parts p q [] none = (refl, refl)
any_parts p q (b ∷ t) none =
    let here = or_parts (p b || q b) (list_any (λ z. p z || q z) t) none in
    let both = or_parts (p b) (q b) here.0 in
    let rest = any_parts p q t here.1 in
    (or_from (p b) (list_any p t) both.0 rest.0, or_from (q b) (list_any q t) both.1 rest.1)

some_test : (n : ℕ) → 0 < n → (n == 0) ≡ false
some_test n some = ne_eqb n 0 (λ e. omega (arith, e))

pub is_name : (t : List ℕ) → list_any (λ b. is_special b || is_wildcard b) t ≡ false → 0 < length t → length t < 65536 → IsTopicName t
is_name t none some short =
    let parts = any_parts is_special is_wildcard t none in
    record { text = plain_text t parts.0 short; name = rw (some_test (length t) some, parts.1) refl }

-- ---- the parts of the fields

number_in-drop : (b : List ℕ) (at : ℕ) → number_in (drop at b) 0 ≡ number_in b at
number_in-drop b at =
    let high : get_or (drop at b) 0 0 ≡ get_or b at 0 = get_or-drop at b 0 0 ∙ ap (λ (k : ℕ). get_or b k 0) (omega arith) in
    let low : get_or (drop at b) 1 0 ≡ get_or b (at + 1) 0 = get_or-drop at b 1 0 in
    rw (high, low) refl

-- A number at an index.
pub number_there : NumberLaws → (b : List ℕ) (at n : ℕ) → AreBytes b → at + 2 ≤ length b → n ≡ number_in b at → drop at b ≡ number n ++ drop (at + 2) b
number_there laws b at n bytes within is =
    let long : 2 ≤ length (drop at b) = omega (arith, length-drop at b) in
    laws.found (drop at b) (bytes_behind b at bytes) long
    ∙ (ap (λ (k : ℕ). number k ++ drop 2 (drop at b)) (number_in-drop b at ∙ sym is)
    ∙ ap (λ (z : List ℕ). number n ++ z) (drop-drop 2 at b))

-- A field with its number of bytes at the front.
pub counted_front : NumberLaws → (b : List ℕ) (n : ℕ) → AreBytes b → 2 + n ≤ length b → n ≡ number_in b 0 → b ≡ counted (slice_range b 2 (2 + n)) ++ drop (2 + n) b
counted_front laws b n bytes within is =
    let t = slice_range b 2 (2 + n) in
    let rest : drop 2 b ≡ t ++ drop (2 + n) b = drop_split b 2 (2 + n) (omega arith) in
    let size : n ≡ length t = omega (arith, length-take (2 + n - 2) (drop 2 b), length-drop 2 b) in
    laws.found b bytes (omega arith)
    ∙ (ap (λ (k : ℕ). number k ++ drop 2 b) (sym is ∙ size)
    ∙ (ap (λ (z : List ℕ). number (length t) ++ z) rest ∙ sym (append_assoc (number (length t)) t (drop (2 + n) b))))

pub slice_size : (b : List ℕ) (n : ℕ) → 2 + n ≤ length b → length (slice_range b 2 (2 + n)) ≡ n
slice_size b n within = omega (arith, length-take (2 + n - 2) (drop 2 b), length-drop 2 b)

-- ---- the whole PUBLISH

dup_bit_of : (d : Option Delivery) → dup_bit d ≡ bit (dup_of d)
dup_bit_of None = refl
dup_bit_of (Some d) = refl

-- Fields with these flags, parts and places.
abbrev pub ShowsParts : PacketFields → Qos → Bool → Option Delivery → ℕ → ℕ → ℕ → Type 0
ShowsParts f qos retain d size start end =
    (b : List ℕ) (p : Publication) → Lies b start (publish_fields p) → p.message.qos ≡ qos → p.message.retain ≡ retain → p.delivery ≡ d
    → length p.message.topic ≡ size → end ≡ start + length (publish_fields p) → ShowsPublish b f p

pub publish_found : LengthLaws → (limits : Bounds) (b body : List ℕ) (f : PacketFields) (qos : Qos) (dup retain : Bool) (n start size : ℕ) (d : Option Delivery) → get_or b 0 0 ≡ 0x30 + 8 * bit dup + 2 * qos_number qos + bit retain → Length n (slice_range b 1 start) → 2 ≤ start → start + n ≤ length b → n ≤ limits.most → limits.most < 2 ^ 28 → slice_range b start (start + n) ≡ body → 2 + size ≤ length body → IsTopicName (slice_range body 2 (2 + size)) → body ≡ counted (slice_range body 2 (2 + size)) ++ drop (2 + size) body → fits_delivery qos d ≡ true → IfSome d (λ x. IsIdentifier x.id) → dup_of d ≡ dup → drop (2 + size) body ≡ delivery_fields d ++ drop ((2 + size) + length (delivery_fields d)) body → f.size ≡ start + n → ShowsParts f qos retain d size start (start + n) → IsLocated limits b (fronts.Whole f)
publish_found laws limits b body f qos dup retain n start size d one formed some within most small is fits_name name front fits identifier dup_is rest size_is shows =
    let topic : List ℕ = slice_range body 2 (2 + size) in
    let payload : List ℕ = drop ((2 + size) + length (delivery_fields d)) body in
    let p : Publication = record { message = record { topic = topic; payload = payload; qos = qos; retain = retain }; delivery = d } in
    let all : length body ≡ n = omega (arith, ap length is, length-take (start + n - start) (drop start b), length-drop start b) in
    let short : length payload < 2 ^ 28 = omega (arith, length-drop ((2 + size) + length (delivery_fields d)) body) in
    let valid : IsPublication p = record { message = record { topic = name; payload = short }; fits = fits; identifier = identifier } in
    let first : get_or b 0 0 ≡ first_byte (packets.Publish p) = one ∙ ap (λ (k : ℕ). 0x30 + 8 * k + 2 * qos_number qos + bit retain) (sym (dup_bit_of d ∙ ap bit dup_is)) in
    let parts : body ≡ publish_fields p = front ∙ ap (λ (z : List ℕ). counted topic ++ z) rest in
    let count : start + n ≡ start + length (publish_fields p) = omega (arith, ap length parts) in
    publish_located laws limits b f p n start (start + n) valid first formed some refl within (is ∙ parts) most size_is
    (λ lies. shows b p lies refl refl refl (slice_size body size fits_name) count)
