-- Items at the front of bytes (3.8.3, 3.9.3, 3.10.3).
use Rattle.std.proofs.Common.{◌≡◌, ℕ, ◌+◌, ◌≤◌, ◌<◌, true, false, true≢false, List, [], ◌∷◌, ◌++◌, length, take, drop, Result, Ok, Err, refl, sym, ap, subst, ◌∙◌, append_assoc, take-append-drop, arith}
use Rattle.std.specs.Prelude.{Option, None, Some}
use Rattle.std.proofs.lemmas.List.{length-append, length-take-le}
use Rattle.std.proofs.Math.Seq.{drop-append_seam, take-append_seam}
use Rattle.mq_wire.specs.Bytes.{AreBytes}
use Rattle.mq_wire.specs.Number.{number}
use Rattle.mq_wire.specs.Text.{IsText, counted}
use Rattle.mq_wire.specs.TextReading.{TextLaws, read_text}
use Rattle.mq_wire.specs.declared.text.FieldFault.{FieldFault}
use Rattle.mq_topic.specs.Qos.{qos_from, qos_number}
use Rattle.mq_topic.specs.Topic.{IsTopicFilter, is_topic_filter}
use Rattle.mq_topic.specs.declared.qos.Qos.{Qos}
use Rattle.mq_packet.specs.Codes.{code_from, code_number}
use Rattle.mq_packet.specs.declared.packet.Request.{Request}
use Rattle.mq_packet.specs.declared.packet.SubAckCode.{SubAckCode}
use Rattle.mq_packet.specs.Encoding.{code_fields, request_fields}
use Rattle.mq_decode.proofs.ListLaws.{code_back, code_exact, qos_back, qos_exact}
use Rattle.mq_bytes.specs.declared.items.ItemKind.{ItemKind}
use Rattle.mq_bytes.specs.declared.items.ItemKind.TheVariants as kinds
use Rattle.mq_bytes.specs.Inside.Items.{IsItem}

-- The text that is read, if a filter is at the front.
filter_reads : TextLaws → (f rest b : List ℕ) → IsTopicFilter f → b ≡ counted f ++ rest → read_text b 0 ≡ Ok (f, 2 + length f)
filter_reads laws f rest b is e = ap (λ (z : List ℕ). read_text z 0) e ∙ laws.again [] f rest is.text

one_result : (r : Result (List ℕ × ℕ) FieldFault) (x y : List ℕ × ℕ) → Ok x ≡ r → r ≡ Ok y → x ≡ y
one_result r x y e f = cc

no_result : (r : Result (List ℕ × ℕ) FieldFault) (why : FieldFault) (y : List ℕ × ℕ) → Err why ≡ r → r ≡ Ok y → ⊥
no_result r why y e f = absurd cc

pub filter_found : TextLaws → (b t : List ℕ) (end : ℕ) → Ok (t, end) ≡ read_text b 0 → (f rest : List ℕ) → IsTopicFilter f → b ≡ counted f ++ rest → Some end ≡ Some (2 + length f)
filter_found laws b t end read f rest is e = ap (λ (x : List ℕ × ℕ). Some x.1) (one_result (read_text b 0) (t, end) (f, 2 + length f) read (filter_reads laws f rest b is e))

pub not_filter : TextLaws → (b t : List ℕ) (end : ℕ) → Ok (t, end) ≡ read_text b 0 → is_topic_filter t ≡ false → (f rest : List ℕ) → IsTopicFilter f → b ≡ counted f ++ rest → ⊥
not_filter laws b t end read fails f rest is e =
    let same : t ≡ f = ap (λ (x : List ℕ × ℕ). x.0) (one_result (read_text b 0) (t, end) (f, 2 + length f) read (filter_reads laws f rest b is e)) in
    absurd (true≢false (sym is.filter ∙ (ap is_topic_filter (sym same) ∙ fails)))

pub not_found : TextLaws → (b : List ℕ) (why : FieldFault) → Err why ≡ read_text b 0 → (f rest : List ℕ) → IsTopicFilter f → b ≡ counted f ++ rest → ⊥
not_found laws b why read f rest is e = no_result (read_text b 0) why (f, 2 + length f) read (filter_reads laws f rest b is e)

pub filter_sound : TextLaws → (b t : List ℕ) (end : ℕ) → AreBytes b → Ok (t, end) ≡ read_text b 0 → IsText t → is_topic_filter t ≡ true → (end ≤ length b) × ((f : List ℕ) × IsTopicFilter f × (take end b ≡ counted f))
filter_sound laws b t end bytes read text holds =
    let h = laws.found b 0 t end bytes (sym read) in
    let size : end ≡ length (counted t) = omega (arith, h.1, length-append (number (length t)) t) in (
      h.2,
      (
        t,
        record { text = text; filter = holds },
        ap (λ (n : ℕ). take n b) size ∙ (ap (λ (z : List ℕ). take (length (counted t)) z) h.3 ∙ take-append_seam (counted t) (drop end b)),
      ),
    )

-- ---- a code (3.9.3)

none_is_some : {A : Type 0} (a : A) → None ≡ Some a → ⊥
none_is_some a e = absurd cc

list_heads : (a b : ℕ) (s t : List ℕ) → a ∷ s ≡ b ∷ t → a ≡ b
list_heads a b s t e = cc

pub code_sound : (b : List ℕ) (code : ℕ) (more : List ℕ) (c : SubAckCode) → b ≡ code ∷ more → Some c ≡ code_from code → IsItem kinds.Code (take 1 b)
code_sound b code more c e read = (c, ap (λ (z : List ℕ). take 1 z) e ∙ ap (λ (n : ℕ). n ∷ []) (code_exact code c (sym read)))

pub code_complete : (b : List ℕ) (code : ℕ) (more : List ℕ) → b ≡ code ∷ more → (x rest : List ℕ) → IsItem kinds.Code x → b ≡ x ++ rest → Some 1 ≡ Some (length x)
code_complete b code more e x rest item h = ap (λ (z : List ℕ). Some (length z)) (sym item.1)

pub no_code : (b : List ℕ) (code : ℕ) (more : List ℕ) → b ≡ code ∷ more → None ≡ code_from code → (x rest : List ℕ) → IsItem kinds.Code x → b ≡ x ++ rest → ⊥
no_code b code more e read x rest item h =
    let whole = sym e ∙ (h ∙ ap (λ (z : List ℕ). z ++ rest) item.1) in
    let same = list_heads code (code_number item.0) more rest whole in
    none_is_some item.0 (read ∙ (ap code_from same ∙ code_back item.0))

-- ---- a request (3.8.3)

-- What `filter_size` says of a filter at the front.
abbrev pub Finds : List ℕ → Option ℕ → Type 0
Finds b result = (f rest : List ℕ) → IsTopicFilter f → b ≡ counted f ++ rest → result ≡ Some (2 + length f)

pub request_sound : (b : List ℕ) (end qos : ℕ) (more f : List ℕ) (q : Qos) → IsTopicFilter f → take end b ≡ counted f → drop end b ≡ qos ∷ more → end ≤ length b → Some q ≡ qos_from qos → IsItem kinds.Request (take (end + 1) b)
request_sound b end qos more f q is front behind within read =
    let r : Request = record { filter = f; qos = q } in
    let byte : qos ≡ qos_number q = qos_exact qos q (sym read) in
    let back : drop end b ≡ qos_number q ∷ more = behind ∙ ap (λ (k : ℕ). k ∷ more) byte in
    let whole : b ≡ request_fields r ++ more = sym (take-append-drop end b) ∙ (ap (λ (z : List ℕ). z ++ drop end b) front ∙ (ap (λ (z : List ℕ). counted f ++ z) back ∙ sym (append_assoc (counted f) (qos_number q ∷ []) more))) in
    let size : end + 1 ≡ length (request_fields r) = omega (arith, ap length front, length-take-le end b within, length-append (counted f) (qos_number q ∷ [])) in
    (r, is, ap (λ (k : ℕ). take k b) size ∙ (ap (λ (z : List ℕ). take (length (request_fields r)) z) whole ∙ take-append_seam (request_fields r) more))

request_front : (b : List ℕ) (r : Request) (x rest : List ℕ) → x ≡ request_fields r → b ≡ x ++ rest → b ≡ counted r.filter ++ (qos_number r.qos ∷ rest)
request_front b r x rest is e = e ∙ (ap (λ (z : List ℕ). z ++ rest) is ∙ append_assoc (counted r.filter) (qos_number r.qos ∷ []) rest)

number_is : (a b : ℕ) → Some a ≡ Some b → a ≡ b
number_is a b e = cc

found_end : (b : List ℕ) (end : ℕ) → Finds b (Some end) → (r : Request) (rest : List ℕ) → IsTopicFilter r.filter → b ≡ counted r.filter ++ rest → end ≡ length (counted r.filter)
found_end b end finds r rest is e =
    let here = number_is end (2 + length r.filter) (finds r.filter rest is e) in
    omega (arith, here, length-append (number (length r.filter)) r.filter)

pub request_complete : (b : List ℕ) (end : ℕ) → Finds b (Some end) → (x rest : List ℕ) → IsItem kinds.Request x → b ≡ x ++ rest → Some (end + 1) ≡ Some (length x)
request_complete b end finds x rest item e =
    let r = item.0 in
    let here = found_end b end finds r (qos_number r.qos ∷ rest) item.1 (request_front b r x rest item.2 e) in
    let size : end + 1 ≡ length x = omega (arith, here, ap length item.2, length-append (counted r.filter) (qos_number r.qos ∷ [])) in
    ap (λ (n : ℕ). Some n) size

-- the bytes behind the filter
behind_filter : (b : List ℕ) (end : ℕ) → Finds b (Some end) → (x rest : List ℕ) (item : IsItem kinds.Request x) → b ≡ x ++ rest → drop end b ≡ qos_number item.0.qos ∷ rest
behind_filter b end finds x rest item e =
    let r = item.0 in
    let whole = request_front b r x rest item.2 e in
    let here = found_end b end finds r (qos_number r.qos ∷ rest) item.1 whole in
    ap (λ (k : ℕ). drop k b) here ∙ (ap (λ (z : List ℕ). drop (length (counted r.filter)) z) whole ∙ drop-append_seam (counted r.filter) (qos_number r.qos ∷ rest))

pub no_qos : (b : List ℕ) (end qos : ℕ) (more : List ℕ) → Finds b (Some end) → drop end b ≡ qos ∷ more → None ≡ qos_from qos → (x rest : List ℕ) → IsItem kinds.Request x → b ≡ x ++ rest → ⊥
no_qos b end qos more finds behind read x rest item e =
    let same = list_heads qos (qos_number item.0.qos) more rest (sym behind ∙ behind_filter b end finds x rest item e) in
    none_is_some item.0.qos (read ∙ (ap qos_from same ∙ qos_back item.0.qos))

pub no_byte : (b : List ℕ) (end : ℕ) → Finds b (Some end) → drop end b ≡ [] → (x rest : List ℕ) → IsItem kinds.Request x → b ≡ x ++ rest → ⊥
no_byte b end finds behind x rest item e =
    let none = ap length (sym behind ∙ behind_filter b end finds x rest item e) in
    absurd (omega arith)

pub no_filter : (b : List ℕ) → Finds b None → (x rest : List ℕ) → IsItem kinds.Request x → b ≡ x ++ rest → ⊥
no_filter b finds x rest item e =
    none_is_some (2 + length item.0.filter) (finds item.0.filter (qos_number item.0.qos ∷ rest) item.1 (request_front b item.0 x rest item.2 e))

-- ---- a filter (3.10.3)

pub filter_item : (b : List ℕ) (n : ℕ) (f : List ℕ) → IsTopicFilter f → take n b ≡ counted f → IsItem kinds.Filter (take n b)
filter_item b n f is e = (f, is, e)

pub filter_some : (b : List ℕ) (n : ℕ) (f : List ℕ) → n ≤ length b → take n b ≡ counted f → 0 < n
filter_some b n f within e = omega (arith, ap length e, length-take-le n b within, length-append (number (length f)) f)

pub filter_complete : (b : List ℕ) (result : Option ℕ) → Finds b result → (x rest : List ℕ) → IsItem kinds.Filter x → b ≡ x ++ rest → result ≡ Some (length x)
filter_complete b result finds x rest item e =
    let f = item.0 in
    let size : 2 + length f ≡ length x = omega (arith, ap length item.2, length-append (number (length f)) f) in
    finds f rest item.1 (e ∙ ap (λ (z : List ℕ). z ++ rest) item.2) ∙ ap (λ (n : ℕ). Some n) size
