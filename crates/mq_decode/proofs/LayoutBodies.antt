-- If reading the fields of a packet stops, it returns the first invalid field, for each type of
-- packet.
use Rattle.std.proofs.Common.{◌≡◌, ℕ, zero, suc, ◌+◌, ◌<◌, Bool, true, false, cond, eqb, List, [], ◌∷◌, ◌++◌, length, Option, Some, None, Result, Ok, Err, refl, sym, ap, subst, ◌∙◌, inl, inr, arith}
use Rattle.std.proofs.lemmas.Bool.{eqb-true}
use Rattle.std.proofs.lemmas.List.{append-nil, append_cancel_left, length-append}
use Rattle.mq_wire.specs.Bytes.{AreBytes}
use Rattle.mq_wire.specs.Length.{LengthUnder}
use Rattle.mq_topic.specs.declared.qos.Qos.{Qos}
use Rattle.mq_topic.specs.declared.qos.Qos.TheVariants.{Q0, Q1, Q2}
use Rattle.mq_topic.specs.Qos.{qos_from}
use Rattle.mq_packet.specs.declared.connack.ConnAck.{ConnAck}
use Rattle.mq_packet.specs.declared.connack.ConnAck.TheVariants.{Accepted, Refused}
use Rattle.mq_packet.specs.declared.connack.RefusalCode.{RefusalCode}
use Rattle.mq_packet.specs.declared.connect.Connect.{Connect}
use Rattle.mq_packet.specs.declared.connect.Login.{Login}
use Rattle.mq_packet.specs.declared.connect.Will.{Will}
use Rattle.mq_packet.specs.declared.packet.Packet.TheVariants as packets
use Rattle.mq_packet.specs.declared.packet.Request.{Request}
use Rattle.mq_packet.specs.Codes.{code_from, refusal_from, refusal_number}
use Rattle.mq_packet.specs.Encoding.{bit}
use Rattle.mq_decode.specs.declared.fault.FaultKind.TheVariants.{ForbiddenFlags, ForbiddenCode, EmptyList}
use Rattle.mq_decode.specs.declared.fault.BadField.{BadField}
use Rattle.mq_decode.specs.declared.flags.ConnectFlags.{ConnectFlags}
use Rattle.mq_decode.specs.declared.flags.WillFlags.{WillFlags}
use Rattle.mq_decode.specs.declared.kind.Kind.{Kind}
use Rattle.mq_decode.specs.declared.kind.Kind.TheVariants as kinds
use Rattle.mq_decode.specs.declared.kind.PublishFlags.{PublishFlags}
use Rattle.mq_decode.specs.Bodies.{refusal_or_fault, answer_at, present_at, connack_at, delivery_of, delivery_at, publish_at, only_identifier_at, body_at}
use Rattle.mq_decode.specs.Connects.{flags_from, flags_or_fault, flags_at, protocol_at, level_at, will_at, password_at, login_at, connect_at}
use Rattle.mq_decode.specs.Fields.{bad_at, number_at, identifier_at, text_at, name_at, filter_at, binary_at, code_byte_at, end_at}
use Rattle.mq_decode.specs.Gives.{◌>>=◌}
use Rattle.mq_decode.specs.Layout.{Field, Number, Identifier, AText, Name, Filter, Binary, Protocol, Level, Flags, Present, Returned, Requested, Granted, Payload, End, flags_byte, IsReturned, Stands, Laid, will_layout, login_layout, after_flags, delivery_layout, repeated, IsListLayout, Layout, FaultyFields, fault_of}
use Rattle.mq_decode.specs.Lists.{items_at, list_at, request_at, suback_code_at, list_with}
use Rattle.mq_decode.proofs.BodyLaws.{refusal_exact, refusal_back, some_code, present_found}
use Rattle.mq_decode.proofs.ConnectLaws.{flags_found_at, flags_again_at}
use Rattle.mq_decode.proofs.FieldLaws.{Wire, bind_ok, ok_is, test_ok, Takes, takes, Takes-then, AreBytes-rest}
use Rattle.mq_decode.proofs.FrontFound.{AreBytes-front}
use Rattle.mq_decode.proofs.LayoutLaws.{AllKind, Bad, Only, SomeItem, cond_left, kind_of, test_kind, at_front, behind, behind_all, retold, extended, bind_bad, map_bad, Reads1, step, ReadsAll, step_all, alone, AllLeft, left_of, refuted, reads_number, reads_identifier, reads_text, reads_name, reads_filter, reads_binary, reads_protocol, reads_level, reads_requested, reads_granted, stops_at_end}
use Rattle.mq_decode.proofs.ListLaws.{chosen}

-- ---- only an identifier

only_stops : (w : Wire) (bytes : List ℕ) (bad : BadField) → AreBytes bytes → only_identifier_at bytes ≡ Err bad
    → Bad (Only (Identifier ∷ End ∷ [])) bytes bad
unfolding only_identifier_at
only_stops w bytes bad h e =
    step_all (Identifier ∷ []) (End ∷ []) identifier_at (alone Identifier identifier_at (reads_identifier w)) (λ i. end_at i.1 >>= λ end. Ok i.0) bytes bad (λ item. absurd item) h e
    (λ i more stops. stops_at_end i.1 bad (map_bad (end_at i.1) (λ end. i.0) bad stops))

-- ---- PUBLISH

-- behind the topic name
delivery_stops : (w : Wire) (qos : Qos) (dup : Bool) (bytes : List ℕ) (bad : BadField) → AreBytes bytes → delivery_of qos dup bytes ≡ Err bad
    → Bad (Only (delivery_layout qos ++ Payload ∷ [])) bytes bad
delivery_stops w Q0 dup bytes bad h e = absurd cc
delivery_stops w Q1 dup bytes bad h e =
    step_all (Identifier ∷ []) (Payload ∷ []) identifier_at (alone Identifier identifier_at (reads_identifier w))
    (λ id. Ok (Some (record { id = id.0; dup = dup }), id.1)) bytes bad (λ item. absurd item) h e (λ id more stops. absurd cc)
delivery_stops w Q2 dup bytes bad h e =
    step_all (Identifier ∷ []) (Payload ∷ []) identifier_at (alone Identifier identifier_at (reads_identifier w))
    (λ id. Ok (Some (record { id = id.0; dup = dup }), id.1)) bytes bad (λ item. absurd item) h e (λ id more stops. absurd cc)

publish_stops : (w : Wire) (flags : PublishFlags) (bytes : List ℕ) (bad : BadField) → AreBytes bytes → publish_at flags bytes ≡ Err bad
    → Bad (Only (Name ∷ (delivery_layout flags.qos ++ Payload ∷ []))) bytes bad
unfolding publish_at delivery_at
publish_stops w flags bytes bad h e =
    step_all (Name ∷ []) (delivery_layout flags.qos ++ Payload ∷ []) name_at (alone Name name_at (reads_name w))
    (λ topic. delivery_at flags topic.1 >>= λ delivery.
    Ok (record { message = record { topic = topic.0; payload = delivery.1; qos = flags.qos; retain = flags.retain }; delivery = delivery.0 })) bytes bad (λ item. absurd item) h e
    (λ topic more stops. delivery_stops w flags.qos flags.dup topic.1 bad more
    (map_bad (delivery_at flags topic.1)
    (λ delivery. record { message = record { topic = topic.0; payload = delivery.1; qos = flags.qos; retain = flags.retain }; delivery = delivery.0 }) bad stops))

-- ---- lists

-- at least one item
abbrev Some_of : List Field → List Field → Type 0
Some_of item fields = (n : ℕ) × (fields ≡ item ++ repeated item n)

-- any number of them
abbrev Any_of : List Field → List Field → Type 0
Any_of item fields = (n : ℕ) × (fields ≡ repeated item n)

-- If bytes are left, the list doesn't end.
not_ended : (before : List Field) (field : Field) (others : List Field) (front after : List ℕ) → Laid before front → 0 < length (front ++ after)
    → before ++ field ∷ others ≡ End ∷ [] → Stands field after → ⊥
not_ended [] field others front after laid some e stands =
    let same : field ≡ End = cc in
    let none : after ≡ [] = subst (λ (k : Field). Stands k after) same stands in
    let long : length (front ++ after) ≡ 0 = rw (laid, none) refl in
    omega arith
not_ended (b ∷ []) field others front after laid some e stands = cc
not_ended (b ∷ c ∷ before) field others front after laid some e stands = cc

last_is_end : (before : List Field) (field : Field) (others : List Field) → before ++ field ∷ others ≡ End ∷ [] → field ≡ End
last_is_end [] field others e = cc
last_is_end (b ∷ []) field others e = absurd cc
last_is_end (b ∷ c ∷ before) field others e = absurd cc

some_or_none : (item : List Field) (bytes : List ℕ) (fault : BadField) → 0 < length bytes → Bad (Some_of item) bytes fault → Bad (Any_of item) bytes fault
some_or_none item bytes fault some b = record {
  front = b.front;
  after = b.after;
  parts = b.parts;
  count = b.count;
  bad = record {
    before = b.bad.before;
    right = b.bad.right;
    next = b.bad.next;
    more = b.bad.more;
    goes_on = (suc b.bad.goes_on.0, b.bad.goes_on.1);
    wrong = λ f others on stands. wrong f others on.0 on.1 stands;
    fault = b.bad.fault;
    only = λ end f others on. only end f others on.0 on.1;
  };
}
  where
    long : 0 < length (b.front ++ b.after)
    long = subst (λ (t : List ℕ). 0 < length t) b.parts some

    wrong : (f : Field) (others : List Field) (n : ℕ) → b.bad.before ++ f ∷ others ≡ repeated item n → Stands f b.after → ⊥
    wrong f others zero e stands = not_ended b.bad.before f others b.front b.after b.bad.right long e stands
    wrong f others (suc n) e stands = b.bad.wrong f others (n, e) stands

    only : b.bad.next ≡ End → (f : Field) (others : List Field) (n : ℕ) → b.bad.before ++ f ∷ others ≡ repeated item n → f ≡ End
    only end f others zero e = last_is_end b.bad.before f others e
    only end f others (suc n) e = b.bad.only end f others (n, e)

items_stop : {A : Type 0} (item : List Field) (reader : List ℕ → Result (A × List ℕ) BadField) → ReadsAll item reader
    → (fuel : ℕ) (bytes : List ℕ) (bad : BadField) → AreBytes bytes → items_at reader fuel bytes ≡ Err bad → Bad (Some_of item) bytes bad
items_stop item reader r fuel [] bad h e = absurd cc
items_stop item reader r zero (b ∷ bytes) bad h e = absurd cc
items_stop {A} item reader r (suc fuel) (b ∷ bytes) bad h e =
    elim (bind_bad (reader (b ∷ bytes)) (λ x. items_at reader fuel x.1 >>= λ xs. Ok (x.0 ∷ xs)) bad e) as (λ _. Bad (Some_of item) (b ∷ bytes) bad) [
      | inl stops ↦ extended item (Some_of item) (b ∷ bytes) bad (λ fields on. (repeated item on.0, on.1)) (End ∷ []) (0, refl)
          (r.stops (b ∷ bytes) bad some h stops)
      | inr goes ↦
          let t = r.found (b ∷ bytes) goes.0.0 goes.0.1 h goes.1 in
          let others : items_at reader fuel goes.0.1 ≡ Err bad = map_bad (items_at reader fuel goes.0.1) (λ xs. goes.0.0 ∷ xs) bad goes.2 in
          let inner = items_stop item reader r fuel goes.0.1 bad t.1.rest_bytes others in
          let any = some_or_none item goes.0.1 bad (left_over fuel goes.0.1 others) inner in
          let told = retold (Any_of item) (λ fields. Some_of item (item ++ fields)) goes.0.1 bad
          (λ fields on. (on.0, ap (λ (l : List Field). item ++ l) on.1)) (λ fields on. (on.0, append_cancel_left item fields (repeated item on.0) on.1)) any in
          subst (λ (l : List ℕ). Bad (Some_of item) l bad) (sym t.1.parts) (behind_all (Some_of item) item t.0 goes.0.1 bad t.2 told)
    ]
  where
    some : SomeItem item (b ∷ bytes)
    some = any item
      where
        any : (fields : List Field) → SomeItem fields (b ∷ bytes)
        any [] = tt
        any (field ∷ fields) = λ item. omega arith

    left_over : (fuel : ℕ) (rest : List ℕ) → items_at reader fuel rest ≡ Err bad → 0 < length rest
    left_over fuel [] e = absurd cc
    left_over fuel (c ∷ rest) e = omega arith

-- A list whose first field can't be empty.
list_stops : {A : Type 0} (field : Field) (others : List Field) (reader : List ℕ → Result (A × List ℕ) BadField) → ReadsAll (field ∷ others) reader
    → (Stands field [] → ⊥) → (fault_of field [] ≡ EmptyList) → (field ≡ End → ⊥)
    → (bytes : List ℕ) (bad : BadField) → AreBytes bytes → list_at reader bytes ≡ Err bad → Bad (Some_of (field ∷ others)) bytes bad
list_stops field others reader r none empty begins [] bad h e =
    at_front (Some_of (field ∷ others)) field (others ++ End ∷ []) [] bad (left_of [] (list_at reader []) bad refl e)
    (kind_of EmptyList (list_at reader []) bad refl e ∙ sym empty) (0, refl) (λ end f more on. absurd (begins end))
    (λ f more on stands. let same : f ≡ field = first f more on.0 on.1 in none (subst (λ (k : Field). Stands k []) same stands))
  where
    first : (f : Field) (more : List Field) (n : ℕ) → f ∷ more ≡ field ∷ (others ++ repeated (field ∷ others) n) → f ≡ field
    first f more n e = cc
list_stops field others reader r none empty begins (b ∷ bytes) bad h e = items_stop (field ∷ others) reader r (length (b ∷ bytes)) (b ∷ bytes) bad h e

with_stops : (w : Wire) {A : Type 0} (field : Field) (others : List Field) (reader : List ℕ → Result (A × List ℕ) BadField)
    → ReadsAll (field ∷ others) reader → (Stands field [] → ⊥) → (fault_of field [] ≡ EmptyList) → (field ≡ End → ⊥)
    → (bytes : List ℕ) (bad : BadField) → AreBytes bytes → list_with reader bytes ≡ Err bad → Bad (IsListLayout (field ∷ others)) bytes bad
unfolding list_with
with_stops w {A} field others reader r none empty begins bytes bad h e =
    step (IsListLayout (field ∷ others)) Identifier ((field ∷ others) ++ End ∷ []) identifier_at (λ x. x.1) (reads_identifier w) (λ item. item) (0, refl)
    (λ f more on. first f more on.0 on.1)
    (λ id. list_at reader id.1 >>= λ items. Ok (id.0, items)) bytes bad h e
    (λ id more stops.
    retold (Some_of (field ∷ others)) (λ fields. IsListLayout (field ∷ others) (Identifier ∷ fields)) id.1 bad
    (λ fields on. (on.0, ap (λ (l : List Field). Identifier ∷ l) on.1)) (λ fields on. (on.0, behind_first fields on.0 on.1))
    (list_stops field others reader r none empty begins id.1 bad more (map_bad (list_at reader id.1) (λ items. (id.0, items)) bad stops)))
  where
    first : (f : Field) (more : List Field) (n : ℕ) → f ∷ more ≡ Identifier ∷ ((field ∷ others) ++ repeated (field ∷ others) n) → f ≡ Identifier
    first f more n e = cc

    behind_first : (fields : List Field) (n : ℕ) → Identifier ∷ fields ≡ Identifier ∷ ((field ∷ others) ++ repeated (field ∷ others) n)
        → fields ≡ (field ∷ others) ++ repeated (field ∷ others) n
    behind_first fields n e = cc

-- an item of SUBSCRIBE
request_reads : (w : Wire) → ReadsAll (Filter ∷ Requested ∷ []) request_at
unfolding request_at
request_reads w = record {
  stops = λ bytes bad some h e.
      step_all (Filter ∷ []) (Requested ∷ []) filter_at (alone Filter filter_at (reads_filter w))
      (λ f. code_byte_at qos_from f.1 >>= λ q. Ok (record { filter = f.0; qos = q.0 }, q.1)) bytes bad some h e
      (λ f more stops. (alone Requested (code_byte_at qos_from) reads_requested).stops f.1 bad (λ item. absurd item) more
      (map_bad (code_byte_at qos_from f.1) (λ q. (record { filter = f.0; qos = q.0 }, q.1)) bad stops));
  found = λ bytes x rest h e. found bytes x rest h e;
}
  where
    found : (bytes : List ℕ) (x : Request) (rest : List ℕ) → AreBytes bytes → request_at bytes ≡ Ok (x, rest)
        → (s : List ℕ) × Takes bytes s rest × Laid (Filter ∷ Requested ∷ []) s
    found bytes x rest h e =
        let a = bind_ok (filter_at bytes) (λ f. code_byte_at qos_from f.1 >>= λ q. Ok (record { filter = f.0; qos = q.0 }, q.1)) (x, rest) e in
        let b = bind_ok (code_byte_at qos_from a.0.1) (λ q. Ok (record { filter = a.0.0; qos = q.0 }, q.1)) (x, rest) a.2 in
        let l = (reads_filter w).found bytes a.0 h a.1 in
        let m = reads_requested.found a.0.1 b.0 l.1.rest_bytes b.1 in
        let made : Request × List ℕ = (record { filter = a.0.0; qos = b.0.0 }, b.0.1) in
        let rest_is : b.0.1 ≡ rest = ap (λ (p : Request × List ℕ). p.1) (ok_is made (x, rest) b.2) in
        let both : Takes bytes (l.0 ++ m.0) b.0.1 = Takes-then l.0 m.0 l.1 m.1 in
        (l.0 ++ m.0, subst (λ (t : List ℕ). Takes bytes (l.0 ++ m.0) t) rest_is both, (l.0, m.0, l.2, (m.0, [], m.2, refl, sym (append-nil m.0)), refl))

code_reads : ReadsAll (Granted ∷ []) suback_code_at
unfolding suback_code_at
code_reads = alone Granted (code_byte_at code_from) reads_granted

no_filter : Stands Filter [] → ⊥
no_filter stands = let long : 0 ≡ length (stands.0 ++ stands.1) = ap length stands.3 in let two : length stands.0 ≡ length (stands.2.0) + 2 = rw
    (stands.2.2) (omega arith) in omega (arith, length-append stands.0 stands.1)

no_code : Stands Granted [] → ⊥
no_code stands = let long : 0 ≡ length (stands.0 ++ stands.1) = ap length stands.3 in let one : length stands.0 ≡ 1 = rw (stands.2.1) refl in omega
    (arith, length-append stands.0 stands.1)

-- ---- CONNACK

abbrev Answer : Type 0
Answer = Result (ConnAck × List ℕ) BadField

abbrev Presence : Type 0
Presence = Result (Bool × List ℕ) BadField

refusal_left : (b : ℕ) (bytes : List ℕ) (o : Option RefusalCode) → AllLeft (b ∷ bytes) (refusal_or_fault o b bytes)
refusal_left b bytes None = refl
refusal_left b bytes (Some code) = tt

answer_left : (present : Bool) (bytes : List ℕ) → AllLeft bytes (answer_at present bytes)
answer_left present [] = refl
answer_left false (b ∷ bytes) = let accepted : Answer = Ok (Accepted false, bytes) in cond_left (b ∷ bytes) (eqb b 0) accepted
    (refusal_or_fault (refusal_from b) b bytes) tt (refusal_left b bytes (refusal_from b))
answer_left true (b ∷ bytes) = let accepted : Answer = Ok (Accepted true, bytes) in cond_left (b ∷ bytes) (eqb b 0) accepted
    (Err (bad_at ForbiddenCode (b ∷ bytes))) tt refl

present_left : (bytes : List ℕ) → AllLeft bytes (present_at bytes)
present_left [] = refl
present_left (b ∷ bytes) =
    let none : Presence = Ok (false, bytes) in
    let some : Presence = Ok (true, bytes) in
    let bad : Presence = Err (bad_at ForbiddenFlags (b ∷ bytes)) in
    cond_left (b ∷ bytes) (eqb b 0) none (cond (eqb b 1) some bad) tt (cond_left (b ∷ bytes) (eqb b 1) some bad tt refl)

refusal_kind : (b : ℕ) (bytes : List ℕ) (o : Option RefusalCode) → AllKind ForbiddenCode (refusal_or_fault o b bytes)
refusal_kind b bytes None = refl
refusal_kind b bytes (Some code) = tt

answer_kind : (present : Bool) (bytes : List ℕ) → AllKind (fault_of (Returned present) bytes) (answer_at present bytes)
answer_kind present [] = refl
answer_kind false (b ∷ bytes) = go (eqb b 0)
  where
    go : (none : Bool) → AllKind ForbiddenCode (cond none (Ok (Accepted false, bytes)) (refusal_or_fault (refusal_from b) b bytes))
    go true = tt
    go false = refusal_kind b bytes (refusal_from b)
answer_kind true (b ∷ bytes) = test_kind ForbiddenCode (b ∷ bytes) (eqb b 0) (Accepted true, bytes)

present_kind : (bytes : List ℕ) → AllKind (fault_of (Present false) bytes) (present_at bytes)
present_kind [] = refl
present_kind (b ∷ bytes) = go (eqb b 0)
  where
    go : (none : Bool) → AllKind {A = Bool × List ℕ} ForbiddenFlags (cond none (Ok (false, bytes)) (cond (eqb b 1) (Ok (true, bytes)) (Err (bad_at ForbiddenFlags (b ∷ bytes)))))
    go true = tt
    go false = test_kind ForbiddenFlags (b ∷ bytes) (eqb b 1) (true, bytes)

present_again : (present : Bool) (rest : List ℕ) → present_at (bit present ∷ rest) ≡ Ok (present, rest)
present_again false rest = refl
present_again true rest = refl

answer_of : (present : Bool) (s rest : List ℕ) → IsReturned present s → (c : ConnAck) × (answer_at present (s ++ rest) ≡ Ok (c, rest))
answer_of false s rest is = elim is as (λ _. (c : ConnAck) × (answer_at false (s ++ rest) ≡ Ok (c, rest))) [
  | inl e ↦ (Accepted false, rw e refl)
  | inr r ↦ (Refused r.0, rw (r.1, some_code r.0, refusal_back r.0) refl)
]
answer_of true s rest is = (Accepted true, rw is refl)

answered : (present : Bool) (bytes : List ℕ) (x : ConnAck × List ℕ) → AreBytes bytes → answer_at present bytes ≡ Ok x
    → (s : List ℕ) × Takes bytes s x.1 × IsReturned present s
answered present [] x h e = absurd cc
answered false (b ∷ bytes) x h e =
    elim (chosen (eqb b 0) (Ok (Accepted false, bytes)) (refusal_or_fault (refusal_from b) b bytes) (Ok x) e) as
    (λ _. (s : List ℕ) × Takes (b ∷ bytes) s x.1 × IsReturned false s) [
      | inl k ↦
          let made : ConnAck × List ℕ = (Accepted false, bytes) in
          let rest_is : bytes ≡ x.1 = ap (λ (p : ConnAck × List ℕ). p.1) (ok_is made x k.1) in
          (0 ∷ [], takes (b ∷ bytes) (0 ∷ []) x.1 h (rw (eqb-true b 0 k.0, rest_is) refl), inl refl)
      | inr k ↦ refused (refusal_from b) refl k.1
    ]
  where
    refused : (o : Option RefusalCode) → refusal_from b ≡ o → refusal_or_fault o b bytes ≡ Ok x → (s : List ℕ) × Takes (b ∷ bytes) s x.1 × IsReturned false s
    refused None is e = absurd cc
    refused (Some code) is e =
        let made : ConnAck × List ℕ = (Refused code, bytes) in
        let rest_is : bytes ≡ x.1 = ap (λ (p : ConnAck × List ℕ). p.1) (ok_is made x e) in
        (refusal_number code ∷ [], takes (b ∷ bytes) (refusal_number code ∷ []) x.1 h (rw (refusal_exact b code is, rest_is) refl), inr (code, refl))
answered true (b ∷ bytes) x h e =
    let g = test_ok (eqb b 0) (bad_at ForbiddenCode (b ∷ bytes)) (Accepted true, bytes) x e in
    let rest_is : bytes ≡ x.1 = ap (λ (p : ConnAck × List ℕ). p.1) g.1 in
    (0 ∷ [], takes (b ∷ bytes) (0 ∷ []) x.1 h (rw (eqb-true b 0 g.0, rest_is) refl), refl)

reads_returned : (present : Bool) → Reads1 (Returned present) (answer_at present) (λ x. x.1)
reads_returned present = record {
  kind = λ bytes bad e some. kind_of (fault_of (Returned present) bytes) (answer_at present bytes) bad (answer_kind present bytes) e;
  count = λ bytes bad e. left_of bytes (answer_at present bytes) bad (answer_left present bytes) e;
  wrong = λ bytes bad e stands. let a = answer_of present stands.0 stands.1 stands.2 in refuted (answer_at present) bytes (stands.0 ++ stands.1)
      (a.0, stands.1) bad e stands.3 a.1;
  found = λ bytes x h e. answered present bytes x h e;
}

connack_stops : (bytes : List ℕ) (bad : BadField) → AreBytes bytes → connack_at bytes ≡ Err bad → Bad (Layout kinds.ConnAck) bytes bad
unfolding connack_at
connack_stops bytes bad h e =
    elim (bind_bad (present_at bytes) (λ present. answer_at present.0 present.1 >>= λ answer. end_at answer.1 >>= λ end. Ok answer.0) bad e) as
    (λ _. Bad (Layout kinds.ConnAck) bytes bad) [
      | inl stops ↦
          at_front (Layout kinds.ConnAck) (Present false) (Returned false ∷ End ∷ []) bytes bad
          (left_of bytes (present_at bytes) bad (present_left bytes) stops)
          (kind_of (fault_of (Present false) bytes) (present_at bytes) bad (present_kind bytes) stops) (false, refl)
          (λ end f others on. absurd (present_is_not_end end))
          (λ f others on stands. not_present stops f others on.0 on.1 stands)
      | inr goes ↦
          let p = goes.0.0 in
          let parts : bytes ≡ (bit p ∷ []) ++ goes.0.1 = present_found bytes p goes.0.1 goes.1 in
          let t = takes bytes (bit p ∷ []) goes.0.1 h parts in
          let inner = step (Only (Returned p ∷ End ∷ [])) (Returned p) (End ∷ []) (answer_at p) (λ x. x.1) (reads_returned p) (λ item. item) refl (λ f others on. cc)
          (λ answer. end_at answer.1 >>= λ end. Ok answer.0) goes.0.1 bad t.rest_bytes goes.2
          (λ answer more stops.
          retold (Only (End ∷ [])) (λ fields. Only (Returned p ∷ End ∷ []) (Returned p ∷ fields)) answer.1 bad
          (λ fields on. ap (λ (l : List Field). Returned p ∷ l) on) (λ fields on. cc)
          (stops_at_end answer.1 bad (map_bad (end_at answer.1) (λ end. answer.0) bad stops))) in
          let told = retold (Only (Returned p ∷ End ∷ [])) (λ fields. Layout kinds.ConnAck (Present p ∷ fields)) goes.0.1 bad
          (λ fields on. (p, ap (λ (l : List Field). Present p ∷ l) on)) (λ fields on. same_present p fields on.0 on.1) inner in
          subst (λ (l : List ℕ). Bad (Layout kinds.ConnAck) l bad) (sym parts)
          (behind (Layout kinds.ConnAck) (Present p) (bit p ∷ []) goes.0.1 bad refl told)
    ]
  where
    present_is_not_end : Present false ≡ End → ⊥
    present_is_not_end end = cc

    not_present : present_at bytes ≡ Err bad → (f : Field) (others : List Field) (p : Bool) → f ∷ others ≡ Present p ∷ Returned p ∷ End ∷ []
        → Stands f bytes → ⊥
    not_present stops f others p on stands =
        let same : f ≡ Present p = cc in
        let here : Stands (Present p) bytes = subst (λ (k : Field). Stands k bytes) same stands in
        refuted present_at bytes (here.0 ++ here.1) (p, here.1) bad stops here.3 (rw (here.2) (present_again p here.1))

    same_present : (p : Bool) (fields : List Field) (q : Bool) → Present p ∷ fields ≡ Present q ∷ Returned q ∷ End ∷ [] → fields ≡ Returned p ∷ End ∷ []
    same_present p fields q on =
        let same : q ≡ p = cc in
        let tail : fields ≡ Returned q ∷ End ∷ [] = cc in
        subst (λ (r : Bool). fields ≡ Returned r ∷ End ∷ []) same tail

-- ---- CONNECT

will_reads : (w : Wire) (flags : Option WillFlags) → ReadsAll (will_layout flags) (will_at flags)
unfolding will_at
will_reads w None = record {
  stops = λ bytes bad some h e. absurd cc;
  found = λ bytes x rest h e. let made : Option Will × List ℕ = (None, bytes) in let rest_is : bytes ≡ rest = ap (λ (p : Option Will × List ℕ). p.1)
      (ok_is made (x, rest) e) in ([], takes bytes [] rest h rest_is, refl);
}
will_reads w (Some flags) = record {
  stops = λ bytes bad some h e.
      step_all (Name ∷ []) (Binary ∷ []) name_at (alone Name name_at (reads_name w))
      (λ t. binary_at t.1 >>= λ m. Ok (Some (record { topic = t.0; message = m.0; qos = flags.qos; retain = flags.retain }), m.1)) bytes bad (λ item. absurd item) h e
      (λ t more stops. (alone Binary binary_at (reads_binary w)).stops t.1 bad (λ item. absurd item) more
      (map_bad (binary_at t.1) (λ m. (Some (record { topic = t.0; message = m.0; qos = flags.qos; retain = flags.retain }), m.1)) bad stops));
  found = λ bytes x rest h e. found bytes x rest h e;
}
  where
    found : (bytes : List ℕ) (x : Option Will) (rest : List ℕ) → AreBytes bytes → will_at (Some flags) bytes ≡ Ok (x, rest)
        → (s : List ℕ) × Takes bytes s rest × Laid (Name ∷ Binary ∷ []) s
    found bytes x rest h e =
        let a = bind_ok (name_at bytes)
        (λ t. binary_at t.1 >>= λ m. Ok (Some (record { topic = t.0; message = m.0; qos = flags.qos; retain = flags.retain }), m.1)) (x, rest) e in
        let b = bind_ok (binary_at a.0.1) (λ m. Ok (Some (record { topic = a.0.0; message = m.0; qos = flags.qos; retain = flags.retain }), m.1))
        (x, rest) a.2 in
        let l = (reads_name w).found bytes a.0 h a.1 in
        let m = (reads_binary w).found a.0.1 b.0 l.1.rest_bytes b.1 in
        let made : Option Will × List ℕ = (Some (record { topic = a.0.0; message = b.0.0; qos = flags.qos; retain = flags.retain }), b.0.1) in
        let rest_is : b.0.1 ≡ rest = ap (λ (p : Option Will × List ℕ). p.1) (ok_is made (x, rest) b.2) in
        let both : Takes bytes (l.0 ++ m.0) b.0.1 = Takes-then l.0 m.0 l.1 m.1 in
        (l.0 ++ m.0, subst (λ (t : List ℕ). Takes bytes (l.0 ++ m.0) t) rest_is both, (l.0, m.0, l.2, (m.0, [], m.2, refl, sym (append-nil m.0)), refl))

abbrev password_layout : Bool → List Field
password_layout false = []
password_layout true = Binary ∷ []

password_item : (has : Bool) (bytes : List ℕ) → SomeItem (password_layout has) bytes
password_item false bytes = tt
password_item true bytes = λ item. absurd item

will_item : (flags : Option WillFlags) (bytes : List ℕ) → SomeItem (will_layout flags) bytes
will_item None bytes = tt
will_item (Some flags) bytes = λ item. absurd item

login_item : (has : Option Bool) (bytes : List ℕ) → SomeItem (login_layout has) bytes
login_item None bytes = tt
login_item (Some false) bytes = λ item. absurd item
login_item (Some true) bytes = λ item. absurd item

password_reads : (w : Wire) (has : Bool) → ReadsAll (password_layout has) (password_at has)
unfolding password_at
password_reads w false = record {
  stops = λ bytes bad some h e. absurd cc;
  found = λ bytes x rest h e. let made : Option (List ℕ) × List ℕ = (None, bytes) in let rest_is : bytes ≡ rest = ap (λ (p : Option (List ℕ) × List ℕ). p.1)
      (ok_is made (x, rest) e) in ([], takes bytes [] rest h rest_is, refl);
}
password_reads w true = record {
  stops = λ bytes bad some h e. (alone Binary binary_at (reads_binary w)).stops bytes bad (λ item. absurd item) h (map_bad (binary_at bytes) (λ p. (Some p.0, p.1)) bad e);
  found = λ bytes x rest h e.
      let a = bind_ok (binary_at bytes) (λ b. Ok (Some b.0, b.1)) (x, rest) e in
      let l = (reads_binary w).found bytes a.0 h a.1 in
      let made : Option (List ℕ) × List ℕ = (Some a.0.0, a.0.1) in
      let rest_is : a.0.1 ≡ rest = ap (λ (p : Option (List ℕ) × List ℕ). p.1) (ok_is made (x, rest) a.2) in
      (l.0, subst (λ (t : List ℕ). Takes bytes l.0 t) rest_is l.1, (l.0, [], l.2, refl, sym (append-nil l.0)));
}

login_reads : (w : Wire) (has : Option Bool) → ReadsAll (login_layout has) (login_at has)
unfolding login_at
login_reads w None = record {
  stops = λ bytes bad some h e. absurd cc;
  found = λ bytes x rest h e. let made : Option Login × List ℕ = (None, bytes) in let rest_is : bytes ≡ rest = ap (λ (p : Option Login × List ℕ). p.1)
      (ok_is made (x, rest) e) in ([], takes bytes [] rest h rest_is, refl);
}
login_reads w (Some has) = record {
  stops = λ bytes bad some h e. subst (λ (l : List Field). Bad (Only l) bytes bad) (sym (told has)) (
      step_all (AText ∷ []) (password_layout has) text_at (alone AText text_at (reads_text w))
      (λ name. password_at has name.1 >>= λ p. Ok (Some (record { name = name.0; password = p.0 }), p.1)) bytes bad (λ item. absurd item) h e
      (λ name more stops. (password_reads w has).stops name.1 bad (password_item has name.1) more
      (map_bad (password_at has name.1) (λ p. (Some (record { name = name.0; password = p.0 }), p.1)) bad stops)));
  found = λ bytes x rest h e. found bytes x rest h e;
}
  where
    told : (has : Bool) → login_layout (Some has) ≡ (AText ∷ []) ++ password_layout has
    told false = refl
    told true = refl

    found : (bytes : List ℕ) (x : Option Login) (rest : List ℕ) → AreBytes bytes → login_at (Some has) bytes ≡ Ok (x, rest)
        → (s : List ℕ) × Takes bytes s rest × Laid (login_layout (Some has)) s
    found bytes x rest h e =
        let a = bind_ok (text_at bytes) (λ name. password_at has name.1 >>= λ p. Ok (Some (record { name = name.0; password = p.0 }), p.1)) (x, rest) e in
        let b = bind_ok (password_at has a.0.1) (λ p. Ok (Some (record { name = a.0.0; password = p.0 }), p.1)) (x, rest) a.2 in
        let l = (reads_text w).found bytes a.0 h a.1 in
        let m = (password_reads w has).found a.0.1 b.0.0 b.0.1 l.1.rest_bytes b.1 in
        let made : Option Login × List ℕ = (Some (record { name = a.0.0; password = b.0.0 }), b.0.1) in
        let rest_is : b.0.1 ≡ rest = ap (λ (p : Option Login × List ℕ). p.1) (ok_is made (x, rest) b.2) in
        let both : Takes bytes (l.0 ++ m.0) b.0.1 = Takes-then l.0 m.0 l.1 m.1 in
        let laid : Laid ((AText ∷ []) ++ password_layout has) (l.0 ++ m.0) = (l.0, m.0, l.2, m.2, refl) in (
          l.0 ++ m.0,
          subst (λ (t : List ℕ). Takes bytes (l.0 ++ m.0) t) rest_is both,
          subst (λ (fields : List Field). Laid fields (l.0 ++ m.0))
              (sym (told has)) laid,
        )

plain : ConnectFlags
plain = record { clean_session = false; will = None; password = None }

flags_kind : (bytes : List ℕ) → AllKind (fault_of (Flags plain) bytes) (flags_at bytes)
unfolding flags_at
flags_kind [] = refl
flags_kind (b ∷ bytes) = go (flags_from b)
  where
    go : (o : Option ConnectFlags) → AllKind ForbiddenFlags (flags_or_fault o b bytes)
    go None = refl
    go (Some flags) = tt

flags_left : (bytes : List ℕ) → AllLeft bytes (flags_at bytes)
unfolding flags_at
flags_left [] = refl
flags_left (b ∷ bytes) = go (flags_from b)
  where
    go : (o : Option ConnectFlags) → AllLeft (b ∷ bytes) (flags_or_fault o b bytes)
    go None = refl
    go (Some flags) = tt

-- The fields behind the flags.
abbrev tail_at : ConnectFlags → List ℕ → Result Connect BadField
tail_at flags bytes =
    number_at bytes >>= λ keep_alive. text_at keep_alive.1 >>= λ client. will_at flags.will client.1 >>= λ will. login_at flags.password will.1 >>= λ login. end_at login.1 >>= λ end.
    Ok (record { client_id = client.0; clean_session = flags.clean_session; keep_alive = keep_alive.0; will = will.0; login = login.0 })

tail_stops : (w : Wire) (flags : ConnectFlags) (bytes : List ℕ) (bad : BadField) → AreBytes bytes → tail_at flags bytes ≡ Err bad
    → Bad (Only (after_flags flags)) bytes bad
tail_stops w flags bytes bad h e =
    step_all (Number ∷ []) (AText ∷ (will_layout flags.will ++ (login_layout flags.password ++ End ∷ []))) number_at (alone Number number_at (reads_number w))
    (λ keep_alive. text_at keep_alive.1 >>= λ client. will_at flags.will client.1 >>= λ will. login_at flags.password will.1 >>= λ login. end_at login.1 >>= λ end.
    Ok (record { client_id = client.0; clean_session = flags.clean_session; keep_alive = keep_alive.0; will = will.0; login = login.0 })) bytes bad (λ item. absurd item) h e
    (λ k hk ek.
    step_all (AText ∷ []) (will_layout flags.will ++ (login_layout flags.password ++ End ∷ [])) text_at (alone AText text_at (reads_text w))
    (λ client. will_at flags.will client.1 >>= λ will. login_at flags.password will.1 >>= λ login. end_at login.1 >>= λ end.
    Ok (record { client_id = client.0; clean_session = flags.clean_session; keep_alive = k.0; will = will.0; login = login.0 })) k.1 bad (λ item. absurd item) hk ek
    (λ t ht et.
    step_all (will_layout flags.will) (login_layout flags.password ++ End ∷ []) (will_at flags.will) (will_reads w flags.will)
    (λ will. login_at flags.password will.1 >>= λ login. end_at login.1 >>= λ end.
    Ok (record { client_id = t.0; clean_session = flags.clean_session; keep_alive = k.0; will = will.0; login = login.0 })) t.1 bad (will_item flags.will t.1) ht et
    (λ m hm em.
    step_all (login_layout flags.password) (End ∷ []) (login_at flags.password) (login_reads w flags.password)
    (λ login. end_at login.1 >>= λ end.
    Ok (record { client_id = t.0; clean_session = flags.clean_session; keep_alive = k.0; will = m.0; login = login.0 })) m.1 bad (login_item flags.password m.1) hm em
    (λ l hl el.
    stops_at_end l.1 bad
    (map_bad (end_at l.1) (λ end. record { client_id = t.0; clean_session = flags.clean_session; keep_alive = k.0; will = m.0; login = l.0 }) bad el)))))

abbrev Connects : List Field → Type 0
Connects fields = Layout kinds.Connect fields

flags_stop : (w : Wire) (bytes : List ℕ) (bad : BadField) → AreBytes bytes → (flags_at bytes >>= λ flags. tail_at flags.0 flags.1) ≡ Err bad
    → Bad (λ fields. Connects (Protocol ∷ Level ∷ fields)) bytes bad
flags_stop w bytes bad h e =
    elim (bind_bad (flags_at bytes) (λ flags. tail_at flags.0 flags.1) bad e) as (λ _. Bad (λ fields. Connects (Protocol ∷ Level ∷ fields)) bytes bad) [
      | inl stops ↦
          at_front (λ fields. Connects (Protocol ∷ Level ∷ fields)) (Flags plain) (after_flags plain) bytes bad
          (left_of bytes (flags_at bytes) bad (flags_left bytes) stops)
          (kind_of (fault_of (Flags plain) bytes) (flags_at bytes) bad (flags_kind bytes) stops) (plain, refl)
          (λ end f others on. absurd (flags_are_no_end end))
          (λ f others on stands. no_flags stops f others on.0 on.1 stands)
      | inr goes ↦
          let t = flags_found_at bytes goes.0.0 goes.0.1 h goes.1 in
          let inner = tail_stops w goes.0.0 goes.0.1 bad t.rest_bytes goes.2 in
          let told = retold (Only (after_flags goes.0.0)) (λ fields. Connects (Protocol ∷ Level ∷ Flags goes.0.0 ∷ fields)) goes.0.1 bad
          (λ fields on. (goes.0.0, ap (λ (l : List Field). Protocol ∷ Level ∷ Flags goes.0.0 ∷ l) on))
          (λ fields on. same_flags goes.0.0 fields on.0 on.1) inner in
          subst (λ (l : List ℕ). Bad (λ fields. Connects (Protocol ∷ Level ∷ fields)) l bad) (sym t.parts)
          (behind (λ fields. Connects (Protocol ∷ Level ∷ fields)) (Flags goes.0.0) (flags_byte goes.0.0 ∷ []) goes.0.1 bad refl told)
    ]
  where
    flags_are_no_end : Flags plain ≡ End → ⊥
    flags_are_no_end end = cc

    no_flags : flags_at bytes ≡ Err bad → (f : Field) (others : List Field) (flags : ConnectFlags)
        → Protocol ∷ Level ∷ f ∷ others ≡ Protocol ∷ Level ∷ Flags flags ∷ after_flags flags → Stands f bytes → ⊥
    no_flags stops f others flags on stands =
        let same : f ≡ Flags flags = cc in
        let here : Stands (Flags flags) bytes = subst (λ (k : Field). Stands k bytes) same stands in
        refuted flags_at bytes (here.0 ++ here.1) (flags, here.1) bad stops here.3 (rw (here.2) (flags_again_at flags here.1))

    same_flags : (these : ConnectFlags) (fields : List Field) (flags : ConnectFlags)
        → Protocol ∷ Level ∷ Flags these ∷ fields ≡ Protocol ∷ Level ∷ Flags flags ∷ after_flags flags → fields ≡ after_flags these
    same_flags these fields flags on =
        let same : flags ≡ these = cc in
        let tail : fields ≡ after_flags flags = cc in
        subst (λ (g : ConnectFlags). fields ≡ after_flags g) same tail

connect_stops : (w : Wire) (bytes : List ℕ) (bad : BadField) → AreBytes bytes → connect_at bytes ≡ Err bad → Bad (Layout kinds.Connect) bytes bad
unfolding connect_at
connect_stops w bytes bad h e =
    step Connects Protocol (Level ∷ Flags plain ∷ after_flags plain) protocol_at (λ x. x) (reads_protocol w) (λ item. item) (plain, refl)
    (λ f others on. first f others on.0 on.1)
    (λ level. level_at level >>= λ behind. flags_at behind >>= λ flags. tail_at flags.0 flags.1) bytes bad h e
    (λ level hl el.
    step (λ fields. Connects (Protocol ∷ fields)) Level (Flags plain ∷ after_flags plain) level_at (λ x. x) reads_level (λ item. item) (plain, refl)
    (λ f others on. second f others on.0 on.1)
    (λ behind. flags_at behind >>= λ flags. tail_at flags.0 flags.1) level bad hl el (λ behind hb eb. flags_stop w behind bad hb eb))
  where
    first : (f : Field) (others : List Field) (flags : ConnectFlags) → f ∷ others ≡ Protocol ∷ Level ∷ Flags flags ∷ after_flags flags → f ≡ Protocol
    first f others flags on = cc

    second : (f : Field) (others : List Field) (flags : ConnectFlags) → Protocol ∷ f ∷ others ≡ Protocol ∷ Level ∷ Flags flags ∷ after_flags flags → f ≡ Level
    second f others flags on = cc

-- ---- all types

body_stops : (w : Wire) (kind : Kind) (bytes : List ℕ) (bad : BadField) → AreBytes bytes → body_at kind bytes ≡ Err bad → Bad (Layout kind) bytes bad
body_stops w kinds.Connect bytes bad h e = connect_stops w bytes bad h (map_bad (connect_at bytes) (λ c. packets.Connect c) bad e)
body_stops w kinds.ConnAck bytes bad h e = connack_stops bytes bad h (map_bad (connack_at bytes) (λ c. packets.ConnAck c) bad e)
body_stops w (kinds.Publish flags) bytes bad h e = publish_stops w flags bytes bad h (map_bad (publish_at flags bytes) (λ p. packets.Publish p) bad e)
body_stops w kinds.PubAck bytes bad h e = only_stops w bytes bad h (map_bad (only_identifier_at bytes) (λ id. packets.PubAck id) bad e)
body_stops w kinds.PubRec bytes bad h e = only_stops w bytes bad h (map_bad (only_identifier_at bytes) (λ id. packets.PubRec id) bad e)
body_stops w kinds.PubRel bytes bad h e = only_stops w bytes bad h (map_bad (only_identifier_at bytes) (λ id. packets.PubRel id) bad e)
body_stops w kinds.PubComp bytes bad h e = only_stops w bytes bad h (map_bad (only_identifier_at bytes) (λ id. packets.PubComp id) bad e)
body_stops w kinds.Subscribe bytes bad h e =
    with_stops w Filter (Requested ∷ []) request_at (request_reads w) no_filter refl (λ e. cc) bytes bad h
    (map_bad (list_with request_at bytes) (λ l. packets.Subscribe l.0 l.1) bad e)
body_stops w kinds.SubAck bytes bad h e = with_stops w Granted [] suback_code_at code_reads no_code refl (λ e. cc) bytes bad h
    (map_bad (list_with suback_code_at bytes) (λ l. packets.SubAck l.0 l.1) bad e)
body_stops w kinds.Unsubscribe bytes bad h e =
    with_stops w Filter [] filter_at (alone Filter filter_at (reads_filter w)) no_filter refl (λ e. cc) bytes bad h
    (map_bad (list_with filter_at bytes) (λ l. packets.Unsubscribe l.0 l.1) bad e)
body_stops w kinds.UnsubAck bytes bad h e = only_stops w bytes bad h (map_bad (only_identifier_at bytes) (λ id. packets.UnsubAck id) bad e)
body_stops w kinds.PingReq bytes bad h e = stops_at_end bytes bad (map_bad (end_at bytes) (λ end. packets.PingReq) bad e)
body_stops w kinds.PingResp bytes bad h e = stops_at_end bytes bad (map_bad (end_at bytes) (λ end. packets.PingResp) bad e)
body_stops w kinds.Disconnect bytes bad h e = stops_at_end bytes bad (map_bad (end_at bytes) (λ end. packets.Disconnect) bad e)

pub faulty_fields : (w : Wire) → FaultyFields
faulty_fields w limits b k place h fault =
    let all : AreBytes ((fault.first ∷ fault.len) ++ (fault.body ++ fault.rest)) = subst AreBytes fault.bytes h in
    let bytes = AreBytes-front fault.body fault.rest (AreBytes-rest (fault.first ∷ fault.len) (fault.body ++ fault.rest) all) in
    let stops = body_stops w fault.kind fault.body (record { kind = k; left = fault.left }) bytes fault.fault in
    record {
      first = fault.first;
      len = fault.len;
      front = stops.front;
      after = stops.after;
      rest = fault.rest;
      bytes = subst (λ (t : List ℕ). b ≡ fault.first ∷ fault.len ++ (t ++ fault.rest)) stops.parts fault.bytes;
      kind = fault.kind;
      right = fault.right;
      formed = subst (λ (t : List ℕ). LengthUnder limits.lenient (length t) fault.len) stops.parts fault.formed;
      bad = stops.bad;
      here = omega (arith, fault.here, stops.count, ap length stops.parts, length-append stops.front stops.after);
    }
