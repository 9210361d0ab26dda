-- A reading that stops at a field gives the first field that is not of its kind: the steps, and the
-- readers of single fields.
use Rattle.std.proofs.Common.{◌≡◌, ◌<◌, ℕ, arith, Bool, true, false, cond, eqb, ltb, List, [], ◌∷◌, ◌++◌, length, take, drop, Option, Some, None, Result, Ok, Err, refl, sym, ap, subst, ◌∙◌, append_assoc, ◌⊎◌, inl, inr}
use Rattle.std.specs.Str.{is_utf8}
use Rattle.std.proofs.lemmas.List.{append-nil, append_cancel_left}
use Rattle.mq_wire.specs.declared.text.FieldFault.{FieldFault}
use Rattle.mq_wire.specs.Bytes.{AreBytes}
use Rattle.mq_wire.specs.Number.{number, number_in}
use Rattle.mq_wire.specs.Text.{counted, has_nul}
use Rattle.mq_wire.specs.declared.text.FieldFault.TheVariants as texts
use Rattle.mq_wire.specs.TextReading.{checked_text, read_text, text_bytes, text_end, with_place}
use Rattle.mq_topic.specs.Qos.{qos_number, qos_from}
use Rattle.mq_topic.specs.Topic.{is_topic_name, is_topic_filter}
use Rattle.mq_packet.specs.Codes.{code_number, code_from}
use Rattle.mq_decode.specs.declared.fault.FaultKind.{FaultKind}
use Rattle.mq_decode.specs.declared.fault.FaultKind.TheVariants.{PastEnd, NotUtf8, Nul, NotTopicName, NotTopicFilter, ZeroIdentifier, ForbiddenCode, ProtocolName, ProtocolLevel, BytesLeft}
use Rattle.mq_decode.specs.declared.fault.BadField.{BadField}
use Rattle.mq_decode.specs.Connects.{is_protocol, protocol_at, level_at}
use Rattle.mq_decode.specs.Fields.{bad_at, number_at, identifier_at, text_field, text_at, name_at, filter_at, binary_at, code_or_fault, code_byte_at, end_at}
use Rattle.mq_decode.specs.Gives.{◌>>=◌}
use Rattle.mq_decode.specs.Layout.{Field, Number, Identifier, AText, Name, Filter, Binary, Protocol, Level, Flags, Present, Returned, Requested, Granted, Payload, End, IsField, Stands, Laid, FirstBad, fault_of, text_fault_or}
use Rattle.mq_decode.proofs.ConnectLaws.{protocol_found, protocol_again, level_found}
use Rattle.mq_decode.proofs.FieldLaws.{Wire, Takes, number_found, number_again, identifier_found, identifier_again, text_found, text_again, name_found, name_again, filter_found, filter_again, binary_found, binary_again}
use Rattle.mq_decode.proofs.ListLaws.{code_found, code_again, code_exact, code_back, qos_exact, qos_back}

-- ---- The first invalid field, with its fault

pub record Bad (layout : List Field → Type 0) (bytes : List ℕ) (fault : BadField) : Type 0 where
  pub front : List ℕ
  pub after : List ℕ
  pub parts : bytes ≡ front ++ after
  pub count : fault.left ≡ length after
  pub bad : FirstBad layout front after fault.kind

-- just this layout
abbrev pub Only : List Field → List Field → Type 0
Only these fields = fields ≡ these

-- It is at the front.
pub at_front : (layout : List Field → Type 0) (next : Field) (more : List Field) (bytes : List ℕ) (fault : BadField) → fault.left ≡ length bytes → fault.kind ≡ fault_of next bytes → layout (next ∷ more)
    → (next ≡ End → (field : Field) (others : List Field) → layout (field ∷ others) → field ≡ End)
    → ((field : Field) (others : List Field) → layout (field ∷ others) → Stands field bytes → ⊥) → Bad layout bytes fault
at_front layout next more bytes fault count kind on only wrong = record {
  front = [];
  after = bytes;
  parts = refl;
  count = count;
  bad = record { before = []; right = refl; next = next; more = more; goes_on = on; wrong = wrong; fault = kind; only = only };
}

-- or behind a field
pub behind : (layout : List Field → Type 0) (field : Field) (s rest : List ℕ) (fault : BadField) → IsField field s → Bad
    (λ fields. layout (field ∷ fields)) rest fault → Bad layout (s ++ rest) fault
behind layout field s rest fault is b = record {
  front = s ++ b.front;
  after = b.after;
  parts = ap (λ (t : List ℕ). s ++ t) b.parts ∙ sym (append_assoc s b.front b.after);
  count = b.count;
  bad = record {
    before = field ∷ b.bad.before;
    right =
        (s, b.front, is, b.bad.right, refl);
    next = b.bad.next;
    more = b.bad.more;
    goes_on = b.bad.goes_on;
    wrong = λ f others on stands. b.bad.wrong f others on stands;
    fault = b.bad.fault;
    only = λ end f others on. b.bad.only end f others on;
  };
}

-- or behind several
pub behind_all : (layout : List Field → Type 0) (fields : List Field) (s rest : List ℕ) (fault : BadField) → Laid fields s → Bad
    (λ others. layout (fields ++ others)) rest fault → Bad layout (s ++ rest) fault
behind_all layout [] s rest fault laid b = subst (λ (t : List ℕ). Bad layout (t ++ rest) fault) (sym laid) b
behind_all layout (field ∷ fields) s rest fault laid b =
    let inner = behind_all (λ others. layout (field ∷ others)) fields laid.1 rest fault laid.3 b in
    let whole = behind layout field laid.0 (laid.1 ++ rest) fault laid.2 inner in
    subst (λ (t : List ℕ). Bad layout t fault) (sym (append_assoc laid.0 laid.1 rest) ∙ ap (λ (t : List ℕ). t ++ rest) (sym laid.4)) whole

-- the same layouts, told otherwise
pub retold : (old new : List Field → Type 0) (bytes : List ℕ) (fault : BadField) → ((fields : List Field) → old fields → new fields) →
    ((fields : List Field) → new fields → old fields)
    → Bad old bytes fault → Bad new bytes fault
retold old new bytes fault to back b = record {
  front = b.front;
  after = b.after;
  parts = b.parts;
  count = b.count;
  bad = record {
    before = b.bad.before;
    right = b.bad.right;
    next = b.bad.next;
    more = b.bad.more;
    goes_on = to (b.bad.before ++ b.bad.next ∷ b.bad.more) b.bad.goes_on;
    wrong = λ f others on stands. b.bad.wrong f others (back (b.bad.before ++ f ∷ others) on) stands;
    fault = b.bad.fault;
    only = λ end f others on. b.bad.only end f others (back (b.bad.before ++ f ∷ others) on);
  };
}

-- The next field of a list is unique.
pub same_next : (before : List Field) (a b : Field) (x y : List Field) → before ++ a ∷ x ≡ before ++ b ∷ y → a ≡ b
same_next [] a b x y e = cc
same_next (field ∷ before) a b x y e = let inner : before ++ a ∷ x ≡ before ++ b ∷ y = cc in same_next before a b x y inner

-- The bytes behind make no difference.
pub extended : (these : List Field) (layout : List Field → Type 0) (bytes : List ℕ) (fault : BadField) →
    ((fields : List Field) → layout fields → (more : List Field) × (fields ≡ these ++ more)) → (more : List Field) → layout (these ++ more)
    → Bad (Only these) bytes fault → Bad layout bytes fault
extended these layout bytes fault begins more on b = record {
  front = b.front;
  after = b.after;
  parts = b.parts;
  count = b.count;
  bad = record {
    before = b.bad.before;
    right = b.bad.right;
    next = b.bad.next;
    more = b.bad.more ++ more;
    goes_on = subst layout (ap (λ (t : List Field). t ++ more) (sym b.bad.goes_on) ∙ append_assoc b.bad.before (b.bad.next ∷ b.bad.more) more) on;
    wrong = λ f others found stands. b.bad.wrong b.bad.next b.bad.more b.bad.goes_on (subst (λ (g : Field). Stands g b.after) (same f others found) stands);
    fault = b.bad.fault;
    only = λ end f others found. same f others found ∙ end;
  };
}
  where
    same : (f : Field) (others : List Field) → layout (b.bad.before ++ f ∷ others) → f ≡ b.bad.next
    same f others found =
        let l = begins (b.bad.before ++ f ∷ others) found in
        let whole : b.bad.before ++ f ∷ others ≡ b.bad.before ++ b.bad.next ∷ (b.bad.more ++ l.0) =
        l.1 ∙ (ap (λ (t : List Field). t ++ l.0) (sym b.bad.goes_on) ∙ append_assoc b.bad.before (b.bad.next ∷ b.bad.more) l.0) in
        same_next b.bad.before f b.bad.next others (b.bad.more ++ l.0) whole

-- The field begins an item of a list.
abbrev pub IsItem : Field → Type 0
IsItem Number = ⊥
IsItem Identifier = ⊥
IsItem AText = ⊥
IsItem Name = ⊥
IsItem Filter = Unit {0}
IsItem Binary = ⊥
IsItem Protocol = ⊥
IsItem Level = ⊥
IsItem (Flags flags) = ⊥
IsItem (Present present) = ⊥
IsItem (Returned present) = ⊥
IsItem Requested = ⊥
IsItem Granted = Unit {0}
IsItem Payload = ⊥
IsItem End = ⊥

-- If these fields are an item, there is a byte.
abbrev pub SomeItem : List Field → List ℕ → Type 0
SomeItem [] bytes = Unit {0}
SomeItem (field ∷ fields) bytes = IsItem field → 0 < length bytes

-- ---- the steps of a reading

pub bind_bad : {A B : Type 0} (r : Result A BadField) (f : A → Result B BadField) (bad : BadField) → (r >>= f) ≡ Err bad → (r ≡ Err bad) ⊎
    ((x : A) × (r ≡ Ok x) × (f x ≡ Err bad))
bind_bad (Ok x) f bad e = inr (x, refl, e)
bind_bad (Err d) f bad e = inl cc

-- a last step that can't fail
pub map_bad : {A B : Type 0} (r : Result A BadField) (f : A → B) (bad : BadField) → (r >>= λ x. Ok (f x)) ≡ Err bad → r ≡ Err bad
map_bad (Ok x) f bad e = absurd cc
map_bad (Err d) f bad e = cc

-- A reader of a field: on a fault, no such field is at the front and all bytes are left; otherwise
-- one is, and the result is the bytes behind it.
pub record Reads1 {A : Type 0} (field : Field) (reader : List ℕ → Result A BadField) (after : A → List ℕ) : Type 0 where
  pub count : (bytes : List ℕ) (bad : BadField) → reader bytes ≡ Err bad → bad.left ≡ length bytes
  pub kind : (bytes : List ℕ) (bad : BadField) → reader bytes ≡ Err bad → (IsItem field → 0 < length bytes) → bad.kind ≡ fault_of field bytes
  pub wrong : (bytes : List ℕ) (bad : BadField) → reader bytes ≡ Err bad → Stands field bytes → ⊥
  pub found : (bytes : List ℕ) (x : A) → AreBytes bytes → reader bytes ≡ Ok x → (s : List ℕ) × Takes bytes s (after x) × IsField field s

-- the field that comes next is read
pub step : {A B : Type 0} (layout : List Field → Type 0) (field : Field) (more : List Field) (reader : List ℕ → Result A BadField)
    (after : A → List ℕ) → Reads1 field reader after
    → (IsItem field → ⊥) → layout (field ∷ more) → ((f : Field) (others : List Field) → layout (f ∷ others) → f ≡ field)
    → (f : A → Result B BadField) (bytes : List ℕ) (bad : BadField) → AreBytes bytes → (reader bytes >>= f) ≡ Err bad
    → ((x : A) → AreBytes (after x) → f x ≡ Err bad → Bad (λ others. layout (field ∷ others)) (after x) bad) → Bad layout bytes bad
step {A} layout field more reader after r no_item on alone f bytes bad h e next =
    elim (bind_bad (reader bytes) f bad e) as (λ _. Bad layout bytes bad) [
      | inl stops ↦
          at_front layout field more bytes bad (r.count bytes bad stops) (r.kind bytes bad stops (λ item. absurd (no_item item))) on
          (λ end g others found. alone g others found ∙ end)
          (λ g others found stands. r.wrong bytes bad stops (subst (λ (k : Field). Stands k bytes) (alone g others found) stands))
      | inr goes ↦
          let t = r.found bytes goes.0 h goes.1 in
          subst (λ (b : List ℕ). Bad layout b bad) (sym t.1.parts)
          (behind layout field t.0 (after goes.0) bad t.2 (next goes.0 t.1.rest_bytes goes.2))
    ]

-- a reader of several fields
pub record ReadsAll {A : Type 0} (fields : List Field) (reader : List ℕ → Result (A × List ℕ) BadField) : Type 0 where
  pub stops : (bytes : List ℕ) (bad : BadField) → SomeItem fields bytes → AreBytes bytes → reader bytes ≡ Err bad → Bad (Only fields) bytes bad
  pub found : (bytes : List ℕ) (x : A) (rest : List ℕ) → AreBytes bytes → reader bytes ≡ Ok (x, rest) → (s : List ℕ) × Takes bytes s rest × Laid fields s

-- the fields that come next are read
pub step_all : {A B : Type 0} (fields more : List Field) (reader : List ℕ → Result (A × List ℕ) BadField) → ReadsAll fields reader
    → (f : A × List ℕ → Result B BadField) (bytes : List ℕ) (bad : BadField) → SomeItem fields bytes → AreBytes bytes → (reader bytes >>= f) ≡ Err bad
    → ((x : A × List ℕ) → AreBytes x.1 → f x ≡ Err bad → Bad (Only more) x.1 bad) → Bad (Only (fields ++ more)) bytes bad
step_all {A} fields more reader r f bytes bad some h e next =
    elim (bind_bad (reader bytes) f bad e) as (λ _. Bad (Only (fields ++ more)) bytes bad) [
      | inl stops ↦ extended fields (Only (fields ++ more)) bytes bad (λ others is. (more, is)) more refl (r.stops bytes bad some h stops)
      | inr goes ↦
          let t = r.found bytes goes.0.0 goes.0.1 h goes.1 in
          let inner = next goes.0 t.1.rest_bytes goes.2 in
          let told = retold (Only more) (λ others. Only (fields ++ more) (fields ++ others)) goes.0.1 bad
          (λ others is. ap (λ (t : List Field). fields ++ t) is) (λ others is. append_cancel_left fields others more is) inner in
          subst (λ (b : List ℕ). Bad (Only (fields ++ more)) b bad) (sym t.1.parts)
          (behind_all (Only (fields ++ more)) fields t.0 goes.0.1 bad t.2 told)
    ]

-- one field, as several
pub alone : {A : Type 0} (field : Field) (reader : List ℕ → Result (A × List ℕ) BadField) → Reads1 field reader (λ x. x.1) → ReadsAll (field ∷ []) reader
alone field reader r = record {
  stops = λ bytes bad some h e.
      at_front (Only (field ∷ [])) field [] bytes bad (r.count bytes bad e) (r.kind bytes bad e some) refl
      (λ end g others found. let same : g ≡ field = cc in same ∙ end)
      (λ g others found stands. let same : g ≡ field = cc in r.wrong bytes bad e (subst (λ (k : Field). Stands k bytes) same stands));
  found = λ bytes x rest h e. let t = r.found bytes (x, rest) h e in (t.0, t.1, (t.0, [], t.2, refl, sym (append-nil t.0)));
}

-- ---- the bytes from a fault on

abbrev pub AllLeft : {A : Type 0} → List ℕ → Result A BadField → Type 0
AllLeft bytes (Ok x) = Unit {0}
AllLeft bytes (Err bad) = bad.left ≡ length bytes

pub left_of : {A : Type 0} (bytes : List ℕ) (r : Result A BadField) (bad : BadField) → AllLeft bytes r → r ≡ Err bad → bad.left ≡ length bytes
left_of bytes (Ok x) bad h e = absurd cc
left_of bytes (Err d) bad h e = let same : d ≡ bad = cc in subst (λ (x : BadField). x.left ≡ length bytes) same h

pub cond_left : {A : Type 0} (bytes : List ℕ) (b : Bool) (x y : Result A BadField) → AllLeft bytes x → AllLeft bytes y → AllLeft bytes (cond b x y)
cond_left bytes true x y h k = h
cond_left bytes false x y h k = k

bind_left : {A B : Type 0} (bytes : List ℕ) (r : Result A BadField) (f : A → Result B BadField) → AllLeft bytes r → ((x : A) → AllLeft bytes (f x))
    → AllLeft bytes (r >>= f)
bind_left bytes (Ok x) f h k = k x
bind_left bytes (Err bad) f h k = h

number_left : (bytes : List ℕ) → AllLeft bytes (number_at bytes)
unfolding number_at
number_left bytes = cond_left bytes (ltb (length bytes) 2) (Err (bad_at PastEnd bytes)) (Ok (number_in bytes 0, drop 2 bytes)) refl tt

identifier_left : (bytes : List ℕ) → AllLeft bytes (identifier_at bytes)
unfolding identifier_at
identifier_left bytes =
    bind_left bytes (number_at bytes) (λ id. cond (eqb id.0 0) (Err (bad_at ZeroIdentifier bytes)) (Ok id)) (number_left bytes)
    (λ id. cond_left bytes (eqb id.0 0) (Err (bad_at ZeroIdentifier bytes)) (Ok id) refl tt)

field_left : (bytes : List ℕ) (r : Result (List ℕ × ℕ) FieldFault) → AllLeft bytes (text_field bytes r)
field_left bytes (Ok t) = tt
field_left bytes (Err fault) = refl

text_left : (bytes : List ℕ) → AllLeft bytes (text_at bytes)
unfolding text_at
text_left bytes = field_left bytes (read_text bytes 0)

name_left : (bytes : List ℕ) → AllLeft bytes (name_at bytes)
unfolding name_at
name_left bytes =
    bind_left bytes (text_at bytes) (λ t. cond (is_topic_name t.0) (Ok t) (Err (bad_at NotTopicName bytes))) (text_left bytes)
    (λ t. cond_left bytes (is_topic_name t.0) (Ok t) (Err (bad_at NotTopicName bytes)) tt refl)

filter_left : (bytes : List ℕ) → AllLeft bytes (filter_at bytes)
unfolding filter_at
filter_left bytes =
    bind_left bytes (text_at bytes) (λ t. cond (is_topic_filter t.0) (Ok t) (Err (bad_at NotTopicFilter bytes))) (text_left bytes)
    (λ t. cond_left bytes (is_topic_filter t.0) (Ok t) (Err (bad_at NotTopicFilter bytes)) tt refl)

binary_left : (bytes : List ℕ) → AllLeft bytes (binary_at bytes)
unfolding binary_at
binary_left bytes =
    bind_left bytes (number_at bytes) (λ n. cond (ltb (length n.1) n.0) (Err (bad_at PastEnd bytes)) (Ok (take n.0 n.1, drop n.0 n.1))) (number_left bytes)
    (λ n. cond_left bytes (ltb (length n.1) n.0) (Err (bad_at PastEnd bytes)) (Ok (take n.0 n.1, drop n.0 n.1)) refl tt)

protocol_left : (bytes : List ℕ) → AllLeft bytes (protocol_at bytes)
unfolding protocol_at
protocol_left bytes =
    bind_left bytes (text_at bytes) (λ name. cond (is_protocol name.0) (Ok name.1) (Err (bad_at ProtocolName bytes))) (text_left bytes)
    (λ name. cond_left bytes (is_protocol name.0) (Ok name.1) (Err (bad_at ProtocolName bytes)) tt refl)

level_left : (bytes : List ℕ) → AllLeft bytes (level_at bytes)
level_left [] = refl
level_left (b ∷ bytes) = cond_left (b ∷ bytes) (eqb b 4) (Ok bytes) (Err (bad_at ProtocolLevel (b ∷ bytes))) tt refl

code_left : {A : Type 0} (from : ℕ → Option A) (bytes : List ℕ) → AllLeft bytes (code_byte_at from bytes)
code_left from [] = refl
code_left {A} from (b ∷ bytes) = go (from b)
  where
    go : (o : Option A) → AllLeft (b ∷ bytes) (code_or_fault o b bytes)
    go None = refl
    go (Some a) = tt

pub end_left : (bytes : List ℕ) → AllLeft bytes (end_at bytes)
end_left [] = tt
end_left (b ∷ bytes) = refl

-- ---- The kind of a fault

-- A fault has this kind.
abbrev pub AllKind : {A : Type 0} → FaultKind → Result A BadField → Type 0
AllKind kind (Ok x) = Unit {0}
AllKind kind (Err bad) = bad.kind ≡ kind

pub kind_of : {A : Type 0} (kind : FaultKind) (r : Result A BadField) (bad : BadField) → AllKind kind r → r ≡ Err bad → bad.kind ≡ kind
kind_of kind (Ok x) bad h e = absurd cc
kind_of kind (Err d) bad h e = let same : d ≡ bad = cc in subst (λ (x : BadField). x.kind ≡ kind) same h

-- A test that fails with this kind.
pub test_kind : {A : Type 0} (kind : FaultKind) (bytes : List ℕ) (b : Bool) (x : A) → AllKind kind (cond b (Ok x) (Err (bad_at kind bytes)))
test_kind kind bytes true x = tt
test_kind kind bytes false x = refl

guard_kind : {A : Type 0} (kind : FaultKind) (bytes : List ℕ) (b : Bool) (x : A) → AllKind kind (cond b (Err (bad_at kind bytes)) (Ok x))
guard_kind kind bytes true x = refl
guard_kind kind bytes false x = tt

number_kind : (bytes : List ℕ) → AllKind PastEnd (number_at bytes)
unfolding number_at
number_kind bytes = guard_kind PastEnd bytes (ltb (length bytes) 2) (number_in bytes 0, drop 2 bytes)

identifier_kind : (bytes : List ℕ) → AllKind (fault_of Identifier bytes) (identifier_at bytes)
unfolding identifier_at number_at
identifier_kind bytes = go (ltb (length bytes) 2)
  where
    go : (short : Bool) → AllKind {A = ℕ × List ℕ} (cond short PastEnd ZeroIdentifier)
        (cond short (Err (bad_at PastEnd bytes)) (Ok (number_in bytes 0, drop 2 bytes)) >>= λ id. cond (eqb id.0 0) (Err (bad_at ZeroIdentifier bytes)) (Ok id))
    go true = refl
    go false = guard_kind ZeroIdentifier bytes (eqb (number_in bytes 0) 0) (number_in bytes 0, drop 2 bytes)

text_kind : {A : Type 0} (own : FaultKind) (bytes : List ℕ) (f : List ℕ × List ℕ → Result A BadField) → ((t : List ℕ × List ℕ) → AllKind own (f t))
    → AllKind (text_fault_or own bytes) (text_at bytes >>= f)
unfolding text_at read_text checked_text
text_kind own bytes f k = go (ltb (length bytes) 2) (ltb (length bytes) (text_end bytes 0)) (is_utf8 (text_bytes bytes 0)) (has_nul (text_bytes bytes 0))
  where
    go : (short past utf8 nul : Bool) → AllKind (cond short PastEnd (cond past PastEnd (cond utf8 (cond nul Nul own) NotUtf8)))
        (text_field bytes (cond short (Err texts.Past) (cond past (Err texts.Past) (with_place (text_end bytes 0)
        (cond utf8 (cond nul (Err texts.Nul) (Ok (text_bytes bytes 0))) (Err texts.NotUtf8))))) >>= f)
    go true past utf8 nul = refl
    go false true utf8 nul = refl
    go false false false nul = refl
    go false false true true = refl
    go false false true false = k (text_bytes bytes 0, drop (text_end bytes 0) bytes)

name_kind : (bytes : List ℕ) → AllKind (fault_of Name bytes) (name_at bytes)
unfolding name_at
name_kind bytes =
    text_kind NotTopicName bytes (λ t. cond (is_topic_name t.0) (Ok t) (Err (bad_at NotTopicName bytes)))
    (λ t. test_kind NotTopicName bytes (is_topic_name t.0) t)

filter_kind : (bytes : List ℕ) → 0 < length bytes → AllKind (fault_of Filter bytes) (filter_at bytes)
unfolding filter_at
filter_kind [] some = absurd (omega arith)
filter_kind (b ∷ bytes) some =
    text_kind NotTopicFilter (b ∷ bytes) (λ t. cond (is_topic_filter t.0) (Ok t) (Err (bad_at NotTopicFilter (b ∷ bytes))))
    (λ t. test_kind NotTopicFilter (b ∷ bytes) (is_topic_filter t.0) t)

binary_kind : (bytes : List ℕ) → AllKind PastEnd (binary_at bytes)
unfolding binary_at
binary_kind bytes = go (number_at bytes) (number_kind bytes)
  where
    go : (r : Result (ℕ × List ℕ) BadField) → AllKind PastEnd r
        → AllKind {A = List ℕ × List ℕ} PastEnd (r >>= λ n. cond (ltb (length n.1) n.0) (Err (bad_at PastEnd bytes)) (Ok (take n.0 n.1, drop n.0 n.1)))
    go (Ok n) h = guard_kind PastEnd bytes (ltb (length n.1) n.0) (take n.0 n.1, drop n.0 n.1)
    go (Err bad) h = h

protocol_kind : (bytes : List ℕ) → AllKind (fault_of Protocol bytes) (protocol_at bytes)
unfolding protocol_at
protocol_kind bytes =
    text_kind ProtocolName bytes (λ name. cond (is_protocol name.0) (Ok name.1) (Err (bad_at ProtocolName bytes)))
    (λ name. test_kind ProtocolName bytes (is_protocol name.0) name.1)

level_kind : (bytes : List ℕ) → AllKind (fault_of Level bytes) (level_at bytes)
level_kind [] = refl
level_kind (b ∷ bytes) = test_kind ProtocolLevel (b ∷ bytes) (eqb b 4) bytes

code_kind : {A : Type 0} (from : ℕ → Option A) (bytes : List ℕ) → AllKind (fault_of Requested bytes) (code_byte_at from bytes)
code_kind from [] = refl
code_kind {A} from (b ∷ bytes) = go (from b)
  where
    go : (o : Option A) → AllKind ForbiddenCode (code_or_fault o b bytes)
    go None = refl
    go (Some a) = tt

granted_kind : {A : Type 0} (from : ℕ → Option A) (bytes : List ℕ) → 0 < length bytes → AllKind (fault_of Granted bytes) (code_byte_at from bytes)
granted_kind from [] some = absurd (omega arith)
granted_kind from (b ∷ bytes) some = code_kind from (b ∷ bytes)

-- ---- the readers of single fields

-- A result excludes a fault.
pub refuted : {A : Type 0} (reader : List ℕ → Result A BadField) (bytes text : List ℕ) (x : A)
    (bad : BadField) → reader bytes ≡ Err bad → bytes ≡ text → reader text ≡ Ok x → ⊥
refuted reader bytes text x bad e parts again = differ (sym again ∙ (ap reader (sym parts) ∙ e))
  where
    differ : {A : Type 0} {x : A} {bad : BadField} → Ok x ≡ Err bad → ⊥
    differ e = cc

pub reads_number : (w : Wire) → Reads1 Number number_at (λ x. x.1)
reads_number w = record {
  count = λ bytes bad e. left_of bytes (number_at bytes) bad (number_left bytes) e;
  kind = λ bytes bad e some. kind_of PastEnd (number_at bytes) bad (number_kind bytes) e;
  wrong = λ bytes bad e stands. refuted number_at bytes (stands.0 ++ stands.1) (stands.2.0, stands.1) bad e stands.3
      (rw (stands.2.2) (number_again w stands.2.0 stands.1));
  found = λ bytes x h e. let l = number_found w bytes x.0 x.1 h e in (number x.0, l.0, (x.0, l.1, refl));
}

pub reads_identifier : (w : Wire) → Reads1 Identifier identifier_at (λ x. x.1)
reads_identifier w = record {
  count = λ bytes bad e. left_of bytes (identifier_at bytes) bad (identifier_left bytes) e;
  kind = λ bytes bad e some. kind_of (fault_of Identifier bytes) (identifier_at bytes) bad (identifier_kind bytes) e;
  wrong = λ bytes bad e stands. refuted identifier_at bytes (stands.0 ++ stands.1) (stands.2.0, stands.1) bad e stands.3
      (rw (stands.2.2) (identifier_again w stands.2.0 stands.1 stands.2.1));
  found = λ bytes x h e. let l = identifier_found w bytes x.0 x.1 h e in (number x.0, l.0, (x.0, l.1, refl));
}

pub reads_text : (w : Wire) → Reads1 AText text_at (λ x. x.1)
reads_text w = record {
  count = λ bytes bad e. left_of bytes (text_at bytes) bad (text_left bytes) e;
  kind = λ bytes bad e some. kind_of (fault_of AText bytes) (text_at bytes >>= λ t. Ok t) bad (text_kind Nul bytes (λ t. Ok t) (λ t. tt)) (ap (λ (r : Result (List ℕ × List ℕ) BadField). r >>= λ t. Ok t) e);
  wrong = λ bytes bad e stands. refuted text_at bytes (stands.0 ++ stands.1) (stands.2.0, stands.1) bad e stands.3
      (rw (stands.2.1.1) (text_again w stands.2.0 stands.1 stands.2.1.0));
  found = λ bytes x h e. let l = text_found w bytes x.0 x.1 h e in (counted x.0, l.0, (x.0, (l.1, refl)));
}

pub reads_name : (w : Wire) → Reads1 Name name_at (λ x. x.1)
reads_name w = record {
  count = λ bytes bad e. left_of bytes (name_at bytes) bad (name_left bytes) e;
  kind = λ bytes bad e some. kind_of (fault_of Name bytes) (name_at bytes) bad (name_kind bytes) e;
  wrong = λ bytes bad e stands. refuted name_at bytes (stands.0 ++ stands.1) (stands.2.0, stands.1) bad e stands.3
      (rw (stands.2.2) (name_again w stands.2.0 stands.1 stands.2.1));
  found = λ bytes x h e. let l = name_found w bytes x.0 x.1 h e in (counted x.0, l.0, (x.0, l.1, refl));
}

pub reads_filter : (w : Wire) → Reads1 Filter filter_at (λ x. x.1)
reads_filter w = record {
  count = λ bytes bad e. left_of bytes (filter_at bytes) bad (filter_left bytes) e;
  kind = λ bytes bad e some. kind_of (fault_of Filter bytes) (filter_at bytes) bad (filter_kind bytes (some tt)) e;
  wrong = λ bytes bad e stands. refuted filter_at bytes (stands.0 ++ stands.1) (stands.2.0, stands.1) bad e stands.3
      (rw (stands.2.2) (filter_again w stands.2.0 stands.1 stands.2.1));
  found = λ bytes x h e. let l = filter_found w bytes x.0 x.1 h e in (counted x.0, l.0, (x.0, l.1, refl));
}

pub reads_binary : (w : Wire) → Reads1 Binary binary_at (λ x. x.1)
reads_binary w = record {
  count = λ bytes bad e. left_of bytes (binary_at bytes) bad (binary_left bytes) e;
  kind = λ bytes bad e some. kind_of PastEnd (binary_at bytes) bad (binary_kind bytes) e;
  wrong = λ bytes bad e stands. refuted binary_at bytes (stands.0 ++ stands.1) (stands.2.0, stands.1) bad e stands.3
      (rw (stands.2.2) (binary_again w stands.2.0 stands.1 stands.2.1));
  found = λ bytes x h e. let l = binary_found w bytes x.0 x.1 h e in (counted x.0, l.0, (x.0, l.1, refl));
}

pub reads_protocol : (w : Wire) → Reads1 Protocol protocol_at (λ x. x)
reads_protocol w = record {
  count = λ bytes bad e. left_of bytes (protocol_at bytes) bad (protocol_left bytes) e;
  kind = λ bytes bad e some. kind_of (fault_of Protocol bytes) (protocol_at bytes) bad (protocol_kind bytes) e;
  wrong = λ bytes bad e stands. refuted protocol_at bytes (stands.0 ++ stands.1) stands.1 bad e stands.3 (rw (stands.2) (protocol_again w stands.1));
  found = λ bytes x h e. let l = protocol_found w bytes x h e in (counted (77 ∷ 81 ∷ 84 ∷ 84 ∷ []), l, refl);
}

pub reads_level : Reads1 Level level_at (λ x. x)
reads_level = record {
  count = λ bytes bad e. left_of bytes (level_at bytes) bad (level_left bytes) e;
  kind = λ bytes bad e some. kind_of (fault_of Level bytes) (level_at bytes) bad (level_kind bytes) e;
  wrong = λ bytes bad e stands. refuted level_at bytes (stands.0 ++ stands.1) stands.1 bad e stands.3 (rw (stands.2) refl);
  found = λ bytes x h e. let l = level_found bytes x h e in (4 ∷ [], l, refl);
}

pub reads_requested : Reads1 Requested (code_byte_at qos_from) (λ x. x.1)
reads_requested = record {
  count = λ bytes bad e. left_of bytes (code_byte_at qos_from bytes) bad (code_left qos_from bytes) e;
  kind = λ bytes bad e some. kind_of (fault_of Requested bytes) (code_byte_at qos_from bytes) bad (code_kind qos_from bytes) e;
  wrong = λ bytes bad e stands. refuted (code_byte_at qos_from) bytes (stands.0 ++ stands.1) (stands.2.0, stands.1) bad e stands.3
      (rw (stands.2.1) (code_again qos_from qos_number stands.2.0 stands.1 (qos_back stands.2.0)));
  found = λ bytes x h e. let l = code_found qos_from qos_number qos_exact bytes x.0 x.1 h e in (qos_number x.0 ∷ [], l, (x.0, refl));
}

pub reads_granted : Reads1 Granted (code_byte_at code_from) (λ x. x.1)
reads_granted = record {
  count = λ bytes bad e. left_of bytes (code_byte_at code_from bytes) bad (code_left code_from bytes) e;
  kind = λ bytes bad e some. kind_of (fault_of Granted bytes) (code_byte_at code_from bytes) bad (granted_kind code_from bytes (some tt)) e;
  wrong = λ bytes bad e stands. refuted (code_byte_at code_from) bytes (stands.0 ++ stands.1) (stands.2.0, stands.1) bad e stands.3
      (rw (stands.2.1) (code_again code_from code_number stands.2.0 stands.1 (code_back stands.2.0)));
  found = λ bytes x h e. let l = code_found code_from code_number code_exact bytes x.0 x.1 h e in (code_number x.0 ∷ [], l, (x.0, refl));
}

-- the end of the packet
pub stops_at_end : (bytes : List ℕ) (bad : BadField) → end_at bytes ≡ Err bad → Bad (Only (End ∷ [])) bytes bad
stops_at_end bytes bad e =
    at_front (Only (End ∷ [])) End [] bytes bad (left_of bytes (end_at bytes) bad (end_left bytes) e) (end_kind bytes e) refl
    (λ end g others found. cc)
    (λ g others found stands.
    let same : g ≡ End = cc in
    let none : bytes ≡ [] = subst (λ (k : Field). Stands k bytes) same stands in
    refuted end_at bytes [] tt bad e none refl)
  where
    end_kind : (bytes : List ℕ) → end_at bytes ≡ Err bad → bad.kind ≡ BytesLeft
    end_kind [] e = absurd cc
    end_kind (b ∷ bytes) e = kind_of BytesLeft (end_at (b ∷ bytes)) bad refl e
