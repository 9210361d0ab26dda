-- The laws of single fields: decoding and encoding are inverse to each other.
use Rattle.std.proofs.Common.{◌≡◌, ℕ, ◌+◌, ◌<◌, ◌≤◌, Bool, true, false, cond, eqb, ltb, List, [], ◌∷◌, ◌++◌, length, take, drop, Result, Ok, Err, refl, sym, ap, subst, ◌∙◌, append_assoc, arith}
use Rattle.std.proofs.lemmas.Bool.{ltb-false, le-ltb, eqb-false, ne_eqb}
use Rattle.std.proofs.lemmas.List.{take_at, drop_at, length-append, length-take, take-append-drop, get_or-drop}
use Rattle.std.proofs.Math.Seq.{drop-append_seam}
use Rattle.mq_wire.specs.declared.text.FieldFault.{FieldFault}
use Rattle.mq_wire.specs.Bytes.{AreBytes}
use Rattle.mq_wire.specs.Number.{number, number_in, NumberLaws}
use Rattle.mq_wire.specs.Text.{IsText, counted}
use Rattle.mq_wire.specs.TextReading.{read_text, TextLaws}
use Rattle.mq_wire.specs.Reading.{LengthLaws}
use Rattle.mq_topic.specs.Topic.{IsTopicName, IsTopicFilter, is_topic_name, is_topic_filter}
use Rattle.mq_packet.specs.Identifier.{IsIdentifier}
use Rattle.mq_packet.specs.Values.{IsBinary}
use Rattle.mq_decode.specs.declared.fault.FaultKind.TheVariants.{PastEnd, NotTopicName, NotTopicFilter, ZeroIdentifier}
use Rattle.mq_decode.specs.declared.fault.BadField.{BadField}
use Rattle.mq_decode.specs.Gives.{◌>>=◌}
use Rattle.mq_decode.specs.Fields.{bad_at, number_at, identifier_at, text_field, text_at, name_at, filter_at, binary_at, end_at}

-- the laws of mq_wire
pub record Wire : Type 0 where
  pub numbers : NumberLaws
  pub texts : TextLaws
  pub lengths : LengthLaws

-- ---- steps

-- the value of a step that did not fail
pub bind_ok : {A B : Type 0} (r : Result A BadField) (f : A → Result B BadField) (y : B) → (r >>= f) ≡ Ok y → (x : A) × (r ≡ Ok x) × (f x ≡ Ok y)
bind_ok (Ok x) f y e = (x, refl, e)
bind_ok (Err d) f y e = absurd cc

-- a test that did not fail
pub guard_ok : {A : Type 0} (b : Bool) (d : BadField) (x y : A) → cond b (Err d) (Ok x) ≡ Ok y → (b ≡ false) × (x ≡ y)
guard_ok true d x y e = absurd cc
guard_ok false d x y e = (refl, cc)

-- a test that passed
pub test_ok : {A : Type 0} (b : Bool) (d : BadField) (x y : A) → cond b (Ok x) (Err d) ≡ Ok y → (b ≡ true) × (x ≡ y)
test_ok true d x y e = (refl, cc)
test_ok false d x y e = absurd cc

-- a reading that succeeds
abbrev pub done : {A : Type 0} → A → Result A BadField
done x = Ok x

pub ok_is : {A : Type 0} (x y : A) → done x ≡ done y → x ≡ y
ok_is x y e = cc

-- ---- bytes

pub AreBytes-drop : (n : ℕ) (bytes : List ℕ) → AreBytes bytes → AreBytes (drop n bytes)
AreBytes-drop n bytes h i = rw get_or-drop (h (n + i))

pub AreBytes-rest : (front rest : List ℕ) → AreBytes (front ++ rest) → AreBytes rest
AreBytes-rest front rest h = subst AreBytes (drop-append_seam front rest) (AreBytes-drop (length front) (front ++ rest) h)

-- A field was read from the front: its encoding comes first, and the rest are bytes.
pub record Takes (bytes text rest : List ℕ) : Type 0 where
  pub parts : bytes ≡ text ++ rest
  pub rest_bytes : AreBytes rest

pub takes : (bytes text rest : List ℕ) → AreBytes bytes → bytes ≡ text ++ rest → Takes bytes text rest
takes bytes text rest h parts = record { parts = parts; rest_bytes = AreBytes-rest text rest (subst AreBytes parts h) }

-- one field, and then another
pub Takes-then : {a b c : List ℕ} (x y : List ℕ) → Takes a x b → Takes b y c → Takes a (x ++ y) c
Takes-then {c = c} x y p q = record { parts = p.parts ∙ (ap (λ (t : List ℕ). x ++ t) q.parts ∙ sym (append_assoc x y c)); rest_bytes = q.rest_bytes }

-- ---- two bytes

pub number_found : (w : Wire) (bytes : List ℕ) (n : ℕ) (rest : List ℕ) → AreBytes bytes → number_at bytes ≡ Ok (n, rest) → Takes bytes (number n) rest × (n < 65536)
unfolding number_at
number_found w bytes n rest h e =
    let g = guard_ok (ltb (length bytes) 2) (bad_at PastEnd bytes) (number_in bytes 0, drop 2 bytes) (n, rest) e in
    let two : 2 ≤ length bytes = ltb-false _ _ g.0 in
    let n_is : number_in bytes 0 ≡ n = ap (λ (p : ℕ × List ℕ). p.0) g.1 in
    let rest_is : drop 2 bytes ≡ rest = ap (λ (p : ℕ × List ℕ). p.1) g.1 in
    (takes bytes (number n) rest h (rw (← n_is, ← rest_is) (w.numbers.found bytes h two)), rw (← n_is) (w.numbers.below bytes 0 h))

pub number_again : (w : Wire) (n : ℕ) (rest : List ℕ) → number_at (number n ++ rest) ≡ Ok (n, rest)
unfolding number_at
number_again w n rest =
    let long : ltb (length (number n ++ rest)) 2 ≡ false = le-ltb _ _ (omega arith) in
    rw (long, w.numbers.again n rest) refl

-- ---- a packet identifier

pub identifier_found : (w : Wire) (bytes : List ℕ) (id : ℕ) (rest : List ℕ) → AreBytes bytes → identifier_at bytes ≡ Ok (id, rest) → Takes bytes (number id) rest × IsIdentifier id
unfolding identifier_at
identifier_found w bytes id rest h e =
    let b = bind_ok (number_at bytes) (λ n. cond (eqb n.0 0) (Err (bad_at ZeroIdentifier bytes)) (Ok n)) (id, rest) e in
    let g = guard_ok (eqb b.0.0 0) (bad_at ZeroIdentifier bytes) b.0 (id, rest) b.2 in
    let n = number_found w bytes b.0.0 b.0.1 h b.1 in
    let not_zero = eqb-false b.0.0 0 g.0 in
    let lt : b.0.0 < 65536 = n.1 in
    let is : IsIdentifier b.0.0 = (omega arith, lt) in
    subst (λ (x : ℕ × List ℕ). Takes bytes (number x.0) x.1 × IsIdentifier x.0) g.1 (n.0, is)

pub identifier_again : (w : Wire) (id : ℕ) (rest : List ℕ) → IsIdentifier id → identifier_at (number id ++ rest) ≡ Ok (id, rest)
unfolding identifier_at
identifier_again w id rest is =
    let some : eqb id 0 ≡ false = ne_eqb id 0 (λ e. absurd (omega arith)) in
    rw (number_again w id rest, some) refl

-- ---- a text

field_ok : (bytes : List ℕ) (r : Result (List ℕ × ℕ) FieldFault) (y : List ℕ × List ℕ) → text_field bytes r ≡ Ok y → (t : List ℕ × ℕ) × (r ≡ Ok t) × ((t.0, drop t.1 bytes) ≡ y)
field_ok bytes (Ok t) y e = (t, refl, cc)
field_ok bytes (Err fault) y e = absurd cc

pub text_found : (w : Wire) (bytes t rest : List ℕ) → AreBytes bytes → text_at bytes ≡ Ok (t, rest) → Takes bytes (counted t) rest × IsText t
unfolding text_at
text_found w bytes t rest h e =
    let f = field_ok bytes (read_text bytes 0) (t, rest) e in
    let l = w.texts.found bytes 0 f.0.0 f.0.1 h f.1 in
    subst (λ (x : List ℕ × List ℕ). Takes bytes (counted x.0) x.1 × IsText x.0) f.2 (takes bytes (counted f.0.0) (drop f.0.1 bytes) h l.3, l.0)

pub text_again : (w : Wire) (t rest : List ℕ) → IsText t → text_at (counted t ++ rest) ≡ Ok (t, rest)
unfolding text_at
text_again w t rest is =
    let back : drop (2 + length t) (counted t ++ rest) ≡ rest = drop_at (counted t) rest (2 + length t) (omega arith) in
    let two : 0 + 2 + length t ≡ 2 + length t = omega arith in
    let read = w.texts.again [] t rest is in
    rw (read, two, back) refl

-- ---- a topic name, a topic filter

pub name_found : (w : Wire) (bytes t rest : List ℕ) → AreBytes bytes → name_at bytes ≡ Ok (t, rest) → Takes bytes (counted t) rest × IsTopicName t
unfolding name_at
name_found w bytes t rest h e =
    let b = bind_ok (text_at bytes) (λ x. cond (is_topic_name x.0) (Ok x) (Err (bad_at NotTopicName bytes))) (t, rest) e in
    let g = test_ok (is_topic_name b.0.0) (bad_at NotTopicName bytes) b.0 (t, rest) b.2 in
    let l = text_found w bytes b.0.0 b.0.1 h b.1 in
    subst (λ (x : List ℕ × List ℕ). Takes bytes (counted x.0) x.1 × IsTopicName x.0) g.1 (l.0, record { text = l.1; name = g.0 })

pub name_again : (w : Wire) (t rest : List ℕ) → IsTopicName t → name_at (counted t ++ rest) ≡ Ok (t, rest)
unfolding name_at
name_again w t rest is = rw (text_again w t rest is.text, is.name) refl

pub filter_found : (w : Wire) (bytes t rest : List ℕ) → AreBytes bytes → filter_at bytes ≡ Ok (t, rest) → Takes bytes (counted t) rest × IsTopicFilter t
unfolding filter_at
filter_found w bytes t rest h e =
    let b = bind_ok (text_at bytes) (λ x. cond (is_topic_filter x.0) (Ok x) (Err (bad_at NotTopicFilter bytes))) (t, rest) e in
    let g = test_ok (is_topic_filter b.0.0) (bad_at NotTopicFilter bytes) b.0 (t, rest) b.2 in
    let l = text_found w bytes b.0.0 b.0.1 h b.1 in
    subst (λ (x : List ℕ × List ℕ). Takes bytes (counted x.0) x.1 × IsTopicFilter x.0) g.1 (l.0, record { text = l.1; filter = g.0 })

pub filter_again : (w : Wire) (t rest : List ℕ) → IsTopicFilter t → filter_at (counted t ++ rest) ≡ Ok (t, rest)
unfolding filter_at
filter_again w t rest is = rw (text_again w t rest is.text, is.filter) refl

-- ---- a binary

pub binary_found : (w : Wire) (bytes t rest : List ℕ) → AreBytes bytes → binary_at bytes ≡ Ok (t, rest) → Takes bytes (counted t) rest × IsBinary t
unfolding binary_at
binary_found w bytes t rest h e =
    let b = bind_ok (number_at bytes) (λ n. cond (ltb (length n.1) n.0) (Err (bad_at PastEnd bytes)) (Ok (take n.0 n.1, drop n.0 n.1))) (t, rest) e in
    let n = b.0.0 in
    let behind = b.0.1 in
    let g = guard_ok (ltb (length behind) n) (bad_at PastEnd bytes) (take n behind, drop n behind) (t, rest) b.2 in
    let l = number_found w bytes n behind h b.1 in
    let fits : n ≤ length behind = ltb-false _ _ g.0 in
    let len : length (take n behind) ≡ n = omega (arith, length-take n behind) in
    let second = takes behind (take n behind) (drop n behind) l.0.rest_bytes (sym (take-append-drop n behind)) in
    let both : Takes bytes (number n ++ take n behind) (drop n behind) = Takes-then (number n) (take n behind) l.0 second in
    let whole : Takes bytes (counted (take n behind)) (drop n behind) = subst (λ (k : ℕ). Takes bytes (number k ++ take n behind) (drop n behind)) (sym len) both in
    subst (λ (x : List ℕ × List ℕ). Takes bytes (counted x.0) x.1 × IsBinary x.0) g.1 (whole, rw len l.1)

pub binary_again : (w : Wire) (t rest : List ℕ) → IsBinary t → binary_at (counted t ++ rest) ≡ Ok (t, rest)
unfolding binary_at
binary_again w t rest is =
    let long : ltb (length (t ++ rest)) (length t) ≡ false = le-ltb _ _ (omega (arith, length-append t rest)) in
    rw (number_again w (length t) (t ++ rest), long, take_at t rest (length t) refl, drop_at t rest (length t) refl) refl

-- ---- the end

pub end_found : (bytes : List ℕ) (end : Unit {0}) → end_at bytes ≡ Ok end → bytes ≡ []
end_found [] end e = refl
end_found (b ∷ bytes) end e = absurd cc
