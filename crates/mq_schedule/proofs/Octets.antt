-- Lists of bytes.
use Rattle.std.proofs.Common.{◌≡◌, ℕ, zero, suc, ◌+◌, ◌/◌, ◌<◌, Bool, true, false, cond, List, [], ◌∷◌, ◌++◌, IsUtf8, refl, subst, inl, inr, ltb, ltb-true, arith}
use Rattle.std.proofs.lemmas.Bool.{and_parts}
use Rattle.std.proofs.lemmas.Str.{IsUtf8-from_is_utf8}
use lib.Utf8.{scalar, scalars, scalar_cases, encode, encodes, next}
use Rattle.hex.specs.Hex.{IsBytes}
use Rattle.mq_topic.specs.Topic.{IsTopicName}

-- no bytes
pub bytes_nil : IsBytes []
bytes_nil i = omega arith

-- one byte in front
pub bytes_cons : (b : ℕ) (bytes : List ℕ) → b < 256 → IsBytes bytes → IsBytes (b ∷ bytes)
bytes_cons b bytes small h zero = small
bytes_cons b bytes small h (suc i) = h i

-- bytes after bytes
pub bytes_append : (a b : List ℕ) → IsBytes a → IsBytes b → IsBytes (a ++ b)
bytes_append [] b h k = k
bytes_append (x ∷ a) b h k = bytes_cons x (a ++ b) (h 0) (bytes_append a b (λ i. h (suc i)) k)

-- A character is encoded as bytes.
char_bytes : (c : ℕ) → c < 1114112 → IsBytes (encode c)
unfolding encode
char_bytes c small = by_length (ltb c 128) (ltb c 2048) (ltb c 65536) refl refl refl
  where
    by_length : (x y z : Bool) → ltb c 128 ≡ x → ltb c 2048 ≡ y → ltb c 65536 ≡ z
        → IsBytes (cond x (c ∷ []) (cond y ((192 + c / 64) ∷ next c ∷ []) (cond z ((224 + c / 4096) ∷ next (c / 64) ∷ next c ∷ []) ((240 + c / 262144) ∷ next (c / 4096) ∷ next (c / 64) ∷ next c ∷ []))))
    by_length true y z h k l = bytes_cons c [] (omega (arith, ltb-true c 128 h)) bytes_nil
    by_length false true z h k l = bytes_cons (192 + c / 64) (next c ∷ []) (omega (arith, ltb-true c 2048 k)) (bytes_cons (next c) [] (omega arith) bytes_nil)
    by_length false false true h k l =
        bytes_cons (224 + c / 4096) (next (c / 64) ∷ next c ∷ []) (omega (arith, ltb-true c 65536 l)) (bytes_cons (next (c / 64)) (next c ∷ []) (omega arith) (bytes_cons (next c) [] (omega arith) bytes_nil))
    by_length false false false h k l =
        bytes_cons (240 + c / 262144) (next (c / 4096) ∷ next (c / 64) ∷ next c ∷ []) (omega arith)
        (bytes_cons (next (c / 4096)) (next (c / 64) ∷ next c ∷ []) (omega arith) (bytes_cons (next (c / 64)) (next c ∷ []) (omega arith) (bytes_cons (next c) [] (omega arith) bytes_nil)))

-- a character is below 0x110000
scalar_small : (c : ℕ) → scalar c ≡ true → c < 1114112
scalar_small c h = elim (scalar_cases c h) [ inl low ↦ omega (arith, low) | inr high ↦ high.1 ]

-- characters are encoded by bytes
chars_bytes : (cs : List ℕ) → scalars cs ≡ true → IsBytes (encodes cs)
chars_bytes [] h = bytes_nil
chars_bytes (c ∷ cs) h =
    let parts = and_parts (scalar c) (scalars cs) h in
    bytes_append (encode c) (encodes cs) (char_bytes c (scalar_small c parts.0)) (chars_bytes cs parts.1)

-- a text is of bytes
pub utf8_bytes : (t : List ℕ) → IsUtf8 t → IsBytes t
utf8_bytes t h = subst IsBytes h.1.1 (chars_bytes h.0 h.1.0)

-- a topic name is a text
pub name_utf8 : (t : List ℕ) → IsTopicName t → IsUtf8 t
name_utf8 t h = IsUtf8-from_is_utf8 t h.text.utf8

-- a topic name is of bytes
pub name_bytes : (t : List ℕ) → IsTopicName t → IsBytes t
name_bytes t h = utf8_bytes t (name_utf8 t h)
