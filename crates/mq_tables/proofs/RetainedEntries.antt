-- The table of retained messages: its entries by name, and the messages among them.
use Rattle.std.proofs.Common.{◌≡◌, ℕ, Bool, true, false, cond, not, ◌||◌, List, [], ◌∷◌, ◌++◌, map, filter, Result, Ok, Err, IsOk, refl, sym, ap, subst, ◌∙◌, append_assoc, append-nil}
use Rattle.std.proofs.lemmas.Bool.{cond-true, cond-false}
use Rattle.std.specs.List.{AllByRecursion, IsDistinct, list_any}
use Rattle.std.specs.Map.{keys_of, remove_entry}
use Rattle.std.specs.Result.{OnOk}
use Rattle.std.specs.Str.{bytes_eq}
use Rattle.indexmap.specs.IndexMap.{insert_entry}
use Rattle.mq_topic.specs.declared.qos.Qos.{Qos}
use Rattle.mq_topic.specs.Matching.{is_match}
use Rattle.mq_packet.specs.declared.message.Message.{Message}
use Rattle.mq_route.specs.Copies.{is_hidden_name, is_of, kept, replaced, copy, retained_for}
use Rattle.mq_tables.proofs.ByteLists.{same_bytes, bytes_symm}

-- an entry is stored under the name of its message
abbrev pub IsNamed : List ℕ × Message → Type 0
IsNamed e = e.0 ≡ e.1.topic

abbrev pub AreNamed : List (List ℕ × Message) → Type 0
AreNamed es = AllByRecursion IsNamed es

abbrev pub messages_of : List (List ℕ × Message) → List Message
messages_of es = map (λ e. e.1) es

-- messages have other names than this
abbrev AreOther : List ℕ → List Message → Type 0
AreOther name ms = AllByRecursion (λ m. is_of name m ≡ false) ms

other_names : (name : List ℕ) (es : List (List ℕ × Message)) → AreNamed es → AllByRecursion (λ k. bytes_eq name k ≡ false) (keys_of es) → AreOther name (messages_of es)
other_names name [] named apart = tt
other_names name (e ∷ es) named apart =
    (bytes_symm e.1.topic name ∙ subst (λ (k : List ℕ). bytes_eq name k ≡ false) named.0 apart.0, other_names name es named.1 apart.1)

any_other : (name : List ℕ) (ms : List Message) → AreOther name ms → list_any (is_of name) ms ≡ false
any_other name [] apart = refl
any_other name (m ∷ ms) apart = rw apart.0 (any_other name ms apart.1)

replaced_other : (m : Message) (ms : List Message) → AreOther m.topic ms → replaced m ms ≡ ms
replaced_other m [] apart = refl
replaced_other m (r ∷ ms) apart = λ i. cond-false (is_of m.topic r) m r apart.0 i ∷ replaced_other m ms apart.1 i

filter_other : (name : List ℕ) (ms : List Message) → AreOther name ms → filter (λ r. not (is_of name r)) ms ≡ ms
filter_other name [] apart = refl
filter_other name (m ∷ ms) apart = rw apart.0 (ap (λ (rs : List Message). m ∷ rs) (filter_other name ms apart.1))

-- the first entry has the name: no other has
others : (name : List ℕ) (e : List ℕ × Message) (es : List (List ℕ × Message)) → bytes_eq name e.0 ≡ true → AreNamed (e ∷ es) → IsDistinct bytes_eq (keys_of (e ∷ es)) → AreOther name (messages_of es)
unfolding IsDistinct
others name e es same named distinct =
    other_names name es named.1 (subst (λ (k : List ℕ). AllByRecursion (λ q. bytes_eq k q ≡ false) (keys_of es)) (sym (same_bytes name e.0 same)) distinct.0)

is_first : (name : List ℕ) (e : List ℕ × Message) (b : Bool) → IsNamed e → bytes_eq name e.0 ≡ b → is_of name e.1 ≡ b
is_first name e b named same = bytes_symm e.1.topic name ∙ ap (bytes_eq name) (sym named) ∙ same

push_cond : (b : Bool) (m : Message) (xs ys : List Message) → m ∷ cond b xs ys ≡ cond b (m ∷ xs) (m ∷ ys)
push_cond true m xs ys = refl
push_cond false m xs ys = refl

-- a message replaces the one of its name, or is appended
pub inserted : (m : Message) (es : List (List ℕ × Message)) → AreNamed es → IsDistinct bytes_eq (keys_of es)
    → messages_of (insert_entry bytes_eq es m.topic m)
    ≡ cond (list_any (is_of m.topic) (messages_of es)) (replaced m (messages_of es)) (messages_of es ++ m ∷ [])
unfolding IsDistinct
inserted m [] named distinct = refl
inserted m (e ∷ es) named distinct = go (bytes_eq m.topic e.0) refl (inserted m es named.1 distinct.1)
  where
    go : (b : Bool) → bytes_eq m.topic e.0 ≡ b
        → messages_of (insert_entry bytes_eq es m.topic m) ≡ cond (list_any (is_of m.topic) (messages_of es)) (replaced m (messages_of es)) (messages_of es ++ m ∷ [])
        → messages_of (insert_entry bytes_eq (e ∷ es) m.topic m)
        ≡ cond (list_any (is_of m.topic) (messages_of (e ∷ es))) (replaced m (messages_of (e ∷ es))) (messages_of (e ∷ es) ++ m ∷ [])
    go true same rest =
        let there = is_first m.topic e true named.0 same in
        rw (same, there) (ap (λ (ms : List Message). m ∷ ms) (sym (replaced_other m (messages_of es) (others m.topic e es same named distinct))))
    go false same rest =
        let apart = is_first m.topic e false named.0 same in
        rw (same, apart) (ap (λ (ms : List Message). e.1 ∷ ms) rest ∙ push_cond (list_any (is_of m.topic) (messages_of es)) e.1 (replaced m (messages_of es)) (messages_of es ++ m ∷ []))

-- it is stored under its name then
pub inserted_named : (m : Message) (es : List (List ℕ × Message)) → AreNamed es → AreNamed (insert_entry bytes_eq es m.topic m)
inserted_named m [] named = (refl, tt)
inserted_named m (e ∷ es) named = go (bytes_eq m.topic e.0) refl (inserted_named m es named.1)
  where
    go : (b : Bool) → bytes_eq m.topic e.0 ≡ b → AreNamed (insert_entry bytes_eq es m.topic m) → AreNamed (insert_entry bytes_eq (e ∷ es) m.topic m)
    go true same rest = rw same (sym (same_bytes m.topic e.0 same), named.1)
    go false same rest = rw same (named.0, rest)

-- the message of a name is removed
pub removed : (name : List ℕ) (es : List (List ℕ × Message)) → AreNamed es → IsDistinct bytes_eq (keys_of es)
    → messages_of (remove_entry (bytes_eq name) es) ≡ filter (λ r. not (is_of name r)) (messages_of es)
unfolding IsDistinct
removed name [] named distinct = refl
removed name (e ∷ es) named distinct = go (bytes_eq name e.0) refl (removed name es named.1 distinct.1)
  where
    go : (b : Bool) → bytes_eq name e.0 ≡ b
        → messages_of (remove_entry (bytes_eq name) es) ≡ filter (λ r. not (is_of name r)) (messages_of es)
        → messages_of (remove_entry (bytes_eq name) (e ∷ es)) ≡ filter (λ r. not (is_of name r)) (messages_of (e ∷ es))
    go true same rest =
        let there = is_first name e true named.0 same in
        rw (same, there) (sym (filter_other name (messages_of es) (others name e es same named distinct)))
    go false same rest =
        let apart = is_first name e false named.0 same in
        rw (same, apart) (ap (λ (ms : List Message). e.1 ∷ ms) rest)

pub removed_named : (name : List ℕ) (es : List (List ℕ × Message)) → AreNamed es → AreNamed (remove_entry (bytes_eq name) es)
removed_named name [] named = tt
removed_named name (e ∷ es) named = go (bytes_eq name e.0) (removed_named name es named.1)
  where
    go : (b : Bool) → AreNamed (remove_entry (bytes_eq name) es) → AreNamed (cond b es (e ∷ remove_entry (bytes_eq name) es))
    go true rest = named.1
    go false rest = (named.0, rest)

-- the result of a call that cannot fail
pub entries_in : {X E : Type 0} (P : Type 0) (r : Result X E) → IsOk r → OnOk r P → P
entries_in P (Ok x) ok on = on
entries_in P (Err e) ok on = absurd cc

-- ---- copies for a subscription

pub copied : (f : List ℕ) (q : Qos) (m : Message) (done ms : List Message) → is_match f m.topic ≡ true
    → (done ++ copy q true m ∷ []) ++ retained_for f q ms ≡ done ++ retained_for f q (m ∷ ms)
unfolding retained_for
copied f q m done ms so = append_assoc done (copy q true m ∷ []) (retained_for f q ms) ∙ (rw so refl)

pub passed : (f : List ℕ) (q : Qos) (m : Message) (ms : List Message) → is_match f m.topic ≡ false → retained_for f q ms ≡ retained_for f q (m ∷ ms)
unfolding retained_for
passed f q m ms other = rw other refl

pub none_left : (f : List ℕ) (q : Qos) (done : List Message) → done ++ retained_for f q [] ≡ done
unfolding retained_for
none_left f q done = append-nil done

-- ---- a message of which nothing is to be retained

pub kept_nothing : (m : Message) (ms : List Message) → (not m.retain || is_hidden_name m.topic) ≡ true → ms ≡ kept m ms
unfolding kept
kept_nothing m ms e = sym (cond-true (not m.retain || is_hidden_name m.topic) ms _ e)
