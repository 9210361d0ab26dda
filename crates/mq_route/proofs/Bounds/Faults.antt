-- A CONNECT with another protocol level takes at least four bytes.
use Rattle.std.proofs.Common.{◌≡◌, ℕ, ◌/◌, ◌%◌, ◌≤◌, Bool, true, false, not, cond, eqb, ltb, List, [], ◌∷◌, ◌++◌, length, Option, Some, None, Result, Ok, Err, IfOk, refl, sym, ap, subst, ◌∙◌, arith}
use Rattle.std.proofs.lemmas.List.{length-append}
use Rattle.mq_wire.specs.TextReading.{read_text}
use Rattle.mq_topic.specs.declared.qos.Qos.{Qos}
use Rattle.mq_topic.specs.Qos.{qos_from}
use Rattle.mq_decode.specs.declared.fault.FaultKind.{FaultKind}
use Rattle.mq_decode.specs.declared.fault.FaultKind.TheVariants.{ProtocolLevel, WrongFlags, WrongSize, OverLimit, DupWithoutDelivery}
use Rattle.mq_decode.specs.Limits.{Bounds}
use Rattle.mq_decode.specs.Grammar.{Faulty, AtFirst, AtLength, AtSize, AtField, BadLength}
use Rattle.mq_decode.specs.Kind.{publish_of, dup_fits, type_and_flags, kind_at, fixed_size, wrong_size}
use Rattle.mq_decode.specs.Fields.{number_at, identifier_at, text_at, name_at}
use Rattle.mq_decode.specs.Lists.{list_with}
use Rattle.mq_decode.specs.Bodies.{connack_at, publish_at, only_identifier_at, body_at}
use Rattle.mq_decode.specs.Connects.{protocol_at, connect_at}
use Rattle.mq_end.specs.State.{is_level}
use Rattle.mq_route.proofs.Bounds.Lengths.{some_length}

-- ---- the first byte

-- a result is no fault of the protocol level
abbrev pub is_other : {A : Type 0} → Result A FaultKind → Bool
is_other (Ok x) = true
is_other (Err k) = not (is_level k)

either : {A : Type 0} (b : Bool) (x y : Result A FaultKind) → is_other x ≡ true → is_other y ≡ true → is_other (cond b x y) ≡ true
either true x y h k = h
either false x y h k = k

published : (dup : Bool) (q : Option Qos) (retain : Bool) → is_other (publish_of dup q retain) ≡ true
published dup None retain = refl
published dup (Some q) retain = either (dup_fits dup q) _ (Err DupWithoutDelivery) refl refl

flagged : {A : Type 0} (flags low : ℕ) (x : A) → is_other (cond (eqb low flags) (Ok x) (Err WrongFlags)) ≡ true
flagged flags low x = either (eqb low flags) (Ok x) (Err WrongFlags) refl refl

-- no first byte has this fault
first_other : (upper low : ℕ) → is_other (type_and_flags upper low) ≡ true
first_other upper low =
    either (eqb upper 1) _ _ (flagged 0 low _) (
    either (eqb upper 2) _ _ (flagged 0 low _) (
    either (eqb upper 3) _ _ (published (eqb (low / 8) 1) (qos_from (low / 2 % 4)) (eqb (low % 2) 1)) (
    either (eqb upper 4) _ _ (flagged 0 low _) (
    either (eqb upper 5) _ _ (flagged 0 low _) (
    either (eqb upper 6) _ _ (flagged 2 low _) (
    either (eqb upper 7) _ _ (flagged 0 low _) (
    either (eqb upper 8) _ _ (flagged 2 low _) (
    either (eqb upper 9) _ _ (flagged 0 low _) (
    either (eqb upper 10) _ _ (flagged 2 low _) (
    either (eqb upper 11) _ _ (flagged 0 low _) (
    either (eqb upper 12) _ _ (flagged 0 low _) (
    either (eqb upper 13) _ _ (flagged 0 low _) (
    either (eqb upper 14) _ _ (flagged 0 low _) refl)))))))))))))

-- ---- the remaining length

wrong : (o : Option ℕ) (n : ℕ) → wrong_size o n ≡ Some ProtocolLevel → ⊥
wrong None n h = cc
wrong (Some size) n h = by (eqb n size) h
  where
    by : (b : Bool) → cond b None (Some WrongSize) ≡ Some ProtocolLevel → ⊥
    by true h = cc
    by false h = cc

-- no size has this fault
sized : (over : Bool) (o : Option ℕ) (n : ℕ) → cond over (Some OverLimit) (wrong_size o n) ≡ Some ProtocolLevel → ⊥
sized true o n h = cc
sized false o n h = wrong o n h

-- ---- the fields

-- reading stops at this fault
abbrev pub stops : {A B : Type 0} → Result A B → (B → Bool) → Bool
stops (Ok x) f = false
stops (Err bad) f = f bad

same_stop : {A B : Type 0} (x y : Result A B) (f : B → Bool) → x ≡ y → stops x f ≡ stops y f
same_stop {A = A} {B = B} x y f e = ap (λ (r : Result A B). stops r f) e

where_ok : {A : Type 0} (b : Bool) (x y : Result A FaultKind) (P : A → Type 0) → IfOk x P → IfOk y P → IfOk (cond b x y) P
where_ok true x y P h k = h
where_ok false x y P h k = k

-- no body without a byte has this fault
no_publish : (dup : Bool) (q : Option Qos) (retain : Bool) → IfOk (publish_of dup q retain) (λ kind. stops (body_at kind []) (λ bad. is_level bad.kind) ≡ false)
unfolding connect_at protocol_at text_at read_text connack_at publish_at name_at only_identifier_at identifier_at number_at list_with
no_publish dup None retain = tt
no_publish dup (Some q) retain = where_ok (dup_fits dup q) _ _ _ refl tt

no_body : (upper low : ℕ) → IfOk (type_and_flags upper low) (λ kind. stops (body_at kind []) (λ bad. is_level bad.kind) ≡ false)
unfolding connect_at protocol_at text_at read_text connack_at publish_at name_at only_identifier_at identifier_at number_at list_with
no_body upper low =
    where_ok (eqb upper 1) _ _ _ (where_ok (eqb low 0) _ _ _ refl tt) (
    where_ok (eqb upper 2) _ _ _ (where_ok (eqb low 0) _ _ _ refl tt) (
    where_ok (eqb upper 3) _ _ _ (no_publish (eqb (low / 8) 1) (qos_from (low / 2 % 4)) (eqb (low % 2) 1)) (
    where_ok (eqb upper 4) _ _ _ (where_ok (eqb low 0) _ _ _ refl tt) (
    where_ok (eqb upper 5) _ _ _ (where_ok (eqb low 0) _ _ _ refl tt) (
    where_ok (eqb upper 6) _ _ _ (where_ok (eqb low 2) _ _ _ refl tt) (
    where_ok (eqb upper 7) _ _ _ (where_ok (eqb low 0) _ _ _ refl tt) (
    where_ok (eqb upper 8) _ _ _ (where_ok (eqb low 2) _ _ _ refl tt) (
    where_ok (eqb upper 9) _ _ _ (where_ok (eqb low 0) _ _ _ refl tt) (
    where_ok (eqb upper 10) _ _ _ (where_ok (eqb low 2) _ _ _ refl tt) (
    where_ok (eqb upper 11) _ _ _ (where_ok (eqb low 0) _ _ _ refl tt) (
    where_ok (eqb upper 12) _ _ _ (where_ok (eqb low 0) _ _ _ refl tt) (
    where_ok (eqb upper 13) _ _ _ (where_ok (eqb low 0) _ _ _ refl tt) (
    where_ok (eqb upper 14) _ _ _ (where_ok (eqb low 0) _ _ _ refl tt) tt)))))))))))))

-- no body of one byte has it
one_publish : (x : ℕ) (dup : Bool) (q : Option Qos) (retain : Bool) → IfOk (publish_of dup q retain) (λ kind. stops (body_at kind (x ∷ [])) (λ bad. is_level bad.kind) ≡ false)
unfolding connect_at protocol_at text_at read_text connack_at publish_at name_at only_identifier_at identifier_at number_at list_with
one_publish x dup None retain = tt
one_publish x dup (Some q) retain = where_ok (dup_fits dup q) _ _ _ refl tt

one_connack : (x low : ℕ) → IfOk (type_and_flags 2 low) (λ kind. stops (body_at kind (x ∷ [])) (λ bad. is_level bad.kind) ≡ false)
unfolding connack_at
one_connack x low = by (eqb x 0) (eqb x 1) refl refl
  where
    by : (b c : Bool) → eqb x 0 ≡ b → eqb x 1 ≡ c → IfOk (type_and_flags 2 low) (λ kind. stops (body_at kind (x ∷ [])) (λ bad. is_level bad.kind) ≡ false)
    by true c e f = where_ok (eqb low 0) _ _ _ (rw e refl) tt
    by false true e f = where_ok (eqb low 0) _ _ _ (rw (e, f) refl) tt
    by false false e f = where_ok (eqb low 0) _ _ _ (rw (e, f) refl) tt

one_body : (x upper low : ℕ) → IfOk (type_and_flags upper low) (λ kind. stops (body_at kind (x ∷ [])) (λ bad. is_level bad.kind) ≡ false)
unfolding connect_at protocol_at text_at read_text connack_at publish_at name_at only_identifier_at identifier_at number_at list_with
one_body x upper low =
    where_ok (eqb upper 1) _ _ _ (where_ok (eqb low 0) _ _ _ refl tt) (
    where_ok (eqb upper 2) _ _ _ (one_connack x low) (
    where_ok (eqb upper 3) _ _ _ (one_publish x (eqb (low / 8) 1) (qos_from (low / 2 % 4)) (eqb (low % 2) 1)) (
    where_ok (eqb upper 4) _ _ _ (where_ok (eqb low 0) _ _ _ refl tt) (
    where_ok (eqb upper 5) _ _ _ (where_ok (eqb low 0) _ _ _ refl tt) (
    where_ok (eqb upper 6) _ _ _ (where_ok (eqb low 2) _ _ _ refl tt) (
    where_ok (eqb upper 7) _ _ _ (where_ok (eqb low 0) _ _ _ refl tt) (
    where_ok (eqb upper 8) _ _ _ (where_ok (eqb low 2) _ _ _ refl tt) (
    where_ok (eqb upper 9) _ _ _ (where_ok (eqb low 0) _ _ _ refl tt) (
    where_ok (eqb upper 10) _ _ _ (where_ok (eqb low 2) _ _ _ refl tt) (
    where_ok (eqb upper 11) _ _ _ (where_ok (eqb low 0) _ _ _ refl tt) (
    where_ok (eqb upper 12) _ _ _ (where_ok (eqb low 0) _ _ _ refl tt) (
    where_ok (eqb upper 13) _ _ _ (where_ok (eqb low 0) _ _ _ refl tt) (
    where_ok (eqb upper 14) _ _ _ (where_ok (eqb low 0) _ _ _ refl tt) tt)))))))))))))

-- ---- bytes with this fault

not_both : {A B : Type 0} (r : Result A B) (x : A) (f : A → Bool) → r ≡ Ok x → IfOk r (λ y. f y ≡ false) → f x ≡ true → ⊥
not_both {A = A} {B = B} r x f is h k =
    let g : f x ≡ false = subst (λ (r : Result A B). IfOk r (λ y. f y ≡ false)) is h in
    let e : true ≡ false = sym k ∙ g in
    cc

level_is : (k : FaultKind) → is_level k ≡ true → k ≡ ProtocolLevel
level_is ProtocolLevel h = refl
level_is k h = absurd cc

pub level_size : (limits : Bounds) (b : List ℕ) (k : FaultKind) (place : ℕ) → is_level k ≡ true → Faulty limits b k place → 4 ≤ length b
level_size limits b k place level (AtFirst h) = absurd (by (kind_at h.first) (first_other (h.first / 16) (h.first % 16)) (h.fault ∙ ap Err (level_is k level)))
  where
    by : {A : Type 0} (r : Result A FaultKind) → is_other r ≡ true → r ≡ Err ProtocolLevel → ⊥
    by {A = A} r o e =
        let g : true ≡ false = sym o ∙ ap (λ (r : Result A FaultKind). is_other r) e in
        cc
level_size limits b k place level (AtLength h) = absurd (subst (λ (k : FaultKind). BadLength limits h.rest k place) (level_is k level) h.fault)
level_size limits b k place level (AtSize h) = absurd (sized (ltb limits.most h.n) (fixed_size h.kind) h.n (h.fault ∙ ap Some (level_is k level)))
level_size limits b k place level (AtField h) =
    let all = ap length h.bytes ∙ length-append (h.first ∷ h.len) (h.body ++ h.rest) in
    let parts = length-append h.body h.rest in
    let some = some_length limits.lenient (length h.body) h.len h.formed in
    let two = go h.body refl in
    omega arith
  where
    fault : (body : List ℕ) → body ≡ h.body → stops (body_at h.kind body) (λ bad. is_level bad.kind) ≡ true
    fault body e = ap (λ (t : List ℕ). stops (body_at h.kind t) (λ bad. is_level bad.kind)) e ∙ same_stop (body_at h.kind h.body) _ (λ bad. is_level bad.kind) h.fault ∙ level

    go : (body : List ℕ) → body ≡ h.body → 2 ≤ length h.body
    go [] e = absurd (not_both (kind_at h.first) h.kind (λ kind. stops (body_at kind []) (λ bad. is_level bad.kind)) h.right (no_body (h.first / 16) (h.first % 16)) (fault [] e))
    go (x ∷ []) e = absurd (not_both (kind_at h.first) h.kind (λ kind. stops (body_at kind (x ∷ [])) (λ bad. is_level bad.kind)) h.right (one_body x (h.first / 16) (h.first % 16)) (fault (x ∷ []) e))
    go (x ∷ y ∷ more) e = let size = ap length e in omega arith
