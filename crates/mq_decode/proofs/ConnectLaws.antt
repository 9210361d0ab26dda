-- The laws of CONNECT: decoding and encoding are inverse to each other.
use Rattle.std.proofs.Common.{◌≡◌, ℕ, zero, suc, ◌+◌, ◌*◌, ◌/◌, ◌%◌, ◌<◌, Bool, true, false, ◌&&◌, cond, eqb, List, [], ◌∷◌, ◌++◌, Option, Some, None, Ok, Err, refl, sym, ap, subst, ◌∙◌, append_assoc, arith, inl, inr}
use Rattle.std.specs.Prelude.{IfSome}
use Rattle.std.specs.Str.{IsAscii}
use Rattle.std.proofs.lemmas.Bool.{eqb-true, eqb-false, and_parts}
use Rattle.std.proofs.lemmas.List.{append-nil}
use Rattle.std.proofs.lemmas.Str.{IsUtf8-from_ascii, is_utf8-from_IsUtf8}
use Rattle.mq_wire.specs.Bytes.{AreBytes}
use Rattle.mq_wire.specs.Number.{number}
use Rattle.mq_wire.specs.Text.{IsText, counted}
use Rattle.mq_topic.specs.declared.qos.Qos.{Qos}
use Rattle.mq_topic.specs.declared.qos.Qos.TheVariants.{Q0, Q1, Q2}
use Rattle.mq_topic.specs.Qos.{qos_number, qos_from}
use Rattle.mq_packet.specs.declared.connect.Connect.{Connect}
use Rattle.mq_packet.specs.declared.connect.Will.{Will}
use Rattle.mq_packet.specs.declared.connect.Login.{Login}
use Rattle.mq_packet.specs.Encoding.{bit, will_flags, login_flags, password_flag, connect_flags, connect_fields, will_fields, login_fields, password_fields}
use Rattle.mq_packet.specs.Values.{IsBinary, IsWill, IsLogin, IsConnect}
use Rattle.mq_decode.specs.declared.fault.FaultKind.TheVariants.{ProtocolName, ProtocolLevel}
use Rattle.mq_decode.specs.declared.flags.ConnectFlags.{ConnectFlags}
use Rattle.mq_decode.specs.declared.flags.WillFlags.{WillFlags}
use Rattle.mq_decode.specs.Gives.{◌>>=◌}
use Rattle.mq_decode.specs.Layout.{will_bits, login_bits, flags_byte}
use Rattle.mq_decode.specs.Fields.{bad_at, number_at, text_at, name_at, binary_at, end_at}
use Rattle.mq_decode.specs.Connects.{will_with, will_from, login_from, flags_with, flags_from, flags_or_fault, flags_at, is_protocol, protocol_at, level_at, will_at, password_at, login_at, connect_at}
use Rattle.mq_decode.proofs.FieldLaws.{Wire, bind_ok, test_ok, ok_is, Takes, takes, Takes-then, number_found, number_again, text_found, text_again, name_found, name_again, binary_found, binary_again, end_found}
use Rattle.mq_decode.proofs.ListLaws.{chosen, some_is, qos_exact}

-- ---- the flags

flags_none : (clean : Bool) (login : Option Bool) → flags_from (2 * bit clean + 0 + login_bits login) ≡ Some (record { clean_session = clean; will = None; password = login })
flags_none false None = refl
flags_none false (Some false) = refl
flags_none false (Some true) = refl
flags_none true None = refl
flags_none true (Some false) = refl
flags_none true (Some true) = refl

flags_some : (clean : Bool) (qos : Qos) (retain : Bool) (login : Option Bool)
    → flags_from (2 * bit clean + (4 + 8 * qos_number qos + 32 * bit retain) + login_bits login) ≡ Some (record { clean_session = clean; will = Some (record { qos = qos; retain = retain }); password = login })
flags_some false Q0 false None = refl
flags_some false Q0 false (Some false) = refl
flags_some false Q0 false (Some true) = refl
flags_some false Q0 true None = refl
flags_some false Q0 true (Some false) = refl
flags_some false Q0 true (Some true) = refl
flags_some false Q1 false None = refl
flags_some false Q1 false (Some false) = refl
flags_some false Q1 false (Some true) = refl
flags_some false Q1 true None = refl
flags_some false Q1 true (Some false) = refl
flags_some false Q1 true (Some true) = refl
flags_some false Q2 false None = refl
flags_some false Q2 false (Some false) = refl
flags_some false Q2 false (Some true) = refl
flags_some false Q2 true None = refl
flags_some false Q2 true (Some false) = refl
flags_some false Q2 true (Some true) = refl
flags_some true Q0 false None = refl
flags_some true Q0 false (Some false) = refl
flags_some true Q0 false (Some true) = refl
flags_some true Q0 true None = refl
flags_some true Q0 true (Some false) = refl
flags_some true Q0 true (Some true) = refl
flags_some true Q1 false None = refl
flags_some true Q1 false (Some false) = refl
flags_some true Q1 false (Some true) = refl
flags_some true Q1 true None = refl
flags_some true Q1 true (Some false) = refl
flags_some true Q1 true (Some true) = refl
flags_some true Q2 false None = refl
flags_some true Q2 false (Some false) = refl
flags_some true Q2 false (Some true) = refl
flags_some true Q2 true None = refl
flags_some true Q2 true (Some false) = refl
flags_some true Q2 true (Some true) = refl

flags_back : (clean : Bool) (will : Option WillFlags) (login : Option Bool) → flags_from (2 * bit clean + will_bits will + login_bits login) ≡ Some (record { clean_session = clean; will = will; password = login })
flags_back clean None login = flags_none clean login
flags_back clean (Some w) login = flags_some clean w.qos w.retain login

bit_is : (n : ℕ) → n < 2 → bit (eqb n 1) ≡ n
bit_is zero lt = refl
bit_is (suc zero) lt = refl
bit_is (suc (suc n)) lt = absurd (omega arith)

nothing_some : {A : Type 0} {a : A} → None ≡ Some a → ⊥
nothing_some e = cc

will_with_is : (q : Option Qos) (retain : Bool) (will : Option WillFlags) → will_with q retain ≡ Some will → (qos : Qos) × (q ≡ Some qos) × (will ≡ Some (record { qos = qos; retain = retain }))
will_with_is None retain will e = absurd (nothing_some e)
will_with_is (Some qos) retain will e = (qos, refl, sym (some_is e))

will_exact : (x : ℕ) (will : Option WillFlags) → x < 256 → will_from x ≡ Some will → will_bits will ≡ 4 * (x / 4 % 2) + 8 * (x / 8 % 4) + 32 * (x / 32 % 2)
will_exact x will lt e =
    elim (chosen (eqb (x / 4 % 2) 1) (will_with (qos_from (x / 8 % 4)) (eqb (x / 32 % 2) 1)) (cond (eqb (x / 8 % 8) 0) (Some None) None) (Some will) e) [
      | inl h ↦
          let w = will_with_is (qos_from (x / 8 % 4)) (eqb (x / 32 % 2) 1) will h.1 in
          let one : x / 4 % 2 ≡ 1 = eqb-true _ _ h.0 in
          let qos_is : x / 8 % 4 ≡ qos_number w.0 = qos_exact (x / 8 % 4) w.0 w.1 in
          let retain_is : bit (eqb (x / 32 % 2) 1) ≡ x / 32 % 2 = bit_is (x / 32 % 2) (omega arith) in
          rw w.2 (omega arith)
      | inr h ↦ elim (chosen (eqb (x / 8 % 8) 0) (Some None) None (Some will) h.1) [
        | inl k ↦
            let none : x / 8 % 8 ≡ 0 = eqb-true _ _ k.0 in
            let zero_is : x / 4 % 2 ≡ 1 → ⊥ = eqb-false _ _ h.0 in
            let will_is : None ≡ will = some_is k.1 in
            rw (← will_is) (omega arith)
        | inr k ↦ absurd (nothing_some k.1)
      ]
    ]

login_exact : (x : ℕ) (login : Option Bool) → x < 256 → login_from x ≡ Some login → login_bits login ≡ 64 * (x / 64 % 2) + 128 * (x / 128)
login_exact x login lt e =
    elim (chosen (eqb (x / 128) 1) (Some (Some (eqb (x / 64 % 2) 1))) (cond (eqb (x / 64 % 2) 0) (Some None) None) (Some login) e) [
      | inl h ↦
          let one : x / 128 ≡ 1 = eqb-true _ _ h.0 in
          let login_is : Some (eqb (x / 64 % 2) 1) ≡ login = some_is h.1 in
          let password_is : bit (eqb (x / 64 % 2) 1) ≡ x / 64 % 2 = bit_is (x / 64 % 2) (omega arith) in
          rw (← login_is) (omega arith)
      | inr h ↦ elim (chosen (eqb (x / 64 % 2) 0) (Some None) None (Some login) h.1) [
        | inl k ↦
            let none : x / 64 % 2 ≡ 0 = eqb-true _ _ k.0 in
            let not_one : x / 128 ≡ 1 → ⊥ = eqb-false _ _ h.0 in
            let login_is : None ≡ login = some_is k.1 in
            rw (← login_is) (omega arith)
        | inr k ↦ absurd (nothing_some k.1)
      ]
    ]

flags_parts : (clean : Bool) (will : Option (Option WillFlags)) (login : Option (Option Bool)) (f : ConnectFlags) → flags_with clean will login ≡ Some f
    → (f.clean_session ≡ clean) × (will ≡ Some f.will) × (login ≡ Some f.password)
flags_parts clean None login f e = absurd (nothing_some e)
flags_parts clean (Some will) None f e = absurd (nothing_some e)
flags_parts clean (Some will) (Some login) f e =
    let is = some_is e in
    (ap (λ (g : ConnectFlags). g.clean_session) (sym is), ap (λ (g : ConnectFlags). Some g.will) is, ap (λ (g : ConnectFlags). Some g.password) is)

flags_exact : (x : ℕ) (f : ConnectFlags) → x < 256 → flags_from x ≡ Some f → x ≡ flags_byte f
flags_exact x f lt e =
    elim (chosen (eqb (x % 2) 0) (flags_with (eqb (x / 2 % 2) 1) (will_from x) (login_from x)) None (Some f) e) [
      | inl h ↦
          let p = flags_parts (eqb (x / 2 % 2) 1) (will_from x) (login_from x) f h.1 in
          let even : x % 2 ≡ 0 = eqb-true _ _ h.0 in
          let clean_is : bit f.clean_session ≡ x / 2 % 2 = ap bit p.0 ∙ bit_is (x / 2 % 2) (omega arith) in
          let will_is = will_exact x f.will lt p.1 in
          let login_is = login_exact x f.password lt p.2 in
          rw (clean_is, will_is, login_is) (omega arith)
      | inr h ↦ absurd (nothing_some h.1)
    ]

pub flags_found_at : (bytes : List ℕ) (f : ConnectFlags) (rest : List ℕ) → AreBytes bytes → flags_at bytes ≡ Ok (f, rest) → Takes bytes (flags_byte f ∷ []) rest
unfolding flags_at
flags_found_at [] f rest h e = absurd cc
flags_found_at (b ∷ bytes) f rest h e = go (flags_from b) refl e
  where
    go : (o : Option ConnectFlags) → flags_from b ≡ o → flags_or_fault o b bytes ≡ Ok (f, rest) → Takes (b ∷ bytes) (flags_byte f ∷ []) rest
    go None is e = absurd cc
    go (Some g) is e =
        let whole = ok_is (g, bytes) (f, rest) e in
        let flags_is : g ≡ f = ap (λ (p : ConnectFlags × List ℕ). p.0) whole in
        let rest_is : bytes ≡ rest = ap (λ (p : ConnectFlags × List ℕ). p.1) whole in
        let byte_is : b ≡ flags_byte f = flags_exact b g (h 0) is ∙ ap flags_byte flags_is in
        takes (b ∷ bytes) (flags_byte f ∷ []) rest h (rw (byte_is, rest_is) refl)

pub flags_again_at : (f : ConnectFlags) (rest : List ℕ) → flags_at (flags_byte f ∷ rest) ≡ Ok (f, rest)
unfolding flags_at
flags_again_at f rest = rw (flags_back f.clean_session f.will f.password) refl

-- ---- the protocol

abbrev mqtt : List ℕ
mqtt = 77 ∷ 81 ∷ 84 ∷ 84 ∷ []

mqtt_ascii : IsAscii mqtt
mqtt_ascii zero = omega arith
mqtt_ascii (suc zero) = omega arith
mqtt_ascii (suc (suc zero)) = omega arith
mqtt_ascii (suc (suc (suc zero))) = omega arith
mqtt_ascii (suc (suc (suc (suc i)))) = omega arith

mqtt_text : IsText mqtt
mqtt_text = record { utf8 = is_utf8-from_IsUtf8 mqtt (IsUtf8-from_ascii mqtt mqtt_ascii); no_nul = refl; short = omega arith }

is_mqtt : (name : List ℕ) → is_protocol name ≡ true → name ≡ mqtt
is_mqtt [] e = absurd cc
is_mqtt (a ∷ []) e = absurd cc
is_mqtt (a ∷ b ∷ []) e = absurd cc
is_mqtt (a ∷ b ∷ c ∷ []) e = absurd cc
is_mqtt (a ∷ b ∷ c ∷ d ∷ []) e =
    let p = and_parts (eqb a 77) (eqb b 81 && (eqb c 84 && eqb d 84)) e in
    let q = and_parts (eqb b 81) (eqb c 84 && eqb d 84) p.1 in
    let r = and_parts (eqb c 84) (eqb d 84) q.1 in
    rw (eqb-true a 77 p.0, eqb-true b 81 q.0, eqb-true c 84 r.0, eqb-true d 84 r.1) refl
is_mqtt (a ∷ b ∷ c ∷ d ∷ x ∷ name) e = absurd cc

pub protocol_found : (w : Wire) (bytes rest : List ℕ) → AreBytes bytes → protocol_at bytes ≡ Ok rest → Takes bytes (counted mqtt) rest
unfolding protocol_at
protocol_found w bytes rest h e =
    let b = bind_ok (text_at bytes) (λ name. cond (is_protocol name.0) (Ok name.1) (Err (bad_at ProtocolName bytes))) rest e in
    let g = test_ok (is_protocol b.0.0) (bad_at ProtocolName bytes) b.0.1 rest b.2 in
    let l = text_found w bytes b.0.0 b.0.1 h b.1 in
    let name_is : b.0.0 ≡ mqtt = is_mqtt b.0.0 g.0 in
    subst (λ (r : List ℕ). Takes bytes (counted mqtt) r) g.1 (subst (λ (t : List ℕ). Takes bytes (counted t) b.0.1) name_is l.0)

pub protocol_again : (w : Wire) (rest : List ℕ) → protocol_at (counted mqtt ++ rest) ≡ Ok rest
unfolding protocol_at
protocol_again w rest = rw (text_again w mqtt rest mqtt_text) refl

pub level_found : (bytes rest : List ℕ) → AreBytes bytes → level_at bytes ≡ Ok rest → Takes bytes (4 ∷ []) rest
level_found [] rest h e = absurd cc
level_found (b ∷ bytes) rest h e =
    let g = test_ok (eqb b 4) (bad_at ProtocolLevel (b ∷ bytes)) bytes rest e in
    takes (b ∷ bytes) (4 ∷ []) rest h (rw (eqb-true b 4 g.0, g.1) refl)

-- ---- the will

abbrev will_view : Option Will → Option WillFlags
will_view None = None
will_view (Some w) = Some (record { qos = w.qos; retain = w.retain })

abbrev WillFound : List ℕ → Option WillFlags → Option Will × List ℕ → Type 0
WillFound bytes flags x = Takes bytes (will_fields x.0) x.1 × IfSome x.0 IsWill × (will_view x.0 ≡ flags)

will_found : (w : Wire) (flags : Option WillFlags) (bytes : List ℕ) (will : Option Will) (rest : List ℕ) → AreBytes bytes → will_at flags bytes ≡ Ok (will, rest) → WillFound bytes flags (will, rest)
unfolding will_at
will_found w None bytes will rest h e =
    let made : Option Will × List ℕ = (None, bytes) in
    subst (WillFound bytes None) (ok_is made (will, rest) e) (takes bytes [] bytes h refl, tt, refl)
will_found w (Some flags) bytes will rest h e =
    let a = bind_ok (name_at bytes) (λ t. binary_at t.1 >>= λ m. Ok (Some (record { topic = t.0; message = m.0; qos = flags.qos; retain = flags.retain }), m.1)) (will, rest) e in
    let b = bind_ok (binary_at a.0.1) (λ m. Ok (Some (record { topic = a.0.0; message = m.0; qos = flags.qos; retain = flags.retain }), m.1)) (will, rest) a.2 in
    let l = name_found w bytes a.0.0 a.0.1 h a.1 in
    let m = binary_found w a.0.1 b.0.0 b.0.1 l.0.rest_bytes b.1 in
    let made : Option Will × List ℕ = (Some (record { topic = a.0.0; message = b.0.0; qos = flags.qos; retain = flags.retain }), b.0.1) in
    subst (WillFound bytes (Some flags)) (ok_is made (will, rest) b.2) (Takes-then (counted a.0.0) (counted b.0.0) l.0 m.0, record { topic = l.1; message = m.1 }, refl)

will_again : (w : Wire) (will : Option Will) (rest : List ℕ) → IfSome will IsWill → will_at (will_view will) (will_fields will ++ rest) ≡ Ok (will, rest)
unfolding will_at
will_again w None rest is = refl
will_again w (Some will) rest is =
    let regrouped : will_fields (Some will) ++ rest ≡ counted will.topic ++ (counted will.message ++ rest) = append_assoc (counted will.topic) (counted will.message) rest in
    ap (λ (b : List ℕ). will_at (will_view (Some will)) b) regrouped ∙ rw (name_again w will.topic (counted will.message ++ rest) is.topic, binary_again w will.message rest is.message) refl

-- ---- the login

abbrev password_view : Option (List ℕ) → Bool
password_view None = false
password_view (Some p) = true

abbrev login_view : Option Login → Option Bool
login_view None = None
login_view (Some l) = Some (password_view l.password)

abbrev PasswordFound : List ℕ → Bool → Option (List ℕ) × List ℕ → Type 0
PasswordFound bytes has x = Takes bytes (password_fields x.0) x.1 × IfSome x.0 IsBinary × (password_view x.0 ≡ has)

password_found : (w : Wire) (has : Bool) (bytes : List ℕ) (p : Option (List ℕ)) (rest : List ℕ) → AreBytes bytes → password_at has bytes ≡ Ok (p, rest) → PasswordFound bytes has (p, rest)
unfolding password_at
password_found w false bytes p rest h e =
    let made : Option (List ℕ) × List ℕ = (None, bytes) in
    subst (PasswordFound bytes false) (ok_is made (p, rest) e) (takes bytes [] bytes h refl, tt, refl)
password_found w true bytes p rest h e =
    let a = bind_ok (binary_at bytes) (λ b. Ok (Some b.0, b.1)) (p, rest) e in
    let l = binary_found w bytes a.0.0 a.0.1 h a.1 in
    let made : Option (List ℕ) × List ℕ = (Some a.0.0, a.0.1) in
    subst (PasswordFound bytes true) (ok_is made (p, rest) a.2) (l.0, l.1, refl)

password_again : (w : Wire) (p : Option (List ℕ)) (rest : List ℕ) → IfSome p IsBinary → password_at (password_view p) (password_fields p ++ rest) ≡ Ok (p, rest)
unfolding password_at
password_again w None rest is = refl
password_again w (Some p) rest is = rw (binary_again w p rest is) refl

abbrev LoginFound : List ℕ → Option Bool → Option Login × List ℕ → Type 0
LoginFound bytes has x = Takes bytes (login_fields x.0) x.1 × IfSome x.0 IsLogin × (login_view x.0 ≡ has)

login_found : (w : Wire) (has : Option Bool) (bytes : List ℕ) (login : Option Login) (rest : List ℕ) → AreBytes bytes → login_at has bytes ≡ Ok (login, rest) → LoginFound bytes has (login, rest)
unfolding login_at
login_found w None bytes login rest h e =
    let made : Option Login × List ℕ = (None, bytes) in
    subst (LoginFound bytes None) (ok_is made (login, rest) e) (takes bytes [] bytes h refl, tt, refl)
login_found w (Some has) bytes login rest h e =
    let a = bind_ok (text_at bytes) (λ name. password_at has name.1 >>= λ p. Ok (Some (record { name = name.0; password = p.0 }), p.1)) (login, rest) e in
    let b = bind_ok (password_at has a.0.1) (λ p. Ok (Some (record { name = a.0.0; password = p.0 }), p.1)) (login, rest) a.2 in
    let l = text_found w bytes a.0.0 a.0.1 h a.1 in
    let m = password_found w has a.0.1 b.0.0 b.0.1 l.0.rest_bytes b.1 in
    let made : Option Login × List ℕ = (Some (record { name = a.0.0; password = b.0.0 }), b.0.1) in
    subst (LoginFound bytes (Some has)) (ok_is made (login, rest) b.2) (Takes-then (counted a.0.0) (password_fields b.0.0) l.0 m.0, record { name = l.1; password = m.1 }, ap (λ (x : Bool). Some x) m.2)

login_again : (w : Wire) (login : Option Login) (rest : List ℕ) → IfSome login IsLogin → login_at (login_view login) (login_fields login ++ rest) ≡ Ok (login, rest)
unfolding login_at
login_again w None rest is = refl
login_again w (Some login) rest is =
    let regrouped : login_fields (Some login) ++ rest ≡ counted login.name ++ (password_fields login.password ++ rest) = append_assoc (counted login.name) (password_fields login.password) rest in
    ap (λ (b : List ℕ). login_at (login_view (Some login)) b) regrouped ∙ rw (text_again w login.name (password_fields login.password ++ rest) is.name, password_again w login.password rest is.password) refl

-- ---- all of CONNECT

abbrev flags_view : Connect → ConnectFlags
flags_view c = record { clean_session = c.clean_session; will = will_view c.will; password = login_view c.login }

will_bits-view : (will : Option Will) → will_bits (will_view will) ≡ will_flags will
will_bits-view None = refl
will_bits-view (Some w) = refl

login_bits-view : (login : Option Login) → login_bits (login_view login) ≡ login_flags login
login_bits-view None = refl
login_bits-view (Some l) = password_is l.password
  where
    password_is : (p : Option (List ℕ)) → 128 + 64 * bit (password_view p) ≡ 128 + password_flag p
    password_is None = refl
    password_is (Some p) = refl

flags_byte-view : (c : Connect) → flags_byte (flags_view c) ≡ connect_flags c
flags_byte-view c = rw (will_bits-view c.will, login_bits-view c.login) refl

-- the fields, one after another
encoded : (c : Connect) → connect_fields c ≡ counted mqtt ++ (4 ∷ (flags_byte (flags_view c) ∷ (number c.keep_alive ++ (counted c.client_id ++ (will_fields c.will ++ login_fields c.login)))))
encoded c = rw flags_byte-view refl

same_flags : (c : Connect) (flags : ConnectFlags) → c.clean_session ≡ flags.clean_session → will_view c.will ≡ flags.will → login_view c.login ≡ flags.password → flags ≡ flags_view c
same_flags c flags clean will login = rw (clean, will, login) refl

-- the fields that were read, put together
joined : (c : Connect) (flags : ConnectFlags) (bytes a b f k t m l : List ℕ) → bytes ≡ counted mqtt ++ a → a ≡ (4 ∷ []) ++ b → b ≡ (flags_byte flags ∷ []) ++ f → f ≡ number c.keep_alive ++ k
    → k ≡ counted c.client_id ++ t → t ≡ will_fields c.will ++ m → m ≡ login_fields c.login ++ l → l ≡ [] → flags ≡ flags_view c → bytes ≡ connect_fields c
joined c flags bytes a b f k t m l ea eb ef ek et em el ez flags_is =
    let tail : m ≡ login_fields c.login = el ∙ (ap (λ (r : List ℕ). login_fields c.login ++ r) ez ∙ append-nil (login_fields c.login)) in
    ea ∙ (rw (eb, ef, ek, et, em, tail, flags_is) refl ∙ sym (encoded c))

abbrev ConnectFound : List ℕ → Connect → Type 0
ConnectFound bytes c = (bytes ≡ connect_fields c) × IsConnect c

pub connect_found : (w : Wire) (bytes : List ℕ) (c : Connect) → AreBytes bytes → connect_at bytes ≡ Ok c → (bytes ≡ connect_fields c) × IsConnect c
unfolding connect_at
connect_found w bytes c h e =
    let a = bind_ok (protocol_at bytes) (λ level. level_at level >>= λ behind. flags_at behind >>= λ flags. number_at flags.1 >>= λ keep_alive. text_at keep_alive.1 >>= λ client.
    will_at flags.0.will client.1 >>= λ will. login_at flags.0.password will.1 >>= λ login. end_at login.1 >>= λ end.
    Ok (record { client_id = client.0; clean_session = flags.0.clean_session; keep_alive = keep_alive.0; will = will.0; login = login.0 })) c e in
    let b = bind_ok (level_at a.0) (λ behind. flags_at behind >>= λ flags. number_at flags.1 >>= λ keep_alive. text_at keep_alive.1 >>= λ client.
    will_at flags.0.will client.1 >>= λ will. login_at flags.0.password will.1 >>= λ login. end_at login.1 >>= λ end.
    Ok (record { client_id = client.0; clean_session = flags.0.clean_session; keep_alive = keep_alive.0; will = will.0; login = login.0 })) c a.2 in
    let f = bind_ok (flags_at b.0) (λ flags. number_at flags.1 >>= λ keep_alive. text_at keep_alive.1 >>= λ client.
    will_at flags.0.will client.1 >>= λ will. login_at flags.0.password will.1 >>= λ login. end_at login.1 >>= λ end.
    Ok (record { client_id = client.0; clean_session = flags.0.clean_session; keep_alive = keep_alive.0; will = will.0; login = login.0 })) c b.2 in
    let flags = f.0.0 in
    let k = bind_ok (number_at f.0.1) (λ keep_alive. text_at keep_alive.1 >>= λ client.
    will_at flags.will client.1 >>= λ will. login_at flags.password will.1 >>= λ login. end_at login.1 >>= λ end.
    Ok (record { client_id = client.0; clean_session = flags.clean_session; keep_alive = keep_alive.0; will = will.0; login = login.0 })) c f.2 in
    let t = bind_ok (text_at k.0.1) (λ client.
    will_at flags.will client.1 >>= λ will. login_at flags.password will.1 >>= λ login. end_at login.1 >>= λ end.
    Ok (record { client_id = client.0; clean_session = flags.clean_session; keep_alive = k.0.0; will = will.0; login = login.0 })) c k.2 in
    let m = bind_ok (will_at flags.will t.0.1) (λ will. login_at flags.password will.1 >>= λ login. end_at login.1 >>= λ end.
    Ok (record { client_id = t.0.0; clean_session = flags.clean_session; keep_alive = k.0.0; will = will.0; login = login.0 })) c t.2 in
    let l = bind_ok (login_at flags.password m.0.1) (λ login. end_at login.1 >>= λ end.
    Ok (record { client_id = t.0.0; clean_session = flags.clean_session; keep_alive = k.0.0; will = m.0.0; login = login.0 })) c m.2 in
    let z = bind_ok (end_at l.0.1) (λ end.
    Ok (record { client_id = t.0.0; clean_session = flags.clean_session; keep_alive = k.0.0; will = m.0.0; login = l.0.0 })) c l.2 in
    let made : Connect = record { client_id = t.0.0; clean_session = flags.clean_session; keep_alive = k.0.0; will = m.0.0; login = l.0.0 } in
    let la = protocol_found w bytes a.0 h a.1 in
    let lb = level_found a.0 b.0 la.rest_bytes b.1 in
    let lf = flags_found_at b.0 flags f.0.1 lb.rest_bytes f.1 in
    let lk = number_found w f.0.1 k.0.0 k.0.1 lf.rest_bytes k.1 in
    let lt = text_found w k.0.1 t.0.0 t.0.1 lk.0.rest_bytes t.1 in
    let lm = will_found w flags.will t.0.1 m.0.0 m.0.1 lt.0.rest_bytes m.1 in
    let ll = login_found w flags.password m.0.1 l.0.0 l.0.1 lm.0.rest_bytes l.1 in
    let last = end_found l.0.1 z.0 z.1 in
    let whole : bytes ≡ connect_fields made =
    joined made flags bytes a.0 b.0 f.0.1 k.0.1 t.0.1 m.0.1 l.0.1 la.parts lb.parts lf.parts lk.0.parts lt.0.parts lm.0.parts ll.0.parts last (same_flags made flags refl lm.2 ll.2) in
    subst (ConnectFound bytes) {x = made} (ok_is made c z.2) (whole, record { client_id = lt.1; keep_alive = lk.1; will = lm.1; login = ll.1 })

pub connect_again : (w : Wire) (c : Connect) → IsConnect c → connect_at (connect_fields c) ≡ Ok c
unfolding connect_at
connect_again w c is =
    let tail : login_at (login_view c.login) (login_fields c.login) ≡ Ok (c.login, []) = ap (λ (b : List ℕ). login_at (login_view c.login) b) (sym (append-nil (login_fields c.login))) ∙ login_again w c.login [] is.login in
    ap connect_at (encoded c) ∙ rw (
      protocol_again w (4 ∷ (flags_byte (flags_view c) ∷ (number c.keep_alive ++ (counted c.client_id ++ (will_fields c.will ++ login_fields c.login))))),
      flags_again_at (flags_view c) (number c.keep_alive ++ (counted c.client_id ++ (will_fields c.will ++ login_fields c.login))),
      number_again w c.keep_alive (counted c.client_id ++ (will_fields c.will ++ login_fields c.login)),
      text_again w c.client_id (will_fields c.will ++ login_fields c.login) is.client_id,
      will_again w c.will (login_fields c.login) is.will,
      tail,
    ) refl
