-- CONNECT (3.1).
use Rattle.std.proofs.Common.{◌≡◌, ℕ, ◌+◌, ◌*◌, ◌≤◌, ◌<◌, ◌^◌, Bool, true, false, true≢false, List, [], ◌∷◌, ◌++◌, length, Result, refl, sym, ap, subst, ◌∙◌, append_assoc, arith}
use Rattle.std.specs.Prelude.{Option, None, Some, IfSome}
use Rattle.std.proofs.lemmas.List.{length-append}
use Rattle.mq_wire.specs.Length.{length_bytes}
use Rattle.mq_wire.specs.Number.{number}
use Rattle.mq_wire.specs.Reading.{LengthLaws}
use Rattle.mq_wire.specs.Text.{IsText, counted}
use Rattle.mq_topic.specs.Qos.{qos_from, qos_number}
use Rattle.mq_topic.specs.Topic.{IsTopicName}
use Rattle.mq_topic.specs.declared.qos.Qos.{Qos}
use Rattle.mq_packet.specs.declared.connect.Connect.{Connect}
use Rattle.mq_packet.specs.declared.connect.Login.{Login}
use Rattle.mq_packet.specs.declared.connect.Will.{Will}
use Rattle.mq_packet.specs.declared.packet.Packet.{Packet}
use Rattle.mq_packet.specs.declared.packet.Packet.TheVariants as packets
use Rattle.mq_packet.specs.Encoding.{bit, connect_fields, connect_flags, fields, first_byte, login_fields, login_flags, protocol, will_fields, will_flags}
use Rattle.mq_packet.specs.Values.{IsBinary, IsConnect, IsLogin, IsPacket, IsWill}
use Rattle.mq_decode.proofs.ListLaws.{qos_back, qos_exact}
use Rattle.mq_bytes.specs.declared.fault.EncodeFault.{EncodeFault}
use Rattle.mq_bytes.specs.Arguments.{IsConnectOf, IsLoginOf, IsPasswordOf, IsWillOf}
use Rattle.mq_bytes.specs.Buffers.{Filled, Gives}
use Rattle.mq_bytes.specs.Inside.Buffers.{EncodesParts, Frames}
use Rattle.mq_bytes.specs.Inside.Connects.{LoginWith, NoLogin, NoWill, WillWith, counted_if}
use Rattle.mq_bytes.proofs.Encoded.{fields_framed, parts_give}
use Rattle.mq_bytes.proofs.Filling.{Puts, puts_nothing, puts_then}

none_is_some : {A : Type 0} (a : A) → None ≡ Some a → ⊥
none_is_some a e = absurd cc

-- ---- fields with their sizes

counted_none : (there : Bool) (x y : List ℕ) → there ≡ false → counted_if there x ++ counted_if there y ≡ []
counted_none true x y e = absurd (true≢false e)
counted_none false x y e = refl

counted_both : (there : Bool) (x y : List ℕ) → there ≡ true → counted_if there x ++ counted_if there y ≡ counted x ++ counted y
counted_both true x y e = refl
counted_both false x y e = absurd (true≢false (sym e))

counted_two : (a b : Bool) (x y : List ℕ) → a ≡ true → b ≡ true → counted_if a x ++ counted_if b y ≡ counted x ++ counted y
counted_two true true x y e f = refl
counted_two true false x y e f = absurd (true≢false (sym f))
counted_two false b x y e f = absurd (true≢false (sym e))

counted_first : (a b : Bool) (x y : List ℕ) → a ≡ true → b ≡ false → counted_if a x ++ counted_if b y ≡ counted x ++ []
counted_first true true x y e f = absurd (true≢false f)
counted_first true false x y e f = refl
counted_first false b x y e f = absurd (true≢false (sym e))

counted_neither : (a b : Bool) (x y : List ℕ) → a ≡ false → b ≡ false → counted_if a x ++ counted_if b y ≡ []
counted_neither true b x y e f = absurd (true≢false e)
counted_neither false true x y e f = absurd (true≢false f)
counted_neither false false x y e f = refl

pub counted_put : (at behind : ℕ) (there : Bool) (size x now mid new : List ℕ) → there ≡ true → size ≡ number (length x) → Puts at size now mid → behind ≡ at + length size → Puts behind x mid new → Puts at (counted_if there x) now new
counted_put at behind true size x now mid new e is one here two =
    subst (λ (z : List ℕ). Puts at (z ++ x) now new) is (puts_then at behind size x now mid new one here two)
counted_put at behind false size x now mid new e is one here two = absurd (true≢false (sym e))

pub nothing_put : (at : ℕ) (there : Bool) (x now : List ℕ) → there ≡ false → Puts at (counted_if there x) now now
nothing_put at true x now e = absurd (true≢false e)
nothing_put at false x now e = puts_nothing at now

-- ---- the will

pub no_will : (topic message : List ℕ) (qos : ℕ) (there retain : Bool) → there ≡ false → WillWith there topic message qos retain 0
no_will topic message qos there retain e =
    let none = counted_none there topic message e in
    record { will = None; is = e; valid = tt; number = refl; fields = none }

pub some_will : (topic message : List ℕ) (qos flags : ℕ) (q : Qos) (there retain : Bool) → there ≡ true → Some q ≡ qos_from qos → IsTopicName topic → length message < 65536 → flags ≡ 4 + 8 * qos_number q + 32 * bit retain → WillWith there topic message qos retain flags
some_will topic message qos flags q there retain e read name short number = record {
  will = Some (record { topic = topic; message = message; qos = q; retain = retain });
  is = (e, refl, refl, sym (qos_exact qos q (sym read)), refl);
  valid = record { topic = name; message = short };
  number = number;
  fields = counted_both there topic message e;
}

pub bad_will_qos : (topic message : List ℕ) (qos : ℕ) (there retain : Bool) → there ≡ true → None ≡ qos_from qos → NoWill there topic message qos retain
bad_will_qos topic message qos there retain e read None is valid = absurd (true≢false (sym e ∙ is))
bad_will_qos topic message qos there retain e read (Some w) is valid =
    none_is_some w.qos (read ∙ (ap qos_from (sym is.3) ∙ qos_back w.qos))

pub bad_will_topic : (topic message : List ℕ) (qos : ℕ) (there retain : Bool) → there ≡ true → (IsTopicName topic → ⊥) → NoWill there topic message qos retain
bad_will_topic topic message qos there retain e fails None is valid = absurd (true≢false (sym e ∙ is))
bad_will_topic topic message qos there retain e fails (Some w) is valid = fails (subst IsTopicName is.1 valid.topic)

pub bad_will_message : (topic message : List ℕ) (qos : ℕ) (there retain : Bool) → there ≡ true → 65535 < length message → NoWill there topic message qos retain
bad_will_message topic message qos there retain e fails None is valid = absurd (true≢false (sym e ∙ is))
bad_will_message topic message qos there retain e fails (Some w) is valid =
    let short : length message < 65536 = subst (λ (z : List ℕ). length z < 65536) is.2 valid.message in
    absurd (omega arith)

-- ---- the user name and password

pub no_login : (name password : List ℕ) (there has_password : Bool) → there ≡ false → has_password ≡ false → LoginWith there name has_password password 0
no_login name password there has_password e f = record {
  login = None;
  is = (e, f);
  valid = tt;
  number = refl;
  fields = counted_neither there has_password name password e f;
}

pub name_alone : (name password : List ℕ) (there has_password : Bool) → there ≡ true → has_password ≡ false → IsText name → LoginWith there name has_password password 128
name_alone name password there has_password e f text = record {
  login = Some (record { name = name; password = None });
  is = (e, refl, f);
  valid = record { name = text; password = tt };
  number = refl;
  fields = counted_first there has_password name password e f;
}

pub name_and_password : (name password : List ℕ) (there has_password : Bool) → there ≡ true → has_password ≡ true → IsText name → length password < 65536 → LoginWith there name has_password password 192
name_and_password name password there has_password e f text short = record {
  login = Some (record { name = name; password = Some password });
  is = (e, refl, (f, refl));
  valid = record { name = text; password = short };
  number = refl;
  fields = counted_two there has_password name password e f;
}

pub password_alone : (name password : List ℕ) (there has_password : Bool) → there ≡ false → has_password ≡ true → NoLogin there name has_password password
password_alone name password there has_password e f None is valid = absurd (true≢false (sym f ∙ is.1))
password_alone name password there has_password e f (Some l) is valid = absurd (true≢false (sym is.0 ∙ e))

pub bad_name : (name password : List ℕ) (there has_password : Bool) → there ≡ true → (IsText name → ⊥) → NoLogin there name has_password password
bad_name name password there has_password e fails None is valid = absurd (true≢false (sym e ∙ is.0))
bad_name name password there has_password e fails (Some l) is valid = fails (subst IsText is.1 valid.name)

long_password : (password : List ℕ) (there : Bool) (o : Option (List ℕ)) → there ≡ true → 65535 < length password → IsPasswordOf there password o → IfSome o IsBinary → ⊥
long_password password there None e long is short = absurd (true≢false (sym e ∙ is))
long_password password there (Some p) e long is short =
    let size : length p ≡ length password = ap length is.1 in
    absurd (omega (arith, size, short, long))

pub bad_password : (name password : List ℕ) (there has_password : Bool) → there ≡ true → has_password ≡ true → 65535 < length password → NoLogin there name has_password password
bad_password name password there has_password e f long None is valid = absurd (true≢false (sym e ∙ is.0))
bad_password name password there has_password e f long (Some l) is valid = long_password password has_password l.password f long is.2 valid.password

-- ---- the packet

-- The fields of a CONNECT, one behind the other.
pub connect_framed : (rest at one two three n : ℕ) (head id will login old a b c d e : List ℕ) → rest ≡ length head + length id + length will + length login → at + rest ≤ length old → at ≡ 1 + length (length_bytes rest) → rest < 2 ^ 28
    → Filled old (0x10 ∷ length_bytes rest) a → Puts at head a b → one ≡ at + length head → Puts one id b c → two ≡ one + length id → Puts two will c d → three ≡ two + length will → Puts three login d e → n ≡ three + length login
    → Frames 0x10 (head ++ (id ++ (will ++ login))) old e n
connect_framed rest at one two three n head id will login old a b c d e is within start small f p1 e1 p2 e2 p3 e3 p4 e4 =
    let ends = puts_then two three will login c d e p3 e3 p4 in
    let middle = puts_then one two id (will ++ login) b c e p2 e2 ends in
    let all = puts_then at one head (id ++ (will ++ login)) a b e p1 e1 middle in
    let s1 = length-append will login in
    let s2 = length-append id (will ++ login) in
    let s3 = length-append head (id ++ (will ++ login)) in
    let size : rest ≡ length (head ++ (id ++ (will ++ login))) = omega (arith, is, s1, s2, s3) in
    let here : at + rest ≡ n = omega (arith, is, e1, e2, e3, e4) in
    subst (λ (k : ℕ). Frames 0x10 (head ++ (id ++ (will ++ login))) old e k) here (fields_framed 0x10 rest at (head ++ (id ++ (will ++ login))) old a e size within start small f all)

abbrev connect_with : List ℕ → ℕ → Bool → Option Will → Option Login → Connect
connect_with id keep_alive clean will login = record { client_id = id; clean_session = clean; keep_alive = keep_alive; will = will; login = login }

pub connect_gives : LengthLaws → (id : List ℕ) (keep_alive : ℕ) (clean there : Bool) (topic message : List ℕ) (qos : ℕ) (retain has_name : Bool) (name : List ℕ) (has_password : Bool) (password : List ℕ) (will_number login_number flags : ℕ) (head old new : List ℕ) (r : Result ℕ EncodeFault)
    → IsText id → keep_alive < 65536 → WillWith there topic message qos retain will_number → LoginWith has_name name has_password password login_number
    → flags ≡ 2 * bit clean + will_number + login_number → head ≡ protocol ++ (flags ∷ (number keep_alive ++ number (length id)))
    → EncodesParts 0x10 (head ++ (id ++ ((counted_if there topic ++ counted_if there message) ++ (counted_if has_name name ++ counted_if has_password password)))) old new r
    → Gives (IsConnectOf id keep_alive clean (IsWillOf there topic message qos retain) (IsLoginOf has_name name has_password password)) old new r
connect_gives laws id keep_alive clean there topic message qos retain has_name name has_password password will_number login_number flags head old new r text small w l is_flags is_head parts =
    let c : Connect = connect_with id keep_alive clean w.will l.login in
    let valid : IsConnect c = record { client_id = text; keep_alive = small; will = w.valid; login = l.valid } in
    let ends : List ℕ = (counted_if there topic ++ counted_if there message) ++ (counted_if has_name name ++ counted_if has_password password) in
    let numbers : flags ≡ connect_flags c = is_flags ∙ (ap (λ (k : ℕ). 2 * bit clean + k + login_number) w.number ∙ ap (λ (k : ℕ). 2 * bit clean + will_flags w.will + k) l.number) in
    let same_ends : ends ≡ will_fields w.will ++ login_fields l.login =
    ap (λ (z : List ℕ). z ++ (counted_if has_name name ++ counted_if has_password password)) w.fields ∙ ap (λ (z : List ℕ). will_fields w.will ++ z) l.fields in
    let body : head ++ (id ++ ends) ≡ connect_fields c =
    ap (λ (z : List ℕ). z ++ (id ++ ends)) is_head
    ∙ (ap (λ (k : ℕ). (protocol ++ (k ∷ (number keep_alive ++ number (length id)))) ++ (id ++ ends)) numbers
    ∙ ap (λ (z : List ℕ). (protocol ++ (connect_flags c ∷ (number keep_alive ++ number (length id)))) ++ (id ++ z)) same_ends) in
    parts_give laws (IsConnectOf id keep_alive clean (IsWillOf there topic message qos retain) (IsLoginOf has_name name has_password password)) (packets.Connect c) 0x10 (head ++ (id ++ ends)) old new r (refl, refl, refl, w.is, l.is) valid refl body parts

-- What a valid CONNECT says of its parts.
record Valid (id : List ℕ) (IsGivenWill : Option Will → Type 0) (IsGivenLogin : Option Login → Type 0) : Type 0 where
  pub text : IsText id
  pub will : Option Will
  pub is_will : IsGivenWill will
  pub good_will : IfSome will IsWill
  pub login : Option Login
  pub is_login : IsGivenLogin login
  pub good_login : IfSome login IsLogin

valid : (id : List ℕ) (keep_alive : ℕ) (clean : Bool) (W : Option Will → Type 0) (L : Option Login → Type 0) (p : Packet) → IsPacket p → IsConnectOf id keep_alive clean W L p → Valid id W L
valid id keep_alive clean W L (packets.Connect c) q h = record {
  text = subst IsText h.0 q.client_id;
  will = c.will;
  is_will = h.3;
  good_will = q.will;
  login = c.login;
  is_login = h.4;
  good_login = q.login;
}
valid id keep_alive clean W L (packets.ConnAck x) q h = absurd h
valid id keep_alive clean W L (packets.Publish x) q h = absurd h
valid id keep_alive clean W L (packets.PubAck x) q h = absurd h
valid id keep_alive clean W L (packets.PubRec x) q h = absurd h
valid id keep_alive clean W L (packets.PubRel x) q h = absurd h
valid id keep_alive clean W L (packets.PubComp x) q h = absurd h
valid id keep_alive clean W L (packets.Subscribe x y) q h = absurd h
valid id keep_alive clean W L (packets.SubAck x y) q h = absurd h
valid id keep_alive clean W L (packets.Unsubscribe x y) q h = absurd h
valid id keep_alive clean W L (packets.UnsubAck x) q h = absurd h
valid id keep_alive clean W L packets.PingReq q h = absurd h
valid id keep_alive clean W L packets.PingResp q h = absurd h
valid id keep_alive clean W L packets.Disconnect q h = absurd h

pub no_identifier : (id : List ℕ) (keep_alive : ℕ) (clean : Bool) (W : Option Will → Type 0) (L : Option Login → Type 0) → (IsText id → ⊥) → (p : Packet) → IsPacket p → IsConnectOf id keep_alive clean W L p → ⊥
no_identifier id keep_alive clean W L fails p q h = fails (valid id keep_alive clean W L p q h).text

pub without_will : (id : List ℕ) (keep_alive : ℕ) (clean : Bool) (L : Option Login → Type 0) (there : Bool) (topic message : List ℕ) (qos : ℕ) (retain : Bool) → NoWill there topic message qos retain → (p : Packet) → IsPacket p → IsConnectOf id keep_alive clean (IsWillOf there topic message qos retain) L p → ⊥
without_will id keep_alive clean L there topic message qos retain fails p q h =
    let v = valid id keep_alive clean (IsWillOf there topic message qos retain) L p q h in
    fails v.will v.is_will v.good_will

pub without_login : (id : List ℕ) (keep_alive : ℕ) (clean : Bool) (W : Option Will → Type 0) (there : Bool) (name : List ℕ) (has_password : Bool) (password : List ℕ) → NoLogin there name has_password password → (p : Packet) → IsPacket p → IsConnectOf id keep_alive clean W (IsLoginOf there name has_password password) p → ⊥
without_login id keep_alive clean W there name has_password password fails p q h =
    let v = valid id keep_alive clean W (IsLoginOf there name has_password password) p q h in
    fails v.login v.is_login v.good_login
