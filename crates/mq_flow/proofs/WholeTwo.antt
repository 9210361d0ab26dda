-- The laws of the saved form, version 2, and the result of loading.
use Rattle.std.proofs.Common.{◌≡◌, ℕ, suc, ◌+◌, ◌/◌, ◌%◌, arith, Bool, true, false, cond, ◌&&◌, eqb, List, [], ◌∷◌, ◌++◌, length, drop, Option, Some, None, Result, Ok, Err, IfOk, MatchResult, refl, sym, ap, subst, ◌∙◌}
use Rattle.std.proofs.lemmas.Bool.{and_parts, eqb-true}
use Rattle.std.proofs.Math.Seq.{drop-append_seam}
use Rattle.mq_wire.specs.Bytes.{AreBytes}
use Rattle.mq_wire.specs.Text.{IsText, counted}
use Rattle.mq_wire.specs.TextReading.{TextLaws, read_text}
use Rattle.mq_wire.specs.declared.text.FieldFault.{FieldFault}
use Rattle.mq_packet.specs.Encoding.{bit}
use Rattle.mq_flow.specs.declared.load.LoadError.{LoadError}
use Rattle.mq_flow.specs.declared.load.LoadError.TheVariants.{Version, Malformed, Memory, AnotherClient, TooLarge}
use Rattle.mq_flow.specs.declared.saved.Saved as value
use Rattle.mq_flow.specs.declared.session.Session.{Session}
use Rattle.mq_flow.specs.Saved.{signature, saved_sender, saved_receiver, saved_form, Saved, IsSession}
use Rattle.mq_flow.specs.Loading.{◌>>=◌, bad_at, flag_at, session_at, has_version, placed, Loads}
use Rattle.mq_flow.specs.SavedTwo.{signature_two, saved_form_two, SavedTwo, IsSavedAs, text_of, text_at, first_at, second_at, has_version_two, read_saved}
use Rattle.mq_flow.specs.SavedLaws.{SavedTwoLaws}
use Rattle.mq_flow.proofs.Fields.{bind_ok, ok_is, AreBytes-rest, Takes, takes, flag_found, flag_again}
use Rattle.mq_flow.proofs.Whole.{session_found, session_again, version_found, placed_ok}

-- ---- a text

text_found : TextLaws → (bytes : List ℕ) (x : List ℕ × List ℕ) → AreBytes bytes → text_at bytes ≡ Ok x → Takes bytes (counted x.0) x.1 × IsText x.0
unfolding text_at
text_found texts bytes x h e = known (read_text bytes 0) refl e
  where
    known : (r : Result (List ℕ × ℕ) FieldFault) → read_text bytes 0 ≡ r → text_of bytes r ≡ Ok x → Takes bytes (counted x.0) x.1 × IsText x.0
    known (Ok (text, place)) read e =
        let f = texts.found bytes 0 text place h read in
        subst (λ (y : List ℕ × List ℕ). Takes bytes (counted y.0) y.1 × IsText y.0) (ok_is (text, drop place bytes) x e) (takes bytes (counted text) (drop place bytes) h f.3, f.0)
    known (Err fault) read e = absurd cc

-- two items more are taken away
drop_two : (n a b : ℕ) (rest : List ℕ) → drop (2 + n) (a ∷ b ∷ rest) ≡ drop n rest
drop_two n a b rest = let two : 2 + n ≡ suc (suc n) = omega arith in rw two refl

text_again : TextLaws → (t rest : List ℕ) → IsText t → text_at (counted t ++ rest) ≡ Ok (t, rest)
unfolding text_at
text_again texts t rest is =
    let read : read_text (counted t ++ rest) 0 ≡ Ok (t, 2 + length t) = texts.again [] t rest is in
    let behind : drop (2 + length t) (counted t ++ rest) ≡ rest = drop_two (length t) (length t / 256) (length t % 256) (t ++ rest) ∙ drop-append_seam t rest in
    ap (text_of (counted t ++ rest)) read ∙ ap (λ (b : List ℕ). Ok (t, b)) behind

-- ---- The rest behind the version

first_found : (bytes : List ℕ) (v : value.Saved) → AreBytes bytes → first_at 268435455 bytes ≡ Ok v → IsSavedAs v (signature ++ bytes) × IsSession v.session
unfolding first_at
first_found bytes v h e =
    let made : Session → value.Saved = λ session. record { client = None; established = false; session = session } in
    let s = bind_ok (session_at 268435455 bytes) (λ session. Ok (made session)) v e in
    let taken = session_found 268435455 bytes s.0 h s.1 in
    subst (λ (v : value.Saved). IsSavedAs v (signature ++ bytes) × IsSession v.session) (ok_is (made s.0) v s.2)
    ((refl, record { unclaimed = taken.unclaimed; unreserved = taken.unreserved; form = ap (λ (t : List ℕ). signature ++ t) taken.text }), taken.is)

second_found : TextLaws → (bytes : List ℕ) (v : value.Saved) → AreBytes bytes → second_at 268435455 bytes ≡ Ok v → IsSavedAs v (signature_two ++ bytes) × IsSession v.session
unfolding second_at
second_found texts bytes v h e =
    let made : List ℕ → Bool → Session → value.Saved = λ client established session. record { client = Some client; established = established; session = session } in
    let c = bind_ok (text_at bytes) (λ client. flag_at client.1 >>= λ established. session_at 268435455 established.1 >>= λ session. Ok (made client.0 established.0 session)) v e in
    let f = bind_ok (flag_at c.0.1) (λ established. session_at 268435455 established.1 >>= λ session. Ok (made c.0.0 established.0 session)) v c.2 in
    let s = bind_ok (session_at 268435455 f.0.1) (λ session. Ok (made c.0.0 f.0.0 session)) v f.2 in
    let text = text_found texts bytes c.0 h c.1 in
    let flag = flag_found c.0.1 f.0 text.0.rest_bytes f.1 in
    let taken = session_found 268435455 f.0.1 s.0 flag.rest_bytes s.1 in
    let body : c.0.1 ≡ bit f.0.0 ∷ (saved_sender s.0.sender ++ saved_receiver s.0.receiver) = flag.parts ∙ ap (λ (t : List ℕ). bit f.0.0 ∷ t) taken.text in
    let whole : bytes ≡ counted c.0.0 ++ (bit f.0.0 ∷ (saved_sender s.0.sender ++ saved_receiver s.0.receiver)) = text.0.parts ∙ ap (λ (t : List ℕ). counted c.0.0 ++ t) body in
    subst (λ (v : value.Saved). IsSavedAs v (signature_two ++ bytes) × IsSession v.session) (ok_is (made c.0.0 f.0.0 s.0) v s.2)
    (record { text = text.1; unclaimed = taken.unclaimed; unreserved = taken.unreserved; form = ap (λ (t : List ℕ). signature_two ++ t) whole }, taken.is)

-- ---- the whole

version_two_found : (bytes : List ℕ) → has_version_two bytes ≡ true → bytes ≡ signature_two ++ drop 4 bytes
version_two_found [] e = absurd cc
version_two_found (a ∷ []) e = absurd (short (eqb 0x4d a) e)
  where
    short : (t : Bool) → (t && false) ≡ true → ⊥
    short true e = cc
    short false e = cc
version_two_found (a ∷ b ∷ []) e = absurd (short (eqb 0x4d a) (eqb 0x51 b) e)
  where
    short : (t u : Bool) → (t && (u && false)) ≡ true → ⊥
    short true true e = cc
    short true false e = cc
    short false u e = cc
version_two_found (a ∷ b ∷ c ∷ []) e = absurd (short (eqb 0x4d a) (eqb 0x51 b) (eqb 0x53 c) e)
  where
    short : (t u v : Bool) → (t && (u && (v && false))) ≡ true → ⊥
    short true true true e = cc
    short true true false e = cc
    short true false v e = cc
    short false u v e = cc
version_two_found (a ∷ b ∷ c ∷ d ∷ rest) e =
    let p = and_parts (eqb 0x4d a) (eqb 0x51 b && (eqb 0x53 c && (eqb 2 d && true))) e in
    let q = and_parts (eqb 0x51 b) (eqb 0x53 c && (eqb 2 d && true)) p.1 in
    let r = and_parts (eqb 0x53 c) (eqb 2 d && true) q.1 in
    let s = and_parts (eqb 2 d) true r.1 in
    rw (eqb-true 0x4d a p.0, eqb-true 0x51 b q.0, eqb-true 0x53 c r.0, eqb-true 2 d s.0) refl

found : TextLaws → (b : List ℕ) (v : value.Saved) → AreBytes b → read_saved b ≡ Ok v → IsSavedAs v b × IsSession v.session
unfolding read_saved
found texts b v h e =
    elim (has_version b) as (λ t. has_version b ≡ t
    → cond t (placed (length b) (first_at 268435455 (drop 4 b))) (cond (has_version_two b) (placed (length b) (second_at 268435455 (drop 4 b))) (Err Version)) ≡ Ok v → IsSavedAs v b × IsSession v.session) [
      | true ↦ λ version e.
          let text = version_found b version in
          let bytes = AreBytes-rest signature (drop 4 b) (subst AreBytes text h) in
          subst (λ (t : List ℕ). IsSavedAs v t × IsSession v.session) (sym text) (first_found (drop 4 b) v bytes (placed_ok (length b) (first_at 268435455 (drop 4 b)) v e))
      | false ↦ λ _ e. later e
    ] refl e
  where
    later : cond (has_version_two b) (placed (length b) (second_at 268435455 (drop 4 b))) (Err Version) ≡ Ok v → IsSavedAs v b × IsSession v.session
    later e =
        elim (has_version_two b) as (λ t. has_version_two b ≡ t → cond t (placed (length b) (second_at 268435455 (drop 4 b))) (Err Version) ≡ Ok v → IsSavedAs v b × IsSession v.session) [
          | true ↦ λ version e.
              let text = version_two_found b version in
              let bytes = AreBytes-rest signature_two (drop 4 b) (subst AreBytes text h) in
              subst (λ (t : List ℕ). IsSavedAs v t × IsSession v.session) (sym text) (second_found texts (drop 4 b) v bytes (placed_ok (length b) (second_at 268435455 (drop 4 b)) v e))
          | false ↦ λ _ e. absurd cc
        ] refl e

first : (s : Session) → IsSession s → s.sender.book.claimed ≡ [] → s.sender.room ≡ 0 → read_saved (saved_form s) ≡ Ok (record { client = None; established = false; session = s })
unfolding read_saved first_at
first s is unclaimed unreserved =
    let read = session_again 268435455 s is unclaimed unreserved in
    ap (λ (r : Result Session ℕ). placed (length (saved_form s)) (r >>= λ session. Ok (record { client = None; established = false; session = session }))) read

again : TextLaws → (client : List ℕ) (established : Bool) (s : Session) → IsText client → IsSession s → s.sender.book.claimed ≡ [] → s.sender.room ≡ 0
    → read_saved (saved_form_two client established s) ≡ Ok (record { client = Some client; established = established; session = s })
unfolding read_saved second_at
again texts client established s text is unclaimed unreserved =
    let body = saved_sender s.sender ++ saved_receiver s.receiver in
    let one = text_again texts client (bit established ∷ body) text in
    let two = flag_again established body in
    let three = session_again 268435455 s is unclaimed unreserved in
    rw (one, two, three) refl

pub laws : TextLaws → SavedTwoLaws
laws texts = record { first = first; again = again texts; found = found texts }

-- ---- loading

pub loads_saved : TextLaws → (r : Result value.Saved LoadError) (bytes : List ℕ) → AreBytes bytes → Loads r (read_saved bytes) → IfOk r (λ v. IsSavedAs v bytes × IsSession v.session)
loads_saved texts (Ok v) bytes h e = found texts bytes v h e
loads_saved texts (Err e) bytes h l = tt

-- a saved form is read back
read_back : TextLaws → (client : Option (List ℕ)) (established : Bool) (s : Session) (b : List ℕ) → IsSession s → IsSavedAs (record { client = client; established = established; session = s }) b
    → read_saved b ≡ Ok (record { client = client; established = established; session = s })
read_back texts None established s b is saved =
    ap read_saved saved.1.form ∙ first s is saved.1.unclaimed saved.1.unreserved ∙ ap (λ (e : Bool). Ok (record { client = None; established = e; session = s })) (sym saved.0)
read_back texts (Some client) established s b is saved = ap read_saved saved.form ∙ again texts client established s saved.text is saved.unclaimed saved.unreserved

pub loads_value : TextLaws → (r : Result value.Saved LoadError) (bytes : List ℕ) → Loads r (read_saved bytes) → (v : value.Saved) → IsSession v.session → IsSavedAs v bytes → MatchResult r (λ t. t ≡ v) (λ e. e ≡ Memory)
loads_value texts r bytes l v is saved = given r (subst (Loads r) (read_back texts v.client v.established v.session bytes is saved) l)
  where
    given : (r : Result value.Saved LoadError) → Loads r (Ok v) → MatchResult r (λ t. t ≡ v) (λ e. e ≡ Memory)
    given (Ok t) l = sym (ok l)
      where
        ok : ◌≡◌ {A = Result value.Saved LoadError} (Ok v) (Ok t) → v ≡ t
        ok e = cc
    given (Err Memory) l = refl
    given (Err Version) l = absurd cc
    given (Err (Malformed place)) l = absurd cc
    given (Err AnotherClient) l = absurd cc
    given (Err TooLarge) l = absurd cc
