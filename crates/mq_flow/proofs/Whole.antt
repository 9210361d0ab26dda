-- The laws of the whole saved form, and the result of loading.
use Rattle.std.proofs.Common.{◌≡◌, ℕ, Bool, true, false, cond, ◌&&◌, eqb, List, [], ◌∷◌, ◌++◌, length, drop, Result, Ok, Err, IfOk, MatchResult, refl, sym, ap, subst, ◌∙◌}
use Rattle.std.proofs.lemmas.Bool.{and_parts, eqb-true}
use Rattle.std.proofs.lemmas.List.{append-nil}
use Rattle.std.specs.FinSet.{contains}
use Rattle.mq_packet.specs.Identifier.{IsIdentifier}
use Rattle.mq_flow.specs.declared.load.LoadError.{LoadError}
use Rattle.mq_flow.specs.declared.load.LoadError.TheVariants.{Version, Malformed, Memory, AnotherClient, TooLarge}
use Rattle.mq_flow.specs.declared.session.Session.{Session}
use Rattle.mq_flow.specs.Sending.{Sending}
use Rattle.mq_flow.specs.Receiver.{ReceiverBook}
use Rattle.mq_flow.specs.Saved.{signature, saved_sender, saved_receiver, saved_form, Saved, IsSession, IsSessionWithin}
use Rattle.mq_wire.specs.Bytes.{AreBytes}
use Rattle.mq_flow.specs.Loading.{◌>>=◌, end_at, sender_at, receiver_at, session_at, has_version, placed, read_session, Loads}
use Rattle.mq_flow.specs.SavedLaws.{SavedLaws}
use Rattle.mq_flow.proofs.Fields.{bind_ok, ok_is, AreBytes-rest, Takes}
use Rattle.mq_flow.proofs.SessionForms.{SenderTaken, sender_found, sender_again, receiver_found, receiver_again}

-- ---- The rest behind the version

end_found : (bytes : List ℕ) (u : Unit {0}) → end_at bytes ≡ Ok u → bytes ≡ []
end_found [] u e = refl
end_found (b ∷ bytes) u e = absurd cc

pub record SessionTaken (limit : ℕ) (bytes : List ℕ) (s : Session) : Type 0 where
  pub text : bytes ≡ saved_sender s.sender ++ saved_receiver s.receiver
  pub unclaimed : s.sender.book.claimed ≡ []
  pub unreserved : s.sender.room ≡ 0
  pub is : IsSessionWithin limit s

pub session_found : (limit : ℕ) → (bytes : List ℕ) (s : Session) → AreBytes bytes → session_at limit bytes ≡ Ok s → SessionTaken limit bytes s
unfolding session_at
session_found limit bytes s h e =
    let x = bind_ok (sender_at limit bytes) (λ sender. receiver_at sender.1 >>= λ receiver. end_at receiver.1 >>= λ end. Ok (record { sender = sender.0; receiver = receiver.0 })) s e in
    let taken = sender_found limit bytes x.0 h x.1 in
    let y = bind_ok (receiver_at x.0.1) (λ receiver. end_at receiver.1 >>= λ end. Ok (record { sender = x.0.0; receiver = receiver.0 })) s x.2 in
    let stored = receiver_found x.0.1 y.0 taken.takes.rest_bytes y.1 in
    let z = bind_ok (end_at y.0.1) (λ end. Ok (record { sender = x.0.0; receiver = y.0.0 })) s y.2 in
    subst (SessionTaken limit bytes) (ok_is (record { sender = x.0.0; receiver = y.0.0 }) s z.2)
    (whole x.0.0 x.0.1 y.0.0 y.0.1 taken stored.0 stored.1 (end_found y.0.1 z.0 z.1))
  where
    whole : (t : Sending) (behind : List ℕ) (r : ReceiverBook) (rest : List ℕ) → SenderTaken limit bytes t behind → Takes behind (saved_receiver r) rest
        → ((i : ℕ) → contains r i ≡ true → IsIdentifier i) → rest ≡ [] → SessionTaken limit bytes (record { sender = t; receiver = r })
    whole t behind r rest first second received none = record {
      text = first.takes.parts ∙ ap (λ (b : List ℕ). saved_sender t ++ b) (second.parts ∙ ap (λ (b : List ℕ). saved_receiver r ++ b) none ∙ append-nil (saved_receiver r));
      unclaimed = first.unclaimed;
      unreserved = first.unreserved;
      is = record { sound = first.sound; able = first.able; most = first.most; last = first.last; entries = first.entries; received = received };
    }

pub session_again : (limit : ℕ) → (s : Session) → IsSessionWithin limit s → s.sender.book.claimed ≡ [] → s.sender.room ≡ 0 → session_at limit (saved_sender s.sender ++ saved_receiver s.receiver) ≡ Ok s
unfolding session_at
session_again limit s is unclaimed unreserved =
    let first = sender_again limit s.sender (saved_receiver s.receiver) unclaimed unreserved is.able is.sound is.entries in
    let second : receiver_at (saved_receiver s.receiver) ≡ Ok (s.receiver, []) = ap receiver_at (sym (append-nil (saved_receiver s.receiver))) ∙ receiver_again s.receiver [] is.received in
    rw (first, second) refl

-- ---- the whole

pub version_found : (bytes : List ℕ) → has_version bytes ≡ true → bytes ≡ signature ++ drop 4 bytes
version_found [] e = absurd cc
version_found (a ∷ []) e = absurd (short (eqb 0x4d a) e)
  where
    short : (t : Bool) → (t && false) ≡ true → ⊥
    short true e = cc
    short false e = cc
version_found (a ∷ b ∷ []) e = absurd (short (eqb 0x4d a) (eqb 0x51 b) e)
  where
    short : (t u : Bool) → (t && (u && false)) ≡ true → ⊥
    short true true e = cc
    short true false e = cc
    short false u e = cc
version_found (a ∷ b ∷ c ∷ []) e = absurd (short (eqb 0x4d a) (eqb 0x51 b) (eqb 0x53 c) e)
  where
    short : (t u v : Bool) → (t && (u && (v && false))) ≡ true → ⊥
    short true true true e = cc
    short true true false e = cc
    short true false v e = cc
    short false u v e = cc
version_found (a ∷ b ∷ c ∷ d ∷ rest) e =
    let p = and_parts (eqb 0x4d a) (eqb 0x51 b && (eqb 0x53 c && (eqb 1 d && true))) e in
    let q = and_parts (eqb 0x51 b) (eqb 0x53 c && (eqb 1 d && true)) p.1 in
    let r = and_parts (eqb 0x53 c) (eqb 1 d && true) q.1 in
    let s = and_parts (eqb 1 d) true r.1 in
    rw (eqb-true 0x4d a p.0, eqb-true 0x51 b q.0, eqb-true 0x53 c r.0, eqb-true 1 d s.0) refl

pub placed_ok : {A : Type 0} (n : ℕ) (r : Result A ℕ) (x : A) → placed n r ≡ Ok x → r ≡ Ok x
placed_ok {A = A} n (Ok y) x e = ap (λ (z : A). Ok z) (same y x e)
  where
    same : (y x : A) → ◌≡◌ {A = Result A LoadError} (Ok y) (Ok x) → y ≡ x
    same y x e = cc
placed_ok n (Err left) s e = absurd cc

found : (b : List ℕ) (s : Session) → AreBytes b → read_session b ≡ Ok s → Saved s b × IsSession s
unfolding read_session
found b s h e =
    elim (has_version b) as (λ t. has_version b ≡ t → cond t (placed (length b) (session_at 268435455 (drop 4 b))) (Err Version) ≡ Ok s → Saved s b × IsSession s) [
      | true ↦ λ version e.
          let text = version_found b version in
          let taken = session_found 268435455 (drop 4 b) s (AreBytes-rest signature (drop 4 b) (subst AreBytes text h)) (placed_ok (length b) (session_at 268435455 (drop 4 b)) s e) in
          (record { unclaimed = taken.unclaimed; unreserved = taken.unreserved; form = text ∙ ap (λ (t : List ℕ). signature ++ t) taken.text }, taken.is)
      | false ↦ λ _ e. absurd cc
    ] refl e

again : (s : Session) → IsSession s → s.sender.book.claimed ≡ [] → s.sender.room ≡ 0 → read_session (saved_form s) ≡ Ok s
unfolding read_session
again s is unclaimed unreserved = ap (placed (length (saved_form s))) (session_again 268435455 s is unclaimed unreserved)

pub laws : SavedLaws
laws = record {
  again = again;
  found = found;
  one = λ limit b s t is it p q. same s t
      (sym (session_again limit s is p.unclaimed p.unreserved) ∙ ap (session_at limit) (ap (drop 4) (sym p.form ∙ q.form)) ∙ session_again limit t it q.unclaimed q.unreserved);
}
  where
    same : (s t : Session) → ◌≡◌ {A = Result Session ℕ} (Ok s) (Ok t) → s ≡ t
    same s t e = cc

-- ---- loading

pub loads_saved : (r : Result Session LoadError) (bytes : List ℕ) → AreBytes bytes → Loads r (read_session bytes) → IfOk r (λ s. Saved s bytes × IsSession s)
loads_saved (Ok s) bytes h e = found bytes s h e
loads_saved (Err e) bytes h l = tt

pub loads_session : (r : Result Session LoadError) (bytes : List ℕ) → Loads r (read_session bytes) → (s : Session) → IsSession s → Saved s bytes → MatchResult r (λ t. t ≡ s) (λ e. e ≡ Memory)
loads_session r bytes l s is saved = given r (subst (Loads r) (ap read_session saved.form ∙ again s is saved.unclaimed saved.unreserved) l)
  where
    given : (r : Result Session LoadError) → Loads r (Ok s) → MatchResult r (λ t. t ≡ s) (λ e. e ≡ Memory)
    given (Ok t) l = sym (ok l)
      where
        ok : ◌≡◌ {A = Result Session LoadError} (Ok s) (Ok t) → s ≡ t
        ok e = cc
    given (Err Memory) l = refl
    given (Err Version) l = absurd cc
    given (Err (Malformed place)) l = absurd cc
    given (Err AnotherClient) l = absurd cc
    given (Err TooLarge) l = absurd cc
