-- The invariant with another end of a session.
use Rattle.std.proofs.Common.{◌≡◌, ℕ, ◌<◌, Bool, true, false, List, [], ◌∷◌, Some, refl, sym, ap, subst, ◌∙◌, arith, eqb, eqb-true}
use Rattle.std.proofs.lemmas.Bool.{cond-true, cond-false, cond_both}
use Rattle.std.specs.List.{AllByRecursion}
use Rattle.std.specs.Option.{is_some}
use Rattle.mq_end.specs.State.{EndState}
use Rattle.mq_tables.specs.declared.sessions.session.BrokerSession.{BrokerSession}
use Rattle.mq_tables.specs.Sessions.{served_by, session_at, with_server, AreBelow}
use Rattle.mq_tables.proofs.SessionLemmas.{acted_above}
use Rattle.mq_tables.proofs.SessionRoom.{all_there, key_there}

pub some_is : (s t : BrokerSession) → Some s ≡ Some t → s ≡ t
some_is s t e = cc

-- the first one has the key, and keys behind it are above
pub first_key : (key : ℕ) (s : BrokerSession) (ts : List BrokerSession) (e : EndState) → eqb s.key key ≡ true → AllByRecursion (λ u. s.key < u.key) ts → with_server key e ts ≡ ts
first_key key s ts e same above =
    let is = eqb-true s.key key same in
    acted_above (λ t. record t { end = e }) key s.key ts (omega arith) above

module _ (key : ℕ) (e : EndState) where
  served_key : (s : BrokerSession) → (served_by key e s).key ≡ s.key
  served_key s = cond_both (eqb s.key key) (record s { end = e }) s (λ (u : BrokerSession). u.key ≡ s.key) (λ h. refl) (λ h. refl)

  -- the same sessions exist
  pub stands_served : (c : ℕ) (ts : List BrokerSession) → is_some (session_at c (with_server key e ts)) ≡ is_some (session_at c ts)
  stands_served c [] = refl
  stands_served c (s ∷ ts) = go (served_by key e s) (served_key s) (eqb s.key c) refl (stands_served c ts)
    where
      go : (u : BrokerSession) → u.key ≡ s.key → (b : Bool) → eqb s.key c ≡ b → is_some (session_at c (with_server key e ts)) ≡ is_some (session_at c ts)
          → is_some (session_at c (u ∷ with_server key e ts)) ≡ is_some (session_at c (s ∷ ts))
      go u same true at rest =
          ap is_some (cond-true (eqb u.key c) (Some u) (session_at c (with_server key e ts)) (ap (λ (n : ℕ). eqb n c) same ∙ at))
          ∙ ap is_some (sym (cond-true (eqb s.key c) (Some s) (session_at c ts) at))
      go u same false at rest =
          ap is_some (cond-false (eqb u.key c) (Some u) (session_at c (with_server key e ts)) (ap (λ (n : ℕ). eqb n c) same ∙ at))
          ∙ rest ∙ ap is_some (sym (cond-false (eqb s.key c) (Some s) (session_at c ts) at))

  pub below_as : (next : ℕ) (ts : List BrokerSession) → AreBelow next ts → AreBelow next (with_server key e ts)
  below_as next [] all = tt
  below_as next (s ∷ ts) all = (subst (λ (n : ℕ). n < next) (sym (served_key s)) all.0, below_as next ts all.1)

-- the session of a key is among those of which something holds
pub holds_at : (P : BrokerSession → Type 0) (key : ℕ) (t : BrokerSession) (ts : List BrokerSession) → session_at key ts ≡ Some t → AllByRecursion P ts → P t
holds_at P key t ts there all = all_there P key t ts all there

-- and it has the key
pub key_is : (key : ℕ) (t : BrokerSession) (ts : List BrokerSession) → session_at key ts ≡ Some t → t.key ≡ key
key_is key t ts there = key_there key t ts there
