-- Sessions that expire (3.1.2.4).
use Rattle.std.proofs.Common.{◌≡◌, ℕ, zero, suc, ◌+◌, ◌<◌, ◌≤◌, ◌&&◌, not, Bool, true, false, cond, List, [], ◌∷◌, ◌++◌, length, map, filter, take, get_or, Option, Some, None, is_some, refl, ap, ◌∙◌, arith, true≢false}
use Rattle.std.proofs.lemmas.Bool.{cond-false, le-ltb}
use Rattle.mq_route.specs.Hub.{HubConnection, up_on}
use Rattle.mq_route.specs.Step.{has_passed}
use Rattle.mq_tables.specs.declared.sessions.session.BrokerSession.{BrokerSession}
use Rattle.mq_tables.specs.Expiry.{AreKept, gone_keys, is_gone}

-- ---- lists of keys

module _ (expiry : Option ℕ) (now : ℕ) (xs : List HubConnection) where
  -- one session more
  pub gone_more : (ts : List BrokerSession) (i : ℕ) (d : BrokerSession) → i < length ts
      → gone_keys expiry now xs (take (suc i) ts) ≡ gone_keys expiry now xs (take i ts) ++ cond (is_gone expiry now xs (get_or ts i d)) ((get_or ts i d).key ∷ []) []
  gone_more [] i d within = absurd (omega (arith, within))
  gone_more (t ∷ ts) zero d within = go (is_gone expiry now xs t)
    where
      go : (b : Bool) → map (λ (t : BrokerSession). t.key) (cond b (t ∷ []) []) ≡ cond b (t.key ∷ []) []
      go true = refl
      go false = refl
  gone_more (t ∷ ts) (suc i) d within = go (is_gone expiry now xs t) (gone_more ts i d (omega (arith, within)))
    where
      last : List ℕ
      last = cond (is_gone expiry now xs (get_or ts i d)) ((get_or ts i d).key ∷ []) []

      go : (b : Bool) → gone_keys expiry now xs (take (suc i) ts) ≡ gone_keys expiry now xs (take i ts) ++ last
          → map (λ (t : BrokerSession). t.key) (cond b (t ∷ filter (is_gone expiry now xs) (take (suc i) ts)) (filter (is_gone expiry now xs) (take (suc i) ts)))
          ≡ map (λ (t : BrokerSession). t.key) (cond b (t ∷ filter (is_gone expiry now xs) (take i ts)) (filter (is_gone expiry now xs) (take i ts))) ++ last
      go true rest = ap (λ (keys : List ℕ). t.key ∷ keys) rest
      go false rest = rest

  -- none is expired
  pub none_gone : (ts : List BrokerSession) → AreKept expiry now xs ts → gone_keys expiry now xs ts ≡ []
  none_gone [] kept = refl
  none_gone (t ∷ ts) kept =
      ap (map (λ (t : BrokerSession). t.key))
      (cond-false (is_gone expiry now xs t) (t ∷ filter (is_gone expiry now xs) ts) (filter (is_gone expiry now xs) ts) kept.0) ∙ none_gone ts kept.1

  -- one session more is kept
  pub kept_more : (ts : List BrokerSession) (i : ℕ) (d : BrokerSession) → i < length ts → AreKept expiry now xs (take i ts) → is_gone expiry now xs (get_or ts i d) ≡ false
      → AreKept expiry now xs (take (suc i) ts)
  kept_more [] i d within kept one = absurd (omega (arith, within))
  kept_more (t ∷ ts) zero d within kept one = (one, tt)
  kept_more (t ∷ ts) (suc i) d within kept one = (kept.0, kept_more ts i d (omega (arith, within)) kept.1 one)

-- a connected client's session is kept
pub kept_up : (expiry : Option ℕ) (now : ℕ) (xs : List HubConnection) (t : BrokerSession) → is_some (up_on t.key xs) ≡ true → is_gone expiry now xs t ≡ false
kept_up expiry now xs t up = ap (λ (b : Bool). not b && has_passed expiry t.left_at now) up

-- and one whose client disconnected no longer ago than the limit
pub kept_soon : (expiry now : ℕ) (xs : List HubConnection) (t : BrokerSession) → now ≤ t.left_at + expiry → is_gone (Some expiry) now xs t ≡ false
kept_soon expiry now xs t soon = ap (λ (b : Bool). not (is_some (up_on t.key xs)) && b) (le-ltb (t.left_at + expiry) now soon) ∙ go (not (is_some (up_on t.key xs)))
  where
    go : (b : Bool) → (b && false) ≡ false
    go true = refl
    go false = refl

-- without a limit all are kept
pub no_limit : (now : ℕ) (xs : List HubConnection) (ts : List BrokerSession) → AreKept None now xs ts
no_limit now xs [] = tt
no_limit now xs (t ∷ ts) = (go (not (is_some (up_on t.key xs))), no_limit now xs ts)
  where
    go : (b : Bool) → (b && false) ≡ false
    go true = refl
    go false = refl

pub never_gone : (expiry : Option ℕ) (now : ℕ) (xs : List HubConnection) (ts : List BrokerSession) → is_some expiry ≡ false → gone_keys expiry now xs ts ≡ []
never_gone None now xs ts none = none_gone None now xs ts (no_limit now xs ts)
never_gone (Some most) now xs ts none = absurd (true≢false none)
