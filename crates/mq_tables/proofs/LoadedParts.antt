-- A broker that is made from a snapshot: numbers, subscriptions, retained messages and sessions.
use Rattle.std.proofs.Common.{◌≡◌, ℕ, ◌<◌, List, [], ◌∷◌, length, slice_get, Some, suc, refl, sym, ap, subst, ◌∙◌, ◌-◌, arith}
use Rattle.mq_tables.specs.declared.sessions.session.BrokerSession.{BrokerSession}
use Rattle.mq_tables.specs.Sessions.{sessions_of, AreAscending, AreBelow}

-- ---- a new broker

pub no_sessions : (ts : List BrokerSession) → sessions_of ts ≡ [] → ts ≡ []
no_sessions [] e = refl
no_sessions (t ∷ ts) e = absurd cc

-- ---- a key above the last one

pub below_above : (key : ℕ) (ts : List BrokerSession) (t : BrokerSession) → AreAscending ts → slice_get ts (length ts - 1) ≡ Some t → t.key < key → AreBelow key ts
below_above key [] t up at less = tt
below_above key (s ∷ []) t up at less =
    let is : s ≡ t = cc in
    (subst (λ (r : BrokerSession). r.key < key) (sym is) less, tt)
below_above key (s ∷ r ∷ ts) t up at less =
    let size : length (s ∷ r ∷ ts) - 1 ≡ suc (length (r ∷ ts) - 1) = omega arith in
    let later : slice_get (r ∷ ts) (length (r ∷ ts) - 1) ≡ Some t = sym (ap (slice_get (s ∷ r ∷ ts)) size) ∙ at in
    let rest : AreBelow key (r ∷ ts) = below_above key (r ∷ ts) t up.1 later less in
    let first = up.0.0 in
    let second = rest.0 in
    (omega arith, rest)
