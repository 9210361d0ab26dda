-- A session of the table is found by its key, and then acts.
use Rattle.std.proofs.Common.{◌≡◌, ◌∙◌, ◌<◌, ℕ, List, ◌++◌, Option, Some, is_some, true, take, drop, length, length-set, get_or, slice_set, sym, ap, subst}
use Rattle.std.specs.Option.{IfSome}
use Rattle.mq_tables.specs.declared.sessions.session.BrokerSession.{BrokerSession}
use Rattle.mq_tables.specs.Sessions.{AreAscending, AreSessions, SessionTable, session_at}
use Rattle.mq_tables.proofs.SessionLemmas.{acted_at, found_within, in_place, kept_acted, place, set_acted, written}

-- the `len` sessions `ts` of a table, after the item at an index of the lent list was set
abbrev pub set_back : ℕ → List BrokerSession → List BrokerSession → ℕ → BrokerSession → List BrokerSession
set_back len ts lent at x = take len (slice_set lent at x ++ drop (length (slice_set lent at x)) ts)

-- The session of a key is found, at an index of the list that the table lends. `seen` are the
-- sessions of its model. Once the session acted, the model is as if it acted there.
pub record IsFound (key : ℕ) (ts seen lent : List BrokerSession) (find : List ℕ → Option ℕ) (len at : ℕ) : Type 0 where
  pub ascending : AreAscending seen
  pub within : at < length lent
  pub there : (d : BrokerSession) → session_at key seen ≡ Some (get_or lent at d)
  pub after : (d : BrokerSession) (f : BrokerSession → BrokerSession) (x : BrokerSession) → x ≡ f (get_or lent at d) → set_back len ts lent at x ≡ acted_at f key seen
  pub kept : (d : BrokerSession) (f : BrokerSession → BrokerSession) → ((t : BrokerSession) → (f t).key ≡ t.key) → ((t : BrokerSession) → (f t).client ≡ t.client)
      → (x : BrokerSession) → x ≡ f (get_or lent at d) → AreSessions (set_back len ts lent at x) find

pub find_session : (key : ℕ) {old seen : SessionTable} {lent : List BrokerSession} {find : List ℕ → Option ℕ} {len at : ℕ} → old ≡ seen → lent ≡ old.list → len ≡ length old.list
    → AreSessions old.list find → is_some (session_at key seen.list) ≡ true → at ≡ place key lent → IsFound key old.list seen.list lent find len at
find_session key {old = old} {seen = seen} {lent = lent} {find = find} {len = len} {at = at} view list whole table there is = record {
  ascending = subst AreAscending (ap (λ (v : SessionTable). v.list) view) table.ascending;
  within = subst (λ (n : ℕ). n < length lent) (sym is) (found_within key lent up stands);
  there = λ d. ap (session_at key) (sym (list ∙ ap (λ (v : SessionTable). v.list) view)) ∙ here d;
  after = λ d f x same. acted d f x same ∙ ap (λ (v : SessionTable). acted_at f key v.list) view;
  kept = λ d f keyed named x same.
      subst (λ (rs : List BrokerSession). AreSessions rs find) (sym (acted d f x same)) (kept_acted f keyed named key old.list find table);
}
  where
    up : AreAscending lent
    up = subst AreAscending (sym list) table.ascending

    stands : is_some (session_at key lent) ≡ true
    stands = ap (λ (rs : List BrokerSession). is_some (session_at key rs)) (list ∙ ap (λ (v : SessionTable). v.list) view) ∙ there

    here : (d : BrokerSession) → session_at key lent ≡ Some (get_or lent at d)
    here d = (in_place key lent d up stands).here ∙ ap (λ (n : ℕ). Some (get_or lent n d)) (sym is)

    acted : (d : BrokerSession) (f : BrokerSession → BrokerSession) (x : BrokerSession) → x ≡ f (get_or lent at d) → set_back len old.list lent at x ≡ acted_at f key old.list
    acted d f x same =
        ap (λ (n : ℕ). take n (slice_set lent at x ++ drop (length (slice_set lent at x)) old.list)) whole
        ∙ written (slice_set lent at x) old.list (length-set lent at x ∙ ap length list)
        ∙ ap (slice_set lent at) same
        ∙ ap (λ (n : ℕ). slice_set lent n (f (get_or lent at d))) is
        ∙ set_acted f key (get_or lent at d) lent up (here d)
        ∙ ap (acted_at f key) list

module _ {key : ℕ} {ts seen lent : List BrokerSession} {find : List ℕ → Option ℕ} {len at : ℕ} (f : IsFound key ts seen lent find len at) (d : BrokerSession) where
  -- a fact of the session
  pub some_found : (P : BrokerSession → Type 0) → P (get_or lent at d) → IfSome (session_at key seen) P
  some_found P p = subst (λ (o : Option BrokerSession). IfSome o P) (sym (f.there d)) p
