-- Sessions that expire.
use Rattle.std.proofs.Common.{◌≡◌, inl, inr, ℕ, ◌+◌, Bool, true, false, cond, not, ◌&&◌, List, [], ◌∷◌, ◌++◌, map, filter, Option, Some, None, is_some, refl, sym, ap, subst, ◌∙◌, append_assoc, append-nil, eqb, eq-eqb, ltb-true, true≢false}
use Rattle.std.specs.List.{AllByRecursion}
use Rattle.mq_route.specs.declared.act.Act.TheVariants as acts
use Rattle.mq_route.specs.declared.close.HubClose.{HubClose}
use Rattle.mq_route.specs.declared.conn.Conn.{Conn}
use Rattle.mq_route.specs.Full.{IsAmong}
use Rattle.mq_route.specs.Hub.{HubState, HubSession, key_on, new_hub, stage_of, up_on, with_left}
use Rattle.mq_route.specs.Work.{Work, begin, close, remove, shut_down}
use Rattle.mq_route.specs.Step.{expire, expired_keys, has_passed, is_expired, remove_all}
use Rattle.mq_route.specs.Expired.{ExpiryLaws, IsAway}
use Rattle.mq_route.proofs.Events.{sound_new}
use Rattle.mq_route.proofs.Output.{sound_run}
use Rattle.mq_route.proofs.Remaining.{remaining_tick}

-- ---- the acts

removals : (keys : List ℕ) (w : Work) → (remove_all keys w).did ≡ w.did ++ map (λ key. acts.Removed key) keys
unfolding remove
removals [] w = sym (append-nil w.did)
removals (key ∷ keys) w = removals keys (remove key w) ∙ append_assoc w.did (acts.Removed key ∷ []) (map (λ key. acts.Removed key) keys)

removed : (h : HubState) → (expire h).did ≡ map (λ key. acts.Removed key) (expired_keys h)
unfolding expire
removed h = removals (expired_keys h) (begin h)

-- ---- which sessions expire

both : (a b : Bool) → (a && b) ≡ true → (a ≡ true) × (b ≡ true)
both true true e = (refl, refl)
both true false e = absurd (true≢false (sym e))
both false b e = absurd (true≢false (sym e))

none_up : (o : Option Conn) → not (is_some o) ≡ true → o ≡ None
none_up None e = refl
none_up (Some k) e = absurd (true≢false (sym e))

away_by : (h : HubState) (s : HubSession) (o : Option ℕ) → IsAmong s h.sessions → h.config.session_expiry ≡ o → up_on s.key h.connections ≡ None → has_passed o s.left h.clock ≡ true → IsAway h s.key
away_by h s None among limit absent passed = absurd (true≢false (sym passed))
away_by h s (Some most) among limit absent passed =
    record { session = s; exists = among; named = refl; absent = absent; most = most; limit = limit; longer = ltb-true (s.left + most) h.clock passed }

away : (h : HubState) → AllByRecursion (IsAway h) (expired_keys h)
away h = go h.sessions (λ s among. among)
  where
    one : (s : HubSession) (b : Bool) → IsAmong s h.sessions → is_expired h s ≡ b → (rest : List HubSession) → AllByRecursion (IsAway h) (map (λ s. s.key) rest)
        → AllByRecursion (IsAway h) (map (λ s. s.key) (cond b (s ∷ rest) rest))
    one s true among e rest all =
        let parts = both (not (is_some (up_on s.key h.connections))) (has_passed h.config.session_expiry s.left h.clock) e in
        (away_by h s h.config.session_expiry among refl (none_up (up_on s.key h.connections) parts.0) parts.1, all)
    one s false among e rest all = all

    go : (ss : List HubSession) → ((s : HubSession) → IsAmong s ss → IsAmong s h.sessions) → AllByRecursion (IsAway h) (map (λ s. s.key) (filter (is_expired h) ss))
    go [] within = tt
    go (s ∷ ss) within = one s (is_expired h s) (within s (inl refl)) refl (filter (is_expired h) ss) (go ss (λ t among. within t (inr among)))

-- without a limit, none does
none_expired : (h : HubState) → h.config.session_expiry ≡ None → expired_keys h ≡ []
none_expired h none = go h.sessions
  where
    and_no : (a : Bool) → (a && false) ≡ false
    and_no true = refl
    and_no false = refl

    go : (ss : List HubSession) → map (λ s. s.key) (filter (is_expired h) ss) ≡ []
    go [] = refl
    go (s ∷ ss) =
        ap (λ (b : Bool). map (λ s. s.key) (cond b (s ∷ filter (is_expired h) ss) (filter (is_expired h) ss)))
        (ap (λ (o : Option ℕ). not (is_some (up_on s.key h.connections)) && has_passed o s.left h.clock) none ∙ and_no (not (is_some (up_on s.key h.connections))))
        ∙ go ss

never : (h : HubState) → h.config.session_expiry ≡ None → expire h ≡ begin h
unfolding expire
never h none = ap (λ (keys : List ℕ). remove_all keys (begin h)) (none_expired h none)

-- ---- the time of a disconnect

marked : (key now : ℕ) (ss : List HubSession) → AllByRecursion (λ s. s.key ≡ key → s.left ≡ now) (with_left (Some key) now ss)
marked key now [] = tt
marked key now (s ∷ ss) = (one (eqb s.key key) refl, marked key now ss)
  where
    one : (b : Bool) → eqb s.key key ≡ b → (cond b (record s { left = now }) s).key ≡ key → (cond b (record s { left = now }) s).left ≡ now
    one true e same = refl
    one false e same = absurd (true≢false (sym (eq-eqb s.key key same) ∙ e))

left : (k : Conn) (why : HubClose) (fits : Bool) (w : Work) (key : ℕ) → key_on (stage_of k w.hub.connections) ≡ Some key
    → AllByRecursion (λ s. s.key ≡ key → s.left ≡ w.hub.clock) (close k why fits w).hub.sessions
unfolding close
left k why fits w key up = by (key_on (stage_of k w.hub.connections)) up
  where
    by : (o : Option ℕ) → o ≡ Some key → AllByRecursion (λ s. s.key ≡ key → s.left ≡ w.hub.clock) (with_left o w.hub.clock (shut_down k why fits w).hub.sessions)
    by None e = absurd cc
    by (Some c) e =
        let same : c ≡ key = cc in
        subst (λ (n : ℕ). AllByRecursion (λ s. s.key ≡ key → s.left ≡ w.hub.clock) (with_left (Some n) w.hub.clock (shut_down k why fits w).hub.sessions)) (sym same)
        (marked key w.hub.clock (shut_down k why fits w).hub.sessions)

pub laws : ExpiryLaws
laws = record {
  first = λ h now r w d. d.0;
  removed = removed;
  away = away;
  never = never;
  left = left;
  remaining = λ config before h f now r w d most is. remaining_tick h now r w d (sound_run before (new_hub config) h f (sound_new config)) most is;
}
