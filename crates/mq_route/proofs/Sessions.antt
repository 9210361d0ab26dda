-- Changes of the sessions, and lookups after them.
use Rattle.std.proofs.Common.{◌≡◌, ℕ, Bool, true, false, not, cond, List, [], ◌∷◌, ◌++◌, Option, Some, refl, sym, ap, subst, ◌∙◌, eqb, eqb-true, eq-eqb, true≢false}
use Rattle.std.proofs.lemmas.Bool.{cond_both, cond-true, cond-false}
use Rattle.std.specs.Str.{bytes_eq}
use Rattle.mq_end.specs.End.{End}
use Rattle.mq_route.specs.Hub.{HubSession, no_end, end_of, ending_in, with_end, is_session, leaving, with_left, without_session, key_of}

-- there is a session of this key
abbrev pub has : ℕ → List HubSession → Bool
has c [] = false
has c (s ∷ ss) = cond (eqb s.key c) true (has c ss)

pub other_key : (a b c : ℕ) → eqb a b ≡ true → eqb b c ≡ false → eqb a c ≡ false
other_key a b c e f = subst (λ (n : ℕ). eqb n c ≡ false) (sym (eqb-true a b e)) f

-- ---- a session gets another end

key_kept : (key : ℕ) (e : End) (s : HubSession) → (ending_in key e s).key ≡ s.key
key_kept key e s = cond_both (eqb s.key key) (record s { end = e }) s (λ (t : HubSession). t.key ≡ s.key) (λ h. refl) (λ h. refl)

pub has_with : (key : ℕ) (e : End) (c : ℕ) (ss : List HubSession) → has c (with_end key e ss) ≡ has c ss
has_with key e c [] = refl
has_with key e c (s ∷ ss) = λ i. cond (eqb (key_kept key e s i) c) true (has_with key e c ss i)

pub end_with : (key : ℕ) (e : End) (ss : List HubSession) → has key ss ≡ true → end_of key (with_end key e ss) ≡ e
end_with key e [] h = absurd cc
end_with key e (s ∷ ss) h = go (eqb s.key key) refl (end_with key e ss)
  where
    go : (t : Bool) → eqb s.key key ≡ t → (has key ss ≡ true → end_of key (with_end key e ss) ≡ e) → end_of key (with_end key e (s ∷ ss)) ≡ e
    go true k ih =
        ap (λ (t : HubSession). cond (eqb t.key key) t.end (end_of key (with_end key e ss))) (cond-true (eqb s.key key) (record s { end = e }) s k)
        ∙ cond-true (eqb s.key key) e (end_of key (with_end key e ss)) k
    go false k ih =
        ap (λ (t : HubSession). cond (eqb t.key key) t.end (end_of key (with_end key e ss))) (cond-false (eqb s.key key) (record s { end = e }) s k)
        ∙ cond-false (eqb s.key key) s.end (end_of key (with_end key e ss)) k
        ∙ ih (sym (cond-false (eqb s.key key) true (has key ss) k) ∙ h)

pub end_with_other : (key : ℕ) (e : End) (c : ℕ) (ss : List HubSession) → eqb key c ≡ false → end_of c (with_end key e ss) ≡ end_of c ss
end_with_other key e c [] apart = refl
end_with_other key e c (s ∷ ss) apart = go (eqb s.key key) refl (end_with_other key e c ss apart)
  where
    go : (t : Bool) → eqb s.key key ≡ t → end_of c (with_end key e ss) ≡ end_of c ss → end_of c (with_end key e (s ∷ ss)) ≡ end_of c (s ∷ ss)
    go true k ih =
        let far : eqb s.key c ≡ false = other_key s.key key c k apart in
        ap (λ (t : HubSession). cond (eqb t.key c) t.end (end_of c (with_end key e ss))) (cond-true (eqb s.key key) (record s { end = e }) s k)
        ∙ cond-false (eqb s.key c) e (end_of c (with_end key e ss)) far
        ∙ ih
        ∙ sym (cond-false (eqb s.key c) s.end (end_of c ss) far)
    go false k ih =
        ap (λ (t : HubSession). cond (eqb t.key c) t.end (end_of c (with_end key e ss))) (cond-false (eqb s.key key) (record s { end = e }) s k)
        ∙ ap (λ (x : End). cond (eqb s.key c) s.end x) ih

pub end_with_none : (key : ℕ) (e : End) (ss : List HubSession) → has key ss ≡ false → with_end key e ss ≡ ss
end_with_none key e [] h = refl
end_with_none key e (s ∷ ss) h = go (eqb s.key key) refl (end_with_none key e ss)
  where
    go : (t : Bool) → eqb s.key key ≡ t → (has key ss ≡ false → with_end key e ss ≡ ss) → with_end key e (s ∷ ss) ≡ s ∷ ss
    go true k ih = absurd (true≢false (sym (cond-true (eqb s.key key) true (has key ss) k) ∙ h))
    go false k ih =
        λ i. cond-false (eqb s.key key) (record s { end = e }) s k i ∷ ih (sym (cond-false (eqb s.key key) true (has key ss) k) ∙ h) i

-- A property P of a client, of whether it has a session, and of its end holds of all if it holds of
-- the new end.
pub each_there : (P : ℕ → Bool → End → Type 0) (key : ℕ) (e : End) (ss : List HubSession) → has key ss ≡ true → P key true e → ((c : ℕ) → eqb key c ≡ false → P c (has c ss) (end_of c ss))
    → (c : ℕ) → P c (has c (with_end key e ss)) (end_of c (with_end key e ss))
each_there P key e ss there new others c = go (eqb key c) refl
  where
    go : (same : Bool) → eqb key c ≡ same → P c (has c (with_end key e ss)) (end_of c (with_end key e ss))
    go true k =
        subst (λ (d : ℕ). P d (has d (with_end key e ss)) (end_of d (with_end key e ss))) (eqb-true key c k)
        (subst (λ (b : Bool). P key b (end_of key (with_end key e ss))) (sym (has_with key e key ss ∙ there))
        (subst (P key true) (sym (end_with key e ss there)) new))
    go false k =
        subst (λ (b : Bool). P c b (end_of c (with_end key e ss))) (sym (has_with key e c ss))
        (subst (P c (has c ss)) (sym (end_with_other key e c ss k)) (others c k))

pub each_with : (P : ℕ → Bool → End → Type 0) (key : ℕ) (e : End) (ss : List HubSession) → ((c : ℕ) → P c (has c ss) (end_of c ss)) → (has key ss ≡ true → P key true e)
    → (c : ℕ) → P c (has c (with_end key e ss)) (end_of c (with_end key e ss))
each_with P key e ss all new c = go (has key ss) refl
  where
    go : (there : Bool) → has key ss ≡ there → P c (has c (with_end key e ss)) (end_of c (with_end key e ss))
    go true t = each_there P key e ss t (new t) (λ d k. all d) c
    go false t = subst (λ (l : List HubSession). P c (has c l) (end_of c l)) (sym (end_with_none key e ss t)) (all c)

-- ---- a session stores the time of a disconnect

key_stays : (key : Option ℕ) (now : ℕ) (s : HubSession) → (leaving key now s).key ≡ s.key
key_stays key now s = cond_both (is_session key s) (record s { left = now }) s (λ (t : HubSession). t.key ≡ s.key) (λ h. refl) (λ h. refl)

end_stays : (key : Option ℕ) (now : ℕ) (s : HubSession) → (leaving key now s).end ≡ s.end
end_stays key now s = cond_both (is_session key s) (record s { left = now }) s (λ (t : HubSession). t.end ≡ s.end) (λ h. refl) (λ h. refl)

pub has_left : (key : Option ℕ) (now c : ℕ) (ss : List HubSession) → has c (with_left key now ss) ≡ has c ss
has_left key now c [] = refl
has_left key now c (s ∷ ss) = λ i. cond (eqb (key_stays key now s i) c) true (has_left key now c ss i)

pub end_left : (key : Option ℕ) (now c : ℕ) (ss : List HubSession) → end_of c (with_left key now ss) ≡ end_of c ss
end_left key now c [] = refl
end_left key now c (s ∷ ss) = λ i. cond (eqb (key_stays key now s i) c) (end_stays key now s i) (end_left key now c ss i)

-- A property of each client, of whether it has a session, and of its end stays.
pub each_left : (P : ℕ → Bool → End → Type 0) (key : Option ℕ) (now : ℕ) (ss : List HubSession) → ((c : ℕ) → P c (has c ss) (end_of c ss))
    → (c : ℕ) → P c (has c (with_left key now ss)) (end_of c (with_left key now ss))
each_left P key now ss all c =
    subst (λ (b : Bool). P c b (end_of c (with_left key now ss))) (sym (has_left key now c ss)) (subst (P c (has c ss)) (sym (end_left key now c ss)) (all c))

-- ---- a session is removed

pub has_without : (key c : ℕ) (ss : List HubSession) → has c (without_session key ss) ≡ cond (eqb key c) false (has c ss)
has_without key c [] = go (eqb key c)
  where
    go : (b : Bool) → false ≡ cond b false false
    go true = refl
    go false = refl
has_without key c (s ∷ ss) = go (eqb s.key key) refl (has_without key c ss)
  where
    here : (b : Bool) → eqb key c ≡ b → eqb s.key key ≡ true → has c (without_session key ss) ≡ cond b false (has c ss) → has c (without_session key ss) ≡ cond b false (cond (eqb s.key c) true (has c ss))
    here true k e ih = ih
    here false k e ih = ih ∙ sym (cond-false (eqb s.key c) true (has c ss) (other_key s.key key c e k))

    there : (b : Bool) → eqb key c ≡ b → eqb s.key key ≡ false → has c (without_session key ss) ≡ cond b false (has c ss)
        → cond (eqb s.key c) true (has c (without_session key ss)) ≡ cond b false (cond (eqb s.key c) true (has c ss))
    there true k e ih =
        cond-false (eqb s.key c) true (has c (without_session key ss)) (subst (λ (d : ℕ). eqb s.key d ≡ false) (eqb-true key c k) e) ∙ ih
    there false k e ih = ap (λ (b : Bool). cond (eqb s.key c) true b) ih

    go : (t : Bool) → eqb s.key key ≡ t → has c (without_session key ss) ≡ cond (eqb key c) false (has c ss) → has c (without_session key (s ∷ ss)) ≡ cond (eqb key c) false (has c (s ∷ ss))
    go true e ih = ap (has c) (cond-false (not (eqb s.key key)) (s ∷ without_session key ss) (without_session key ss) (ap not e)) ∙ here (eqb key c) refl e ih
    go false e ih = ap (has c) (cond-true (not (eqb s.key key)) (s ∷ without_session key ss) (without_session key ss) (ap not e)) ∙ there (eqb key c) refl e ih

pub end_without : (key c : ℕ) (ss : List HubSession) → end_of c (without_session key ss) ≡ cond (eqb key c) no_end (end_of c ss)
end_without key c [] = go (eqb key c)
  where
    go : (b : Bool) → no_end ≡ cond b no_end no_end
    go true = refl
    go false = refl
end_without key c (s ∷ ss) = go (eqb s.key key) refl (end_without key c ss)
  where
    here : (b : Bool) → eqb key c ≡ b → eqb s.key key ≡ true → end_of c (without_session key ss) ≡ cond b no_end (end_of c ss) → end_of c (without_session key ss) ≡ cond b no_end (cond (eqb s.key c) s.end (end_of c ss))
    here true k e ih = ih
    here false k e ih = ih ∙ sym (cond-false (eqb s.key c) s.end (end_of c ss) (other_key s.key key c e k))

    there : (b : Bool) → eqb key c ≡ b → eqb s.key key ≡ false → end_of c (without_session key ss) ≡ cond b no_end (end_of c ss)
        → cond (eqb s.key c) s.end (end_of c (without_session key ss)) ≡ cond b no_end (cond (eqb s.key c) s.end (end_of c ss))
    there true k e ih =
        cond-false (eqb s.key c) s.end (end_of c (without_session key ss)) (subst (λ (d : ℕ). eqb s.key d ≡ false) (eqb-true key c k) e) ∙ ih
    there false k e ih = ap (λ (x : End). cond (eqb s.key c) s.end x) ih

    go : (t : Bool) → eqb s.key key ≡ t → end_of c (without_session key ss) ≡ cond (eqb key c) no_end (end_of c ss) → end_of c (without_session key (s ∷ ss)) ≡ cond (eqb key c) no_end (end_of c (s ∷ ss))
    go true e ih = ap (end_of c) (cond-false (not (eqb s.key key)) (s ∷ without_session key ss) (without_session key ss) (ap not e)) ∙ here (eqb key c) refl e ih
    go false e ih = ap (end_of c) (cond-true (not (eqb s.key key)) (s ∷ without_session key ss) (without_session key ss) (ap not e)) ∙ there (eqb key c) refl e ih

pub each_without : (P : ℕ → Bool → End → Type 0) (key : ℕ) (ss : List HubSession) → ((c : ℕ) → P c (has c ss) (end_of c ss)) → P key false no_end
    → (c : ℕ) → P c (has c (without_session key ss)) (end_of c (without_session key ss))
each_without P key ss all gone c =
    subst (λ (b : Bool). P c b (end_of c (without_session key ss))) (sym (has_without key c ss))
    (subst (P c (cond (eqb key c) false (has c ss))) (sym (end_without key c ss)) (go (eqb key c) refl))
  where
    go : (b : Bool) → eqb key c ≡ b → P c (cond b false (has c ss)) (cond b no_end (end_of c ss))
    go true k = subst (λ (d : ℕ). P d false no_end) (eqb-true key c k) gone
    go false k = all c

-- ---- a new session

pub has_new : (s : HubSession) (c : ℕ) (ss : List HubSession) → has c (ss ++ s ∷ []) ≡ cond (has c ss) true (eqb s.key c)
has_new s c [] = go (eqb s.key c)
  where
    go : (b : Bool) → cond b true false ≡ b
    go true = refl
    go false = refl
has_new s c (t ∷ ss) = go (eqb t.key c) (has_new s c ss)
  where
    go : (b : Bool) → has c (ss ++ s ∷ []) ≡ cond (has c ss) true (eqb s.key c) → cond b true (has c (ss ++ s ∷ [])) ≡ cond (cond b true (has c ss)) true (eqb s.key c)
    go true ih = refl
    go false ih = ih

pub end_new : (s : HubSession) (c : ℕ) (ss : List HubSession) → end_of c (ss ++ s ∷ []) ≡ cond (has c ss) (end_of c ss) (cond (eqb s.key c) s.end no_end)
end_new s c [] = refl
end_new s c (t ∷ ss) = go (eqb t.key c) (end_new s c ss)
  where
    go : (b : Bool) → end_of c (ss ++ s ∷ []) ≡ cond (has c ss) (end_of c ss) (cond (eqb s.key c) s.end no_end)
        → cond b t.end (end_of c (ss ++ s ∷ [])) ≡ cond (cond b true (has c ss)) (cond b t.end (end_of c ss)) (cond (eqb s.key c) s.end no_end)
    go true ih = refl
    go false ih = ih

-- a client without a session has no end
pub no_session : (c : ℕ) (ss : List HubSession) → has c ss ≡ false → end_of c ss ≡ no_end
no_session c [] h = refl
no_session c (s ∷ ss) h = go (eqb s.key c) refl (no_session c ss)
  where
    go : (b : Bool) → eqb s.key c ≡ b → (has c ss ≡ false → end_of c ss ≡ no_end) → end_of c (s ∷ ss) ≡ no_end
    go true k ih = absurd (true≢false (sym (cond-true (eqb s.key c) true (has c ss) k) ∙ h))
    go false k ih = cond-false (eqb s.key c) s.end (end_of c ss) k ∙ ih (sym (cond-false (eqb s.key c) true (has c ss) k) ∙ h)

pub each_new : (P : ℕ → Bool → End → Type 0) (s : HubSession) (ss : List HubSession) → has s.key ss ≡ false → ((c : ℕ) → P c (has c ss) (end_of c ss)) → P s.key true s.end
    → (c : ℕ) → P c (has c (ss ++ s ∷ [])) (end_of c (ss ++ s ∷ []))
each_new P s ss fresh all new c =
    subst (λ (b : Bool). P c b (end_of c (ss ++ s ∷ []))) (sym (has_new s c ss))
    (subst (P c (cond (has c ss) true (eqb s.key c))) (sym (end_new s c ss)) (go (has c ss) refl (eqb s.key c) refl))
  where
    go : (there : Bool) → has c ss ≡ there → (same : Bool) → eqb s.key c ≡ same → P c (cond there true same) (cond there (end_of c ss) (cond same s.end no_end))
    go true h same k = subst (λ (b : Bool). P c b (end_of c ss)) h (all c)
    go false h true k = subst (λ (d : ℕ). P d true s.end) (eqb-true s.key c k) new
    go false h false k = subst (λ (b : Bool). P c b no_end) h (subst (P c (has c ss)) (no_session c ss h) (all c))

-- ---- the session of a client

pub key_there : (client : List ℕ) (key : ℕ) (ss : List HubSession) → key_of client ss ≡ Some key → has key ss ≡ true
key_there client key [] e = absurd cc
key_there client key (s ∷ ss) e = go (bytes_eq s.client client) (key_there client key ss) e
  where
    later : (b : Bool) → has key ss ≡ true → cond b true (has key ss) ≡ true
    later true h = refl
    later false h = h

    go : (b : Bool) → (key_of client ss ≡ Some key → has key ss ≡ true) → cond b (Some s.key) (key_of client ss) ≡ Some key → cond (eqb s.key key) true (has key ss) ≡ true
    go true ih h = let same : s.key ≡ key = cc in cond-true (eqb s.key key) true (has key ss) (eq-eqb s.key key same)
    go false ih h = later (eqb s.key key) (ih h)
