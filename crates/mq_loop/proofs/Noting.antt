-- Notes about acts.
use Rattle.std.proofs.Common.{◌≡◌, ◌<◌, ◌⊎◌, inl, inr, ⊎_elim, ℕ, zero, suc, Bool, true, false, cond, ◌||◌, List, [], ◌∷◌, ◌++◌, length, set, Option, Some, None, eqb, eqb-true, eq-eqb, true≢false, append_assoc, append-nil, refl, sym, ap, subst, ◌∙◌, arith, length-set}
use Rattle.std.proofs.lemmas.Bool.{or_cases}
use Rattle.std.proofs.lemmas.List.{get_or-set_same, get_or-set_other}
use Rattle.std.proofs.lemmas.List.Sums.{fold-append}
use Rattle.std.proofs.lemmas.List.Folds.{list_any-append}
use Rattle.std.specs.List.{list_any}
use Rattle.mq_packet.specs.declared.message.Message.{Message}
use Rattle.mq_topic.specs.declared.qos.Qos.{Qos}
use Rattle.mq_route.specs.declared.act.Act.{Act}
use Rattle.mq_route.specs.declared.act.Act.TheVariants as acts
use Rattle.mq_route.specs.declared.close.HubClose.{HubClose}
use Rattle.mq_route.specs.declared.conn.Conn.{Conn}
use Rattle.mq_route.specs.Routed.{Seen, nothing_seen, same_conn, seen, seen_after, unless_on}
use Rattle.mq_loop.specs.Accounts.{name_at}
use Rattle.mq_loop.specs.Places.{is_in}
use Rattle.mq_loop.specs.Rounds.{AllIn, AreNotedAt, IsNoted, is_copy_for}
use Rattle.mq_loop.proofs.Names.{same_conn-itself}

-- ---- sets of places

pub put_in : (m : List Bool) (p : ℕ) → p < length m → is_in p (set m p true) ≡ true
put_in m p within = get_or-set_same m p true false within

pub put_all : (m : List Bool) (p : ℕ) → AllIn m (set m p true)
put_all m p q h = go (eqb q p) refl
  where
    inside : (xs : List Bool) (n : ℕ) → is_in n xs ≡ true → n < length xs
    inside [] n e = absurd (true≢false (sym e))
    inside (x ∷ xs) zero e = omega arith
    inside (x ∷ xs) (suc n) e = let below = inside xs n e in omega arith

    go : (b : Bool) → eqb q p ≡ b → is_in q (set m p true) ≡ true
    go true e =
        let same : q ≡ p = eqb-true q p e in
        subst (λ (n : ℕ). is_in n (set m p true) ≡ true) (sym same) (put_in m p (subst (λ (n : ℕ). n < length m) same (inside m q h)))
    go false e = get_or-set_other m p q true false (λ same. true≢false (sym (eq-eqb q p same) ∙ e)) ∙ h

pub same_all : (m : List Bool) → AllIn m m
same_all m p h = h

-- ---- lists of acts

seen_last : (c : ℕ) (before : List Act) (act : Act) → seen c (before ++ act ∷ []) ≡ seen_after c (seen c before) act
seen_last c before act = fold-append (seen_after c) nothing_seen before (act ∷ [])

pub no_more : (f : ℕ → Option ℕ) (m o : List Bool) → IsNoted [] f m o f m o
no_more f m o = record {
  marked_places = refl;
  over_places = refl;
  marked_stay = same_all m;
  over_stay = same_all o;
  stays = λ c p within at. inl at;
  marks = λ c p within at some. absurd (true≢false (sym some));
  noted = λ p within before n. subst (λ (log : List Act). AreNotedAt p log f o) (sym (append-nil before)) n;
}

pub one_more : (log : List Act) (act : Act) (f f1 f2 : ℕ → Option ℕ) (m m1 m2 o o1 o2 : List Bool) → IsNoted log f m o f1 m1 o1 → IsNoted (act ∷ []) f1 m1 o1 f2 m2 o2
    → IsNoted (log ++ act ∷ []) f m o f2 m2 o2
one_more log act f f1 f2 m m1 m2 o o1 o2 a b = record {
  marked_places = b.marked_places ∙ a.marked_places;
  over_places = b.over_places ∙ a.over_places;
  marked_stay = λ p h. b.marked_stay p (a.marked_stay p h);
  over_stay = λ p h. b.over_stay p (a.over_stay p h);
  stays = λ c p within at. ⊎_elim (λ there. b.stays c p (still p within) there) (λ h. inr (b.marked_stay p h)) (a.stays c p within at);
  marks = λ c p within at some.
      ⊎_elim (λ first. b.marked_stay p (a.marks c p within at first))
      (λ last. ⊎_elim (λ there. b.marks c p (still p within) there last) (λ h. b.marked_stay p h) (a.stays c p within at))
      (or_cases (list_any (is_copy_for c) log) (list_any (is_copy_for c) (act ∷ [])) (sym (list_any-append (is_copy_for c) log (act ∷ [])) ∙ some));
  noted = λ p within before n.
      subst (λ (l : List Act). AreNotedAt p l f2 o2) (append_assoc before log (act ∷ []))
      (b.noted p (subst (λ (n : ℕ). p < n) (sym a.over_places) within) (before ++ log) (a.noted p within before n));
}
  where
    still : (p : ℕ) → p < length m → p < length m1
    still p within = subst (λ (n : ℕ). p < n) (sym a.marked_places) within

-- ---- one act

-- an act, from its effect on the view of a client's connection
one : (act : Act) (f g : ℕ → Option ℕ) (m n o q : List Bool) → length n ≡ length m → length q ≡ length o → AllIn m n → AllIn o q
    → ((c p : ℕ) → p < length m → f c ≡ Some p → (g c ≡ Some p) ⊎ (is_in p n ≡ true))
    → ((c p : ℕ) → p < length m → f c ≡ Some p → is_copy_for c act ≡ true → is_in p n ≡ true)
    → ((c p : ℕ) (s : Seen) → p < length o → (s.up ≡ Some (name_at p) → (f c ≡ Some p) ⊎ (is_in p o ≡ true)) → (seen_after c s act).up ≡ Some (name_at p)
    → (g c ≡ Some p) ⊎ (is_in p q ≡ true))
    → IsNoted (act ∷ []) f m o g n q
one act f g m n o q marked_places over_places marked_stay over_stay stays marks known = record {
  marked_places = marked_places;
  over_places = over_places;
  marked_stay = marked_stay;
  over_stay = over_stay;
  stays = stays;
  marks = λ c p within at some. marks c p within at (alone (is_copy_for c act) some);
  noted = λ p within before noted c up. known c p (seen c before) within (noted c) (sym (ap (λ (s : Seen). s.up) (seen_last c before act)) ∙ up);
}
  where
    alone : (b : Bool) → (b || false) ≡ true → b ≡ true
    alone true e = refl
    alone false e = e

-- an act that neither places a copy nor changes which client is connected
other : (act : Act) (f : ℕ → Option ℕ) (m o : List Bool) → ((c : ℕ) → is_copy_for c act ≡ false) → ((c : ℕ) (s : Seen) → (seen_after c s act).up ≡ s.up) → IsNoted (act ∷ []) f m o f m o
other act f m o none same =
    one act f f m m o o refl refl (same_all m) (same_all o) (λ c p within at. inl at)
    (λ c p within at some. absurd (true≢false (sym some ∙ none c))) (λ c p s within was up. was (sym (same c s) ∙ up))

-- ---- the acts

pub took_noted : (key : ℕ) (message : Message) (f : ℕ → Option ℕ) (m o : List Bool) → IsNoted (acts.Took key message ∷ []) f m o f m o
unfolding seen_after is_copy_for
took_noted key message f m o = other (acts.Took key message) f m o (λ c. refl) (λ c s. refl)

pub missed_noted : (key : ℕ) (message : Message) (f : ℕ → Option ℕ) (m o : List Bool) → IsNoted (acts.Missed key message ∷ []) f m o f m o
unfolding seen_after is_copy_for
missed_noted key message f m o = other (acts.Missed key message) f m o (λ c. refl) (λ c s. refl)

pub will_noted : (key : ℕ) (message : Message) (f : ℕ → Option ℕ) (m o : List Bool) → IsNoted (acts.Will key message ∷ []) f m o f m o
unfolding seen_after is_copy_for
will_noted key message f m o = other (acts.Will key message) f m o (λ c. refl) (λ c s. refl)

pub will_dropped_noted : (key : ℕ) (f : ℕ → Option ℕ) (m o : List Bool) → IsNoted (acts.WillDropped key ∷ []) f m o f m o
unfolding seen_after is_copy_for
will_dropped_noted key f m o = other (acts.WillDropped key) f m o (λ c. refl) (λ c s. refl)

pub subscribed_noted : (key : ℕ) (name : List ℕ) (qos : Qos) (f : ℕ → Option ℕ) (m o : List Bool) → IsNoted (acts.Subscribed key name qos ∷ []) f m o f m o
unfolding seen_after is_copy_for
subscribed_noted key name qos f m o = other (acts.Subscribed key name qos) f m o (λ c. refl) (λ c s. refl)

pub unsubscribed_noted : (key : ℕ) (name : List ℕ) (f : ℕ → Option ℕ) (m o : List Bool) → IsNoted (acts.Unsubscribed key name ∷ []) f m o f m o
unfolding seen_after is_copy_for
unsubscribed_noted key name f m o = other (acts.Unsubscribed key name) f m o (λ c. refl) (λ c s. refl)

pub removed_noted : (key : ℕ) (f : ℕ → Option ℕ) (m o : List Bool) → IsNoted (acts.Removed key ∷ []) f m o f m o
unfolding seen_after is_copy_for
removed_noted key f m o = other (acts.Removed key) f m o (λ c. refl) (λ c s. refl)

-- a copy is placed for a client that is noted at no place, or at this one
pub copy_none_noted : (key : ℕ) (message : Message) (f : ℕ → Option ℕ) (m o : List Bool) → f key ≡ None → IsNoted (acts.Placed key message ∷ []) f m o f m o
unfolding seen_after is_copy_for
copy_none_noted key message f m o none =
    one (acts.Placed key message) f f m m o o refl refl (same_all m) (same_all o) (λ c p within at. inl at)
    (λ c p within at some.
    let same : key ≡ c = eqb-true key c some in
    let here : f key ≡ Some p = subst (λ (n : ℕ). f n ≡ Some p) (sym same) at in
    absurd cc)
    (λ c p s within was up. was up)

pub copy_noted : (key place : ℕ) (message : Message) (f : ℕ → Option ℕ) (m o : List Bool) → f key ≡ Some place → IsNoted (acts.Placed key message ∷ []) f m o f (set m place true) o
unfolding seen_after is_copy_for
copy_noted key place message f m o at_place =
    one (acts.Placed key message) f f m (set m place true) o o (length-set m place true) refl (put_all m place) (same_all o) (λ c p within at. inl at)
    (λ c p within at some.
    let same : key ≡ c = eqb-true key c some in
    let here : f key ≡ Some p = subst (λ (n : ℕ). f n ≡ Some p) (sym same) at in
    let e : place ≡ p = cc in
    subst (λ (n : ℕ). is_in p (set m n true) ≡ true) (sym e) (put_in m p within))
    (λ c p s within was up. was up)

-- ---- a connection is closed

-- a client that is still connected after a close was connected, on another connection
unless_other : (conn n : Conn) (o : Option Conn) → unless_on conn o ≡ Some n → (o ≡ Some n) × (same_conn n conn ≡ false)
unless_other conn n None e = absurd cc
unless_other conn n (Some on) e = go (same_conn on conn) refl e
  where
    go : (b : Bool) → same_conn on conn ≡ b → cond b None (Some on) ≡ Some n → (Some on ≡ Some n) × (same_conn n conn ≡ false)
    go true h e = absurd cc
    go false h e =
        let is : on ≡ n = cc in
        (e, subst (λ (k : Conn). same_conn k conn ≡ false) is h)

pub closed_away_noted : (conn : Conn) (why : HubClose) (f : ℕ → Option ℕ) (m o : List Bool) → IsNoted (acts.Closed conn why ∷ []) f m o f m o
unfolding seen_after is_copy_for
closed_away_noted conn why f m o =
    one (acts.Closed conn why) f f m m o o refl refl (same_all m) (same_all o) (λ c p within at. inl at)
    (λ c p within at some. absurd (true≢false (sym some)))
    (λ c p s within was up. was (unless_other conn (name_at p) s.up up).0)

pub closed_noted : (conn : Conn) (why : HubClose) (place : ℕ) (f g : ℕ → Option ℕ) (m o : List Bool) → conn ≡ name_at place
    → ((n : ℕ) → (g n ≡ f n) ⊎ ((g n ≡ None) × (f n ≡ Some place))) → IsNoted (acts.Closed conn why ∷ []) f m o g (set m place true) o
unfolding seen_after is_copy_for
closed_noted conn why place f g m o is found =
    one (acts.Closed conn why) f g m (set m place true) o o (length-set m place true) refl (put_all m place) (same_all o)
    (λ c p within at. ⊎_elim (λ same. inl (same ∙ at))
    (λ gone.
    let e : place ≡ p = same_place (f c) place p gone.1 at in
    inr (subst (λ (n : ℕ). is_in p (set m n true) ≡ true) (sym e) (put_in m p within))) (found c))
    (λ c p within at some. absurd (true≢false (sym some)))
    (λ c p s within was up.
    let still = unless_other conn (name_at p) s.up up in
    ⊎_elim (λ at. ⊎_elim (λ same. inl (same ∙ at))
    (λ gone.
    let e : place ≡ p = same_place (f c) place p gone.1 at in
    let here : name_at p ≡ conn = sym (is ∙ ap name_at e) in
    absurd (true≢false (sym (subst (λ (k : Conn). same_conn (name_at p) k ≡ true) here (same_conn-itself (name_at p))) ∙ still.1))) (found c)) (λ h. inr h) (was still.0))
  where
    same_place : (x : Option ℕ) (a b : ℕ) → x ≡ Some a → x ≡ Some b → a ≡ b
    same_place x a b e h = cc

-- ---- a client is connected

-- the notes of a client's connection
module _ (conn : Conn) (key place : ℕ) (present : Bool) (f g : ℕ → Option ℕ) (m o : List Bool) (is : conn ≡ name_at place) where
  place_is : (p : ℕ) → Some conn ≡ Some (name_at p) → place ≡ p
  place_is p e =
      let named : name_at place ≡ name_at p = sym is ∙ (cc) in
      ap (λ (k : Conn). k.nth) named

  -- the client is noted, and its former place is marked
  pub up_noted : (former : List Bool) → length former ≡ length m → AllIn m former → ((p : ℕ) → p < length m → f key ≡ Some p → is_in p former ≡ true)
      → ((n : ℕ) → g n ≡ cond (eqb key n) (Some place) (f n)) → IsNoted (acts.Up conn key present ∷ []) f m o g (set former place true) o
  unfolding seen_after is_copy_for
  up_noted former places grows left found =
      one (acts.Up conn key present) f g m (set former place true) o o (length-set former place true ∙ places) refl
      (λ p h. put_all former place p (grows p h)) (same_all o) stays
      (λ c p within at some. absurd (true≢false (sym some)))
      (λ c p s within was up. known c p s was (eqb key c) refl up)
    where
      stays : (c p : ℕ) → p < length m → f c ≡ Some p → (g c ≡ Some p) ⊎ (is_in p (set former place true) ≡ true)
      stays c p within at = go (eqb key c) refl
        where
          go : (b : Bool) → eqb key c ≡ b → (g c ≡ Some p) ⊎ (is_in p (set former place true) ≡ true)
          go true e =
              let same : key ≡ c = eqb-true key c e in
              inr (put_all former place p (left p within (subst (λ (n : ℕ). f n ≡ Some p) (sym same) at)))
          go false e = inl (found c ∙ ap (λ (b : Bool). cond b (Some place) (f c)) e ∙ at)

      known : (c p : ℕ) (s : Seen) → (s.up ≡ Some (name_at p) → (f c ≡ Some p) ⊎ (is_in p o ≡ true)) → (b : Bool) → eqb key c ≡ b
          → (cond b (record s { up = Some conn }) s).up ≡ Some (name_at p) → (g c ≡ Some p) ⊎ (is_in p o ≡ true)
      known c p s was true e up = inl (found c ∙ ap (λ (b : Bool). cond b (Some place) (f c)) e ∙ ap Some (place_is p up))
      known c p s was false e up = ⊎_elim (λ at. inl (found c ∙ ap (λ (b : Bool). cond b (Some place) (f c)) e ∙ at)) (λ h. inr h) (was up)

  pub up_moved_noted : (former : ℕ) → Some former ≡ f key → ((n : ℕ) → g n ≡ cond (eqb key n) (Some place) (f n))
      → IsNoted (acts.Up conn key present ∷ []) f m o g (set (set m former true) place true) o
  up_moved_noted former was found =
      up_noted (set m former true) (length-set m former true) (put_all m former)
      (λ p within at.
      let both : Some former ≡ Some p = was ∙ at in
      let same : former ≡ p = cc in
      subst (λ (n : ℕ). is_in p (set m n true) ≡ true) (sym same) (put_in m p within)) found

  pub up_fresh_noted : None ≡ f key → ((n : ℕ) → g n ≡ cond (eqb key n) (Some place) (f n)) → IsNoted (acts.Up conn key present ∷ []) f m o g (set m place true) o
  up_fresh_noted was found =
      up_noted m refl (same_all m)
      (λ p within at.
      let both : None ≡ Some p = was ∙ at in
      absurd cc) found

  -- the client could not be noted, and its place is over
  pub up_over_noted : ((n : ℕ) → g n ≡ f n) → IsNoted (acts.Up conn key present ∷ []) f m o g (set m place true) (set o place true)
  unfolding seen_after is_copy_for
  up_over_noted same =
      one (acts.Up conn key present) f g m (set m place true) o (set o place true) (length-set m place true) (length-set o place true) (put_all m place) (put_all o place)
      (λ c p within at. inl (same c ∙ at))
      (λ c p within at some. absurd (true≢false (sym some)))
      (λ c p s within was up. known c p s within was (eqb key c) refl up)
    where
      known : (c p : ℕ) (s : Seen) → p < length o → (s.up ≡ Some (name_at p) → (f c ≡ Some p) ⊎ (is_in p o ≡ true)) → (b : Bool) → eqb key c ≡ b
          → (cond b (record s { up = Some conn }) s).up ≡ Some (name_at p) → (g c ≡ Some p) ⊎ (is_in p (set o place true) ≡ true)
      known c p s within was true e up = inr (subst (λ (n : ℕ). is_in p (set o n true) ≡ true) (sym (place_is p up)) (put_in o p within))
      known c p s within was false e up = ⊎_elim (λ at. inl (same c ∙ at)) (λ h. inr (put_all o place p h)) (was up)

-- the connection has no place
pub up_away_noted : (conn : Conn) (key : ℕ) (present : Bool) (f : ℕ → Option ℕ) (m o : List Bool) → ((place : ℕ) → conn ≡ name_at place → ⊥)
    → IsNoted (acts.Up conn key present ∷ []) f m o f m o
unfolding seen_after is_copy_for
up_away_noted conn key present f m o none =
    one (acts.Up conn key present) f f m m o o refl refl (same_all m) (same_all o) (λ c p within at. inl at)
    (λ c p within at some. absurd (true≢false (sym some)))
    (λ c p s within was up. known c p s was (eqb key c) up)
  where
    known : (c p : ℕ) (s : Seen) → (s.up ≡ Some (name_at p) → (f c ≡ Some p) ⊎ (is_in p o ≡ true)) → (b : Bool)
        → (cond b (record s { up = Some conn }) s).up ≡ Some (name_at p) → (f c ≡ Some p) ⊎ (is_in p o ≡ true)
    known c p s was true up = absurd (none p cc)
    known c p s was false up = was up

-- ---- any other act

pub other_noted : (act : Act) (f : ℕ → Option ℕ) (m o : List Bool) → ((conn : Conn) (key : ℕ) (present : Bool) → act ≡ acts.Up conn key present → ⊥)
    → ((key : ℕ) (message : Message) → act ≡ acts.Placed key message → ⊥) → ((conn : Conn) (why : HubClose) → act ≡ acts.Closed conn why → ⊥)
    → IsNoted (act ∷ []) f m o f m o
other_noted (acts.Up conn key present) f m o up placed closed = absurd (up conn key present refl)
other_noted (acts.Placed key message) f m o up placed closed = absurd (placed key message refl)
other_noted (acts.Closed conn why) f m o up placed closed = absurd (closed conn why refl)
other_noted (acts.Took key message) f m o up placed closed = took_noted key message f m o
other_noted (acts.Missed key message) f m o up placed closed = missed_noted key message f m o
other_noted (acts.Will key message) f m o up placed closed = will_noted key message f m o
other_noted (acts.WillDropped key) f m o up placed closed = will_dropped_noted key f m o
other_noted (acts.Subscribed key name qos) f m o up placed closed = subscribed_noted key name qos f m o
other_noted (acts.Unsubscribed key name) f m o up placed closed = unsubscribed_noted key name f m o
other_noted (acts.Removed key) f m o up placed closed = removed_noted key f m o
