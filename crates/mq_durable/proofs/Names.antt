-- The connections that a broker knows are among those that events opened.
use Rattle.std.proofs.Common.{◌≡◌, ℕ, Bool, true, false, ◌||◌, List, [], ◌∷◌, ◌++◌, map, refl, sym, ap, ◌∙◌, subst, true≢false, not, if◌then◌else◌}
use Rattle.std.proofs.lemmas.Bool.{and_parts, false_from_ne_true}
use Rattle.std.proofs.Common.{eqb, eqb-true, eq-eqb, ◌&&◌}
use Rattle.mq_route.specs.declared.conn.Conn.{Conn}
use Rattle.mq_route.specs.declared.event.HubEvent.{HubEvent}
use Rattle.mq_route.specs.declared.event.HubEvent.TheVariants.{Opened, Bytes, Ended, Tick, Collect}
use Rattle.mq_route.specs.declared.reply.HubReply.{HubReply}
use Rattle.mq_route.specs.Hub.{HubState, HubConnection, knows, without_connection}
use Rattle.mq_route.specs.Routed.{same_conn}
use Rattle.mq_route.specs.Step.{HubStep}
use Rattle.mq_durable.specs.Recovering.{is_among, AreKnownAmong, later}
use Rattle.mq_durable.specs.Inside.Recovering.{opened_by}
use Rattle.mq_durable.proofs.Frames.{frame, framed, step_frame}

one_conn : (a b : Conn) → same_conn a b ≡ true → a ≡ b
one_conn a b e =
    let p = and_parts (eqb a.worker b.worker) (eqb a.nth b.nth) e in
    λ i. record { worker = eqb-true a.worker b.worker p.0 i; nth = eqb-true a.nth b.nth p.1 i }

itself : (a : Conn) → same_conn a a ≡ true
itself a = λ i. eq-eqb a.worker a.worker refl i && eq-eqb a.nth a.nth refl i

abbrev names : List HubConnection → List Conn
names xs = map (λ (x : HubConnection). x.conn) xs

knows_names : (n : Conn) (xs : List HubConnection) → knows n xs ≡ is_among n (names xs)
knows_names n [] = refl
knows_names n (x ∷ xs) = ap (λ (b : Bool). same_conn x.conn n || b) (knows_names n xs)

among_left : (n : Conn) (ks ms : List Conn) → is_among n ks ≡ true → is_among n (ks ++ ms) ≡ true
among_left n [] ms held = absurd (true≢false (sym held))
among_left n (k ∷ ks) ms held = go (same_conn k n) held (λ found. among_left n ks ms found)
  where
    go : (b : Bool) → (b || is_among n ks) ≡ true → (is_among n ks ≡ true → is_among n (ks ++ ms) ≡ true) → (b || is_among n (ks ++ ms)) ≡ true
    go true held behind = refl
    go false held behind = behind held

-- the last one
among_last : (n k : Conn) (ms : List Conn) → (same_conn k n || false) ≡ true → is_among n (ms ++ k ∷ []) ≡ true
among_last n k [] is = is
among_last n k (m ∷ ms) is = either (same_conn m n) (among_last n k ms is)
  where
    either : (b : Bool) → is_among n (ms ++ k ∷ []) ≡ true → (b || is_among n (ms ++ k ∷ [])) ≡ true
    either true is = refl
    either false is = is

-- the last one, or one before it
among_push : (n k : Conn) (ks ms : List Conn) → (is_among n ks ≡ true → is_among n ms ≡ true) → is_among n (ks ++ k ∷ []) ≡ true → is_among n (ms ++ k ∷ []) ≡ true
among_push n k [] ms more held = among_last n k ms held
among_push n k (x ∷ ks) ms more held = by (same_conn x n) refl held (λ others found. among_push n k ks ms others found)
  where
    by : (b : Bool) → same_conn x n ≡ b → (b || is_among n (ks ++ k ∷ [])) ≡ true
        → ((is_among n ks ≡ true → is_among n ms ≡ true) → is_among n (ks ++ k ∷ []) ≡ true → is_among n (ms ++ k ∷ []) ≡ true)
        → is_among n (ms ++ k ∷ []) ≡ true
    by true is held behind = among_left n ms (k ∷ []) (more (ap (λ (b : Bool). b || is_among n ks) is))
    by false is held behind = behind (λ found. more (ap (λ (b : Bool). b || is_among n ks) is ∙ found)) held

-- a connection that is left is an earlier one, and another than the one that ended
left_is : (n k : Conn) (xs : List HubConnection) → is_among n (names (without_connection k xs)) ≡ true → (is_among n (names xs) ≡ true) × (same_conn k n ≡ false)
left_is n k [] held = absurd (true≢false (sym held))
left_is n k (x ∷ xs) held = go (same_conn x.conn k) refl held (λ found. left_is n k xs found)
  where
    either : (b : Bool) → is_among n (names xs) ≡ true → (b || is_among n (names xs)) ≡ true
    either true found = refl
    either false found = found

    rest : (is_among n (names xs) ≡ true) × (same_conn k n ≡ false) → ((same_conn x.conn n || is_among n (names xs)) ≡ true) × (same_conn k n ≡ false)
    rest found = (either (same_conn x.conn n) found.0, found.1)

    by : (c : Bool) → same_conn x.conn k ≡ false → same_conn x.conn n ≡ c → (c || is_among n (names (without_connection k xs))) ≡ true
        → (is_among n (names (without_connection k xs)) ≡ true → (is_among n (names xs) ≡ true) × (same_conn k n ≡ false))
        → ((same_conn x.conn n || is_among n (names xs)) ≡ true) × (same_conn k n ≡ false)
    by true is here held behind = (
      ap (λ (b : Bool). b || is_among n (names xs)) here,
      false_from_ne_true (same_conn k n) (λ same. true≢false (sym (subst (λ (c : Conn). same_conn c k ≡ true) (sym (one_conn x.conn n here)) (subst (λ (c : Conn). same_conn c k ≡ true) (one_conn k n same) (itself k))) ∙ is)),
    )
    by false is here held behind = rest (behind held)

    go : (b : Bool) → same_conn x.conn k ≡ b → is_among n (names (if not b then x ∷ without_connection k xs else without_connection k xs)) ≡ true
        → (is_among n (names (without_connection k xs)) ≡ true → (is_among n (names xs) ≡ true) × (same_conn k n ≡ false))
        → ((same_conn x.conn n || is_among n (names xs)) ≡ true) × (same_conn k n ≡ false)
    go true is held behind = rest (behind held)
    go false is held behind = by (same_conn x.conn n) is refl held behind

names_are : (h : HubState) (ns : List Conn) (n : Conn) → names h.connections ≡ ns → knows n h.connections ≡ true → is_among n ns ≡ true
names_are h ns n are known = subst (λ (l : List Conn). is_among n l ≡ true) are (sym (knows_names n h.connections) ∙ known)

framed_known : (e : HubEvent) (h g : HubState) (ks : List Conn) → frame g ≡ framed e h → AreKnownAmong ks h → AreKnownAmong (opened_by e ks) g
framed_known (Opened k) h g ks is all n known =
    among_push n k (names h.connections) ks (λ held. all n (knows_names n h.connections ∙ held)) (names_are g (names h.connections ++ k ∷ []) n (ap (λ (f : List Conn × ℕ). f.0) is) known)
framed_known (Bytes k piece) h g ks is all n known = all n (knows_names n h.connections ∙ names_are g (names h.connections) n (ap (λ (f : List Conn × ℕ). f.0) is) known)
framed_known (Ended k) h g ks is all n known =
    all n (knows_names n h.connections ∙ (left_is n k h.connections (names_are g (names (without_connection k h.connections)) n (ap (λ (f : List Conn × ℕ). f.0) is) known)).0)
framed_known (Tick now) h g ks is all n known = all n (knows_names n h.connections ∙ names_are g (names h.connections) n (ap (λ (f : List Conn × ℕ). f.0) is) known)
framed_known (Collect k) h g ks is all n known = all n (knows_names n h.connections ∙ names_are g (names h.connections) n (ap (λ (f : List Conn × ℕ). f.0) is) known)

-- a step opens no connection but that of its event
pub step_known : (h g : HubState) (e : HubEvent) (r : HubReply) (ks : List Conn) → HubStep h e r g → AreKnownAmong ks h → AreKnownAmong (opened_by e ks) g
step_known h g e r ks step all = framed_known e h g ks (step_frame h e r g step) all

-- the clock after a step
framed_clock : (e : HubEvent) (h g : HubState) → frame g ≡ framed e h → g.clock ≡ later h.clock e
framed_clock (Opened k) h g is = ap (λ (f : List Conn × ℕ). f.1) is
framed_clock (Bytes k piece) h g is = ap (λ (f : List Conn × ℕ). f.1) is
framed_clock (Ended k) h g is = ap (λ (f : List Conn × ℕ). f.1) is
framed_clock (Tick now) h g is = ap (λ (f : List Conn × ℕ). f.1) is
framed_clock (Collect k) h g is = ap (λ (f : List Conn × ℕ). f.1) is

pub step_clock : (h g : HubState) (e : HubEvent) (r : HubReply) → HubStep h e r g → g.clock ≡ later h.clock e
step_clock h g e r step = framed_clock e h g (step_frame h e r g step)

-- ---- ending connections

-- the first of these ended
pub ended_known : (h g : HubState) (k : Conn) (r : HubReply) (ks : List Conn) → HubStep h (Ended k) r g → AreKnownAmong (k ∷ ks) h → AreKnownAmong ks g
ended_known h g k r ks step all n known =
    let found = left_is n k h.connections (names_are g (names (without_connection k h.connections)) n (ap (λ (f : List Conn × ℕ). f.0) (step_frame h (Ended k) r g step)) known) in
    sym (ap (λ (b : Bool). b || is_among n ks) found.1) ∙ all n (knows_names n h.connections ∙ found.0)

-- the first of these is not known
pub other_known : (h : HubState) (k : Conn) (ks : List Conn) → knows k h.connections ≡ false → AreKnownAmong (k ∷ ks) h → AreKnownAmong ks h
other_known h k ks unknown all n known =
    let apart : same_conn k n ≡ false = false_from_ne_true (same_conn k n) (λ same. true≢false (sym (subst (λ (c : Conn). knows c h.connections ≡ true) (sym (one_conn k n same)) known) ∙ unknown)) in
    sym (ap (λ (b : Bool). b || is_among n ks) apart) ∙ all n known

-- none is left
pub none_known : (h : HubState) → AreKnownAmong [] h → h.connections ≡ []
none_known h all = go h.connections all
  where
    go : (xs : List HubConnection) → ((n : Conn) → knows n xs ≡ true → is_among n [] ≡ true) → xs ≡ []
    go [] all = refl
    go (x ∷ xs) all = absurd (true≢false (sym (all x.conn (ap (λ (b : Bool). b || knows x.conn xs) (itself x.conn)))))
