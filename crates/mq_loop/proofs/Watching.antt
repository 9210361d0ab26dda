-- Watched connections after a step, or after a change of notes.
use Rattle.std.proofs.Common.{◌≡◌, ◌<◌, ◌≤◌, ◌+◌, ◌*◌, ◌⊎◌, inl, inr, ⊎_elim, ◌||◌, ℕ, zero, suc, Bool, true, false, List, [], ◌∷◌, ◌++◌, length, set, Option, Some, None, IfSome, is_some, eqb, eqb-true, eq-eqb, true≢false, append_assoc, append-nil, refl, sym, ap, ap₂, subst, ◌∙◌, arith, length-set}
use Rattle.std.proofs.lemmas.List.{get_or-set_other}
use Rattle.std.proofs.lemmas.List.Sums.{count_by-le-length}
use Rattle.std.specs.List.{list_any}
use Rattle.mq_route.specs.declared.act.Act.{Act}
use Rattle.mq_route.specs.declared.act.Act.TheVariants as acts
use Rattle.mq_route.specs.declared.config.HubConfig.{HubConfig}
use Rattle.mq_route.specs.declared.conn.Conn.{Conn}
use Rattle.mq_route.specs.declared.connection_state.ConnectionState.TheVariants.{Closed}
use Rattle.mq_route.specs.declared.event.HubEvent.{HubEvent}
use Rattle.mq_route.specs.declared.event.HubEvent.TheVariants.{Opened, Bytes, Ended, Tick, Collect}
use Rattle.mq_route.specs.declared.reply.HubReply.{HubReply}
use Rattle.mq_route.specs.Begun.{BegunLaws, MayBegin}
use Rattle.mq_route.specs.Hub.{HubState, new_hub, is_for, stage_of, waiting_on}
use Rattle.mq_route.specs.Laws.{places_on}
use Rattle.mq_route.specs.Routed.{same_conn, seen}
use Rattle.mq_route.specs.Runs.{Episode, Follows, acts_of, is_on}
use Rattle.mq_route.specs.Step.{HubStep}
use Rattle.mq_loop.specs.Accounts.{IsServed, Line, ServedState, name_at, served_state}
use Rattle.mq_loop.specs.Calls.{Call}
use Rattle.mq_loop.specs.Places.{is_in}
use Rattle.mq_loop.specs.Inside.Places.{count_in}
use Rattle.mq_loop.specs.declared.broker.SnapshotNote.{SnapshotNote}
use Rattle.mq_loop.specs.declared.connection.Flushed.TheVariants.{Blocked}
use Rattle.mq_loop.specs.Rounds.{AllIn, AreBounded, AreNotedAt, AtOutputs, IsEmpty, IsFlushed, IsNoted, IsReached, IsSame, IsSettled, IsWatched, IsWritten, IsWrittenAt, MayCollect, OthersStay, Output, OutputStays}
use Rattle.mq_loop.specs.Inside.Rounds.{AreEnded}
use Rattle.mq_loop.specs.Rounds.{WatchedState, connections_in, exists_at, is_copy_for, output_at, waiting_at, watched_state}
use Rattle.mq_loop.specs.Inside.Rounds.{ends_left}
use Rattle.mq_loop.proofs.CarriedBytes.{follows_last}
use Rattle.mq_loop.proofs.Counts.{as_many, in_within}
use Rattle.mq_loop.proofs.Names.{not_known, one_conn, same_conn-itself, unknown_shut}
use Rattle.mq_loop.proofs.Noting.{no_more, put_all, put_in, same_all}
use Rattle.mq_loop.proofs.Outputs.{output_other}

-- ---- runs

follows_both : (h mid g : HubState) (es fs : List Episode) → Follows h es mid → Follows mid fs g → Follows h (es ++ fs) g
follows_both h mid g [] fs a b = subst (λ (k : HubState). Follows k fs g) a b
follows_both h mid g (e ∷ es) fs a b = (a.0, a.1, follows_both e.work.hub mid g es fs a.2 b)

acts_last : (es : List Episode) (e : Episode) → acts_of (es ++ e ∷ []) ≡ acts_of es ++ e.reply.acts
acts_last [] e = append-nil e.reply.acts
acts_last (x ∷ es) e = ap (λ (l : List Act). x.reply.acts ++ l) (acts_last es e) ∙ sym (append_assoc x.reply.acts (acts_of es) e.reply.acts)

-- ---- places

same_place : (p q : ℕ) → same_conn (name_at q) (name_at p) ≡ true → q ≡ p
same_place p q e = ap (λ (k : Conn). k.nth) (one_conn (name_at q) (name_at p) e)

pub exists_within : (p : ℕ) (lines : List (Option Line)) → exists_at p lines ≡ true → p < length lines
exists_within p [] e = absurd (true≢false (sym e))
exists_within zero (x ∷ xs) e = omega arith
exists_within (suc p) (x ∷ xs) e = let below = exists_within p xs e in omega arith

-- no connection, nothing to write
pub unwritten : (o : Option Output) (P : Output → Type 0) → is_some o ≡ false → IfSome o P
unwritten None P e = tt
unwritten (Some x) P e = absurd (true≢false e)

-- ---- a copy on a connection is one for its client

copy_client : (k : Conn) (h : HubState) (act : Act) → places_on k h act ≡ true → (c : ℕ) × ((is_for c (stage_of k h.connections) ≡ true) × (is_copy_for c act ≡ true))
unfolding places_on is_copy_for
copy_client k h (acts.Placed client message) e = (client, (e, eq-eqb client client refl))
copy_client k h (acts.Missed client message) e = absurd (true≢false (sym e))
copy_client k h (acts.Took publisher message) e = absurd (true≢false (sym e))
copy_client k h (acts.Will publisher message) e = absurd (true≢false (sym e))
copy_client k h (acts.Subscribed client name qos) e = absurd (true≢false (sym e))
copy_client k h (acts.Unsubscribed client name) e = absurd (true≢false (sym e))
copy_client k h (acts.Up conn client present) e = absurd (true≢false (sym e))
copy_client k h (acts.Closed conn why) e = absurd (true≢false (sym e))
copy_client k h (acts.Removed client) e = absurd (true≢false (sym e))
copy_client k h (acts.WillDropped client) e = absurd (true≢false (sym e))

either : (a b : Bool) → b ≡ true → (a || b) ≡ true
either true b h = refl
either false b h = h

copy_here : (k : Conn) (h : HubState) (act : Act) (log : List Act) (b : Bool) → places_on k h act ≡ b → (b || list_any (places_on k h) log) ≡ true
    → (list_any (places_on k h) log ≡ true → (c : ℕ) × ((is_for c (stage_of k h.connections) ≡ true) × (list_any (is_copy_for c) log ≡ true)))
    → (c : ℕ) × ((is_for c (stage_of k h.connections) ≡ true) × (list_any (is_copy_for c) (act ∷ log) ≡ true))
copy_here k h act log true is some later =
    let here = copy_client k h act is in
    (here.0, (here.1.0, ap (λ (b : Bool). b || list_any (is_copy_for here.0) log) here.1.1))
copy_here k h act log false is some later =
    let there = later some in
    (there.0, (there.1.0, either (is_copy_for there.0 act) (list_any (is_copy_for there.0) log) there.1.1))

copy_somewhere : (k : Conn) (h : HubState) (log : List Act) → list_any (places_on k h) log ≡ true
    → (c : ℕ) × ((is_for c (stage_of k h.connections) ≡ true) × (list_any (is_copy_for c) log ≡ true))
copy_somewhere k h [] e = absurd (true≢false (sym e))
copy_somewhere k h (act ∷ log) e = copy_here k h act log (places_on k h act) refl e (copy_somewhere k h log)

-- ---- a step

pub step_watched : BegunLaws → (most : ℕ) (old new : ServedState) (event : HubEvent) (reply : HubReply) (f f1 : ℕ → Option ℕ) (m o m1 o1 m2 o2 : List Bool)
    → new.base ≡ old.base → IsReached old.base → IsServed old → HubStep old.hub event reply new.hub → IsNoted reply.acts f m o f1 m1 o1
    → length new.lines ≤ length m → length new.lines ≤ length o → length m2 ≡ length m1 → length o2 ≡ length o1 → AllIn m1 m2 → AllIn o1 o2
    → ((c p : ℕ) → exists_at p new.lines ≡ true → is_for c (stage_of (name_at p) old.hub.connections) ≡ true → (f c ≡ Some p) ⊎ (is_in p o ≡ true))
    → ((p : ℕ) → exists_at p new.lines ≡ true → is_on (name_at p) event ≡ false
    → (output_at p new.lines ≡ output_at p old.lines) × (IsWrittenAt most p old ⊎ ((is_in p m ≡ true) ⊎ (is_in p o ≡ true))))
    → ((p : ℕ) → exists_at p new.lines ≡ true → is_on (name_at p) event ≡ true → IsWrittenAt most p new ⊎ ((is_in p m2 ≡ true) ⊎ (is_in p o2 ≡ true)))
    → IsWatched most new f1 m2 o2
step_watched laws most old new event reply f f1 m o m1 o1 m2 o2 based reached served step noted wm wo lm lo gm go_ was before own = record {
  reached = subst IsReached (sym based) reached;
  marked_places = subst (λ (n : ℕ). length new.lines ≤ n) (sym (lm ∙ noted.marked_places)) wm;
  over_places = subst (λ (n : ℕ). length new.lines ≤ n) (sym (lo ∙ noted.over_places)) wo;
  noted = known;
  written = λ p. at p (exists_at p new.lines) refl;
}
  where
    e : Episode
    e = record { event = event; reply = reply; work = step.work }

    es : List Episode
    es = reached.before ++ served.made

    runs : Follows reached.begun es old.hub
    runs = follows_both reached.begun old.base old.hub reached.before served.made reached.follows served.follows

    runs_on : Follows reached.begun (es ++ e ∷ []) new.hub
    runs_on = follows_last reached.begun old.hub new.hub es e runs step.right step.does step.after

    known : (c p : ℕ) → exists_at p new.lines ≡ true → is_for c (stage_of (name_at p) new.hub.connections) ≡ true → (f1 c ≡ Some p) ⊎ (is_in p o2 ≡ true)
    known c p there here =
        let within : p < length o = let below = exists_within p new.lines there in omega arith in
        let up = (laws.connected_is_seen reached.begun reached.may_begin (es ++ e ∷ []) new.hub runs_on c (name_at p)).0 here in
        let up_last : (seen c (acts_of es ++ reply.acts)).up ≡ Some (name_at p) = ap (λ (l : List Act). (seen c l).up) (sym (acts_last es e)) ∙ up in
        let first : AreNotedAt p (acts_of es) f o = λ c up. was c p there ((laws.connected_is_seen reached.begun reached.may_begin es old.hub runs c (name_at p)).1 up) in
        ⊎_elim (λ at. inl at) (λ over. inr (go_ p over)) (noted.noted p within (acts_of es) first c up_last)

    marked_later : (p : ℕ) → is_in p m ≡ true → is_in p m2 ≡ true
    marked_later p x = gm p (noted.marked_stay p x)

    over_later : (p : ℕ) → is_in p o ≡ true → is_in p o2 ≡ true
    over_later p x = go_ p (noted.over_stay p x)

    -- another connection than that of the event
    elsewhere : (p : ℕ) → exists_at p new.lines ≡ true → is_on (name_at p) event ≡ false → (b : Bool) → list_any (places_on (name_at p) old.hub) reply.acts ≡ b
        → IsWrittenAt most p new ⊎ ((is_in p m2 ≡ true) ⊎ (is_in p o2 ≡ true))
    elsewhere p there other true copies =
        let within : p < length m = let below = exists_within p new.lines there in omega arith in
        let c = copy_somewhere (name_at p) old.hub reply.acts copies in
        ⊎_elim (λ at. inr (inl (gm p (noted.marks c.0 p within at c.1.1)))) (λ over. inr (inr (over_later p over))) (was c.0 p there c.1.0)
    elsewhere p there other false none =
        let same : waiting_on (name_at p) new.hub.connections ≡ waiting_on (name_at p) old.hub.connections =
        laws.others_unchanged reached.begun reached.may_begin es old.hub runs event reply new.hub step (name_at p) other none in
        let pair = before p there other in
        let still : IsWrittenAt most p old → IsWrittenAt most p new =
        λ written. subst (λ (x : Option Output). IfSome x (IsWritten most (waiting_on (name_at p) new.hub.connections))) (sym pair.0)
        (subst (λ (bytes : List ℕ). IfSome (output_at p old.lines) (IsWritten most bytes)) (sym same) written) in
        ⊎_elim (λ written. inl (still written)) (λ rest. inr (⊎_elim (λ x. inl (marked_later p x)) (λ x. inr (over_later p x)) rest)) pair.1

    at : (p : ℕ) (b : Bool) → exists_at p new.lines ≡ b → IsWrittenAt most p new ⊎ ((is_in p m2 ≡ true) ⊎ (is_in p o2 ≡ true))
    at p false none = inl (unwritten (output_at p new.lines) (IsWritten most (waiting_on (name_at p) new.hub.connections)) none)
    at p true there = on (is_on (name_at p) event) refl
      where
        on : (b : Bool) → is_on (name_at p) event ≡ b → IsWrittenAt most p new ⊎ ((is_in p m2 ≡ true) ⊎ (is_in p o2 ≡ true))
        on true here = own p there here
        on false other = elsewhere p there other (list_any (places_on (name_at p) old.hub) reply.acts) refl

-- ---- no step

-- notes with more marks, and connections with another output at one place
pub still_watched : (most : ℕ) (old new : ServedState) (f : ℕ → Option ℕ) (m o m2 o2 : List Bool) (q : ℕ) → IsWatched most old f m o
    → new.base ≡ old.base → new.hub ≡ old.hub → length new.lines ≡ length old.lines → length m2 ≡ length m → length o2 ≡ length o → AllIn o o2
    → ((p : ℕ) → (p ≡ q → ⊥) → is_in p m ≡ true → is_in p m2 ≡ true)
    → ((p : ℕ) → (p ≡ q → ⊥) → output_at p new.lines ≡ output_at p old.lines) → exists_at q new.lines ≡ exists_at q old.lines
    → (exists_at q new.lines ≡ true → IsWrittenAt most q new ⊎ ((is_in q m2 ≡ true) ⊎ (is_in q o2 ≡ true)))
    → IsWatched most new f m2 o2
still_watched most old new f m o m2 o2 q w based still ln lm lo grows marks others there own = record {
  reached = subst IsReached (sym based) w.reached;
  marked_places = let a = w.marked_places in subst (λ (n : ℕ). length new.lines ≤ n) (sym lm) (subst (λ (n : ℕ). n ≤ length m) (sym ln) a);
  over_places = let a = w.over_places in subst (λ (n : ℕ). length new.lines ≤ n) (sym lo) (subst (λ (n : ℕ). n ≤ length o) (sym ln) a);
  noted = λ c p ex here. ⊎_elim (λ x. inl x) (λ x. inr (grows p x)) (w.noted c p (sym (same_exists p (eqb p q) refl) ∙ ex) (subst (λ (h : HubState). is_for c (stage_of (name_at p) h.connections) ≡ true) still here));
  written = λ p. at p (eqb p q) refl;
}
  where
    apart : (p : ℕ) → eqb p q ≡ false → p ≡ q → ⊥
    apart p e same = true≢false (sym (eq-eqb p q same) ∙ e)

    same_exists : (p : ℕ) (b : Bool) → eqb p q ≡ b → exists_at p new.lines ≡ exists_at p old.lines
    same_exists p true e = let same : p ≡ q = eqb-true p q e in subst (λ (n : ℕ). exists_at n new.lines ≡ exists_at n old.lines) (sym same) there
    same_exists p false e = ap is_some (others p (apart p e))

    here : (b : Bool) → exists_at q new.lines ≡ b → IsWrittenAt most q new ⊎ ((is_in q m2 ≡ true) ⊎ (is_in q o2 ≡ true))
    here true e = own e
    here false e = inl (unwritten (output_at q new.lines) (IsWritten most (waiting_on (name_at q) new.hub.connections)) e)

    at : (p : ℕ) (b : Bool) → eqb p q ≡ b → IsWrittenAt most p new ⊎ ((is_in p m2 ≡ true) ⊎ (is_in p o2 ≡ true))
    at p true e =
        let same : p ≡ q = eqb-true p q e in
        subst (λ (n : ℕ). IsWrittenAt most n new ⊎ ((is_in n m2 ≡ true) ⊎ (is_in n o2 ≡ true))) (sym same) (here (exists_at q new.lines) refl)
    at p false e =
        ⊎_elim (λ x. inl (subst (λ (y : Option Output). IfSome y (IsWritten most (waiting_on (name_at p) new.hub.connections))) (sym (others p (apart p e)))
        (subst (λ (h : HubState). IfSome (output_at p old.lines) (IsWritten most (waiting_on (name_at p) h.connections))) (sym still) x)))
        (λ rest. inr (⊎_elim (λ x. inl (marks p (apart p e) x)) (λ x. inr (grows p x)) rest)) (w.written p)

begun_reached : (hub : HubState) → MayBegin hub → IsReached hub
begun_reached hub may = record { begun = hub; may_begin = may; before = []; follows = refl }

pub new_reached : BegunLaws → (config : HubConfig) → IsReached (new_hub config)
new_reached laws config = begun_reached (new_hub config) (laws.new config)

pub new_watched : (most : ℕ) (h : HubState) (committed : Bool) (calls : Option (List Call)) (notes : List SnapshotNote) (f : ℕ → Option ℕ) → IsReached h
    → IsWatched most (served_state h h [] committed calls notes) f [] []
new_watched most h committed calls notes f reached = record {
  reached = reached;
  marked_places = omega arith;
  over_places = omega arith;
  noted = λ c p there here. absurd (true≢false (sym there));
  written = λ p. inl tt;
}

-- a set without one place
pub apart_in : (m : List Bool) (q p : ℕ) → (p ≡ q → ⊥) → is_in p m ≡ true → is_in p (set m q false) ≡ true
apart_in m q p apart x = get_or-set_other m q p false false apart ∙ x

-- ---- the end of a round

-- nothing is marked, and nothing is over unless an allocation failed
pub settled_is : (most : ℕ) (served : ServedState) (f : ℕ → Option ℕ) (m o : List Bool) (failed : Bool) → IsWatched most served f m o
    → IsEmpty m → AreEnded (watched_state served most m o failed) → IsSettled (watched_state served most m o failed)
settled_is most served f m o failed w unmarked ended p =
    ⊎_elim (λ written. inl written)
    (λ rest. ⊎_elim (λ marked. absurd (true≢false (sym marked ∙ unmarked p)))
    (λ over. inr (over, ⊎_elim (λ empty. absurd (true≢false (sym over ∙ empty p))) (λ x. x) ended)) rest) (w.written p)

-- at most the limit is pending on a connection that is written
within_limit : (most : ℕ) (waiting : List ℕ) (o : Option Output) → is_some o ≡ true → IfSome o (IsWritten most waiting) → length waiting ≤ most
within_limit most waiting None there written = absurd (true≢false (sym there))
within_limit most waiting (Some x) there written = written.1

-- so no connection is owed more than the limit
pub bounded_is : (most : ℕ) (served : ServedState) (f : ℕ → Option ℕ) (m o : List Bool) (failed : Bool) → IsWatched most served f m o
    → IsEmpty m → AreEnded (watched_state served most m o failed) → AreBounded (watched_state served most m o failed)
bounded_is most served f m o failed w unmarked ended p there =
    ⊎_elim (λ written. inl (within_limit most (waiting_at p served) (output_at p served.lines) there written)) (λ left. inr left)
    (settled_is most served f m o failed w unmarked ended p)

-- ---- calls

elsewhere_is : (p q : ℕ) → same_conn (name_at q) (name_at p) ≡ false → p ≡ q → ⊥
elsewhere_is p q e same = true≢false (sym (subst (λ (n : ℕ). same_conn (name_at q) (name_at n) ≡ true) (sym same) (same_conn-itself (name_at q))) ∙ e)

exists_same : (old new : List (Option Line)) (p : ℕ) → output_at p new ≡ output_at p old → exists_at p new ≡ exists_at p old
exists_same old new p same = ap is_some same

-- connections exist at the same places
pub exists_before : (old new : List (Option Line)) (q : ℕ) → OthersStay q old new → exists_at q new ≡ exists_at q old → (p : ℕ) → exists_at p new ≡ exists_at p old
exists_before old new q others here p = go (eqb p q) refl
  where
    go : (b : Bool) → eqb p q ≡ b → exists_at p new ≡ exists_at p old
    go true e = let same : p ≡ q = eqb-true p q e in subst (λ (n : ℕ). exists_at n new ≡ exists_at n old) (sym same) here
    go false e = ap is_some (others p (λ same. true≢false (sym (eq-eqb p q same) ∙ e)))

pub tick_watched : BegunLaws → (most : ℕ) (old new : ServedState) (now : ℕ) (reply : HubReply) (f f1 : ℕ → Option ℕ) (m o m1 o1 : List Bool)
    → IsWatched most old f m o → IsServed old → new.base ≡ old.base → new.lines ≡ old.lines → HubStep old.hub (Tick now) reply new.hub → IsNoted reply.acts f m o f1 m1 o1 → IsWatched most new f1 m1 o1
tick_watched laws most old new now reply f f1 m o m1 o1 w served based same step noted =
    step_watched laws most old new (Tick now) reply f f1 m o m1 o1 m1 o1 based w.reached served step noted
    (subst (λ (l : List (Option Line)). length l ≤ length m) (sym same) w.marked_places) (subst (λ (l : List (Option Line)). length l ≤ length o) (sym same) w.over_places)
    refl refl (same_all m1) (same_all o1)
    (λ c p there here. w.noted c p (sym (ap (exists_at p) same) ∙ there) here)
    (λ p there other. (ap (output_at p) same, w.written p))
    (λ p there on. absurd (true≢false (sym on)))

pub read_watched : BegunLaws → (most : ℕ) (old new : ServedState) (q : ℕ) (bytes : List ℕ) (reply : HubReply) (f f1 : ℕ → Option ℕ) (m o m1 o1 : List Bool)
    → IsWatched most old f m o → IsServed old → IsSame old new → OthersStay q old.lines new.lines → exists_at q new.lines ≡ exists_at q old.lines
    → HubStep old.hub (Bytes (name_at q) bytes) reply new.hub → IsNoted reply.acts f m o f1 m1 o1 → IsWatched most new f1 (set m1 q true) o1
read_watched laws most old new q bytes reply f f1 m o m1 o1 w served same others here step noted =
    step_watched laws most old new (Bytes (name_at q) bytes) reply f f1 m o m1 o1 (set m1 q true) o1 same.base w.reached served step noted
    within (subst (λ (n : ℕ). n ≤ length o) (sym same.places) w.over_places)
    (length-set m1 q true) refl (put_all m1 q) (same_all o1)
    (λ c p there here. w.noted c p (sym (before p) ∙ there) here)
    (λ p there other. (others p (elsewhere_is p q other), w.written p))
    (λ p there on.
    let at : q ≡ p = same_place p q on in
    let inside : p < length m1 =
    subst (λ (n : ℕ). p < n) (sym noted.marked_places) (let below = exists_within p new.lines there in omega (arith, within)) in
    inr (inl (subst (λ (n : ℕ). is_in p (set m1 n true) ≡ true) (sym at) (put_in m1 p inside))))
  where
    before : (p : ℕ) → exists_at p new.lines ≡ exists_at p old.lines
    before = exists_before old.lines new.lines q others here

    within : length new.lines ≤ length m
    within = subst (λ (n : ℕ). n ≤ length m) (sym same.places) w.marked_places

pub open_watched : BegunLaws → (most : ℕ) (old new : ServedState) (q : ℕ) (line : Line) (reply : HubReply) (f f1 : ℕ → Option ℕ) (m o m1 o1 : List Bool)
    → IsWatched most old f m o → IsServed old → IsSame old new → new.lines ≡ set old.lines q (Some line)
    → HubStep old.hub (Opened (name_at q)) reply new.hub → IsNoted reply.acts f m o f1 m1 o1 → IsWatched most new f1 (set m1 q true) o1
open_watched laws most old new q line reply f f1 m o m1 o1 w served same lines step noted =
    step_watched laws most old new (Opened (name_at q)) reply f f1 m o m1 o1 (set m1 q true) o1 same.base w.reached served step noted
    within (subst (λ (n : ℕ). n ≤ length o) (sym same.places) w.over_places)
    (length-set m1 q true) refl (put_all m1 q) (same_all o1) was
    (λ p there other. (others p (elsewhere_is p q other), w.written p))
    (λ p there on.
    let at : q ≡ p = same_place p q on in
    let inside : p < length m1 =
    subst (λ (n : ℕ). p < n) (sym noted.marked_places) (let below = exists_within p new.lines there in omega (arith, within)) in
    inr (inl (subst (λ (n : ℕ). is_in p (set m1 n true) ≡ true) (sym at) (put_in m1 p inside))))
  where
    within : length new.lines ≤ length m
    within = subst (λ (n : ℕ). n ≤ length m) (sym same.places) w.marked_places

    others : OthersStay q old.lines new.lines
    others p apart = ap (output_at p) lines ∙ output_other old.lines q p (Some line) apart

    closed : stage_of (name_at q) old.hub.connections ≡ Closed
    closed = unknown_shut (name_at q) old.hub.connections (not_known (name_at q) old.hub step.right)

    was : (c p : ℕ) → exists_at p new.lines ≡ true → is_for c (stage_of (name_at p) old.hub.connections) ≡ true → (f c ≡ Some p) ⊎ (is_in p o ≡ true)
    was c p there here = go (eqb p q) refl
      where
        go : (b : Bool) → eqb p q ≡ b → (f c ≡ Some p) ⊎ (is_in p o ≡ true)
        go true e =
            let same : p ≡ q = eqb-true p q e in
            absurd (true≢false (sym here ∙ (ap (λ (n : ℕ). is_for c (stage_of (name_at n) old.hub.connections)) same ∙ ap (is_for c) closed)))
        go false e =
            let apart : p ≡ q → ⊥ = λ same. true≢false (sym (eq-eqb p q same) ∙ e) in
            w.noted c p (sym (exists_same old.lines new.lines p (others p apart)) ∙ there) here

-- a place that is over is taken out of the set, and its connection ended
pub end_watched : BegunLaws → (most : ℕ) (old new : ServedState) (q : ℕ) (reply : HubReply) (f f1 : ℕ → Option ℕ) (m o m1 o1 : List Bool)
    → IsWatched most old f m o → IsServed old → IsSame old new → OthersStay q old.lines new.lines → output_at q new.lines ≡ None
    → HubStep old.hub (Ended (name_at q)) reply new.hub → IsNoted reply.acts f m (set o q false) f1 m1 o1 → IsWatched most new f1 m1 o1
end_watched laws most old new q reply f f1 m o m1 o1 w served same others gone step noted =
    step_watched laws most old new (Ended (name_at q)) reply f f1 m (set o q false) m1 o1 m1 o1 same.base w.reached served step noted
    (subst (λ (n : ℕ). n ≤ length m) (sym same.places) w.marked_places)
    (subst (λ (n : ℕ). length new.lines ≤ n) (sym (length-set o q false)) (subst (λ (n : ℕ). n ≤ length o) (sym same.places) w.over_places))
    refl refl (same_all m1) (same_all o1)
    (λ c p there here.
    let apart = away p there in
    ⊎_elim (λ x. inl x) (λ x. inr (apart_in o q p apart x)) (w.noted c p (sym (exists_same old.lines new.lines p (others p apart)) ∙ there) here))
    (λ p there other.
    let apart = away p there in
    (others p apart, ⊎_elim (λ x. inl x) (λ rest. inr (⊎_elim (λ x. inl x) (λ x. inr (apart_in o q p apart x)) rest)) (w.written p)))
    (λ p there on. absurd (away p there (sym (same_place p q on))))
  where
    away : (p : ℕ) → exists_at p new.lines ≡ true → p ≡ q → ⊥
    away p there same = true≢false (sym there ∙ (ap (λ (n : ℕ). exists_at n new.lines) same ∙ ap is_some gone))

-- a place without a connection is taken out of the set of those that are over
pub vacant_watched : (most : ℕ) (s : ServedState) (q : ℕ) (f : ℕ → Option ℕ) (m o : List Bool) → IsWatched most s f m o → output_at q s.lines ≡ None → IsWatched most s f m (set o q false)
vacant_watched most s q f m o w gone = record {
  reached = w.reached;
  marked_places = w.marked_places;
  over_places = subst (λ (n : ℕ). length s.lines ≤ n) (sym (length-set o q false)) w.over_places;
  noted = λ c p there here. ⊎_elim (λ x. inl x) (λ x. inr (apart_in o q p (away p there) x)) (w.noted c p there here);
  written = λ p. at p (exists_at p s.lines) refl;
}
  where
    away : (p : ℕ) → exists_at p s.lines ≡ true → p ≡ q → ⊥
    away p there same = true≢false (sym there ∙ (ap (λ (n : ℕ). exists_at n s.lines) same ∙ ap is_some gone))

    at : (p : ℕ) (b : Bool) → exists_at p s.lines ≡ b → IsWrittenAt most p s ⊎ ((is_in p m ≡ true) ⊎ (is_in p (set o q false) ≡ true))
    at p false none = inl (unwritten (output_at p s.lines) (IsWritten most (waiting_on (name_at p) s.hub.connections)) none)
    at p true there = ⊎_elim (λ x. inl x) (λ rest. inr (⊎_elim (λ x. inl x) (λ x. inr (apart_in o q p (away p there) x)) rest)) (w.written p)

-- a place that is over stays over, if its connection cannot be ended
pub kept_watched : (most : ℕ) (s : ServedState) (q : ℕ) (f : ℕ → Option ℕ) (m o : List Bool) → IsWatched most s f m o → IsWatched most s f m (set (set o q false) q true)
kept_watched most s q f m o w =
    still_watched most s s f m o m (set (set o q false) q true) q w refl refl refl refl (length-set (set o q false) q true ∙ length-set o q false) grows
    (λ p apart x. x) (λ p apart. refl) refl
    (λ there. inr (inr (put_in (set o q false) q (subst (λ (n : ℕ). q < n) (sym (length-set o q false)) (let below = exists_within q s.lines there in omega (arith, w.over_places))))))
  where
    grows : AllIn o (set (set o q false) q true)
    grows p x = go (eqb p q) refl
      where
        go : (b : Bool) → eqb p q ≡ b → is_in p (set (set o q false) q true) ≡ true
        go true e =
            let same : p ≡ q = eqb-true p q e in
            subst (λ (n : ℕ). is_in n (set (set o q false) q true) ≡ true) (sym same)
            (put_in (set o q false) q (subst (λ (n : ℕ). q < n) (sym (length-set o q false)) (in_within o q (subst (λ (n : ℕ). is_in n o ≡ true) same x))))
        go false e =
            let apart : p ≡ q → ⊥ = λ same. true≢false (sym (eq-eqb p q same) ∙ e) in
            put_all (set o q false) q p (apart_in o q p apart x)

-- a place that is marked is taken out of the set, and its output written; or it is over
pub give_watched : BegunLaws → (most : ℕ) (old new : ServedState) (q : ℕ) (f : ℕ → Option ℕ) (m o o2 : List Bool) → IsWatched most old f m o → IsServed old → IsSame old new
    → MayCollect q old.hub new.hub → OthersStay q old.lines new.lines → exists_at q new.lines ≡ exists_at q old.lines → length o2 ≡ length o → AllIn o o2
    → (exists_at q new.lines ≡ true → IsWrittenAt most q new ⊎ (is_in q o2 ≡ true)) → IsWatched most new f (set m q false) o2
give_watched laws most old new q f m o o2 w served same (inl still) others here lo grows own =
    still_watched most old new f m o (set m q false) o2 q w same.base still same.places (length-set m q false) lo grows
    (λ p apart x. apart_in m q p apart x) others here (λ there. ⊎_elim (λ x. inl x) (λ x. inr (inr x)) (own there))
give_watched laws most old new q f m o o2 w served same (inr collected) others here lo grows own =
    step_watched laws most old new (Collect (name_at q)) collected.0 f f (set m q false) o (set m q false) o (set m q false) o2 same.base w.reached served collected.1 noted
    (subst (λ (n : ℕ). length new.lines ≤ n) (sym (length-set m q false)) (subst (λ (n : ℕ). n ≤ length m) (sym same.places) w.marked_places))
    (subst (λ (n : ℕ). n ≤ length o) (sym same.places) w.over_places)
    refl lo (same_all (set m q false)) grows
    (λ c p there here. w.noted c p (sym (before p) ∙ there) here)
    (λ p there other.
    let apart = elsewhere_is p q other in
    (others p apart, ⊎_elim (λ x. inl x) (λ rest. inr (⊎_elim (λ x. inl (apart_in m q p apart x)) (λ x. inr x) rest)) (w.written p)))
    (λ p there on.
    let at : q ≡ p = same_place p q on in
    ⊎_elim (λ x. inl (subst (λ (n : ℕ). IsWrittenAt most n new) at x)) (λ x. inr (inr (subst (λ (n : ℕ). is_in n o2 ≡ true) at x)))
    (own (subst (λ (n : ℕ). exists_at n new.lines ≡ true) (sym at) there)))
  where
    before : (p : ℕ) → exists_at p new.lines ≡ exists_at p old.lines
    before = exists_before old.lines new.lines q others here

    none : collected.0.acts ≡ []
    none = ap (λ (r : HubReply). r.acts) collected.1.does.1

    noted : IsNoted collected.0.acts f (set m q false) o f (set m q false) o
    noted = subst (λ (l : List Act). IsNoted l f (set m q false) o f (set m q false) o) (sym none) (no_more f (set m q false) o)

-- ---- a call that makes no step

written_same : (most : ℕ) (old new : ServedState) (q : ℕ) → new.hub ≡ old.hub → output_at q new.lines ≡ output_at q old.lines → IsWrittenAt most q old → IsWrittenAt most q new
written_same most old new q still same x =
    subst (λ (y : Option Output). IfSome y (IsWritten most (waiting_on (name_at q) new.hub.connections))) (sym same)
    (subst (λ (h : HubState). IfSome (output_at q old.lines) (IsWritten most (waiting_on (name_at q) h.connections))) (sym still) x)

-- a written output of which a socket takes no more
blocked_is : (most : ℕ) (waiting : List ℕ) (o p : Option Output) → AtOutputs o p (IsFlushed Blocked) → IfSome o (IsWritten most waiting) → IfSome p (IsWritten most waiting)
blocked_is most waiting o None flushed written = tt
blocked_is most waiting None (Some y) flushed written = absurd flushed
blocked_is most waiting (Some x) (Some y) flushed written = (flushed.1 ∙ written.0, written.1, inl flushed.0)

module _ (most : ℕ) (old new : ServedState) (q : ℕ) (f : ℕ → Option ℕ) (m o : List Bool) (w : IsWatched most old f m o) (still : new.hub ≡ old.hub) (same : IsSame old new) where
  -- no output changed
  pub stays_watched : OutputStays old.lines new.lines → IsWatched most new f m o
  stays_watched stays =
      still_watched most old new f m o m o q w same.base still same.places refl refl (same_all o) (λ p apart x. x) (λ p apart. stays p) (ap is_some (stays q))
      (λ there. ⊎_elim (λ x. inl (written_same most old new q still (stays q) x)) (λ rest. inr rest) (w.written q))

  module _ (others : OthersStay q old.lines new.lines) (here : exists_at q new.lines ≡ exists_at q old.lines) where
    -- the place is over
    pub over_watched : IsWatched most new f m (set o q true)
    over_watched =
        still_watched most old new f m o m (set o q true) q w same.base still same.places refl (length-set o q true) (put_all o q) (λ p apart x. x) others here
        (λ there. let below = exists_within q new.lines there in inr (inr (put_in o q (omega (arith, below, same.places, w.over_places)))))

    -- the place is marked
    pub marked_watched : IsWatched most new f (set m q true) o
    marked_watched =
        still_watched most old new f m o (set m q true) o q w same.base still same.places (length-set m q true) refl (same_all o) (λ p apart x. put_all m q p x) others here
        (λ there. let below = exists_within q new.lines there in inr (inl (put_in m q (omega (arith, below, same.places, w.marked_places)))))

    -- its socket takes no byte
    pub blocked_watched : AtOutputs (output_at q old.lines) (output_at q new.lines) (IsFlushed Blocked) → IsWatched most new f m o
    blocked_watched flushed =
        still_watched most old new f m o m o q w same.base still same.places refl refl (same_all o) (λ p apart x. x) others here
        (λ there. ⊎_elim
        (λ x. inl (subst (λ (h : HubState). IfSome (output_at q new.lines) (IsWritten most (waiting_on (name_at q) h.connections))) (sym still)
        (blocked_is most (waiting_on (name_at q) old.hub.connections) (output_at q old.lines) (output_at q new.lines) flushed x)))
        (λ rest. inr rest) (w.written q))

-- ---- the number of connections

pub connections_same : (old new : ServedState) (q : ℕ) → IsSame old new → OthersStay q old.lines new.lines → exists_at q new.lines ≡ exists_at q old.lines
    → connections_in new.lines ≡ connections_in old.lines
connections_same old new q same others here = as_many old.lines new.lines same.places (exists_before old.lines new.lines q others here)

-- the number of ends that are left, after one end and further notes
pub ends_fewer : (connections places over later : ℕ) → later ≤ places → connections * suc places + later < (connections + 1) * suc places + over
ends_fewer connections places over later within = omega (arith, within)

pub fewer_left : (old new : WatchedState) → connections_in new.served.lines + 1 ≡ connections_in old.served.lines → length new.over ≡ length old.over → ends_left new < ends_left old
fewer_left old new fewer places =
    let most : count_in new.over ≤ length new.over = count_by-le-length (λ b. b) new.over in
    subst (λ (n : ℕ). ends_left new < n * suc (length old.over) + count_in old.over) fewer
    (subst (λ (n : ℕ). connections_in new.served.lines * suc n + count_in new.over < (connections_in new.served.lines + 1) * suc (length old.over) + count_in old.over) (sym places)
    (ends_fewer (connections_in new.served.lines) (length old.over) (count_in old.over) (count_in new.over) (omega (arith, most, places))))

pub emptier_left : (old new : WatchedState) → new.served ≡ old.served → length new.over ≡ length old.over → count_in new.over < count_in old.over → ends_left new < ends_left old
emptier_left old new same places fewer =
    let first : connections_in new.served.lines * suc (length new.over) ≡ connections_in old.served.lines * suc (length old.over) =
    ap₂ (λ (c l : ℕ). c * suc l) (ap (λ (s : ServedState). connections_in s.lines) same) places in
    omega (arith, first, fewer)

-- a place that has a connection is within the set
pub over_within : (most : ℕ) (old new : ServedState) (q : ℕ) (f : ℕ → Option ℕ) (m o : List Bool) → IsWatched most old f m o → IsSame old new → exists_at q new.lines ≡ true → q < length o
over_within most old new q f m o w same there = let below = exists_within q new.lines there in omega (arith, below, same.places, w.over_places)

-- after one more end, or none
pub ended_more : (a b : Bool) (first before now : ℕ) → (a ≡ true → before < first) → (a ≡ false → before ≡ first) → (b ≡ true → now < before) → (b ≡ false → now ≡ before)
    → (a || b) ≡ true → now < first
ended_more true true first before now some none more same e = let p = some refl in let q = more refl in omega (arith, p, q)
ended_more true false first before now some none more same e = let p = some refl in let q = same refl in omega (arith, p, q)
ended_more false true first before now some none more same e = let p = none refl in let q = more refl in omega (arith, p, q)
ended_more false false first before now some none more same e = absurd (true≢false (sym e))

-- a commit, which changes neither the broker's state nor a connection
pub commit_watched : (most : ℕ) (old new : ServedState) (f : ℕ → Option ℕ) (m o : List Bool) → IsWatched most old f m o → new.base ≡ old.base → new.hub ≡ old.hub → new.lines ≡ old.lines
    → IsWatched most new f m o
commit_watched most old new f m o w base still lines =
    stays_watched most old new 0 f m o w still (record { base = base; places = ap (λ (l : List (Option Line)). length l) lines })
    (λ p. ap (λ (l : List (Option Line)). output_at p l) lines)
