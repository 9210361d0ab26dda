-- The connections that are late are closed one after another (3.1, 3.1.2.10).
use Rattle.std.proofs.Common.{◌≡◌, ◌+◌, ◌≤◌, ◌&&◌, ℕ, zero, suc, Bool, true, false, cond, max, true≢false, ◌-◌, ◌<◌, List, [], ◌∷◌, ◌++◌, length, map, take, drop, get_or, Option, Some, None, refl, sym, ap, ap₂, subst, ◌∙◌, add-zero, add-one, add-suc, arith, ltb}
use Rattle.std.proofs.lemmas.Bool.{cond-true, cond-false, cond_both, ltb-true, ltb-false, or_parts}
use Rattle.std.proofs.lemmas.List.{drop-map, drop_all, get_or_default, length-map}
use Rattle.std.specs.List.{AllByRecursion, slice_get}
use Rattle.std.specs.List.Sorted.{IsNonDecreasing}
use Rattle.std.specs.Option.{IfNone, IfSome, SomeIff}
use Rattle.mq_packet.specs.declared.connect.Will.{Will}
use Rattle.mq_packet.specs.declared.message.Message.{Message}
use Rattle.mq_packet.specs.declared.packet.Packet.{Packet}
use Rattle.mq_packet.specs.Encoding.{encodings}
use Rattle.mq_end.specs.declared.reason.CloseReason.TheVariants as reasons
use Rattle.mq_end.specs.KeepAlive.{is_late}
use Rattle.mq_end.specs.End.{End, Reply, over}
use Rattle.mq_route.specs.declared.act.Act.{Act}
use Rattle.mq_route.specs.declared.act.Act.TheVariants as acts
use Rattle.mq_route.specs.declared.close.HubClose.{HubClose}
use Rattle.mq_route.specs.declared.close.HubClose.TheVariants.{NoConnect, Own}
use Rattle.mq_route.specs.declared.conn.Conn.{Conn}
use Rattle.mq_route.specs.declared.reply.HubReply.{HubReply}
use Rattle.mq_route.specs.declared.connection_state.ConnectionState.{ConnectionState}
use Rattle.mq_route.specs.declared.connection_state.ConnectionState.TheVariants.{AwaitingConnect, ConnectedAs, Closed}
use Rattle.mq_route.specs.Copies.{will_message}
use Rattle.mq_route.specs.Hub.{HubState, HubConnection, changed, copies_of, end_of, is_connection, knows, stage_of, up_on, with_end, with_connection}
use Rattle.mq_route.specs.Routed.{same_conn}
use Rattle.mq_route.specs.Step.{OnTick, expire, expired_keys, has_passed, late_reason, remove_all, with_clock}
use Rattle.mq_route.specs.Step.OnTick.{Done, InTime, Late}
use Rattle.mq_route.specs.Work.{Work, begin, close, does, have_room, is_missed, last_will, leaves_behind, enqueue, enqueue_all, publishes_next, put_on, put_where, remove, remove_if, said, deliver, shut, shut_down, will_after, with_sessions}
use Rattle.mq_tables.specs.declared.sessions.session.BrokerSession.{BrokerSession}
use Rattle.mq_tables.specs.Alarms.{is_late_on}
use Rattle.mq_tables.specs.Late.{AreInTime, HasLate}
use Rattle.mq_tables.proofs.ConnectionTable.{itself}
use Rattle.mq_hub.specs.Inside.Refinement.{Refines}
use Rattle.mq_hub.specs.Inside.Invariant.{AreApart}
use Rattle.mq_hub.specs.Inside.View.{all_seen, seen}
use Rattle.mq_hub.specs.Deadline.{IsIdleBefore}
use Rattle.mq_hub.specs.Inside.Tick.{why_late, TicksFrom, late_of}
use Rattle.mq_hub.proofs.TableView.{knows_seen}

-- ---- the connections by name, each with its time of opening and its state

abbrev pub Place : Type 0
Place = Conn × (ℕ × ConnectionState)

abbrev pub place_of : HubConnection → Place
place_of x = (x.conn, (x.since, x.stage))

-- it is late
abbrev late_at : Option ℕ → ℕ → Place → Bool
late_at within now p = is_late_on within now p.1.0 p.1.1

-- how a tick closes it then
abbrev close_of : Place → Conn × HubClose
close_of p = (p.0, why_late p.1.1)

abbrev pub places : List HubConnection → List Place
places xs = map place_of xs

module _ (g : HubConnection → HubConnection) (names : (x : HubConnection) → (g x).conn ≡ x.conn) (sinces : (x : HubConnection) → (g x).since ≡ x.since) (stages : (x : HubConnection) → (g x).stage ≡ x.stage) where
  places_kept : (xs : List HubConnection) → places (map g xs) ≡ places xs
  places_kept [] = refl
  places_kept (x ∷ xs) = λ i. (names x i, (sinces x i, stages x i)) ∷ places_kept xs i

-- a part of a step that leaves them
abbrev Leaves : Work → Work → Type 0
Leaves w v = places v.hub.connections ≡ places w.hub.connections

leaves_put_on : (k : Conn) (ps : List Packet) (w : Work) → Leaves w (put_on k ps w)
unfolding put_on
leaves_put_on k ps w = places_kept (changed waits k) (λ x. name x (is_connection k x)) (λ x. since x (is_connection k x)) (λ x. stage x (is_connection k x)) w.hub.connections
  where
    waits : HubConnection → HubConnection
    waits x = record x { waiting = x.waiting ++ encodings ps }

    name : (x : HubConnection) (b : Bool) → (cond b (waits x) x).conn ≡ x.conn
    name x true = refl
    name x false = refl

    since : (x : HubConnection) (b : Bool) → (cond b (waits x) x).since ≡ x.since
    since x true = refl
    since x false = refl

    stage : (x : HubConnection) (b : Bool) → (cond b (waits x) x).stage ≡ x.stage
    stage x true = refl
    stage x false = refl

leaves_put_where : (o : Option Conn) (ps : List Packet) (w : Work) → Leaves w (put_where o ps w)
leaves_put_where None ps w = refl
leaves_put_where (Some k) ps w = leaves_put_on k ps w

leaves_does : (key : ℕ) (move : End → Reply) (w : Work) → Leaves w (does key move w)
unfolding does
leaves_does key move w =
    leaves_put_where (up_on key w.hub.connections) (move (end_of key w.hub.sessions)).out (with_sessions (with_end key (move (end_of key w.hub.sessions)).end) w)

leaves_place : (key : ℕ) (m : Message) (w : Work) → Leaves w (enqueue key m w)
unfolding enqueue
leaves_place key m w =
    cond_both (is_missed key m w.hub) (said (acts.Missed key m) w) (said (acts.Placed key m) (does key (publishes_next m) w)) (Leaves w)
    (λ e. refl)
    (λ e. leaves_does key (publishes_next m) w)

leaves_place_all : (copies : List (ℕ × Message)) (w : Work) → Leaves w (enqueue_all copies w)
leaves_place_all [] w = refl
leaves_place_all (c ∷ cs) w = leaves_place_all cs (enqueue c.0 c.1 w) ∙ leaves_place c.0 c.1 w

leaves_share : (act : Act) (m : Message) (w : Work) → Leaves w (deliver act m w)
unfolding deliver
leaves_share act m w = leaves_place_all (copies_of m w.hub) _

leaves_remove_if : (b : Bool) (key : ℕ) (w : Work) → Leaves w (remove_if b key w)
unfolding remove
leaves_remove_if true key w = refl
leaves_remove_if false key w = refl

leaves_last_will : (key : ℕ) (will : Option Will) (fits : Bool) (w : Work) → Leaves w (last_will key will fits w)
unfolding last_will
leaves_last_will key None fits w = refl
leaves_last_will key (Some will) fits w =
    let m = will_message will in
    cond_both (fits && have_room (copies_of m w.hub) w.hub) (deliver (acts.Will key m) m w) (said (acts.WillDropped key) w) (Leaves w)
    (λ e. leaves_share (acts.Will key m) m w)
    (λ e. refl)

leaves_left : (why : HubClose) (fits : Bool) (s : ConnectionState) (w : Work) → Leaves w (leaves_behind why fits s w)
unfolding leaves_behind
leaves_left why fits AwaitingConnect w = refl
leaves_left why fits (ConnectedAs key terms last_activity) w =
    let v : Work = with_sessions (with_end key (over (end_of key w.hub.sessions))) w in
    leaves_last_will key (will_after why terms.will) fits (remove_if terms.clean_session key v) ∙ leaves_remove_if terms.clean_session key v
leaves_left why fits Closed w = refl

-- ---- one that is closed

abbrev shuts : HubConnection → HubConnection
shuts x = record x { stage = Closed; held = [] }

abbrev gone : Place → Place
gone p = (p.0, (p.1.0, Closed))

module _ (k : Conn) where
  abbrev shut_at : Place → Place
  shut_at p = cond (same_conn p.0 k) (gone p) p

  places_shut : (xs : List HubConnection) → places (with_connection shuts k xs) ≡ map shut_at (places xs)
  places_shut [] = refl
  places_shut (x ∷ xs) = ap₂ (λ (p : Place) (ps : List Place). p ∷ ps) (go (is_connection k x)) (places_shut xs)
    where
      go : (b : Bool) → place_of (cond b (shuts x) x) ≡ cond b (gone (place_of x)) (place_of x)
      go true = refl
      go false = refl

  -- it is none of these
  others : (xs : List HubConnection) → knows k xs ≡ false → map shut_at (places xs) ≡ places xs
  others [] none = refl
  others (x ∷ xs) none =
      let p = or_parts (is_connection k x) (knows k xs) none in
      ap₂ (λ (q : Place) (ps : List Place). q ∷ ps) (cond-false (is_connection k x) (gone (place_of x)) (place_of x) p.0) (others xs p.1)

  places_close : (why : HubClose) (fits : Bool) (w : Work) → places (close k why fits w).hub.connections ≡ map shut_at (places w.hub.connections)
  unfolding close shut_down
  places_close why fits w = leaves_left why fits (stage_of k w.hub.connections) (said (acts.Closed k why) (shut k w)) ∙ places_shut w.hub.connections

-- ---- why it is closed

module _ (within : Option ℕ) (now since : ℕ) where
  reason_late : (s : ConnectionState) → is_late_on within now since s ≡ true → late_reason within now since s ≡ Some (why_late s)
  reason_late AwaitingConnect late = cond-true (has_passed within since now) (Some NoConnect) None late
  reason_late (ConnectedAs key terms last_activity) late = cond-true (is_late last_activity terms.keep_alive now) (Some (Own reasons.KeepAlive)) None late
  reason_late Closed late = absurd (true≢false (sym late))

  no_reason : (s : ConnectionState) → is_late_on within now since s ≡ false → late_reason within now since s ≡ None
  no_reason AwaitingConnect early = cond-false (has_passed within since now) (Some NoConnect) None early
  no_reason (ConnectedAs key terms last_activity) early = cond-false (is_late last_activity terms.keep_alive now) (Some (Own reasons.KeepAlive)) None early
  no_reason Closed early = refl

-- ---- the walk

module _ (within : Option ℕ) (now : ℕ) where
  abbrev late_first : List Place → Option (Conn × HubClose)
  late_first [] = None
  late_first (p ∷ ps) = cond (late_at within now p) (Some (close_of p)) None

  late_there : (i : ℕ) (xs : List HubConnection) → late_of within now (slice_get xs i) ≡ late_first (drop i (places xs))
  late_there zero [] = refl
  late_there (suc i) [] = refl
  late_there zero (x ∷ xs) = refl
  late_there (suc i) (x ∷ xs) = late_there i xs

drop_next : {X : Type 0} (i : ℕ) (xs ys : List X) (x : X) → drop i xs ≡ x ∷ ys → drop (suc i) xs ≡ ys
drop_next zero [] ys x e = absurd cc
drop_next zero (z ∷ zs) ys x e = cc
drop_next (suc i) [] ys x e = absurd cc
drop_next (suc i) (z ∷ zs) ys x e = drop_next i zs ys x e

drop_none : {X : Type 0} (i : ℕ) (xs : List X) → drop i xs ≡ [] → drop (suc i) xs ≡ []
drop_none zero [] e = refl
drop_none zero (z ∷ zs) e = absurd cc
drop_none (suc i) [] e = refl
drop_none (suc i) (z ∷ zs) e = drop_none i zs e

drop_further : {X : Type 0} (i : ℕ) (xs : List X) → drop (suc i) xs ≡ drop 1 (drop i xs)
drop_further zero [] = refl
drop_further zero (z ∷ zs) = refl
drop_further (suc i) [] = refl
drop_further (suc i) (z ∷ zs) = drop_further i zs

-- ---- those that the walk has passed

module _ (within : Option ℕ) (now : ℕ) where
  abbrev pub AllInTime : List Place → Type 0
  AllInTime = AllByRecursion (λ p. late_at within now p ≡ false)

  passed_one : (i : ℕ) (ps : List Place) → AllInTime (take i ps) → None ≡ late_first within now (drop i ps) → AllInTime (take (suc i) ps)
  passed_one zero [] all none = tt
  passed_one zero (p ∷ ps) all none = (go (late_at within now p) refl, tt)
    where
      go : (b : Bool) → late_at within now p ≡ b → late_at within now p ≡ false
      go true late = let c : None ≡ Some (close_of p) = none ∙ cond-true (late_at within now p) (Some (close_of p)) None late in absurd cc
      go false early = early
  passed_one (suc i) [] all none = tt
  passed_one (suc i) (p ∷ ps) all none = (all.0, passed_one i ps all.1 none)

  module _ (k : Conn) (why : HubClose) where
    shut_one : (i : ℕ) (ps : List Place) → AllInTime (take i ps) → Some (k, why) ≡ late_first within now (drop i ps) → AllInTime (take (suc i) (map (shut_at k) ps))
    shut_one zero [] all some = tt
    shut_one zero (p ∷ ps) all some = (go (late_at within now p) refl, tt)
      where
        go : (b : Bool) → late_at within now p ≡ b → late_at within now (shut_at k p) ≡ false
        go true late =
            let there : Some (k, why) ≡ Some (close_of p) = some ∙ cond-true (late_at within now p) (Some (close_of p)) None late in
            let both : (k, why) ≡ close_of p = cc in
            let same : p.0 ≡ k = sym (ap (λ (c : Conn × HubClose). c.0) both) in
            ap (λ (q : Place). late_at within now q) (cond-true (same_conn p.0 k) (gone p) p (ap (λ (n : Conn). same_conn n k) same ∙ itself k))
        go false early =
            let none : Some (k, why) ≡ None = some ∙ cond-false (late_at within now p) (Some (close_of p)) None early in absurd cc
    shut_one (suc i) [] all some = tt
    shut_one (suc i) (p ∷ ps) all some =
        (cond_both (same_conn p.0 k) (gone p) p (λ (q : Place). late_at within now q ≡ false) (λ e. refl) (λ e. all.0), shut_one i ps all.1 some)

  -- all of them
  all_passed : (i : ℕ) (xs : List HubConnection) → length xs ≤ i → AllInTime (take i (places xs)) → AreInTime within now xs
  all_passed i [] past all = tt
  all_passed zero (x ∷ xs) past all = absurd (omega (arith, past))
  all_passed (suc i) (x ∷ xs) past all = (all.0, all_passed i xs (omega (arith, past)) all.1)

-- ---- none is late

module _ (within : Option ℕ) (now : ℕ) where
  ticks_none : (xs : List HubConnection) (w w2 : Work) → OnTick within now xs w w2 → AreInTime within now xs → w2 ≡ w
  ticks_none xs w w2 (Done v) all = refl
  ticks_none xs w w2 (InTime x ys v v2 soon more) all = ticks_none ys v v2 more all.1
  ticks_none xs w w2 (Late x ys why fits v v2 late more) all =
      let none : Some why ≡ None = sym late ∙ no_reason within now x.since x.stage all.0 in absurd cc

  -- whatever output is pending
  pub in_time_seen : (ts : List BrokerSession) (xs : List HubConnection) → AreInTime within now xs → AreInTime within now (all_seen ts xs)
  in_time_seen ts [] all = tt
  in_time_seen ts (x ∷ xs) all = (all.0, in_time_seen ts xs all.1)

pub idle_before : (time : ℕ) (h : HubState) → ((now : ℕ) → now < time → AreInTime h.config.connect_within now h.connections)
    → ((now : ℕ) → now < time → expired_keys (record h { clock = now }) ≡ []) → IsIdleBefore time h
unfolding expire
idle_before time h none kept = λ now r h2 soon step.
    let start : expire (with_clock now h) ≡ begin (with_clock now h) = ap (λ (keys : List ℕ). remove_all keys (begin (with_clock now h))) (kept (max h.clock now) soon) in
    let same : step.work ≡ begin (with_clock now h) =
    ticks_none h.config.connect_within (max h.clock now) h.connections (expire (with_clock now h)) step.work step.does.0 (none (max h.clock now) soon) ∙ start in
    (ap (λ (s : HubReply). s.acts) step.does.1 ∙ ap (λ (w : Work). w.did) same, step.after ∙ ap (λ (w : Work). w.hub) same)

module _ (until top : ℕ) (h : HubState) (quiet : (now : ℕ) → now ≤ until → AreInTime h.config.connect_within now h.connections)
    (kept : (now : ℕ) → now ≤ until → expired_keys (record h { clock = now }) ≡ []) where
  pub deadline_idle : (r : Option ℕ) → SomeIff r (until + 1 < top) (until + 1) → IfSome r (λ time. IsIdleBefore time h)
  deadline_idle None iff = tt
  deadline_idle (Some time) iff = idle_before time h (λ now soon. quiet now (omega (arith, iff.1, soon))) (λ now soon. kept now (omega (arith, iff.1, soon)))

  pub deadline_never : (r : Option ℕ) → SomeIff r (until + 1 < top) (until + 1) → IfNone r (IsIdleBefore top h)
  deadline_never None iff = idle_before top h (λ now soon. quiet now (omega (arith, iff, soon))) (λ now soon. kept now (omega (arith, iff, soon)))
  deadline_never (Some time) iff = tt

-- whatever output is pending
module _ (within : Option ℕ) (now : ℕ) (ts : List BrokerSession) where
  record IsSeenAt (xs : List HubConnection) (i : ℕ) (x : HubConnection) : Type 0 where
    pub line : HubConnection
    pub there : slice_get xs i ≡ Some line
    pub since : line.since ≡ x.since
    pub stage : line.stage ≡ x.stage

  seen_at : (xs : List HubConnection) (i : ℕ) (x : HubConnection) → slice_get (all_seen ts xs) i ≡ Some x → IsSeenAt xs i x
  seen_at [] i x at = absurd cc
  seen_at (y ∷ ys) zero x at =
      let is : seen ts y ≡ x = cc in record { line = y; there = refl; since = ap (λ (l : HubConnection). l.since) is; stage = ap (λ (l : HubConnection). l.stage) is }
  seen_at (y ∷ ys) (suc i) x at = let r = seen_at ys i x at in record { line = r.line; there = r.there; since = r.since; stage = r.stage }

  pub late_seen : (xs : List HubConnection) (places : List ℕ) → HasLate within now xs places → HasLate within now (all_seen ts xs) places
  late_seen xs places all = λ i x at late. let r = seen_at xs i x at in all i r.line r.there (ap₂ (is_late_on within now) r.since r.stage ∙ late)

-- ---- names are distinct

module _ (within : Option ℕ) (now : ℕ) (x : HubConnection) (k : Conn) (why : HubClose) where
  pub late_name : Some (k, why) ≡ late_of within now (Some x) → k ≡ x.conn
  late_name some = go (late_at within now (place_of x)) refl
    where
      go : (b : Bool) → late_at within now (place_of x) ≡ b → k ≡ x.conn
      go true late =
          let same : Some (k, why) ≡ Some (close_of (place_of x)) = some ∙ cond-true (late_at within now (place_of x)) (Some (close_of (place_of x))) None late in
          let both : (k, why) ≡ close_of (place_of x) = cc in
          ap (λ (c : Conn × HubClose). c.0) both
      go false early = let none : Some (k, why) ≡ None = some ∙ cond-false (late_at within now (place_of x)) (Some (close_of (place_of x))) None early in absurd cc

apart_behind : (i : ℕ) (xs : List HubConnection) (x : HubConnection) → AreApart xs → slice_get xs i ≡ Some x → knows x.conn (drop (suc i) xs) ≡ false
apart_behind i [] x apart e = absurd cc
apart_behind zero (y ∷ xs) x apart e = let same : y ≡ x = cc in ap (λ (z : HubConnection). knows z.conn xs) (sym same) ∙ apart.0
apart_behind (suc i) (y ∷ xs) x apart e = apart_behind i xs x apart.2 e

pub apart_seen : (i : ℕ) (k : Conn) (x : HubConnection) (ts : List BrokerSession) (xs : List HubConnection) → AreApart xs → slice_get xs i ≡ Some x → k ≡ x.conn
    → knows k (drop (i + 1) (all_seen ts xs)) ≡ false
apart_seen i k x ts xs apart e is =
    ap (λ (n : ℕ). knows k (drop n (all_seen ts xs))) (add-one i) ∙ ap (knows k) (drop-map (seen ts) (suc i) xs)
    ∙ knows_seen k ts (drop (suc i) xs) ∙ ap (λ (n : Conn). knows n (drop (suc i) xs)) is ∙ apart_behind i xs x apart e

-- ---- from one to the next

-- The walk has come to the connection at this index.
pub record IsTicking (within : Option ℕ) (now : ℕ) (start : Work) (i : ℕ) (h : HubState) (says : List Act) : Type 0 where
  pub work : Work
  pub hub : work.hub ≡ h
  pub did : work.did ≡ says
  pub rest : (v : Work) → OnTick within now (drop i start.hub.connections) work v → OnTick within now start.hub.connections (start) v
  pub same : drop i (places h.connections) ≡ drop i (places start.hub.connections)
  pub passed : AllInTime within now (take i (places h.connections))
  pub count : length (places h.connections) ≡ length (places start.hub.connections)

pub none_by : (o : Option (Conn × HubClose)) → ((late : Conn × HubClose) → o ≡ Some late → ⊥) → o ≡ None
none_by None never = refl
none_by (Some late) never = absurd (never late refl)

pub ticks_first : (within : Option ℕ) (now : ℕ) (start : Work) (h : HubState) (says : List Act) → start.hub ≡ h → start.did ≡ says → IsTicking within now start 0 h says
ticks_first within now start h says hub did = record {
  work = start;
  hub = hub;
  did = did;
  rest = λ v t. t;
  same = ap (λ (a : HubState). places a.connections) (sym hub);
  passed = tt;
  count = ap (λ (a : HubState). length (places a.connections)) (sym hub);
}

module _ (within : Option ℕ) (now : ℕ) (start : Work) (i : ℕ) (h : HubState) (says : List Act) (t : IsTicking within now start i h says) where
  -- the connection at this index is as it was at the beginning
  front : late_of within now (slice_get h.connections i) ≡ late_first within now (places (drop i start.hub.connections))
  front =
      late_there within now i h.connections ∙ ap (late_first within now) t.same ∙ ap (late_first within now) (drop-map place_of i start.hub.connections)

  next_same : (g : HubState) → drop (i + 1) (places g.connections) ≡ drop (i + 1) (places h.connections) → drop (i + 1) (places g.connections) ≡ drop (i + 1) (places start.hub.connections)
  next_same g e =
      let more : (ps : List Place) → drop (i + 1) ps ≡ drop 1 (drop i ps) =
      λ ps. ap (λ (n : ℕ). drop n ps) (add-one i) ∙ drop_further i ps in
      e ∙ more (places h.connections) ∙ ap (drop 1) t.same ∙ sym (more (places start.hub.connections))

  -- it is in time
  pub ticks_past : None ≡ late_of within now (slice_get h.connections i) → IsTicking within now start (i + 1) h says
  ticks_past none = record {
    work = t.work;
    hub = t.hub;
    did = t.did;
    rest = λ v s. t.rest v (skip (drop i start.hub.connections) refl (none ∙ front) v s);
    same = next_same h refl;
    passed =
        subst (λ (n : ℕ). AllInTime within now (take n (places h.connections))) (sym (add-one i)) (passed_one within now i (places h.connections) t.passed (none ∙ late_there within now i h.connections));
    count = t.count;
  }
    where
      skip : (ys : List HubConnection) → drop i start.hub.connections ≡ ys → None ≡ late_first within now (places ys) → (v : Work)
          → OnTick within now (drop (i + 1) start.hub.connections) t.work v → OnTick within now (drop i start.hub.connections) t.work v
      skip [] e is v s =
          subst (λ (l : List HubConnection). OnTick within now l t.work v) (ap (λ (n : ℕ). drop n start.hub.connections) (add-one i) ∙ drop_none i start.hub.connections e ∙ sym e) s
      skip (x ∷ ys) e is v s = go (late_at within now (place_of x)) refl
        where
          go : (b : Bool) → late_at within now (place_of x) ≡ b → OnTick within now (drop i start.hub.connections) t.work v
          go true late = let c = is ∙ cond-true (late_at within now (place_of x)) (Some (close_of (place_of x))) None late in absurd cc
          go false early =
              subst (λ (l : List HubConnection). OnTick within now l t.work v) (sym e)
              (InTime x ys t.work v (no_reason within now x.since x.stage early)
              (subst (λ (l : List HubConnection). OnTick within now l t.work v) (ap (λ (n : ℕ). drop n start.hub.connections) (add-one i) ∙ drop_next i start.hub.connections ys x e) s))

  module _ (k : Conn) (why : HubClose) (is : Some (k, why) ≡ late_of within now (slice_get h.connections i)) where
    -- the late connection, and those behind it
    record IsLate : Type 0 where
      pub line : HubConnection
      pub behind : List HubConnection
      pub there : drop i start.hub.connections ≡ line ∷ behind
      pub late : late_reason within now line.since line.stage ≡ Some why
      pub name : k ≡ line.conn

    late_line : (ys : List HubConnection) → drop i start.hub.connections ≡ ys → Some (k, why) ≡ late_first within now (places ys) → IsLate
    late_line [] e some = absurd cc
    late_line (x ∷ ys) e some = go (late_at within now (place_of x)) refl
      where
        go : (b : Bool) → late_at within now (place_of x) ≡ b → IsLate
        go true late =
            let same : Some (k, why) ≡ Some (close_of (place_of x)) = some ∙ cond-true (late_at within now (place_of x)) (Some (close_of (place_of x))) None late in
            let both : (k, why) ≡ close_of (place_of x) = cc in
            record {
              line = x;
              behind = ys;
              there = e;
              late = reason_late within now x.since x.stage late ∙ ap (λ (c : Conn × HubClose). Some c.1) (sym both);
              name = ap (λ (c : Conn × HubClose). c.0) both;
            }
        go false early =
            let none : Some (k, why) ≡ None = some ∙ cond-false (late_at within now (place_of x)) (Some (close_of (place_of x))) None early in absurd cc

    first_late : IsLate
    first_late = late_line (drop i start.hub.connections) refl (is ∙ front)

    -- it is closed
    pub ticks_close : (g : HubState) (more : List Act) → knows k (drop (i + 1) h.connections) ≡ false
        → (fits : Bool) × Refines (close k why fits) h says g more → IsTicking within now start (i + 1) g more
    ticks_close g more apart goes =
        let q = first_late in
        let w : Work = close k why goes.0 t.work in
        let hub : w.hub ≡ g = goes.1.hub t.work t.hub t.did in
        let placed : places g.connections ≡ map (shut_at k) (places h.connections) =
        ap (λ (b : HubState). places b.connections) (sym hub) ∙ places_close k why goes.0 t.work
        ∙ ap (λ (b : HubState). map (shut_at k) (places b.connections)) t.hub in
        record {
          work = w;
          hub = hub;
          did = goes.1.did t.work t.hub t.did;
          rest = λ v s. t.rest v (subst (λ (l : List HubConnection). OnTick within now l t.work v) (sym q.there)
              (Late q.line q.behind why goes.0 t.work v q.late
              (subst (λ (c : Conn). OnTick within now q.behind (close c why goes.0 t.work) v) q.name
              (subst (λ (l : List HubConnection). OnTick within now l w v) (ap (λ (n : ℕ). drop n start.hub.connections) (add-one i) ∙ drop_next i start.hub.connections q.behind q.line q.there) s))));
          same = next_same g
              (ap (drop (i + 1)) placed ∙ drop-map (shut_at k) (i + 1) (places h.connections) ∙ ap (map (shut_at k)) (drop-map place_of (i + 1) h.connections)
              ∙ others k (drop (i + 1) h.connections) apart ∙ sym (drop-map place_of (i + 1) h.connections));
          passed =
              subst (λ (n : ℕ). AllInTime within now (take n (places g.connections))) (sym (add-one i))
              (subst (λ (ps : List Place). AllInTime within now (take (suc i) ps)) (sym placed)
              (shut_one within now k why i (places h.connections) t.passed (is ∙ late_there within now i h.connections)));
          count = ap length placed ∙ length-map (places h.connections) (shut_at k) ∙ t.count;
        }

  -- all are passed
  pub ticks_all : length start.hub.connections ≤ i → AreInTime within now h.connections
  ticks_all past =
      let many : length h.connections ≤ i =
      omega (arith, past, length-map h.connections place_of, length-map start.hub.connections place_of, t.count) in
      all_passed within now i h.connections many t.passed

  -- none is left
  pub ticks_last : length start.hub.connections ≤ i → TicksFrom within now start h says
  ticks_last past = record {
    work = t.work;
    ticks = t.rest t.work (subst (λ (l : List HubConnection). OnTick within now l t.work t.work) (sym (drop_all i start.hub.connections past)) (Done t.work));
    hub = sym t.hub;
    did = sym t.did;
  }

-- ---- from one late index to the next

drop_on : {X : Type 0} (m d : ℕ) (xs ys : List X) → drop m xs ≡ drop m ys → drop (m + d) xs ≡ drop (m + d) ys
drop_on m zero xs ys same = ap (λ (n : ℕ). drop n xs) (add-zero m) ∙ same ∙ sym (ap (λ (n : ℕ). drop n ys) (add-zero m))
drop_on m (suc d) xs ys same =
    let next : (zs : List _) → drop (m + suc d) zs ≡ drop 1 (drop (m + d) zs) =
    λ zs. ap (λ (n : ℕ). drop n zs) (add-suc m d) ∙ drop_further (m + d) zs in
    next xs ∙ ap (drop 1) (drop_on m d xs ys same) ∙ sym (next ys)

-- an index is among these, from this position on
abbrev StandsFrom : List ℕ → ℕ → ℕ → Type 0
StandsFrom places i j = (k : ℕ) × (i ≤ k) × (k < length places) × (get_or places k j ≡ j)

-- The positions before this one are done: the walk has come to some connection, and the late ones
-- from there on are among the others.
pub record IsClosing (within : Option ℕ) (now : ℕ) (start : Work) (places : List ℕ) (i : ℕ) (h : HubState) (says : List Act) : Type 0 where
  pub at : ℕ
  pub ticking : IsTicking within now start at h says
  pub rest : (j : ℕ) (x : HubConnection) → at ≤ j → slice_get start.hub.connections j ≡ Some x → late_at within now (place_of x) ≡ true → StandsFrom places i j

pub closing_first : (within : Option ℕ) (now : ℕ) (start : Work) (h : HubState) (places : List ℕ) (says : List Act) → HasLate within now h.connections places
    → start.hub ≡ h → start.did ≡ says → IsClosing within now start places 0 h says
closing_first within now start h places says late hub did = record {
  at = 0;
  ticking = ticks_first within now start h says hub did;
  rest = λ j x from there on. let c = subst (λ (a : HubState). HasLate within now a.connections places) (sym hub) late j x there on in (c.0, omega arith, c.1, c.2);
}

module _ (within : Option ℕ) (now : ℕ) (start : Work) (h : HubState) (says : List Act) where
  -- none is late for a while
  skip_some : (n at : ℕ) → IsTicking within now start at h says → ((j : ℕ) → at ≤ j → j < at + n → None ≡ late_of within now (slice_get h.connections j)) → IsTicking within now start (at + n) h says
  skip_some zero at t none = subst (λ (n : ℕ). IsTicking within now start n h says) (sym (add-zero at)) t
  skip_some (suc n) at t none =
      let e : (at + 1) + n ≡ at + suc n = omega arith in
      subst (λ (m : ℕ). IsTicking within now start m h says) e
      (skip_some n (at + 1) (ticks_past within now start at h says t (none at (omega arith) (omega arith))) (λ j from to. none j (omega (arith, from)) (omega (arith, to))))

  module _ (at : ℕ) (t : IsTicking within now start at h says) where
    as_before : (j : ℕ) → at ≤ j → late_of within now (slice_get h.connections j) ≡ late_of within now (slice_get start.hub.connections j)
    as_before j from =
        let e : at + (j - at) ≡ j = omega (arith, from) in
        late_there within now j h.connections
        ∙ ap (late_first within now) (subst (λ (n : ℕ). drop n (places h.connections) ≡ drop n (places start.hub.connections)) e (drop_on at (j - at) (places h.connections) (places start.hub.connections) t.same))
        ∙ sym (late_there within now j start.hub.connections)

    none_at : (j : ℕ) → at ≤ j → ((x : HubConnection) → slice_get start.hub.connections j ≡ Some x → late_at within now (place_of x) ≡ true → ⊥) → None ≡ late_of within now (slice_get h.connections j)
    none_at j from never = sym (as_before j from ∙ go (slice_get start.hub.connections j) refl)
      where
        go : (o : Option HubConnection) → slice_get start.hub.connections j ≡ o → late_of within now o ≡ None
        go None e = refl
        go (Some x) e = early (late_at within now (place_of x)) refl
          where
            early : (b : Bool) → late_at within now (place_of x) ≡ b → late_of within now (Some x) ≡ None
            early true late = absurd (never x e late)
            early false on = cond-false (late_at within now (place_of x)) (Some (close_of (place_of x))) None on

-- one that the walk has passed is in time
passed_none : (within : Option ℕ) (now i j : ℕ) (ps : List Place) → j < i → AllInTime within now (take i ps) → late_first within now (drop j ps) ≡ None
passed_none within now zero j ps less all = absurd (omega (arith, less))
passed_none within now (suc i) zero [] less all = refl
passed_none within now (suc i) zero (p ∷ ps) less all = cond-false (late_at within now p) (Some (close_of p)) None all.0
passed_none within now (suc i) (suc j) [] less all = refl
passed_none within now (suc i) (suc j) (p ∷ ps) less all = passed_none within now i j ps (omega (arith, less)) all.1

module _ (within : Option ℕ) (now : ℕ) (start : Work) (ps : List ℕ) (i : ℕ) (h : HubState) (says : List Act) (t : IsClosing within now start ps i h says) where
  module _ (p : ℕ) (inside : i < length ps) (is : p ≡ get_or ps i p) where
    -- one at this position, or behind
    behind : (j : ℕ) → StandsFrom ps i j → (p ≡ j → ⊥) → StandsFrom ps (i + 1) j
    behind j s other = go (ltb i s.0) refl
      where
        go : (b : Bool) → ltb i s.0 ≡ b → StandsFrom ps (i + 1) j
        go true less = (s.0, omega (arith, ltb-true i s.0 less), s.2, s.3)
        go false not =
            let same : s.0 ≡ i = omega (arith, ltb-false i s.0 not, s.1) in
            absurd (other (is ∙ get_or_default ps i p j inside ∙ ap (λ (n : ℕ). get_or ps n j) (sym same) ∙ s.3))

    -- it isn't late, or was closed
    pub closing_past : None ≡ late_of within now (slice_get h.connections p) → IsClosing within now start ps (i + 1) h says
    closing_past none = record {
      at = t.at;
      ticking = t.ticking;
      rest = λ j x from there late. behind j (t.rest j x from there late) (λ e.
          let was : late_of within now (slice_get start.hub.connections j) ≡ None =
          sym (as_before within now start h says t.at t.ticking j from) ∙ ap (λ (n : ℕ). late_of within now (slice_get h.connections n)) (sym e) ∙ sym none in
          let now_late : late_of within now (slice_get start.hub.connections j) ≡ Some (close_of (place_of x)) = ap (late_of within now) there ∙ cond-true (late_at within now (place_of x)) (Some (close_of (place_of x))) None late in
          let no : None ≡ Some (close_of (place_of x)) = sym was ∙ now_late in absurd cc);
    }

    module _ (ascending : IsNonDecreasing ps) (k : Conn) (why : HubClose) (late : Some (k, why) ≡ late_of within now (slice_get h.connections p)) where
      -- the walk has not passed it
      ahead : t.at ≤ p
      ahead = go (ltb p t.at) refl
        where
          go : (b : Bool) → ltb p t.at ≡ b → t.at ≤ p
          go true less =
              let none : late_of within now (slice_get h.connections p) ≡ None =
              late_there within now p h.connections ∙ passed_none within now t.at p (places h.connections) (ltb-true p t.at less) t.ticking.passed in
              let no : Some (k, why) ≡ None = late ∙ none in absurd cc
          go false not = ltb-false p t.at not

      -- and comes to it
      comes_to : IsTicking within now start p h says
      comes_to =
          let e : t.at + (p - t.at) ≡ p = omega (arith, ahead) in
          subst (λ (n : ℕ). IsTicking within now start n h says) e
          (skip_some within now start h says (p - t.at) t.at t.ticking
          (λ j from to. none_at within now start h says t.at t.ticking j from (λ x there on.
          let s = t.rest j x from there on in
          let up : get_or ps i j ≤ get_or ps s.0 j = ascending i s.0 j s.1 s.2 in
          let own : p ≡ get_or ps i j = is ∙ get_or_default ps i p j inside in
          let less : j < p = omega (arith, to, ahead) in
          absurd (omega (arith, up, own, less, s.3)))))

      pub closing_late : (g : HubState) (more : List Act) → knows k (drop (p + 1) h.connections) ≡ false
          → (fits : Bool) × Refines (close k why fits) h says g more → IsClosing within now start ps (i + 1) g more
      closing_late g more apart goes = record {
        at = p + 1;
        ticking = ticks_close within now start p h says comes_to k why late g more apart goes;
        rest = λ j x from there on. behind j (t.rest j x (omega (arith, from, ahead)) there on) (λ e. absurd (omega (arith, from, e)));
      }

  module _ (past : length ps ≤ i) where
    done : IsTicking within now start (t.at + length start.hub.connections) h says
    done = skip_some within now start h says (length start.hub.connections) t.at t.ticking
        (λ j from to. none_at within now start h says t.at t.ticking j from (λ x there late.
        let s = t.rest j x from there late in absurd (omega (arith, past, s.1, s.2))))

    pub closing_all : AreInTime within now h.connections
    closing_all = ticks_all within now start (t.at + length start.hub.connections) h says done (omega arith)

    pub closing_last : TicksFrom within now start h says
    closing_last = ticks_last within now start (t.at + length start.hub.connections) h says done (omega arith)
