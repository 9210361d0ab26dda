-- After a tick, the client of each session is connected, or disconnected no longer ago than the
-- limit.
use Rattle.std.proofs.Common.{◌≡◌, ◌⊎◌, inl, inr, ℕ, ◌+◌, ◌≤◌, Bool, true, false, not, ◌&&◌, cond, List, [], ◌∷◌, map, filter, Option, Some, None, is_some, refl, sym, ap, subst, subst₂, ◌∙◌, eqb, eqb-true, eq-eqb, ltb-false, true≢false, arith}
use Rattle.std.proofs.lemmas.Bool.{cond_both, cond-true, false_from_ne_true, le-ltb}
use Rattle.std.specs.List.{AllByRecursion}
use Rattle.mq_packet.specs.declared.connect.Will.{Will}
use Rattle.mq_packet.specs.declared.message.Message.{Message}
use Rattle.mq_packet.specs.declared.packet.Packet.{Packet}
use Rattle.mq_end.specs.End.{End, over}
use Rattle.mq_route.specs.declared.act.Act.TheVariants as acts
use Rattle.mq_route.specs.declared.close.HubClose.{HubClose}
use Rattle.mq_route.specs.declared.config.HubConfig.{HubConfig}
use Rattle.mq_route.specs.declared.conn.Conn.{Conn}
use Rattle.mq_route.specs.declared.connection_state.ConnectionState.{ConnectionState}
use Rattle.mq_route.specs.declared.connection_state.ConnectionState.TheVariants.{AwaitingConnect, ConnectedAs, Closed}
use Rattle.mq_route.specs.declared.event.HubEvent.TheVariants.{Tick}
use Rattle.mq_route.specs.declared.reply.HubReply.{HubReply}
use Rattle.mq_route.specs.Copies.{will_message}
use Rattle.mq_route.specs.Hub.{HubState, HubSession, HubConnection, is_for, key_on, stage_of, up_on, end_of, with_end, with_left, without_session, copies_of}
use Rattle.mq_route.specs.Work.{Work, begin, said, with_sessions, shut, put_where, does, publishes_next, is_missed, enqueue, enqueue_all, put_on, have_room, deliver, remove, remove_if, last_will, will_after, leaves_behind, shut_down, close}
use Rattle.mq_route.specs.Step.{OnTick, Done, InTime, Late, Does, has_passed, is_expired, expired_keys, remove_all, expire, with_clock}
use Rattle.mq_route.proofs.Lines.{upper, up_none, upper_none}
use Rattle.mq_route.proofs.Uppers.{IsIdle, unless_other}
use Rattle.mq_route.proofs.Changes.{Sound, retaining, upper_shut}
use Rattle.mq_route.proofs.Walk.{last_will_keeps}
use Rattle.mq_route.proofs.Frames.{upper_firm, lines_inner}
use Rattle.mq_route.proofs.Output.{sound_close, sound_expire}

-- ---- what copies and wills leave unchanged

abbrev stamp : HubSession → ℕ × ℕ
stamp s = (s.key, s.left)

-- the configuration, the time, and the key and the stored time of each session
abbrev facts : Work → HubConfig × ℕ × List (ℕ × ℕ)
facts w = (w.hub.config, w.hub.clock, map stamp w.hub.sessions)

stamps_with : (key : ℕ) (e : End) (ss : List HubSession) → map stamp (with_end key e ss) ≡ map stamp ss
stamps_with key e [] = refl
stamps_with key e (s ∷ ss) =
    let one : stamp (cond (eqb s.key key) (record s { end = e }) s) ≡ stamp s
    = cond_both (eqb s.key key) (record s { end = e }) s (λ (t : HubSession). stamp t ≡ stamp s) (λ h. refl) (λ h. refl) in
    λ i. one i ∷ stamps_with key e ss i

facts_with : (key : ℕ) (e : End) (w : Work) → facts (with_sessions (with_end key e) w) ≡ facts w
facts_with key e w = λ i. (w.hub.config, w.hub.clock, stamps_with key e w.hub.sessions i)

facts_put : (to : Option Conn) (ps : List Packet) (w : Work) → facts (put_where to ps w) ≡ facts w
unfolding put_on
facts_put None ps w = refl
facts_put (Some k) ps w = refl

facts_place : (key : ℕ) (m : Message) (w : Work) → facts (enqueue key m w) ≡ facts w
unfolding enqueue does
facts_place key m w =
    let e = (publishes_next m (end_of key w.hub.sessions)) in
    let v = with_sessions (with_end key e.end) w in
    cond_both (is_missed key m w.hub) (said (acts.Missed key m) w) (said (acts.Placed key m) (does key (publishes_next m) w)) (λ (v : Work). facts v ≡ facts w)
    (λ is. refl) (λ goes. facts_put (up_on key w.hub.connections) e.out v ∙ facts_with key e.end w)

facts_place_all : (xs : List (ℕ × Message)) (w : Work) → facts (enqueue_all xs w) ≡ facts w
facts_place_all [] w = refl
facts_place_all (x ∷ xs) w = facts_place_all xs (enqueue x.0 x.1 w) ∙ facts_place x.0 x.1 w

facts_will : (key : ℕ) (will : Option Will) (fits : Bool) (w : Work) → facts (last_will key will fits w) ≡ facts w
unfolding last_will deliver
facts_will key None fits w = refl
facts_will key (Some will) fits w =
    let m = will_message will in
    cond_both (fits && have_room (copies_of m w.hub) w.hub) (deliver (acts.Will key m) m w) (said (acts.WillDropped key) w) (λ (v : Work). facts v ≡ facts w)
    (λ e. facts_place_all (copies_of m w.hub) (retaining (acts.Will key m) m w)) (λ e. refl)

-- ---- sessions in time

-- the client of this key is connected, or disconnected no longer ago than the limit
abbrev IsTimely : Option ℕ → ℕ → List HubConnection → ℕ × ℕ → Type 0
IsTimely limit now xs p = upper p.0 xs ≡ None → has_passed limit p.1 now ≡ false

abbrev AreTimely : Work → Type 0
AreTimely w = AllByRecursion (IsTimely w.hub.config.session_expiry w.hub.clock w.hub.connections) (map stamp w.hub.sessions)

all_weaker : (P Q : ℕ × ℕ → Type 0) → ((p : ℕ × ℕ) → P p → Q p) → (ps : List (ℕ × ℕ)) → AllByRecursion P ps → AllByRecursion Q ps
all_weaker P Q h [] all = tt
all_weaker P Q h (p ∷ ps) all = (h p all.0, all_weaker P Q h ps all.1)

all_without : (P : ℕ × ℕ → Type 0) (key : ℕ) (ss : List HubSession) → AllByRecursion P (map stamp ss) → AllByRecursion P (map stamp (without_session key ss))
all_without P key [] all = tt
all_without P key (s ∷ ss) all = go (eqb s.key key) (all_without P key ss all.1)
  where
    go : (b : Bool) → AllByRecursion P (map stamp (without_session key ss)) → AllByRecursion P (map stamp (cond (not b) (s ∷ without_session key ss) (without_session key ss)))
    go true rest = rest
    go false rest = (all.0, rest)

not_yet : (limit : Option ℕ) (now : ℕ) → has_passed limit now now ≡ false
not_yet None now = refl
not_yet (Some within) now = le-ltb (now + within) now (omega arith)

swapped : (a b : ℕ) → eqb a b ≡ false → eqb b a ≡ false
swapped a b e = false_from_ne_true (eqb b a) (λ same. true≢false (sym (eq-eqb a b (sym (eqb-true b a same))) ∙ e))

-- the session of a client that disconnects is in time
timely_left : (limit : Option ℕ) (now : ℕ) (xs : List HubConnection) (key : ℕ) (ss : List HubSession)
    → AllByRecursion (λ p. eqb key p.0 ≡ false → IsTimely limit now xs p) (map stamp ss) → AllByRecursion (IsTimely limit now xs) (map stamp (with_left (Some key) now ss))
timely_left limit now xs key [] all = tt
timely_left limit now xs key (s ∷ ss) all = (go (eqb s.key key) refl, timely_left limit now xs key ss all.1)
  where
    go : (b : Bool) → eqb s.key key ≡ b → IsTimely limit now xs (stamp (cond b (record s { left = now }) s))
    go true e none = not_yet limit now
    go false e none = all.0 (swapped s.key key e) none

timely_still : (P : ℕ × ℕ → Type 0) (now : ℕ) (ss : List HubSession) → AllByRecursion P (map stamp ss) → AllByRecursion P (map stamp (with_left None now ss))
timely_still P now [] all = tt
timely_still P now (s ∷ ss) all = (all.0, timely_still P now ss all.1)

-- ---- a close

upper_will : (c key : ℕ) (will : Option Will) (fits : Bool) (w : Work) → upper c (last_will key will fits w).hub.connections ≡ upper c w.hub.connections
upper_will c key will fits w =
    let was = upper c w.hub.connections in
    last_will_keeps (λ o w. upper c w.hub.connections ≡ was) (lines_inner (upper c) (upper_firm c) was) key will fits w (λ m is short h. h) refl

-- after a session is removed, if it is
module _ (key : ℕ) where
  same_removed : (b : Bool) (w : Work) → (remove_if b key w).hub.connections ≡ w.hub.connections
  unfolding remove
  same_removed true w = refl
  same_removed false w = refl

  config_removed : (b : Bool) (w : Work) → (remove_if b key w).hub.config ≡ w.hub.config
  unfolding remove
  config_removed true w = refl
  config_removed false w = refl

  clock_removed : (b : Bool) (w : Work) → (remove_if b key w).hub.clock ≡ w.hub.clock
  unfolding remove
  clock_removed true w = refl
  clock_removed false w = refl

  all_removed : (P : ℕ × ℕ → Type 0) (b : Bool) (w : Work) → AllByRecursion P (map stamp w.hub.sessions) → AllByRecursion P (map stamp (remove_if b key w).hub.sessions)
  unfolding remove
  all_removed P true w all = all_without P key w.hub.sessions all
  all_removed P false w all = all

module _ (k : Conn) (why : HubClose) (fits : Bool) (w : Work) (s : Sound w.hub) (all : AreTimely w) where
  abbrev limit : Option ℕ
  limit = w.hub.config.session_expiry

  abbrev now : ℕ
  now = w.hub.clock

  abbrev v : Work
  v = said (acts.Closed k why) (shut k w)

  -- clients of other connections stay connected
  upper_stays : (c : ℕ) → is_for c (stage_of k w.hub.connections) ≡ false → upper c v.hub.connections ≡ upper c w.hub.connections
  upper_stays c other = upper_shut k c w s.apart ∙ unless_other k c w.hub.connections s.apart other

  shuts_idle : IsIdle (stage_of k w.hub.connections) → AllByRecursion (IsTimely limit now v.hub.connections) (map stamp (with_left None now w.hub.sessions))
  shuts_idle free =
      timely_still (IsTimely limit now v.hub.connections) now w.hub.sessions
      (all_weaker (IsTimely limit now w.hub.connections) (IsTimely limit now v.hub.connections) (λ p timely none. timely (sym (upper_stays p.0 (free p.0)) ∙ none)) (map stamp w.hub.sessions) all)

  abbrev Goes : Work → Type 0
  Goes x = (x.hub.config ≡ w.hub.config) × AreTimely x

  by_stage : (st : ConnectionState) → stage_of k w.hub.connections ≡ st → Goes (with_sessions (with_left (key_on st) now) (leaves_behind why fits st v))
  unfolding leaves_behind
  by_stage AwaitingConnect e = (refl, shuts_idle (subst IsIdle (sym e) (λ c. refl)))
  by_stage Closed e = (refl, shuts_idle (subst IsIdle (sym e) (λ c. refl)))
  by_stage (ConnectedAs key terms last_activity) e =
      let over_end = over (end_of key w.hub.sessions) in
      let u = with_sessions (with_end key over_end) v in
      let r = remove_if terms.clean_session key u in
      let will = will_after why terms.will in
      let x = last_will key will fits r in
      let same : facts x ≡ facts r = facts_will key will fits r in
      let Others : ℕ × ℕ → Type 0 = λ p. eqb key p.0 ≡ false → IsTimely limit now x.hub.connections p in
      let before : AllByRecursion Others (map stamp w.hub.sessions) =
      all_weaker (IsTimely limit now w.hub.connections) Others
      (λ p timely other none.
      timely (sym (upper_stays p.0 (ap (is_for p.0) e ∙ other)) ∙ sym (ap (upper p.0) (same_removed key terms.clean_session u)) ∙ sym (upper_will p.0 key will fits r) ∙ none))
      (map stamp w.hub.sessions) all in
      let after : AllByRecursion Others (map stamp x.hub.sessions) =
      subst (λ (f : HubConfig × ℕ × List (ℕ × ℕ)). AllByRecursion Others f.2) (sym same)
      (all_removed key Others terms.clean_session u (subst (AllByRecursion Others) (sym (stamps_with key over_end w.hub.sessions)) before)) in
      let config : x.hub.config ≡ w.hub.config = ap (λ (f : HubConfig × ℕ × List (ℕ × ℕ)). f.0) same ∙ config_removed key terms.clean_session u in
      let clock : x.hub.clock ≡ now = ap (λ (f : HubConfig × ℕ × List (ℕ × ℕ)). f.1) same ∙ clock_removed key terms.clean_session u in (
        config,
        subst₂ (λ (c : HubConfig) (n : ℕ). AllByRecursion (IsTimely c.session_expiry n x.hub.connections) (map stamp (with_left (Some key) now x.hub.sessions))) (sym config) (sym clock)
            (timely_left limit now x.hub.connections key x.hub.sessions after),
      )

  close_timely : Goes (close k why fits w)
  unfolding close shut_down
  close_timely = by_stage (stage_of k w.hub.connections) refl

-- ---- expired sessions are removed

abbrev among : ℕ → List ℕ → Bool
among c [] = false
among c (key ∷ keys) = cond (eqb c key) true (among c keys)

-- the session is removed, or in time
abbrev Either : (ℕ × ℕ → Type 0) → List ℕ → ℕ × ℕ → Type 0
Either P keys p = (among p.0 keys ≡ true) ⊎ P p

left_over : (P : ℕ × ℕ → Type 0) (key : ℕ) (keys : List ℕ) (ss : List HubSession) → AllByRecursion (Either P (key ∷ keys)) (map stamp ss)
    → AllByRecursion (Either P keys) (map stamp (without_session key ss))
left_over P key keys [] all = tt
left_over P key keys (s ∷ ss) all = go (eqb s.key key) all.0 (left_over P key keys ss all.1)
  where
    go : (b : Bool) → (cond b true (among s.key keys) ≡ true) ⊎ P (stamp s) → AllByRecursion (Either P keys) (map stamp (without_session key ss))
        → AllByRecursion (Either P keys) (map stamp (cond (not b) (s ∷ without_session key ss) (without_session key ss)))
    go true one rest = rest
    go false one rest = (one, rest)

remaining : (P : ℕ × ℕ → Type 0) (keys : List ℕ) (w : Work) → AllByRecursion (Either P keys) (map stamp w.hub.sessions) → AllByRecursion P (map stamp (remove_all keys w).hub.sessions)
unfolding remove
remaining P [] w all = all_weaker (Either P []) P (λ p one. only p one) (map stamp w.hub.sessions) all
  where
    only : (p : ℕ × ℕ) → (false ≡ true) ⊎ P p → P p
    only p (inl e) = absurd (true≢false (sym e))
    only p (inr h) = h
remaining P (key ∷ keys) w all = remaining P keys (remove key w) (left_over P key keys w.hub.sessions all)

abbrev frame : Work → HubConfig × ℕ × List HubConnection
frame w = (w.hub.config, w.hub.clock, w.hub.connections)

frame_kept : (keys : List ℕ) (w : Work) → frame (remove_all keys w) ≡ frame w
unfolding remove
frame_kept [] w = refl
frame_kept (key ∷ keys) w = frame_kept keys (remove key w)

module _ (h : HubState) where
  abbrev Timely : ℕ × ℕ → Type 0
  Timely = IsTimely h.config.session_expiry h.clock h.connections

  abbrev keys_in : List HubSession → List ℕ
  keys_in ss = map (λ s. s.key) (filter (is_expired h) ss)

  timely : (s : HubSession) → is_expired h s ≡ false → Timely (stamp s)
  timely s e none = ap (λ (o : Option Conn). not (is_some o) && has_passed h.config.session_expiry s.left h.clock) (sym (up_none s.key h.connections none)) ∙ e

  later : (key c : ℕ) (keys : List ℕ) → among c keys ≡ true → among c (key ∷ keys) ≡ true
  later key c keys e = go (eqb c key)
    where
      go : (b : Bool) → cond b true (among c keys) ≡ true
      go true = refl
      go false = e

  more : (key : ℕ) (keys : List ℕ) (p : ℕ × ℕ) → Either Timely keys p → Either Timely (key ∷ keys) p
  more key keys p (inl e) = inl (later key p.0 keys e)
  more key keys p (inr t) = inr t

  sorted : (ss : List HubSession) → AllByRecursion (Either Timely (keys_in ss)) (map stamp ss)
  sorted [] = tt
  sorted (s ∷ ss) = go (is_expired h s) refl (sorted ss)
    where
      go : (b : Bool) → is_expired h s ≡ b → AllByRecursion (Either Timely (keys_in ss)) (map stamp ss)
          → AllByRecursion (Either Timely (map (λ s. s.key) (cond b (s ∷ filter (is_expired h) ss) (filter (is_expired h) ss)))) (map stamp (s ∷ ss))
      go true e rest = (
        inl (cond-true (eqb s.key s.key) true (among s.key (keys_in ss)) (eq-eqb s.key s.key refl)),
        all_weaker (Either Timely (keys_in ss)) (Either Timely (s.key ∷ keys_in ss)) (more s.key (keys_in ss)) (map stamp ss) rest,
      )
      go false e rest = (inr (timely s e), rest)

  expire_timely : AreTimely (expire h)
  unfolding expire
  expire_timely =
      let w = remove_all (expired_keys h) (begin h) in
      subst (λ (f : HubConfig × ℕ × List HubConnection). AllByRecursion (IsTimely f.0.session_expiry f.1 f.2) (map stamp w.hub.sessions)) (sym (frame_kept (expired_keys h) (begin h)))
      (remaining Timely (expired_keys h) (begin h) (sorted h.sessions))

-- ---- a tick

config_expire : (h : HubState) → (expire h).hub.config ≡ h.config
unfolding expire
config_expire h = ap (λ (f : HubConfig × ℕ × List HubConnection). f.0) (frame_kept (expired_keys h) (begin h))

ticks_timely : (within : Option ℕ) (at : ℕ) (xs : List HubConnection) (w w2 : Work) → OnTick within at xs w w2 → Sound w.hub → AreTimely w → (w2.hub.config ≡ w.hub.config) × AreTimely w2
ticks_timely within at xs w w2 (Done v) s all = (refl, all)
ticks_timely within at xs w w2 (InTime x ys v v2 soon more) s all = ticks_timely within at ys v v2 more s all
ticks_timely within at xs w w2 (Late x ys why fits v v2 late more) s all =
    let c = close_timely x.conn why fits v s all in
    let t = ticks_timely within at ys (close x.conn why fits v) v2 more (sound_close x.conn why fits v s) c.1 in
    (t.0 ∙ c.0, t.1)

-- the client of the session is connected, or disconnected no longer ago than the limit
abbrev IsRemaining : ℕ → HubState → HubSession → Type 0
IsRemaining most h s = up_on s.key h.connections ≡ None → h.clock ≤ s.left + most

remain : (most : ℕ) (o : Option ℕ) (h : HubState) → o ≡ Some most → (ss : List HubSession) → AllByRecursion (IsTimely o h.clock h.connections) (map stamp ss)
    → AllByRecursion (IsRemaining most h) ss
remain most o h is [] all = tt
remain most o h is (s ∷ ss) all = (
  λ none. ltb-false (s.left + most) h.clock (subst (λ (p : Option ℕ). has_passed p s.left h.clock ≡ false) is (all.0 (upper_none s.key h.connections none))),
  remain most o h is ss all.1,
)

pub remaining_tick : (h : HubState) (now : ℕ) (r : HubReply) (w : Work) → Does h (Tick now) r w → Sound h → (most : ℕ) → h.config.session_expiry ≡ Some most → AllByRecursion (IsRemaining most w.hub) w.hub.sessions
remaining_tick h now r w d s most is =
    let g = with_clock now h in
    let t = ticks_timely h.config.connect_within g.clock h.connections (expire g) w d.0 (sound_expire g s) (expire_timely g) in
    remain most w.hub.config.session_expiry w.hub (ap (λ (c : HubConfig). c.session_expiry) (t.0 ∙ config_expire g) ∙ is) w.hub.sessions t.1
