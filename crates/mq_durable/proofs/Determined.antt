-- A step has one result if its reply reports no failed allocation.
use Rattle.std.proofs.Common.{◌≡◌, ℕ, Bool, true, false, ◌||◌, List, [], ◌∷◌, ◌++◌, max, map, Option, Some, None, refl, sym, ap, ap₂, ◌∙◌, subst, true≢false, if◌then◌else◌}
use Rattle.std.specs.List.{list_any}
use Rattle.mq_packet.specs.declared.connack.ConnAck.TheVariants as connacks
use Rattle.mq_packet.specs.declared.connack.RefusalCode.{RefusalCode}
use Rattle.mq_packet.specs.declared.connect.Connect.{Connect}
use Rattle.mq_packet.specs.declared.connect.Will.{Will}
use Rattle.mq_packet.specs.declared.packet.Packet.{Packet}
use Rattle.mq_packet.specs.declared.packet.Packet.TheVariants as packets
use Rattle.mq_decode.specs.declared.fault.DecodeFault.{DecodeFault}
use Rattle.mq_decode.specs.Grammar.{Faulty, Reading}
use Rattle.mq_decode.specs.Laws.{OneReading, ReadsAgain}
use Rattle.mq_decode.specs.Limits.{Bounds}
use Rattle.mq_end.specs.declared.reason.CloseReason.{CloseReason}
use Rattle.mq_end.specs.declared.reason.CloseReason.TheVariants as reasons
use Rattle.mq_end.specs.End.{End, Reply, over}
use Rattle.mq_end.specs.Server.{server_gets}
use Rattle.mq_route.specs.declared.act.Act.TheVariants as acts
use Rattle.mq_route.specs.declared.conn.Conn.{Conn}
use Rattle.mq_route.specs.declared.close.HubClose.{HubClose}
use Rattle.mq_route.specs.declared.close.HubClose.TheVariants.{Own, TargetFull, TooManyMatches, TakenOver, PeerEnded}
use Rattle.mq_route.specs.declared.connection_state.ConnectionState.{ConnectionState}
use Rattle.mq_route.specs.declared.connection_state.ConnectionState.TheVariants.{AwaitingConnect, ConnectedAs, Closed}
use Rattle.mq_route.specs.declared.event.HubEvent.{HubEvent}
use Rattle.mq_route.specs.declared.event.HubEvent.TheVariants.{Opened, Bytes, Ended, Tick, Collect}
use Rattle.mq_route.specs.declared.reply.HubReply.{HubReply}
use Rattle.mq_route.specs.Hub.{HubState, HubConnection, without_connection, stage_of, is_open, key_on, up_on, key_of, end_of, with_end, with_left, held_on}
use Rattle.mq_route.specs.Welcome.{client_of, ends_with, refusal}
use Rattle.mq_route.specs.Work.{Work, begin, said, with_sessions, shut, put_on, does, have_room, last_will, will_after, remove_if, leaves_behind, shut_down, close}
use Rattle.mq_route.specs.Arrives.{Growth, due, answers_all, replies, take_over, goes_on, accept_connect, on_connect, on_first_packet, is_too_broad, on_passed_packet, dispatch_packet, touched_on, arrives, noted, on_packet, closes_by, broken, on_malformed}
use Rattle.mq_route.specs.Step.{holding, is_open_on, OnBytes, Arrives, Waits, Breaks, Starves, LetsGo, OnTick, Done, InTime, Late, Does, done, on_end, close_if_open, expire, with_clock}
use Rattle.mq_route.specs.Runs.{Episode, Follows}
use Rattle.mq_durable.specs.Determined.{ReplayLaws}
use Rattle.mq_durable.specs.Memory.{lacks_memory, reports_memory}
use Rattle.mq_durable.specs.Replaying.{IsSound}
use Rattle.mq_durable.proofs.Growth.{close_first, comes_grow, goes_grow, IsQuiet, quiet_before, quiet_said, ticks_grow}

-- each allocation succeeds
abbrev all_fit : Growth
all_fit = record { fits = true; will_fits = true }

-- ---- closes

will_same : (key : ℕ) (will : Option Will) (fits : Bool) (w : Work) → IsQuiet (last_will key will fits w) → last_will key will fits w ≡ last_will key will true w
unfolding last_will lacks_memory
will_same key None fits w quiet = refl
will_same key (Some will) true w quiet = refl
will_same key (Some will) false w quiet = absurd (true≢false (quiet_said (acts.WillDropped key) w quiet))

leaves_same : (why : HubClose) (fits : Bool) (s : ConnectionState) (w : Work) → IsQuiet (leaves_behind why fits s w) → leaves_behind why fits s w ≡ leaves_behind why true s w
unfolding leaves_behind
leaves_same why fits AwaitingConnect w quiet = refl
leaves_same why fits (ConnectedAs key terms last_activity) w quiet =
    will_same key (will_after why terms.will) fits (remove_if terms.clean_session key (with_sessions (with_end key (over (end_of key w.hub.sessions))) w)) quiet
leaves_same why fits Closed w quiet = refl

close_same : (k : Conn) (why : HubClose) (fits : Bool) (w : Work) → IsQuiet (close k why fits w) → close k why fits w ≡ close k why true w
unfolding close shut_down
close_same k why fits w quiet =
    ap (λ (v : Work). with_sessions (with_left (key_on (stage_of k w.hub.connections)) w.hub.clock) v)
    (leaves_same why fits (stage_of k w.hub.connections) (said (acts.Closed k why) (shut k w)) quiet)

-- a close that reports a failed allocation
starved : (k : Conn) (fits : Bool) (w : Work) → IsQuiet (close k (Own reasons.Memory) fits w) → ⊥
unfolding lacks_memory
starved k fits w quiet =
    let v : Work = said (acts.Closed k (Own reasons.Memory)) (shut k w) in
    true≢false (quiet_said (acts.Closed k (Own reasons.Memory)) (shut k w) (quiet_before v (close k (Own reasons.Memory) fits w) (close_first k (Own reasons.Memory) fits w) quiet))

-- ---- packets

abbrev taken : Conn → ℕ → (End → Reply) → Work → Work
taken k key move w = answers_all k key (move (end_of key w.hub.sessions)).happenings (does key move w)

replies_same : (k : Conn) (key : ℕ) (move : End → Reply) (c : Option CloseReason) (fits : Bool) (w : Work) → IsQuiet (replies k key move c fits w) → replies k key move c fits w ≡ replies k key move c true w
unfolding replies
replies_same k key move (Some reason) fits w quiet = close_same k (Own reason) fits (put_on k (move (end_of key w.hub.sessions)).out w) quiet
replies_same k key move None fits w quiet = either (have_room (due key w.hub (move (end_of key w.hub.sessions)).happenings) w.hub) quiet
  where
    either : (b : Bool) → IsQuiet (if b then taken k key move w else close k TargetFull fits w)
        → (if b then taken k key move w else close k TargetFull fits w) ≡ (if b then taken k key move w else close k TargetFull true w)
    either true quiet = refl
    either false quiet = close_same k TargetFull fits w quiet

take_same : (o : Option Conn) (fits : Bool) (w : Work) → IsQuiet (take_over o fits w) → take_over o fits w ≡ take_over o true w
take_same None fits w quiet = refl
take_same (Some k) fits w quiet = close_same k TakenOver fits w quiet

accept_same : (k : Conn) (c : Connect) (client : List ℕ) (o : Option ℕ) (fits : Bool) (w : Work) → IsQuiet (accept_connect k c client o fits w) → accept_connect k c client o fits w ≡ accept_connect k c client o true w
accept_same k c client None fits w quiet = refl
accept_same k c client (Some key) fits w quiet =
    let o : Option Conn = up_on key w.hub.connections in
    let ends : Bool = ends_with key w.hub in
    let v : Work = take_over o fits w in
    ap (λ (u : Work). goes_on k c client key ends u) (take_same o fits w (quiet_before v (goes_on k c client key ends v) (goes_grow k c client key ends v) quiet))

connect_same : (k : Conn) (c : Connect) (code : Option RefusalCode) (fits : Bool) (w : Work) → IsQuiet (on_connect k c code fits w) → on_connect k c code fits w ≡ on_connect k c code true w
unfolding on_connect
connect_same k c (Some code) fits w quiet = close_same k (Own (reasons.Refused code)) fits (put_on k (packets.ConnAck (connacks.Refused code) ∷ []) w) quiet
connect_same k c None fits w quiet = let client = client_of c w.hub.sessions in accept_same k c client (key_of client w.hub.sessions) fits w quiet

first_same : (k : Conn) (p : Packet) (fits : Bool) (w : Work) → IsQuiet (on_first_packet k p fits w) → on_first_packet k p fits w ≡ on_first_packet k p true w
unfolding on_first_packet
first_same k (packets.Connect c) fits w quiet = connect_same k c (refusal c w.hub) fits w quiet
first_same k p fits w quiet = close_same k (Own reasons.Unexpected) fits w quiet

dispatch_same : (k : Conn) (p : Packet) (fits : Bool) (s : ConnectionState) (w : Work) → IsQuiet (dispatch_packet k p fits s w) → dispatch_packet k p fits s w ≡ dispatch_packet k p true s w
unfolding dispatch_packet
dispatch_same k p fits AwaitingConnect w quiet = first_same k p fits w quiet
dispatch_same k p fits (ConnectedAs key terms last_activity) w quiet = go (is_too_broad p w.hub) quiet
  where
    go : (b : Bool) → IsQuiet (if b then close k TooManyMatches fits w else on_passed_packet k key p fits w)
        → (if b then close k TooManyMatches fits w else on_passed_packet k key p fits w) ≡ (if b then close k TooManyMatches true w else on_passed_packet k key p true w)
    go true quiet = close_same k TooManyMatches fits w quiet
    go false quiet = replies_same k key (server_gets p) (server_gets p (end_of key w.hub.sessions)).close fits w quiet
dispatch_same k p fits Closed w quiet = refl

abbrev dispatched : Conn → Packet → Work → Bool → Work
dispatched k p w will_fits = dispatch_packet k p will_fits (stage_of k w.hub.connections) (touched_on k w)

arrives_same : (k : Conn) (p : Packet) (g : Growth) (w : Work) → IsQuiet (arrives k p g w) → arrives k p g w ≡ arrives k p all_fit w
unfolding arrives
arrives_same k p g w quiet = go g.fits g.will_fits quiet
  where
    go : (fits will_fits : Bool) → IsQuiet (if fits then dispatched k p w will_fits else close k (Own reasons.Memory) will_fits w)
        → (if fits then dispatched k p w will_fits else close k (Own reasons.Memory) will_fits w) ≡ dispatched k p w true
    go true will_fits quiet = dispatch_same k p will_fits (stage_of k w.hub.connections) (touched_on k w) quiet
    go false will_fits quiet = absurd (starved k will_fits w quiet)

abbrev logged : Conn → Packet → Work → Work → Work
logged k p w v = record v { came = v.came ++ noted (key_on (stage_of k w.hub.connections)) (is_open (stage_of k v.hub.connections)) p }

takes_same : (k : Conn) (p : Packet) (g : Growth) (w : Work) → IsQuiet (on_packet k p g w) → on_packet k p g w ≡ on_packet k p all_fit w
unfolding on_packet
takes_same k p g w quiet = ap (logged k p w) (arrives_same k p g w quiet)

abbrev answered : Conn → DecodeFault → Work → Work
answered k fault w = put_on k (broken k fault w).out w

malformed_same : (k : Conn) (fault : DecodeFault) (fits : Bool) (w : Work) → IsQuiet (on_malformed k fault fits w) → on_malformed k fault fits w ≡ on_malformed k fault true w
unfolding on_malformed
malformed_same k fault fits w quiet = go (broken k fault w).close quiet
  where
    go : (c : Option CloseReason) → IsQuiet (closes_by k c fits (answered k fault w)) → closes_by k c fits (answered k fault w) ≡ closes_by k c true (answered k fault w)
    go None quiet = refl
    go (Some reason) quiet = close_same k (Own reason) fits (answered k fault w) quiet

-- ---- events

abbrev forgotten : Conn → Work → Work
forgotten k w = record w { hub = record w.hub { connections = without_connection k w.hub.connections } }

module _ (reading : OneReading) (laws : ReadsAgain) where
  one_fault : (limits : Bounds) (b c : List ℕ) (f g : DecodeFault) → b ≡ c → Faulty limits b f.kind f.place → Faulty limits c g.kind g.place → f ≡ g
  one_fault limits b c f g same first second =
      let first_reading : Reading limits b [] b (Some f) = record { front = []; stream = refl; parts = refl; ends = first } in
      let again : Reading limits b [] c (Some g) = record { front = []; stream = refl; parts = same; ends = second } in
      let ends : ◌≡◌ {A = Option DecodeFault} (Some f) (Some g) = (reading limits b [] [] b c (Some f) (Some g) first_reading again).2 in
      cc

  comes_same : (limits : Bounds) (k : Conn) (b c : List ℕ) (w u v x : Work) → OnBytes limits k b w v → OnBytes limits k c u x → b ≡ c → w ≡ u → IsQuiet v → IsQuiet x → v ≡ x
  comes_same limits k _ _ _ _ _ _ (Arrives p first rest g w v on reads more) (Arrives q second last h u x opened again later) same start quiet calm =
      let both : (p ≡ q) × (rest ≡ last) = laws.one limits p q first second rest last reads again same in
      comes_same limits k rest last (on_packet k p g w) (on_packet k q h u) v x more later both.1
      (takes_same k p g w (quiet_before (on_packet k p g w) v (comes_grow limits k rest (on_packet k p g w) v more) quiet)
      ∙ (λ i. on_packet k (both.0 i) all_fit (start i))
      ∙ sym (takes_same k q h u (quiet_before (on_packet k q h u) x (comes_grow limits k last (on_packet k q h u) x later) calm)))
      quiet calm
  comes_same limits k _ _ _ _ _ _ (Arrives p first rest g w v on reads more) (Waits c u opened pending) same start quiet calm = absurd (pending.not_whole p first rest reads (sym same))
  comes_same limits k _ _ _ _ _ _ (Arrives p first rest g w v on reads more) (Breaks c fault fits u opened faulty) same start quiet calm =
      absurd (laws.right limits p first rest fault.kind fault.place reads (subst (λ (l : List ℕ). Faulty limits l fault.kind fault.place) (sym same) faulty))
  comes_same limits k _ _ _ _ _ _ (Waits b w on pending) (Arrives q second last h u x opened again later) same start quiet calm = absurd (pending.not_whole q second last again same)
  comes_same limits k _ _ _ _ _ _ (Waits b w on pending) (Waits c u opened waiting) same start quiet calm = λ i. holding k (same i) (start i)
  comes_same limits k _ _ _ _ _ _ (Waits b w on pending) (Breaks c fault fits u opened faulty) same start quiet calm =
      absurd (pending.not_faulty fault.kind fault.place (subst (λ (l : List ℕ). Faulty limits l fault.kind fault.place) (sym same) faulty))
  comes_same limits k _ _ _ _ _ _ (Breaks b fault fits w on faulty) (Arrives q second last h u x opened again later) same start quiet calm =
      absurd (laws.right limits q second last fault.kind fault.place again (subst (λ (l : List ℕ). Faulty limits l fault.kind fault.place) same faulty))
  comes_same limits k _ _ _ _ _ _ (Breaks b fault fits w on faulty) (Waits c u opened pending) same start quiet calm =
      absurd (pending.not_faulty fault.kind fault.place (subst (λ (l : List ℕ). Faulty limits l fault.kind fault.place) same faulty))
  comes_same limits k _ _ _ _ _ _ (Breaks b fault fits w on faulty) (Breaks c other fit u opened wrong) same start quiet calm =
      let is : fault ≡ other = one_fault limits b c fault other same faulty wrong in
      malformed_same k fault fits w quiet ∙ (λ i. on_malformed k (is i) true (start i)) ∙ sym (malformed_same k other fit u calm)
  comes_same limits k _ _ _ _ _ _ (Starves b fits w on some) second same start quiet calm = absurd (starved k fits w quiet)
  comes_same limits k _ _ _ _ _ _ (LetsGo b w closed) (LetsGo c u shut) same start quiet calm = start
  comes_same limits k _ _ _ _ _ _ (LetsGo b w closed) (Arrives q second last h u x opened again later) same start quiet calm = absurd (true≢false (sym opened ∙ ap (is_open_on k) (sym start) ∙ closed))
  comes_same limits k _ _ _ _ _ _ (LetsGo b w closed) (Waits c u opened pending) same start quiet calm = absurd (true≢false (sym opened ∙ ap (is_open_on k) (sym start) ∙ closed))
  comes_same limits k _ _ _ _ _ _ (LetsGo b w closed) (Breaks c fault fits u opened faulty) same start quiet calm = absurd (true≢false (sym opened ∙ ap (is_open_on k) (sym start) ∙ closed))
  comes_same limits k _ _ _ _ _ _ first (Starves c fits u opened some) same start quiet calm = absurd (starved k fits u calm)
  comes_same limits k _ _ _ _ _ _ (Arrives p first rest g w v on reads more) (LetsGo c u closed) same start quiet calm = absurd (true≢false (sym on ∙ ap (is_open_on k) start ∙ closed))
  comes_same limits k _ _ _ _ _ _ (Waits b w on pending) (LetsGo c u closed) same start quiet calm = absurd (true≢false (sym on ∙ ap (is_open_on k) start ∙ closed))
  comes_same limits k _ _ _ _ _ _ (Breaks b fault fits w on faulty) (LetsGo c u closed) same start quiet calm = absurd (true≢false (sym on ∙ ap (is_open_on k) start ∙ closed))

  ticks_same : (within : Option ℕ) (now : ℕ) (xs : List HubConnection) (w u v x : Work) → OnTick within now xs w v → OnTick within now xs u x → w ≡ u → IsQuiet v → IsQuiet x → v ≡ x
  ticks_same within now _ _ _ _ _ (Done w) (Done u) start quiet calm = start
  ticks_same within now _ _ _ _ _ (InTime y ys w v soon more) (InTime _ _ u x again later) start quiet calm = ticks_same within now ys w u v x more later start quiet calm
  ticks_same within now _ _ _ _ _ (InTime y ys w v soon more) (Late _ _ why fits u x late later) start quiet calm = absurd (let clash : None ≡ Some why = sym soon ∙ late in cc)
  ticks_same within now _ _ _ _ _ (Late y ys why fits w v late more) (InTime _ _ u x soon later) start quiet calm = absurd (let clash : None ≡ Some why = sym soon ∙ late in cc)
  ticks_same within now _ _ _ _ _ (Late y ys why fits w v late more) (Late _ _ other fit u x again later) start quiet calm =
      let both : Some why ≡ Some other = sym late ∙ again in
      let same : why ≡ other = cc in
      let first : Work = close y.conn why fits w in
      let second : Work = close y.conn other fit u in
      ticks_same within now ys first second v x more later
      (close_same y.conn why fits w (quiet_before first v (ticks_grow within now ys first v more) quiet)
      ∙ (λ i. close y.conn (same i) true (start i))
      ∙ sym (close_same y.conn other fit u (quiet_before second x (ticks_grow within now ys second x later) calm)))
      quiet calm

  ended_same : (k : Conn) (fits : Bool) (h : HubState) → IsQuiet (on_end k fits h) → on_end k fits h ≡ on_end k true h
  ended_same k fits h quiet = go (is_open (stage_of k h.connections)) quiet
    where
      go : (alive : Bool) → IsQuiet (close_if_open k alive fits (begin h)) → forgotten k (close_if_open k alive fits (begin h)) ≡ forgotten k (close_if_open k alive true (begin h))
      go true quiet = ap (forgotten k) (close_same k PeerEnded fits (begin h) quiet)
      go false quiet = refl

  -- the acts of the reply are those of the step
  quiet_reply : (r : HubReply) (alive : Bool) (w : Work) → r ≡ done alive w → reports_memory r ≡ false → IsQuiet w
  quiet_reply r alive w is quiet = subst (λ (x : HubReply). reports_memory x ≡ false) is quiet

  does_same : (h : HubState) (e : HubEvent) (r s : HubReply) (w v : Work) → Does h e r w → Does h e s v → reports_memory r ≡ false → reports_memory s ≡ false → (w ≡ v) × (r ≡ s)
  does_same h (Opened k) r s w v d f quiet calm =
      let same : w ≡ v = d.0 ∙ sym f.0 in
      (same, d.1 ∙ ap (λ (x : Work). done true x) same ∙ sym f.1)
  does_same h (Bytes k piece) r s w v d f quiet calm =
      let b : List ℕ = held_on k h.connections ++ piece in
      let start : Work = holding k [] (begin h) in
      let same : w ≡ v = comes_same h.config.limits k b b start start w v d.0 f.0 refl refl (quiet_reply r (is_open_on k w) w d.1 quiet) (quiet_reply s (is_open_on k v) v f.1 calm) in
      (same, d.1 ∙ ap (λ (x : Work). done (is_open_on k x) x) same ∙ sym f.1)
  does_same h (Ended k) r s w v d f quiet calm =
      let first : IsQuiet (on_end k d.0 h) = subst IsQuiet d.1 (quiet_reply r false w d.2 quiet) in
      let second : IsQuiet (on_end k f.0 h) = subst IsQuiet f.1 (quiet_reply s false v f.2 calm) in
      let same : w ≡ v = d.1 ∙ ended_same k d.0 h first ∙ sym (ended_same k f.0 h second) ∙ sym f.1 in
      (same, d.2 ∙ ap (λ (x : Work). done false x) same ∙ sym f.2)
  does_same h (Tick now) r s w v d f quiet calm =
      let start : Work = expire (with_clock now h) in
      let same : w ≡ v = ticks_same h.config.connect_within (max h.clock now) h.connections start start w v d.0 f.0 refl (quiet_reply r true w d.1 quiet) (quiet_reply s true v f.1 calm) in
      (same, d.1 ∙ ap (λ (x : Work). done true x) same ∙ sym f.1)
  does_same h (Collect k) r s w v d f quiet calm = (d.0 ∙ sym f.0, d.1 ∙ sym f.1)

  -- ---- runs

  both_false : (a b : Bool) → (a || b) ≡ false → (a ≡ false) × (b ≡ false)
  both_false true b wrong = absurd (true≢false wrong)
  both_false false b right = (refl, right)

  follows_same : (h k g f : HubState) (es fs : List Episode) → Follows h es g → Follows k fs f → h ≡ k
      → map (λ (e : Episode). e.event) es ≡ map (λ (e : Episode). e.event) fs → IsSound es → IsSound fs
      → (g ≡ f) × (map (λ (e : Episode). e.reply) es ≡ map (λ (e : Episode). e.reply) fs)
  follows_same h k g f [] [] first second start same quiet calm = (first ∙ start ∙ sym second, refl)
  follows_same h k g f [] (x ∷ fs) first second start same quiet calm = absurd cc
  follows_same h k g f (e ∷ es) [] first second start same quiet calm = absurd cc
  follows_same h k g f (e ∷ es) (x ∷ fs) first second start same quiet calm =
      let here : e.event ≡ x.event = cc in
      let later : map (λ (y : Episode). y.event) es ≡ map (λ (y : Episode). y.event) fs = cc in
      let q = both_false (reports_memory e.reply) (list_any (λ (y : Episode). reports_memory y.reply) es) quiet in
      let c = both_false (reports_memory x.reply) (list_any (λ (y : Episode). reports_memory y.reply) fs) calm in
      let again : Does h e.event x.reply x.work = subst (λ (y : HubEvent). Does h y x.reply x.work) (sym here) (subst (λ (y : HubState). Does y x.event x.reply x.work) (sym start) second.1) in
      let one = does_same h e.event e.reply x.reply e.work x.work first.1 again q.0 c.0 in
      let more = follows_same e.work.hub x.work.hub g f es fs first.2 second.2 (ap (λ (w : Work). w.hub) one.0) later q.1 c.1 in
      (more.0, ap₂ (λ (r : HubReply) (rs : List HubReply). r ∷ rs) one.1 more.1)

  pub laws_of_replays : ReplayLaws
  laws_of_replays = record {
    same = λ old new other events first second.
        let both = follows_same old old new other first.episodes second.episodes first.follows second.follows refl (first.came ∙ sym second.came) first.sound second.sound in
        (both.1, both.0);
  }
