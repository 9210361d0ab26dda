-- Under ClosePublisher no copy is missed, and only then a copy lacks room.
use Rattle.std.proofs.Common.{◌≡◌, ℕ, Bool, true, false, not, ◌&&◌, ◌||◌, cond, eqb, List, [], ◌∷◌, ◌++◌, map, Option, None, refl, sym, ap, ap₂, subst, ◌∙◌, true≢false, append-nil}
use Rattle.std.proofs.lemmas.Bool.{or_parts}
use Rattle.std.proofs.lemmas.List.{map-append}
use Rattle.std.proofs.lemmas.List.Concat.{flat_map-append}
use Rattle.mq_packet.specs.declared.message.Message.{Message}
use Rattle.mq_end.specs.Both.{has_identifier}
use Rattle.mq_end.specs.End.{End, Reply, over}
use Rattle.mq_route.specs.declared.act.Act.{Act}
use Rattle.mq_route.specs.declared.act.Act.TheVariants as acts
use Rattle.mq_route.specs.declared.close.HubClose.{HubClose}
use Rattle.mq_route.specs.declared.config.HubConfig.{HubConfig}
use Rattle.mq_route.specs.declared.config.WhenFull.{WhenFull}
use Rattle.mq_route.specs.declared.config.WhenFull.TheVariants.{ClosePublisher, DropCopy}
use Rattle.mq_route.specs.declared.conn.Conn.{Conn}
use Rattle.mq_route.specs.declared.event.HubEvent.{HubEvent}
use Rattle.mq_route.specs.declared.event.HubEvent.TheVariants.{Opened, Bytes, Ended, Tick, Collect}
use Rattle.mq_route.specs.declared.reply.HubReply.{HubReply}
use Rattle.mq_route.specs.declared.connection_state.ConnectionState.TheVariants.{ConnectedAs}
use Rattle.mq_route.specs.declared.connection_state.ConnectionTerms.{ConnectionTerms}
use Rattle.mq_route.specs.Routed.{placed_by, placed, missed_by, missed, marked_by, marked, settled}
use Rattle.mq_route.specs.Hub.{HubState, stage_of, is_open, held_on, up_on, end_of, with_end}
use Rattle.mq_route.specs.Work.{Work, begin, said, with_sessions, staged, shut, put_on, put_where, does, drops_copies, leaves, lacks_room, pending_on, publish_bytes, is_missed, all_fit, have_room, remove, remove_if}
use Rattle.mq_route.specs.Arrives.{new_session}
use Rattle.mq_route.specs.Step.{Does, with_clock, holding}
use Rattle.mq_route.specs.Runs.{Episode, Follows, acts_of}
use Rattle.mq_route.proofs.Changes.{Freely, freely, Anywhere, anywhere, Debt, owes, nothing, Everywhere, Inner, Sends, sent_where, Outer, Sound, closing, rising}
use Rattle.mq_route.proofs.Steps.{comes_both, holding_both, tick_both, ended_both}
use Rattle.mq_route.proofs.Events.{acts_are}
use Rattle.mq_route.proofs.Output.{sound_event}

-- ---- only under ClosePublisher a copy lacks room

pub keeps_copies : (policy : WhenFull) → drops_copies policy ≡ false → policy ≡ ClosePublisher
keeps_copies ClosePublisher e = refl
keeps_copies DropCopy e = absurd (true≢false e)

pub short_parts : (copies : List (ℕ × Message)) (h : HubState) → have_room copies h ≡ false → (h.config.when_full ≡ ClosePublisher) × (all_fit copies h ≡ false)
unfolding have_room
short_parts copies h short =
    let parts = or_parts (drops_copies h.config.when_full) (all_fit copies h) short in
    (keeps_copies h.config.when_full parts.0, parts.1)

-- ---- if nothing is missed, the placed messages are all

both_nil : {X : Type 0} (xs ys : List X) → xs ++ ys ≡ [] → (xs ≡ []) × (ys ≡ [])
both_nil [] ys e = (refl, e)
both_nil (x ∷ xs) ys e = absurd cc

one_placed : (b : Bool) (m : Message) → map (λ (x : Bool × Message). x.1) (cond b ((false, m) ∷ []) []) ≡ cond b (m ∷ []) []
one_placed true m = refl
one_placed false m = refl

one_missed : (b : Bool) (m : Message) → cond b (m ∷ []) [] ≡ [] → map (λ (x : Bool × Message). x.1) (cond b ((true, m) ∷ []) []) ≡ []
one_missed true m e = absurd cc
one_missed false m e = refl

one_is : (c : ℕ) (act : Act) → missed_by c act ≡ [] → map (λ (x : Bool × Message). x.1) (marked_by c act) ≡ placed_by c act
unfolding missed_by marked_by placed_by
one_is c (acts.Placed d m) e = one_placed (eqb d c) m
one_is c (acts.Missed d m) e = one_missed (eqb d c) m e
one_is c other e = refl

pub settled_is : (c : ℕ) (log : List Act) → missed c log ≡ [] → settled c log ≡ placed c log
settled_is c [] e = refl
settled_is c (act ∷ log) e =
    let parts = both_nil (missed_by c act) (missed c log) e in
    map-append (λ (x : Bool × Message). x.1) (marked_by c act) (marked c log) ∙ ap₂ (λ (a b : List Message). a ++ b) (one_is c act parts.0) (settled_is c log parts.1)

-- ---- one more act

module _ (config : HubConfig) (keep : drops_copies config.when_full ≡ false) (unlimited : config.most_waiting ≡ None) where
  -- none of these acts is a miss
  abbrev NoMiss : List Act → Type 0
  NoMiss did = (c : ℕ) → missed c did ≡ []

  abbrev Calm : Debt → Work → Type 0
  Calm o w = (w.hub.config ≡ config) × NoMiss w.did

  more : (did : List Act) (act : Act) → ((c : ℕ) → missed_by c act ≡ []) → NoMiss did → NoMiss (did ++ act ∷ [])
  more did act none r c = flat_map-append (missed_by c) did (act ∷ []) ∙ ap₂ (λ (a b : List Message). a ++ b) (r c) (append-nil (missed_by c act) ∙ none c)

  never : (key : ℕ) (m : Message) (w : Work) → w.hub.config ≡ config → is_missed key m w.hub ≡ true → ⊥
  never key m w same is =
      let pending = pending_on (up_on key w.hub.connections) w.hub.connections in
      let kept = ap (λ (d : Bool). d && lacks_room key m w.hub) (ap (λ (c : HubConfig). drops_copies c.when_full) same ∙ keep) in
      let sent = ap (λ (o : Option ℕ). not (leaves o pending (publish_bytes m)) && not (has_identifier m.qos)) (ap (λ (c : HubConfig). c.most_waiting) same ∙ unlimited) in
      true≢false (sym is ∙ ap₂ (λ (a b : Bool). a || b) kept sent)

  put_calm : Sends Calm
  unfolding put_on
  put_calm k ps o w r = r

  inner : Inner Everywhere Calm
  unfolding missed_by
  inner = record {
    put = λ k ps o w own plain r. put_calm k ps o w r;
    moves = λ key e o w alike r. r;
    marks = λ key now o w r. r;
    took = λ key m t n w r. (r.0, more w.did (acts.Took key m) (λ c. refl) r.1);
    willed = λ key m w r. (r.0, more w.did (acts.Will key m) (λ c. refl) r.1);
    placed = λ key m ps c t n w copy r.
        let v = put_where (up_on key w.hub.connections) ps w in
        let sent = sent_where Calm put_calm (up_on key w.hub.connections) ps (owes ((key, m) ∷ c) t n) w r in
        (sent.0, more v.did (acts.Placed key m) (λ c. refl) sent.1);
    missed = λ key m c t n w is r. absurd (never key m w r.0 is);
    subscribed = λ key f q c t n w r. (r.0, more w.did (acts.Subscribed key f q) (λ c. refl) r.1);
    unsubscribed = λ key f o w r. (r.0, more w.did (acts.Unsubscribed key f) (λ c. refl) r.1);
  }

  closed_calm : (k : Conn) (why : HubClose) (did : List Act) → NoMiss did → NoMiss (did ++ acts.Closed k why ∷ [])
  unfolding missed_by
  closed_calm k why did r = more did (acts.Closed k why) (λ c. refl) r

  drops_calm : (key : ℕ) (w : Work) → Calm nothing w → Calm nothing (said (acts.WillDropped key) w)
  unfolding missed_by
  drops_calm key w r = (r.0, more w.did (acts.WillDropped key) (λ c. refl) r.1)

  removes_calm : (key : ℕ) (w : Work) → Calm nothing w → Calm nothing (remove key w)
  unfolding remove missed_by
  removes_calm key w r = (r.0, more w.did (acts.Removed key) (λ c. refl) r.1)

  remove_if_calm : (b : Bool) (key : ℕ) (w : Work) → Calm nothing w → Calm nothing (remove_if b key w)
  remove_if_calm true key w r = removes_calm key w r
  remove_if_calm false key w r = r

  begins_calm : (client : List ℕ) (w : Work) → Calm nothing w → Calm nothing (new_session client w)
  unfolding new_session
  begins_calm client w r = r

  rises_calm : (k : Conn) (key : ℕ) (terms : ConnectionTerms) (last_activity : ℕ) (move : End → Reply) (present : Bool) (w : Work) → Calm nothing w → Calm nothing (rising k key terms last_activity move present w)
  unfolding does missed_by
  rises_calm k key terms last_activity move present w r =
      let v = staged k (ConnectedAs key terms last_activity) w in
      let e = end_of key w.hub.sessions in
      let u = with_sessions (with_end key (move e).end) v in
      let d = put_where (up_on key v.hub.connections) (move e).out u in
      let sent = sent_where Calm put_calm (up_on key v.hub.connections) (move e).out nothing u r in
      (sent.0, more d.did (acts.Up k key present) (λ c. refl) sent.1)

  outer : Outer Everywhere Calm Freely Anywhere
  outer = record {
    mild = λ f k o w m r. r;
    gets = λ key p w s there up g r. r;
    noted = λ n w r. r;
    shuts = λ k why w may s free r. (r.0, closed_calm k why w.did r.1);
    closes = λ k why key terms last_activity w may s e r.
        remove_if_calm terms.clean_session key (with_sessions (with_end key (over (end_of key w.hub.sessions))) (said (acts.Closed k why) (shut k w))) (r.0, closed_calm k why w.did r.1);
    drops = λ k why key terms last_activity fits w near stage m has short r. drops_calm key (closing k why key terms w) r;
    removes = λ key w s none r. removes_calm key w r;
    begins = λ client w s r. begins_calm client w r;
    rises = λ k key terms last_activity move present w own s known free none there up clean received plain r. rises_calm k key terms last_activity move present w r;
  }

  -- ---- events

  calm_event : (h : HubState) (e : HubEvent) (r : HubReply) (w : Work) → Does h e r w → Sound h → h.config ≡ config → Calm nothing w
  calm_event h (Opened k) r w d s same = subst (Calm nothing) (sym d.0) (same, λ c. refl)
  calm_event h (Bytes k piece) r w d s same =
      let start = holding_both Calm Freely Anywhere inner outer freely anywhere k [] (begin h) (λ r. r) (s, (same, λ c. refl)) in
      (comes_both Calm Freely Anywhere inner outer freely anywhere (λ fits w. tt) (tt, tt) h.config.limits k tt (λ b v r. r) (held_on k h.connections ++ piece) (holding k [] (begin h)) w d.0 start).1
  calm_event h (Ended k) r w d s same =
      let end = ended_both Calm Freely Anywhere inner outer freely anywhere k (is_open (stage_of k h.connections)) d.0 (begin h) tt (s, (same, λ c. refl)) in
      subst (Calm nothing) (sym d.1) (end.1.0, end.1.1)
  calm_event h (Tick now) r w d s same =
      (tick_both Calm Freely Anywhere inner outer freely anywhere (λ fits w. tt) tt (with_clock now h) w d.0 (s, (same, λ c. refl))).1
  calm_event h (Collect k) r w d s same = subst (Calm nothing) (sym d.0) (same, λ c. refl)

  pub none_run : (es : List Episode) (h h2 : HubState) → Follows h es h2 → Sound h → h.config ≡ config → NoMiss (acts_of es)
  none_run [] h h2 f s same c = refl
  none_run (e ∷ es) h h2 f s same c =
      let now = calm_event h e.event e.reply e.work f.1 s same in
      flat_map-append (missed_by c) e.reply.acts (acts_of es)
      ∙ ap₂ (λ (a b : List Message). a ++ b) (ap (missed c) (acts_are h e.event e.reply e.work f.1) ∙ now.1 c)
      (none_run es e.work.hub h2 f.2 (sound_event h e.event e.reply e.work f.0 f.1 s) now.0 c)
