-- A step sends packets on the connection of its event, and copies to clients.
use Rattle.std.proofs.Common.{◌≡◌, ℕ, Bool, true, false, cond, ◌||◌, List, [], ◌∷◌, ◌++◌, length, map, max, Option, Some, None, refl, sym, ap, subst, ◌∙◌, true≢false, eqb, eq-eqb}
use Rattle.std.proofs.lemmas.Bool.{cond-true, cond-false, or_parts}
use Rattle.std.proofs.Math.Nat.{le-max_left, le-max_right}
use Rattle.std.specs.List.{list_any}
use Rattle.mq_packet.specs.declared.packet.Packet.{Packet}
use Rattle.mq_packet.specs.declared.message.Message.{Message}
use Rattle.mq_packet.specs.Encoding.{encodings}
use Rattle.mq_end.specs.End.{End, Reply, over}
use Rattle.mq_route.specs.declared.act.Act.{Act}
use Rattle.mq_route.specs.declared.act.Act.TheVariants as acts
use Rattle.mq_route.specs.declared.config.HubConfig.{HubConfig}
use Rattle.mq_route.specs.declared.conn.Conn.{Conn}
use Rattle.mq_route.specs.declared.event.HubEvent.{HubEvent}
use Rattle.mq_route.specs.declared.event.HubEvent.TheVariants.{Opened, Bytes, Ended, Tick, Collect}
use Rattle.mq_route.specs.declared.reply.HubReply.{HubReply}
use Rattle.mq_route.specs.declared.connection_state.ConnectionState.TheVariants.{ConnectedAs}
use Rattle.mq_route.specs.declared.connection_state.ConnectionTerms.{ConnectionTerms}
use Rattle.mq_route.specs.Routed.{same_conn}
use Rattle.mq_route.specs.Hub.{HubState, HubConnection, new_hub, is_connection, stage_of, waiting_on, changed, with_connection, is_for, is_open, held_on, up_on, end_of, with_end}
use Rattle.mq_route.specs.Work.{Work, begin, said, with_sessions, staged, shut, put_on, put_where, does, remove, remove_if}
use Rattle.mq_route.specs.Arrives.{new_session}
use Rattle.mq_route.specs.Step.{Does, HubStep, close_if_open, with_clock, holding}
use Rattle.mq_route.specs.Runs.{is_on}
use Rattle.mq_route.specs.Laws.{places_on, OutputLaws}
use Rattle.mq_route.proofs.Lines.{one_conn, same_conn-itself, up_is, conn_in, upper, Names, Bytes as BytesStay, Ups, grown, names_changed, bytes_changed, ups_changed, up_map, waiting_map, put_there}
use Rattle.mq_route.proofs.Uppers.{newcomer, unless, upper_stage, upper_risen}
use Rattle.mq_route.proofs.Changes.{Freely, freely, Anywhere, anywhere, Debt, owes, nothing, Inner, Outer, Sound, names_grown, up_put, up_put_where, upper_shut, closed_line, closing, rising}
use Rattle.mq_route.proofs.Steps.{comes_both, holding_both, tick_both, ended_both}
use Rattle.mq_route.proofs.Events.{emptied, sound_new, acts_are}
use Rattle.mq_route.proofs.Output.{kept_line, written_is, sound_run}
use Rattle.mq_route.proofs.PendingOutput.{bounded_run}
use Rattle.mq_route.proofs.Reading.{same_run}

-- an act that is one of these
any_more : (p : Act → Bool) (did : List Act) (act : Act) → list_any p (did ++ act ∷ []) ≡ false → (list_any p did ≡ false) × (p act ≡ false)
any_more p [] act none = (refl, (or_parts (p act) false none).0)
any_more p (a ∷ did) act none = go (p a) none (any_more p did act)
  where
    go : (b : Bool) → (b || list_any p (did ++ act ∷ [])) ≡ false → (list_any p (did ++ act ∷ []) ≡ false → (list_any p did ≡ false) × (p act ≡ false)) → ((b || list_any p did) ≡ false) × (p act ≡ false)
    go true e ih = absurd (true≢false e)
    go false e ih = ih e

-- a close connects no client
unless_some : (k n : Conn) (o : Option (Conn × Bool)) → conn_in (unless k o) ≡ Some n → conn_in o ≡ Some n
unless_some k n None e = e
unless_some k n (Some u) e = go (same_conn u.0 k) e
  where
    go : (b : Bool) → conn_in (cond b None (Some u)) ≡ Some n → Some u.0 ≡ Some n
    go true e = absurd cc
    go false e = e

module _ (n : Conn) (h : HubState) where
  abbrev IsOther : Conn → Type 0
  IsOther k = same_conn k n ≡ false

  -- a client that is connected on the connection was connected on it
  abbrev IsOld : Work → Type 0
  IsOld w = (c : ℕ) → up_on c w.hub.connections ≡ Some n → is_for c (stage_of n h.connections) ≡ true

  -- the pending output is the same, unless a copy was placed for the client
  abbrev Quiet : Debt → Work → Type 0
  Quiet o w = IsOld w × (list_any (places_on n h) w.did ≡ false → waiting_on n w.hub.connections ≡ waiting_on n h.connections)

  -- a change that keeps names, clients and pending output
  calm : (g : HubConnection → HubConnection) (o : Debt) (w : Work) → Names g → Ups g → BytesStay g → Quiet o w → Quiet o (record w { hub = record w.hub { connections = map g w.hub.connections } })
  calm g o w names ups bytes r = (λ c up. r.0 c (sym (up_map g names ups c w.hub.connections) ∙ up), λ none. waiting_map g names bytes n w.hub.connections ∙ r.1 none)

  -- one more act
  more : (act : Act) (o p : Debt) (w : Work) → Quiet o w → Quiet p (said act w)
  more act o p w r = (r.0, λ none. r.1 (any_more (places_on n h) w.did act none).0)

  put_quiet : (k : Conn) (ps : List Packet) (o : Debt) (w : Work) → IsOther k → Quiet o w → Quiet o (put_on k ps w)
  unfolding put_on
  put_quiet k ps o w other r = (
    λ c up. r.0 c (sym (up_put c k ps w) ∙ up),
    λ none. put_there k n (grown (encodings ps)) w.hub.connections (names_grown (encodings ps)) other ∙ r.1 none,
  )

  where_did : (to : Option Conn) (ps : List Packet) (w : Work) → (put_where to ps w).did ≡ w.did
  unfolding put_on
  where_did None ps w = refl
  where_did (Some k) ps w = refl

  -- packets to another connection, or to none
  where_quiet : (to : Option Conn) (ps : List Packet) (w : Work) → (to ≡ Some n → ⊥) → waiting_on n (put_where to ps w).hub.connections ≡ waiting_on n w.hub.connections
  unfolding put_on
  where_quiet None ps w other = refl
  where_quiet (Some k) ps w other = go (same_conn k n) refl
    where
      go : (b : Bool) → same_conn k n ≡ b → waiting_on n (with_connection (grown (encodings ps)) k w.hub.connections) ≡ waiting_on n w.hub.connections
      go true e = absurd (other (ap (λ (k : Conn). Some k) (one_conn k n e)))
      go false e = put_there k n (grown (encodings ps)) w.hub.connections (names_grown (encodings ps)) e

  placed_quiet : (key : ℕ) (m : Message) (ps : List Packet) (o p : Debt) (w : Work) → Quiet o w → Quiet p (said (acts.Placed key m) (put_where (up_on key w.hub.connections) ps w))
  unfolding places_on
  placed_quiet key m ps o p w r =
      let to = up_on key w.hub.connections in (
        λ c up. r.0 c (sym (up_put_where c to ps w) ∙ up),
        λ none.
            let parts = any_more (places_on n h) (put_where to ps w).did (acts.Placed key m) none in
            where_quiet to ps w (λ here. true≢false (sym (r.0 key here) ∙ parts.1))
            ∙ r.1 (ap (list_any (places_on n h)) (sym (where_did to ps w)) ∙ parts.0),
      )

  inner : Inner IsOther Quiet
  inner = record {
    put = λ k ps o w own plain r. put_quiet k ps o w own r;
    moves = λ key e o w alike r. r;
    marks = λ key now o w r. r;
    took = λ key m t c w r. more (acts.Took key m) (owes [] ((key, m) ∷ t) c) nothing w r;
    willed = λ key m w r. more (acts.Will key m) nothing nothing w r;
    placed = λ key m ps d t c w copy r. placed_quiet key m ps nothing nothing w r;
    missed = λ key m d t c w is r. more (acts.Missed key m) nothing nothing w r;
    subscribed = λ key f q d t c w r. more (acts.Subscribed key f q) nothing nothing w r;
    unsubscribed = λ key f o w r. more (acts.Unsubscribed key f) nothing nothing w r;
  }

  shut_quiet : (k : Conn) (w : Work) → Sound w.hub → Quiet nothing w → Quiet nothing (shut k w)
  shut_quiet k w s r = (
    λ c up.
        let was = sym (ap conn_in (upper_shut k c w s.apart)) ∙ sym (up_is c (shut k w).hub.connections) ∙ up in
        r.0 c (up_is c w.hub.connections ∙ unless_some k n (upper c w.hub.connections) was),
    λ none. waiting_map (changed closed_line k) (names_changed closed_line k (λ x. refl)) (bytes_changed closed_line k (λ x. refl)) n w.hub.connections ∙ r.1 none,
  )

  remove_quiet : (b : Bool) (key : ℕ) (w : Work) → Quiet nothing w → Quiet nothing (remove_if b key w)
  unfolding remove
  remove_quiet true key w r = more (acts.Removed key) nothing nothing w r
  remove_quiet false key w r = r

  begins_quiet : (client : List ℕ) (w : Work) → Quiet nothing w → Quiet nothing (new_session client w)
  unfolding new_session
  begins_quiet client w r = r

  rises_quiet : (k : Conn) (key : ℕ) (terms : ConnectionTerms) (last_activity : ℕ) (move : End → Reply) (present : Bool) (w : Work) → IsOther k
      → ((c : ℕ) → upper c (staged k (ConnectedAs key terms last_activity) w).hub.connections ≡ cond (eqb key c) (Some (k, terms.clean_session)) (upper c w.hub.connections))
      → Quiet nothing w → Quiet nothing (rising k key terms last_activity move present w)
  unfolding does
  rises_quiet k key terms last_activity move present w other risen r =
      let u = with_sessions (with_end key (move (end_of key w.hub.sessions)).end) v in
      let to = up_on key v.hub.connections in
      let ps = (move (end_of key w.hub.sessions)).out in
      more (acts.Up k key present) nothing nothing (put_where to ps u) (
        λ c up. old c (sym (up_put_where c to ps u) ∙ up),
        λ none.
            where_quiet to ps u (λ here. elsewhere (sym (up_is key v.hub.connections) ∙ here))
            ∙ waiting_map (changed f k) (names_changed f k (λ x. refl)) (bytes_changed f k (λ x. refl)) n w.hub.connections
            ∙ r.1 (ap (list_any (places_on n h)) (sym (where_did to ps u)) ∙ none),
      )
    where
      f : HubConnection → HubConnection
      f x = record x { stage = ConnectedAs key terms last_activity }

      v : Work
      v = staged k (ConnectedAs key terms last_activity) w

      not_here : Some k ≡ Some n → ⊥
      not_here e =
          let same : k ≡ n = cc in
          true≢false (sym (same_conn-itself n) ∙ ap (λ (k : Conn). same_conn k n) (sym same) ∙ other)

      one : (c : ℕ) (b : Bool) → conn_in (cond b (Some (k, terms.clean_session)) (upper c w.hub.connections)) ≡ Some n → conn_in (upper c w.hub.connections) ≡ Some n
      one c true e = absurd (not_here e)
      one c false e = e

      old : (c : ℕ) → up_on c v.hub.connections ≡ Some n → is_for c (stage_of n h.connections) ≡ true
      old c up = r.0 c (up_is c w.hub.connections ∙ one c (eqb key c) (sym (ap conn_in (risen c)) ∙ sym (up_is c v.hub.connections) ∙ up))

      elsewhere : conn_in (upper key v.hub.connections) ≡ Some n → ⊥
      elsewhere e =
          let here = ap conn_in (risen key ∙ cond-true (eqb key key) (Some (k, terms.clean_session)) (upper key w.hub.connections) (eq-eqb key key refl)) in
          not_here (sym here ∙ e)

  outer : Outer IsOther Quiet Freely Anywhere
  outer = record {
    mild = λ f k o w m r. calm (changed f k) o w (names_changed f k (λ x. (m x).0)) (ups_changed f k (λ x. ((m x).2, (m x).3))) (bytes_changed f k (λ x. (m x).1)) r;
    gets = λ key p w s there up g r. r;
    noted = λ c w r. r;
    shuts = λ k why w may s free r. more (acts.Closed k why) nothing nothing (shut k w) (shut_quiet k w s r);
    closes = λ k why key terms last_activity w may s e r.
        let v = said (acts.Closed k why) (shut k w) in
        remove_quiet terms.clean_session key (with_sessions (with_end key (over (end_of key w.hub.sessions))) v) (more (acts.Closed k why) nothing nothing (shut k w) (shut_quiet k w s r));
    drops = λ k why key terms last_activity fits w near stage m has short r. more (acts.WillDropped key) nothing nothing (closing k why key terms w) r;
    removes = λ key w s none r. remove_quiet true key w r;
    begins = λ client w s r. begins_quiet client w r;
    rises = λ k key terms last_activity move present w own s known fresh none there up clean received plain r.
        rises_quiet k key terms last_activity move present w own (upper_risen k key terms last_activity w.hub.connections s.apart known (subst (λ t. (c : ℕ) → is_for c t ≡ false) (sym fresh) (λ c. refl)) none) r;
  }

  starts : Sound h → Quiet nothing (begin h)
  starts s = (λ c up. go c (upper c h.connections) refl (sym (up_is c h.connections) ∙ up), λ none. refl)
    where
      go : (c : ℕ) (o : Option (Conn × Bool)) → upper c h.connections ≡ o → conn_in o ≡ Some n → is_for c (stage_of n h.connections) ≡ true
      go c None e here = absurd cc
      go c (Some u) e here =
          let same : u.0 ≡ n = cc in
          subst (λ (n : Conn). is_for c (stage_of n h.connections) ≡ true) same (upper_stage c u h.connections s.apart e)

  holds : (k : Conn) (b : List ℕ) (w : Work) → Quiet nothing w → Quiet nothing (holding k b w)
  holds k b w r =
      let f : HubConnection → HubConnection = λ x. record x { held = b } in
      calm (changed f k) nothing w (names_changed f k (λ x. refl)) (ups_changed f k (λ x. (λ c. refl, refl))) (bytes_changed f k (λ x. refl)) r

  -- another connection is opened
  opens : (k : Conn) (at : ℕ) (xs : List HubConnection) → IsOther k → waiting_on n (xs ++ newcomer k at ∷ []) ≡ waiting_on n xs
  opens k at [] other = cond-false (same_conn k n) [] [] other
  opens k at (x ∷ xs) other = ap (λ (b : List ℕ). cond (is_connection n x) x.waiting b) (opens k at xs other)

  event : (e : HubEvent) (r : HubReply) (w : Work) → Does h e r w → Sound h → is_on n e ≡ false → list_any (places_on n h) w.did ≡ false → waiting_on n w.hub.connections ≡ waiting_on n h.connections
  event (Opened k) r w d s other none = ap (λ (w : Work). waiting_on n w.hub.connections) d.0 ∙ opens k h.clock h.connections other
  event (Bytes k piece) r w d s other none =
      let start = holding_both Quiet Freely Anywhere inner outer freely anywhere k [] (begin h) (λ r. holds k [] (begin h) r) (s, starts s) in
      (comes_both Quiet Freely Anywhere inner outer freely anywhere (λ fits w. tt) (tt, tt) h.config.limits k other (holds k) (held_on k h.connections ++ piece) (holding k [] (begin h)) w d.0 start).1.1 none
  event (Ended k) r w d s other none =
      let v = close_if_open k (is_open (stage_of k h.connections)) d.0 (begin h) in
      let end = ended_both Quiet Freely Anywhere inner outer freely anywhere k (is_open (stage_of k h.connections)) d.0 (begin h) tt (s, starts s) in
      ap (λ (w : Work). waiting_on n w.hub.connections) d.1
      ∙ (kept_line n k other v.hub.connections).1
      ∙ end.1.1 (sym (ap (λ (w : Work). list_any (places_on n h) w.did) d.1) ∙ none)
  event (Tick now) r w d s other none =
      (tick_both Quiet Freely Anywhere inner outer freely anywhere (λ fits w. tt) tt (with_clock now h) w d.0 (s, starts s)).1.1 none
  event (Collect k) r w d s other none = ap (λ (w : Work). waiting_on n w.hub.connections) d.0 ∙ put_there k n emptied h.connections (λ x. refl) other

  pub others : (e : HubEvent) (r : HubReply) (h2 : HubState) → HubStep h e r h2 → Sound h → is_on n e ≡ false → list_any (places_on n h) r.acts ≡ false
      → waiting_on n h2.connections ≡ waiting_on n h.connections
  others e r h2 step s other none =
      ap (λ (h : HubState). waiting_on n h.connections) step.after
      ∙ event e r step.work step.does s other (sym (ap (list_any (places_on n h)) (acts_are h e r step.work step.does)) ∙ none)

pub laws : OutputLaws
laws = record {
  written_is_put_out = λ config before h after h2 f g k stays known. written_is k after h h2 g stays (sound_run before (new_hub config) h f (sound_new config)) known;
  others_unchanged = λ config before h f e r h2 step k other none. others k h e r h2 step (sound_run before (new_hub config) h f (sound_new config)) other none;
  waiting_within = λ config most limited before h after h2 f g k stays known.
      let s = sound_run before (new_hub config) h f (sound_new config) in
      let limit = ap (λ (c : HubConfig). c.most_waiting) (same_run before (new_hub config) h f (sound_new config)) ∙ limited in
      let few = length (waiting_on k h.connections) in
      bounded_run k most (max most few) (le-max_left most few) after h h2 g stays s known limit (le-max_right most few);
}
