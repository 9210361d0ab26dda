-- The messages taken from a client are those that a receiver's book delivers from its packets.
use Rattle.std.proofs.Common.{◌≡◌, ℕ, ◌≤◌, Bool, true, false, cond, List, [], ◌∷◌, ◌++◌, Option, None, refl, sym, ap, ap₂, subst, subst₂, ◌∙◌, true≢false, append_assoc, append-nil, eqb, eqb-true, eq-eqb, le_refl, arith}
use Rattle.std.proofs.lemmas.Bool.{cond-true, cond-false, false_from_ne_true}
use Rattle.std.proofs.lemmas.List.Concat.{flat_map-append}
use Rattle.mq_packet.specs.declared.message.Message.{Message}
use Rattle.mq_packet.specs.declared.packet.Packet.{Packet}
use Rattle.mq_flow.specs.Receiver.{ReceiverBook, none_received}
use Rattle.mq_end.specs.End.{End, Reply, over}
use Rattle.mq_end.specs.Server.{server_gets}
use Rattle.mq_route.specs.declared.act.Act.{Act}
use Rattle.mq_route.specs.declared.act.Act.TheVariants as acts
use Rattle.mq_route.specs.declared.conn.Conn.{Conn}
use Rattle.mq_route.specs.declared.close.HubClose.{HubClose}
use Rattle.mq_route.specs.declared.event.HubEvent.{HubEvent}
use Rattle.mq_route.specs.declared.event.HubEvent.TheVariants.{Opened, Bytes, Ended, Tick, Collect}
use Rattle.mq_route.specs.declared.reply.HubReply.{HubReply}
use Rattle.mq_route.specs.declared.connection_state.ConnectionState.TheVariants.{ConnectedAs}
use Rattle.mq_route.specs.declared.connection_state.ConnectionTerms.{ConnectionTerms}
use Rattle.mq_route.specs.Routed.{taken_by, taken}
use Rattle.mq_route.specs.Hub.{HubState, HubSession, new_hub, new_end, no_end, stage_of, without_session, is_open, held_on, up_on, end_of, with_end, with_left}
use Rattle.mq_route.specs.Work.{Work, begin, said, with_sessions, staged, shut, put_on, put_where, does, remove, remove_if}
use Rattle.mq_route.specs.Arrives.{new_session}
use Rattle.mq_route.specs.Step.{Does, event_refusal, on_open, on_end, on_collect, with_clock, holding}
use Rattle.mq_route.specs.Runs.{Episode, Follows, acts_of, came_in}
use Rattle.mq_route.specs.Taken.{handed_by, book_after, handed_from, of_client}
use Rattle.mq_route.specs.Laws.{TakingLaws, for_client}
use Rattle.mq_route.proofs.Uppers.{upper_at}
use Rattle.mq_route.proofs.Sessions.{has, has_with, has_without, end_without, end_with_other, each_left, each_there, each_with, each_new}
use Rattle.mq_route.proofs.Ends.{GoesOn, takings}
use Rattle.mq_route.proofs.Changes.{Anywhere, anywhere, Freely, freely, Debt, owes, nothing, Everywhere, Inner, sent_where, Outer, Sound, is_tied, closing, rising}
use Rattle.mq_route.proofs.Steps.{comes_both, holding_both, tick_both, ended_both}
use Rattle.mq_route.proofs.Events.{sound_new}
use Rattle.mq_route.proofs.Output.{sound_event}
use Rattle.mq_route.proofs.Routing.{for_client-key}

-- ---- packets of one client

of_client-append : (c : ℕ) (xs ys : List (ℕ × Packet)) → of_client c (xs ++ ys) ≡ of_client c xs ++ of_client c ys
of_client-append c [] ys = refl
of_client-append c (x ∷ xs) ys = go (eqb x.0 c) (of_client-append c xs ys)
  where
    go : (b : Bool) → of_client c (xs ++ ys) ≡ of_client c xs ++ of_client c ys → cond b (x.1 ∷ of_client c (xs ++ ys)) (of_client c (xs ++ ys)) ≡ cond b (x.1 ∷ of_client c xs) (of_client c xs) ++ of_client c ys
    go true ih = ap (λ (l : List Packet). x.1 ∷ l) ih
    go false ih = ih

own_packet : (key : ℕ) (p : Packet) (xs : List (ℕ × Packet)) → of_client key (xs ++ (key, p) ∷ []) ≡ of_client key xs ++ p ∷ []
own_packet key p xs = of_client-append key xs ((key, p) ∷ []) ∙ ap (λ (l : List Packet). of_client key xs ++ l) (cond-true (eqb key key) (p ∷ []) [] (eq-eqb key key refl))

other_packet : (c key : ℕ) (p : Packet) (xs : List (ℕ × Packet)) → eqb key c ≡ false → of_client c (xs ++ (key, p) ∷ []) ≡ of_client c xs
other_packet c key p xs apart =
    of_client-append c xs ((key, p) ∷ []) ∙ ap (λ (l : List Packet). of_client c xs ++ l) (cond-false (eqb key c) (p ∷ []) [] apart) ∙ append-nil (of_client c xs)

-- the book after packets
abbrev book_from : ReceiverBook → List Packet → ReceiverBook
book_from r [] = r
book_from r (p ∷ ps) = book_from (book_after p r) ps

handed_more : (r : ReceiverBook) (ps : List Packet) (p : Packet) → handed_from r (ps ++ p ∷ []) ≡ handed_from r ps ++ handed_by p (book_from r ps)
handed_more r [] p = append-nil (handed_by p r)
handed_more r (q ∷ ps) p =
    ap (λ (l : List Message). handed_by q r ++ l) (handed_more (book_after q r) ps p)
    ∙ sym (append_assoc (handed_by q r) (handed_from (book_after q r) ps) (handed_by p (book_from (book_after q r) ps)))

book_more : (r : ReceiverBook) (ps : List Packet) (p : Packet) → book_from r (ps ++ p ∷ []) ≡ book_after p (book_from r ps)
book_more r [] p = refl
book_more r (q ∷ ps) p = book_more (book_after q r) ps p

-- ---- taken messages

taken_more : (c : ℕ) (log : List Act) (act : Act) → taken c (log ++ act ∷ []) ≡ taken c log ++ taken_by c act
taken_more c log act = flat_map-append (taken_by c) log (act ∷ []) ∙ ap (λ (l : List Message). taken c log ++ l) (append-nil (taken_by c act))

-- the taken messages, and those to take, are delivered from these packets; each receiver's book is
-- the one after them
abbrev HandsAt : List Act → List (ℕ × Packet) → List (ℕ × Message) → HubState → Type 0
HandsAt log xs t h = ((c : ℕ) → taken c log ++ for_client c t ≡ handed_from none_received (of_client c xs))
    × ((c : ℕ) → has c h.sessions ≡ true → (end_of c h.sessions).received ≡ book_from none_received (of_client c xs))
    × ((c : ℕ) → h.next_key ≤ c → of_client c xs ≡ [])

-- the other sessions are unchanged
without_sets : (B : ℕ → ReceiverBook) (key : ℕ) (ss : List HubSession) → ((c : ℕ) → eqb key c ≡ false → has c ss ≡ true → (end_of c ss).received ≡ B c)
    → (c : ℕ) → has c (without_session key ss) ≡ true → (end_of c (without_session key ss)).received ≡ B c
without_sets B key ss others c there = go (eqb key c) refl
  where
    go : (b : Bool) → eqb key c ≡ b → (end_of c (without_session key ss)).received ≡ B c
    go true e = absurd (true≢false (sym there ∙ has_without key c ss ∙ cond-true (eqb key c) false (has c ss) e))
    go false e =
        ap (λ (e : End). e.received) (end_without key c ss ∙ cond-false (eqb key c) no_end (end_of c ss) e)
        ∙ others c e (sym (cond-false (eqb key c) false (has c ss) e) ∙ sym (has_without key c ss) ∙ there)

module _ (log : List Act) (before : List (ℕ × Packet)) where
  abbrev Hands : Debt → Work → Type 0
  Hands o w = HandsAt (log ++ w.did) ((before ++ w.came) ++ o.came) o.taken w.hub

  -- an act that takes nothing
  idle_act : (act : Act) (l : List (ℕ × Packet)) (t : List (ℕ × Message)) (did : List Act) (h : HubState) → ((c : ℕ) → taken_by c act ≡ []) → HandsAt (log ++ did) l t h → HandsAt (log ++ (did ++ act ∷ [])) l t h
  idle_act act l t did h none r = (
    λ c. ap (λ (ms : List Message). ms ++ for_client c t)
        (ap (taken c) (sym (append_assoc log did (act ∷ []))) ∙ taken_more c (log ++ did) act ∙ ap (λ (ms : List Message). taken c (log ++ did) ++ ms) (none c) ∙ append-nil (taken c (log ++ did)))
        ∙ r.0 c,
    r.1,
    r.2,
  )

  no_taking : (act : Act) → Type 0
  no_taking act = (c : ℕ) → taken_by c act ≡ []

  paid : (c key : ℕ) (m : Message) (t : List (ℕ × Message)) → cond (eqb key c) (m ∷ []) [] ++ for_client c t ≡ for_client c ((key, m) ∷ t)
  paid c key m t = go (eqb key c)
    where
      go : (b : Bool) → cond b (m ∷ []) [] ++ for_client c t ≡ cond b (m ∷ for_client c t) (for_client c t)
      go true = refl
      go false = refl

  took_hands : (key : ℕ) (m : Message) (t : List (ℕ × Message)) (l : List (ℕ × Packet)) (did : List Act) (h : HubState) → HandsAt (log ++ did) l ((key, m) ∷ t) h → HandsAt (log ++ (did ++ acts.Took key m ∷ [])) l t h
  unfolding taken_by
  took_hands key m t l did h r = (
    λ c. ap (λ (ms : List Message). ms ++ for_client c t) (ap (taken c) (sym (append_assoc log did (acts.Took key m ∷ []))) ∙ taken_more c (log ++ did) (acts.Took key m))
        ∙ append_assoc (taken c (log ++ did)) (cond (eqb key c) (m ∷ []) []) (for_client c t)
        ∙ ap (λ (ms : List Message). taken c (log ++ did) ++ ms) (paid c key m t)
        ∙ r.0 c,
    r.1,
    r.2,
  )

  put_hands : (k : Conn) (ps : List Packet) (o : Debt) (w : Work) → Hands o w → Hands o (put_on k ps w)
  unfolding put_on
  put_hands k ps o w r = r

  -- an end with the same receiver's book
  ends_hands : (key : ℕ) (e : End) (l : List (ℕ × Packet)) (t : List (ℕ × Message)) (a : List Act) (h : HubState) → e.received ≡ (end_of key h.sessions).received → HandsAt a l t h → HandsAt a l t (record h { sessions = with_end key e h.sessions })
  ends_hands key e l t a h same r = (
    r.0,
    each_with (λ c there e. there ≡ true → e.received ≡ book_from none_received (of_client c l)) key e h.sessions r.1 (λ there yes. same ∙ r.1 key there),
    r.2,
  )

  -- the time of a disconnect
  marks_hands : (key : Option ℕ) (now : ℕ) (l : List (ℕ × Packet)) (t : List (ℕ × Message)) (a : List Act) (h : HubState) → HandsAt a l t h → HandsAt a l t (record h { sessions = with_left key now h.sessions })
  marks_hands key now l t a h r = (
    r.0,
    each_left (λ c there e. there ≡ true → e.received ≡ book_from none_received (of_client c l)) key now h.sessions r.1,
    r.2,
  )

  pub inner : Inner Everywhere Hands
  unfolding taken_by
  inner = record {
    put = λ k ps o w own plain r. put_hands k ps o w r;
    moves = λ key e o w alike r. ends_hands key e ((before ++ w.came) ++ o.came) o.taken (log ++ w.did) w.hub alike.2 r;
    marks = λ key now o w r. marks_hands key now ((before ++ w.came) ++ o.came) o.taken (log ++ w.did) w.hub r;
    took = λ key m t n w r. took_hands key m t ((before ++ w.came) ++ n) w.did w.hub r;
    willed = λ key m w r. idle_act (acts.Will key m) ((before ++ w.came) ++ []) [] w.did w.hub (λ c. refl) r;
    placed = λ key m ps d t n w copy r.
        let v = put_where (up_on key w.hub.connections) ps w in
        idle_act (acts.Placed key m) ((before ++ v.came) ++ n) t v.did v.hub (λ c. refl) (sent_where Hands put_hands (up_on key w.hub.connections) ps (owes ((key, m) ∷ d) t n) w r);
    missed = λ key m d t n w is r. idle_act (acts.Missed key m) ((before ++ w.came) ++ n) t w.did w.hub (λ c. refl) r;
    subscribed = λ key f q d t n w r. idle_act (acts.Subscribed key f q) ((before ++ w.came) ++ n) t w.did w.hub (λ c. refl) r;
    unsubscribed = λ key f o w r. idle_act (acts.Unsubscribed key f) ((before ++ w.came) ++ o.came) o.taken w.did w.hub (λ c. refl) r;
  }

  -- an end takes a packet
  module _ (key : ℕ) (p : Packet) (w : Work) (s : Sound w.hub) (there : has key w.hub.sessions ≡ true) (g : GoesOn key p (end_of key w.hub.sessions) (server_gets p (end_of key w.hub.sessions))) (r : Hands nothing w) where
    abbrev xs : List (ℕ × Packet)
    xs = before ++ w.came

    abbrev e : End
    e = end_of key w.hub.sessions

    abbrev a : List Act
    a = log ++ w.did

    was : HandsAt a xs [] w.hub
    was = subst (λ (l : List (ℕ × Packet)). HandsAt a l [] w.hub) (append-nil xs) r

    book : e.received ≡ book_from none_received (of_client key xs)
    book = was.1 key there

    told_own : taken key a ++ for_client key (takings key (server_gets p e).happenings) ≡ handed_from none_received (of_client key (xs ++ (key, p) ∷ []))
    told_own =
        ap (λ (l : List (ℕ × Message)). taken key a ++ for_client key l) g.handed
        ∙ ap (λ (ms : List Message). taken key a ++ ms) (for_client-key key key (handed_by p e.received) ∙ cond-true (eqb key key) (handed_by p e.received) [] (eq-eqb key key refl))
        ∙ ap₂ (λ (ms : List Message) (b : ReceiverBook). ms ++ handed_by p b) (sym (append-nil (taken key a)) ∙ was.0 key) book
        ∙ sym (handed_more none_received (of_client key xs) p)
        ∙ ap (handed_from none_received) (sym (own_packet key p xs))

    told_other : (c : ℕ) → eqb key c ≡ false → taken c a ++ for_client c (takings key (server_gets p e).happenings) ≡ handed_from none_received (of_client c (xs ++ (key, p) ∷ []))
    told_other c apart =
        ap (λ (l : List (ℕ × Message)). taken c a ++ for_client c l) g.handed
        ∙ ap (λ (ms : List Message). taken c a ++ ms) (for_client-key c key (handed_by p e.received) ∙ cond-false (eqb key c) (handed_by p e.received) [] apart)
        ∙ was.0 c
        ∙ ap (handed_from none_received) (sym (other_packet c key p xs apart))

    told_now : (c : ℕ) → taken c a ++ for_client c (takings key (server_gets p e).happenings) ≡ handed_from none_received (of_client c (xs ++ (key, p) ∷ []))
    told_now c = go (eqb key c) refl
      where
        go : (b : Bool) → eqb key c ≡ b → taken c a ++ for_client c (takings key (server_gets p e).happenings) ≡ handed_from none_received (of_client c (xs ++ (key, p) ∷ []))
        go true same = subst (λ (c : ℕ). taken c a ++ for_client c (takings key (server_gets p e).happenings) ≡ handed_from none_received (of_client c (xs ++ (key, p) ∷ []))) (eqb-true key c same) told_own
        go false apart = told_other c apart

    sets : (c : ℕ) → has c (with_end key (server_gets p e).end w.hub.sessions) ≡ true → (end_of c (with_end key (server_gets p e).end w.hub.sessions)).received ≡ book_from none_received (of_client c (xs ++ (key, p) ∷ []))
    sets = each_there (λ c there e. there ≡ true → e.received ≡ book_from none_received (of_client c (xs ++ (key, p) ∷ []))) key (server_gets p e).end w.hub.sessions there
        (λ yes. g.received ∙ ap (book_after p) book ∙ sym (book_more none_received (of_client key xs) p) ∙ ap (book_from none_received) (sym (own_packet key p xs)))
        (λ c apart yes. was.1 c yes ∙ ap (book_from none_received) (sym (other_packet c key p xs apart)))

    fresh : (c : ℕ) → w.hub.next_key ≤ c → of_client c (xs ++ (key, p) ∷ []) ≡ []
    fresh c le =
        let apart : eqb key c ≡ false = false_from_ne_true (eqb key c) (λ same. true≢false (sym there ∙ ap (λ (d : ℕ). has d w.hub.sessions) (eqb-true key c same) ∙ s.keyless c le)) in
        other_packet c key p xs apart ∙ was.2 c le

    gets_hands : Hands (owes [] (takings key (server_gets p (end_of key w.hub.sessions)).happenings) ((key, p) ∷ [])) (with_sessions (with_end key (server_gets p (end_of key w.hub.sessions)).end) w)
    gets_hands = (told_now, sets, fresh)

  noted_hands : (n : List (ℕ × Packet)) (w : Work) → Hands (owes [] [] n) w → Hands nothing (record w { came = w.came ++ n })
  noted_hands n w r = subst (λ (l : List (ℕ × Packet)). HandsAt (log ++ w.did) l [] w.hub) (append_assoc before w.came n ∙ sym (append-nil (before ++ (w.came ++ n)))) r

  remove_hands : (key : ℕ) (w : Work) → ((c : ℕ) → eqb key c ≡ false → has c w.hub.sessions ≡ true → (end_of c w.hub.sessions).received ≡ book_from none_received (of_client c ((before ++ w.came) ++ [])))
      → ((c : ℕ) → taken c (log ++ w.did) ++ [] ≡ handed_from none_received (of_client c ((before ++ w.came) ++ []))) → ((c : ℕ) → w.hub.next_key ≤ c → of_client c ((before ++ w.came) ++ []) ≡ []) → Hands nothing (remove key w)
  unfolding remove taken_by
  remove_hands key w others with_clock fresh =
      let h2 = record w.hub { sessions = without_session key w.hub.sessions } in
      idle_act (acts.Removed key) ((before ++ w.came) ++ []) [] w.did h2 (λ c. refl)
      (with_clock, without_sets (λ c. book_from none_received (of_client c ((before ++ w.came) ++ []))) key w.hub.sessions others, fresh)

  removes_hands : (key : ℕ) (w : Work) → Hands nothing w → Hands nothing (remove key w)
  removes_hands key w r = remove_hands key w (λ c apart there. r.1 c there) r.0 r.2

  drops_hands : (key : ℕ) (w : Work) → Hands nothing w → Hands nothing (said (acts.WillDropped key) w)
  unfolding taken_by
  drops_hands key w r = idle_act (acts.WillDropped key) ((before ++ w.came) ++ []) [] w.did w.hub (λ c. refl) r

  shut_hands : (k : Conn) (why : HubClose) (w : Work) → Hands nothing w → Hands nothing (said (acts.Closed k why) (shut k w))
  unfolding taken_by
  shut_hands k why w r = idle_act (acts.Closed k why) ((before ++ w.came) ++ []) [] w.did w.hub (λ c. refl) r

  -- a connected connection is closed
  closes_hands : (k : Conn) (why : HubClose) (key : ℕ) (terms : ConnectionTerms) (last_activity : ℕ) (w : Work) → Sound w.hub → stage_of k w.hub.connections ≡ ConnectedAs key terms last_activity → Hands nothing w → Hands nothing (closing k why key terms w)
  closes_hands k why key terms last_activity w s stage r = go terms.clean_session refl
    where
      v : Hands nothing (said (acts.Closed k why) (shut k w))
      v = shut_hands k why w r

      clean : (end_of key w.hub.sessions).clean ≡ terms.clean_session
      clean = (is_tied key (k, terms.clean_session) w.hub s (upper_at k key terms last_activity w.hub.connections s.apart stage)).2

      go : (b : Bool) → terms.clean_session ≡ b → Hands nothing (remove_if b key (with_sessions (with_end key (over (end_of key w.hub.sessions))) (said (acts.Closed k why) (shut k w))))
      go true is =
          remove_hands key (with_sessions (with_end key (over (end_of key w.hub.sessions))) (said (acts.Closed k why) (shut k w)))
          (λ c apart there. ap (λ (e : End). e.received) (end_with_other key (over (end_of key w.hub.sessions)) c w.hub.sessions apart) ∙ v.1 c (sym (has_with key (over (end_of key w.hub.sessions)) c w.hub.sessions) ∙ there))
          v.0 v.2
      go false is =
          ends_hands key (over (end_of key w.hub.sessions)) ((before ++ w.came) ++ []) [] (log ++ (w.did ++ acts.Closed k why ∷ [])) (shut k w).hub (cond-false (end_of key w.hub.sessions).clean none_received (end_of key w.hub.sessions).received (clean ∙ is)) v

  begins_hands : (client : List ℕ) (w : Work) → Sound w.hub → Hands nothing w → Hands nothing (new_session client w)
  unfolding new_session
  begins_hands client w s r =
      let n = w.hub.next_key in
      let session : HubSession = record { client = client; key = n; end = new_end w.hub.config; left = w.hub.clock } in
      let xs = (before ++ w.came) ++ [] in (
        r.0,
        each_new (λ c there e. there ≡ true → e.received ≡ book_from none_received (of_client c xs)) session w.hub.sessions (s.keyless n (le_refl n)) r.1
            (λ yes. ap (book_from none_received) (sym (r.2 n (le_refl n)))),
        λ c le. r.2 c (omega arith),
      )

  rises_hands : (k : Conn) (key : ℕ) (terms : ConnectionTerms) (last_activity : ℕ) (move : End → Reply) (present : Bool) (w : Work) → (move (end_of key w.hub.sessions)).end.received ≡ (end_of key w.hub.sessions).received → Hands nothing w
      → Hands nothing (rising k key terms last_activity move present w)
  unfolding does taken_by
  rises_hands k key terms last_activity move present w same r =
      let v = staged k (ConnectedAs key terms last_activity) w in
      let e = end_of key w.hub.sessions in
      let xs = (before ++ w.came) ++ [] in
      let u = with_sessions (with_end key (move e).end) v in
      let d = put_where (up_on key v.hub.connections) (move e).out u in
      let q = sent_where Hands put_hands (up_on key v.hub.connections) (move e).out nothing u (ends_hands key (move e).end xs [] (log ++ w.did) v.hub same r) in
      idle_act (acts.Up k key present) ((before ++ d.came) ++ []) [] d.did d.hub (λ c. refl) q

  pub outer : Outer Everywhere Hands Freely Anywhere
  outer = record {
    mild = λ f k o w m r. r;
    gets = λ key p w s there up g r. gets_hands key p w s there g r;
    noted = noted_hands;
    shuts = λ k why w may s free r. shut_hands k why w r;
    closes = λ k why key terms last_activity w may s e r. closes_hands k why key terms last_activity w s e r;
    drops = λ k why key terms last_activity fits w near stage m has short r. drops_hands key (closing k why key terms w) r;
    removes = λ key w s none r. removes_hands key w r;
    begins = begins_hands;
    rises = λ k key terms last_activity move present w own s known free none there up clean received plain r. rises_hands k key terms last_activity move present w received r;
  }

-- ---- events

-- the taken messages are delivered from the logged packets
abbrev Kept : List Act → List (ℕ × Packet) → HubState → Type 0
Kept log before h = HandsAt log before [] h

starts : (log : List Act) (before : List (ℕ × Packet)) (h : HubState) → Kept log before h → Hands log before nothing (begin h)
starts log before h r =
    subst₂ (λ (l : List Act) (xs : List (ℕ × Packet)). HandsAt l xs [] h) (sym (append-nil log)) (sym (append-nil before) ∙ sym (append-nil (before ++ []))) r

ends : (log : List Act) (before : List (ℕ × Packet)) (r : HubReply) (w : Work) → r.acts ≡ w.did → Hands log before nothing w → Kept (log ++ r.acts) (before ++ w.came) w.hub
ends log before r w same h =
    subst₂ (λ (l : List Act) (xs : List (ℕ × Packet)). HandsAt l xs [] w.hub) (ap (λ (l : List Act). log ++ l) (sym same)) (append-nil (before ++ w.came)) h

acts_in : (r s : HubReply) → r ≡ s → r.acts ≡ s.acts
acts_in r s e = ap (λ (r : HubReply). r.acts) e

hands_event : (log : List Act) (before : List (ℕ × Packet)) (h : HubState) (e : HubEvent) (r : HubReply) (w : Work) → event_refusal e h ≡ None → Does h e r w → Sound h → Kept log before h → Kept (log ++ r.acts) (before ++ w.came) w.hub
hands_event log before h (Opened k) r w right d s a =
    subst (λ (w : Work). r.acts ≡ w.did → Kept (log ++ r.acts) (before ++ w.came) w.hub) (sym d.0) (λ same. ends log before r (begin (on_open k h)) same (starts log before h a)) (acts_in _ _ d.1)
hands_event log before h (Bytes k piece) r w right d s a =
    let R = Hands log before in
    let start = holding_both R Freely Anywhere (inner log before) (outer log before) freely anywhere k [] (begin h) (λ r. r) (s, starts log before h a) in
    let end = comes_both R Freely Anywhere (inner log before) (outer log before) freely anywhere (λ fits w. tt) (tt, tt) h.config.limits k tt (λ b v r. r) (held_on k h.connections ++ piece) (holding k [] (begin h)) w d.0 start in
    ends log before r w (acts_in _ _ d.1) end.1
hands_event log before h (Ended k) r w right d s a =
    let end = ended_both (Hands log before) Freely Anywhere (inner log before) (outer log before) freely anywhere k (is_open (stage_of k h.connections)) d.0 (begin h) tt (s, starts log before h a) in
    subst (λ (w : Work). r.acts ≡ w.did → Kept (log ++ r.acts) (before ++ w.came) w.hub) (sym d.1) (λ same. ends log before r (on_end k d.0 h) same end.1) (acts_in _ _ d.2)
hands_event log before h (Tick now) r w right d s a =
    let end = tick_both (Hands log before) Freely Anywhere (inner log before) (outer log before) freely anywhere (λ fits w. tt) tt (with_clock now h) w d.0 (s, starts log before h a) in
    ends log before r w (acts_in _ _ d.1) end.1
hands_event log before h (Collect k) r w right d s a =
    subst (λ (w : Work). r.acts ≡ w.did → Kept (log ++ r.acts) (before ++ w.came) w.hub) (sym d.0) (λ same. ends log before r (begin (on_collect k h)) same (starts log before h a))
    (acts_in _ _ d.1 ∙ ap (λ (w : Work). w.did) (sym d.0))

hands_run : (es : List Episode) (log : List Act) (before : List (ℕ × Packet)) (h h2 : HubState) → Follows h es h2 → Sound h → Kept log before h → Kept (log ++ acts_of es) (before ++ came_in es) h2
hands_run [] log before h h2 f s a =
    subst (λ (h : HubState). Kept (log ++ []) (before ++ []) h) (sym f) (subst₂ (λ (l : List Act) (xs : List (ℕ × Packet)). Kept l xs h) (sym (append-nil log)) (sym (append-nil before)) a)
hands_run (e ∷ es) log before h h2 f s a =
    subst₂ (λ (l : List Act) (xs : List (ℕ × Packet)). Kept l xs h2) (append_assoc log e.reply.acts (acts_of es)) (append_assoc before e.work.came (came_in es))
    (hands_run es (log ++ e.reply.acts) (before ++ e.work.came) e.work.hub h2 f.2 (sound_event h e.event e.reply e.work f.0 f.1 s) (hands_event log before h e.event e.reply e.work f.0 f.1 s a))

pub laws : TakingLaws
laws = record {
  taken_is_handed = λ config es h f c.
      let a = hands_run es [] [] (new_hub config) h f (sound_new config) (λ c. refl, λ c there. absurd (true≢false (sym there)), λ c le. refl) in
      sym (append-nil (taken c (acts_of es))) ∙ a.0 c;
}
