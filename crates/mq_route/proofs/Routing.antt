-- The messages placed for a client, and those that it missed, are those that the acts route to it.
use Rattle.std.proofs.Common.{◌≡◌, ℕ, Bool, true, false, cond, ◌&&◌, List, [], ◌∷◌, ◌++◌, fold, map, Option, Some, None, is_some, T, refl, sym, ap, ap₂, subst, ◌∙◌, append_assoc, append-nil, eqb, eqb-true, eq-eqb, ne_eqb, ltb, ltb-true, ◌<◌, arith}
use Rattle.std.proofs.lemmas.Bool.{eqb-false, cond-true, cond-false}
use Rattle.std.proofs.lemmas.List.{map-append}
use Rattle.std.proofs.lemmas.List.Concat.{flat_map-append}
use Rattle.std.specs.List.{flat_map}
use Rattle.std.specs.FinMap.{is_sorted}
use Rattle.std.specs.FinMap.Entries.{below_all}
use Rattle.std.specs.Ordering.{nat_cmp, eq_by_cmp, is_lt, is_eq}
use Rattle.std.specs.declared.cmp.Ordering.{Ordering}
use Rattle.std.specs.declared.cmp.Ordering.TheVariants.{Less, Equal, Greater}
use Rattle.std.proofs.lemmas.Cmp.{ranked}
use Rattle.mq_topic.specs.declared.qos.Qos.{Qos}
use Rattle.mq_topic.specs.Rows.{with_row, without_row, matched, greatest, matching_qos, qos_of}
use Rattle.mq_topic.specs.StoreLaws.{StoreLaws}
use Rattle.mq_packet.specs.declared.message.Message.{Message}
use Rattle.mq_packet.specs.declared.packet.Packet.{Packet}
use Rattle.mq_packet.specs.Encoding.{encodings}
use Rattle.mq_end.specs.End.{End, Reply, over}
use Rattle.mq_route.specs.declared.act.Act.{Act}
use Rattle.mq_route.specs.declared.act.Act.TheVariants as acts
use Rattle.mq_route.specs.declared.config.HubConfig.{HubConfig}
use Rattle.mq_route.specs.declared.config.WhenFull.TheVariants.{ClosePublisher}
use Rattle.mq_route.specs.declared.conn.Conn.{Conn}
use Rattle.mq_route.specs.declared.close.HubClose.{HubClose}
use Rattle.mq_route.specs.declared.event.HubEvent.{HubEvent}
use Rattle.mq_route.specs.declared.event.HubEvent.TheVariants.{Opened, Bytes, Ended, Tick, Collect}
use Rattle.mq_route.specs.declared.reply.HubReply.{HubReply}
use Rattle.mq_route.specs.declared.connection_state.ConnectionState.TheVariants.{ConnectedAs}
use Rattle.mq_route.specs.declared.connection_state.ConnectionTerms.{ConnectionTerms}
use Rattle.mq_route.specs.Copies.{is_hidden_name, copy_by, kept, retained_for}
use Rattle.mq_route.specs.Routed.{Seen, nothing_seen, unless_on, seen_after, copies_for, routes, routed_from, routed, marked_by, marked, settled, missed}
use Rattle.mq_route.specs.Hub.{HubState, HubConnection, new_hub, knows, stage_of, changed, with_connection, without_connection, is_open, held_on, up_on, end_of, with_end, for_key, copies_of}
use Rattle.mq_route.specs.Work.{Work, begin, said, with_sessions, staged, shut, put_on, put_where, does, drops_copies, remove, remove_if}
use Rattle.mq_route.specs.Arrives.{new_session}
use Rattle.mq_route.specs.Step.{Does, event_refusal, on_open, on_end, close_if_open, on_collect, with_clock, holding}
use Rattle.mq_route.specs.Runs.{Episode, Follows, acts_of}
use Rattle.mq_route.specs.Begun.{view_of}
use Rattle.mq_route.specs.Laws.{RoutingLaws, for_client}
use Rattle.mq_route.proofs.Lines.{grown, upper, conn_in, up_is, up_map, names_changed, ups_changed}
use Rattle.mq_route.proofs.Uppers.{IsIdle, unless_is, upper_risen, upper_opened, upper_without}
use Rattle.mq_route.proofs.Changes.{Anywhere, anywhere, Freely, freely, Debt, owes, nothing, Everywhere, Inner, sent_where, Outer, Sound, closing, rising, names_grown, ups_grown, upper_shut}
use Rattle.mq_route.proofs.Steps.{comes_both, holding_both, tick_both, ended_both}
use Rattle.mq_route.proofs.Events.{sound_new, ended_idle, emptied, emptied_names, emptied_ups}
use Rattle.mq_route.proofs.Missing.{settled_is, none_run}
use Rattle.mq_route.proofs.Output.{sound_event}

-- ---- copies of one client

pub for_client-append : (c : ℕ) (xs ys : List (ℕ × Message)) → for_client c (xs ++ ys) ≡ for_client c xs ++ for_client c ys
for_client-append c [] ys = refl
for_client-append c (x ∷ xs) ys = go (eqb x.0 c) (for_client-append c xs ys)
  where
    go : (b : Bool) → for_client c (xs ++ ys) ≡ for_client c xs ++ for_client c ys → cond b (x.1 ∷ for_client c (xs ++ ys)) (for_client c (xs ++ ys)) ≡ cond b (x.1 ∷ for_client c xs) (for_client c xs) ++ for_client c ys
    go true ih = ap (λ (l : List Message). x.1 ∷ l) ih
    go false ih = ih

pub for_client-key : (c key : ℕ) (ms : List Message) → for_client c (for_key key ms) ≡ cond (eqb key c) ms []
for_client-key c key [] = go (eqb key c)
  where
    go : (b : Bool) → for_client c [] ≡ cond b [] []
    go true = refl
    go false = refl
for_client-key c key (m ∷ ms) = go (eqb key c) (for_client-key c key ms)
  where
    go : (b : Bool) → for_client c (for_key key ms) ≡ cond b ms [] → cond b (m ∷ for_client c (for_key key ms)) (for_client c (for_key key ms)) ≡ cond b (m ∷ ms) []
    go true ih = ap (λ (l : List Message). m ∷ l) ih
    go false ih = ih

-- ---- lists in order

first : (a b : Bool) → T (a && b) → T a
first true b p = tt
first false b p = p

second : (a b : Bool) → T (a && b) → T b
second true b p = p
second false b p = absurd p

T-true : (b : Bool) → b ≡ true → T b
T-true true e = tt
T-true false e = absurd cc

less : (o : Ordering) → T (is_lt o) → o ≡ Less
less Less p = refl
less Equal p = absurd p
less Greater p = absurd p

apart_below : (c d : ℕ) → T (is_lt (nat_cmp c d)) → eqb d c ≡ false
apart_below c d h = let lt : c < d = ranked c d Less (sym (less (nat_cmp c d) h)) in ne_eqb d c (λ same. omega arith)

nat_ties-by : (a b : ℕ) (lower same : Bool) → ltb a b ≡ lower → eqb a b ≡ same → same ≡ is_eq (cond lower Less (cond same Equal Greater))
nat_ties-by a b true true p q = absurd (omega (arith, ltb-true a b p, eqb-true a b q))
nat_ties-by a b true false p q = refl
nat_ties-by a b false true p q = refl
nat_ties-by a b false false p q = refl

pub nat_ties : (a b : ℕ) → eqb a b ≡ is_eq (nat_cmp a b)
nat_ties a b = nat_ties-by a b (ltb a b) (eqb a b) refl refl

tied : (c d : ℕ) → eqb d c ≡ true → eq_by_cmp nat_cmp c d ≡ true
tied c d e = sym (nat_ties c d) ∙ eq-eqb c d (sym (eqb-true d c e))

untied : (c d : ℕ) → eqb d c ≡ false → eq_by_cmp nat_cmp c d ≡ false
untied c d e = sym (nat_ties c d) ∙ ne_eqb c d (λ same. eqb-false d c e (sym same))

-- ---- the copies that a message makes due

-- the copies for the clients of a list
module _ (connections : List HubConnection) (m : Message) where
  abbrev copies_for_entry : ℕ × Qos → List (ℕ × Message)
  copies_for_entry found = for_key found.0 (copy_by (is_some (up_on found.0 connections)) m (Some found.1))

  -- a client whose key is below all of a list is not in the list
  none_below : (c : ℕ) (es : List (ℕ × Qos)) → T (below_all nat_cmp c es) → for_client c (flat_map copies_for_entry es) ≡ []
  none_below c [] h = refl
  none_below c (e ∷ es) h =
      let less = first _ _ h in
      for_client-append c (copies_for_entry e) (flat_map copies_for_entry es)
      ∙ ap₂ (λ (a b : List Message). a ++ b)
      (for_client-key c e.0 (copy_by (is_some (up_on e.0 connections)) m (Some e.1)) ∙ cond-false (eqb e.0 c) (copy_by (is_some (up_on e.0 connections)) m (Some e.1)) [] (apart_below c e.0 less))
      (none_below c es (second _ _ h))

  one_copy : (c : ℕ) (es : List (ℕ × Qos)) → T (is_sorted nat_cmp es) → for_client c (flat_map copies_for_entry es) ≡ copy_by (is_some (up_on c connections)) m (qos_of c es)
  one_copy c [] s = refl
  one_copy c (e ∷ es) s =
      for_client-append c (copies_for_entry e) (flat_map copies_for_entry es)
      ∙ ap (λ (l : List Message). l ++ for_client c (flat_map copies_for_entry es)) (for_client-key c e.0 (copy_by (is_some (up_on e.0 connections)) m (Some e.1)))
      ∙ go (eqb e.0 c) refl (one_copy c es)
    where
      go : (b : Bool) → eqb e.0 c ≡ b → (T (is_sorted nat_cmp es) → for_client c (flat_map copies_for_entry es) ≡ copy_by (is_some (up_on c connections)) m (qos_of c es))
          → cond b (copy_by (is_some (up_on e.0 connections)) m (Some e.1)) [] ++ for_client c (flat_map copies_for_entry es) ≡ copy_by (is_some (up_on c connections)) m (cond (eq_by_cmp nat_cmp c e.0) (Some e.1) (qos_of c es))
      go true k ih =
          let same : e.0 ≡ c = eqb-true e.0 c k in
          ap (λ (l : List Message). copy_by (is_some (up_on e.0 connections)) m (Some e.1) ++ l) (none_below c es (subst (λ (d : ℕ). T (below_all nat_cmp d es)) same (first _ _ s)))
          ∙ append-nil (copy_by (is_some (up_on e.0 connections)) m (Some e.1))
          ∙ ap (λ (d : ℕ). copy_by (is_some (up_on d connections)) m (Some e.1)) same
          ∙ ap (copy_by (is_some (up_on c connections)) m) (sym (cond-true (eq_by_cmp nat_cmp c e.0) (Some e.1) (qos_of c es) (tied c e.0 k)))
      go false k ih =
          ih (second _ _ s)
          ∙ ap (copy_by (is_some (up_on c connections)) m) (sym (cond-false (eq_by_cmp nat_cmp c e.0) (Some e.1) (qos_of c es) (untied c e.0 k)))

module _ (store : StoreLaws) where
  -- the copies for a client are those that would be routed to it
  pub due_is : (h : HubState) (c : ℕ) (m : Message) → for_client c (copies_of m h) ≡ copies_for c (view_of c h) m
  unfolding copies_of copies_for
  due_is h c m = go (is_hidden_name m.topic)
    where
      all : for_client c (flat_map (copies_for_entry h.connections m) (matched m.topic h.rows)) ≡ copy_by (is_some (up_on c h.connections)) m (greatest (matching_qos c m.topic h.rows))
      all = one_copy h.connections m c (matched m.topic h.rows) (T-true (is_sorted nat_cmp (matched m.topic h.rows)) (store.matched_is m.topic h.rows).ascending) ∙ ap (copy_by (is_some (up_on c h.connections)) m) (store.greatest_qos m.topic h.rows c)

      go : (b : Bool) → for_client c (cond b [] (flat_map (copies_for_entry h.connections m) (matched m.topic h.rows))) ≡ cond b [] (copy_by (is_some (up_on c h.connections)) m (greatest (matching_qos c m.topic h.rows)))
      go true = refl
      go false = all

-- ---- one more act

-- acts that begin with a view for each client
module _ (store : StoreLaws) (first : ℕ → Seen) where
  -- the acts describe the broker, and they route the messages that were placed or missed, and the
  -- due ones
  abbrev pub Agrees : List Act → HubState → List (ℕ × Message) → Type 0
  Agrees log h due = ((c : ℕ) → fold (seen_after c) (first c) log ≡ view_of c h) × ((c : ℕ) → routed_from c (first c) log ≡ settled c log ++ for_client c due)

  seen_more : (c : ℕ) (s : Seen) (log : List Act) (act : Act) → fold (seen_after c) s (log ++ act ∷ []) ≡ seen_after c (fold (seen_after c) s log) act
  seen_more c s [] act = refl
  seen_more c s (a ∷ log) act = seen_more c (seen_after c s a) log act

  routed_more : (c : ℕ) (s : Seen) (log : List Act) (act : Act) → routed_from c s (log ++ act ∷ []) ≡ routed_from c s log ++ routes c (fold (seen_after c) s log) act
  routed_more c s [] act = append-nil (routes c s act)
  routed_more c s (a ∷ log) act =
      ap (λ (l : List Message). routes c s a ++ l) (routed_more c (seen_after c s a) log act)
      ∙ sym (append_assoc (routes c s a) (routed_from c (seen_after c s a) log) (routes c (fold (seen_after c) (seen_after c s a) log) act))

  abbrev settled_by : ℕ → Act → List Message
  settled_by c act = map (λ (x : Bool × Message). x.1) (marked_by c act)

  settled_more : (c : ℕ) (log : List Act) (act : Act) → settled c (log ++ act ∷ []) ≡ settled c log ++ settled_by c act
  settled_more c log act =
      ap (map (λ (x : Bool × Message). x.1)) (flat_map-append (marked_by c) log (act ∷ []) ∙ ap (λ (l : List (Bool × Message)). marked c log ++ l) (append-nil (marked_by c act)))
      ∙ map-append (λ (x : Bool × Message). x.1) (marked c log) (marked_by c act)

  say : (log : List Act) (act : Act) (h h2 : HubState) (due due2 : List (ℕ × Message)) → Agrees log h due → ((c : ℕ) → seen_after c (view_of c h) act ≡ view_of c h2)
      → ((c : ℕ) → for_client c due ++ routes c (view_of c h) act ≡ settled_by c act ++ for_client c due2) → Agrees (log ++ act ∷ []) h2 due2
  say log act h h2 due due2 a sees pays = (
    λ c. seen_more c (first c) log act ∙ ap (λ (s : Seen). seen_after c s act) (a.0 c) ∙ sees c,
    λ c.
        routed_more c (first c) log act
        ∙ ap₂ (λ (r : List Message) (s : Seen). r ++ routes c s act) (a.1 c) (a.0 c)
        ∙ append_assoc (settled c log) (for_client c due) (routes c (view_of c h) act)
        ∙ ap (λ (l : List Message). settled c log ++ l) (pays c)
        ∙ sym (append_assoc (settled c log) (settled_by c act) (for_client c due2))
        ∙ ap (λ (l : List Message). l ++ for_client c due2) (sym (settled_more c log act)),
  )

  module _ (log : List Act) where
    abbrev pub Tells : Debt → Work → Type 0
    Tells o w = Agrees (log ++ w.did) w.hub o.copies

    -- one more act in a step
    says : (act : Act) (w : Work) (h2 : HubState) (due due2 : List (ℕ × Message)) → Agrees (log ++ w.did) w.hub due → ((c : ℕ) → seen_after c (view_of c w.hub) act ≡ view_of c h2)
        → ((c : ℕ) → for_client c due ++ routes c (view_of c w.hub) act ≡ settled_by c act ++ for_client c due2) → Agrees (log ++ (w.did ++ act ∷ [])) h2 due2
    says act w h2 due due2 a sees pays =
        subst (λ (l : List Act). Agrees l h2 due2) (append_assoc log w.did (act ∷ [])) (say (log ++ w.did) act w.hub h2 due due2 a sees pays)

    -- another broker with the same view
    looks : (l : List Act) (h h2 : HubState) (due : List (ℕ × Message)) → ((c : ℕ) → view_of c h ≡ view_of c h2) → Agrees l h due → Agrees l h2 due
    looks l h h2 due same a = (λ c. a.0 c ∙ same c, a.1)

    -- connections that keep each client's connection keep the view
    lines_as : (h : HubState) (xs : List HubConnection) → ((c : ℕ) → up_on c xs ≡ up_on c h.connections) → (c : ℕ) → view_of c h ≡ view_of c (record h { connections = xs })
    lines_as h xs same c = ap (λ (o : Option Conn). record { rows = h.rows; up = o; retained = h.retained }) (sym (same c))

    put_tells : (k : Conn) (ps : List Packet) (o : Debt) (w : Work) → Tells o w → Tells o (put_on k ps w)
    unfolding put_on
    put_tells k ps o w a =
        let b = encodings ps in
        looks (log ++ w.did) w.hub (record w.hub { connections = with_connection (grown b) k w.hub.connections }) o.copies
        (lines_as w.hub (with_connection (grown b) k w.hub.connections) (λ c. up_map (changed (grown b) k) (names_changed (grown b) k (names_grown b)) (ups_changed (grown b) k (ups_grown b)) c w.hub.connections)) a

    took_tells : (key : ℕ) (m : Message) (w : Work) → Agrees (log ++ w.did) w.hub [] → Agrees (log ++ (w.did ++ acts.Took key m ∷ [])) (record w.hub { retained = kept m w.hub.retained }) (copies_of m w.hub)
    unfolding seen_after routes marked_by
    took_tells key m w a = says (acts.Took key m) w (record w.hub { retained = kept m w.hub.retained }) [] (copies_of m w.hub) a (λ c. refl) (λ c. sym (due_is store w.hub c m))

    willed_tells : (key : ℕ) (m : Message) (w : Work) → Agrees (log ++ w.did) w.hub [] → Agrees (log ++ (w.did ++ acts.Will key m ∷ [])) (record w.hub { retained = kept m w.hub.retained }) (copies_of m w.hub)
    unfolding seen_after routes marked_by
    willed_tells key m w a = says (acts.Will key m) w (record w.hub { retained = kept m w.hub.retained }) [] (copies_of m w.hub) a (λ c. refl) (λ c. sym (due_is store w.hub c m))

    paid : (mark : Bool) (c key : ℕ) (m : Message) (due : List (ℕ × Message)) → for_client c ((key, m) ∷ due) ≡ map (λ (x : Bool × Message). x.1) (cond (eqb key c) ((mark, m) ∷ []) []) ++ for_client c due
    paid mark c key m due = go (eqb key c)
      where
        go : (b : Bool) → cond b (m ∷ for_client c due) (for_client c due) ≡ map (λ (x : Bool × Message). x.1) (cond b ((mark, m) ∷ []) []) ++ for_client c due
        go true = refl
        go false = refl

    placed_tells : (key : ℕ) (m : Message) (due : List (ℕ × Message)) (w : Work) → Agrees (log ++ w.did) w.hub ((key, m) ∷ due) → Agrees (log ++ (w.did ++ acts.Placed key m ∷ [])) w.hub due
    unfolding seen_after routes marked_by
    placed_tells key m due w a = says (acts.Placed key m) w w.hub ((key, m) ∷ due) due a (λ c. refl) (λ c. append-nil (for_client c ((key, m) ∷ due)) ∙ paid false c key m due)

    missed_tells : (key : ℕ) (m : Message) (due : List (ℕ × Message)) (w : Work) → Agrees (log ++ w.did) w.hub ((key, m) ∷ due) → Agrees (log ++ (w.did ++ acts.Missed key m ∷ [])) w.hub due
    unfolding seen_after routes marked_by
    missed_tells key m due w a = says (acts.Missed key m) w w.hub ((key, m) ∷ due) due a (λ c. refl) (λ c. append-nil (for_client c ((key, m) ∷ due)) ∙ paid true c key m due)

    dropped_tells : (key : ℕ) (w : Work) → Agrees (log ++ w.did) w.hub [] → Agrees (log ++ (w.did ++ acts.WillDropped key ∷ [])) w.hub []
    unfolding seen_after routes marked_by
    dropped_tells key w a = says (acts.WillDropped key) w w.hub [] [] a (λ c. refl) (λ c. refl)

    subscribed_tells : (key : ℕ) (f : List ℕ) (q : Qos) (due : List (ℕ × Message)) (w : Work) → Agrees (log ++ w.did) w.hub due
        → Agrees (log ++ (w.did ++ acts.Subscribed key f q ∷ [])) (record w.hub { rows = with_row key f q w.hub.rows }) (due ++ for_key key (retained_for f q w.hub.retained))
    unfolding seen_after routes marked_by
    subscribed_tells key f q due w a =
        let ms = retained_for f q w.hub.retained in
        says (acts.Subscribed key f q) w (record w.hub { rows = with_row key f q w.hub.rows }) due (due ++ for_key key ms) a (λ c. refl)
        (λ c. sym (for_client-append c due (for_key key ms) ∙ ap (λ (l : List Message). for_client c due ++ l) (for_client-key c key ms)))

    unsubscribed_tells : (key : ℕ) (f : List ℕ) (due : List (ℕ × Message)) (w : Work) → Agrees (log ++ w.did) w.hub due → Agrees (log ++ (w.did ++ acts.Unsubscribed key f ∷ [])) (record w.hub { rows = without_row key f w.hub.rows }) due
    unfolding seen_after routes marked_by
    unsubscribed_tells key f due w a = says (acts.Unsubscribed key f) w (record w.hub { rows = without_row key f w.hub.rows }) due due a (λ c. refl) (λ c. append-nil (for_client c due))

    pub inner : Inner Everywhere Tells
    inner = record {
      put = λ k ps o w own plain a. put_tells k ps o w a;
      moves = λ key e o w alike a. a;
      marks = λ key now o w a. a;
      took = λ key m t n w a. took_tells key m w a;
      willed = λ key m w a. willed_tells key m w a;
      placed = λ key m ps due t n w copy a.
          let to = up_on key w.hub.connections in
          placed_tells key m due (put_where to ps w) (sent_where Tells put_tells to ps (owes ((key, m) ∷ due) t n) w a);
      missed = λ key m due t n w is a. missed_tells key m due w a;
      subscribed = λ key f q due t n w a. subscribed_tells key f q due w a;
      unsubscribed = λ key f o w a. unsubscribed_tells key f o.copies w a;
    }

    up_shut : (k : Conn) (c : ℕ) (w : Work) → Sound w.hub → unless_on k (up_on c w.hub.connections) ≡ up_on c (shut k w).hub.connections
    up_shut k c w s =
        ap (unless_on k) (up_is c w.hub.connections) ∙ sym (unless_is k (upper c w.hub.connections)) ∙ ap conn_in (sym (upper_shut k c w s.apart)) ∙ sym (up_is c (shut k w).hub.connections)

    shut_tells : (k : Conn) (why : HubClose) (w : Work) → Sound w.hub → Agrees (log ++ w.did) w.hub [] → Agrees (log ++ (w.did ++ acts.Closed k why ∷ [])) (shut k w).hub []
    unfolding seen_after routes marked_by
    shut_tells k why w s a =
        says (acts.Closed k why) w (shut k w).hub [] [] a
        (λ c. ap (λ (o : Option Conn). record { rows = w.hub.rows; up = o; retained = w.hub.retained }) (up_shut k c w s)) (λ c. refl)

    removes_tells : (key : ℕ) (w : Work) → Tells nothing w → Tells nothing (remove key w)
    unfolding remove seen_after routes marked_by
    removes_tells key w a = says (acts.Removed key) w (remove key w).hub [] [] a (λ c. refl) (λ c. refl)

    remove_if_tells : (b : Bool) (key : ℕ) (w : Work) → Tells nothing w → Tells nothing (remove_if b key w)
    remove_if_tells true key w a = removes_tells key w a
    remove_if_tells false key w a = a

    begins_tells : (client : List ℕ) (w : Work) → Tells nothing w → Tells nothing (new_session client w)
    unfolding new_session
    begins_tells client w a = a

    -- sent packets change neither the acts nor the view
    put_where_same : (to : Option Conn) (ps : List Packet) (w : Work) → ((put_where to ps w).did ≡ w.did) × ((c : ℕ) → view_of c (put_where to ps w).hub ≡ view_of c w.hub)
    unfolding put_on
    put_where_same None ps w = (refl, λ c. refl)
    put_where_same (Some k) ps w =
        let b = encodings ps in
        (refl, λ c. sym (lines_as w.hub (with_connection (grown b) k w.hub.connections) (λ c. up_map (changed (grown b) k) (names_changed (grown b) k (names_grown b)) (ups_changed (grown b) k (ups_grown b)) c w.hub.connections) c))

    rises_tells : (k : Conn) (key : ℕ) (terms : ConnectionTerms) (last_activity : ℕ) (move : End → Reply) (present : Bool) (w : Work) → Sound w.hub → knows k w.hub.connections ≡ true → IsIdle (stage_of k w.hub.connections) → upper key w.hub.connections ≡ None
        → Tells nothing w → Tells nothing (rising k key terms last_activity move present w)
    unfolding does seen_after routes marked_by
    rises_tells k key terms last_activity move present w s known free none a =
        let v = staged k (ConnectedAs key terms last_activity) w in
        let e = end_of key w.hub.sessions in
        let u = with_sessions (with_end key (move e).end) v in
        let to = up_on key v.hub.connections in
        let same = put_where_same to (move e).out u in
        let d = put_where to (move e).out u in
        subst (λ (l : List Act). Agrees (log ++ (l ++ acts.Up k key present ∷ [])) d.hub []) (sym same.0)
        (says (acts.Up k key present) w d.hub [] [] a (λ c. risen_seen c ∙ sym (same.1 c)) (λ c. refl))
      where
        risen_lines : List HubConnection
        risen_lines = (staged k (ConnectedAs key terms last_activity) w).hub.connections

        seen_as : (c : ℕ) (b : Bool) → cond b (record (view_of c w.hub) { up = Some k }) (view_of c w.hub) ≡ record { rows = w.hub.rows; up = conn_in (cond b (Some (k, terms.clean_session)) (upper c w.hub.connections)); retained = w.hub.retained }
        seen_as c true = refl
        seen_as c false = ap (λ (o : Option Conn). record { rows = w.hub.rows; up = o; retained = w.hub.retained }) (up_is c w.hub.connections)

        risen_seen : (c : ℕ) → cond (eqb key c) (record (view_of c w.hub) { up = Some k }) (view_of c w.hub) ≡ view_of c (staged k (ConnectedAs key terms last_activity) w).hub
        risen_seen c =
            seen_as c (eqb key c)
            ∙ ap (λ (o : Option (Conn × Bool)). record { rows = w.hub.rows; up = conn_in o; retained = w.hub.retained }) (sym (upper_risen k key terms last_activity w.hub.connections s.apart known free none c))
            ∙ ap (λ (o : Option Conn). record { rows = w.hub.rows; up = o; retained = w.hub.retained }) (sym (up_is c (staged k (ConnectedAs key terms last_activity) w).hub.connections))

    pub holds_tells : (k : Conn) (b : List ℕ) (w : Work) → Tells nothing w → Tells nothing (holding k b w)
    holds_tells k b w a =
        let f : HubConnection → HubConnection = λ x. record x { held = b } in
        looks (log ++ w.did) w.hub (record w.hub { connections = with_connection f k w.hub.connections }) []
        (lines_as w.hub (with_connection f k w.hub.connections) (λ c. up_map (changed f k) (names_changed f k (λ x. refl)) (ups_changed f k (λ x. (λ c. refl, refl))) c w.hub.connections)) a

    pub outer : Outer Everywhere Tells Freely Anywhere
    outer = record {
      mild = λ f k o w m a. looks (log ++ w.did) w.hub (record w.hub { connections = with_connection f k w.hub.connections }) o.copies
          (lines_as w.hub (with_connection f k w.hub.connections) (λ c. up_map (changed f k) (names_changed f k (λ x. (m x).0)) (ups_changed f k (λ x. ((m x).2, (m x).3))) c w.hub.connections)) a;
      gets = λ key p w s there up g a. a;
      noted = λ n w a. a;
      shuts = λ k why w may s free a. shut_tells k why w s a;
      closes = λ k why key terms last_activity w may s e a. remove_if_tells terms.clean_session key (with_sessions (with_end key (over (end_of key w.hub.sessions))) (said (acts.Closed k why) (shut k w))) (shut_tells k why w s a);
      drops = λ k why key terms last_activity fits w near stage m has short a. dropped_tells key (closing k why key terms w) a;
      removes = λ key w s none a. removes_tells key w a;
      begins = λ client w s a. begins_tells client w a;
      rises = λ k key terms last_activity move present w own s known fresh none there up clean received plain a. rises_tells k key terms last_activity move present w s known (subst IsIdle (sym fresh) (λ c. refl)) none a;
    }

  -- ---- events

  pub starts : (log : List Act) (h : HubState) → Agrees log h [] → Agrees (log ++ []) h []
  starts log h a = subst (λ (l : List Act). Agrees l h []) (sym (append-nil log)) a

  acted : (log : List Act) (h : HubState) (r : HubReply) (w : Work) → r.acts ≡ w.did → Agrees (log ++ w.did) w.hub [] → Agrees (log ++ r.acts) w.hub []
  acted log h r w same a = subst (λ (l : List Act). Agrees (log ++ l) w.hub []) (sym same) a

  acts_in : (r s : HubReply) → r ≡ s → r.acts ≡ s.acts
  acts_in r s e = ap (λ (r : HubReply). r.acts) e

  tells_event : (log : List Act) (h : HubState) (e : HubEvent) (r : HubReply) (w : Work) → event_refusal e h ≡ None → Does h e r w → Sound h → Agrees log h [] → Agrees (log ++ r.acts) w.hub []
  tells_event log h (Opened k) r w right d s a =
      let v = begin (on_open k h) in
      let same : (c : ℕ) → up_on c (on_open k h).connections ≡ up_on c h.connections = λ c. up_is c (on_open k h).connections ∙ ap conn_in (upper_opened k h.clock c h.connections) ∙ sym (up_is c h.connections) in
      acted log h r w (acts_in _ _ d.1)
      (subst (λ (w : Work). Agrees (log ++ w.did) w.hub []) (sym d.0) (looks [] (log ++ []) h (on_open k h) [] (lines_as [] h (on_open k h).connections same) (starts log h a)))
  tells_event log h (Bytes k piece) r w right d s a =
      let start = holding_both (Tells log) Freely Anywhere (inner log) (outer log) freely anywhere k [] (begin h) (λ t. holds_tells log k [] (begin h) t) (s, starts log h a) in
      let end = comes_both (Tells log) Freely Anywhere (inner log) (outer log) freely anywhere (λ fits w. tt) (tt, tt) h.config.limits k tt (holds_tells log k) (held_on k h.connections ++ piece) (holding k [] (begin h)) w d.0 start in
      acted log h r w (acts_in _ _ d.1) end.1
  tells_event log h (Ended k) r w right d s a =
      let v = close_if_open k (is_open (stage_of k h.connections)) d.0 (begin h) in
      let end = ended_both (Tells log) Freely Anywhere (inner log) (outer log) freely anywhere k (is_open (stage_of k h.connections)) d.0 (begin h) tt (s, starts log h a) in
      let same : (c : ℕ) → up_on c (without_connection k v.hub.connections) ≡ up_on c v.hub.connections =
      (λ c. up_is c (without_connection k v.hub.connections) ∙ ap conn_in (upper_without k v.hub.connections end.0.apart (ended_idle k d.0 (begin h)) c) ∙ sym (up_is c v.hub.connections)) in
      acted log h r w (acts_in _ _ d.2)
      (subst (λ (w : Work). Agrees (log ++ w.did) w.hub []) (sym d.1) (looks [] (log ++ v.did) v.hub (on_end k d.0 h).hub [] (lines_as [] v.hub (without_connection k v.hub.connections) same) end.1))
  tells_event log h (Tick now) r w right d s a =
      let end = tick_both (Tells log) Freely Anywhere (inner log) (outer log) freely anywhere (λ fits w. tt) tt (with_clock now h) w d.0 (s, starts log h a) in
      acted log h r w (acts_in _ _ d.1) end.1
  tells_event log h (Collect k) r w right d s a =
      let same : (c : ℕ) → up_on c (on_collect k h).connections ≡ up_on c h.connections = λ c. up_map (changed emptied k) (names_changed emptied k emptied_names) (ups_changed emptied k emptied_ups) c h.connections in
      subst (λ (l : List Act). Agrees (log ++ l) w.hub []) (sym (acts_in _ _ d.1))
      (subst (λ (w : Work). Agrees (log ++ []) w.hub []) (sym d.0) (looks [] (log ++ []) h (on_collect k h) [] (lines_as [] h (on_collect k h).connections same) (starts log h a)))

  pub tells_run : (es : List Episode) (log : List Act) (h h2 : HubState) → Follows h es h2 → Sound h → Agrees log h [] → Agrees (log ++ acts_of es) h2 []
  tells_run [] log h h2 f s a = subst (λ (h : HubState). Agrees (log ++ []) h []) (sym f) (starts log h a)
  tells_run (e ∷ es) log h h2 f s a =
      subst (λ (l : List Act). Agrees l h2 []) (append_assoc log e.reply.acts (acts_of es))
      (tells_run es (log ++ e.reply.acts) e.work.hub h2 f.2 (sound_event h e.event e.reply e.work f.0 f.1 s) (tells_event log h e.event e.reply e.work f.0 f.1 s a))

-- the acts of a run that begins with a new broker, or with another one
module _ (store : StoreLaws) where
  abbrev pub unseen : ℕ → Seen
  unseen c = nothing_seen

  told_new : (config : HubConfig) (es : List Episode) (h : HubState) → Follows (new_hub config) es h → Agrees store unseen (acts_of es) h []
  told_new config es h f = tells_run store unseen es [] (new_hub config) h f (sound_new config) (λ c. refl, λ c. refl)

  pub settles_since : (begun : HubState) (es : List Episode) (h : HubState) → Follows begun es h → Sound begun → (c : ℕ) → settled c (acts_of es) ≡ routed_from c (view_of c begun) (acts_of es)
  settles_since begun es h f s c =
      let a = tells_run store (λ c. view_of c begun) es [] begun h f s (λ c. refl, λ c. refl) in sym (a.1 c ∙ append-nil (settled c (acts_of es)))

  pub up_since : (begun : HubState) (es : List Episode) (h : HubState) → Follows begun es h → Sound begun → (c : ℕ) → (fold (seen_after c) (view_of c begun) (acts_of es)).up ≡ up_on c h.connections
  up_since begun es h f s c = ap (λ (s : Seen). s.up) ((tells_run store (λ c. view_of c begun) es [] begun h f s (λ c. refl, λ c. refl)).0 c)

  pub laws : RoutingLaws
  laws = record {
    settled_is_routed = settles;
    nothing_missed = misses;
    placed_is_routed = λ config closes unlimited es h f c. sym (settled_is c (acts_of es) (misses config closes unlimited es h f c)) ∙ settles config es h f c;
    due_is_routed = λ config es h f c m. due_is store h c m ∙ ap (λ (s : Seen). copies_for c s m) (sym ((told_new config es h f).0 c));
  }
    where
      settles : (config : HubConfig) (es : List Episode) (h : HubState) → Follows (new_hub config) es h → (c : ℕ) → settled c (acts_of es) ≡ routed c (acts_of es)
      settles config es h f c = sym ((told_new config es h f).1 c ∙ append-nil (settled c (acts_of es)))

      misses : (config : HubConfig) → config.when_full ≡ ClosePublisher → config.most_waiting ≡ None → (es : List Episode) (h : HubState) → Follows (new_hub config) es h → (c : ℕ) → missed c (acts_of es) ≡ []
      misses config closes unlimited es h f c = none_run config (ap drops_copies closes) unlimited es (new_hub config) h f (sound_new config) refl c
