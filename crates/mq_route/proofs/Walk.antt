-- A step keeps the properties that its changes keep.
use Rattle.std.proofs.Common.{◌≡◌, ℕ, Bool, ◌&&◌, List, [], ◌∷◌, ◌++◌, Option, Some, None, refl, sym, subst, ◌∙◌, append_assoc, append-nil}
use Rattle.std.proofs.lemmas.Bool.{cond_both, or_parts}
use Rattle.mq_packet.specs.declared.connect.Will.{Will}
use Rattle.mq_packet.specs.declared.message.Message.{Message}
use Rattle.mq_packet.specs.declared.packet.Packet.{Packet}
use Rattle.mq_packet.specs.declared.packet.Request.{Request}
use Rattle.mq_flow.specs.Next.{next_identifier}
use Rattle.mq_end.specs.declared.happening.Happening.{Happening}
use Rattle.mq_end.specs.declared.happening.Happening.TheVariants as happens
use Rattle.mq_end.specs.End.{End, Reply}
use Rattle.mq_end.specs.Server.{subacks, unsubacks}
use Rattle.mq_route.specs.declared.conn.Conn.{Conn}
use Rattle.mq_route.specs.declared.act.Act.TheVariants as acts
use Rattle.mq_route.specs.Copies.{will_message, retained_for}
use Rattle.mq_route.specs.Hub.{end_of, with_end, up_on, for_key, copies_of}
use Rattle.mq_route.specs.Work.{Work, said, with_sessions, put_where, does, publishes_next, drops_copies, lacks_room, lacks_output, is_missed, enqueue, enqueue_all, have_room, deliver, last_will, subscribed, unsubscribed, retained_copies}
use Rattle.mq_route.specs.Arrives.{answers, answers_all, granted}
use Rattle.mq_route.proofs.Ends.{Alike, AreAnswers, publishes_alike, taking, takings, NoUp, NoUps}
use Rattle.mq_route.proofs.Changes.{owes, nothing, Debt, Inner, IsShort, up_put, up_put_where, retaining, subscribing, unsubscribing}

module _ {IsOwn : Conn → Type 0} (R : Debt → Work → Type 0) (inner : Inner IsOwn R) where
  -- the connection, if there is one, is the event's own
  abbrev pub AllOwn : Option Conn → Type 0
  AllOwn to = (k : Conn) → to ≡ Some k → IsOwn k

  pub put_where_keeps : (to : Option Conn) (ps : List Packet) (o : Debt) (w : Work) → AllOwn to → AreAnswers ps → R o w → R o (put_where to ps w)
  put_where_keeps None ps o w own plain h = h
  put_where_keeps (Some k) ps o w own plain h = inner.put k ps o w (own k refl) plain h

  does_keeps : (key : ℕ) (move : End → Reply) (o : Debt) (w : Work) → Alike (move (end_of key w.hub.sessions)).end (end_of key w.hub.sessions) → AllOwn (up_on key w.hub.connections) → AreAnswers (move (end_of key w.hub.sessions)).out → R o w → R o (does key move w)
  unfolding does
  does_keeps key move o w alike own plain h =
      put_where_keeps (up_on key w.hub.connections) (move (end_of key w.hub.sessions)).out o (with_sessions (with_end key (move (end_of key w.hub.sessions)).end) w) own plain
      (inner.moves key (move (end_of key w.hub.sessions)).end o w alike h)

  place_keeps : (key : ℕ) (m : Message) (c t : List (ℕ × Message)) (n : List (ℕ × Packet)) (w : Work) → R (owes ((key, m) ∷ c) t n) w → R (owes c t n) (enqueue key m w)
  unfolding enqueue does
  place_keeps key m c t n w h =
      let e = end_of key w.hub.sessions in
      cond_both (is_missed key m w.hub) (said (acts.Missed key m) w) (said (acts.Placed key m) (does key (publishes_next m) w)) (R (owes c t n))
      (λ is. inner.missed key m c t n w is h)
      (λ goes. inner.placed key m (publishes_next m e).out c t n (with_sessions (with_end key (publishes_next m e).end) w)
      (record { end = e; is = refl; sent = (or_parts (drops_copies w.hub.config.when_full && lacks_room key m w.hub) (lacks_output key m w.hub) goes).1 })
      (inner.moves key (publishes_next m e).end (owes ((key, m) ∷ c) t n) w (publishes_alike m.qos (next_identifier e.last e.book) m e) h))

  pub place_all_keeps : (c t : List (ℕ × Message)) (n : List (ℕ × Packet)) (w : Work) → R (owes c t n) w → R (owes [] t n) (enqueue_all c w)
  place_all_keeps [] t n w h = h
  place_all_keeps (x ∷ c) t n w h = place_all_keeps c t n (enqueue x.0 x.1 w) (place_keeps x.0 x.1 c t n w h)

  took_keeps : (key : ℕ) (m : Message) (t : List (ℕ × Message)) (n : List (ℕ × Packet)) (w : Work) → R (owes [] ((key, m) ∷ t) n) w → R (owes [] t n) (deliver (acts.Took key m) m w)
  unfolding deliver
  took_keeps key m t n w h = place_all_keeps (copies_of m w.hub) t n (retaining (acts.Took key m) m w) (inner.took key m t n w h)

  willed_keeps : (key : ℕ) (m : Message) (w : Work) → R nothing w → R nothing (deliver (acts.Will key m) m w)
  unfolding deliver
  willed_keeps key m w h = place_all_keeps (copies_of m w.hub) [] [] (retaining (acts.Will key m) m w) (inner.willed key m w h)

  -- the property after a will was dropped
  abbrev pub Drops : ℕ → Option Will → Bool → Work → Type 0
  Drops key will fits w = (m : Will) → will ≡ Some m → IsShort m fits w → R nothing w → R nothing (said (acts.WillDropped key) w)

  pub last_will_keeps : (key : ℕ) (will : Option Will) (fits : Bool) (w : Work) → Drops key will fits w → R nothing w → R nothing (last_will key will fits w)
  unfolding last_will
  last_will_keeps key None fits w drops h = h
  last_will_keeps key (Some will) fits w drops h =
      cond_both (fits && have_room (copies_of (will_message will) w.hub) w.hub) (deliver (acts.Will key (will_message will)) (will_message will) w) (said (acts.WillDropped key) w) (R nothing)
      (λ e. willed_keeps key (will_message will) w h) (λ e. drops will refl e h)

  subscribed_keeps : (key : ℕ) (rs : List Request) (c t : List (ℕ × Message)) (n : List (ℕ × Packet)) (w : Work) → R (owes c t n) w → R (owes (c ++ retained_copies key rs w.hub.retained) t n) (subscribed key rs w)
  subscribed_keeps key [] c t n w h = subst (λ (l : List (ℕ × Message)). R (owes l t n) w) (sym (append-nil c)) h
  subscribed_keeps key (r ∷ rs) c t n w h =
      let first = for_key key (retained_for r.filter r.qos w.hub.retained) in
      let rest = retained_copies key rs w.hub.retained in
      subst (λ (l : List (ℕ × Message)). R (owes l t n) (subscribed key rs (subscribing key r.filter r.qos w))) (append_assoc c first rest)
      (subscribed_keeps key rs (c ++ first) t n (subscribing key r.filter r.qos w) (inner.subscribed key r.filter r.qos c t n w h))

  unsubscribed_keeps : (key : ℕ) (fs : List (List ℕ)) (o : Debt) (w : Work) → R o w → R o (unsubscribed key fs w)
  unsubscribed_keeps key [] o w h = h
  unsubscribed_keeps key (f ∷ fs) o w h = unsubscribed_keeps key fs o (unsubscribing key f w) (inner.unsubscribed key f o w h)

module _ {IsOwn : Conn → Type 0} (R : Debt → Work → Type 0) (inner : Inner IsOwn R) (key : ℕ) where
  -- the client is connected on the event's own connection, if it is
  abbrev IsHome : Work → Type 0
  IsHome w = (k : Conn) → up_on key w.hub.connections ≡ Some k → IsOwn k

  abbrev Home : Debt → Work → Type 0
  Home o w = R o w × IsHome w

  home : Inner IsOwn Home
  home = record {
    put = λ k ps o w own plain h. (inner.put k ps o w own plain h.0, λ j up. h.1 j (sym (up_put key k ps w) ∙ up));
    moves = λ c e o w alike h. (inner.moves c e o w alike h.0, h.1);
    marks = λ c now o w h. (inner.marks c now o w h.0, h.1);
    took = λ c m t n w h. (inner.took c m t n w h.0, h.1);
    willed = λ c m w h. (inner.willed c m w h.0, h.1);
    placed = λ c m ps d t n w copy h. (inner.placed c m ps d t n w copy h.0, λ j up. h.1 j (sym (up_put_where key (up_on c w.hub.connections) ps w) ∙ up));
    missed = λ c m d t n w is h. (inner.missed c m d t n w is h.0, h.1);
    subscribed = λ c f q d t n w h. (inner.subscribed c f q d t n w h.0, h.1);
    unsubscribed = λ c f o w h. (inner.unsubscribed c f o w h.0, h.1);
  }

  answers_home : (k : Conn) (told : Happening) (t : List (ℕ × Message)) (n : List (ℕ × Packet)) (w : Work) → NoUp told → Home (owes [] (taking key told ++ t) n) w → Home (owes [] t n) (answers k key told w)
  unfolding answers
  answers_home k (happens.Up present) t n w quiet h = absurd quiet
  answers_home k (happens.Handed m) t n w quiet h = took_keeps Home home key m t n w h
  answers_home k (happens.Subscribe i requests) t n w quiet h =
      let v = subscribed key requests w in
      let copies = retained_copies key requests w.hub.retained in
      let g = subscribed_keeps Home home key requests [] t n w h in
      place_all_keeps Home home copies t n (does key (subacks i (granted requests)) v)
      (does_keeps Home home key (subacks i (granted requests)) (owes copies t n) v (refl, refl, refl) g.1 refl g)
  answers_home k (happens.Unsubscribe i filters) t n w quiet h =
      let g = unsubscribed_keeps Home home key filters (owes [] t n) w h in
      does_keeps Home home key (unsubacks i) (owes [] t n) (unsubscribed key filters w) (refl, refl, refl) g.1 refl g
  answers_home k (happens.SubAck i codes) t n w quiet h = h
  answers_home k (happens.UnsubAck i) t n w quiet h = h
  answers_home k happens.Pong t n w quiet h = h

  answers_all_home : (k : Conn) (told : List Happening) (n : List (ℕ × Packet)) (w : Work) → NoUps told → Home (owes [] (takings key told) n) w → Home (owes [] [] n) (answers_all k key told w)
  answers_all_home k [] n w quiet h = h
  answers_all_home k (told ∷ later) n w quiet h =
      answers_all_home k later n (answers k key told w) quiet.1 (answers_home k told (takings key later) n w quiet.0 h)

  -- the client's packets are sent on the event's own connection
  pub answers_all_keeps : (k : Conn) (told : List Happening) (n : List (ℕ × Packet)) (move : End → Reply) (w : Work) → NoUps told → IsHome w → AreAnswers (move (end_of key w.hub.sessions)).out
      → R (owes [] (takings key told) n) (with_sessions (with_end key (move (end_of key w.hub.sessions)).end) w) → R (owes [] [] n) (answers_all k key told (does key move w))
  unfolding does
  answers_all_keeps k told n move w quiet own plain h =
      let v = with_sessions (with_end key (move (end_of key w.hub.sessions)).end) w in
      (answers_all_home k told n (put_where (up_on key w.hub.connections) (move (end_of key w.hub.sessions)).out v) quiet
      (put_where_keeps Home home (up_on key w.hub.connections) (move (end_of key w.hub.sessions)).out (owes [] (takings key told) n) v own plain (h, own))).0
