-- Turns of a connection follow one another, from its opening to its end.
use Rattle.std.proofs.Common.{length-append, ◌≡◌, ℕ, ◌+◌, ◌-◌, ◌^◌, ◌≤◌, ◌⊎◌, ◌==◌, inl, inr, Bool, true, false, List, [], ◌∷◌, ◌++◌, map, Option, None, Some, Result, Ok, Err, IfOk, OnOk, OnErr, if◌then◌else◌, length, refl, sym, ap, subst, ◌∙◌, arith, append_assoc, append-nil}
use Rattle.std.proofs.KnownBytes.{Appends-kept, Appends-nil, Appends-trans, Consumes-kept, Consumes-nil, Consumes-trans, Keeps-refl, Keeps-trans}
use Rattle.std.proofs.lemmas.Grind.{flat_map-append}
use Rattle.std.proofs.lemmas.List.{length-map, map-append}
use Rattle.std.specs.List.{flat_map}
use Rattle.std.specs.Io.KnownBytes.{Appends, Consumes, Keeps}
use Rattle.mq_packet.specs.Writing.{AppendsFront}
use Rattle.mq_route.specs.declared.conn.Conn.{Conn}
use Rattle.mq_route.specs.declared.event.HubEvent.{HubEvent}
use Rattle.mq_route.specs.declared.event.HubEvent.TheVariants.{Opened, Bytes, Ended, Tick, Collect}
use Rattle.mq_route.specs.declared.reply.HubReply.{HubReply}
use Rattle.mq_book.specs.Connection.{Breaks, Chain, Closes, Collects, Ends, Finishes, IsClosedBy, IsCut, Made, Makes, Outside, Stops, Turn, bytes_events, handed, is_known, tick_events, turn_events, turns_events}
use Rattle.mq_book.specs.Inside.Connection.{Turned, Turns}
use Rattle.mq_book.proofs.Chains.{Ran, chain_then}

abbrev one : HubEvent → HubReply → Made
one e r = record { event = e; reply = r }

abbrev event_of : Made → HubEvent
event_of m = m.event

abbrev time_of : Turn → ℕ
time_of t = t.time

abbrev piece_of : Turn → List ℕ
piece_of t = t.piece

pub on_err : {T E : Type 0} (r : Result T E) (P : Type 0) → P → OnErr r P
on_err (Ok x) P p = tt
on_err (Err e) P p = p

clash : false ≡ true → ⊥
clash e = cc

kept_appends : (a b c : Option (List ℕ)) (bs : List ℕ) → Keeps a b → Appends b c bs → Appends a c bs
kept_appends a b c bs kept goes = Appends-trans a b c [] bs (Appends-kept a a b [] (Appends-nil a) kept) goes

-- ---- lists of turns

-- the time that the broker knows after turns
abbrev pub told_after : Option ℕ → List Turn → Option ℕ
told_after last [] = last
told_after last (t ∷ ts) = told_after (Some t.time) ts

told_append : (last : Option ℕ) (ts us : List Turn) → told_after last (ts ++ us) ≡ told_after (told_after last ts) us
told_append last [] us = refl
told_append last (t ∷ ts) us = told_append (Some t.time) ts us

events_append : (conn : Conn) (last : Option ℕ) (ts us : List Turn)
    → turns_events conn last (ts ++ us) ≡ turns_events conn last ts ++ turns_events conn (told_after last ts) us
events_append conn last [] us = refl
events_append conn last (t ∷ ts) us =
    ap (λ l. turn_events conn last t ++ l) (events_append conn (Some t.time) ts us)
    ∙ sym (append_assoc (turn_events conn last t) (turns_events conn (Some t.time) ts) (turns_events conn (told_after (Some t.time) ts) us))

-- the events of steps after steps, followed by others
events_then : (conn : Conn) (ts us : List Turn) (ms ns : List Made) (rest : List HubEvent) → map event_of ms ≡ turns_events conn None ts
    → map event_of ns ++ rest ≡ turns_events conn (told_after None ts) us
    → map event_of (ms ++ ns) ++ rest ≡ turns_events conn None (ts ++ us)
events_then conn ts us ms ns rest p q =
    ap (λ l. l ++ rest) (map-append event_of ms ns) ∙ append_assoc (map event_of ms) (map event_of ns) rest
    ∙ ap (λ l. l ++ (map event_of ns ++ rest)) p ∙ ap (λ l. turns_events conn None ts ++ l) q ∙ sym (events_append conn None ts us)

-- ---- turns follow one another

-- The connection goes on after at least this number of turns, with this last time.
pub record Going {X : Type 0} (step : X → HubEvent → HubReply → X → Type 0) (conn : Conn) (count : ℕ) (told : Option ℕ) (x y : X) (a b : Outside)
    : Type 0 where
  pub turns : List Turn
  pub counted : count ≤ length turns
  pub last : told ≡ told_after None turns
  pub does : Turns step conn None turns x y a b

pub going_none : {X : Type 0} (step : X → HubEvent → HubReply → X → Type 0) (conn : Conn) (x : X) (a : Outside) → Going step conn 0 None x x a a
going_none step conn x a = record {
  turns = [];
  counted = omega arith;
  last = refl;
  does = record {
    made = [];
    chain = refl;
    events = refl;
    times = Appends-nil a.reported;
    comes = Consumes-nil a.coming;
    goes = Appends-nil a.written;
  };
}

pub going_on : {X : Type 0} (step : X → HubEvent → HubReply → X → Type 0) (conn : Conn) (count : ℕ) (last told : Option ℕ) (x y z : X) (a b c : Outside)
    → Going step conn count last x y a b → Turned step conn last told y z b c → Going step conn (count + 1) told x z a c
going_on step conn count last told x y z a b c p q =
    let us : List Turn = q.0 ∷ [] in
    let r = q.2 in
    let same : map event_of r.made ≡ turns_events conn (told_after None p.turns) us =
    r.events ∙ ap (λ (l : Option ℕ). turns_events conn l us) p.last in
    let all = events_then conn p.turns us p.does.made r.made [] p.does.events (append-nil (map event_of r.made) ∙ same) in record {
      turns = p.turns ++ us;
      counted = omega (arith, p.counted, length-append p.turns us);
      last = q.1 ∙ sym (told_append None p.turns us);
      does = record {
        made = p.does.made ++ r.made;
        chain = chain_then step x p.does.made y r.made z p.does.chain r.chain;
        events = sym (append-nil (map event_of (p.does.made ++ r.made))) ∙ all;
        times = subst (Appends a.reported c.reported) (sym (map-append time_of p.turns us)) (Appends-trans _ _ _ _ _ p.does.times r.times);
        comes = subst (Consumes a.coming c.coming) (sym (flat_map-append piece_of p.turns us)) (Consumes-trans _ _ _ _ _ p.does.comes r.comes);
        goes = subst (Appends a.written c.written) (sym (flat_map-append handed p.does.made r.made)) (Appends-trans _ _ _ _ _ p.does.goes r.goes);
      };
    }

-- more steps before do not change why a connection ends
closed_by_then : (ms ns : List Made) → IsClosedBy ns → IsClosedBy (ms ++ ns)
closed_by_then ms ns p = (ms ++ p.0, p.1, ap (λ l. ms ++ l) p.2 ∙ sym (append_assoc ms p.0 (p.1 ∷ [])), p.3)

cut_then : (ms ns : List Made) (sent : List ℕ) → IsCut ns sent → IsCut (ms ++ ns) (flat_map handed ms ++ sent)
cut_then ms ns sent p = (
  ms ++ p.0,
  p.1,
  p.2,
  ap (λ l. ms ++ l) p.3 ∙ sym (append_assoc ms p.0 (p.1 ∷ [])),
  flat_map-append handed ms ns ∙ ap (λ l. flat_map handed ms ++ l) p.4 ∙ sym (append_assoc (flat_map handed ms) sent p.2),
  p.5,
)

finishes_then : (closed : Bool) (n m : ℕ) (ms ns : List Made) (sent : List ℕ) → m ≤ n → Finishes closed m ns sent
    → Finishes closed n (ms ++ ns) (flat_map handed ms ++ sent)
finishes_then closed n m ms ns sent more (inl p) =
    inl (ap (λ l. flat_map handed ms ++ l) p.0 ∙ sym (flat_map-append handed ms ns), why p.1)
  where
    why : IsClosedBy ns ⊎ ((closed ≡ true) ⊎ (2 ^ 64 ≤ m + 1)) → IsClosedBy (ms ++ ns) ⊎ ((closed ≡ true) ⊎ (2 ^ 64 ≤ n + 1))
    why (inl q) = inl (closed_by_then ms ns q)
    why (inr (inl q)) = inr (inl q)
    why (inr (inr q)) = inr (inr (omega (arith, q, more)))
finishes_then closed n m ms ns sent more (inr p) = inr (p.0, cut_then ms ns sent p.1)

pub ends_then : {X : Type 0} (step : X → HubEvent → HubReply → X → Type 0) (conn : Conn) (count : ℕ) (told : Option ℕ) (x y z : X) (a b c : Outside)
    → Going step conn count told x y a b → Ends step conn told y z b c → Ends step conn None x z a c
ends_then step conn count told x y z a b c p q =
    let same : map event_of q.made ≡ turns_events conn (told_after None p.turns) q.turns =
    q.events ∙ ap (λ (l : Option ℕ). turns_events conn l q.turns) p.last in
    let all = events_then conn p.turns q.turns p.does.made q.made [] p.does.events (append-nil (map event_of q.made) ∙ same) in record {
      turns = p.turns ++ q.turns;
      made = p.does.made ++ q.made;
      chain = chain_then step x p.does.made y q.made z p.does.chain q.chain;
      events = sym (append-nil (map event_of (p.does.made ++ q.made))) ∙ all;
      times = subst (Appends a.reported c.reported) (sym (map-append time_of p.turns q.turns)) (Appends-trans _ _ _ _ _ p.does.times q.times);
      comes = subst (Consumes a.coming c.coming) (sym (flat_map-append piece_of p.turns q.turns)) (Consumes-trans _ _ _ _ _ p.does.comes q.comes);
      sent = flat_map handed p.does.made ++ q.sent;
      goes = Appends-trans _ _ _ _ _ p.does.goes q.goes;
      finishes = finishes_then c.closed (length (p.turns ++ q.turns)) (length q.turns) p.does.made q.made q.sent
          (omega (arith, length-append p.turns q.turns)) q.finishes;
    }

-- as many turns as can be counted
pub ends_counted : {X : Type 0} (step : X → HubEvent → HubReply → X → Type 0) (conn : Conn) (count : ℕ) (told : Option ℕ) (x y : X) (a b : Outside)
    → 2 ^ 64 ≤ count + 1 → Going step conn count told x y a b → Ends step conn None x y a b
ends_counted step conn count told x y a b most p = record {
  turns = p.turns;
  made = p.does.made;
  chain = p.does.chain;
  events = p.does.events;
  times = p.does.times;
  comes = p.does.comes;
  sent = flat_map handed p.does.made;
  goes = p.does.goes;
  finishes = inl (refl, inr (inr (omega (arith, p.counted, most))));
}

pub stops_then : {X : Type 0} (step : X → HubEvent → HubReply → X → Type 0) (conn : Conn) (count : ℕ) (told : Option ℕ) (x y z : X) (a b c : Outside)
    → Going step conn count told x y a b → Stops step conn told y z b c → Stops step conn None x z a c
stops_then step conn count told x y z a b c p q =
    let same : map event_of q.made ++ q.rest ≡ turns_events conn (told_after None p.turns) q.turns =
    q.events ∙ ap (λ (l : Option ℕ). turns_events conn l q.turns) p.last in record {
      turns = p.turns ++ q.turns;
      made = p.does.made ++ q.made;
      rest = q.rest;
      chain = chain_then step x p.does.made y q.made z p.does.chain q.chain;
      events = events_then conn p.turns q.turns p.does.made q.made q.rest p.does.events same;
      times = subst (Appends a.reported c.reported) (sym (map-append time_of p.turns q.turns)) (Appends-trans _ _ _ _ _ p.does.times q.times);
      comes = subst (Consumes a.coming c.coming) (sym (flat_map-append piece_of p.turns q.turns)) (Consumes-trans _ _ _ _ _ p.does.comes q.comes);
      goes = subst (Appends a.written c.written) (sym (flat_map-append handed p.does.made q.made)) (Appends-trans _ _ _ _ _ p.does.goes q.goes);
    }

-- ---- the parts of a turn

pub makes_none : {X : Type 0} (step : X → HubEvent → HubReply → X → Type 0) (events : List HubEvent) (x : X) → events ≡ [] → Makes step events x x
makes_none step events x none = record { made = []; chain = refl; are = sym none; hands = refl }

pub makes_known : {X : Type 0} (step : X → HubEvent → HubReply → X → Type 0) (last : Option ℕ) (now : ℕ) (x : X) → is_known last now ≡ true
    → Makes step (tick_events last now) x x
makes_known step last now x told = makes_none step (tick_events last now) x (ap (λ (b : Bool). if b then [] else (Tick now ∷ [])) told)

pub makes_tick : {X : Type 0} (step : X → HubEvent → HubReply → X → Type 0) (last : Option ℕ) (now : ℕ) (x y : X) (r : HubReply)
    → is_known last now ≡ false → step x (Tick now) r y → Makes step (tick_events last now) x y
makes_tick step last now x y r told is =
    let are : tick_events last now ≡ Tick now ∷ [] = ap (λ (b : Bool). if b then [] else (Tick now ∷ [])) told in
    record { made = one (Tick now) r ∷ []; chain = (y, is, refl); are = sym are; hands = refl }

pub makes_bytes : {X : Type 0} (step : X → HubEvent → HubReply → X → Type 0) (conn : Conn) (x y : X) (bs cs : List ℕ) (r : HubReply)
    → step x (Bytes conn cs) r y → cs ≡ bs → (length bs == 0) ≡ false → Makes step (bytes_events conn bs) x y
makes_bytes step conn x y [] cs r is same some = absurd (clash (sym some))
makes_bytes step conn x y (b ∷ bs) cs r is same some =
    record { made = one (Bytes conn cs) r ∷ []; chain = (y, is, refl); are = ap (λ (l : List ℕ). Bytes conn l ∷ []) same; hands = refl }

-- all output was written
pub collected : {X : Type 0} (step : X → HubEvent → HubReply → X → Type 0) (conn : Conn) (closed : Bool) (x y : X) (a b : Option (List ℕ)) (r : HubReply)
    (ws : List ℕ) → step x (Collect conn) r y → ws ≡ r.output → Appends a b ws → Collects step conn r.alive closed x y a b
collected step conn closed x y a b r ws is same goes = record {
  reply = r;
  collects = is;
  sent = ws;
  unsent = [];
  parts = sym same ∙ sym (append-nil ws);
  goes = goes;
  on = λ alive. (refl, alive);
  off = λ dead. inl (refl, dead);
}

-- a write failed
pub collected_cut : {X : Type 0} (step : X → HubEvent → HubReply → X → Type 0) (conn : Conn) (closed : Bool) (x y : X) (a b : Option (List ℕ)) (r : HubReply)
    (ws : List ℕ) → step x (Collect conn) r y → ws ≡ r.output → AppendsFront a b ws → closed ≡ true → Collects step conn false closed x y a b
collected_cut step conn closed x y a b r ws is same goes broken = record {
  reply = r;
  collects = is;
  sent = goes.front;
  unsent = goes.rest;
  parts = sym same ∙ goes.parts;
  goes = goes.appends;
  on = λ no. absurd (clash no);
  off = λ _. inr broken;
}

-- the steps of a whole turn
record Done {X : Type 0} (step : X → HubEvent → HubReply → X → Type 0) (conn : Conn) (last : Option ℕ) (turn : Turn) (r : HubReply) (x y : X)
    : Type 0 where
  before : List Made
  chain : Chain step x (before ++ one (Collect conn) r ∷ []) y
  events : map event_of (before ++ one (Collect conn) r ∷ []) ≡ turns_events conn last (turn ∷ [])
  hands : flat_map handed (before ++ one (Collect conn) r ∷ []) ≡ r.output

hands_none : (ms ns : List Made) → flat_map handed ms ≡ [] → flat_map handed ns ≡ [] → flat_map handed (ms ++ ns) ≡ []
hands_none ms ns p q = flat_map-append handed ms ns ∙ ap (λ l. l ++ flat_map handed ns) p ∙ q

done : {X : Type 0} (step : X → HubEvent → HubReply → X → Type 0) (conn : Conn) (last : Option ℕ) (bs : List ℕ) (t : ℕ) (r : HubReply) (x y z w : X)
    → Makes step (tick_events last t) x y → Makes step (bytes_events conn bs) y z → step z (Collect conn) r w
    → Done step conn last (record { piece = bs; time = t }) r x w
done step conn last bs t r x y z w p q is =
    let before : List Made = p.made ++ q.made in
    let end : List Made = one (Collect conn) r ∷ [] in
    let both : map event_of before ≡ tick_events last t ++ bytes_events conn bs =
    map-append event_of p.made q.made ∙ ap (λ l. l ++ map event_of q.made) p.are ∙ ap (λ l. tick_events last t ++ l) q.are in record {
      before = before;
      chain = chain_then step x before z end w (chain_then step x p.made y q.made z p.chain q.chain) (w, is, refl);
      events = map-append event_of before end ∙ ap (λ l. l ++ Collect conn ∷ []) both
          ∙ append_assoc (tick_events last t) (bytes_events conn bs) (Collect conn ∷ [])
          ∙ sym (append-nil (turn_events conn last (record { piece = bs; time = t })));
      hands = flat_map-append handed before end ∙ ap (λ l. l ++ flat_map handed end) (hands_none p.made q.made p.hands q.hands) ∙ append-nil r.output;
    }

-- A read of these bytes, and the time after it: b is the state after the read, c after the turn.
pub record Read (bs : List ℕ) (t : ℕ) (a b c : Outside) : Type 0 where
  pub comes : Consumes a.coming b.coming bs
  pub stays : Keeps b.coming c.coming
  pub written : Keeps a.written b.written
  pub times : Appends a.reported c.reported (t ∷ [])

read_all : (bs : List ℕ) (t : ℕ) (a b c : Outside) → Read bs t a b c → Consumes a.coming c.coming (bs ++ [])
read_all bs t a b c p = subst (Consumes a.coming c.coming) (sym (append-nil bs)) (Consumes-kept a.coming b.coming c.coming bs p.comes p.stays)

turned : {X : Type 0} (step : X → HubEvent → HubReply → X → Type 0) (conn : Conn) (last : Option ℕ) (on : Bool) (bs : List ℕ) (t : ℕ) (x y z w : X)
    (a b c : Outside) → Read bs t a b c → Makes step (tick_events last t) x y → Makes step (bytes_events conn bs) y z
    → Collects step conn on c.closed z w b.written c.written → on ≡ true → Turned step conn last (Some t) x w a c
turned step conn last on bs t x y z w a b c p m n q is =
    let all = done step conn last bs t q.reply x y z w m n q.collects in
    let none = (q.on is).0 in
    let sent : q.sent ≡ q.reply.output = sym (append-nil q.sent) ∙ ap (λ l. q.sent ++ l) (sym none) ∙ sym q.parts in (
      record { piece = bs; time = t },
      refl,
      record {
        made = all.before ++ one (Collect conn) q.reply ∷ [];
        chain = all.chain;
        events = all.events;
        times = p.times;
        comes = read_all bs t a b c p;
        goes = subst (Appends a.written c.written) (sent ∙ sym all.hands) (kept_appends a.written b.written c.written q.sent p.written q.goes);
      },
    )

finish : (conn : Conn) (closed : Bool) (before : List Made) (r : HubReply) (sent unsent : List ℕ)
    → flat_map handed (before ++ one (Collect conn) r ∷ []) ≡ r.output → r.output ≡ sent ++ unsent
    → ((unsent ≡ []) × (r.alive ≡ false)) ⊎ (closed ≡ true) → Finishes closed 1 (before ++ one (Collect conn) r ∷ []) sent
finish conn closed before r sent unsent hands parts (inl w) =
    let all : sent ≡ r.output = sym (append-nil sent) ∙ ap (λ l. sent ++ l) (sym w.0) ∙ sym parts in
    inl (all ∙ sym hands, inl (before, one (Collect conn) r, refl, w.1))
finish conn closed before r sent unsent hands parts (inr w) =
    let long : length r.output ≡ length (sent ++ unsent) = ap (λ (l : List ℕ). length l) parts in
    inr (w, (before, one (Collect conn) r, unsent, refl, hands ∙ parts, omega (arith, long, length-append sent unsent)))

ended : {X : Type 0} (step : X → HubEvent → HubReply → X → Type 0) (conn : Conn) (last : Option ℕ) (on : Bool) (bs : List ℕ) (t : ℕ) (x y z w : X)
    (a b c : Outside) → Read bs t a b c → Makes step (tick_events last t) x y → Makes step (bytes_events conn bs) y z
    → Collects step conn on c.closed z w b.written c.written → on ≡ false → Ends step conn last x w a c
ended step conn last on bs t x y z w a b c p m n q is =
    let all = done step conn last bs t q.reply x y z w m n q.collects in record {
      turns = record { piece = bs; time = t } ∷ [];
      made = all.before ++ one (Collect conn) q.reply ∷ [];
      chain = all.chain;
      events = all.events;
      times = p.times;
      comes = read_all bs t a b c p;
      sent = q.sent;
      goes = kept_appends a.written b.written c.written q.sent p.written q.goes;
      finishes = finish conn c.closed all.before q.reply q.sent q.unsent all.hands q.parts (q.off is);
    }

pub turn_on : {X E : Type 0} (step : X → HubEvent → HubReply → X → Type 0) (conn : Conn) (last : Option ℕ) (bs : List ℕ) (t : ℕ) (x y z w : X)
    (a b c : Outside) (r : Result Bool E) → Read bs t a b c → Makes step (tick_events last t) x y → Makes step (bytes_events conn bs) y z
    → IfOk r (λ on. Collects step conn on c.closed z w b.written c.written) → IfOk r (λ on. on ≡ true → Turned step conn last (Some t) x w a c)
turn_on step conn last bs t x y z w a b c (Ok on) p m n q = λ is. turned step conn last on bs t x y z w a b c p m n q is
turn_on step conn last bs t x y z w a b c (Err e) p m n q = tt

pub turn_off : {X E : Type 0} (step : X → HubEvent → HubReply → X → Type 0) (conn : Conn) (last : Option ℕ) (bs : List ℕ) (t : ℕ) (x y z w : X)
    (a b c : Outside) (r : Result Bool E) → Read bs t a b c → Makes step (tick_events last t) x y → Makes step (bytes_events conn bs) y z
    → IfOk r (λ on. Collects step conn on c.closed z w b.written c.written) → IfOk r (λ on. on ≡ false → Ends step conn last x w a c)
turn_off step conn last bs t x y z w a b c (Ok on) p m n q = λ is. ended step conn last on bs t x y z w a b c p m n q is
turn_off step conn last bs t x y z w a b c (Err e) p m n q = tt

-- the stream is over
pub ends_over : {X : Type 0} (step : X → HubEvent → HubReply → X → Type 0) (conn : Conn) (last : Option ℕ) (x : X) (a c : Outside)
    → Keeps a.coming c.coming → Keeps a.written c.written → Appends a.reported c.reported [] → c.closed ≡ true → Ends step conn last x x a c
ends_over step conn last x a c coming written times closed = record {
  turns = [];
  made = [];
  chain = refl;
  events = refl;
  times = times;
  comes = Consumes-kept a.coming a.coming c.coming [] (Consumes-nil a.coming) coming;
  sent = [];
  goes = Appends-kept a.written a.written c.written [] (Appends-nil a.written) written;
  finishes = inl (refl, inr (inl closed));
}

-- a step of a turn was refused, before any output
stops_at : {X : Type 0} (step : X → HubEvent → HubReply → X → Type 0) (conn : Conn) (last : Option ℕ) (bs : List ℕ) (t : ℕ) (x y : X) (a b c : Outside)
    (made : List Made) (rest : List HubEvent) → Read bs t a b c → Keeps b.written c.written → Chain step x made y
    → map event_of made ++ rest ≡ turn_events conn last (record { piece = bs; time = t }) → flat_map handed made ≡ [] → Stops step conn last x y a c
stops_at step conn last bs t x y a b c made rest p kept chain events hands = record {
  turns = record { piece = bs; time = t } ∷ [];
  made = made;
  rest = rest;
  chain = chain;
  events = events ∙ sym (append-nil (turn_events conn last (record { piece = bs; time = t })));
  times = p.times;
  comes = read_all bs t a b c p;
  goes = subst (Appends a.written c.written) (sym hands)
      (Appends-kept a.written a.written c.written [] (Appends-nil a.written) (Keeps-trans a.written b.written c.written p.written kept));
}

pub stops_tick : {X : Type 0} (step : X → HubEvent → HubReply → X → Type 0) (conn : Conn) (last : Option ℕ) (bs : List ℕ) (t : ℕ) (x y : X) (a b c : Outside)
    → Read bs t a b c → Keeps b.written c.written → y ≡ x → Stops step conn last x y a c
stops_tick step conn last bs t x y a b c p kept same =
    stops_at step conn last bs t x y a b c [] (turn_events conn last (record { piece = bs; time = t })) p kept same refl refl

pub stops_bytes : {X : Type 0} (step : X → HubEvent → HubReply → X → Type 0) (conn : Conn) (last : Option ℕ) (bs : List ℕ) (t : ℕ) (x y z : X)
    (a b c : Outside) → Read bs t a b c → Keeps b.written c.written → Makes step (tick_events last t) x y → z ≡ y → Stops step conn last x z a c
stops_bytes {X} step conn last bs t x y z a b c p kept m same =
    let P : X → Type 0 = λ u. Chain step x m.made u in
    stops_at step conn last bs t x z a b c m.made (bytes_events conn bs ++ Collect conn ∷ []) p kept (subst P (sym same) m.chain)
    (ap (λ l. l ++ (bytes_events conn bs ++ Collect conn ∷ [])) m.are) m.hands

pub turn_err : {X E : Type 0} (step : X → HubEvent → HubReply → X → Type 0) (conn : Conn) (last : Option ℕ) (bs : List ℕ) (t : ℕ) (x y z w : X)
    (a b c : Outside) (r : Result Bool E) → Read bs t a b c → Makes step (tick_events last t) x y → Makes step (bytes_events conn bs) y z
    → OnErr r ((w ≡ z) × Keeps b.written c.written) → OnErr r (Stops step conn last x w a c)
turn_err step conn last bs t x y z w a b c (Ok on) p m n q = tt
turn_err {X} step conn last bs t x y z w a b c (Err e) p m n q =
    let P : X → Type 0 = λ u. Chain step x (m.made ++ n.made) u in
    let are : map event_of (m.made ++ n.made) ++ Collect conn ∷ [] ≡ turn_events conn last (record { piece = bs; time = t }) =
    ap (λ l. l ++ Collect conn ∷ []) (map-append event_of m.made n.made ∙ ap (λ l. l ++ map event_of n.made) m.are ∙ ap (λ l. tick_events last t ++ l) n.are)
    ∙ append_assoc (tick_events last t) (bytes_events conn bs) (Collect conn ∷ []) in
    stops_at step conn last bs t x w a b c (m.made ++ n.made) (Collect conn ∷ []) p q.1
    (subst P (sym q.0) (chain_then step x m.made y n.made z m.chain n.chain)) are (hands_none m.made n.made m.hands n.hands)

-- ---- a whole connection

pub closes_whole : {X : Type 0} (step : X → HubEvent → HubReply → X → Type 0) (conn : Conn) (x y z w : X) (a b : Outside) (r s : HubReply)
    → step x (Opened conn) r y → Ends step conn None y z a b → step z (Ended conn) s w → Closes step conn x w a b
closes_whole step conn x y z w a b r s first p last = record {
  turns = p.turns;
  made = one (Opened conn) r ∷ p.made;
  reply = s;
  chain = (y, first, chain_then step y p.made z (one (Ended conn) s ∷ []) w p.chain (w, last, refl));
  events = ap (λ l. Opened conn ∷ l) p.events;
  times = p.times;
  comes = p.comes;
  sent = p.sent;
  goes = p.goes;
  finishes = finishes_then b.closed (length p.turns) (length p.turns) (one (Opened conn) r ∷ []) p.made p.sent (omega arith) p.finishes;
}

-- the connection was not opened
pub breaks_none : {X : Type 0} (step : X → HubEvent → HubReply → X → Type 0) (conn : Conn) (x y : X) (a : Outside) → y ≡ x → Breaks step conn x y a a
breaks_none step conn x y a same = record {
  turns = [];
  made = [];
  rest = Opened conn ∷ Ended conn ∷ [];
  chain = same;
  events = refl;
  times = Appends-nil a.reported;
  comes = Consumes-nil a.coming;
  sent = [];
  unsent = [];
  cut = refl;
  whole = inl refl;
  goes = Appends-nil a.written;
}

-- a step of a turn was refused
pub breaks_stopped : {X : Type 0} (step : X → HubEvent → HubReply → X → Type 0) (conn : Conn) (x y z : X) (a b : Outside) (r : HubReply)
    → step x (Opened conn) r y → Stops step conn None y z a b → Breaks step conn x z a b
breaks_stopped step conn x y z a b r first p = record {
  turns = p.turns;
  made = one (Opened conn) r ∷ p.made;
  rest = p.rest ++ Ended conn ∷ [];
  chain = (y, first, p.chain);
  events = ap (λ l. Opened conn ∷ l) (sym (append_assoc (map event_of p.made) p.rest (Ended conn ∷ [])) ∙ ap (λ l. l ++ Ended conn ∷ []) p.events);
  times = p.times;
  comes = p.comes;
  sent = flat_map handed p.made;
  unsent = [];
  cut = sym (append-nil (flat_map handed p.made));
  whole = inl refl;
  goes = p.goes;
}

unsent_of : (closed : Bool) (count : ℕ) (made : List Made) (sent : List ℕ) → Finishes closed count made sent
    → (unsent : List ℕ) × (flat_map handed made ≡ sent ++ unsent) × ((unsent ≡ []) ⊎ (closed ≡ true))
unsent_of closed count made sent (inl p) = ([], sym p.0 ∙ sym (append-nil sent), inl refl)
unsent_of closed count made sent (inr p) = (p.1.2, p.1.4, inr p.0)

-- the last step, that the connection ended, was refused
pub breaks_still : {X : Type 0} (step : X → HubEvent → HubReply → X → Type 0) (conn : Conn) (x y z w : X) (a b : Outside) (r : HubReply)
    → step x (Opened conn) r y → Ends step conn None y z a b → w ≡ z → Breaks step conn x w a b
breaks_still {X} step conn x y z w a b r first p same =
    let P : X → Type 0 = λ u. Chain step x (one (Opened conn) r ∷ p.made) u in
    let left = unsent_of b.closed (length p.turns) p.made p.sent p.finishes in record {
      turns = p.turns;
      made = one (Opened conn) r ∷ p.made;
      rest = Ended conn ∷ [];
      chain = subst P (sym same) (y, first, p.chain);
      events = ap (λ l. Opened conn ∷ (l ++ Ended conn ∷ [])) p.events;
      times = p.times;
      comes = p.comes;
      sent = p.sent;
      unsent = left.0;
      cut = left.1;
      whole = left.2;
      goes = p.goes;
    }

-- ---- how many steps

pub closes_ran : {X : Type 0} (step : X → HubEvent → HubReply → X → Type 0) (conn : Conn) (x y : X) (a b : Outside) → Closes step conn x y a b
    → Ran step 2 x y
closes_ran step conn x y a b p =
    let end : List Made = one (Ended conn) p.reply ∷ [] in
    let long : length (map event_of p.made) ≡ length (Opened conn ∷ turns_events conn None p.turns) = ap (λ (l : List HubEvent). length l) p.events in record {
      made = p.made ++ end;
      chain = p.chain;
      enough = omega (arith, long, length-map p.made event_of, length-append p.made end);
    }

pub breaks_ran : {X : Type 0} (step : X → HubEvent → HubReply → X → Type 0) (conn : Conn) (x y : X) (a b : Outside) → Breaks step conn x y a b
    → Ran step 0 x y
breaks_ran step conn x y a b p = record { made = p.made; chain = p.chain; enough = omega arith }
