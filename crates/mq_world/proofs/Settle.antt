-- A new connection and three exchanges settle everything.
use Rattle.std.proofs.Common.{◌≡◌, ℕ, suc, ◌+◌, ◌≤◌, Bool, true, false, cond, not, ◌&&◌, Option, List, [], ◌∷◌, ◌++◌, map, filter, length, refl, sym}
use Rattle.std.proofs.Common.{ap, subst, ◌∙◌, arith}
use Rattle.std.proofs.lemmas.List.{length-append}
use Rattle.mq_topic.specs.declared.qos.Qos.{Qos}
use Rattle.mq_topic.specs.declared.qos.Qos.TheVariants.{Q0, Q1, Q2}
use Rattle.mq_packet.specs.declared.message.Message.{Message}
use Rattle.mq_packet.specs.declared.packet.Packet.{Packet}
use Rattle.mq_flow.specs.declared.entry.SenderEntry.{SenderEntry}
use Rattle.mq_flow.specs.Sender.{held, same_qos, resent}
use Rattle.mq_flow.specs.Window.{Spans}
use Rattle.mq_end.specs.declared.state.State.{State}
use Rattle.mq_end.specs.declared.state.State.TheVariants.{Connected}
use Rattle.mq_end.specs.declared.reason.CloseReason.TheVariants as reasons
use Rattle.mq_end.specs.End.{End, closes, becomes_connected}
use Rattle.mq_end.specs.Both.{has_identifier}
use Rattle.mq_world.specs.declared.side.Side.TheVariants.{Client, Server}
use Rattle.mq_world.specs.Half.{Half, Accepted, Arrives, put, took}
use Rattle.mq_world.specs.Machine.{Machine, By, Opens, after, opened_client, blank_machine}
use Rattle.mq_world.specs.Orders.{messages}
use Rattle.mq_world.specs.Settling.{arrivals, delivered, exchange, AllHanded, Settles, SettlingLaw}
use Rattle.mq_world.proofs.Stages.{Stages, nothing_held}
use Rattle.mq_world.proofs.Lists.{Each}
use Rattle.mq_world.proofs.Places.{covered}
use Rattle.mq_world.proofs.Queues.{answers, flight}
use Rattle.mq_world.proofs.Both.{IsHeld, OwnOf, WayOf, turned}
use Rattle.mq_world.proofs.Together.{client_arrivals, server_arrivals}
use Rattle.mq_world.proofs.Windows.{run_windows}
use Rattle.mq_world.proofs.Marks.{Marks, IsNoConnack, Well, after_well, reached_well}
use Rattle.mq_world.proofs.Ranks.{below_more, below_none, Draining, drained, resent_below, low_second, low_first, low_pubrec, low_puback}

-- Both sides are connected, with packets below these ranks in their queues.
abbrev pub Going : ℕ → ℕ → ℕ → Accepted → Accepted → Machine → Type 0
Going capacity c s old_client old_server w = Draining capacity c s w.client w.server old_client old_server

abbrev pub Turned : ℕ → ℕ → ℕ → Accepted → Accepted → Machine → Type 0
Turned capacity s c old_client old_server w = Draining capacity s c w.server w.client old_server old_client

turn : (capacity n m : ℕ) (x y : Half) (a b : Accepted) → Draining capacity n m x y a b → Draining capacity m n y x b a
turn capacity n m x y a b d =
    record {
      both = turned capacity x y d.both;
      up_x = d.up_y;
      up_y = d.up_x;
      spans_x = d.spans_y;
      spans_y = d.spans_x;
      below_x = d.below_y;
      below_y = d.below_x;
      same_x = d.same_y;
      same_y = d.same_x;
    }

weaker : (capacity n m k : ℕ) (x y : Half) (a b : Accepted) → m ≤ k → Draining capacity n m x y a b → Draining capacity n k x y a b
weaker capacity n m k x y a b le d =
    record {
      both = d.both;
      up_x = d.up_x;
      up_y = d.up_y;
      spans_x = d.spans_x;
      spans_y = d.spans_y;
      below_x = d.below_x;
      below_y = below_more m k y.coming le d.below_y;
      same_x = d.same_x;
      same_y = d.same_y;
    }

client_delivered : (capacity n m : ℕ) (a b : Accepted) (w : Machine) → n ≤ m → n ≤ 3 → Going capacity (suc n) m a b w
    → Going capacity 0 m a b (delivered Client w)
client_delivered capacity n m a b w le three d =
    subst (Going capacity 0 m a b) (sym (client_arrivals (length w.client.coming) w))
    (drained capacity n m Client w.client.coming w.client w.server a b le three refl d)

server_delivered : (capacity n m : ℕ) (a b : Accepted) (w : Machine) → n ≤ m → n ≤ 3 → Going capacity m (suc n) a b w
    → Going capacity m 0 a b (delivered Server w)
server_delivered capacity n m a b w le three d =
    subst (Going capacity m 0 a b) (sym (server_arrivals (length w.server.coming) w))
    (turn capacity 0 m _ _ b a (drained capacity n m Server w.server.coming w.server w.client b a le three refl
    (turn capacity m (suc n) w.client w.server a b d)))

exchanged : (capacity k : ℕ) (a b : Accepted) (w : Machine) → k ≤ 2 → Going capacity 0 (suc (suc k)) a b w → Going capacity 0 k a b (exchange w)
exchanged capacity k a b w le d =
    let more : Going capacity (suc k) (suc (suc k)) a b w =
    turn capacity _ _ _ _ b a (weaker capacity (suc (suc k)) 0 (suc k) w.server w.client b a (omega arith)
    (turn capacity 0 (suc (suc k)) w.client w.server a b d)) in
    let w2 : Machine = delivered Server w in
    let at_server : Going capacity (suc k) 0 a b w2 = server_delivered capacity (suc k) (suc k) a b w (omega arith) (omega arith) more in
    client_delivered capacity k k a b w2 (omega arith) (omega arith) (weaker capacity (suc k) 0 k w2.client w2.server a b (omega arith) at_server)

-- ---- the handshake

-- the machine with these sides, whose connections have clean session 0
abbrev pub pair : Half → Half → Machine
pair c s = record { client = record c { end = record c.end { clean = false } }; server = record s { end = record s.end { clean = false } } }

-- The two sides after the handshake, if the client stays.
abbrev pub up_client : Half → Half → Half
up_client c s = record c {
  end = record c.end {
    book =
        record {
          entries = map (λ e. record { id = e.id; message = e.message; sent = true }) c.end.book.entries;
          released = c.end.book.released;
          claimed = [];
        };
    state = Connected;
    known = true;
    clean = false;
    keep_alive = 60;
  };
  coming = resent s.end.book;
}

abbrev pub up_server : Half → Half → Half
up_server c s = record s {
  end = record s.end {
    book =
        record {
          entries = map (λ e. record { id = e.id; message = e.message; sent = true }) s.end.book.entries;
          released = s.end.book.released;
          claimed = [];
        };
    state = Connected;
    known = true;
    clean = false;
    keep_alive = 60;
  };
  coming = resent c.end.book;
}

-- CONNECT reached the server
abbrev pub after_connect : Half → Half → Machine
after_connect c s = after (after (pair c s) Opens) (By Server Arrives)

-- and CONNACK to the client
abbrev pub after_connack : Half → Half → Machine
after_connack c s = after (after_connect c s) (By Client Arrives)

connack_in : (c s : Half) → c.end.known && not s.end.known ≡ false → after_connack c s ≡ record { client = up_client c s; server = up_server c s }
connack_in c s h =
    let e : End = (opened_client (pair c s).client).end in
    let x : Half = (after_connect c s).client in
    let P : Bool → Type 0 = λ t.
    ◌≡◌ {A = Machine}
    (record {
      client = (took x (resent s.end.book) (cond t (closes reasons.SessionLost e) (becomes_connected [] s.end.known e))).half;
      server = put (took x (resent s.end.book) (cond t (closes reasons.SessionLost e) (becomes_connected [] s.end.known e))).out (after_connect c s).server;
    })
    (record { client = up_client c s; server = up_server c s }) in
    subst P (sym h) refl

marked : (c s : Half) → Marks c s → c.end.known && not s.end.known ≡ false
marked c s m = by_server s.end.known m
  where
    by_server : (k : Bool) → (k ≡ false → (c.end.known ≡ false) × Each IsNoConnack c.coming) → c.end.known && not k ≡ false
    by_server true m = either c.end.known
      where
        either : (b : Bool) → b && false ≡ false
        either true = refl
        either false = refl
    by_server false m = ap (λ (b : Bool). b && true) (m refl).0

shaken : (capacity : ℕ) (c s : Half) → Spans c.end.window capacity → Spans s.end.window capacity → Well capacity (pair c s)
    → Going capacity 0 4 c.accepted s.accepted (exchange (after (pair c s) Opens))
shaken capacity c s spans_c spans_s well =
    let one = after_well 0 capacity (pair c s) Opens tt well in
    let two = after_well 0 capacity (after (pair c s) Opens) (By Server Arrives) tt one in
    let three = after_well 0 capacity (after_connect c s) (By Client Arrives) tt two in
    let same = connack_in c s (marked (pair c s).client (pair c s).server well.1) in
    let w : Machine = record { client = up_client c s; server = up_server c s } in
    let well_up : Well capacity w = subst (Well capacity) same three in
    let start : Going capacity 4 4 c.accepted s.accepted w = record {
      both = well_up.0;
      up_x = refl;
      up_y = refl;
      spans_x = spans_c;
      spans_y = spans_s;
      below_x = resent_below s.end.book well.0.own_y.2;
      below_y = resent_below c.end.book well.0.own_x.2;
      same_x = refl;
      same_y = refl;
    } in
    let done : Going capacity 0 4 c.accepted s.accepted (delivered Client w) =
    client_delivered capacity 3 4 c.accepted s.accepted w (omega arith) (omega arith) start in
    subst (λ (v : Machine). Going capacity 0 4 c.accepted s.accepted (arrivals (length (resent s.end.book)) Client v)) (sym same) done

shaken_hands : (capacity : ℕ) (w : Machine) → Spans w.client.end.window capacity → Spans w.server.end.window capacity → Well capacity w
    → Going capacity 0 4 w.client.accepted w.server.accepted (exchange (after w Opens))
shaken_hands capacity w spans_c spans_s well =
    let P : Bool → Bool → Type 0 =
    λ a b. Well capacity (record {
      client = record w.client { end = record w.client.end { clean = a } };
      server = record w.server { end = record w.server.end { clean = b } };
    })
    → Going capacity 0 4 w.client.accepted w.server.accepted
    (exchange (after (record {
      client = record w.client { end = record w.client.end { clean = a } };
      server = record w.server { end = record w.server.end { clean = b } };
    }) Opens)) in
    let one : P false w.server.end.clean = subst (λ (b : Bool). P false b) (sym well.0.kept_y) (shaken capacity w.client w.server spans_c spans_s) in
    subst (λ (a : Bool). P a w.server.end.clean) (sym well.0.kept_x) one well

-- ---- The remaining packets

nothing_at : {A : Type 0} (key : A → ℕ) (x y : State) (taken waiting : List A) (answering : List ℕ) (flying : List A) → x ≡ Connected → y ≡ Connected
    → answering ≡ [] → flying ≡ [] → Stages key x y taken waiting answering flying → (taken ≡ []) × (waiting ≡ [])
nothing_at key x y taken waiting answering flying up_x up_y none_answering none_flying h =
    nothing_held key taken waiting
    (subst (λ (f : List _). Stages key Connected Connected taken waiting [] f) none_flying
    (subst (λ (a : List ℕ). Stages key Connected Connected taken waiting a flying) none_answering
    (subst (λ (st : State). Stages key Connected st taken waiting answering flying) up_y
    (subst (λ (st : State). Stages key st y taken waiting answering flying) up_x h))))

no_entries : (es : List SenderEntry) → Each IsHeld es → held Q1 es ≡ [] → held Q2 es ≡ [] → es ≡ []
no_entries [] k one two = refl
no_entries (e ∷ es) k one two = absurd (by_qos e.message.qos k.0 one two)
  where
    by_qos : (q : Qos) → has_identifier q ≡ true
        → map {B = ℕ × Message} (λ e. (e.id, e.message))
        (cond (same_qos Q1 q) (e ∷ filter (λ e. same_qos Q1 e.message.qos) es) (filter (λ e. same_qos Q1 e.message.qos) es)) ≡ []
        → map {B = ℕ × Message} (λ e. (e.id, e.message))
        (cond (same_qos Q2 q) (e ∷ filter (λ e. same_qos Q2 e.message.qos) es) (filter (λ e. same_qos Q2 e.message.qos) es)) ≡ [] → ⊥
    by_qos Q0 k one two = cc
    by_qos Q1 k one two = cc
    by_qos Q2 k one two = cc

both_nil : {A : Type 0} (E taken waiting : List A) → E ≡ taken ++ waiting → (taken ≡ []) × (waiting ≡ []) → E ≡ []
both_nil {A} E taken waiting e n = e ∙ (ap (λ (q : List A). q ++ waiting) n.0 ∙ n.1)

-- No packet that asks for a response is in flight from `x` to `y`, and no response from `y` to `x`.
pub record Over (x y : Half) : Type 0 where
  pub up_x : x.end.state ≡ Connected
  pub up_y : y.end.state ≡ Connected
  pub pubrecs : (answers x.coming).pubrecs ≡ []
  pub pubacks : (answers x.coming).pubacks ≡ []
  pub publishes_2 : (flight y.coming).publishes_2 ≡ []
  pub publishes_1 : (flight y.coming).publishes_1 ≡ []

no_second : (x y : Half) → WayOf x y → Over x y → (held Q2 x.end.book.entries ≡ []) × (y.handed.exactly_once ≡ x.accepted.exactly_once)
no_second x y way o =
    let s = way.0 in
    let n = nothing_at _ _ _ _ _ _ _ o.up_x o.up_y o.pubrecs o.publishes_2 s.entry_stages in
    let e : held Q2 x.end.book.entries ≡ [] = both_nil _ s.taken s.waiting s.parts n in
    (e, s.handed_is ∙ (ap (λ (q : List (ℕ × Message)). s.gone ++ messages q) (n.0 ∙ sym e) ∙ sym s.accepted_is))

no_first : (x y : Half) → WayOf x y → Over x y → held Q1 x.end.book.entries ≡ []
no_first x y way o = let f = way.1 in both_nil _ f.taken f.waiting f.parts (nothing_at _ _ _ _ _ _ _ o.up_x o.up_y o.pubacks o.publishes_1 f.entry_stages)

holds_none : (capacity : ℕ) (x y : Half) → OwnOf capacity x.end.state x.end.book → WayOf x y → Over x y → x.end.book.entries ≡ []
holds_none capacity x y own way o = no_entries x.end.book.entries own.2 (no_first x y way o) (no_second x y way o).0

releases_none : (x y : Half) → WayOf x y → Over x y → (answers x.coming).pubcomps ≡ [] → (flight y.coming).pubrels ≡ [] → x.end.book.released ≡ []
releases_none x y way o pubcomps pubrels = let s = way.0 in
    both_nil _ s.released_taken s.released_waiting s.released_parts (nothing_at _ _ _ _ _ _ _ o.up_x o.up_y pubcomps pubrels s.released_stages)

all_handed : (x y : Half) → WayOf x y → Over x y → AllHanded x y
all_handed x y way o =
    let f = way.1 in
    let n = nothing_at _ _ _ _ _ _ _ o.up_x o.up_y o.pubacks o.publishes_1 f.entry_stages in
    let k = ap length n.0 in
    let size : length x.accepted.at_least_once ≡ length f.gone + length (held Q1 x.end.book.entries) =
    ap length f.accepted_is ∙ length-append f.gone (held Q1 x.end.book.entries) in
    let none = ap length (no_first x y way o) in
    let far = f.reached in
    record {
      exactly_once = (no_second x y way o).1;
      places = f.places;
      walk = f.walk;
      are = f.are;
      each = λ p lt. covered 0 f.places p f.walk (omega arith) (omega arith);
    }

-- the sides after the second exchange, and after the third
second_over : (capacity : ℕ) (a b : Accepted) (w : Machine) → Going capacity 0 2 a b w → Over w.client w.server × Over w.server w.client
second_over capacity a b w d =
    let c : w.client.coming ≡ [] = below_none w.client.coming d.below_x in (
      record {
        up_x = d.up_x;
        up_y = d.up_y;
        pubrecs = ap (λ (q : List Packet). (answers q).pubrecs) c;
        pubacks = ap (λ (q : List Packet). (answers q).pubacks) c;
        publishes_2 = low_second w.server.coming d.below_y;
        publishes_1 = low_first w.server.coming d.below_y;
      },
      record {
        up_x = d.up_y;
        up_y = d.up_x;
        pubrecs = low_pubrec w.server.coming d.below_y;
        pubacks = low_puback w.server.coming d.below_y;
        publishes_2 = ap (λ (q : List Packet). (flight q).publishes_2) c;
        publishes_1 = ap (λ (q : List Packet). (flight q).publishes_1) c;
      },
    )

pub settles : (capacity : ℕ) (w : Machine) → Spans w.client.end.window capacity → Spans w.server.end.window capacity → Well capacity w → Settles w
settles capacity w spans_c spans_s well =
    let a : Accepted = w.client.accepted in
    let b : Accepted = w.server.accepted in
    let w1 : Machine = exchange (after w Opens) in
    let w2 : Machine = exchange w1 in
    let w3 : Machine = exchange w2 in
    let g1 : Going capacity 0 4 a b w1 = shaken_hands capacity w spans_c spans_s well in
    let g2 : Going capacity 0 2 a b w2 = exchanged capacity 2 a b w1 (omega arith) g1 in
    let g3 : Going capacity 0 0 a b w3 = exchanged capacity 0 a b w2 (omega arith) g2 in
    let o2 = second_over capacity a b w2 g2 in
    let o3 = second_over capacity a b w3 (weaker capacity 0 0 2 w3.client w3.server a b (omega arith) g3) in
    let c : w3.client.coming ≡ [] = below_none w3.client.coming g3.below_x in
    let s : w3.server.coming ≡ [] = below_none w3.server.coming g3.below_y in
    record {
      client_idle = record {
        entries = holds_none capacity w3.client w3.server g3.both.own_x g3.both.to_y o3.0;
        released = releases_none w3.client w3.server g3.both.to_y o3.0 (ap (λ (q : List Packet). (answers q).pubcomps) c)
            (ap (λ (q : List Packet). (flight q).pubrels) s);
      };
      server_idle = record {
        entries = holds_none capacity w3.server w3.client g3.both.own_y g3.both.to_x o3.1;
        released = releases_none w3.server w3.client g3.both.to_x o3.1 (ap (λ (q : List Packet). (answers q).pubcomps) s)
            (ap (λ (q : List Packet). (flight q).pubrels) c);
      };
      to_server = all_handed w3.client w3.server g3.both.to_y o3.0;
      to_client = all_handed w3.server w3.client g3.both.to_x o3.1;
      client_same = g3.same_x;
      server_same = g3.same_y;
      client_up = g3.up_x;
      server_up = g3.up_y;
      client_queue = c;
      server_queue = s;
      client_second = holds_none capacity w2.client w2.server g2.both.own_x g2.both.to_y o2.0;
      server_second = holds_none capacity w2.server w2.client g2.both.own_y g2.both.to_x o2.1;
    }

pub law : SettlingLaw
law limit capacity window moves w spans run =
    let same = run_windows limit capacity (blank_machine window) moves w run in
    let fits : (o : Option ℕ) → o ≡ window → Spans o capacity = λ o e. subst (λ (o : Option ℕ). Spans o capacity) (sym e) spans in
    settles capacity w (fits w.client.end.window same.0) (fits w.server.end.window same.1) (reached_well limit capacity window moves w run)
