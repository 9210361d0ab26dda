-- Bytes arrive at a side, cut anywhere: the machine makes one arrival for each packet.
use Rattle.std.proofs.Common.{◌≡◌, ℕ, true, false, Option, Some, None, List, [], ◌∷◌, ◌++◌, length, replicate, refl, sym, ap, subst, ◌∙◌}
use Rattle.std.proofs.Common.{append_assoc, inl, inr}
use Rattle.std.proofs.lemmas.List.{append-nil}
use Rattle.mq_packet.specs.declared.packet.Packet.{Packet}
use Rattle.mq_decode.specs.Limits.{Bounds}
use Rattle.mq_decode.specs.Grammar.{Stream, Pending}
use Rattle.mq_decode.specs.Laws.{ReadsAgain}
use Rattle.mq_flow.specs.Window.{Spans}
use Rattle.mq_end.specs.declared.state.State.{State}
use Rattle.mq_end.specs.declared.state.State.TheVariants.{Disconnected, Connecting, Connected}
use Rattle.mq_end.specs.declared.happening.Happening.{Happening}
use Rattle.mq_end.specs.declared.reason.CloseReason.{CloseReason}
use Rattle.mq_end.specs.declared.reason.CloseReason.TheVariants as reasons
use Rattle.mq_end.specs.End.{End, Reply, is_live, over, closes, followed, first_reason, silent, one_by_one}
use Rattle.mq_end.specs.Laws.{ClosingLaws}
use Rattle.mq_end.specs.State.{EndState, EncodesAll}
use Rattle.mq_end.specs.Receiving.{Ending, Waits, Closes, Breaks, Starves, Receives, Shows}
use Rattle.mq_world.specs.declared.side.Side.{Side}
use Rattle.mq_world.specs.declared.side.Side.TheVariants.{Client, Server}
use Rattle.mq_world.specs.Half.{Half, Arrives, Drops, moved, kept, put, took, gets, freed_with}
use Rattle.mq_world.specs.Machine.{Machine, Move, By, Run, after}
use Rattle.mq_world.specs.Settling.{arrivals}
use Rattle.mq_world.specs.Identifiers.{half_of}
use Rattle.mq_world.specs.Carries.{WiredSide, Wired, CarriesSide, Reached}
use Rattle.mq_world.specs.OverBytes.{Stands, Delivers, near, far, facing, SameBounds, with_more, handed_with, left_on, hearing, faulted, ReceivesAt}
use Rattle.mq_world.proofs.Streams.{cut, no_fault}
use Rattle.mq_world.proofs.Together.{law as at_once}
use Rattle.mq_world.proofs.Both.{turned}
use Rattle.mq_world.proofs.Whole.{holds}
use Rattle.mq_world.proofs.Windows.{IsOther, not_window, all_other}
use Rattle.mq_world.proofs.Chains.{chains}
use Rattle.mq_world.proofs.Standing.{other, face, put_none, side_near, follows, all_put_out}

-- ---- an end that closes

some_not : (reason : CloseReason) → None ≡ Some reason → ⊥
some_not reason e = cc

gets_over : ClosingLaws → (side : Side) (p : Packet) (e : End) (reason : CloseReason) → (gets side p e).close ≡ Some reason → (gets side p e).end ≡ over e
gets_over laws Client p e reason h = laws.client p e reason h
gets_over laws Server p e reason h = laws.server p e reason h

ignores : ClosingLaws → (side : Side) (ps : List Packet) (e : End) → e.state ≡ Disconnected → one_by_one (gets side) ps e ≡ silent e
ignores laws Client ps e h = laws.client_ignores ps e h
ignores laws Server ps e h = laws.server_ignores ps e h

pub closes_all : ClosingLaws → (side : Side) (ps : List Packet) (e : End) (reason : CloseReason) → (one_by_one (gets side) ps e).close ≡ Some reason
    → (one_by_one (gets side) ps e).end.state ≡ Disconnected
closes_all laws side [] e reason h = absurd (some_not reason h)
closes_all laws side (p ∷ ps) e reason h = at (gets side p e).close refl h (closes_all laws side ps (gets side p e).end reason)
  where
    at : (c : Option CloseReason) → (gets side p e).close ≡ c → first_reason c (one_by_one (gets side) ps (gets side p e).end).close ≡ Some reason
        → ((one_by_one (gets side) ps (gets side p e).end).close ≡ Some reason → (one_by_one (gets side) ps (gets side p e).end).end.state ≡ Disconnected)
        → (one_by_one (gets side) ps (gets side p e).end).end.state ≡ Disconnected
    at None is h next = next h
    at (Some first) is h next =
        let closed : (gets side p e).end.state ≡ Disconnected = ap (λ (f : End). f.state) (gets_over laws side p e first is) in
        ap (λ (r : Reply). r.end.state) (ignores laws side ps (gets side p e).end closed) ∙ closed

-- ---- windows

-- in a machine that a run reaches, an end whose window is not less than the capacity does not close
-- because of it
fits_all : (limit capacity : ℕ) (side : Side) (m : Machine) → Reached limit capacity m → Spans (half_of side m).end.window capacity
    → (ps rest : List Packet) → (half_of side m).coming ≡ kept (half_of side m).end.state (ps ++ rest)
    → IsOther (one_by_one (gets side) ps (half_of side m).end).close
fits_all limit capacity Client m r spans ps rest h = all_other capacity Client ps rest m.client m.server (holds limit capacity r.0 r.1 m r.2) spans h
fits_all limit capacity Server m r spans ps rest h =
    all_other capacity Server ps rest m.server m.client (turned capacity m.client m.server (holds limit capacity r.0 r.1 m r.2)) spans h

-- ---- the side to which bytes arrive

kept_live : (st : State) (q : List Packet) → is_live st ≡ true → q ≡ kept st q
kept_live Disconnected q live = cc
kept_live Connecting q live = refl
kept_live Connected q live = refl

kept_stream : (limit : Bounds) (st : State) (q : List Packet) (b : List ℕ) → Stream limit q b → is_live st ≡ true → Stream limit (kept st q) b
kept_stream limit st q b s live = subst (λ (x : List Packet). Stream limit x b) (kept_live st q live) s

not_live : (st : State) → st ≡ Disconnected → is_live st ≡ true → ⊥
not_live st closed live = true_not (sym live ∙ ap is_live closed)
  where
    true_not : true ≡ false → ⊥
    true_not e = cc

-- The side shows the effect of a reply.
heard_side : (limit : Bounds) (capacity : ℕ) (x : WiredSide) (h : Half) (left : List ℕ) (new : EndState) (happenings : List Happening)
    (acknowledged : List ℕ) (closed : Option CloseReason) (rest : List Packet) (r : Reply)
    → CarriesSide limit capacity x h → SameBounds x.state new → new.end ≡ r.end → happenings ≡ r.happenings → acknowledged ≡ r.freed
    → (is_live r.end.state ≡ true → Stream limit rest (new.held ++ left_on closed left))
    → CarriesSide limit capacity (hearing left new happenings acknowledged closed x) (took h rest r).half
heard_side limit capacity x h left new happenings acknowledged closed rest r k bounds after told freed bytes = record {
  end = after;
  bytes = λ live. kept_stream limit r.end.state rest (new.held ++ left_on closed left) (bytes live) live;
  output = refl;
  reserved = refl;
  limits = bounds.0 ∙ k.limits;
  room = bounds.1 ∙ k.room;
  accepted = k.accepted;
  handed = λ i. handed_with (told i) (k.handed i);
  freed = λ i. freed_with (k.accepted i).at_least_once (freed i) (k.freed i);
}

-- ---- the machine

at_once_at : (side : Side) (ps rest : List Packet) (m : Machine) → (half_of side m).coming ≡ kept (half_of side m).end.state (ps ++ rest)
    → arrivals (length ps) side m ≡ face side (took (half_of side m) rest (one_by_one (gets side) ps (half_of side m).end)).half
    (put (one_by_one (gets side) ps (half_of side m).end).out (other side m))
at_once_at Client ps rest m h = at_once.client ps rest m h
at_once_at Server ps rest m h = at_once.server ps rest m h

arrived : (limit capacity : ℕ) (side : Side) (ps rest : List Packet) (m : Machine) → (half_of side m).coming ≡ ps ++ rest
    → is_live (half_of side m).end.state ≡ true
    → Run limit capacity m (replicate (length ps) (By side Arrives))
    (face side (took (half_of side m) rest (one_by_one (gets side) ps (half_of side m).end)).half
    (put (one_by_one (gets side) ps (half_of side m).end).out (other side m)))
arrived limit capacity side ps rest m q live =
    subst (λ (v : Machine). Run limit capacity m (replicate (length ps) (By side Arrives)) v)
    (at_once_at side ps rest m (q ∙ kept_live (half_of side m).end.state (ps ++ rest) live))
    (chains.arrive limit capacity (length ps) side m)

-- the connection is lost then
lost : (limit capacity : ℕ) (side : Side) (m : Machine) (moves : List Move) (h y : Half) → Run limit capacity m moves (face side h y)
    → Run limit capacity m (moves ++ By side Drops ∷ []) (face side (moved side Drops h).half y)
lost limit capacity Client m moves h y run =
    chains.joins limit capacity m (face Client h y) (face Client (moved Client Drops h).half y) moves (By Client Drops ∷ []) run
    (tt, ap (face Client (moved Client Drops h).half) (sym (put_none y)))
lost limit capacity Server m moves h y run =
    chains.joins limit capacity m (face Server h y) (face Server (moved Server Drops h).half y) moves (By Server Drops ∷ []) run
    (tt, ap (face Server (moved Server Drops h).half) (sym (put_none y)))

-- ---- bytes arrive

-- The facts after bytes arrived: the complete packets, the queue behind them, and the visible
-- effect.
record Came (limit : Bounds) (capacity : ℕ) (side : Side) (w : Wired) (m : Machine) (b left : List ℕ) (new : EndState) (happenings : List Happening)
    (acknowledged : List ℕ) (closed : Option CloseReason) (ps : List Packet) (front rest : List ℕ) (r : Reply) : Type 0 where
  stands : Stands limit capacity w m
  live : is_live (half_of side m).end.state ≡ true
  stream : Stream limit ps front
  parts : b ≡ front ++ rest
  later : List Packet
  queue : (half_of side m).coming ≡ ps ++ later
  behind : Stream limit later (rest ++ left)
  bounds : SameBounds (near side w).state new
  shows : Shows r (near side w).state new happenings acknowledged closed

module _ (limit : Bounds) (capacity : ℕ) (side : Side) (w : Wired) (m : Machine) (b left : List ℕ) (new : EndState) (happenings : List Happening)
    (acknowledged : List ℕ) (closed : Option CloseReason) (ps : List Packet) (front rest : List ℕ) (r : Reply) where
  -- The effect of the packets.
  abbrev all : Reply
  all = one_by_one (gets side) ps (half_of side m).end

  abbrev Whole : Type 0
  Whole = Delivers limit capacity side m b closed
      (facing side (hearing left new happenings acknowledged closed (near side w)) (with_more new.output (far side w)))

  abbrev Here : Type 0
  Here = Came limit capacity side w m b left new happenings acknowledged closed ps front rest r

  -- nothing waited to be written
  put_out : Here → EncodesAll r.out new.output
  put_out c = all_put_out r.out (near side w).state.output new.output (side_near limit capacity side w m c.stands.carries).output c.shows.out

  came : (c : Here) → r ≡ all → (closed ≡ None → Pending limit rest)
      → (is_live all.end.state ≡ true → Stream limit c.later (new.held ++ left_on closed left)) → Whole
  came c same pending bytes =
      let x = side_near limit capacity side w m c.stands.carries in
      let moves : List Move = replicate (length ps) (By side Arrives) in
      let run = arrived limit.most capacity side ps c.later m c.queue c.live in
      let near_side =
      heard_side limit capacity (near side w) (half_of side m) left new happenings acknowledged closed c.later all x c.bounds
      (c.shows.after ∙ ap (λ (r : Reply). r.end) same) (c.shows.told ∙ ap (λ (r : Reply). r.happenings) same)
      (c.shows.freed ∙ ap (λ (r : Reply). r.freed) same) bytes in
      record {
        packets = ps;
        moves = moves;
        comes = record { front = front; rest = rest; stream = c.stream; parts = c.parts; all = pending };
        later = c.later;
        first = c.queue;
        arrivals = inl refl;
        fits = λ spans. not_window closed
            (subst IsOther (sym (c.shows.close ∙ ap (λ (r : Reply). r.close) same))
            (fits_all limit.most capacity side m c.stands.reached spans ps c.later
            (c.queue ∙ kept_live (half_of side m).end.state (ps ++ c.later) c.live)));
        follows = follows limit capacity side w m moves (hearing left new happenings acknowledged closed (near side w))
            (took (half_of side m) c.later all).half all.out new.output c.stands run
            (subst (λ (r : Reply). EncodesAll r.out new.output) same (put_out c)) near_side;
      }

  -- memory ran out
  starved : Here → all.close ≡ None → r ≡ followed all (closes reasons.Memory all.end) → Whole
  starved c none same =
      let x = side_near limit capacity side w m c.stands.carries in
      let moves : List Move = replicate (length ps) (By side Arrives) ++ By side Drops ∷ [] in
      let last : Reply = record all { end = over all.end } in
      let h : Half = (took (half_of side m) c.later all).half in
      let run = lost limit.most capacity side m (replicate (length ps) (By side Arrives)) h (put all.out (other side m))
      (arrived limit.most capacity side ps c.later m c.queue c.live) in
      let why : closed ≡ Some reasons.Memory =
      c.shows.close ∙ (ap (λ (r : Reply). r.close) same ∙ ap (λ (o : Option CloseReason). first_reason o (Some reasons.Memory)) none) in
      let out : EncodesAll all.out new.output =
      subst (λ (ps : List Packet). EncodesAll ps new.output) (ap (λ (r : Reply). r.out) same ∙ append-nil all.out) (put_out c) in
      let near_side =
      heard_side limit capacity (near side w) (half_of side m) left new happenings acknowledged closed [] last x c.bounds
      (c.shows.after ∙ ap (λ (r : Reply). r.end) same) (c.shows.told ∙ (ap (λ (r : Reply). r.happenings) same ∙ append-nil all.happenings))
      (c.shows.freed ∙ (ap (λ (r : Reply). r.freed) same ∙ append-nil all.freed)) (λ live. cc) in
      record {
        packets = ps;
        moves = moves;
        comes = record {
          front = front;
          rest = rest;
          stream = c.stream;
          parts = c.parts;
          all = λ open_still. absurd (some_not reasons.Memory (sym open_still ∙ why));
        };
        later = c.later;
        first = c.queue;
        arrivals = inr (why, refl);
        fits = λ spans. not_window closed (subst IsOther (sym why) tt);
        follows = follows limit capacity side w m moves (hearing left new happenings acknowledged closed (near side w))
            (took (half_of side m) [] last).half all.out new.output c.stands run out near_side;
      }

  ended : ReadsAgain → ClosingLaws → Here → Ending limit (faulted side) all rest r new.held → Whole
  ended reads laws c (Waits pending none same held) =
      let open_still : closed ≡ None = c.shows.close ∙ (ap (λ (r : Reply). r.close) same ∙ none) in
      let P : List ℕ × Option CloseReason → Type 0 = λ z. Stream limit c.later (z.0 ++ left_on z.1 left) in
      came c same (λ n. pending) (λ live. subst P (λ i. (sym held i, sym open_still i)) c.behind)
  ended reads laws c (Closes reason some same held) =
      let why : closed ≡ Some reason = c.shows.close ∙ (ap (λ (r : Reply). r.close) same ∙ some) in
      came c same (λ n. absurd (some_not reason (sym n ∙ why)))
      (λ live. absurd (not_live all.end.state (closes_all laws side ps (half_of side m).end reason some) live))
  ended reads laws c (Breaks fault bad none same held) = absurd (no_fault reads limit c.later rest left fault.kind fault.place c.behind bad)
  ended reads laws c (Starves some none same held) = starved c none same

pub deliver : ReadsAgain → ClosingLaws
    → (limit : Bounds) (capacity : ℕ) (side : Side) (w : Wired) (m : Machine) (piece left : List ℕ) (new : EndState) (happenings : List Happening)
    (acknowledged : List ℕ) (closed : Option CloseReason) → Stands limit capacity w m
    → is_live (near side w).state.end.state ≡ true → (near side w).wire ≡ piece ++ left
    → ReceivesAt side piece (near side w).state new happenings acknowledged closed → SameBounds (near side w).state new
    → Delivers limit capacity side m ((near side w).state.held ++ piece) closed
    (facing side (hearing left new happenings acknowledged closed (near side w)) (with_more new.output (far side w)))
deliver reads laws limit capacity side w m piece left new happenings acknowledged closed k live wire receives bounds =
    let x = side_near limit capacity side w m k.carries in
    let b : List ℕ = (near side w).state.held ++ piece in
    let r : Reply = receives.0 in
    let P : Bounds × End → Type 0 = λ z. Receives z.0 (gets side) (faulted side) b z.1 r new.held in
    let got = subst P (λ i. (x.limits i, x.end i)) receives.1 in
    let here : is_live (half_of side m).end.state ≡ true = ap (λ (e : End). is_live e.state) (sym x.end) ∙ live in
    let parts : (near side w).state.held ++ (near side w).wire ≡ got.front ++ (got.rest ++ left) =
    ap (λ (q : List ℕ). (near side w).state.held ++ q) wire
    ∙ (sym (append_assoc (near side w).state.held piece left) ∙ (ap (λ (q : List ℕ). q ++ left) got.parts ∙ append_assoc got.front got.rest left)) in
    let behind = cut reads limit (half_of side m).coming got.packets ((near side w).state.held ++ (near side w).wire) got.front (got.rest ++ left)
    (x.bytes here) got.stream parts in
    ended limit capacity side w m b left new happenings acknowledged closed got.packets got.front got.rest r reads laws
    (record {
      stands = k;
      live = here;
      stream = got.stream;
      parts = got.parts;
      later = behind.0;
      queue = behind.1;
      behind = behind.2;
      bounds = bounds;
      shows = receives.2;
    })
    got.ending
