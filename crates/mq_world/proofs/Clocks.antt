-- A client that leaves, and clocks that advance, derived from the ends.
use Rattle.std.proofs.Common.{◌≡◌, ℕ, Bool, true, false, ◌&&◌, if◌then◌else◌, Option, None, Result, Err, List, [], ◌∷◌, ◌++◌, refl, sym, ap, subst}
use Rattle.std.proofs.Common.{◌∙◌, IfSome, IfNone, IfErr, append-nil}
use Rattle.mq_packet.specs.declared.packet.Packet.TheVariants as packets
use Rattle.mq_decode.specs.Limits.{Bounds}
use Rattle.mq_end.specs.declared.reason.CloseReason.{CloseReason}
use Rattle.mq_end.specs.declared.reason.CloseReason.TheVariants as reasons
use Rattle.mq_end.specs.declared.refusal.PublishRefusal.{PublishRefusal}
use Rattle.mq_end.specs.declared.refusal.PublishRefusal.TheVariants as refusals
use Rattle.mq_end.specs.End.{is_up, closes, silent}
use Rattle.mq_end.specs.Client.{leaves, leave_refusal}
use Rattle.mq_end.specs.KeepAlive.{client_ticks, is_due, is_late, server_ticks}
use Rattle.mq_end.specs.State.{EndState, PutsOut}
use Rattle.mq_end.specs.Receiving.{Acts}
use Rattle.mq_end.specs.Requests.{Ticks}
use Rattle.mq_world.specs.declared.side.Side.TheVariants.{Client, Server}
use Rattle.mq_world.specs.Half.{Drops, Leaves, Pings}
use Rattle.mq_world.specs.Machine.{Machine, Move, By}
use Rattle.mq_world.specs.Carries.{WiredSide, Wired}
use Rattle.mq_world.specs.OverBytes.{OverBytes, Stands, Follows, Alike, SameBounds, written, with_more, cut_off, left_on}
use Rattle.mq_world.specs.Time.{SameTimes, later}
use Rattle.mq_world.specs.World.{IsLeft, IsNotLeft, IsTold}
use Rattle.mq_world.proofs.Standing.{alike_itself, all_put_out, no_more_bytes}
use Rattle.mq_world.proofs.Worlds.{on_wire, reason_is}

-- ---- leaving

pub left_at : OverBytes → (limit : Bounds) (capacity : ℕ) (w v : Wired) (new : EndState) → w.client.state.output ≡ []
    → leave_refusal w.client.state.end ≡ None → Acts (leaves w.client.state.end) w.client.state new
    → v ≡ record { client = cut_off new w.client; server = with_more new.output w.server } → IsLeft limit capacity w v
left_at law limit capacity w v new quiet free a e = record {
  allowed = free;
  wire = ap (λ (u : Wired). u.client.wire) e;
  out = subst (λ (u : Wired). PutsOut (leaves w.client.state.end).out w.server.wire u.server.wire) (sym e)
      (on_wire (leaves w.client.state.end).out w.client.state.output new.output w.server.wire quiet a.out);
  times = subst (λ (u : Wired). SameTimes w u) (sym e)
      (record { client = record { clock = refl; last_activity = ap (λ (z : EndState). z.last_activity) a.state }; server = record { clock = refl; last_activity = refl } });
  moves = λ n t. subst (λ (u : Wired). Follows limit capacity n (By Client Leaves ∷ []) u) (sym e)
      (law.leave limit capacity w n new t free (ap (λ (z : EndState). z.end) a.state) a.out
      (ap (λ (z : EndState). z.limit) a.state, ap (λ (z : EndState). z.capacity) a.state));
}

pub not_left_at : {A : Type 0} (w v : Wired) (why : PublishRefusal) (result : Result A PublishRefusal) → result ≡ Err why
    → IfSome (leave_refusal w.client.state.end) (λ y. result ≡ Err y)
    → IfNone (leave_refusal w.client.state.end) (IfErr result (λ y. y ≡ refusals.Memory)) → v ≡ w → IsNotLeft why w v
not_left_at w v why result e a b same = record { reason = reason_is (leave_refusal w.client.state.end) why result e a b; same = same }

-- ---- The client's `tick`

follows_alike : OverBytes → (limit : Bounds) (capacity : ℕ) (m : Machine) (moves : List Move) (w v : Wired) → Follows limit capacity m moves w
    → Alike w.client v.client → Alike w.server v.server → Follows limit capacity m moves v
follows_alike law limit capacity m moves w v f a b = record { machine = f.machine; run = f.run; stands = law.alike limit capacity w v f.machine f.stands a b }

-- a clock shows nothing
alike_later : (x : WiredSide) (now : ℕ) → Alike x (record x { clock = now })
alike_later x now =
    record { end = refl; bytes = λ live. refl; output = refl; reserved = refl; bounds = (refl, refl); accepted = refl; handed = refl; freed = refl }

-- the world after the client's clock advanced
abbrev asked : Wired → ℕ → EndState → Wired
asked w now new = record { client = record w.client { state = written new; clock = now }; server = with_more new.output w.server }

-- The client sends PINGREQ if one is due.
asks : OverBytes → (limit : Bounds) (capacity : ℕ) (w : Wired) (m : Machine) (now : ℕ) (due : Bool) (new : EndState) → Stands limit capacity w m
    → (due ≡ true → is_up w.client.state.end.state ≡ true)
    → PutsOut (if due then packets.PingReq ∷ [] else []) w.client.state.output new.output → new.end ≡ w.client.state.end
    → new.held ≡ w.client.state.held → SameBounds w.client.state new
    → Follows limit capacity m (if due then By Client Pings ∷ [] else []) (asked w now new)
asks law limit capacity w m now true new s up out end held bounds =
    let x : WiredSide = record w.client { state = written new } in
    let y : WiredSide = with_more new.output w.server in
    follows_alike law limit capacity m (By Client Pings ∷ []) (record { client = x; server = y }) (asked w now new)
    (law.ping limit capacity w m new s (up refl) end out held bounds) (alike_later x now) (alike_itself y)
asks law limit capacity w m now false new s up out end held bounds =
    let quiet : new.output ≡ [] = all_put_out [] w.client.state.output new.output s.carries.client.output out in
    let a : Alike w.client (asked w now new).client = record {
      end = end;
      bytes = λ live. ap (λ (b : List ℕ). b ++ w.client.wire) held;
      output = sym s.carries.client.output;
      reserved = sym s.carries.client.reserved;
      bounds = bounds;
      accepted = refl;
      handed = refl;
      freed = refl;
    } in
    let b : Alike w.server (asked w now new).server =
    subst (λ (y : WiredSide). Alike w.server y) (sym (ap (λ (b : List ℕ). with_more b w.server) quiet ∙ no_more_bytes w.server)) (alike_itself w.server) in
    record { machine = m; run = refl; stands = law.alike limit capacity w (asked w now new) m s a b }

first_of_both : (a b : Bool) → (a && b) ≡ true → a ≡ true
first_of_both true b e = refl
first_of_both false b e = e

pub asked_at : OverBytes → (limit : Bounds) (capacity : ℕ) (w v : Wired) (more : ℕ) (new : EndState) → w.client.state.output ≡ []
    → Ticks (later w.client.clock more) w.client.state new
    → v ≡ record { client = record w.client { state = written new; clock = later w.client.clock more }; server = with_more new.output w.server }
    → IsTold limit capacity Client more None w v
asked_at law limit capacity w v more new quiet t e =
    let old = w.client.state in
    let now = later w.client.clock more in
    let due = is_due old.last_activity old.end.keep_alive now in
    subst (λ (u : Wired). IsTold limit capacity Client more None w u) (sym e) (record {
      clock = refl;
      closes = refl;
      last_activity = ap (λ (z : EndState). z.last_activity) t.state;
      other = record { clock = refl; last_activity = refl };
      left = refl;
      out = on_wire (client_ticks old.last_activity now old.end).out old.output new.output w.server.wire quiet t.out;
      moves = λ n s. asks law limit capacity w n now (is_up old.end.state && due) new s (first_of_both (is_up old.end.state) due) t.out
          (ap (λ (z : EndState). z.end) t.state) (ap (λ (z : EndState). z.held) t.state)
          (ap (λ (z : EndState). z.limit) t.state, ap (λ (z : EndState). z.capacity) t.state);
    })

-- ---- The server's `tick`

-- the world after the server's clock advanced
abbrev told : Wired → ℕ → Option CloseReason → EndState → Wired
told w now closed new = record { client = w.client; server = record w.server { state = new; clock = now; wire = left_on closed w.server.wire } }

-- The server closes if the client is late.
drops_late : OverBytes → (limit : Bounds) (capacity : ℕ) (w : Wired) (m : Machine) (now : ℕ) (late : Bool) (closed : Option CloseReason)
    (new : EndState) → Stands limit capacity w m
    → closed ≡ (if late then closes reasons.KeepAlive w.server.state.end else silent w.server.state.end).close
    → Acts (if late then closes reasons.KeepAlive w.server.state.end else silent w.server.state.end) w.server.state new
    → Follows limit capacity m (if late then By Server Drops ∷ [] else []) (told w now closed new)
drops_late law limit capacity w m now true closed new s is a =
    let quiet : new.output ≡ [] = all_put_out [] w.server.state.output new.output s.carries.server.output a.out in
    let x : WiredSide = cut_off new w.server in
    let b : Alike x (told w now closed new).server = record {
      end = refl;
      bytes = λ live. ap (λ (c : Option CloseReason). new.held ++ left_on c w.server.wire) is;
      output = quiet;
      reserved = ap (λ (z : EndState). z.room.bytes) a.state ∙ s.carries.server.reserved;
      bounds = (refl, refl);
      accepted = refl;
      handed = refl;
      freed = refl;
    } in
    follows_alike law limit capacity m (By Server Drops ∷ []) (record { client = w.client; server = x }) (told w now closed new)
    (law.drop limit capacity Server w m new s (ap (λ (z : EndState). z.end) a.state)
    (ap (λ (z : EndState). z.limit) a.state, ap (λ (z : EndState). z.capacity) a.state)) (alike_itself w.client) b
drops_late law limit capacity w m now false closed new s is a =
    let quiet : new.output ≡ [] = all_put_out [] w.server.state.output new.output s.carries.server.output a.out in
    let held = ap (λ (z : EndState). z.held) a.state in
    let b : Alike w.server (told w now closed new).server = record {
      end = ap (λ (z : EndState). z.end) a.state;
      bytes = λ live. (λ i. held i ++ left_on (is i) w.server.wire);
      output = quiet ∙ sym s.carries.server.output;
      reserved = ap (λ (z : EndState). z.room.bytes) a.state;
      bounds = (ap (λ (z : EndState). z.limit) a.state, ap (λ (z : EndState). z.capacity) a.state);
      accepted = refl;
      handed = refl;
      freed = refl;
    } in
    record { machine = m; run = refl; stands = law.alike limit capacity w (told w now closed new) m s (alike_itself w.client) b }

pub told_at : OverBytes → (limit : Bounds) (capacity : ℕ) (w v : Wired) (more : ℕ) (closed : Option CloseReason) (new : EndState)
    → closed ≡ (server_ticks w.server.state.last_activity (later w.server.clock more) w.server.state.end).close
    → Acts (server_ticks w.server.state.last_activity (later w.server.clock more) w.server.state.end) w.server.state new
    → v ≡ record {
      client = w.client;
      server = record w.server {
        state = new;
        clock = later w.server.clock more;
        wire = left_on closed w.server.wire;
      };
    } → IsTold limit capacity Server more closed w v
told_at law limit capacity w v more closed new is a e =
    let old = w.server.state in
    let now = later w.server.clock more in
    subst (λ (u : Wired). IsTold limit capacity Server more closed w u) (sym e) (record {
      clock = refl;
      closes = is;
      last_activity = ap (λ (z : EndState). z.last_activity) a.state;
      other = record { clock = refl; last_activity = refl };
      left = refl;
      out = ([], refl, sym (append-nil w.client.wire));
      moves = λ n s. drops_late law limit capacity w n now (is_up old.end.state && is_late old.last_activity old.end.keep_alive now) closed new s is a;
    })
