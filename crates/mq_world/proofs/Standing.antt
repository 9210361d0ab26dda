-- A world over bytes carries a machine: the visible state of each side, and how it follows the
-- machine's moves.
use Rattle.std.proofs.Common.{◌≡◌, ℕ, ◌≤◌, true, false, Option, List, [], ◌∷◌, ◌++◌, refl, sym, ap, subst, ◌∙◌}
use Rattle.std.proofs.lemmas.List.{append-nil}
use Rattle.mq_packet.specs.declared.packet.Packet.{Packet}
use Rattle.mq_decode.specs.Limits.{Bounds}
use Rattle.mq_decode.specs.Grammar.{Stream}
use Rattle.mq_end.specs.End.{is_live, blank_end}
use Rattle.mq_end.specs.State.{EndState, EncodesAll, PutsOut}
use Rattle.mq_world.specs.declared.side.Side.{Side}
use Rattle.mq_world.specs.declared.side.Side.TheVariants.{Client, Server}
use Rattle.mq_world.specs.Half.{Half, Action, May, moved, put}
use Rattle.mq_world.specs.Machine.{Machine, Move, By, Run, blank_machine}
use Rattle.mq_world.specs.Headline.{AtLeastOnce, ExactlyOnce, Headline}
use Rattle.mq_world.specs.Identifiers.{half_of}
use Rattle.mq_world.specs.Carries.{WiredSide, Wired, CarriesSide, Carries, Reached, seen}
use Rattle.mq_world.specs.OverBytes.{Stands, Follows, near, far, facing, with_more, blank_side, Alike}
use Rattle.mq_world.proofs.Together.{joined_nil}
use Rattle.mq_world.proofs.Chains.{chains}
use Rattle.mq_world.proofs.Whole.{headline}
use Rattle.mq_world.proofs.Wires.{reached_fits, grown}

-- ---- machines

-- the side that a side faces
abbrev pub other : Side → Machine → Half
other Client m = m.server
other Server m = m.client

-- the machine of a side and the side that it faces
abbrev pub face : Side → Half → Half → Machine
face Client x y = record { client = x; server = y }
face Server x y = record { client = y; server = x }

pub put_none : (h : Half) → put [] h ≡ h
put_none h = λ i. record h { coming = joined_nil h.end.state h.coming i }

pub reached_on : (limit capacity : ℕ) (m v : Machine) (moves : List Move) → Reached limit capacity m → Run limit capacity m moves v → Reached limit capacity v
reached_on limit capacity m v moves r run = (r.0, r.1 ++ moves, chains.joins limit capacity (blank_machine r.0) m v r.1 moves r.2 run)

-- ---- sides

pub side_near : (limit : Bounds) (capacity : ℕ) (side : Side) (w : Wired) (m : Machine) → Carries limit capacity w m
    → CarriesSide limit capacity (near side w) (half_of side m)
side_near limit capacity Client w m k = k.client
side_near limit capacity Server w m k = k.server

pub side_far : (limit : Bounds) (capacity : ℕ) (side : Side) (w : Wired) (m : Machine) → Carries limit capacity w m
    → CarriesSide limit capacity (far side w) (other side m)
side_far limit capacity Client w m k = k.server
side_far limit capacity Server w m k = k.client

both_sides : (limit : Bounds) (capacity : ℕ) (side : Side) (x y : WiredSide) (h g : Half) → CarriesSide limit capacity x h
    → CarriesSide limit capacity y g → Carries limit capacity (facing side x y) (face side h g)
both_sides limit capacity Client x y h g a b = record { client = a; server = b }
both_sides limit capacity Server x y h g a b = record { client = b; server = a }

far_fits : (limit : Bounds) (capacity : ℕ) (side : Side) (w : Wired) (m : Machine) (x : WiredSide) (h : Half) (ps : List Packet) (c : List ℕ)
    → Stands limit capacity w m → Reached limit.most capacity (face side h (put ps (other side m))) → EncodesAll ps c
    → CarriesSide limit capacity (with_more c (far side w)) (put ps (other side m))
far_fits limit capacity Client w m x h ps c k r s =
    grown limit capacity w.server m.server ps c k.large (reached_fits limit.most capacity (face Client h (put ps m.server)) r).1 s k.carries.server
far_fits limit capacity Server w m x h ps c k r s =
    grown limit capacity w.client m.client ps c k.large (reached_fits limit.most capacity (face Server h (put ps m.client)) r).0 s k.carries.client

-- A side moves, and its output is in flight to the other.
pub follows : (limit : Bounds) (capacity : ℕ) (side : Side) (w : Wired) (m : Machine) (moves : List Move) (x : WiredSide) (h : Half)
    (ps : List Packet) (c : List ℕ) → Stands limit capacity w m
    → Run limit.most capacity m moves (face side h (put ps (other side m))) → EncodesAll ps c → CarriesSide limit capacity x h
    → Follows limit capacity m moves (facing side x (with_more c (far side w)))
follows limit capacity side w m moves x h ps c k run s near_side =
    let v : Machine = face side h (put ps (other side m)) in
    let r = reached_on limit.most capacity m v moves k.reached run in
    record {
      machine = v;
      run = run;
      stands = record {
        large = k.large;
        carries = both_sides limit capacity side x (with_more c (far side w)) h (put ps (other side m)) near_side
            (far_fits limit capacity side w m x h ps c k r s);
        reached = r;
      };
    }

one_move : (limit capacity : ℕ) (side : Side) (m : Machine) (action : Action) → May limit capacity side action (half_of side m)
    → Run limit capacity m (By side action ∷ [])
    (face side (moved side action (half_of side m)).half (put (moved side action (half_of side m)).out (other side m)))
one_move limit capacity Client m action may = (may, refl)
one_move limit capacity Server m action may = (may, refl)

-- the same for one move
pub follows_one : (limit : Bounds) (capacity : ℕ) (side : Side) (w : Wired) (m : Machine) (action : Action) (x : WiredSide) (c : List ℕ)
    → Stands limit capacity w m → May limit.most capacity side action (half_of side m)
    → EncodesAll (moved side action (half_of side m)).out c → CarriesSide limit capacity x (moved side action (half_of side m)).half
    → Follows limit capacity m (By side action ∷ []) (facing side x (with_more c (far side w)))
follows_one limit capacity side w m action x c k may s near_side =
    follows limit capacity side w m (By side action ∷ []) x (moved side action (half_of side m)).half (moved side action (half_of side m)).out c k
    (one_move limit.most capacity side m action may) s near_side

-- No output.
pub no_more_bytes : (y : WiredSide) → with_more [] y ≡ y
no_more_bytes y = λ i. record y { wire = append-nil y.wire i }

-- The whole output, if none was pending.
pub all_put_out : (ps : List Packet) (old new : List ℕ) → old ≡ [] → PutsOut ps old new → EncodesAll ps new
all_put_out ps old new e p = subst (EncodesAll ps) (sym (p.2 ∙ ap (λ (b : List ℕ). b ++ p.0) e)) p.1

-- ---- worlds

pub blank : (limit : Bounds) (capacity : ℕ) (window : Option ℕ) (c s : EndState) → 64 ≤ limit.most → c.end ≡ blank_end window → c.limit ≡ limit
    → c.capacity ≡ capacity → s.end ≡ blank_end window → s.limit ≡ limit → s.capacity ≡ capacity
    → Stands limit capacity (record { client = blank_side c; server = blank_side s }) (blank_machine window)
blank limit capacity window c s large ce cl cc_ se sl sc = record {
  large = large;
  carries = record {
    client = record { end = ce; bytes = λ live. cc; output = refl; reserved = refl; limits = cl; room = cc_; accepted = refl; handed = refl; freed = refl };
    server = record { end = se; bytes = λ live. cc; output = refl; reserved = refl; limits = sl; room = sc; accepted = refl; handed = refl; freed = refl };
  };
  reached = (window, [], refl);
}

alike_side : (limit : Bounds) (capacity : ℕ) (x y : WiredSide) (h : Half) → Alike x y → CarriesSide limit capacity x h → CarriesSide limit capacity y h
alike_side limit capacity x y h a k = record {
  end = a.end ∙ k.end;
  bytes = λ live. subst (Stream limit h.coming) (sym (a.bytes (ap (λ e. is_live e.state) k.end ∙ live))) (k.bytes live);
  output = a.output ∙ k.output;
  reserved = a.reserved ∙ k.reserved;
  limits = a.bounds.0 ∙ k.limits;
  room = a.bounds.1 ∙ k.room;
  accepted = a.accepted ∙ k.accepted;
  handed = a.handed ∙ k.handed;
  freed = a.freed ∙ k.freed;
}

pub alike : (limit : Bounds) (capacity : ℕ) (w v : Wired) (m : Machine) → Stands limit capacity w m → Alike w.client v.client
    → Alike w.server v.server → Stands limit capacity v m
alike limit capacity w v m k a b = record {
  large = k.large;
  carries = record {
    client = alike_side limit capacity w.client v.client m.client a k.carries.client;
    server = alike_side limit capacity w.server v.server m.server b k.carries.server;
  };
  reached = k.reached;
}

pub alike_itself : (x : WiredSide) → Alike x x
alike_itself x =
    record { end = refl; bytes = λ live. refl; output = refl; reserved = refl; bounds = (refl, refl); accepted = refl; handed = refl; freed = refl }

unheard_side : (x : WiredSide) (left : List ℕ) → is_live x.state.end.state ≡ false → Alike x (record x { wire = left })
unheard_side x left off =
    record {
      end = refl;
      bytes = λ live. absurd (true_not (sym live ∙ off));
      output = refl;
      reserved = refl;
      bounds = (refl, refl);
      accepted = refl;
      handed = refl;
      freed = refl;
    }
  where
    true_not : true ≡ false → ⊥
    true_not e = cc

pub unheard : (limit : Bounds) (capacity : ℕ) (side : Side) (w : Wired) (m : Machine) (left : List ℕ) → Stands limit capacity w m
    → is_live (near side w).state.end.state ≡ false → Stands limit capacity (facing side (record (near side w) { wire = left }) (far side w)) m
unheard limit capacity Client w m left k off =
    alike limit capacity w (record w { client = record w.client { wire = left } }) m k (unheard_side w.client left off) (alike_itself w.server)
unheard limit capacity Server w m left k off =
    alike limit capacity w (record w { server = record w.server { wire = left } }) m k (alike_itself w.client) (unheard_side w.server left off)

-- ---- Invariants of every run

seen_least : (x y : Half) (q r : List Packet) → AtLeastOnce x y → AtLeastOnce (record x { coming = q }) (record y { coming = r })
seen_least x y q r h = record { places = h.places; walk = h.walk; are = h.are; freed = h.freed; rest = h.rest }

seen_exactly : (x y : Half) (q r : List Packet) → ExactlyOnce x y → ExactlyOnce (record x { coming = q }) (record y { coming = r })
seen_exactly x y q r h = record { beginning = h.beginning; before = h.before; last = h.last; lack = h.lack }

pub seen_headline : (limit : Bounds) (capacity : ℕ) (w : Wired) (m : Machine) → Stands limit capacity w m → Headline (seen w)
seen_headline limit capacity w m k =
    let h = headline limit.most capacity k.reached.0 k.reached.1 m k.reached.2 in
    let c : Half = record m.client { coming = [] } in
    let s : Half = record m.server { coming = [] } in
    let all : Headline (record { client = c; server = s }) = record {
      to_server_0 = h.to_server_0;
      to_client_0 = h.to_client_0;
      to_server_1 = seen_least m.client m.server [] [] h.to_server_1;
      to_client_1 = seen_least m.server m.client [] [] h.to_client_1;
      to_server_2 = seen_exactly m.client m.server [] [] h.to_server_2;
      to_client_2 = seen_exactly m.server m.client [] [] h.to_client_2;
    } in
    let a = k.carries.client in
    let b = k.carries.server in
    let same : seen w ≡ record { client = c; server = s } = (λ i. record {
      client = record { end = a.end i; coming = []; accepted = a.accepted i; handed = a.handed i; freed = a.freed i };
      server = record { end = b.end i; coming = []; accepted = b.accepted i; handed = b.handed i; freed = b.freed i };
    }) in
    subst Headline (sym same) all
