-- The moves of a world over bytes: publishing, losing a connection, opening one, leaving, asking.
use Rattle.std.proofs.Common.{◌≡◌, ℕ, true, None, List, [], ◌∷◌, ◌++◌, refl, sym, ap, subst, ◌∙◌}
use Rattle.mq_topic.specs.declared.qos.Qos.{Qos}
use Rattle.mq_topic.specs.declared.qos.Qos.TheVariants.{Q0, Q1, Q2}
use Rattle.mq_packet.specs.declared.message.Message.{Message}
use Rattle.mq_packet.specs.declared.packet.Packet.TheVariants as packets
use Rattle.mq_decode.specs.Limits.{Bounds}
use Rattle.mq_decode.specs.Grammar.{Stream}
use Rattle.std.proofs.lemmas.Bool.{cond_both}
use Rattle.mq_flow.specs.Sender.{SenderBook, blank_book, no_claims}
use Rattle.mq_end.specs.End.{End, is_live, is_up, over}
use Rattle.mq_end.specs.Both.{publishes, publishes_at, has_identifier}
use Rattle.mq_end.specs.Client.{connects, leaves, leave_refusal}
use Rattle.mq_end.specs.Server.{opens}
use Rattle.mq_end.specs.Laws.{MayHave}
use Rattle.mq_end.specs.State.{EndState, EncodesAll, PutsOut}
use Rattle.mq_world.specs.declared.side.Side.{Side}
use Rattle.mq_world.specs.declared.side.Side.TheVariants.{Client, Server}
use Rattle.mq_world.specs.Half.{Half, Publishes, Drops, Leaves, Pings, moved, publication, refusal, accepted_with}
use Rattle.mq_world.specs.Machine.{Machine, By, Opens, Restarts, Run, after, first_packet, without_keep_alive}
use Rattle.mq_world.specs.Identifiers.{half_of}
use Rattle.mq_world.specs.Carries.{WiredSide, Wired, CarriesSide}
use Rattle.mq_world.specs.OverBytes.{Stands, Follows, near, far, facing, written, SameBounds, made_anew, with_more, cut_off, accepting}
use Rattle.mq_world.proofs.Wires.{encoded_within}
use Rattle.mq_world.proofs.Standing.{reached_on, side_near, follows, follows_one, no_more_bytes, all_put_out}

-- ---- publishing

pub same_state : (q : Qos) (i : ℕ) (m : Message) (e : End) → (publishes_at q i m e).end.state ≡ e.state
same_state Q0 i m e = refl
same_state Q1 i m e = refl
same_state Q2 i m e = refl

published_side : (limit : Bounds) (capacity : ℕ) (x : WiredSide) (h : Half) (i : ℕ) (m : Message) (new : EndState) → CarriesSide limit capacity x h
    → new.end ≡ (publishes i m x.state.end).end → new.held ≡ x.state.held → SameBounds x.state new
    → CarriesSide limit capacity (accepting i m new x) (publication i m h).half
published_side limit capacity x h i m new k after held bounds = record {
  end = after ∙ ap (λ (e : End). (publishes i m e).end) k.end;
  bytes = λ live. subst (λ (b : List ℕ). Stream limit h.coming (b ++ x.wire)) (sym held) (k.bytes (ap is_live (sym (same_state m.qos i m h.end)) ∙ live));
  output = refl;
  reserved = refl;
  limits = bounds.0 ∙ k.limits;
  room = bounds.1 ∙ k.room;
  accepted = ap (accepted_with m.qos i m) k.accepted;
  handed = k.handed;
  freed = k.freed;
}

pub publish : (limit : Bounds) (capacity : ℕ) (side : Side) (w : Wired) (m : Machine) (i : ℕ) (message : Message) (new : EndState) → Stands limit capacity w m
    → refusal side limit.most capacity message (near side w).state.end ≡ None → MayHave (has_identifier message.qos) (near side w).state.end i
    → new.end ≡ (publishes i message (near side w).state.end).end
    → PutsOut (publishes i message (near side w).state.end).out (near side w).state.output new.output → new.held ≡ (near side w).state.held
    → SameBounds (near side w).state new
    → Follows limit capacity m (By side (Publishes i message) ∷ []) (facing side (accepting i message new (near side w)) (with_more new.output (far side w)))
publish limit capacity side w m i message new k free may after out held bounds =
    let x = side_near limit capacity side w m k.carries in
    let P : End → Type 0 =
    λ e. (refusal side limit.most capacity message e ≡ None) × MayHave (has_identifier message.qos) e i × EncodesAll (publishes i message e).out new.output in
    let all = subst P x.end (free, may, all_put_out (publishes i message (near side w).state.end).out (near side w).state.output new.output x.output out) in
    at side k all x after held bounds
  where
    at : (side : Side) → Stands limit capacity w m → (refusal side limit.most capacity message (half_of side m).end ≡ None)
        × MayHave (has_identifier message.qos) (half_of side m).end i × EncodesAll (publishes i message (half_of side m).end).out new.output
        → CarriesSide limit capacity (near side w) (half_of side m) → new.end ≡ (publishes i message (near side w).state.end).end
        → new.held ≡ (near side w).state.held → SameBounds (near side w).state new
        → Follows limit capacity m (By side (Publishes i message) ∷ [])
        (facing side (accepting i message new (near side w)) (with_more new.output (far side w)))
    at Client k all x after held bounds =
        follows_one limit capacity Client w m (Publishes i message) (accepting i message new w.client) new.output k (all.0, all.1) all.2
        (published_side limit capacity w.client m.client i message new x after held bounds)
    at Server k all x after held bounds =
        follows_one limit capacity Server w m (Publishes i message) (accepting i message new w.server) new.output k (all.0, all.1) all.2
        (published_side limit capacity w.server m.server i message new x after held bounds)

-- ---- a connection is over

-- a side whose connection is over
over_side : (limit : Bounds) (capacity : ℕ) (x : WiredSide) (h : Half) (new : EndState) → CarriesSide limit capacity x h → new.end ≡ over x.state.end
    → SameBounds x.state new → CarriesSide limit capacity (cut_off new x) (moved Client Drops h).half
over_side limit capacity x h new k after bounds = record {
  end = after ∙ ap over k.end;
  bytes = λ live. cc;
  output = refl;
  reserved = refl;
  limits = bounds.0 ∙ k.limits;
  room = bounds.1 ∙ k.room;
  accepted = k.accepted;
  handed = k.handed;
  freed = k.freed;
}

pub drop : (limit : Bounds) (capacity : ℕ) (side : Side) (w : Wired) (m : Machine) (new : EndState) → Stands limit capacity w m
    → new.end ≡ over (near side w).state.end → SameBounds (near side w).state new
    → Follows limit capacity m (By side Drops ∷ []) (facing side (cut_off new (near side w)) (far side w))
drop limit capacity side w m new k after bounds =
    let near_side = over_side limit capacity (near side w) (half_of side m) new (side_near limit capacity side w m k.carries) after bounds in
    subst (λ (y : WiredSide). Follows limit capacity m (By side Drops ∷ []) (facing side (cut_off new (near side w)) y)) (no_more_bytes (far side w))
    (follows_one limit capacity side w m Drops (cut_off new (near side w)) [] k tt refl near_side)

pub drop_both : (limit : Bounds) (capacity : ℕ) (w : Wired) (m : Machine) (c s : EndState) → Stands limit capacity w m
    → c.end ≡ over w.client.state.end → SameBounds w.client.state c → s.end ≡ over w.server.state.end → SameBounds w.server.state s
    → Follows limit capacity m (By Client Drops ∷ By Server Drops ∷ []) (record { client = cut_off c w.client; server = cut_off s w.server })
drop_both limit capacity w m c s k ce cb se sb =
    let one = drop limit capacity Client w m c k ce cb in
    let two = drop limit capacity Server (record { client = cut_off c w.client; server = w.server }) one.machine s one.stands se sb in
    record {
      machine = two.machine;
      run = (one.run.0, subst (λ (v : Machine). Run limit.most capacity v (By Server Drops ∷ []) two.machine) one.run.1 two.run);
      stands = two.stands;
    }

-- ---- the client

-- an end that is made anew is one whose connection is over, and that knows no keep-alive
anew_is_over : (e : End) → made_anew e ≡ over (record e { keep_alive = 0 })
anew_is_over e = λ i. record (over (record e { keep_alive = 0 })) { book = unclaimed i }
  where
    unclaimed : no_claims (over e).book ≡ (over e).book
    unclaimed = cond_both e.clean blank_book (no_claims e.book) (λ (b : SenderBook). no_claims b ≡ b) (λ t. refl) (λ f. refl)

pub restart : (limit : Bounds) (capacity : ℕ) (w : Wired) (m : Machine) (new : EndState) → Stands limit capacity w m
    → new.end ≡ made_anew w.client.state.end → SameBounds w.client.state new
    → Follows limit capacity m (Restarts ∷ []) (record { client = cut_off new w.client; server = w.server })
restart limit capacity w m new k after bounds =
    let c = k.carries.client in
    let h : Half = without_keep_alive m.client in
    let x : WiredSide = record w.client { state = record w.client.state { end = record w.client.state.end { keep_alive = 0 } } } in
    let carries : CarriesSide limit capacity x h = record {
      end = ap (λ (e : End). let f : End = record e { keep_alive = 0 } in f) c.end;
      bytes = c.bytes;
      output = c.output;
      reserved = c.reserved;
      limits = c.limits;
      room = c.room;
      accepted = c.accepted;
      handed = c.handed;
      freed = c.freed;
    } in
    subst (λ (y : WiredSide). Follows limit capacity m (Restarts ∷ []) (record { client = cut_off new w.client; server = y })) (no_more_bytes w.server)
    (follows limit capacity Client w m (Restarts ∷ []) (cut_off new w.client) (moved Client Drops h).half [] [] k (tt, refl) refl
    (over_side limit capacity x h new carries (after ∙ anew_is_over w.client.state.end) bounds))

pub opened : (limit : Bounds) (capacity : ℕ) (w : Wired) (m : Machine) (c s : EndState) → Stands limit capacity w m
    → c.end ≡ (connects first_packet w.client.state.end).end → PutsOut (packets.Connect first_packet ∷ []) [] c.output → c.held ≡ []
    → SameBounds w.client.state c
    → s.end ≡ (opens w.server.state.end).end → s.held ≡ [] → SameBounds w.server.state s
    → Follows limit capacity m (Opens ∷ []) (record { client = cut_off c w.client; server = with_more c.output (cut_off s w.server) })
opened limit capacity w m c s k ce out ch cb se sh sb =
    let v : Machine = after m Opens in
    let run : Run limit.most capacity m (Opens ∷ []) v = (tt, refl) in
    let x = k.carries.client in
    let y = k.carries.server in
    let first : Stream limit (packets.Connect first_packet ∷ []) c.output =
    encoded_within limit k.large (packets.Connect first_packet ∷ []) c.output (refl, tt)
    (all_put_out (packets.Connect first_packet ∷ []) [] c.output refl out) in
    record {
      machine = v;
      run = run;
      stands = record {
        large = k.large;
        carries = record {
          client = record {
            end = ce ∙ ap (λ (e : End). (connects first_packet e).end) x.end;
            bytes = λ live. ap (λ (b : List ℕ). b ++ []) ch;
            output = refl;
            reserved = refl;
            limits = cb.0 ∙ x.limits;
            room = cb.1 ∙ x.room;
            accepted = x.accepted;
            handed = x.handed;
            freed = x.freed;
          };
          server = record {
            end = se ∙ ap (λ (e : End). (opens e).end) y.end;
            bytes = λ live. subst (λ (b : List ℕ). Stream limit (packets.Connect first_packet ∷ []) (b ++ c.output)) (sym sh) first;
            output = refl;
            reserved = refl;
            limits = sb.0 ∙ y.limits;
            room = sb.1 ∙ y.room;
            accepted = y.accepted;
            handed = y.handed;
            freed = y.freed;
          };
        };
        reached = reached_on limit.most capacity m v (Opens ∷ []) k.reached run;
      };
    }

pub leave : (limit : Bounds) (capacity : ℕ) (w : Wired) (m : Machine) (new : EndState) → Stands limit capacity w m
    → leave_refusal w.client.state.end ≡ None → new.end ≡ (leaves w.client.state.end).end → PutsOut (packets.Disconnect ∷ []) w.client.state.output new.output
    → SameBounds w.client.state new
    → Follows limit capacity m (By Client Leaves ∷ []) (record { client = cut_off new w.client; server = with_more new.output w.server })
leave limit capacity w m new k may after out bounds =
    let x = k.carries.client in
    follows_one limit capacity Client w m Leaves (cut_off new w.client) new.output k (subst (λ (e : End). leave_refusal e ≡ None) x.end may)
    (all_put_out (packets.Disconnect ∷ []) w.client.state.output new.output x.output out)
    (over_side limit capacity w.client m.client new x after bounds)

pub ping : (limit : Bounds) (capacity : ℕ) (w : Wired) (m : Machine) (new : EndState) → Stands limit capacity w m
    → is_up w.client.state.end.state ≡ true → new.end ≡ w.client.state.end → PutsOut (packets.PingReq ∷ []) w.client.state.output new.output
    → new.held ≡ w.client.state.held → SameBounds w.client.state new
    → Follows limit capacity m (By Client Pings ∷ []) (record { client = record w.client { state = written new }; server = with_more new.output w.server })
ping limit capacity w m new k up after out held bounds =
    let x = k.carries.client in
    follows_one limit capacity Client w m Pings (record w.client { state = written new }) new.output k
    (subst (λ (e : End). is_up e.state ≡ true) x.end up) (all_put_out (packets.PingReq ∷ []) w.client.state.output new.output x.output out)
    (record {
      end = after ∙ x.end;
      bytes = λ live. subst (λ (b : List ℕ). Stream limit m.client.coming (b ++ w.client.wire)) (sym held) (x.bytes live);
      output = refl;
      reserved = refl;
      limits = bounds.0 ∙ x.limits;
      room = bounds.1 ∙ x.room;
      accepted = x.accepted;
      handed = x.handed;
      freed = x.freed;
    })
