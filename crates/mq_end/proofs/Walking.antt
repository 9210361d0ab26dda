-- Received bytes, packet by packet.
use Rattle.std.proofs.Common.{◌≡◌, ◌⊎◌, inl, inr, ℕ, ◌<◌, ◌≤◌, ◌==◌, Bool, true, false, not, List, [], ◌∷◌, ◌++◌, length, take, drop, Option, Some, None, refl, sym, ap, subst, ◌∙◌, append_assoc}
use Rattle.std.proofs.Math.Dec.{eqb-suc-zero}
use Rattle.std.proofs.lemmas.List.{append-nil, take-append-drop}
use Rattle.mq_packet.specs.declared.packet.Packet.{Packet}
use Rattle.mq_decode.specs.declared.fault.DecodeFault.{DecodeFault}
use Rattle.mq_decode.specs.Limits.{Bounds}
use Rattle.mq_decode.specs.Grammar.{Stream, Pending, Faulty, ReadsWithin}
use Rattle.mq_decode.specs.Laws.{ReadsAgain}
use Rattle.mq_end.specs.declared.reason.CloseReason.{CloseReason}
use Rattle.mq_end.specs.declared.reason.CloseReason.TheVariants as reasons
use Rattle.mq_end.specs.declared.role.Role.{Role}
use Rattle.mq_end.specs.declared.progress_builder.ProgressBuilder.{ProgressBuilder}
use Rattle.mq_end.specs.End.{End, Reply, one_by_one, closes}
use Rattle.mq_end.specs.State.{EndState}
use Rattle.mq_end.specs.Receiving.{Acts, Makes, Hears, TakesAll, gets_as, held_after}
use Rattle.mq_end.specs.Inside.Receiving.{IsBreak, TakesNext, heard_as}
use Rattle.mq_end.proofs.Replies.{makes_end}
use Rattle.mq_end.proofs.Received.{pending_nil}
use Rattle.mq_end.proofs.Along.{Along, along_none, along_more, taken_shut, taken_starved}
use Rattle.mq_end.proofs.Hearing.{break_made, hears_shut, hears_all, hears_starved, hears_fault, with_held}

-- ---- packets along the bytes

-- The held bytes change while an end processes packets.
along_held : (gets : Packet → End → Reply) (old now : EndState) (k h : List ℕ) (t u : ProgressBuilder) (ps : List Packet) → Along gets (with_held old k) now t u ps → Along gets (with_held old h) (with_held now h) t u ps
along_held gets old now k h t u ps a =
    let r = one_by_one gets ps old.end in
    record {
      going = a.going;
      makes = record {
        out = a.makes.out;
        state = ap (λ (s : EndState). with_held s h) a.makes.state ∙ ap (λ (c : Option CloseReason). record old { end = r.end; output = now.output; held = held_after c h }) (sym a.going);
        happenings = a.makes.happenings;
        acknowledged = a.makes.acknowledged;
      };
    }

-- It holds the bytes that it held at the start.
held_along : (gets : Packet → End → Reply) (old now : EndState) (h : List ℕ) (t u : ProgressBuilder) (ps : List Packet) → Along gets (with_held old h) now t u ps → now.held ≡ h
held_along gets old now h t u ps a = ap (λ (s : EndState). s.held) a.makes.state ∙ ap (λ (c : Option CloseReason). held_after c h) a.going

limit_along : (gets : Packet → End → Reply) (old now : EndState) (h : List ℕ) (t u : ProgressBuilder) (ps : List Packet) → Along gets (with_held old h) now t u ps → now.limit ≡ old.limit
limit_along gets old now h t u ps a = ap (λ (s : EndState). s.limit) a.makes.state

stream_more : (limit : Bounds) (ps : List Packet) (p : Packet) (a b : List ℕ) → Stream limit ps a → ReadsWithin limit p b → Stream limit (ps ++ p ∷ []) (a ++ b)
stream_more limit [] p a b h r = (b, [], r, refl, ap (λ (t : List ℕ). t ++ b) h ∙ sym (append-nil b))
stream_more limit (q ∷ qs) p a b h r = (h.0, h.1 ++ b, h.2, stream_more limit qs p h.1 b h.3 r, ap (λ (t : List ℕ). t ++ b) h.4 ∙ append_assoc h.0 h.1 b)

-- These packets were taken out of a piece, and none of them closed the end; the rest is left.
pub record Walked (role : Role) (piece : List ℕ) (old now : EndState) (told after : ProgressBuilder) (came : Bool) (rest : List ℕ) : Type 0 where
  pub packets : List Packet
  pub front : List ℕ
  pub stream : Stream old.limit packets front
  pub parts : old.held ++ piece ≡ front ++ (now.held ++ rest)
  pub along : Along (gets_as role) (with_held old now.held) now told after packets
  pub some : came ≡ not (length packets == 0)

pub walked_none : (role : Role) (piece : List ℕ) (old : EndState) (told : ProgressBuilder) → Walked role piece old old told told false (drop 0 piece)
walked_none role piece old told = record { packets = []; front = []; stream = refl; parts = refl; along = along_none (gets_as role) old told; some = refl }

-- Another packet was removed, and not processed yet.
pub record Next (role : Role) (piece : List ℕ) (old mid : EndState) (told after : ProgressBuilder) (p : Packet) (rest : List ℕ) : Type 0 where
  pub packets : List Packet
  pub front : List ℕ
  pub stream : Stream old.limit (packets ++ p ∷ []) front
  pub parts : old.held ++ piece ≡ front ++ rest
  pub along : Along (gets_as role) (with_held old []) mid told after packets

cut : (front held rest : List ℕ) (n : ℕ) → front ++ (held ++ rest) ≡ (front ++ (held ++ take n rest)) ++ drop n rest
cut front held rest n =
    ap (λ (t : List ℕ). front ++ t) (ap (λ (t : List ℕ). held ++ t) (sym (take-append-drop n rest)) ∙ sym (append_assoc held (take n rest) (drop n rest)))
    ∙ sym (append_assoc front (held ++ take n rest) (drop n rest))

pub next_of : (role : Role) (piece : List ℕ) (old now mid : EndState) (told after : ProgressBuilder) (came : Bool) (p : Packet) (n : ℕ) (rest : List ℕ)
    → Walked role piece old now told after came rest → ReadsWithin now.limit p (now.held ++ take n rest) → mid ≡ record now { held = mid.held } → mid.held ≡ [] → Next role piece old mid told after p (drop n rest)
next_of role piece old now mid told after came p n rest w reads state none =
    let same : mid ≡ with_held now [] = state ∙ ap (λ (h : List ℕ). with_held now h) none in
    record {
      packets = w.packets;
      front = w.front ++ (now.held ++ take n rest);
      stream = stream_more old.limit w.packets p w.front (now.held ++ take n rest) w.stream
          (subst (λ (limit : Bounds). ReadsWithin limit p (now.held ++ take n rest)) (limit_along (gets_as role) old now now.held told after w.packets w.along) reads);
      parts = w.parts ∙ cut w.front now.held rest n;
      along = subst (λ (s : EndState). Along (gets_as role) (with_held old []) s told after w.packets) (sym same) (along_held (gets_as role) old now now.held [] told after w.packets w.along);
    }

-- ---- how the walk continues, and how it ends

-- it reached the end, or an allocation failed for it
abbrev pub Came : Role → Packet → EndState → EndState → ProgressBuilder → ProgressBuilder → Option CloseReason → Type 0
Came role p mid new u v closed = (r : Reply) × ((r ≡ gets_as role p mid.end) ⊎ (r ≡ closes reasons.Memory mid.end)) × (closed ≡ r.close) × Makes r mid new u v

-- The next packet of the held bytes and a piece, and its effect.
pub came_next : (role : Role) (piece : List ℕ) (n : ℕ) (closed : Option CloseReason) (old mid new : EndState) (t u : ProgressBuilder) (p : Packet)
    → n ≤ length piece → ReadsWithin old.limit p (old.held ++ take n piece) → mid ≡ record old { held = mid.held } → mid.held ≡ [] → Came role p mid new t u closed → TakesNext role piece n closed old new t u
came_next role piece n closed old mid new t u p within reads state none came =
    let same : mid ≡ with_held old [] = state ∙ ap (λ (h : List ℕ). with_held old h) none in
    let x = subst (λ (s : EndState). Came role p s new t u closed) same came in
    record { within = within; packet = p; reads = reads; reply = x.0; does = x.1; close = x.2; makes = x.3 }

-- If the end continues, nothing is held behind it.
pub next_held : (role : Role) (piece : List ℕ) (n : ℕ) (old new : EndState) (t u : ProgressBuilder) → TakesNext role piece n None old new t u → new.held ≡ []
next_held role piece n old new t u x = ap (λ (s : EndState). s.held) x.makes.state ∙ ap (λ (c : Option CloseReason). held_after c []) (sym x.close)

-- another packet was taken out of the bytes of a walk
pub next_taken : (role : Role) (piece : List ℕ) (old now new : EndState) (told after u : ProgressBuilder) (came : Bool) (n : ℕ) (rest : List ℕ) (closed : Option CloseReason)
    → Walked role piece old now told after came rest → (x : TakesNext role rest n closed now new after u) → Next role piece old (with_held now []) told after x.packet (drop n rest)
next_taken role piece old now new told after u came n rest closed w x =
    next_of role piece old now (with_held now []) told after came x.packet n rest w x.reads refl refl

pub came_of : (role : Role) (rest : List ℕ) (n : ℕ) (closed : Option CloseReason) (now new : EndState) (t u : ProgressBuilder) → (x : TakesNext role rest n closed now new t u) → Came role x.packet (with_held now []) new t u closed
came_of role rest n closed now new t u x = (x.reply, x.does, x.close, x.makes)

not_empty : (ps : List Packet) (p : Packet) → true ≡ not (length (ps ++ p ∷ []) == 0)
not_empty [] p = refl
not_empty (q ∷ qs) p = sym (ap not (eqb-suc-zero (length (qs ++ p ∷ []))))

pub walked_more : (role : Role) (piece : List ℕ) (old mid new : EndState) (t u v : ProgressBuilder) (p : Packet) (rest : List ℕ) → Next role piece old mid t u p rest → Came role p mid new u v None → Walked role piece old new t v true rest
walked_more role piece old mid new t u v p rest x came = by came.1
  where
    by : ((came.0 ≡ gets_as role p mid.end) ⊎ (came.0 ≡ closes reasons.Memory mid.end)) → Walked role piece old new t v true rest
    by (inl e) =
        let a = along_more (gets_as role) (with_held old []) mid new t u v x.packets p x.along (came.2 ∙ ap (λ (r : Reply). r.close) e) (subst (λ (r : Reply). Makes r mid new u v) e came.3) in
        let empty = held_along (gets_as role) old new [] t v (x.packets ++ p ∷ []) a in
        record {
          packets = x.packets ++ p ∷ [];
          front = x.front;
          stream = x.stream;
          parts = x.parts ∙ ap (λ (h : List ℕ). x.front ++ (h ++ rest)) (sym empty);
          along = subst (λ (h : List ℕ). Along (gets_as role) (with_held old h) new t v (x.packets ++ p ∷ [])) (sym empty) a;
          some = not_empty x.packets p;
        }
    by (inr e) =
        let shut : None ≡ Some reasons.Memory = came.2 ∙ ap (λ (r : Reply). r.close) e in
        cc

pub walked_shut : (role : Role) (now : ℕ) (piece : List ℕ) (old mid new : EndState) (t u v : ProgressBuilder) (p : Packet) (rest : List ℕ) (reason : CloseReason)
    → ReadsAgain → Next role piece old mid t u p rest → Came role p mid new u v (Some reason) → Hears role now piece old new t v (Some reason)
walked_shut role now piece old mid new t u v p rest reason again x came = by came.1
  where
    ps : List Packet
    ps = x.packets ++ p ∷ []

    by : ((came.0 ≡ gets_as role p mid.end) ⊎ (came.0 ≡ closes reasons.Memory mid.end)) → Hears role now piece old new t v (Some reason)
    by (inl e) =
        let k = taken_shut (gets_as role) (with_held old []) mid new t u v x.packets [] ps p reason x.along refl (came.2 ∙ ap (λ (r : Reply). r.close) e) (subst (λ (r : Reply). Makes r mid new u v) e came.3) in
        hears_shut role now piece old new [] t v k.0 ps x.front rest reason again x.stream x.parts k.1 k.3 k.2
    by (inr e) =
        let memory : Some reason ≡ Some reasons.Memory = came.2 ∙ ap (λ (r : Reply). r.close) e in
        let k = taken_starved (gets_as role) (with_held old []) mid new t u v x.packets [] ps p x.along refl (subst (λ (r : Reply). Makes r mid new u v) e came.3) in
        hears_shut role now piece old new [] t v k.0 ps x.front rest reason again x.stream x.parts k.1 k.3 (memory ∙ k.2)

-- An incomplete packet is left, and is held
pub walked_all : (role : Role) (now : ℕ) (piece : List ℕ) (old last mid new : EndState) (t u : ProgressBuilder) (came : Bool) (rest : List ℕ)
    → Walked role piece old last t u came rest → Pending last.limit (last.held ++ rest) → mid.held ≡ last.held ++ rest → mid ≡ record last { held = mid.held }
    → new ≡ record mid { last_activity = heard_as role came now mid.last_activity } → Hears role now piece old new t u None
walked_all role now piece old last mid new t u came rest w pending holds state later =
    let h = last.held ++ rest in
    let same : mid ≡ with_held last h = state ∙ ap (λ (k : List ℕ). with_held last k) holds in
    let a = along_held (gets_as role) old last last.held h t u w.packets w.along in
    let limit = limit_along (gets_as role) old last last.held t u w.packets w.along in
    let r = one_by_one (gets_as role) w.packets old.end in
    hears_all role now piece old mid new h t u r w.packets
    (record { front = w.front; stream = w.stream; parts = w.parts; ends = subst (λ (l : Bounds). Pending l h) limit pending })
    (TakesAll w.along.going refl) (subst (λ (s : EndState). Makes r (with_held old h) s t u) (sym same) a.makes) (sym w.along.going)
    (later ∙ ap (λ (b : Bool). record mid { last_activity = heard_as role b now mid.last_activity }) w.some)

-- nothing is left behind a packet, and nothing is held
pub walked_whole : (role : Role) (now : ℕ) (piece : List ℕ) (old last new : EndState) (t u : ProgressBuilder) (came : Bool) (rest : List ℕ)
    → ReadsAgain → Walked role piece old last t u came rest → last.held ≡ [] → rest ≡ [] → new ≡ record last { last_activity = heard_as role came now last.last_activity } → Hears role now piece old new t u None
walked_whole role now piece old last new t u came rest again w held none later =
    let left : last.held ++ rest ≡ [] = ap (λ (h : List ℕ). h ++ rest) held ∙ none in
    walked_all role now piece old last last new t u came rest w (subst (Pending last.limit) (sym left) (pending_nil last.limit again)) (held ∙ sym left) refl later

-- memory ran out for the next packet
pub walked_starved : (role : Role) (now : ℕ) (piece : List ℕ) (old last mid new : EndState) (t u : ProgressBuilder) (came : Bool) (rest : List ℕ)
    → Walked role piece old last t u came rest → 0 < length (last.held ++ rest) → mid ≡ record last { held = mid.held } → Makes (closes reasons.Memory mid.end) mid new u u → Hears role now piece old new t u (Some reasons.Memory)
walked_starved role now piece old last mid new t u came rest w left state made =
    let a = along_held (gets_as role) old last last.held mid.held t u w.packets w.along in
    let r = one_by_one (gets_as role) w.packets old.end in
    let m = subst (λ (s : EndState). Makes r (with_held old mid.held) s t u) (sym state) a.makes in
    hears_starved role now piece old mid new mid.held t u u r w.packets (record { front = w.front; stream = w.stream; rest = last.held ++ rest; parts = w.parts; left = left })
    (TakesAll w.along.going refl) m (sym w.along.going) (subst (λ (e : End). Makes (closes reasons.Memory e) mid new u u) (makes_end r (with_held old mid.held) mid t u m) made)

-- a fault is left
pub walked_broken : (role : Role) (now : ℕ) (piece : List ℕ) (old last mid new : EndState) (t u : ProgressBuilder) (came : Bool) (rest : List ℕ) (fault : DecodeFault) (reason : CloseReason) (x : Reply)
    → Walked role piece old last t u came rest → Faulty last.limit (last.held ++ rest) fault.kind fault.place → mid ≡ record last { held = mid.held } → IsBreak role fault mid.end x → Some reason ≡ x.close → Acts x mid new
    → Hears role now piece old new t u (Some reason)
walked_broken role now piece old last mid new t u came rest fault reason x w faulty state break shut acts =
    let a = along_held (gets_as role) old last last.held mid.held t u w.packets w.along in
    let limit = limit_along (gets_as role) old last last.held t u w.packets w.along in
    let r = one_by_one (gets_as role) w.packets old.end in
    let m = subst (λ (s : EndState). Makes r (with_held old mid.held) s t u) (sym state) a.makes in
    hears_fault role now piece old mid new mid.held t u u r x w.packets (last.held ++ rest) fault reason
    (record { front = w.front; stream = w.stream; parts = w.parts; ends = subst (λ (l : Bounds). Faulty l (last.held ++ rest) fault.kind fault.place) limit faulty })
    (TakesAll w.along.going refl) m (sym w.along.going) (subst (λ (e : End). IsBreak role fault e x) (makes_end r (with_held old mid.held) mid t u m) break) shut
    (break_made role fault mid new u x break acts)
