-- A message that an end with room for it publishes.
use Rattle.std.proofs.Common.{◌≡◌, ℕ, suc, ◌+◌, ◌-◌, ◌≤◌, Bool, true, false, cond, not, ◌&&◌, ◌||◌, List, [], ◌∷◌, ◌++◌, map, filter, length, Option, Some, None, Result, Ok, Err, IsOk, IfOk, refl, sym, ap, subst, ◌∙◌, arith, ltb, nat_le, ltb-false, true≢false, length-append}
use Rattle.std.proofs.lemmas.Bool.{lt-leb}
use Rattle.std.proofs.lemmas.List.{length-map}
use Rattle.std.specs.List.{list_any}
use Rattle.mq_topic.specs.declared.qos.Qos.{Qos}
use Rattle.mq_topic.specs.declared.qos.Qos.TheVariants.{Q0, Q1, Q2}
use Rattle.mq_packet.specs.declared.message.Message.{Message}
use Rattle.mq_packet.specs.declared.packet.Packet.{Packet}
use Rattle.mq_packet.specs.Encoding.{EncodingLaws, encodings, EncodesAll as IsEncoded}
use Rattle.mq_flow.specs.declared.entry.SenderEntry.{SenderEntry}
use Rattle.mq_flow.specs.Next.{NextLaws, next_identifier}
use Rattle.mq_flow.specs.Sender.{SenderBook, accept, uses}
use Rattle.mq_end.specs.declared.refusal.PublishRefusal.{PublishRefusal}
use Rattle.mq_end.specs.declared.refusal.PublishRefusal.TheVariants as refusals
use Rattle.mq_end.specs.Both.{has_identifier, publishes_at}
use Rattle.mq_end.specs.End.{End, Reply, is_up}
use Rattle.mq_end.specs.Publishing.{Accepts, room_left}
use Rattle.mq_end.specs.Ready.{HasRoom, publishes_size}
use Rattle.mq_end.specs.Server.{ready_refusal, server_publish_refusal}
use Rattle.mq_end.specs.Sizes.{publish_size}
use Rattle.mq_end.specs.State.{EndState, EncodesAll}
use Rattle.mq_end.specs.declared.state.State.{State}
use Rattle.mq_route.specs.Work.{publishes_next}
use Rattle.mq_tables.specs.Publishing.{IsReady, published}
use Rattle.mq_tables.proofs.SessionRoom.{count}

some_none : {X : Type 0} {x : X} → Some x ≡ None → ⊥
some_none e = absurd cc

or_left : (a b : Bool) → (a || b) ≡ false → a ≡ false
or_left true b e = absurd (true≢false e)
or_left false b e = refl

or_right : (a b : Bool) → (a || b) ≡ false → b ≡ false
or_right true b e = absurd (true≢false e)
or_right false b e = e

not_no : (b : Bool) → not b ≡ false → b ≡ true
not_no true e = refl
not_no false e = absurd (true≢false e)

-- ---- none of the messages is refused

record Accepted (limit capacity : ℕ) (ms : List Message) (e : End) : Type 0 where
  known : list_any (λ m. not e.known) ms ≡ false
  up : list_any (λ m. not (has_identifier m.qos) && not (is_up e.state)) ms ≡ false
  fits : list_any (λ m. ltb limit (publish_size m)) ms ≡ false
  free : count ms ≤ capacity - length (uses e.book)

four : (a b c d : Bool) (w x y z : PublishRefusal) → cond a (Some w) (cond b (Some x) (cond c (Some y) (cond d (Some z) None))) ≡ None
    → (a ≡ false) × (b ≡ false) × (c ≡ false) × (d ≡ false)
four true b c d w x y z e = absurd (some_none e)
four false true c d w x y z e = absurd (some_none e)
four false false true d w x y z e = absurd (some_none e)
four false false false true w x y z e = absurd (some_none e)
four false false false false w x y z e = (refl, refl, refl, refl)

parts : (limit capacity : ℕ) (ms : List Message) (e : End) → ready_refusal limit capacity ms e ≡ None → Accepted limit capacity ms e
parts limit capacity ms e none =
    let f = four (list_any (λ m. not e.known) ms) (list_any (λ m. not (has_identifier m.qos) && not (is_up e.state)) ms) (list_any (λ m. ltb limit (publish_size m)) ms)
    (ltb (capacity - length (uses e.book)) (count ms)) refusals.NoSession refusals.NotConnected refusals.TooLarge refusals.Full none in
    record { known = f.0; up = f.1; fits = f.2; free = ltb-false (capacity - length (uses e.book)) (count ms) f.3 }

whole : (limit capacity : ℕ) (ms : List Message) (e : End) → Accepted limit capacity ms e → ready_refusal limit capacity ms e ≡ None
whole limit capacity ms e f =
    let free = f.free in
    let enough : ltb (capacity - length (uses e.book)) (count ms) ≡ false = lt-leb (suc (capacity - length (uses e.book))) (count ms) (omega arith) in
    rw (f.known, f.up, f.fits, enough) refl

has_one : (b : Bool) (m : Message) (ms : List Message) (capacity used : ℕ) → length (cond b (m ∷ ms) ms) ≤ capacity - used → (b && nat_le capacity used) ≡ false
has_one true m ms capacity used l = lt-leb capacity used (omega arith)
has_one false m ms capacity used l = refl

first_accepted : (limit capacity : ℕ) (m : Message) (rest : List Message) (e : End) → Accepted limit capacity (m ∷ rest) e → server_publish_refusal limit capacity m e ≡ None
first_accepted limit capacity m rest e f =
    let known = not_no e.known (or_left (not e.known) (list_any (λ m. not e.known) rest) f.known) in
    let up = or_left (not (has_identifier m.qos) && not (is_up e.state)) (list_any (λ m. not (has_identifier m.qos) && not (is_up e.state)) rest) f.up in
    let fits = or_left (ltb limit (publish_size m)) (list_any (λ m. ltb limit (publish_size m)) rest) f.fits in
    let room = has_one (has_identifier m.qos) m (filter (λ m. has_identifier m.qos) rest) capacity (length (uses e.book)) f.free in
    rw (known, up, fits, room) refl

-- ---- the others after it

after_known : (q : Qos) (i : ℕ) (m : Message) (e : End) → (publishes_at q i m e).end.known ≡ e.known
after_known Q0 i m e = refl
after_known Q1 i m e = refl
after_known Q2 i m e = refl

pub after_state : (q : Qos) (i : ℕ) (m : Message) (e : End) → (publishes_at q i m e).end.state ≡ e.state
after_state Q0 i m e = refl
after_state Q1 i m e = refl
after_state Q2 i m e = refl

one_more : (i : ℕ) (m : Message) (sent : Bool) (b : SenderBook) → length (uses (accept i m sent b)) ≡ 1 + length (uses b)
one_more i m sent b =
    let x : SenderEntry = record { id = i; message = m; sent = sent } in
    let rest = b.released ++ map (λ c. c.id) b.claimed in
    let a = length-append (map (λ (e : SenderEntry). e.id) (b.entries ++ x ∷ [])) rest in
    let c = length-map (b.entries ++ x ∷ []) (λ (e : SenderEntry). e.id) in
    let d = length-append b.entries (x ∷ []) in
    let f = length-append (map (λ (e : SenderEntry). e.id) b.entries) rest in
    let g = length-map b.entries (λ (e : SenderEntry). e.id) in
    omega arith

pub after_uses : (q : Qos) (i : ℕ) (m : Message) (e : End) → length (uses (publishes_at q i m e).end.book) ≡ cond (has_identifier q) 1 0 + length (uses e.book)
after_uses Q0 i m e = omega arith
after_uses Q1 i m e = one_more i m (is_up e.state) e.book
after_uses Q2 i m e = one_more i m (is_up e.state) e.book

left_free : (b : Bool) (m : Message) (ms : List Message) (capacity used after : ℕ) → after ≡ cond b 1 0 + used → length (cond b (m ∷ ms) ms) ≤ capacity - used → length ms ≤ capacity - after
left_free true m ms capacity used after e l = omega arith
left_free false m ms capacity used after e l = omega arith

rest_accepted : (limit capacity i : ℕ) (m : Message) (rest : List Message) (e : End) → Accepted limit capacity (m ∷ rest) e → Accepted limit capacity rest (publishes_at m.qos i m e).end
rest_accepted limit capacity i m rest e f = record {
  known = subst (λ (b : Bool). list_any (λ m. not b) rest ≡ false) (sym (after_known m.qos i m e)) (or_right (not e.known) (list_any (λ m. not e.known) rest) f.known);
  up = subst (λ (s : State). list_any (λ m. not (has_identifier m.qos) && not (is_up s)) rest ≡ false) (sym (after_state m.qos i m e))
      (or_right (not (has_identifier m.qos) && not (is_up e.state)) (list_any (λ m. not (has_identifier m.qos) && not (is_up e.state)) rest) f.up);
  fits = or_right (ltb limit (publish_size m)) (list_any (λ m. ltb limit (publish_size m)) rest) f.fits;
  free = left_free (has_identifier m.qos) m (filter (λ m. has_identifier m.qos) rest) capacity (length (uses e.book)) (length (uses (publishes_at m.qos i m e).end.book))
      (after_uses m.qos i m e) f.free;
}

-- ---- an end with room

pub first_of : (m : Message) (rest : List Message) (more : ℕ) (s : EndState) → IsReady (m ∷ rest) more s → server_publish_refusal s.limit.most s.capacity m s.end ≡ None
first_of m rest more s r = first_accepted s.limit.most s.capacity m rest s.end (parts s.limit.most s.capacity (m ∷ rest) s.end r.accepted)

pub rest_of : (m : Message) (rest : List Message) (more : ℕ) (s : EndState) → IsReady (m ∷ rest) more s → HasRoom rest more (published m s) → IsReady rest more (published m s)
rest_of m rest more s r room = record {
  accepted = whole s.limit.most s.capacity rest (publishes_next m s.end).end
      (rest_accepted s.limit.most s.capacity (next_identifier s.end.last s.end.book) m rest s.end (parts s.limit.most s.capacity (m ∷ rest) s.end r.accepted));
  room = room;
}

one_counted : (b : Bool) (m : Message) (ms : List Message) → length (cond b (m ∷ []) []) ≤ length (cond b (m ∷ ms) ms)
one_counted true m ms = omega arith
one_counted false m ms = omega arith

one_sized : (b : Bool) (m : Message) (rest : List Message) (more : ℕ) → cond b (publishes_size (m ∷ [])) 0 + 0 ≤ cond b (publishes_size (m ∷ rest)) 0 + more
one_sized true m rest more = omega arith
one_sized false m rest more = omega arith

pub only_first : (m : Message) (rest : List Message) (more : ℕ) (s : EndState) → IsReady (m ∷ rest) more s → IsReady (m ∷ []) 0 s
only_first m rest more s r =
    let limit = s.limit.most in
    let f = parts limit s.capacity (m ∷ rest) s.end r.accepted in
    let counted = one_counted (has_identifier m.qos) m (filter (λ m. has_identifier m.qos) rest) in
    let sized = one_sized (is_up s.end.state) m rest more in
    let free = f.free in
    let places = r.room.messages in
    let bytes = r.room.bytes in
    record {
      accepted = whole limit s.capacity (m ∷ []) s.end (record {
        known = ap (λ (b : Bool). b || false) (or_left (not s.end.known) (list_any (λ m. not s.end.known) rest) f.known);
        up = ap (λ (b : Bool). b || false)
            (or_left (not (has_identifier m.qos) && not (is_up s.end.state)) (list_any (λ m. not (has_identifier m.qos) && not (is_up s.end.state)) rest) f.up);
        fits = ap (λ (b : Bool). b || false) (or_left (ltb limit (publish_size m)) (list_any (λ m. ltb limit (publish_size m)) rest) f.fits);
        free = omega arith;
      });
      room = record { messages = omega arith; bytes = omega arith };
    }

-- ---- the result

by_qos : (q : Qos) (i j : ℕ) (m : Message) (e : End) → (has_identifier q ≡ true → i ≡ j) → publishes_at q i m e ≡ publishes_at q j m e
by_qos Q0 i j m e same = refl
by_qos Q1 i j m e same = ap (λ (n : ℕ). publishes_at Q1 n m e) (same refl)
by_qos Q2 i j m e same = ap (λ (n : ℕ). publishes_at Q2 n m e) (same refl)

pub encoded : (ps : List Packet) (b : List ℕ) → EncodesAll ps b → IsEncoded ps b
encoded [] b h = h
encoded (p ∷ ps) b h = (h.0, h.1, h.2, encoded ps h.1 h.3, h.4)

pub published_is : NextLaws → EncodingLaws → (answer : Option ℕ) (m : Message) (old new : EndState) → Accepts answer m old new → new ≡ published m old
published_is next encoding answer m old new a =
    let same : publishes_at m.qos a.id m old.end ≡ publishes_next m old.end =
    by_qos m.qos a.id (next_identifier old.end.last old.end.book) m old.end (λ id. next.only old.end.last a.id old.end.book (a.first id)) in
    let out = (publishes_at m.qos a.id m old.end).out in
    let bytes : new.output ≡ old.output ++ encodings (publishes_next m old.end).out =
    a.out.2 ∙ ap (λ (b : List ℕ). old.output ++ b) (encoding.all out a.out.0 (encoded out a.out.0 a.out.1)) ∙ ap (λ (r : Reply). old.output ++ encodings r.out) same in
    a.state
    ∙ ap (λ (r : Reply). record old { end = r.end; output = new.output; room = room_left m.qos old.room }) same
    ∙ ap (λ (b : List ℕ). record old { end = (publishes_next m old.end).end; output = b; room = room_left m.qos old.room }) bytes

-- the fact of a call that returned `Ok`
pub in_ok : {X E : Type 0} {P : X → Type 0} (r : Result X E) → IsOk r → IfOk r P → (x : X) × P x
in_ok (Ok x) ok p = (x, p)
in_ok (Err e) ok p = absurd cc
