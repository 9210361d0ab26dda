-- Packets that arrive one after another, and the packets that an end sends for them.
use Rattle.std.proofs.Common.{◌≡◌, ℕ, List, [], ◌∷◌, ◌++◌, Option, Some, None, refl, sym, ap, subst, ◌∙◌, append_assoc}
use Rattle.std.proofs.lemmas.List.{append-nil}
use Rattle.mq_packet.specs.declared.packet.Packet.{Packet}
use Rattle.mq_packet.specs.Encoding.{Encodes}
use Rattle.mq_end.specs.declared.reason.CloseReason.{CloseReason}
use Rattle.mq_end.specs.declared.progress_builder.ProgressBuilder.{ProgressBuilder}
use Rattle.mq_end.specs.End.{End, Reply, silent, first_reason, followed, one_by_one}
use Rattle.mq_end.specs.State.{EndState, EncodesAll, PutsOut}
use Rattle.mq_end.specs.Receiving.{Acts, Makes, held_after}

-- ---- Output

pub encoded_join : (ps qs : List Packet) (b c : List ℕ) → EncodesAll ps b → EncodesAll qs c → EncodesAll (ps ++ qs) (b ++ c)
encoded_join [] qs b c h k = subst (EncodesAll qs) (sym (ap (λ (t : List ℕ). t ++ c) h)) k
encoded_join (p ∷ ps) qs b c h k = (h.0, h.1 ++ c, h.2, encoded_join ps qs h.1 c h.3 k, ap (λ (t : List ℕ). t ++ c) h.4 ∙ append_assoc h.0 h.1 c)

pub encoded_one : (p : Packet) (b : List ℕ) → Encodes p b → EncodesAll (p ∷ []) b
encoded_one p b h = (b, [], h, refl, sym (append-nil b))

pub puts_nothing : (b : List ℕ) → PutsOut [] b b
puts_nothing b = ([], refl, sym (append-nil b))

pub puts_one : (p : Packet) (s old new : List ℕ) → Encodes p s → new ≡ old ++ s → PutsOut (p ∷ []) old new
puts_one p s old new h e = (s, encoded_one p s h, e)

pub puts_then : (ps qs : List Packet) (a b c : List ℕ) → PutsOut ps a b → PutsOut qs b c → PutsOut (ps ++ qs) a c
puts_then ps qs a b c h k = (h.0 ++ k.0, encoded_join ps qs h.0 k.0 h.1 k.1, k.2 ∙ ap (λ (t : List ℕ). t ++ k.0) h.2 ∙ append_assoc a h.0 k.0)

-- ---- replies, one after another

first_reason_assoc : (a b c : Option CloseReason) → first_reason (first_reason a b) c ≡ first_reason a (first_reason b c)
first_reason_assoc None b c = refl
first_reason_assoc (Some reason) b c = refl

pub followed_assoc : (r s t : Reply) → followed (followed r s) t ≡ followed r (followed s t)
followed_assoc r s t = λ k. record {
  end = t.end;
  out = append_assoc r.out s.out t.out k;
  happenings = append_assoc r.happenings s.happenings t.happenings k;
  freed = append_assoc r.freed s.freed t.freed k;
  close = first_reason_assoc r.close s.close t.close k;
}

first_reason_none : (a : Option CloseReason) → first_reason a None ≡ a
first_reason_none None = refl
first_reason_none (Some reason) = refl

pub followed_silent : (r : Reply) → followed r (silent r.end) ≡ r
followed_silent r = λ k. record {
  end = r.end;
  out = append-nil r.out k;
  happenings = append-nil r.happenings k;
  freed = append-nil r.freed k;
  close = first_reason_none r.close k;
}

pub one_by_one_join : (gets : Packet → End → Reply) (ps qs : List Packet) (e : End) → one_by_one gets (ps ++ qs) e ≡ followed (one_by_one gets ps e) (one_by_one gets qs (one_by_one gets ps e).end)
one_by_one_join gets [] qs e = refl
one_by_one_join gets (p ∷ ps) qs e =
    ap (λ (t : Reply). followed (gets p e) t) (one_by_one_join gets ps qs (gets p e).end)
    ∙ sym (followed_assoc (gets p e) (one_by_one gets ps (gets p e).end) (one_by_one gets qs (one_by_one gets ps (gets p e).end).end))

pub one_by_one_last : (gets : Packet → End → Reply) (ps : List Packet) (p : Packet) (e : End) → one_by_one gets (ps ++ p ∷ []) e ≡ followed (one_by_one gets ps e) (gets p (one_by_one gets ps e).end)
one_by_one_last gets ps p e =
    one_by_one_join gets ps (p ∷ []) e
    ∙ ap (λ (t : Reply). followed (one_by_one gets ps e) t) (followed_silent (gets p (one_by_one gets ps e).end))

-- ---- replies that are made

pub makes_nothing : (s : EndState) (t : ProgressBuilder) → Makes (silent s.end) s s t t
makes_nothing s t = record { out = puts_nothing s.output; state = refl; happenings = sym (append-nil t.happenings.items); acknowledged = sym (append-nil t.acknowledged.items) }

-- one reply after another that did not close
pub makes_then : (r s : Reply) (old mid new : EndState) (t u v : ProgressBuilder) → r.close ≡ None → Makes r old mid t u → Makes s mid new u v → Makes (followed r s) old new t v
makes_then r s old mid new t u v going h k = record {
  out = puts_then r.out s.out old.output mid.output new.output h.out k.out;
  state =
      k.state
      ∙ ap (λ (m : EndState). record m { end = s.end; output = new.output; held = held_after s.close m.held }) h.state
      ∙ ap (λ (c : Option CloseReason). record old { end = s.end; output = new.output; held = held_after s.close (held_after c old.held) }) going
      ∙ ap (λ (c : Option CloseReason). record old { end = s.end; output = new.output; held = held_after (first_reason c s.close) old.held }) (sym going);
  happenings = k.happenings ∙ ap (λ ts. ts ++ s.happenings) h.happenings ∙ append_assoc t.happenings.items r.happenings s.happenings;
  acknowledged = k.acknowledged ∙ ap (λ (is : List ℕ). is ++ s.freed) h.acknowledged ∙ append_assoc t.acknowledged.items r.freed s.freed;
}

-- the end that a reply leaves
pub makes_end : (r : Reply) (old new : EndState) (t u : ProgressBuilder) → Makes r old new t u → new.end ≡ r.end
makes_end r old new t u h = ap (λ (s : EndState). s.end) h.state

-- a reply that reports nothing
pub quiet : (r : Reply) (old new : EndState) (t : ProgressBuilder) → Acts r old new → r.happenings ≡ [] → r.freed ≡ [] → Makes r old new t t
quiet r old new t h none no_id = record {
  out = h.out;
  state = h.state;
  happenings = sym (ap (λ hs. t.happenings.items ++ hs) none ∙ append-nil t.happenings.items);
  acknowledged = sym (ap (λ (is : List ℕ). t.acknowledged.items ++ is) no_id ∙ append-nil t.acknowledged.items);
}
