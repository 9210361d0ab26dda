-- The result of one packet as an outcome.
use Rattle.std.proofs.Common.{◌≡◌, ℕ, List, [], ◌++◌, Some, None, option_to_list, refl, sym, ap, subst, ◌∙◌}
use Rattle.mq_end.specs.declared.packet_outcome.PacketOutcome.{PacketOutcome}
use Rattle.mq_end.specs.declared.reason.CloseReason.{CloseReason}
use Rattle.mq_end.specs.declared.progress_builder.ProgressBuilder.{ProgressBuilder}
use Rattle.mq_end.specs.End.{Reply, over, closes, silent}
use Rattle.mq_end.specs.State.{EndState, PutsOut}
use Rattle.mq_end.specs.Receiving.{Acts, Gives, Makes, no_outcome}
use Rattle.mq_end.proofs.Replies.{puts_nothing}

-- a reply that reports nothing
pub quiet : (r : Reply) (o : PacketOutcome) (old new : EndState) → Acts r old new → o ≡ no_outcome → r.happenings ≡ [] → r.freed ≡ [] → r.close ≡ None → Gives r o old new
quiet r o old new h is none no_id going = record {
  out = h.out;
  state = h.state;
  happening = ap (λ (x : PacketOutcome). option_to_list x.happening) is ∙ sym none;
  acknowledged = ap (λ (x : PacketOutcome). option_to_list x.acknowledged) is ∙ sym no_id;
  close = ap (λ (x : PacketOutcome). x.closed) is ∙ sym going;
}

-- an end that closes
pub closes_acts : (reason : CloseReason) (old new : EndState) → new ≡ record old { end = over old.end; held = [] } → Acts (closes reason old.end) old new
closes_acts reason old new s = record {
  out = subst (λ (o : List ℕ). PutsOut [] old.output o) (sym same) (puts_nothing old.output);
  state = s ∙ ap (λ (o : List ℕ). record old { end = over old.end; output = o; held = [] }) (sym same);
}
  where
    same : new.output ≡ old.output
    same = ap (λ (x : EndState). x.output) s

-- If nothing changed before.
pub closes_kept : (reason : CloseReason) (old mid new : EndState) → mid ≡ old → new ≡ record mid { end = over mid.end; held = [] } → Acts (closes reason old.end) old new
closes_kept reason old mid new same s = closes_acts reason old new (s ∙ ap (λ (x : EndState). record x { end = over x.end; held = [] }) same)

-- The only result.
abbrev pub closed_with : CloseReason → PacketOutcome
closed_with reason = record { happening = None; acknowledged = None; closed = Some reason }

pub closes_gives : (reason : CloseReason) (o : PacketOutcome) (old new : EndState) → o ≡ closed_with reason → new ≡ record old { end = over old.end; held = [] } → Gives (closes reason old.end) o old new
closes_gives reason o old new is s =
    let a = closes_acts reason old new s in
    record {
      out = a.out;
      state = a.state;
      happening = ap (λ (x : PacketOutcome). option_to_list x.happening) is;
      acknowledged = ap (λ (x : PacketOutcome). option_to_list x.acknowledged) is;
      close = ap (λ (x : PacketOutcome). x.closed) is;
    }

-- nothing comes of it
pub silent_gives : (o : PacketOutcome) (s : EndState) → o ≡ no_outcome → Gives (silent s.end) o s s
silent_gives o s is = quiet (silent s.end) o s s (record { out = puts_nothing s.output; state = refl }) is refl refl refl

-- Its event comes behind the earlier ones.
pub told_behind : (r : Reply) (o : PacketOutcome) (old new : EndState) (t u v : ProgressBuilder) → Gives r o old new → u.happenings.items ≡ t.happenings.items → u.acknowledged.items ≡ t.acknowledged.items
    → v.happenings.items ≡ u.happenings.items ++ option_to_list o.happening → v.acknowledged.items ≡ u.acknowledged.items ++ option_to_list o.acknowledged → Makes r old new t v
told_behind r o old new t u v g same_h same_a more_h more_a = record {
  out = g.out;
  state = g.state;
  happenings = more_h ∙ ap (λ hs. hs ++ option_to_list o.happening) same_h ∙ ap (λ hs. t.happenings.items ++ hs) g.happening;
  acknowledged = more_a ∙ ap (λ (is : List ℕ). is ++ option_to_list o.acknowledged) same_a ∙ ap (λ (is : List ℕ). t.acknowledged.items ++ is) g.acknowledged;
}
