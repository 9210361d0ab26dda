-- Messages of quality of service 0 that are published.
use Rattle.std.proofs.Common.{◌≡◌, ℕ, ◌++◌, List, None, true, refl, sym, ap, subst, ◌∙◌}
use Rattle.mq_topic.specs.declared.qos.Qos.{Qos}
use Rattle.mq_topic.specs.declared.qos.Qos.TheVariants.{Q0}
use Rattle.mq_packet.specs.declared.message.Message.{Message}
use Rattle.mq_packet.specs.declared.packet.Packet.TheVariants as packets
use Rattle.mq_packet.specs.Encoding.{Encodes}
use Rattle.mq_flow.specs.Sender.{IsFirstFree}
use Rattle.mq_end.specs.Both.{publishes_at, has_identifier, answered_identifier}
use Rattle.mq_end.specs.State.{EndState, PutsOut}
use Rattle.mq_end.specs.Publishing.{Accepts, room_left}
use Rattle.mq_end.proofs.Replies.{puts_one}

pub accepts_once : (m : Message) (old new : EndState) (b : List ℕ) → m.qos ≡ Q0 → Encodes (packets.Publish (record { message = m; delivery = None })) b → new ≡ record old { output = old.output ++ b } → Accepts None m old new
accepts_once m old new b zero encoded state = record {
  id = 0;
  answered = subst (λ (q : Qos). None ≡ answered_identifier q 0) (sym zero) refl;
  first = subst (λ (q : Qos). has_identifier q ≡ true → IsFirstFree old.end.last old.end.book 0) (sym zero) (λ h. absurd cc);
  out = subst (λ (q : Qos). PutsOut (publishes_at q 0 m old.end).out old.output new.output) (sym zero) (puts_one _ b old.output new.output encoded grown);
  state = subst (λ (q : Qos). new ≡ record old { end = (publishes_at q 0 m old.end).end; output = new.output; room = room_left q old.room }) (sym zero)
      (state ∙ ap (λ (o : List ℕ). record old { output = o }) (sym grown));
}
  where
    grown : new.output ≡ old.output ++ b
    grown = ap (λ (s : EndState). s.output) state
