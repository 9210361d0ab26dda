-- Messages with an identifier that are published without a connection.
use Rattle.std.proofs.Common.{◌≡◌, ℕ, List, [], ◌∷◌, if◌then◌else◌, Bool, false, refl, sym, subst}
use Rattle.mq_topic.specs.declared.qos.Qos.{Qos}
use Rattle.mq_topic.specs.declared.qos.Qos.TheVariants.{Q0, Q1, Q2}
use Rattle.mq_packet.specs.declared.message.Message.{Message}
use Rattle.mq_flow.specs.Sender.{publish_packet}
use Rattle.mq_end.specs.End.{End, is_up}
use Rattle.mq_end.specs.Both.{publishes, publishes_at}
use Rattle.mq_end.specs.State.{PutsOut}
use Rattle.mq_end.proofs.Replies.{puts_nothing}

-- without a connection such a message is stored, and nothing is sent
pub unsent : (id : ℕ) (message : Message) (end : End) (output now : List ℕ) → (message.qos ≡ Q0 → ⊥) → is_up end.state ≡ false → now ≡ output
    → PutsOut (publishes id message end).out output now
unsent id message end output now kept down same = go message.qos kept
  where
    quiet : PutsOut (if is_up end.state then publish_packet id false message ∷ [] else []) output now
    quiet = subst (λ (up : Bool). PutsOut (if up then publish_packet id false message ∷ [] else []) output now) (sym down)
        (subst (PutsOut [] output) (sym same) (puts_nothing output))

    go : (qos : Qos) → (qos ≡ Q0 → ⊥) → PutsOut (publishes_at qos id message end).out output now
    go Q0 has_one = absurd (has_one refl)
    go Q1 has_one = quiet
    go Q2 has_one = quiet
