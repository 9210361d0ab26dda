-- Messages that a source gives one after another.
use Rattle.std.proofs.Common.{List, [], ◌++◌, Option, Some, None, refl, sym, ◌∙◌, ap, append_assoc}
use Rattle.mq_packet.specs.declared.message.Message.{Message}
use Rattle.mq_pubsub.specs.Giving.{Gives}

-- no message
pub Gives-none : (coming : Option (List Message)) → Gives coming coming []
Gives-none None = tt
Gives-none (Some coming) = refl

-- some messages, and then others
pub Gives-append : (coming middle left : Option (List Message)) (first second : List Message) → Gives coming middle first → Gives middle left second → Gives coming left (first ++ second)
Gives-append None middle left first second p q = tt
Gives-append (Some coming) None left first second p q = absurd p
Gives-append (Some coming) (Some middle) None first second p q = absurd q
Gives-append (Some coming) (Some middle) (Some left) first second p q =
    p ∙ ap (λ (rest : List Message). first ++ rest) q ∙ sym (append_assoc first second left)
