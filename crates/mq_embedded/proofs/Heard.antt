-- Received bytes.
use Rattle.std.proofs.Common.{◌≡◌, ℕ, true, false, List, [], Option, None, Ok, sym, subst, ◌∙◌}
use Rattle.mq_end.specs.declared.happening.Happening.{Happening}
use Rattle.mq_end.specs.declared.progress.Progress.{Progress}
use Rattle.mq_end.specs.declared.reason.CloseReason.{CloseReason}
use Rattle.mq_end.specs.End.{is_live}
use Rattle.mq_end.specs.Publishing.{ClientState}
use Rattle.mq_end.specs.Receiving.{ClientReceives}
use Rattle.mq_embedded.specs.Calls.{Hears, KeepsOptions, Receives, WithEvents}

-- The end's reaction is the client's, if its events become pending.
pub heard : (bytes : List ℕ) (old new : ClientState) (before events : List Happening) (closed : Option CloseReason) (p : Progress)
    → (is_live old.link.end.state ≡ true → ClientReceives bytes old.link new.link p.happenings p.acknowledged p.closed)
    → (is_live old.link.end.state ≡ false → new ≡ old)
    → (is_live old.link.end.state ≡ false → (p.happenings ≡ []) × (p.acknowledged ≡ []) × (p.closed ≡ None))
    → KeepsOptions old new → events ≡ p.happenings → closed ≡ p.closed
    → Hears bytes (record { end = old; events = before }) (record { end = new; events = events }) closed
heard bytes old new before events closed p alive dead nothing options told reason =
    let Shown : List Happening → Option CloseReason → Type 0 = λ es why. ClientReceives bytes old.link new.link es p.acknowledged why in
    let live : is_live old.link.end.state ≡ true → (a : List ℕ) × ClientReceives bytes old.link new.link events a closed =
    λ up. (p.acknowledged, subst (λ (es : List Happening). Shown es closed) (sym told) (subst (λ (why : Option CloseReason). Shown p.happenings why) (sym reason) (alive up))) in
    (live, λ down. (dead down, told ∙ (nothing down).0, reason ∙ (nothing down).2), options)

-- Bytes are received if no event is pending.
pub received : (bytes : List ℕ) (old before new : WithEvents) (closed : Option CloseReason) → before ≡ old → old.events ≡ [] → Hears bytes before new closed → Receives bytes old new (Ok closed)
received bytes old before new closed same none hears =
    (none, subst (λ (it : WithEvents). Hears bytes it new closed) same hears)
