-- Visits that discard a session.
use Rattle.std.proofs.Common.{◌≡◌, ℕ, None, true, List, [], ◌∷◌, ◌++◌, Result, Ok, Err, OnOk, ap, ◌∙◌}
use Rattle.std.specs.Bool.{⊤}
use Rattle.mq_end.specs.declared.happening.Happening.{Happening}
use Rattle.mq_end.specs.declared.reason.CloseReason.{CloseReason}
use Rattle.mq_end.specs.End.{blank_end, is_up}
use Rattle.mq_end.specs.Publishing.{ClientState}
use Rattle.mq_client.specs.Course.{Leaves, Moment, Opening, Went}
use Rattle.mq_client.proofs.Courses.{went_none, went_then}
use Rattle.mq_pubsub.specs.declared.error.RunError.{RunError}
use Rattle.mq_pubsub_runs.specs.Discarding.{Discards, Hears}

pub hears_none : (a : Moment) → Hears a a
hears_none a = record { told = []; reasons = []; went = went_none a }

pub hears_more : (a b c : Moment) (told : List Happening) (reasons : List CloseReason) → Hears a b → Went b c [] told reasons → Hears a c
hears_more a b c told reasons p went = record {
  told = p.told ++ told;
  reasons = p.reasons ++ reasons;
  went = went_then a b c [] [] p.told told p.reasons reasons p.went went;
}

pub discards : (a b c d : Moment) → Went a b (Opening true ∷ []) [] [] → Hears b c → is_up c.client.link.end.state ≡ true → Leaves c d → Discards a d
discards a b c d opens hears up leaves = record { opened = b; last = c; opens = opens; hears = hears; up = up; leaves = leaves }

-- the client of the visit was made for it
pub discarded : (r : Result ⊤ RunError) (client : ClientState) (id : List ℕ) → client.config.id ≡ id → client.link.end ≡ blank_end None
    → OnOk r ((a : Moment) × (b : Moment) × (a.client ≡ client) × Discards a b)
    → OnOk r ((a : Moment) × (b : Moment) × (a.client.config.id ≡ id) × (a.client.link.end ≡ blank_end None) × Discards a b)
discarded (Ok done) client id named blank p = (p.0, p.1, ap (λ c. c.config.id) p.2 ∙ named, ap (λ c. c.link.end) p.2 ∙ blank, p.3)
discarded (Err error) client id named blank p = tt
