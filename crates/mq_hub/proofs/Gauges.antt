-- The numbers of sessions, as the broker's definition sees them.
use Rattle.std.proofs.Common.{◌≡◌, ℕ, ◌+◌, List, [], ◌∷◌, length, refl, sym, ap₂, ◌∙◌}
use Rattle.std.proofs.lemmas.Bool.{cond-true}
use Rattle.std.proofs.lemmas.List.Sums.{sum_by-cons}
use Rattle.std.specs.List.{AllByRecursion}
use Rattle.mq_route.specs.declared.config.HubConfig.{HubConfig}
use Rattle.mq_route.specs.Hub.{HubConnection}
use Rattle.mq_tables.specs.declared.sessions.session.BrokerSession.{BrokerSession}
use Rattle.mq_tables.specs.Numbers.{all_stored, stored_at}
use Rattle.mq_tables.specs.Sessions.{session_of, sessions_of}
use Rattle.mq_hub.specs.Gauges.{stored_by, stored_in}
use Rattle.mq_hub.specs.Inside.Invariant.{SessionMatchesConnection}

-- the messages of known sessions
pub stored_seen : (config : HubConfig) (xs : List HubConnection) (ts : List BrokerSession) → AllByRecursion (SessionMatchesConnection config xs) ts
    → all_stored ts ≡ stored_in (sessions_of ts)
stored_seen config xs [] all = refl
stored_seen config xs (t ∷ ts) all =
    sum_by-cons (λ (s : BrokerSession). stored_at s.end) t ts
    ∙ ap₂ (λ (m n : ℕ). m + n) (cond-true t.end.end.known (length t.end.end.book.entries) 0 all.0.known) (stored_seen config xs ts all.1)
    ∙ sym (sum_by-cons stored_by (session_of t) (sessions_of ts))
