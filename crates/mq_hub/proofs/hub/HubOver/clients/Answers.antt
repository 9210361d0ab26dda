use Rattle.std.proofs.Common.{◌≡◌, ◌∙◌, ℕ, List, [], ◌∷◌, map, refl, ap, subst}
use Rattle.std.specs.Result.{IfOk}
use Rattle.mq_route.specs.Hub.{HubSession, HubState}
use Rattle.mq_tables.specs.declared.sessions.session.BrokerSession.{BrokerSession}
use Rattle.mq_tables.specs.Sessions.{sessions_of}
use Rattle.mq_hub.proofs.hub.HubOver.clients.Goals as goal

clients_seen : (ts : List BrokerSession) → map (λ (t : BrokerSession). t.client) ts ≡ map (λ (s : HubSession). s.client) (sessions_of ts)
clients_seen [] = refl
clients_seen (t ∷ ts) = ap (λ (names : List (List ℕ)). t.client ∷ names) (clients_seen ts)

pub returns : goal.returns
returns g c =
    subst (λ (all : List (List ℕ)). IfOk c.clients.result (λ names. names.items ≡ all))
    ((λ i. map (λ (t : BrokerSession). t.client) (c.self-inside.view_is i).tables.sessions.list)
    ∙ clients_seen c.self.inside.tables.sessions.list
    ∙ ap (λ (h : HubState). map (λ (s : HubSession). s.client) h.sessions) c.self.view_is)
    c.clients.ensures
