-- Brokers without connections.
use Rattle.std.proofs.Common.{◌≡◌, ◌<◌, ℕ, false, List, [], ◌∷◌, refl, ◌∙◌, ap, subst}
use Rattle.std.specs.List.{AllByRecursion}
use Rattle.mq_route.specs.declared.config.HubConfig.{HubConfig}
use Rattle.mq_route.specs.Begun.{MayBegin}
use Rattle.mq_route.specs.Hub.{HubConnection, HubState}
use Rattle.mq_tables.specs.declared.sessions.session.BrokerSession.{BrokerSession}
use Rattle.mq_tables.specs.Sessions.{AreBelow, sessions_of}
use Rattle.mq_tables.specs.Tables.{HubTables}
use Rattle.mq_hub.specs.Inside.Invariant.{HubInvariant, SessionMatchesConnection}
use Rattle.mq_hub.specs.Inside.View.{all_seen, hub_of}

none_seen : (ts : List BrokerSession) (xs : List HubConnection) → all_seen ts xs ≡ [] → xs ≡ []
none_seen ts [] e = refl
none_seen ts (x ∷ xs) e = absurd cc

keys : (next : ℕ) (ts : List BrokerSession) → AreBelow next ts → AllByRecursion (λ s. s.key < next) (sessions_of ts)
keys next [] below = tt
keys next (t ∷ ts) below = (below.0, keys next ts below.1)

lasting : (config : HubConfig) (ts : List BrokerSession) → AllByRecursion (SessionMatchesConnection config []) ts
    → AllByRecursion (λ s. s.end.clean ≡ false) (sessions_of ts)
lasting config [] fits = tt
lasting config (t ∷ ts) fits = (fits.0.clean, lasting config ts fits.1)

pub begins : (config : HubConfig) (clock next : ℕ) (t : HubTables) (hub : HubState) → HubInvariant config next t → hub_of config clock next t ≡ hub → hub.connections ≡ []
    → MayBegin hub
begins config clock next t hub holds view none =
    let xs = t.connections.connections in
    let seen_none : all_seen t.sessions.list xs ≡ [] = ap (λ (h : HubState). h.connections) view ∙ none in
    let is : xs ≡ [] = none_seen t.sessions.list xs seen_none in
    subst MayBegin view (record {
      none = seen_none;
      keys = keys next t.sessions.list holds.below;
      lasting = lasting config t.sessions.list (subst (λ (ys : List HubConnection). AllByRecursion (SessionMatchesConnection config ys) t.sessions.list) is holds.fitting);
    })
