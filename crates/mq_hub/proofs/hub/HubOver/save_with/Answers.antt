use Rattle.std.proofs.Common.{All, ap, subst}
use Rattle.mq_route.specs.Snapshot.{HasIdentifiers, IsStorable}
use Rattle.mq_tables.specs.Sessions.{session_of}
use Rattle.mq_tables.proofs.SavedSessions.{all_identified}
use Rattle.mq_hub.proofs.hub.HubOver.save_with.Goals as goal

pub returns-clause-storable : goal.returns-clause-storable
returns-clause-storable g c =
    let list = c.self.inside.tables.sessions.list in
    let received : All (λ t. HasIdentifiers (session_of t)) list =
    subst (All (λ t. HasIdentifiers (session_of t))) (ap (λ h. h.tables.sessions.list) c.self-inside.view_is) c.in_ok-save-2.ensures.received in
    subst IsStorable c.self.view_is (all_identified list received)
