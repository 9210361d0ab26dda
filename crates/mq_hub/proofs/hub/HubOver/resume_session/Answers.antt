use Rattle.std.proofs.Common.{◌≡◌, ◌∙◌, ◌&&◌, ◌++◌, ◌∷◌, [], true, not, None, List, sym, ap, subst}
use Rattle.std.specs.Option.{is_some}
use Rattle.mq_route.specs.declared.act.Act.{Act}
use Rattle.mq_route.specs.declared.act.Act.TheVariants as acts
use Rattle.mq_route.specs.declared.connection_state.ConnectionState.TheVariants.{AwaitingConnect, ConnectedAs}
use Rattle.mq_route.specs.declared.connection_state.ConnectionTerms.{ConnectionTerms}
use Rattle.mq_route.specs.Arrives.{resume_session, terms_of}
use Rattle.mq_route.specs.Hub.{HubState, HubConnection, stage_of, up_on, with_connection}
use Rattle.mq_tables.specs.Tables.{HubTables}
use Rattle.mq_tables.specs.Sessions.{session_at}
use Rattle.mq_tables.proofs.FirstPackets.{err_any}
use Rattle.mq_hub.specs.Inside.Refinement.{Refines}
use Rattle.mq_hub.specs.Inside.Invariant.{IsWillWithin}
use Rattle.mq_hub.specs.Inside.ConnectRoom.{has_session}
use Rattle.mq_hub.specs.Inside.View.{hub_of}
use Rattle.mq_hub.proofs.ConnectionChange.{stage_seen, up_seen}
use Rattle.mq_hub.proofs.InvariantChanges.{kept_by}
use Rattle.mq_hub.proofs.ConnectedSession.{goes_on_greeted, hub_roomed, keeps_greeted, kept_roomed, stands_of}
use Rattle.mq_hub.proofs.TableView.{hub_same}
use Rattle.mq_hub.proofs.hub.HubOver.resume_session.Goals as goal

pub invariant_of-self : goal.invariant_of-self
invariant_of-self g c =
    let h = c.self.inside in
    let rest = c.reserve_for_connect.ensures.rest in
    kept_by h.config h.next_key h.tables c.reserve_for_connect.new.self c.self.invariant (ap (λ (v : HubTables). v.rows) rest) (ap (λ (v : HubTables). v.retained.messages) rest)
    (ap (λ (v : HubTables). v.sessions.list) rest) c.reserve_for_connect.ensures.connections c.reserve_for_connect.ensures.limits

pub resume_session-requires-clause-stage : goal.resume_session-requires-clause-stage
resume_session-requires-clause-stage g c =
    let t : HubTables = c.self.inside.tables in
    let k = c.args.conn in
    ap (λ (xs : List HubConnection). stage_of k xs) c.reserve_for_connect.ensures.connections
    ∙ sym (stage_seen k t.sessions.list t.connections.connections) ∙ ap (λ (s : HubState). stage_of k s.connections) c.self.view_is ∙ c.requires.fresh

pub resume_session-requires-clause-client : goal.resume_session-requires-clause-client
resume_session-requires-clause-client g c =
    let t : HubTables = c.self.inside.tables in
    let key = c.args.key in
    ap (λ (xs : List HubConnection). up_on key xs) c.reserve_for_connect.ensures.connections
    ∙ sym (up_seen key t.sessions.list t.connections.connections) ∙ ap (λ (s : HubState). up_on key s.connections) c.self.view_is ∙ c.requires.away

pub resume_session-requires-clause-there : goal.resume_session-requires-clause-there
resume_session-requires-clause-there g c =
    let t : HubTables = c.self.inside.tables in
    let key = c.args.key in
    ap (λ (v : HubTables). is_some (session_at key v.sessions.list)) c.reserve_for_connect.ensures.rest
    ∙ stands_of key t.sessions.list (ap (λ (s : HubState). has_session key s.sessions) c.self.view_is ∙ c.requires.stands)

pub invariant_of-self-in_err-resume_session : goal.invariant_of-self-in_err-resume_session
invariant_of-self-in_err-resume_session g c =
    let h = c.self.inside in
    let t : HubTables = h.tables in
    let r : HubTables = c.reserve_for_connect.new.self in
    let rest = c.reserve_for_connect.ensures.rest in
    let key = c.args.key in
    let kept =
    kept_by h.config h.next_key t r c.self.invariant (ap (λ (v : HubTables). v.rows) rest) (ap (λ (v : HubTables). v.retained.messages) rest)
    (ap (λ (v : HubTables). v.sessions.list) rest) c.reserve_for_connect.ensures.connections c.reserve_for_connect.ensures.limits in
    let none : up_on key r.connections.connections ≡ None =
    ap (λ (xs : List HubConnection). up_on key xs) c.reserve_for_connect.ensures.connections
    ∙ sym (up_seen key t.sessions.list t.connections.connections) ∙ ap (λ (s : HubState). up_on key s.connections) c.self.view_is ∙ c.requires.away in
    let after = c.resume_session.ensures.rest in
    kept_roomed h.config h.next_key key r c.resume_session.new.self kept none c.in_err-resume_session.ensures.err (ap (λ (v : HubTables). v.rows) after) (ap (λ (v : HubTables). v.retained.messages) after)
    c.in_err-resume_session.ensures.still c.resume_session.ensures.limits

pub returns-in_err-resume_session-clause-err : goal.returns-in_err-resume_session-clause-err
returns-in_err-resume_session-clause-err g c =
    let h = c.self.inside in
    let t : HubTables = h.tables in
    let r : HubTables = c.reserve_for_connect.new.self in
    let rest = c.reserve_for_connect.ensures.rest in
    let rows = ap (λ (v : HubTables). v.rows) rest in
    let retained = ap (λ (v : HubTables). v.retained.messages) rest in
    let list = ap (λ (v : HubTables). v.sessions.list) rest in
    let key = c.args.key in
    let kept = kept_by h.config h.next_key t r c.self.invariant rows retained list c.reserve_for_connect.ensures.connections c.reserve_for_connect.ensures.limits in
    let none : up_on key r.connections.connections ≡ None =
    ap (λ (xs : List HubConnection). up_on key xs) c.reserve_for_connect.ensures.connections
    ∙ sym (up_seen key t.sessions.list t.connections.connections) ∙ ap (λ (s : HubState). up_on key s.connections) c.self.view_is ∙ c.requires.away in
    let after = c.resume_session.ensures.rest in
    err_any c.from_residual-in_err-resume_session.result
    (hub_roomed h.config h.next_key key r c.resume_session.new.self kept none c.in_err-resume_session.ensures.err (ap (λ (v : HubTables). v.rows) after) (ap (λ (v : HubTables). v.retained.messages) after)
    c.in_err-resume_session.ensures.still h.clock
    ∙ hub_same h.config h.clock h.next_key t r rows retained list c.reserve_for_connect.ensures.connections ∙ c.self.view_is)

pub invariant_of-self-2 : goal.invariant_of-self-2
invariant_of-self-2 g c =
    let h = c.self.inside in
    let t : HubTables = h.tables in
    let r : HubTables = c.reserve_for_connect.new.self in
    let rest = c.reserve_for_connect.ensures.rest in
    let k = c.args.conn in
    let key = c.args.key in
    let kept =
    kept_by h.config h.next_key t r c.self.invariant (ap (λ (v : HubTables). v.rows) rest) (ap (λ (v : HubTables). v.retained.messages) rest)
    (ap (λ (v : HubTables). v.sessions.list) rest) c.reserve_for_connect.ensures.connections c.reserve_for_connect.ensures.limits in
    let none : up_on key r.connections.connections ≡ None =
    ap (λ (xs : List HubConnection). up_on key xs) c.reserve_for_connect.ensures.connections
    ∙ sym (up_seen key t.sessions.list t.connections.connections) ∙ ap (λ (s : HubState). up_on key s.connections) c.self.view_is ∙ c.requires.away in
    let at : stage_of k r.connections.connections ≡ AwaitingConnect =
    ap (λ (xs : List HubConnection). stage_of k xs) c.reserve_for_connect.ensures.connections
    ∙ sym (stage_seen k t.sessions.list t.connections.connections) ∙ ap (λ (s : HubState). stage_of k s.connections) c.self.view_is ∙ c.requires.fresh in
    let connections = c.in_ok-resume_session.ensures.connections ∙ ap (λ (m : ConnectionTerms). with_connection (λ x. record x { stage = ConnectedAs key m h.clock }) k r.connections.connections) (c.in_ok-terms.ensures ∙ ap terms_of c.as_connect.ensures) in
    let after = c.resume_session.ensures.rest in
    keeps_greeted k c.args.connect key (λ i. not (c.requires.goes_on i) && c.requires.named i) h.config h.clock h.next_key r c.resume_session.new.self kept none at c.in_ok-resume_session.ensures.ok
    (ap (λ (v : HubTables). v.rows) after) (ap (λ (v : HubTables). v.retained.messages) after) connections
    (subst (λ (s : HubState). IsWillWithin s.config.limits.most c.args.connect.will) (sym c.self.view_is) c.requires.will) c.resume_session.ensures.limits

pub returns-clause-goes : goal.returns-clause-goes
returns-clause-goes g c =
    let h = c.self.inside in
    let t : HubTables = h.tables in
    let r : HubTables = c.reserve_for_connect.new.self in
    let u : HubTables = c.resume_session.new.self in
    let rest = c.reserve_for_connect.ensures.rest in
    let k = c.args.conn in
    let key = c.args.key in
    let did = c.args.log.now.acts in
    let rows = ap (λ (v : HubTables). v.rows) rest in
    let retained = ap (λ (v : HubTables). v.retained.messages) rest in
    let list = ap (λ (v : HubTables). v.sessions.list) rest in
    let kept = kept_by h.config h.next_key t r c.self.invariant rows retained list c.reserve_for_connect.ensures.connections c.reserve_for_connect.ensures.limits in
    let none : up_on key r.connections.connections ≡ None =
    ap (λ (xs : List HubConnection). up_on key xs) c.reserve_for_connect.ensures.connections
    ∙ sym (up_seen key t.sessions.list t.connections.connections) ∙ ap (λ (s : HubState). up_on key s.connections) c.self.view_is ∙ c.requires.away in
    let at : stage_of k r.connections.connections ≡ AwaitingConnect =
    ap (λ (xs : List HubConnection). stage_of k xs) c.reserve_for_connect.ensures.connections
    ∙ sym (stage_seen k t.sessions.list t.connections.connections) ∙ ap (λ (s : HubState). stage_of k s.connections) c.self.view_is ∙ c.requires.fresh in
    let connections = c.in_ok-resume_session.ensures.connections ∙ ap (λ (m : ConnectionTerms). with_connection (λ x. record x { stage = ConnectedAs key m h.clock }) k r.connections.connections) (c.in_ok-terms.ensures ∙ ap terms_of c.as_connect.ensures) in
    let after = c.resume_session.ensures.rest in
    let says = did ++ acts.Up k key true ∷ [] in
    subst (λ (a : List Act). Refines (resume_session k c.args.connect key) c.args.self.now did (hub_of h.config h.clock h.next_key u) a) (sym c.push.ensures.acts)
    (subst (λ (s : HubState). Refines (resume_session k c.args.connect key) s did (hub_of h.config h.clock h.next_key u) says)
    (hub_same h.config h.clock h.next_key t r rows retained list c.reserve_for_connect.ensures.connections ∙ c.self.view_is)
    (goes_on_greeted k c.args.connect key (λ i. not (c.requires.goes_on i) && c.requires.named i) h.config h.clock h.next_key r u kept none at c.in_ok-resume_session.ensures.ok
    (ap (λ (v : HubTables). v.rows) after) (ap (λ (v : HubTables). v.retained.messages) after) connections c.requires.goes_on did))
