use Rattle.std.proofs.Common.{◌∙◌, sym, ap, subst}
use Rattle.mq_route.specs.Hub.{HubState, key_on, stage_of}
use Rattle.mq_route.specs.Work.{close}
use Rattle.mq_tables.specs.Tables.{HubTables}
use Rattle.mq_hub.specs.Inside.Refinement.{Refines}
use Rattle.mq_hub.specs.Inside.View.{hub_of}
use Rattle.mq_hub.proofs.ConnectionChange.{stage_seen}
use Rattle.mq_hub.proofs.DisconnectTimes.{closed_at}
use Rattle.mq_hub.proofs.hub.HubOver.close.Goals as goal

pub close_up-requires-clause-hubs : goal.close_up-requires-clause-hubs
close_up-requires-clause-hubs g c =
    let h = c.self.inside in
    record { config = h.config; next_key = h.next_key; keeps = c.self.invariant }

pub close_up-requires-clause-up : goal.close_up-requires-clause-up
close_up-requires-clause-up g c =
    let t : HubTables = c.self.inside.tables in
    ap key_on (sym (stage_seen c.args.conn t.sessions.list t.connections.connections)) ∙ ap (λ (s : HubState). key_on (stage_of c.args.conn s.connections)) c.self.view_is
    ∙ sym c.key.ensures.key ∙ c.in-Some.is

pub invariant_of-self : goal.invariant_of-self
invariant_of-self g c =
    let h = c.self.inside in
    c.close_up.ensures.proceeds.keeps h.config h.next_key c.self.invariant

pub returns-in-Some-clause-goes : goal.returns-in-Some-clause-goes
returns-in-Some-clause-goes g c =
    let h = c.self.inside in
    let goes = c.close_up.ensures.proceeds.goes h.config h.clock h.next_key c.self.invariant (sym c.rules_of-rules.ensures) in (
      goes.0,
      subst (λ (s : HubState). Refines (close c.args.conn c.args.why goes.0) s c.args.log.now.acts (hub_of h.config h.clock h.next_key c.close_up.new.tables)
          c.close_up.new.log.acts) c.self.view_is
          (closed_at (λ w. w) c.args.conn c.args.why goes.0 (hub_of h.config h.clock h.next_key h.tables) (hub_of h.config h.clock h.next_key c.close_up.new.tables) c.args.log.now.acts
          c.close_up.new.log.acts goes.1),
    )
