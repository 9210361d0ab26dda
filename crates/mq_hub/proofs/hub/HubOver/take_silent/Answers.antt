use Rattle.std.proofs.Common.{◌≡◌, ◌∙◌, None, sym, subst}
use Rattle.mq_end.specs.Server.{server_gets}
use Rattle.mq_route.specs.Hub.{HubState, end_of}
use Rattle.mq_route.specs.Work.{does}
use Rattle.mq_tables.specs.Tables.{HubTables}
use Rattle.mq_hub.specs.Inside.Refinement.{Refines}
use Rattle.mq_hub.specs.Inside.View.{hub_of}
use Rattle.mq_hub.proofs.OtherRoom.{hub_alike, kept_alike}
use Rattle.mq_hub.proofs.GrantedRows.{can_take, either, err_so, ok_both, on_seen}
use Rattle.mq_hub.proofs.PacketSteps.{kept_taken, silent_goes, taken_goes}
use Rattle.mq_hub.proofs.hub.HubOver.take_silent.Goals as goal

pub take-requires : goal.take-requires
take-requires g c =
    let h = c.self.inside in
    let on = on_seen h.config h.clock h.next_key h.tables c.args.self.now c.args.key c.self.view_is c.requires.up in
    can_take h.config h.next_key h.tables c.self.invariant c.args.key on.conn on.is h.clock c.args.packet

pub invariant_of-self : goal.invariant_of-self
invariant_of-self g c =
    let h = c.self.inside in
    let u : HubTables = c.take.new.tables in
    let on = on_seen h.config h.clock h.next_key h.tables c.args.self.now c.args.key c.self.view_is c.requires.up in
    either c.take.result c.take.ensures.ok c.take.ensures.err
    (λ a. kept_taken h.config h.next_key c.args.key h.tables u c.self.invariant on.conn on.is h.clock c.args.packet a
    (subst (λ (s : HubState). (server_gets c.args.packet (end_of c.args.key s.sessions)).close ≡ None) (sym c.self.view_is) c.requires.stays))
    (λ a. kept_alike h.config h.next_key h.tables c.self.invariant u a)

pub returns-clause-goes : goal.returns-clause-goes
returns-clause-goes g c =
    let h = c.self.inside in
    let u : HubTables = c.take.new.tables in
    let p = c.args.packet in
    let key = c.args.key in
    let on = on_seen h.config h.clock h.next_key h.tables c.args.self.now key c.self.view_is c.requires.up in
    ok_both c.take.result c.take.ensures.ok c.take.ensures.ok
    (λ a same conn fits said. silent_goes conn key p fits c.args.self.now (hub_of h.config h.clock h.next_key u) said said c.requires.stays c.requires.silent
    (subst (λ (s : HubState). Refines (does key (server_gets p)) s said (hub_of h.config h.clock h.next_key u) said) c.self.view_is
    (taken_goes h.config h.next_key key h.tables u c.self.invariant on.conn on.is h.clock p a h.clock said)))

pub returns-clause-err : goal.returns-clause-err
returns-clause-err g c =
    let h = c.self.inside in
    let u : HubTables = c.take.new.tables in
    err_so c.take.result c.take.ensures.err (λ a. hub_alike h.config h.next_key h.tables c.self.invariant h.clock u a ∙ c.self.view_is)
