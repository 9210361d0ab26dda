use Rattle.std.proofs.Common.{◌∙◌, sym, ap}
use Rattle.mq_route.specs.Hub.{HubState, knows, waiting_on}
use Rattle.mq_route.specs.Step.{on_collect}
use Rattle.mq_tables.proofs.FirstPackets.{err_by, if_ok_by, ok_by}
use Rattle.mq_hub.proofs.OutputView.{own_bytes_as, own_err, own_keeps, own_taken, up_bytes, up_err, up_keeps, up_taken}
use Rattle.mq_hub.proofs.TakenOutput.{backed_at}
use Rattle.mq_hub.proofs.TableView.{knows_seen}
use Rattle.mq_hub.proofs.hub.HubOver.collect.Goals as goal

pub collect_up-requires : goal.collect_up-requires
collect_up-requires g c =
    let h = c.self.inside in
    backed_at h.config.limits.most c.args.conn c.in-Some.key h.tables.sessions.list h.tables.connections.connections c.self.invariant.backed (sym c.in-Some.ensures)

pub invariant_of-self : goal.invariant_of-self
invariant_of-self g c =
    let h = c.self.inside in
    let a = c.collect_up.ensures.collects in
    up_keeps h.config h.next_key c.in-Some.key a.session a.end h.tables c.collect_up.new.self a.there c.self.invariant c.collect_up.ensures.rest a.after c.collect_up.result a.collects

pub returns-in-Some-clause-bytes : goal.returns-in-Some-clause-bytes
returns-in-Some-clause-bytes g c =
    let h = c.self.inside in
    let a = c.collect_up.ensures.collects in
    if_ok_by c.collect_up.result (λ b is. is ∙ ap (λ (v : HubState). waiting_on c.args.conn v.connections) c.self.view_is)
    (up_bytes h.config h.next_key c.in-Some.key a.session a.end h.tables c.collect_up.new.self a.there c.self.invariant c.collect_up.ensures.rest a.after h.clock c.args.conn (sym c.in-Some.ensures)
    c.collect_up.result a.collects)

pub returns-in-Some-clause-taken : goal.returns-in-Some-clause-taken
returns-in-Some-clause-taken g c =
    let h = c.self.inside in
    let a = c.collect_up.ensures.collects in
    ok_by c.collect_up.result (λ is. is ∙ ap (on_collect c.args.conn) c.self.view_is)
    (up_taken h.config h.next_key c.in-Some.key a.session a.end h.tables c.collect_up.new.self a.there c.self.invariant c.collect_up.ensures.rest a.after h.clock c.args.conn (sym c.in-Some.ensures)
    c.collect_up.result a.collects)

pub returns-in-Some-clause-err : goal.returns-in-Some-clause-err
returns-in-Some-clause-err g c =
    let h = c.self.inside in
    let a = c.collect_up.ensures.collects in
    err_by c.collect_up.result (λ is. is ∙ c.self.view_is)
    (up_err h.config h.next_key c.in-Some.key a.session a.end h.tables c.collect_up.new.self a.there c.self.invariant c.collect_up.ensures.rest a.after h.clock c.args.conn (sym c.in-Some.ensures)
    c.collect_up.result a.collects)

pub collect_own-requires : goal.collect_own-requires
collect_own-requires g c =
    let h = c.self.inside in
    sym (knows_seen c.args.conn h.tables.sessions.list h.tables.connections.connections) ∙ ap (λ (v : HubState). knows c.args.conn v.connections) c.self.view_is ∙ c.requires

pub invariant_of-self-in-None : goal.invariant_of-self-in-None
invariant_of-self-in-None g c =
    let h = c.self.inside in
    let e = c.collect_own.ensures in
    own_keeps h.config h.next_key c.args.conn h.tables c.collect_own.new.self c.self.invariant e.rest c.collect_own.result e.taken e.err e.limits

pub returns-in-None-clause-bytes : goal.returns-in-None-clause-bytes
returns-in-None-clause-bytes g c =
    let h = c.self.inside in
    let e = c.collect_own.ensures in
    if_ok_by c.collect_own.result (λ b is. is ∙ ap (λ (v : HubState). waiting_on c.args.conn v.connections) c.self.view_is)
    (own_bytes_as h.config h.next_key c.args.conn h.tables c.collect_own.new.self c.self.invariant e.rest h.clock (sym c.in-None.ensures) c.collect_own.result e.bytes)

pub returns-in-None-clause-taken : goal.returns-in-None-clause-taken
returns-in-None-clause-taken g c =
    let h = c.self.inside in
    let e = c.collect_own.ensures in
    ok_by c.collect_own.result (λ is. is ∙ ap (on_collect c.args.conn) c.self.view_is)
    (own_taken h.config h.next_key c.args.conn h.tables c.collect_own.new.self c.self.invariant e.rest h.clock (sym c.in-None.ensures) c.collect_own.result e.taken)

pub returns-in-None-clause-err : goal.returns-in-None-clause-err
returns-in-None-clause-err g c =
    let h = c.self.inside in
    let e = c.collect_own.ensures in
    err_by c.collect_own.result (λ is. is ∙ c.self.view_is)
    (own_err h.config h.next_key c.args.conn h.tables c.collect_own.new.self c.self.invariant e.rest h.clock (sym c.in-None.ensures) c.collect_own.result e.err)
