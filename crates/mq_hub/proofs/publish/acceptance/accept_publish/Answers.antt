use Rattle.std.proofs.Common.{refl, ap, subst, Result, Ok}
use Rattle.std.specs.declared.alloc.AllocError.{AllocError}
use Rattle.mq_packet.specs.Publication.{Publication}
use Rattle.mq_end.specs.declared.publish_outcome.PublishOutcome.{PublishOutcome}
use Rattle.mq_end.specs.Receiving.{outcome_of, told_of}
use Rattle.mq_tables.specs.Calls.{ServesAt, publish_call}
use Rattle.mq_tables.specs.Tables.{HubTables}
use Rattle.mq_hub.proofs.PublishOutcome.{all_ready, queued, same_books}
use Rattle.mq_hub.proofs.publish.acceptance.accept_publish.Goals as goal

pub returns-clause-ok : goal.returns-clause-ok
returns-clause-ok g c =
    let key = c.args.key in
    let m = c.args.message.now in
    let call = publish_call c.args.now m c.args.delivery in
    record {
      ready = c.args.tables.now.sessions.list;
      same = refl;
      outcome = outcome_of c.in_ok-serve_publish.field-0 m;
      serves = subst (λ (r : Result PublishOutcome AllocError). ServesAt key call (told_of m r) c.args.tables.now.sessions.list c.serve_publish.new.self.list) c.in_ok-serve_publish.was
          (subst (λ (v : HubTables). ServesAt key call (told_of m c.serve_publish.result) v.sessions.list c.serve_publish.new.self.list) c.tables.view_is c.serve_publish.ensures.serves);
      rows = ap (λ (v : HubTables). v.rows) c.tables.view_is;
      retained = ap (λ (v : HubTables). v.retained) c.tables.view_is;
      connections = ap (λ (v : HubTables). v.connections) c.tables.view_is;
    }

pub returns-clause-ready : goal.returns-clause-ready
returns-clause-ready g c =
    let key = c.args.key in
    let m = c.args.message.now in
    let p : Publication = record { message = m; delivery = c.args.delivery } in
    let call = publish_call c.args.now m c.args.delivery in
    let serves : ServesAt key call (Ok (outcome_of c.in_ok-serve_publish.field-0 m)) c.args.tables.now.sessions.list c.serve_publish.new.self.list =
    subst (λ (r : Result PublishOutcome AllocError). ServesAt key call (told_of m r) c.args.tables.now.sessions.list c.serve_publish.new.self.list) c.in_ok-serve_publish.was
    (subst (λ (v : HubTables). ServesAt key call (told_of m c.serve_publish.result) v.sessions.list c.serve_publish.new.self.list) c.tables.view_is c.serve_publish.ensures.serves) in
    all_ready key c.args.now p (outcome_of c.in_ok-serve_publish.field-0 m) c.args.tables.now.sessions.list c.serve_publish.new.self.list serves
    c.requires.can c.requires.stays

pub returns-clause-books : goal.returns-clause-books
returns-clause-books g c =
    let key = c.args.key in
    let m = c.args.message.now in
    let p : Publication = record { message = m; delivery = c.args.delivery } in
    let call = publish_call c.args.now m c.args.delivery in
    let serves : ServesAt key call (Ok (outcome_of c.in_ok-serve_publish.field-0 m)) c.args.tables.now.sessions.list c.serve_publish.new.self.list =
    subst (λ (r : Result PublishOutcome AllocError). ServesAt key call (told_of m r) c.args.tables.now.sessions.list c.serve_publish.new.self.list) c.in_ok-serve_publish.was
    (subst (λ (v : HubTables). ServesAt key call (told_of m c.serve_publish.result) v.sessions.list c.serve_publish.new.self.list) c.tables.view_is c.serve_publish.ensures.serves) in
    same_books key c.args.now p (outcome_of c.in_ok-serve_publish.field-0 m) c.args.tables.now.sessions.list c.serve_publish.new.self.list serves
    c.requires.can c.requires.stays

pub returns-clause-outputs : goal.returns-clause-outputs
returns-clause-outputs g c =
    let key = c.args.key in
    let m = c.args.message.now in
    let p : Publication = record { message = m; delivery = c.args.delivery } in
    let call = publish_call c.args.now m c.args.delivery in
    let serves : ServesAt key call (Ok (outcome_of c.in_ok-serve_publish.field-0 m)) c.args.tables.now.sessions.list c.serve_publish.new.self.list =
    subst (λ (r : Result PublishOutcome AllocError). ServesAt key call (told_of m r) c.args.tables.now.sessions.list c.serve_publish.new.self.list) c.in_ok-serve_publish.was
    (subst (λ (v : HubTables). ServesAt key call (told_of m c.serve_publish.result) v.sessions.list c.serve_publish.new.self.list) c.tables.view_is c.serve_publish.ensures.serves) in
    queued key c.args.now p (outcome_of c.in_ok-serve_publish.field-0 m) c.args.tables.now.sessions.list c.serve_publish.new.self.list serves
    c.requires.can c.requires.stays
