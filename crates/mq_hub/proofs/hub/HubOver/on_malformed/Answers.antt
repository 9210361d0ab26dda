use Rattle.std.proofs.Common.{true, sym}
use Rattle.mq_hub.proofs.MalformedBytes.{broken_up}
use Rattle.mq_hub.proofs.LastActivity.{is_fresh, on_ok}
use Rattle.mq_route.specs.Hub.{stage_of}
use Rattle.mq_hub.proofs.hub.HubOver.on_malformed.Goals as goal

pub returns-in-Some-clause-goes : goal.returns-in-Some-clause-goes
returns-in-Some-clause-goes g c =
    let p = c.close.ensures.goes in (
      p.0,
      broken_up c.args.conn c.args.fault c.in-Some.field-0 c.args.self.now (sym c.in-Some.ensures.key) c.in-Some.ensures.up p.0
          c.close.new.self c.args.log.now.acts c.close.new.log.acts p.1,
    )

pub on_malformed_first-requires-clause-fresh : goal.on_malformed_first-requires-clause-fresh
on_malformed_first-requires-clause-fresh g c = is_fresh (stage_of c.args.conn c.args.self.now.connections) c.requires.open (sym c.in-None.ensures.key)

pub returns-in-None-clause-goes : goal.returns-in-None-clause-goes
returns-in-None-clause-goes g c = on_ok c.on_malformed_first.result (λ each. (true, each true)) c.on_malformed_first.ensures.goes
