use Rattle.std.proofs.Common.{Option, subst, sym}
use Rattle.mq_packet.specs.declared.connect.Will.{Will}
use Rattle.mq_route.specs.Work.{last_will}
use Rattle.mq_hub.specs.Inside.Refinement.{Refines}
use Rattle.mq_hub.specs.Inside.View.{hub_of}
use Rattle.mq_hub.proofs.LastWills.{goes_without}
use Rattle.mq_hub.proofs.TableParts.{spares_none}
use Rattle.mq_hub.proofs.will.last_will.last_will.Goals as goal

pub returns-in-Some-clause-goes : goal.returns-in-Some-clause-goes
returns-in-Some-clause-goes g c = λ config clock next_key kept same.
    let goes = c.publish_will.ensures.goes config clock next_key kept same in (
      goes.0,
      subst (λ (o : Option Will). Refines (last_will c.args.key o goes.0) (hub_of config clock next_key c.args.tables.now) c.args.log.now.acts
          (hub_of config clock next_key c.publish_will.new.tables) c.publish_will.new.log.acts) (sym c.in-Some.is) goes.1,
    )

pub returns-in-None-clause-goes : goal.returns-in-None-clause-goes
returns-in-None-clause-goes g c = λ config clock next_key kept same_rules.
    goes_without c.args.key c.args.will (hub_of config clock next_key c.args.tables.now) c.args.log.now.acts c.in-None.is

pub returns-in-None-clause-spares : goal.returns-in-None-clause-spares
returns-in-None-clause-spares g c = spares_none c.args.tables.now
