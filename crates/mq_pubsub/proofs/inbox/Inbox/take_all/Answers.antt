-- One more happening is taken.
use Rattle.std.proofs.Common.{◌++◌, refl}
use Rattle.mq_pubsub.specs.Subscribing.{prints_at}
use Rattle.mq_pubsub.proofs.Shown.{Prints-next, Shows-append, Shows-identifiers}
use Rattle.mq_pubsub.proofs.inbox.Inbox.take_all.Goals as goal

pub loop-happening-preserved : goal.loop-happening-preserved
loop-happening-preserved g c =
    let before = c.loop-happening.invariant in
    let shown = prints_at c.args.choice.now c.loop-happening.self c.happening-item.result in (
      before.0 ++ shown,
      Prints-next c.args.choice.now c.args.ends_when_granted c.args.self.now c.args.happenings.now
          c.loop-happening.happening-index c.loop-happening.self c.take.new.self before.0 shown c.happening-item.result
          c.loop-happening-test.true c.happening-item.is c.in_ok-take.ensures.state refl before.1,
      Shows-append (g.P.Printer.shown c.args.printer.now) (g.P.Printer.shown c.loop-happening.printer)
          (g.P.Printer.shown c.take.new.printer) before.0 shown before.2 c.in_ok-take.ensures.shows,
      Shows-identifiers c.args.output.now c.args.choice.now c.loop-happening.self c.happening-item.result c.id_of-id.result
          (g.P.Printer.identifiers c.args.printer.now) (g.P.Printer.identifiers c.loop-happening.printer)
          (g.P.Printer.identifiers c.take.new.printer) before.0 c.id_of-id.ensures before.3 c.in_ok-take.ensures.identifiers,
    )
