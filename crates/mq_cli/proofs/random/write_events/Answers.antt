use Rattle.mq_cli.proofs.MadeUp.{all_written, one_written}
use Rattle.mq_cli.specs.Inside.Random.{event_of}
use Rattle.mq_cli.proofs.random.write_events.Goals as goal

pub loop-number-preserved : goal.loop-number-preserved
loop-number-preserved g c =
    let at = c.loop-number in
    one_written c.args.start c.args.count at.generator c.next_word-word.new.self c.next_word-word.result at.number (event_of c.made_event.result at.number) (g.W.Write.contents c.args.output.now) (g.W.Write.contents at.output) (g.W.Write.contents c.write_event.new.output)
    at.invariant c.loop-number-test.true c.next_word-word.ensures c.made_event.ensures c.in_ok-write_event.ensures

pub returns : goal.returns
returns g c =
    let at = c.loop-number in
    all_written c.args.start c.args.count at.generator at.number (g.W.Write.contents c.args.output.now) (g.W.Write.contents at.output) at.invariant c.loop-number-test.false
