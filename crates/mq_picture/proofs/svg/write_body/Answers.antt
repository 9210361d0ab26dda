use Rattle.mq_picture.proofs.Lines.{lines_next}
use Rattle.mq_picture.proofs.svg.write_body.Goals as goal

pub loop-number-preserved : goal.loop-number-preserved
loop-number-preserved g c =
    lines_next c.args.rows.now c.loop-number.number c.index-rows-number.result (g.W.Write.contents c.args.output.now) (g.W.Write.contents c.loop-number.output) (g.W.Write.contents c.write_row.new.output)
    c.loop-number-test.true c.index-rows-number.is c.loop-number.invariant c.in_ok-write_row.ensures
