use Rattle.mq_picture.specs.declared.svg.TheConstants.{STYLE}
use Rattle.mq_picture.proofs.Lines.{image_lines}
use Rattle.mq_picture.proofs.svg.write_rows.Goals as goal

pub returns : goal.returns
returns g c =
    image_lines c.write_end.result STYLE.now c.args.rows.now (g.W.Write.contents c.args.output.now) (g.W.Write.contents c.write_head.new.output) (g.W.Write.contents c.write_body.new.output) (g.W.Write.contents c.write_end.new.output)
    c.in_ok-write_head.ensures c.in_ok-write_body.ensures c.write_end.ensures
