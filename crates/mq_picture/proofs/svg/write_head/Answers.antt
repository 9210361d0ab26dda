use Rattle.mq_picture.specs.declared.svg.TheConstants.{STYLE}
use Rattle.mq_picture.proofs.Lines.{head_lines}
use Rattle.mq_picture.proofs.svg.write_head.Goals as goal

pub returns : goal.returns
returns g c =
    head_lines STYLE.now c.args.rows c.saturating_add-height.result (g.W.Write.contents c.args.output.now) (g.W.Write.contents c.write_first.new.output) (g.W.Write.contents c.write_style.new.output) (g.W.Write.contents c.write_lines.new.output)
    c.in_ok-write_first.ensures c.in_ok-write_style.ensures c.in_ok-write_lines.ensures
