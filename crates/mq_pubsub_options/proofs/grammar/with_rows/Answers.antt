use Rattle.mq_pubsub_options.proofs.Rows.{with_all, with_more}
use Rattle.mq_pubsub_options.proofs.grammar.with_rows.Goals as goal

pub loop-row-preserved : goal.loop-row-preserved
loop-row-preserved c = with_more _ _ _ c.args.rows.now c.loop-row.row-index _ c.loop-row-test.true c.loop-row.invariant c.in_ok-command.ensures

pub returns : goal.returns
returns c = with_all _ _ _ _ c.loop-row-test.false c.loop-row.invariant
