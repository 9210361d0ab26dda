use Rattle.std.proofs.Common.{◌∙◌, sym}
use Rattle.mq_tables.proofs.FirstPackets.{ok_by}
use Rattle.mq_hub.proofs.FirstPackets.{goes_broken, goes_broken_level}
use Rattle.mq_hub.proofs.hub.HubOver.on_malformed_first.Goals as goal

pub returns-then-is_level-clause-goes : goal.returns-then-is_level-clause-goes
returns-then-is_level-clause-goes g c =
    ok_by c.refuse.result
    (λ p fits. goes_broken_level c.args.conn c.args.fault fits c.args.self.now c.refuse.new.self c.args.log.now.acts c.refuse.new.log.acts c.requires.fresh
    (sym c.is_level.ensures ∙ c.if-is_level.true) (p fits)) c.refuse.ensures.goes

pub returns-clause-goes : goal.returns-clause-goes
returns-clause-goes g c = λ fits.
    goes_broken c.args.conn c.args.fault fits c.args.self.now c.close_idle.new.self c.args.log.now.acts c.close_idle.new.log.acts c.requires.fresh
    (sym c.is_level.ensures ∙ c.if-is_level.false) (c.close_idle.ensures.goes fits)
