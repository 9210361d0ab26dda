use Rattle.std.proofs.Common.{Bool, ◌∙◌, sym, subst}
use Rattle.mq_hub.specs.Inside.Close.{parts}
use Rattle.mq_hub.specs.Inside.TableSteps.{Proceeds}
use Rattle.mq_hub.proofs.close.disconnect.end_or_disconnect.Goals as goal

pub returns-then-is_clean-clause-proceeds : goal.returns-then-is_clean-clause-proceeds
returns-then-is_clean-clause-proceeds g c = λ same_rules.
    subst (λ (b : Bool). Proceeds same_rules (λ fits. parts c.args.conn c.args.why c.args.key b) c.args.tables.now c.args.log.now.acts c.end_session.new.tables
    c.end_session.new.log.acts) (sym c.if-is_clean.true ∙ c.is_clean.ensures) (c.end_session.ensures.proceeds same_rules)

pub returns-else-is_clean-clause-proceeds : goal.returns-else-is_clean-clause-proceeds
returns-else-is_clean-clause-proceeds g c = λ same_rules.
    subst (λ (b : Bool). Proceeds same_rules (λ fits. parts c.args.conn c.args.why c.args.key b) c.args.tables.now c.args.log.now.acts c.disconnect_session.new.tables
    c.disconnect_session.new.log.acts) (sym c.if-is_clean.false ∙ c.is_clean.ensures) (c.disconnect_session.ensures.proceeds same_rules)
