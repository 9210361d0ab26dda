use Rattle.std.proofs.Common.{◌∙◌}
use Rattle.mq_hub.proofs.LoadedConnections.{silent_hub}
use Rattle.mq_hub.proofs.hub.HubOver.load_with.Goals as goal

pub returns-then-eq-clause-quiet : goal.returns-then-eq-clause-quiet
returns-then-eq-clause-quiet g c = silent_hub c.load_parts.new.self c.in_ok-load_parts.ensures.quiet

pub returns-then-eq-clause-kept : goal.returns-then-eq-clause-kept
returns-then-eq-clause-kept g c = c.save.ensures.kept ∙ silent_hub c.load_parts.new.self c.in_ok-load_parts.ensures.quiet
