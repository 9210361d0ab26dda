use Rattle.std.proofs.Common.{◌∙◌, ℕ, List, length, sym, ap}
use Rattle.mq_tables.proofs.PendingLengths.{output_none}
use Rattle.mq_tables.proofs.TakenOutput.{output_found}
use Rattle.mq_tables.proofs.sessions.table.Sessions.pending.Goals as goal

pub returns-in-Some : goal.returns-in-Some
returns-in-Some c = ap (λ (b : List ℕ). length b) (c.output.ensures ∙ sym (output_found c.args.key c.in-Some.session.now c.args.self.now.list (sym c.in-Some.ensures)))

pub returns-in-None : goal.returns-in-None
returns-in-None c = ap (λ (b : List ℕ). length b) (sym (output_none c.args.key c.args.self.now.list (sym c.in-None.ensures)))
