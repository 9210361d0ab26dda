use Rattle.std.proofs.Common.{◌∙◌, sym, ap, ◌≤◌, arith}
use Rattle.mq_topic.specs.declared.qos.Qos.TheVariants.{Q2}
use Rattle.mq_flow.specs.Sender.{is_awaited}
use Rattle.mq_flow.specs.Sending.{Sending}
use Rattle.mq_flow.proofs.Kept.{awaited_kept}
use Rattle.mq_flow.proofs.Moves.{pubrec_moves}
use Rattle.mq_flow.proofs.sender.Sender.on_pubrec.Goals as goal

pub release-requires : goal.release-requires
release-requires c = awaited_kept Q2 c.args.id c.self.inside.table.pairs c.self.invariant.1 (ap (λ (v : Sending). is_awaited Q2 c.args.id v.book.entries) c.self.view_is ∙ sym c.awaits.ensures ∙ c.if-not-awaits.false)

pub invariant_of-self : goal.invariant_of-self
invariant_of-self c =
    let move = pubrec_moves c.self.inside.table.pairs c.release.new.self.pairs c.self.inside.claimed.items c.self.inside.capacity c.self.inside.last c.self.inside.room c.args.id c.args.self.now c.self.invariant.0 c.self.invariant.1 c.self.view_is c.awaits.result c.awaits.ensures c.if-not-awaits.false c.release.ensures.pairs in
    (move.keeps c.self.inside.room, move.under, c.self.invariant.2, (let spare = c.release.ensures.spare in let room = c.self.invariant.3 in omega arith))

pub returns-clause-book : goal.returns-clause-book
returns-clause-book c =
    let move = pubrec_moves c.self.inside.table.pairs c.release.new.self.pairs c.self.inside.claimed.items c.self.inside.capacity c.self.inside.last c.self.inside.room c.args.id c.args.self.now c.self.invariant.0 c.self.invariant.1 c.self.view_is c.awaits.result c.awaits.ensures c.if-not-awaits.false c.release.ensures.pairs in
    move.after
