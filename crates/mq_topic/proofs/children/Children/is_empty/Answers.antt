use Rattle.std.proofs.Common.{ap, not, ◌∙◌}
use Rattle.mq_topic.proofs.Inside.{no_children}
use Rattle.mq_topic.proofs.children.Children.is_empty.Goals as goal

pub returns-then-is_none : goal.returns-then-is_none
returns-then-is_none c =
    let none = c.is_none.ensures ∙ ap not c.if-is_none.true in
    rw c.in-Some.is
    (no_children c.args.self.now.first c.in-Some.others.value c.is_empty.result none (rw c.deref.ensures at c.is_empty.ensures))
