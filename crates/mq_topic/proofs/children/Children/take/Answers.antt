use Rattle.mq_topic.proofs.Inside.{taken}
use Rattle.mq_topic.proofs.children.Children.take.Goals as goal

pub returns : goal.returns
returns c =
    let own = c.take_own.ensures in
    let beside = c.take_beside.ensures in
    taken c.args.self.now c.take_own.new.self c.take_beside.new.self c.args.level.now own.same own.others own.beside beside.first beside.same beside.others
