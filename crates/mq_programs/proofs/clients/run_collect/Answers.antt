use Rattle.std.proofs.Common.{inr, codes}
use Rattle.mq_topic.specs.Fault.{filter_fault}
use Rattle.mq_programs.specs.Runs.{IsBadTopic, IsCollectRun}
use Rattle.mq_programs.proofs.Runs.{in_other_words, told}
use Rattle.mq_programs.proofs.clients.run_collect.Goals as goal

pub returns-in-Err : goal.returns-in-Err
returns-in-Err g c =
    let found = filter_fault c.args.words.now.filter.now in
    in_other_words _ _ _ (IsBadTopic (codes "filter") found) (IsCollectRun c.args.words.now) (λ status text p. inr p)
    (told _ _ _ (codes "filter") c.parse.result found c.in-Err.fault c.in-Err.is c.parse.ensures.refused c.parse.ensures.memory c.bad_topic.ensures.other c.bad_topic.ensures.told)
