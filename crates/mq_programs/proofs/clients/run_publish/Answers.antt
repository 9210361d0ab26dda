use Rattle.std.proofs.Common.{inr, codes}
use Rattle.mq_topic.specs.Fault.{name_fault}
use Rattle.mq_programs.specs.Runs.{IsBadTopic, IsPublishRun}
use Rattle.mq_programs.proofs.Runs.{in_other_words, told}
use Rattle.mq_programs.proofs.clients.run_publish.Goals as goal

pub returns-in-Err : goal.returns-in-Err
returns-in-Err g c =
    let found = name_fault c.args.words.now.topic.now in
    in_other_words _ _ _ (IsBadTopic (codes "name") found) (IsPublishRun c.args.words.now) (λ status text p. inr p)
    (told _ _ _ (codes "name") c.parse.result found c.in-Err.fault c.in-Err.is c.parse.ensures.refused c.parse.ensures.memory c.bad_topic.ensures.other c.bad_topic.ensures.told)
