use Rattle.std.proofs.lemmas.Result.{IfOk-weaker}
use Rattle.clap.specs.Words.{found_of}
use Rattle.mq_pubsub_options.proofs.publishing.read_words.Goals as goal

pub returns : goal.returns
returns c = IfOk-weaker c.matched.result _ _ (λ own h. (found_of c.in_ok-matches.matches, h)) c.matched.ensures
