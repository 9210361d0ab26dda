use Rattle.mq_decode.proofs.decoder.Decoder.feed.Goals as goal

pub returns-in-Err-clause-err : goal.returns-in-Err-clause-err
returns-in-Err-clause-err c = λ going. rw (← c.self.view_is) c.in-Err.ensures.err
