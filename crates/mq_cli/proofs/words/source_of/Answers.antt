use Rattle.mq_cli.proofs.words.source_of.Goals as goal

pub returns : goal.returns
returns c = (c.in_ok-word_of.field-0.now, c.in_ok-word_of.ensures, c.file_or_input.ensures)
