use Rattle.tests_book.proofs.receipts.walk.Given as goal

abbrev pub ghosts-journal : goal.ghosts-journal
ghosts-journal g a = record { name = a.blank.name; parts = a.blank.parts }
