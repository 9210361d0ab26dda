use Rattle.tests_book.proofs.steps.steps.Given as goal

abbrev pub ghosts-walk : goal.ghosts-walk
ghosts-walk g a = record { name = a.blank.name; parts = a.blank.parts }
