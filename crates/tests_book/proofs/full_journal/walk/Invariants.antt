use Rattle.tests_book.proofs.full_journal.walk.Given as goal

abbrev pub ghosts-served : goal.ghosts-served
ghosts-served g a = record { name = a.blank.name; parts = a.blank.parts }
