use Rattle.tests_book.proofs.lost_writes.walk.Given as goal

abbrev pub ghosts-served_text : goal.ghosts-served_text
ghosts-served_text g a = record { name = a.blank.name; parts = a.blank.parts }
