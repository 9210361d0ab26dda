use Rattle.mq_loopback.proofs.rig.play.Given as goal

abbrev pub ghosts-play_by : goal.ghosts-play_by
ghosts-play_by g a = record { name = a.blank.name; parts = a.blank.parts }
