use Rattle.worked_programs.proofs.relay.relay.Given as goal

abbrev pub ghosts-carry : goal.ghosts-carry
ghosts-carry g a = record { word = a.word }
