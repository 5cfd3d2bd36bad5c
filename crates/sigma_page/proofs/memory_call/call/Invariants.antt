-- The rooms of the call are those that its caller lends.
use Rattle.sigma_page.proofs.memory_call.call.Given as goal

abbrev pub ghosts-perform-O-Room : goal.ghosts-perform-O-Room
ghosts-perform-O-Room a = record { size = a.room }

abbrev pub ghosts-perform-E-Room : goal.ghosts-perform-E-Room
ghosts-perform-E-Room a = record { size = a.errors_room }
