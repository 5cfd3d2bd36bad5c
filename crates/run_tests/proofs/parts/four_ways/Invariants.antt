-- The counters' ledgers are the blanks'.
use Rattle.run_tests.proofs.parts.four_ways.Given as goal

abbrev pub ghosts-after_six_steps_over : goal.ghosts-after_six_steps_over
ghosts-after_six_steps_over a = record { name = a.blank.name; parts = a.blank.parts }

abbrev pub ghosts-after_six_steps_over-2 : goal.ghosts-after_six_steps_over-2
ghosts-after_six_steps_over-2 a = record { name = a.blank.name; parts = a.blank.parts }
