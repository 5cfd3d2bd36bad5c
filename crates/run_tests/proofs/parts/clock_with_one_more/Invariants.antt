-- The counters' ledgers are the blanks'.
use Rattle.run_tests.proofs.parts.clock_with_one_more.Given as goal

abbrev pub ghosts-turns_with_one_more : goal.ghosts-turns_with_one_more
ghosts-turns_with_one_more a = record { name = a.blank.name; parts = a.blank.parts }

abbrev pub ghosts-turns_with_one_more-2 : goal.ghosts-turns_with_one_more-2
ghosts-turns_with_one_more-2 a = record { name = a.blank.name; parts = a.blank.parts }
