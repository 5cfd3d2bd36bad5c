-- The counters' ledgers are the blanks'.
use Rattle.run_tests.proofs.both_lists.histories_over_both.Given as goal

abbrev pub ghosts-history_over : goal.ghosts-history_over
ghosts-history_over a = record { name = a.blank.name; parts = a.blank.parts }

abbrev pub ghosts-history_over-2 : goal.ghosts-history_over-2
ghosts-history_over-2 a = record { name = a.blank.name; parts = a.blank.parts }
