-- The counter's ledger is the blank's.
use Rattle.run_tests.proofs.histories.history.Given as goal

abbrev pub ghosts-followed : goal.ghosts-followed
ghosts-followed a = record { name = a.blank.name; parts = a.blank.parts }
