-- The counter's ledger is the blank's.
use Rattle.part_tests.proofs.steps.it_holds_nothing.Given as goal

abbrev pub ghosts-two_steps : goal.ghosts-two_steps
ghosts-two_steps g a = record { name = a.blank.name; parts = a.blank.parts }
