-- The counter's ledger is the blank's.
use Rattle.run_tests.proofs.agenda.heaps_give_the_same_order.Given as goal

abbrev pub ghosts-order : goal.ghosts-order
ghosts-order g a = record { name = a.blank.name; parts = a.blank.parts }
