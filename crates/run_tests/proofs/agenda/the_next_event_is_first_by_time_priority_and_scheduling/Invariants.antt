-- The counter's ledger is the blank's.
use Rattle.run_tests.proofs.agenda.the_next_event_is_first_by_time_priority_and_scheduling.Given as goal

abbrev pub ghosts-order : goal.ghosts-order
ghosts-order g a = record { name = a.blank.name; parts = a.blank.parts }
