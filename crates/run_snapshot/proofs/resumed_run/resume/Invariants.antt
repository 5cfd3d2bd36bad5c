-- The counter's ledger is the blank's.
use Rattle.run_snapshot.proofs.resumed_run.resume.Given as goal

abbrev pub ghosts-schedule_all : goal.ghosts-schedule_all
ghosts-schedule_all g a = record { name = a.blank.name; parts = a.blank.parts }
