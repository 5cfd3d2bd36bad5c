-- The counter's ledger is the blank's.
use Rattle.watch_trace.proofs.uncounted.run_uncounted.Given as goal

abbrev pub ghosts-run_from_blank : goal.ghosts-run_from_blank
ghosts-run_from_blank g a = record { name = a.blank.name; parts = a.blank.parts }
