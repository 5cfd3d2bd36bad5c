-- The end and the time of a run, by what following it came to.
use Rattle.std.specs.Prelude.{ℕ}
use Rattle.watch_trace.specs.declared.outcome.Outcome.{Outcome}
use Rattle.watch_trace.specs.declared.outcome.Outcome.TheVariants as outcomes
use Rattle.tally_report.specs.declared.run_tally.RunEnd.{RunEnd}
use Rattle.tally_report.specs.declared.run_tally.RunEnd.TheVariants as ends

abbrev pub end_reached : Outcome → RunEnd
end_reached (outcomes.Ended time) = ends.Ended
end_reached outcomes.Stopped = ends.Stopped
end_reached (outcomes.Faulted time kind) = ends.Fault
end_reached other = ends.Budget

-- the last note has this time
abbrev pub time_reached : Outcome → ℕ → ℕ → ℕ
time_reached (outcomes.Ended time) until latest = time
time_reached outcomes.Stopped until latest = until
time_reached (outcomes.Faulted time kind) until latest = time
time_reached other until latest = latest
