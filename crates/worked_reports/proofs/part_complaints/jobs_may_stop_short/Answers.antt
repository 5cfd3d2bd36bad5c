use Rattle.worked_reports.proofs.part_complaints.jobs_may_stop_short.Goals as goal

pub returns-clause-run : goal.returns-clause-run
returns-clause-run c = λ text g o reads exceeds. (g, reads, exceeds)

pub returns-clause-resume : goal.returns-clause-resume
returns-clause-resume c = λ text g s o reads exceeds. (g, s, reads, exceeds)

pub returns-clause-print : goal.returns-clause-print
returns-clause-print c = λ text short. short.2

pub returns-clause-certify : goal.returns-clause-certify
returns-clause-certify c = λ text short. short
