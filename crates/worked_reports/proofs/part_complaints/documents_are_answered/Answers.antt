use Rattle.std.proofs.Common.{inr, refl}
use Rattle.worked_reports.proofs.part_complaints.documents_are_answered.Goals as goal

pub returns-clause-certify : goal.returns-clause-certify
returns-clause-certify c = λ text g h applications reads. inr (g, applications, h, reads, refl)

pub returns-clause-resume : goal.returns-clause-resume
returns-clause-resume c = λ text g s o reads. inr (g, s, reads, refl)
