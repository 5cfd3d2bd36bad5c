use Rattle.job_answers.proofs.FaultLaws.{FaultLaws}
use Rattle.job_answers.proofs.SavedOutcome.{SnapshotLaws, one_saved_complaint, no_saved_complaint, one_saved, saved_or_complaint}
use Rattle.job_answers.proofs.document_law.saved_documents_have_one_complaint.Goals as goal

pub returns : goal.returns
returns c =
    let fault = c.accepted_or_one_fault.ensures in
    let faults : FaultLaws = record { first_is_fault = fault.first; accepted = fault.accepted } in
    let read = c.snapshots_have_one_reading.ensures in
    let snapshots : SnapshotLaws = record { one = read.one_snapshot; decided = read.snapshot_or_none; one_place = read.one_wrong_place } in
    record {
      one = λ text what other at place p q. one_saved_complaint faults snapshots text what other at place p q;
      none = λ text what at g s p reads. no_saved_complaint faults snapshots text what at g s p reads;
      one_reading = λ text g h s t reads also. one_saved faults snapshots text g h s t reads also;
      some = λ text short. saved_or_complaint faults snapshots text short;
    }
