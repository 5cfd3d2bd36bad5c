use Rattle.job_answers.proofs.FaultLaws.{FaultLaws}
use Rattle.job_answers.proofs.DocumentOutcome.{one_document_complaint, no_document_complaint, one_document, document_or_complaint}
use Rattle.job_answers.proofs.document_law.documents_have_one_complaint.Goals as goal

pub returns : goal.returns
returns c =
    let fault = c.accepted_or_one_fault.ensures in
    let faults : FaultLaws = record { first_is_fault = fault.first; accepted = fault.accepted } in
    record {
      one = λ text what other at place p q. one_document_complaint faults text what other at place p q;
      none = λ text what at g applications h p reads. no_document_complaint faults text what at g applications h p reads;
      one_reading = λ text g h k l a b reads also. one_document faults text g h k l a b reads also;
      some = λ text short. document_or_complaint faults text short;
    }
