use Rattle.job_answers.proofs.FaultLaws.{FaultLaws}
use Rattle.job_answers.proofs.PairOutcome.{one_pair_complaint, no_pair_complaint, one_pair, pair_or_complaint}
use Rattle.job_answers.proofs.SavedModels.{pair_models_valid}
use Rattle.job_answers.proofs.document_law.pairs_have_one_complaint.Goals as goal

pub returns : goal.returns
returns c =
    let fault = c.accepted_or_one_fault.ensures in
    let faults : FaultLaws = record { first_is_fault = fault.first; accepted = fault.accepted } in
    record {
      one = λ text what other at place p q. one_pair_complaint faults text what other at place p q;
      none = λ text what at g h p reads. no_pair_complaint faults text what at g h p reads;
      one_reading = λ text g h k l reads also. one_pair faults text g h k l reads also;
      some = λ text short. pair_or_complaint faults text short;
      valid = pair_models_valid;
    }
