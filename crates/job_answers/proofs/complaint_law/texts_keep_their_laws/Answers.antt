use Rattle.job_answers.proofs.complaint_law.texts_keep_their_laws.Goals as goal

pub returns : goal.returns
returns c =
    let texts = c.texts_have_one_reading.ensures in
    let openings = c.openings_have_a_limit.ensures in
    let faults = c.accepted_or_one_fault.ensures in
    record {
      one_model = texts.one_model;
      spelled_or_not = texts.spelled_or_unexpected;
      one_place = texts.one_place;
      none_deep = λ tokens e. openings.none _ tokens e;
      few_openings = λ tokens h. openings.none_too_deep _ tokens h;
      fault_is_first = λ m f. (faults.first m f).0;
      first_is_fault = λ m f. (faults.first m f).1;
      accepted = λ m. (faults.accepted m).0;
      accepted_has_no_fault = λ m. (faults.accepted m).1;
    }
