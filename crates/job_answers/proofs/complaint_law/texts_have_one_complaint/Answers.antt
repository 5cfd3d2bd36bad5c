use Rattle.job_answers.proofs.Complaining.{one_complaint, no_complaint, complaint_or_model}
use Rattle.job_answers.proofs.complaint_law.texts_have_one_complaint.Goals as goal

pub returns : goal.returns
returns c =
    let laws = c.texts_keep_their_laws.ensures in
    record {
      one = λ text what other at place p q. one_complaint laws text what other at place p q;
      none = λ text what at g p reads. no_complaint laws text what at g p reads;
      some = λ text short. complaint_or_model laws text short;
    }
