use Rattle.std.proofs.Common.{subst}
use Rattle.job_answers.specs.PairComplaints.{IsPairComplaint}
use Rattle.job_answers.proofs.pair_reading.written_pair.Goals as goal

pub returns-clause-complaint : goal.returns-clause-complaint
returns-clause-complaint c = λ what at e. subst (λ t. IsPairComplaint t what at) c.in_ok-pieces.ensures.ok.0 (c.parts.ensures.complaint what at e)
