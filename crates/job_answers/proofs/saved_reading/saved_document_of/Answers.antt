use Rattle.std.proofs.Common.{ℕ, List, Result, Ok, Err, subst}
use Rattle.std.specs.Prelude.{IfOk}
use Rattle.job_answers.specs.declared.reading_error.ReadingError.{ReadingError}
use Rattle.job_answers.specs.declared.saved_reading.SavedDocument.{SavedDocument}
use Rattle.job_answers.specs.SavedComplaints.{IsSavedComplaint}
use Rattle.job_answers.specs.SavedReading.{ReadsSaved}
use Rattle.job_answers.proofs.ModelTerms.{graph_of, IsGood}
use Rattle.job_answers.proofs.GoodRuns.{good_reading}
use Rattle.job_answers.proofs.saved_reading.saved_document_of.Goals as goal

all_good : (text : List ℕ) (r : Result SavedDocument ReadingError) → IfOk r (λ d. ReadsSaved text (graph_of d.model) d.snapshot) → IfOk r (λ d. IsGood (graph_of d.model) d.snapshot)
all_good text (Ok d) reads = good_reading text (graph_of d.model) d.snapshot reads
all_good text (Err e) reads = tt

pub returns-clause-good : goal.returns-clause-good
returns-clause-good c = all_good c.in_ok-pieces.pieces.text.now c.saved_in.result c.saved_in.ensures.ok

pub returns-clause-complaint : goal.returns-clause-complaint
returns-clause-complaint c = λ what at e. subst (λ t. IsSavedComplaint t what at) c.in_ok-pieces.ensures.ok.0 (c.saved_in.ensures.complaint what at e)
