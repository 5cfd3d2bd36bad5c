-- A text has a complaint. The answers don't need these words, since they name the complaint; the laws do.
use Rattle.std.specs.Prelude.{ℕ, List}
use Rattle.answer_delivery.specs.declared.complaint.Complaint.{Complaint}
use Rattle.answer_delivery.specs.Complaints.{IsComplaint}
use Rattle.job_answers.specs.DocumentComplaints.{IsDocumentComplaint}
use Rattle.job_answers.specs.PairComplaints.{IsPairComplaint}
use Rattle.job_answers.specs.SavedComplaints.{IsSavedComplaint}

-- at some byte of a text that is to be a model
abbrev pub HasComplaint : List ℕ → Type 0
HasComplaint text = (what : Complaint) × (at : ℕ) × IsComplaint text what at

-- or a document
abbrev pub HasDocumentComplaint : List ℕ → Type 0
HasDocumentComplaint text = (what : Complaint) × (at : ℕ) × IsDocumentComplaint text what at

-- or a document of two texts
abbrev pub HasPairComplaint : List ℕ → Type 0
HasPairComplaint text = (what : Complaint) × (at : ℕ) × IsPairComplaint text what at

-- or a saved document
abbrev pub HasSavedComplaint : List ℕ → Type 0
HasSavedComplaint text = (what : Complaint) × (at : ℕ) × IsSavedComplaint text what at
