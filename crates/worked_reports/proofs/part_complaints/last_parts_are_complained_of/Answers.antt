use Rattle.std.proofs.Common.{ℕ, List, refl}
use Rattle.model_core.specs.Text.Lexing.{Lexeme}
use Rattle.answer_delivery.specs.declared.complaint.Complaint.TheVariants as complaints
use Rattle.job_answers.specs.DocumentComplaints.{IsGrammarComplaint, in_first, in_second, in_certificate}
use Rattle.job_answers.specs.SavedComplaints.{IsSavedGrammarComplaint, in_model, in_snapshot}
use Rattle.worked_reports.proofs.part_complaints.last_parts_are_complained_of.Goals as goal

no_byte : (text : List ℕ) (tokens : List Lexeme) (at : ℕ) → IsGrammarComplaint text tokens complaints.BadByte at → ⊥
no_byte text tokens at (in_first h) = h
no_byte text tokens at (in_second first left b h) = h
no_byte text tokens at (in_certificate first second left last b d is wrong) = cc

no_snapshot : (text : List ℕ) (tokens : List Lexeme) (at : ℕ) → IsSavedGrammarComplaint text tokens complaints.BadSnapshot at → ⊥
no_snapshot text tokens at (in_model h) = h
no_snapshot text tokens at (in_snapshot model left b is wrong) = cc

pub returns-clause-certificate : goal.returns-clause-certificate
returns-clause-certificate c = λ text tokens left last first second at b d wrong. in_certificate first second left last b d refl wrong

pub returns-clause-no_bad_byte : goal.returns-clause-no_bad_byte
returns-clause-no_bad_byte c = no_byte

pub returns-clause-snapshot : goal.returns-clause-snapshot
returns-clause-snapshot c = λ text tokens left model at b wrong. in_snapshot model left b refl wrong

pub returns-clause-no_bad_snapshot : goal.returns-clause-no_bad_snapshot
returns-clause-no_bad_snapshot c = no_snapshot
