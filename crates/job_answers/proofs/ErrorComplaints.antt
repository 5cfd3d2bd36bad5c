-- What the error of a step of reading becomes is a complaint only where the step complains, of the same at the same byte.
use Rattle.std.proofs.Common.{◌≡◌, ℕ, refl, subst}
use Rattle.model_core.specs.declared.static_kind.StaticKind.{StaticKind}
use Rattle.model_lex.specs.declared.parse_error.ParseError.{ParseError}
use Rattle.sig_types.specs.declared.error.StaticError.{StaticError}
use Rattle.sig_types.specs.declared.error.StaticError.TheVariants as static
use Rattle.answer_delivery.specs.declared.complaint.Complaint.{Complaint}
use Rattle.answer_delivery.specs.declared.complaint.Complaint.TheVariants as complaints
use Rattle.job_answers.specs.declared.reading_error.ReadingError.TheVariants.{At}
use Rattle.job_answers.specs.Inner.Refusals.{parsing_complaint, static_complaint}

module _ (IsSo : Complaint → ℕ → Type 0) where
  pub same_complaint : (c d : Complaint) (i j : ℕ) → At c i ≡ At d j → IsSo c i → IsSo d j
  same_complaint c d i j e h =
      let what : c ≡ d = cc in
      let at : i ≡ j = cc in
      subst (λ x. IsSo x j) what (subst (IsSo c) at h)

  pub parsing_complaint_is : (error : ParseError) → ((i : ℕ) → error ≡ ParseError.Unexpected i → IsSo complaints.Unexpected i)
      → ((i : ℕ) → error ≡ ParseError.TooDeep i → IsSo complaints.TooDeep i)
      → (what : Complaint) (at : ℕ) → parsing_complaint error ≡ At what at → IsSo what at
  parsing_complaint_is (ParseError.Unexpected i) unexpected deep what at e = same_complaint complaints.Unexpected what i at e (unexpected i refl)
  parsing_complaint_is (ParseError.TooDeep i) unexpected deep what at e = same_complaint complaints.TooDeep what i at e (deep i refl)
  parsing_complaint_is ParseError.NoMemory unexpected deep what at e = absurd cc

  pub static_complaint_is : (error : StaticError) → ((kind : StaticKind) (i : ℕ) → error ≡ static.Fault kind i → IsSo (complaints.Static kind) i)
      → (what : Complaint) (at : ℕ) → static_complaint error ≡ At what at → IsSo what at
  static_complaint_is (static.Fault kind i) complains what at e = same_complaint (complaints.Static kind) what i at e (complains kind i refl)
  static_complaint_is static.NoMemory complains what at e = absurd cc
