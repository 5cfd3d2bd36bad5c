-- Each text has one answer: it has one thing to complain of, or it reads as one model or one document, of which there is one
-- answer.
use Rattle.std.proofs.Common.{◌≡◌, ◌⊎◌, inl, inr, ℕ, ◌≤◌, List, length, Option, Some, None, refl, sym, ap₂, ◌∙◌, subst, arith}
use Rattle.std.proofs.lemmas.Bool.{cases_lt}
use Rattle.command_words.specs.declared.reading.Reading.{Reading}
use Rattle.command_words.specs.declared.reading.Reading.TheVariants as readings
use Rattle.command_words.specs.Readings.{limit_of}
use Rattle.sig_base.specs.declared.limits.TheConstants.{TEXT_MAX, DOCUMENT_MAX}
use Rattle.model_core.specs.EventGraph.{EventGraph}
use Rattle.model_core.specs.Rules.Reduction.{RuleApplication}
use Rattle.model_core.specs.Saved.SavedRun.{SavedRun}
use Rattle.model_core.specs.Static.Reading.{Reads, IsValid, ReadsDocument}
use Rattle.answer_delivery.specs.declared.answer.Answer.{Answer}
use Rattle.answer_delivery.specs.declared.complaint.Complaint.{Complaint}
use Rattle.answer_delivery.specs.AnswerForms.{refused, too_long}
use Rattle.job_answers.specs.AnswerLaws.{DocumentParts, PairParts, SavedParts, MayBeAsked, KeepsAnswerLaws}
use Rattle.job_answers.specs.Answers.{AnswersModel, AnswersDocument, AnswersPair, AnswersSaved, IsRefused, Responds, IsWithin, IsOver, Answers}
use Rattle.answer_delivery.specs.Complaints.{IsComplaint, message_of, byte_line}
use Rattle.job_answers.specs.TextComplaints.{HasComplaint, HasDocumentComplaint, HasPairComplaint, HasSavedComplaint}
use Rattle.job_answers.specs.DocumentComplaints.{IsDocumentComplaint}
use Rattle.job_answers.specs.PairComplaints.{IsPairComplaint}
use Rattle.job_answers.specs.PairReading.{ReadsPair}
use Rattle.job_answers.specs.SavedComplaints.{IsSavedComplaint}
use Rattle.job_answers.specs.SavedReading.{ReadsSaved}

-- of each text within its limit there is one thing to complain of, or it reads as a model, and never both
pub record ComplaintLaws : Type 0 where
  pub one : (text : List ℕ) (c d : Complaint) (i j : ℕ) → IsComplaint text c i → IsComplaint text d j → (c ≡ d) × (i ≡ j)
  pub none : (text : List ℕ) (c : Complaint) (i : ℕ) (g : EventGraph) → IsComplaint text c i → Reads text g → ⊥
  pub some : (text : List ℕ) → length text ≤ TEXT_MAX → HasComplaint text ⊎ ((g : EventGraph) × Reads text g)

-- and so of each document
pub record DocumentLaws : Type 0 where
  pub one : (text : List ℕ) (c d : Complaint) (i j : ℕ) → IsDocumentComplaint text c i → IsDocumentComplaint text d j → (c ≡ d) × (i ≡ j)
  pub none : (text : List ℕ) (c : Complaint) (i : ℕ) (g : EventGraph) (applications : List RuleApplication) (h : EventGraph) → IsDocumentComplaint text c i → ReadsDocument text g applications h → ⊥
  pub one_reading : (text : List ℕ) (g h k l : EventGraph) (a b : List RuleApplication) → ReadsDocument text g a h → ReadsDocument text k b l → (g ≡ k) × (a ≡ b) × (h ≡ l)
  pub some : (text : List ℕ) → length text ≤ DOCUMENT_MAX → HasDocumentComplaint text ⊎ ((g : EventGraph) × (applications : List RuleApplication) × (h : EventGraph) × ReadsDocument text g applications h)

-- and of each document of two texts
pub record PairLaws : Type 0 where
  pub one : (text : List ℕ) (c d : Complaint) (i j : ℕ) → IsPairComplaint text c i → IsPairComplaint text d j → (c ≡ d) × (i ≡ j)
  pub none : (text : List ℕ) (c : Complaint) (i : ℕ) (g h : EventGraph) → IsPairComplaint text c i → ReadsPair text g h → ⊥
  pub one_reading : (text : List ℕ) (g h k l : EventGraph) → ReadsPair text g h → ReadsPair text k l → (g ≡ k) × (h ≡ l)
  pub some : (text : List ℕ) → length text ≤ DOCUMENT_MAX → HasPairComplaint text ⊎ ((g : EventGraph) × (h : EventGraph) × ReadsPair text g h)
  pub valid : (text : List ℕ) (g h : EventGraph) → ReadsPair text g h → IsValid g × IsValid h

-- and of each saved document
pub record SavedLaws : Type 0 where
  pub one : (text : List ℕ) (c d : Complaint) (i j : ℕ) → IsSavedComplaint text c i → IsSavedComplaint text d j → (c ≡ d) × (i ≡ j)
  pub none : (text : List ℕ) (c : Complaint) (i : ℕ) (g : EventGraph) (s : SavedRun) → IsSavedComplaint text c i → ReadsSaved text g s → ⊥
  pub one_reading : (text : List ℕ) (g h : EventGraph) (s t : SavedRun) → ReadsSaved text g s → ReadsSaved text h t → (g ≡ h) × (s ≡ t)
  pub some : (text : List ℕ) → length text ≤ DOCUMENT_MAX → HasSavedComplaint text ⊎ ((g : EventGraph) × (s : SavedRun) × ReadsSaved text g s)

over_within : (limit : Option ℕ) (text : List ℕ) → IsOver limit text → IsWithin limit text → ⊥
over_within None text over within = over
over_within (Some limit) text over within = omega (arith, over, within)

-- a text is within the limit, or over it
within_or_over : (limit : Option ℕ) (text : List ℕ) → IsWithin limit text ⊎ IsOver limit text
within_or_over None text = inl tt
within_or_over (Some limit) text = elim (cases_lt limit (length text)) [ inl over ↦ inr over | inr within ↦ inl within ]

-- of one thing to complain of there is one refusal
one_refusal : (IsSo : Complaint → ℕ → Type 0) → ((c d : Complaint) (i j : ℕ) → IsSo c i → IsSo d j → (c ≡ d) × (i ≡ j)) → (a b : Answer) → IsRefused IsSo a → IsRefused IsSo b → a ≡ b
one_refusal IsSo one a b p q =
    let (what, at) = one p.what q.what p.at q.at p.complaint q.complaint in
    p.refuses ∙ ap₂ (λ i c. refused (byte_line i (message_of c))) at what ∙ sym q.refuses

module _ (complaints : ComplaintLaws) (documents : DocumentLaws) (pairs : PairLaws) (saved : SavedLaws) (text : List ℕ) where
  -- ---- there is one

  refusal : (IsSo : Complaint → ℕ → Type 0) (what : Complaint) (at : ℕ) → IsSo what at → IsRefused IsSo (refused (byte_line at (message_of what)))
  refusal IsSo what at is = record { what = what; at = at; complaint = is; refuses = refl }

  text_answered : (reading : Reading) → KeepsAnswerLaws reading → MayBeAsked reading → IsWithin (limit_of reading) text → (a : Answer) × Responds reading text a
  text_answered (readings.Model job) laws asked within = by (complaints.some text within)
    where
      by : HasComplaint text ⊎ ((g : EventGraph) × Reads text g) → (a : Answer) × Responds (readings.Model job) text a
      by (inl c) = (_, inl (refusal (IsComplaint text) c.0 c.1 c.2))
      by (inr r) = let w = laws.exists r.0 (text, r.1) in (w.0, inr (r.0, r.1, w.1))
  text_answered (readings.Document job) laws asked within = by (documents.some text within)
    where
      by : HasDocumentComplaint text ⊎ ((g : EventGraph) × (applications : List RuleApplication) × (h : EventGraph) × ReadsDocument text g applications h) → (a : Answer) × Responds (readings.Document job) text a
      by (inl c) = (_, inl (refusal (IsDocumentComplaint text) c.0 c.1 c.2))
      by (inr (g, applications, h, reads)) =
          let w = laws.exists (g, applications, h) tt in
          (w.0, inr (g, applications, h, reads, w.1))
  text_answered (readings.Pair job) laws asked within = by (pairs.some text within)
    where
      by : HasPairComplaint text ⊎ ((g : EventGraph) × (h : EventGraph) × ReadsPair text g h) → (a : Answer) × Responds (readings.Pair job) text a
      by (inl c) = (_, inl (refusal (IsPairComplaint text) c.0 c.1 c.2))
      by (inr (g, h, reads)) = let w = laws.exists (g, h) (pairs.valid text g h reads) in (w.0, inr (g, h, reads, w.1))
  text_answered (readings.Saved job) laws asked within = by (saved.some text within)
    where
      by : HasSavedComplaint text ⊎ ((g : EventGraph) × (s : SavedRun) × ReadsSaved text g s) → (a : Answer) × Responds (readings.Saved job) text a
      by (inl c) = (_, inl (refusal (IsSavedComplaint text) c.0 c.1 c.2))
      by (inr (g, s, reads)) = let w = laws.exists (g, s) tt in (w.0, inr (g, s, reads, w.1))
  text_answered (readings.Nothing job) laws asked within = laws.exists tt asked

  answered : (reading : Reading) → KeepsAnswerLaws reading → MayBeAsked reading → IsWithin (limit_of reading) text ⊎ IsOver (limit_of reading) text → (a : Answer) × Answers reading text a
  answered reading laws asked (inl within) = let w = text_answered reading laws asked within in (w.0, inr (within, w.1))
  answered reading laws asked (inr over) = (refused too_long, inl (over, refl))

  pub has_answer : (reading : Reading) → KeepsAnswerLaws reading → MayBeAsked reading → (a : Answer) × Answers reading text a
  has_answer reading laws asked = answered reading laws asked (within_or_over (limit_of reading) text)

  -- ---- and no other

  module _ (one : (text : List ℕ) (g h : EventGraph) → Reads text g → Reads text h → g ≡ h) where
    one_response : (reading : Reading) → KeepsAnswerLaws reading → (a b : Answer) → Responds reading text a → Responds reading text b → a ≡ b
    one_response (readings.Model job) laws a b (inl x) (inl y) = one_refusal (IsComplaint text) (complaints.one text) a b x y
    one_response (readings.Model job) laws a b (inl x) (inr y) = absurd (complaints.none text x.what x.at y.0 x.complaint y.1)
    one_response (readings.Model job) laws a b (inr x) (inl y) = absurd (complaints.none text y.what y.at x.0 y.complaint x.1)
    one_response (readings.Model job) laws a b (inr x) (inr y) = laws.one x.0 a b x.2 (subst (λ (g : EventGraph). AnswersModel job g b) (one text y.0 x.0 y.1 x.1) y.2)
    one_response (readings.Document job) laws a b (inl x) (inl y) = one_refusal (IsDocumentComplaint text) (documents.one text) a b x y
    one_response (readings.Document job) laws a b (inl x) (inr y) = absurd (documents.none text x.what x.at y.0 y.1 y.2 x.complaint y.3)
    one_response (readings.Document job) laws a b (inr x) (inl y) = absurd (documents.none text y.what y.at x.0 x.1 x.2 y.complaint x.3)
    one_response (readings.Document job) laws a b (inr x) (inr y) =
        let same = documents.one_reading text y.0 y.2 x.0 x.2 y.1 x.1 y.3 x.3 in
        let parts : ◌≡◌ {A = DocumentParts} (y.0, y.1, y.2) (x.0, x.1, x.2) = λ i. (same.0 i, same.1 i, same.2 i) in
        laws.one (x.0, x.1, x.2) a b x.4 (subst (λ (d : DocumentParts). AnswersDocument job d.0 d.1 d.2 b) parts y.4)
    one_response (readings.Pair job) laws a b (inl x) (inl y) = one_refusal (IsPairComplaint text) (pairs.one text) a b x y
    one_response (readings.Pair job) laws a b (inl x) (inr y) = absurd (pairs.none text x.what x.at y.0 y.1 x.complaint y.2)
    one_response (readings.Pair job) laws a b (inr x) (inl y) = absurd (pairs.none text y.what y.at x.0 x.1 y.complaint x.2)
    one_response (readings.Pair job) laws a b (inr x) (inr y) =
        let same = pairs.one_reading text y.0 y.1 x.0 x.1 y.2 x.2 in
        let parts : ◌≡◌ {A = PairParts} (y.0, y.1) (x.0, x.1) = λ i. (same.0 i, same.1 i) in
        laws.one (x.0, x.1) a b x.3 (subst (λ (d : PairParts). AnswersPair job d.0 d.1 b) parts y.3)
    one_response (readings.Saved job) laws a b (inl x) (inl y) = one_refusal (IsSavedComplaint text) (saved.one text) a b x y
    one_response (readings.Saved job) laws a b (inl x) (inr y) = absurd (saved.none text x.what x.at y.0 y.1 x.complaint y.2)
    one_response (readings.Saved job) laws a b (inr x) (inl y) = absurd (saved.none text y.what y.at x.0 x.1 y.complaint x.2)
    one_response (readings.Saved job) laws a b (inr x) (inr y) =
        let same = saved.one_reading text y.0 x.0 y.1 x.1 y.2 x.2 in
        let parts : ◌≡◌ {A = SavedParts} (y.0, y.1) (x.0, x.1) = λ i. (same.0 i, same.1 i) in
        laws.one (x.0, x.1) a b x.3 (subst (λ (d : SavedParts). AnswersSaved job d.0 d.1 b) parts y.3)
    one_response (readings.Nothing job) laws a b x y = laws.one tt a b x y

    pub one_answer : (reading : Reading) → KeepsAnswerLaws reading → (a b : Answer) → Answers reading text a → Answers reading text b → a ≡ b
    one_answer reading laws a b (inl x) (inl y) = x.1 ∙ sym y.1
    one_answer reading laws a b (inl x) (inr y) = absurd (over_within (limit_of reading) text x.0 y.0)
    one_answer reading laws a b (inr x) (inl y) = absurd (over_within (limit_of reading) text y.0 x.0)
    one_answer reading laws a b (inr x) (inr y) = one_response reading laws a b x.1 y.1
