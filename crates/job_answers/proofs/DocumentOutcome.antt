-- Of each document there is one thing to complain of, or it reads as two models and a certificate, and never both: what comes
-- of it is decided part by part.
use Rattle.std.proofs.Common.{◌≡◌, ◌⊎◌, inl, inr, ℕ, ◌≤◌, List, length, refl, sym, ap, ◌∙◌}
use Rattle.std.specs.Prelude.{Option, Some, None, Result, Ok, Err}
use Rattle.sig_base.specs.declared.limits.TheConstants.{DOCUMENT_MAX}
use Rattle.model_core.specs.Text.CertificateText.{certificate_format, IsCertificate, IsNoCertificateAt}
use Rattle.model_core.specs.Text.DocumentText.{SpellsDocument}
use Rattle.model_core.specs.Static.FaultOrder.{StaticFault}
use Rattle.text_laws.proofs.Formats.OneTokenDecides.{certificate-fine}
use Rattle.text_laws.proofs.Formats.TextLaws.{one_value, spelled_or_wrong, one_wrong_place}
use Rattle.answer_delivery.specs.declared.complaint.Complaint.{Complaint}
use Rattle.answer_delivery.specs.declared.complaint.Complaint.TheVariants as complaints
use Rattle.job_answers.specs.DocumentComplaints.{IsGrammarComplaint, in_first, in_second, in_certificate, IsDocumentComplaint, of_bytes, of_tokens, of_first, of_second}
use Rattle.job_answers.specs.TextComplaints.{HasDocumentComplaint}
use Rattle.job_answers.proofs.ModelTerms.{EventGraph, Lexeme, tokens_of, WrittenModel, first_fault, Accepted, ReadsDocument, RuleApplication}
use Rattle.job_answers.proofs.FaultLaws.{FaultLaws}
use Rattle.job_answers.proofs.FrontOutcome.{Computed, and_then, front_outcome, front_begun, front_complained, FrontFault, FrontModel, front_or_fault, unless_fault, one_graph}

-- ---- the outcome for the certificate

-- tokens are a certificate, or stop to begin one
abbrev CertificateDecision : List ℕ → List Lexeme → Type 0
CertificateDecision text tokens = ((applications : List RuleApplication) × IsCertificate tokens applications) ⊎ ((at : ℕ) × IsNoCertificateAt text tokens at)

certificate_decided : (text : List ℕ) (tokens : List Lexeme) → CertificateDecision text tokens
certificate_decided text tokens = spelled_or_wrong certificate_format certificate-fine text tokens

abbrev of_certificate : (text : List ℕ) (tokens : List Lexeme) → CertificateDecision text tokens → Computed (List RuleApplication)
of_certificate text tokens (inl spelled) = Ok spelled.0
of_certificate text tokens (inr wrong) = Err (complaints.Unexpected, wrong.0)

abbrev certificate_outcome : List ℕ → List Lexeme → Computed (List RuleApplication)
certificate_outcome text tokens = of_certificate text tokens (certificate_decided text tokens)

certificate_read : (text : List ℕ) (tokens : List Lexeme) (applications : List RuleApplication) → IsCertificate tokens applications → (d : CertificateDecision text tokens) → of_certificate text tokens d ≡ Ok applications
certificate_read text tokens applications is (inl spelled) = ap (λ a. Ok a) (one_value certificate_format certificate-fine tokens spelled.0 applications spelled.1 is)
certificate_read text tokens applications is (inr wrong) = absurd (wrong.1.none applications is)

no_certificate : (text : List ℕ) (tokens : List Lexeme) (at : ℕ) → IsNoCertificateAt text tokens at → (d : CertificateDecision text tokens) → of_certificate text tokens d ≡ Err (complaints.Unexpected, at)
no_certificate text tokens at wrong (inl spelled) = absurd (wrong.none spelled.0 spelled.1)
no_certificate text tokens at wrong (inr other) = ap (λ k. Err (complaints.Unexpected, k)) (one_wrong_place certificate_format text tokens other.0 at other.1 wrong)

certificate_complained : (text : List ℕ) (tokens : List Lexeme) (what : Complaint) (at : ℕ) → what ≡ complaints.Unexpected → IsNoCertificateAt text tokens at → certificate_outcome text tokens ≡ Err (what, at)
certificate_complained text tokens what at is wrong = no_certificate text tokens at wrong (certificate_decided text tokens) ∙ ap (λ w. Err (w, at)) (sym is)

-- ---- the outcome for all tokens

abbrev Parts : Type 0
Parts = WrittenModel × List RuleApplication × WrittenModel

abbrev behind_second : List ℕ → WrittenModel → WrittenModel × List Lexeme → Computed Parts
behind_second text first second = and_then (λ applications. Ok (first, applications, second.0)) (certificate_outcome text second.1)

abbrev behind_first : List ℕ → WrittenModel × List Lexeme → Computed Parts
behind_first text first = and_then (behind_second text first.0) (front_outcome text first.1)

abbrev grammar_outcome : List ℕ → List Lexeme → Computed Parts
grammar_outcome text tokens = and_then (behind_first text) (front_outcome text tokens)

grammar_complained : (text : List ℕ) (tokens : List Lexeme) (what : Complaint) (at : ℕ) → IsGrammarComplaint text tokens what at → grammar_outcome text tokens ≡ Err (what, at)
grammar_complained text tokens what at (in_first h) = ap (and_then (behind_first text)) (front_complained text tokens what at h)
grammar_complained text tokens what at (in_second first left b h) =
    ap (and_then (behind_first text)) (front_begun text tokens first left b) ∙ ap (and_then (behind_second text first)) (front_complained text left what at h)
grammar_complained text tokens what at (in_certificate first second left last b d is wrong) =
    ap (and_then (behind_first text)) (front_begun text tokens first left b) ∙ ap (and_then (behind_second text first)) (front_begun text left second last d)
    ∙ ap (and_then (λ applications. Ok (first, applications, second))) (certificate_complained text last what at is wrong)

-- ---- the outcome for the document

abbrev static_outcome : Parts → Computed Parts
static_outcome (first, applications, second) = unless_fault (first_fault first) (unless_fault (first_fault second) (Ok (first, applications, second)))

abbrev cut_outcome : List ℕ → Result (List Lexeme) ℕ → Computed Parts
cut_outcome text (Ok tokens) = and_then static_outcome (grammar_outcome text tokens)
cut_outcome text (Err at) = Err (complaints.BadByte, at)

abbrev document_outcome : List ℕ → Computed Parts
document_outcome text = cut_outcome text (tokens_of text)

spelled_outcome : (text : List ℕ) (first second : WrittenModel) (applications : List RuleApplication) → SpellsDocument text first applications second → document_outcome text ≡ static_outcome (first, applications, second)
spelled_outcome text first second applications s =
    ap (cut_outcome text) s.cut
    ∙ ap (and_then static_outcome) (ap (and_then (behind_first text)) (front_begun text s.tokens first s.after_first s.begins) ∙ ap (and_then (behind_second text first)) (front_begun text s.after_first second s.after_second s.goes_on)
    ∙ ap (and_then (λ applications. Ok (first, applications, second))) (certificate_read text s.after_second applications s.ends (certificate_decided text s.after_second)))

module _ (laws : FaultLaws) (text : List ℕ) where
  complaint_outcome : (what : Complaint) (at : ℕ) → IsDocumentComplaint text what at → document_outcome text ≡ Err (what, at)
  complaint_outcome what at (of_bytes is cut) = ap (cut_outcome text) cut ∙ ap (λ w. Err (w, at)) (sym is)
  complaint_outcome what at (of_tokens tokens cut h) = ap (cut_outcome text) cut ∙ ap (and_then static_outcome) (grammar_complained text tokens what at h)
  complaint_outcome what at (of_first first second applications s kind is fault) =
      spelled_outcome text first second applications s ∙ ap (λ o. unless_fault o (unless_fault (first_fault second) (Ok (first, applications, second)))) ((laws.first_is_fault first (record { at = at; kind = kind })).1 fault) ∙ ap (λ w. Err (w, at)) (sym is)
  complaint_outcome what at (of_second first second applications s g accepted kind is fault) =
      spelled_outcome text first second applications s ∙ ap (λ o. unless_fault o (unless_fault (first_fault second) (Ok (first, applications, second)))) ((laws.accepted first).1 (g, accepted))
      ∙ ap (λ o. unless_fault o (Ok (first, applications, second))) ((laws.first_is_fault second (record { at = at; kind = kind })).1 fault) ∙ ap (λ w. Err (w, at)) (sym is)

  reads_outcome : (g : EventGraph) (applications : List RuleApplication) (h : EventGraph) → (r : ReadsDocument text g applications h) → document_outcome text ≡ Ok (r.first, applications, r.second)
  reads_outcome g applications h r =
      spelled_outcome text r.first r.second applications r.spells ∙ ap (λ o. unless_fault o (unless_fault (first_fault r.second) (Ok (r.first, applications, r.second)))) ((laws.accepted r.first).1 (g, r.first_accepted))
      ∙ ap (λ o. unless_fault o (Ok (r.first, applications, r.second))) ((laws.accepted r.second).1 (h, r.second_accepted))

  -- ---- there is one

  pub one_document_complaint : (c d : Complaint) (i j : ℕ) → IsDocumentComplaint text c i → IsDocumentComplaint text d j → (c ≡ d) × (i ≡ j)
  one_document_complaint c d i j p q =
      let e : ◌≡◌ {A = Computed Parts} (Err (c, i)) (Err (d, j)) = sym (complaint_outcome c i p) ∙ complaint_outcome d j q in
      let f : ◌≡◌ {A = Complaint × ℕ} (c, i) (d, j) = cc in
      (ap (λ (x : Complaint × ℕ). x.0) f, ap (λ (x : Complaint × ℕ). x.1) f)

  pub no_document_complaint : (c : Complaint) (i : ℕ) (g : EventGraph) (applications : List RuleApplication) (h : EventGraph) → IsDocumentComplaint text c i → ReadsDocument text g applications h → ⊥
  no_document_complaint c i g applications h p r =
      let e : ◌≡◌ {A = Computed Parts} (Err (c, i)) (Ok (r.first, applications, r.second)) = sym (complaint_outcome c i p) ∙ reads_outcome g applications h r in
      cc

  pub one_document : (g h k l : EventGraph) (a b : List RuleApplication) → ReadsDocument text g a h → ReadsDocument text k b l → (g ≡ k) × (a ≡ b) × (h ≡ l)
  one_document g h k l a b r s =
      let e : ◌≡◌ {A = Computed Parts} (Ok (r.first, a, r.second)) (Ok (s.first, b, s.second)) = sym (reads_outcome g a h r) ∙ reads_outcome k b l s in
      let f : ◌≡◌ {A = Parts} (r.first, a, r.second) (s.first, b, s.second) = cc in (
        one_graph r.first s.first g k (ap (λ (x : Parts). x.0) f) r.first_accepted.numbers s.first_accepted.numbers,
        ap (λ (x : Parts). x.1) f,
        one_graph r.second s.second h l (ap (λ (x : Parts). x.2) f) r.second_accepted.numbers s.second_accepted.numbers,
      )

  -- ---- one of them there is

  abbrev pub DocumentOrComplaint : Type 0
  DocumentOrComplaint = HasDocumentComplaint text ⊎ ((g : EventGraph) × (applications : List RuleApplication) × (h : EventGraph) × ReadsDocument text g applications h)

  module _ (within : length text ≤ DOCUMENT_MAX) where
    by_second : (first second : WrittenModel) (applications : List RuleApplication) → SpellsDocument text first applications second → (g : EventGraph) → Accepted first g → (o : Option StaticFault) → first_fault second ≡ o → DocumentOrComplaint
    by_second first second applications s g accepted None e =
        let (h, is) = (laws.accepted second).0 e in
        inr (g, applications, h, record { fits = within; first = first; second = second; spells = s; first_accepted = accepted; second_accepted = is })
    by_second first second applications s g accepted (Some f) e = inl (complaints.Static f.kind, f.at, of_second first second applications s g accepted f.kind refl ((laws.first_is_fault second f).0 e))

    by_first : (first second : WrittenModel) (applications : List RuleApplication) → SpellsDocument text first applications second → (o : Option StaticFault) → first_fault first ≡ o → DocumentOrComplaint
    by_first first second applications s None e = let (g, is) = (laws.accepted first).0 e in by_second first second applications s g is (first_fault second) refl
    by_first first second applications s (Some f) e = inl (complaints.Static f.kind, f.at, of_first first second applications s f.kind refl ((laws.first_is_fault first f).0 e))

    by_certificate : (tokens : List Lexeme) → tokens_of text ≡ Ok tokens → (a : FrontModel tokens) (b : FrontModel a.left) → CertificateDecision text b.left → DocumentOrComplaint
    by_certificate tokens cut a b (inl spelled) =
        by_first a.model b.model spelled.0 (record { tokens = tokens; cut = cut; after_first = a.left; begins = a.begins; after_second = b.left; goes_on = b.begins; ends = spelled.1 }) (first_fault a.model) refl
    by_certificate tokens cut a b (inr wrong) = inl (complaints.Unexpected, wrong.0, of_tokens tokens cut (in_certificate a.model b.model a.left b.left a.begins b.begins refl wrong.1))

    by_second_front : (tokens : List Lexeme) → tokens_of text ≡ Ok tokens → (a : FrontModel tokens) → FrontModel a.left ⊎ FrontFault text a.left → DocumentOrComplaint
    by_second_front tokens cut a (inl b) = by_certificate tokens cut a b (certificate_decided text b.left)
    by_second_front tokens cut a (inr f) = inl (f.what, f.at, of_tokens tokens cut (in_second a.model a.left a.begins f.is))

    by_first_front : (tokens : List Lexeme) → tokens_of text ≡ Ok tokens → FrontModel tokens ⊎ FrontFault text tokens → DocumentOrComplaint
    by_first_front tokens cut (inl a) = by_second_front tokens cut a (front_or_fault text a.left)
    by_first_front tokens cut (inr f) = inl (f.what, f.at, of_tokens tokens cut (in_first f.is))

    by_cut : (r : Result (List Lexeme) ℕ) → tokens_of text ≡ r → DocumentOrComplaint
    by_cut (Ok tokens) cut = by_first_front tokens cut (front_or_fault text tokens)
    by_cut (Err at) cut = inl (complaints.BadByte, at, of_bytes refl cut)

    pub document_or_complaint : DocumentOrComplaint
    document_or_complaint = by_cut (tokens_of text) refl
