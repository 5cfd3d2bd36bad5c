-- Of each document of two texts there is one thing to complain of, or it reads as two models, and never both: what comes of it is
-- decided text by text.
use Rattle.std.proofs.Common.{◌≡◌, ◌⊎◌, inl, inr, ℕ, ◌≤◌, List, [], ◌∷◌, length, refl, sym, ap, ◌∙◌}
use Rattle.std.specs.Prelude.{Option, Some, None, Result, Ok, Err}
use Rattle.sig_base.specs.declared.limits.TheConstants.{DOCUMENT_MAX}
use Rattle.model_core.specs.Text.DocumentText.{BeginsWithModel}
use Rattle.model_core.specs.Static.FaultOrder.{StaticFault}
use Rattle.answer_delivery.specs.declared.complaint.Complaint.{Complaint}
use Rattle.answer_delivery.specs.declared.complaint.Complaint.TheVariants as complaints
use Rattle.job_answers.specs.PairReading.{SpellsPair, ReadsPair}
use Rattle.job_answers.specs.PairComplaints.{IsPairGrammarComplaint, in_first_text, in_second_text, behind_both, IsPairComplaint, of_pair_bytes, of_pair_tokens, of_first_model, of_second_model}
use Rattle.job_answers.specs.TextComplaints.{HasPairComplaint}
use Rattle.job_answers.proofs.ModelTerms.{EventGraph, Lexeme, tokens_of, WrittenModel, first_fault, Accepted}
use Rattle.job_answers.proofs.FaultLaws.{FaultLaws}
use Rattle.job_answers.proofs.FrontOutcome.{Computed, and_then, front_outcome, front_begun, front_complained, FrontFault, FrontModel, front_or_fault, unless_fault, one_graph}

-- ---- the outcome for all tokens

abbrev BothWritten : Type 0
BothWritten = WrittenModel × WrittenModel

-- nothing is left behind the second text
abbrev unless_left : WrittenModel → WrittenModel × List Lexeme → Computed BothWritten
unless_left first (second, []) = Ok (first, second)
unless_left first (second, token ∷ rest) = Err (complaints.Unexpected, token.from)

abbrev after_first_text : List ℕ → WrittenModel × List Lexeme → Computed BothWritten
after_first_text text first = and_then (unless_left first.0) (front_outcome text first.1)

abbrev pair_grammar_outcome : List ℕ → List Lexeme → Computed BothWritten
pair_grammar_outcome text tokens = and_then (after_first_text text) (front_outcome text tokens)

pair_grammar_complained : (text : List ℕ) (tokens : List Lexeme) (what : Complaint) (at : ℕ) → IsPairGrammarComplaint text tokens what at → pair_grammar_outcome text tokens ≡ Err (what, at)
pair_grammar_complained text tokens what at (in_first_text h) = ap (and_then (after_first_text text)) (front_complained text tokens what at h)
pair_grammar_complained text tokens what at (in_second_text first left b h) =
    ap (and_then (after_first_text text)) (front_begun text tokens first left b) ∙ ap (and_then (unless_left first)) (front_complained text left what at h)
pair_grammar_complained text tokens what at (behind_both first second left token rest b d is place) =
    ap (and_then (after_first_text text)) (front_begun text tokens first left b) ∙ ap (and_then (unless_left first)) (front_begun text left second (token ∷ rest) d)
    ∙ ap (λ w. Err (w, token.from)) (sym is) ∙ ap (λ k. Err (what, k)) (sym place)

-- ---- the outcome for the document

abbrev pair_static_outcome : BothWritten → Computed BothWritten
pair_static_outcome (first, second) = unless_fault (first_fault first) (unless_fault (first_fault second) (Ok (first, second)))

abbrev pair_cut_outcome : List ℕ → Result (List Lexeme) ℕ → Computed BothWritten
pair_cut_outcome text (Ok tokens) = and_then pair_static_outcome (pair_grammar_outcome text tokens)
pair_cut_outcome text (Err at) = Err (complaints.BadByte, at)

abbrev pair_outcome : List ℕ → Computed BothWritten
pair_outcome text = pair_cut_outcome text (tokens_of text)

spelled_pair_outcome : (text : List ℕ) (first second : WrittenModel) → SpellsPair text first second → pair_outcome text ≡ pair_static_outcome (first, second)
spelled_pair_outcome text first second s =
    ap (pair_cut_outcome text) s.cut
    ∙ ap (and_then pair_static_outcome) (ap (and_then (after_first_text text)) (front_begun text s.tokens first s.after_first s.begins) ∙ ap (and_then (unless_left first)) (front_begun text s.after_first second [] s.ends))

module _ (laws : FaultLaws) (text : List ℕ) where
  pair_complaint_outcome : (what : Complaint) (at : ℕ) → IsPairComplaint text what at → pair_outcome text ≡ Err (what, at)
  pair_complaint_outcome what at (of_pair_bytes is cut) = ap (pair_cut_outcome text) cut ∙ ap (λ w. Err (w, at)) (sym is)
  pair_complaint_outcome what at (of_pair_tokens tokens cut h) = ap (pair_cut_outcome text) cut ∙ ap (and_then pair_static_outcome) (pair_grammar_complained text tokens what at h)
  pair_complaint_outcome what at (of_first_model first second s kind is fault) =
      spelled_pair_outcome text first second s ∙ ap (λ o. unless_fault o (unless_fault (first_fault second) (Ok (first, second)))) ((laws.first_is_fault first (record { at = at; kind = kind })).1 fault) ∙ ap (λ w. Err (w, at)) (sym is)
  pair_complaint_outcome what at (of_second_model first second s g accepted kind is fault) =
      spelled_pair_outcome text first second s ∙ ap (λ o. unless_fault o (unless_fault (first_fault second) (Ok (first, second)))) ((laws.accepted first).1 (g, accepted))
      ∙ ap (λ o. unless_fault o (Ok (first, second))) ((laws.first_is_fault second (record { at = at; kind = kind })).1 fault) ∙ ap (λ w. Err (w, at)) (sym is)

  reads_pair_outcome : (g h : EventGraph) → (r : ReadsPair text g h) → pair_outcome text ≡ Ok (r.first, r.second)
  reads_pair_outcome g h r =
      spelled_pair_outcome text r.first r.second r.spells ∙ ap (λ o. unless_fault o (unless_fault (first_fault r.second) (Ok (r.first, r.second)))) ((laws.accepted r.first).1 (g, r.first_accepted))
      ∙ ap (λ o. unless_fault o (Ok (r.first, r.second))) ((laws.accepted r.second).1 (h, r.second_accepted))

  -- ---- there is one

  pub one_pair_complaint : (c d : Complaint) (i j : ℕ) → IsPairComplaint text c i → IsPairComplaint text d j → (c ≡ d) × (i ≡ j)
  one_pair_complaint c d i j p q =
      let e : ◌≡◌ {A = Computed BothWritten} (Err (c, i)) (Err (d, j)) = sym (pair_complaint_outcome c i p) ∙ pair_complaint_outcome d j q in
      let f : ◌≡◌ {A = Complaint × ℕ} (c, i) (d, j) = cc in
      (ap (λ (x : Complaint × ℕ). x.0) f, ap (λ (x : Complaint × ℕ). x.1) f)

  pub no_pair_complaint : (c : Complaint) (i : ℕ) (g h : EventGraph) → IsPairComplaint text c i → ReadsPair text g h → ⊥
  no_pair_complaint c i g h p r =
      let e : ◌≡◌ {A = Computed BothWritten} (Err (c, i)) (Ok (r.first, r.second)) = sym (pair_complaint_outcome c i p) ∙ reads_pair_outcome g h r in
      cc

  pub one_pair : (g h k l : EventGraph) → ReadsPair text g h → ReadsPair text k l → (g ≡ k) × (h ≡ l)
  one_pair g h k l r s =
      let e : ◌≡◌ {A = Computed BothWritten} (Ok (r.first, r.second)) (Ok (s.first, s.second)) = sym (reads_pair_outcome g h r) ∙ reads_pair_outcome k l s in
      let f : ◌≡◌ {A = BothWritten} (r.first, r.second) (s.first, s.second) = cc in (
        one_graph r.first s.first g k (ap (λ (x : BothWritten). x.0) f) r.first_accepted.numbers s.first_accepted.numbers,
        one_graph r.second s.second h l (ap (λ (x : BothWritten). x.1) f) r.second_accepted.numbers s.second_accepted.numbers,
      )

  -- ---- one of them there is

  abbrev pub PairOrComplaint : Type 0
  PairOrComplaint = HasPairComplaint text ⊎ ((g : EventGraph) × (h : EventGraph) × ReadsPair text g h)

  module _ (within : length text ≤ DOCUMENT_MAX) where
    by_second_model : (first second : WrittenModel) → SpellsPair text first second → (g : EventGraph) → Accepted first g → (o : Option StaticFault) → first_fault second ≡ o → PairOrComplaint
    by_second_model first second s g accepted None e =
        let (h, is) = (laws.accepted second).0 e in
        inr (g, h, record { fits = within; first = first; second = second; spells = s; first_accepted = accepted; second_accepted = is })
    by_second_model first second s g accepted (Some f) e = inl (complaints.Static f.kind, f.at, of_second_model first second s g accepted f.kind refl ((laws.first_is_fault second f).0 e))

    by_first_model : (first second : WrittenModel) → SpellsPair text first second → (o : Option StaticFault) → first_fault first ≡ o → PairOrComplaint
    by_first_model first second s None e = let (g, is) = (laws.accepted first).0 e in by_second_model first second s g is (first_fault second) refl
    by_first_model first second s (Some f) e = inl (complaints.Static f.kind, f.at, of_first_model first second s f.kind refl ((laws.first_is_fault first f).0 e))

    by_left : (tokens left : List Lexeme) → tokens_of text ≡ Ok tokens → (first second : WrittenModel) (last : List Lexeme) → BeginsWithModel tokens first left → BeginsWithModel left second last → PairOrComplaint
    by_left tokens left cut first second [] b d = by_first_model first second (record { tokens = tokens; cut = cut; after_first = left; begins = b; ends = d }) (first_fault first) refl
    by_left tokens left cut first second (token ∷ rest) b d = inl (complaints.Unexpected, token.from, of_pair_tokens tokens cut (behind_both first second left token rest b d refl refl))

    by_second_text : (tokens : List Lexeme) → tokens_of text ≡ Ok tokens → (a : FrontModel tokens) → FrontModel a.left ⊎ FrontFault text a.left → PairOrComplaint
    by_second_text tokens cut a (inl b) = by_left tokens a.left cut a.model b.model b.left a.begins b.begins
    by_second_text tokens cut a (inr f) = inl (f.what, f.at, of_pair_tokens tokens cut (in_second_text a.model a.left a.begins f.is))

    by_first_text : (tokens : List Lexeme) → tokens_of text ≡ Ok tokens → FrontModel tokens ⊎ FrontFault text tokens → PairOrComplaint
    by_first_text tokens cut (inl a) = by_second_text tokens cut a (front_or_fault text a.left)
    by_first_text tokens cut (inr f) = inl (f.what, f.at, of_pair_tokens tokens cut (in_first_text f.is))

    by_pair_cut : (r : Result (List Lexeme) ℕ) → tokens_of text ≡ r → PairOrComplaint
    by_pair_cut (Ok tokens) cut = by_first_text tokens cut (front_or_fault text tokens)
    by_pair_cut (Err at) cut = inl (complaints.BadByte, at, of_pair_bytes refl cut)

    pub pair_or_complaint : PairOrComplaint
    pair_or_complaint = by_pair_cut (tokens_of text) refl
