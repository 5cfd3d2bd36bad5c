-- The outcome for the model text at the front of a document: its model and the tokens after it, or the complaint.
use Rattle.std.proofs.Common.{◌≡◌, ◌⊎◌, inl, inr, ℕ, Bool, true, false, List, [], ◌∷◌, ◌++◌, refl, sym, ap, ap₂, ◌∙◌}
use Rattle.std.specs.Prelude.{Option, Some, None, Result, Ok, Err, if◌then◌else◌}
use Rattle.std.proofs.lemmas.List.{append_cancel_left}
use Rattle.sig_base.specs.declared.limits.TheConstants.{OPENINGS_MAX}
use Rattle.model_core.specs.Text.Language.{text_format, IsText, BeginsWithText}
use Rattle.model_core.specs.Text.FirstWrong.{IsUnexpectedAt}
use Rattle.model_core.specs.Text.Openings.{is_end_word, front_to_end, too_deep_at}
use Rattle.model_core.specs.Text.DocumentText.{BeginsWithModel}
use Rattle.model_core.specs.Text.Numbering.{numbered}
use Rattle.model_core.specs.Static.FaultOrder.{StaticFault}
use Rattle.text_laws.proofs.OpeningLaws.{none-is_few, few-is_none}
use Rattle.text_laws.proofs.Formats.OneTokenDecides.{text-fine}
use Rattle.text_laws.proofs.Formats.TextLaws.{spelled_or_unexpected, one_value, one_place}
use Rattle.text_laws.proofs.Formats.EndWord.{front-is_text, text-is_front}
use Rattle.answer_delivery.specs.declared.complaint.Complaint.{Complaint}
use Rattle.answer_delivery.specs.declared.complaint.Complaint.TheVariants as complaints
use Rattle.job_answers.specs.DocumentComplaints.{IsFrontComplaint}
use Rattle.job_answers.proofs.ModelTerms.{EventGraph, Lexeme, WrittenModel}

-- a value, or what there is to complain of and where
abbrev pub Computed : Type 0 → Type 0
Computed A = Result A (Complaint × ℕ)

abbrev pub and_then : {A B : Type 0} → (A → Computed B) → Computed A → Computed B
and_then next (Ok x) = next x
and_then next (Err e) = Err e

-- ---- the front of some tokens, and the tokens after it

abbrev behind_front : List Lexeme → List Lexeme
behind_front [] = []
behind_front (t ∷ tokens) = if is_end_word t.kind then tokens else behind_front tokens

front_and_behind : (tokens : List Lexeme) → tokens ≡ front_to_end tokens ++ behind_front tokens
front_and_behind [] = refl
front_and_behind (t ∷ tokens) = by (is_end_word t.kind) refl (front_and_behind tokens)
  where
    by : (b : Bool) → is_end_word t.kind ≡ b → tokens ≡ front_to_end tokens ++ behind_front tokens → t ∷ tokens ≡ front_to_end (t ∷ tokens) ++ behind_front (t ∷ tokens)
    by true e rest = rw e refl
    by false e rest = rw e (ap (λ (l : List Lexeme). t ∷ l) rest)

-- ---- the outcome for the front

-- tokens are a text, or stop to begin one
abbrev Decision : List ℕ → List Lexeme → Type 0
Decision text tokens = ((m : WrittenModel) × IsText tokens m) ⊎ ((at : ℕ) × IsUnexpectedAt text tokens at)

abbrev of_decision : (text : List ℕ) (tokens : List Lexeme) → Decision text (front_to_end tokens) → Computed (WrittenModel × List Lexeme)
of_decision text tokens (inl spelled) = Ok (spelled.0, behind_front tokens)
of_decision text tokens (inr wrong) = Err (complaints.Unexpected, wrong.0)

abbrev unless_deep : {A : Type 0} → Option ℕ → Computed A → Computed A
unless_deep None o = o
unless_deep (Some at) o = Err (complaints.TooDeep, at)

abbrev pub front_outcome : List ℕ → List Lexeme → Computed (WrittenModel × List Lexeme)
front_outcome text tokens = unless_deep (too_deep_at OPENINGS_MAX (front_to_end tokens)) (of_decision text tokens (spelled_or_unexpected text (front_to_end tokens)))

spelled_front : (text : List ℕ) (tokens : List Lexeme) (m : WrittenModel) (left : List Lexeme) → BeginsWithText tokens m left → (d : Decision text (front_to_end tokens)) → of_decision text tokens d ≡ Ok (m, left)
spelled_front text tokens m left b (inl spelled) =
    let front = front-is_text tokens m left b in
    let model : WrittenModel → List Lexeme → Computed (WrittenModel × List Lexeme) = λ n l. Ok (n, l) in
    ap₂ model (one_value text_format text-fine (front_to_end tokens) spelled.0 m spelled.1 front.1) (append_cancel_left (front_to_end tokens) (behind_front tokens) left (sym (front_and_behind tokens) ∙ front.0))
spelled_front text tokens m left b (inr wrong) = absurd (wrong.1.none m (front-is_text tokens m left b).1)

pub front_begun : (text : List ℕ) (tokens : List Lexeme) (m : WrittenModel) (left : List Lexeme) → BeginsWithModel tokens m left → front_outcome text tokens ≡ Ok (m, left)
front_begun text tokens m left b =
    ap (λ o. unless_deep o (of_decision text tokens (spelled_or_unexpected text (front_to_end tokens)))) (few-is_none OPENINGS_MAX (front_to_end tokens) b.few_openings)
    ∙ spelled_front text tokens m left b.derived (spelled_or_unexpected text (front_to_end tokens))

wrong_front : (text : List ℕ) (tokens : List Lexeme) (at : ℕ) → IsUnexpectedAt text (front_to_end tokens) at → (d : Decision text (front_to_end tokens)) → of_decision text tokens d ≡ Err (complaints.Unexpected, at)
wrong_front text tokens at wrong (inl spelled) = absurd (wrong.none spelled.0 spelled.1)
wrong_front text tokens at wrong (inr other) = ap (λ k. Err (complaints.Unexpected, k)) (one_place text (front_to_end tokens) other.0 at other.1 wrong)

pub front_complained : (text : List ℕ) (tokens : List Lexeme) (what : Complaint) (at : ℕ) → IsFrontComplaint text tokens what at → front_outcome text tokens ≡ Err (what, at)
front_complained text tokens complaints.TooDeep at deep = ap (λ o. unless_deep o (of_decision text tokens (spelled_or_unexpected text (front_to_end tokens)))) deep
front_complained text tokens complaints.Unexpected at (none, wrong) =
    ap (λ o. unless_deep o (of_decision text tokens (spelled_or_unexpected text (front_to_end tokens)))) none ∙ wrong_front text tokens at wrong (spelled_or_unexpected text (front_to_end tokens))
front_complained text tokens complaints.BadByte at h = absurd h
front_complained text tokens (complaints.Static kind) at h = absurd h
front_complained text tokens complaints.BadSnapshot at h = absurd h

pub record FrontFault (text : List ℕ) (tokens : List Lexeme) : Type 0 where
  pub what : Complaint
  pub at : ℕ
  pub is : IsFrontComplaint text tokens what at

pub record FrontModel (tokens : List Lexeme) : Type 0 where
  pub model : WrittenModel
  pub left : List Lexeme
  pub begins : BeginsWithModel tokens model left

by_decision : (text : List ℕ) (tokens : List Lexeme) → too_deep_at OPENINGS_MAX (front_to_end tokens) ≡ None → Decision text (front_to_end tokens) → FrontModel tokens ⊎ FrontFault text tokens
by_decision text tokens none (inl spelled) = inl (record {
  model = spelled.0;
  left = behind_front tokens;
  begins = record { derived = text-is_front tokens spelled.0 (behind_front tokens) (front_and_behind tokens) spelled.1; few_openings = none-is_few OPENINGS_MAX (front_to_end tokens) none };
})
by_decision text tokens none (inr wrong) = inr (record { what = complaints.Unexpected; at = wrong.0; is = (none, wrong.1) })

by_opening : (text : List ℕ) (tokens : List Lexeme) → (o : Option ℕ) → too_deep_at OPENINGS_MAX (front_to_end tokens) ≡ o → FrontModel tokens ⊎ FrontFault text tokens
by_opening text tokens None e = by_decision text tokens e (spelled_or_unexpected text (front_to_end tokens))
by_opening text tokens (Some at) e = inr (record { what = complaints.TooDeep; at = at; is = e })

pub front_or_fault : (text : List ℕ) (tokens : List Lexeme) → FrontModel tokens ⊎ FrontFault text tokens
front_or_fault text tokens = by_opening text tokens (too_deep_at OPENINGS_MAX (front_to_end tokens)) refl

-- ---- the outcome for a written model

abbrev pub unless_fault : {A : Type 0} → Option StaticFault → Computed A → Computed A
unless_fault None o = o
unless_fault (Some f) o = Err (complaints.Static f.kind, f.at)

-- models that the same is written of are one
pub one_graph : (m n : WrittenModel) (g h : EventGraph) → m ≡ n → numbered m ≡ Some g → numbered n ≡ Some h → g ≡ h
one_graph m n g h e is so = let f : ◌≡◌ {A = Option EventGraph} (Some g) (Some h) = sym is ∙ ap numbered e ∙ so in cc
