-- A certificate and a document as computed, and by their grammar and the static rules.
use Rattle.std.proofs.Common.{◌≡◌, ℕ, ◌≤◌, List, [], refl, sym, subst, ◌∙◌}
use Rattle.std.specs.Prelude.{Option, Some, None, Result, Ok, Err}
use Rattle.sig_base.specs.declared.limits.TheConstants.{DOCUMENT_MAX, OPENINGS_MAX}
use Rattle.std.specs.Prelude.{length}
use Rattle.model_core.specs.EventGraph.{EventGraph}
use Rattle.model_core.specs.Rules.Reduction.{RuleApplication}
use Rattle.model_core.specs.Text.Lexing.{Lexeme, tokens_of}
use Rattle.model_core.specs.Text.Written.{WrittenModel}
use Rattle.model_core.specs.Text.FirstWrong.{wrong_place}
use Rattle.model_core.specs.Text.Openings.{front_to_end, too_deep_at}
use Rattle.model_core.specs.Text.Numbering.{numbered}
use Rattle.model_core.specs.Text.CertificateText.{certificate_format, IsNoCertificateAt}
use Rattle.model_core.specs.Static.ModelFaults.{first_fault, Accepted}
use Rattle.model_core.specs.Static.Reading.{ReadsDocument}
use Rattle.text_laws.specs.FormatReader.{Parse, took, and_next, whole_read}
use Rattle.text_laws.specs.LanguageReader.{language_reader, text_and_rest}
use Rattle.text_laws.proofs.OpeningLaws.{none-is_few}
use Rattle.text_laws.proofs.Formats.OneTokenDecides.{certificate-fine}
use Rattle.text_laws.proofs.Formats.TextLaws.{read-is_spelled, all-is_spelled, all-is_wrong}
use Rattle.worked_runs.specs.GrammarTexts.{place_stuck}
use Rattle.worked_runs.specs.CertificateTexts.{IsNoCertificateText, certificate_stuck}

abbrev certificate_parse : List Lexeme → Parse (List RuleApplication)
certificate_parse tokens = and_next whole_read (language_reader certificate_format tokens)

stuck_at : (text : List ℕ) (tokens : List Lexeme) (at : ℕ) (r : Parse (List RuleApplication)) → certificate_parse tokens ≡ r → place_stuck text r ≡ Some at → IsNoCertificateAt text tokens at
stuck_at text tokens at (Ok r) same e = absurd cc
stuck_at text tokens at (Err rest) same e = let is : wrong_place text rest ≡ at = cc in subst (λ k. IsNoCertificateAt text tokens k) is (all-is_wrong certificate_format certificate-fine text tokens rest same)

pub no_certificate : {text : List ℕ} {at : ℕ} → certificate_stuck text (tokens_of text) ≡ Some at → IsNoCertificateText text at
no_certificate {text} {at} e = go (tokens_of text) refl e
  where
    go : (r : Result (List Lexeme) ℕ) → tokens_of text ≡ r → certificate_stuck text r ≡ Some at → IsNoCertificateText text at
    go (Ok tokens) cut e = record { tokens = tokens; cut = cut; wrong = stuck_at text tokens at (certificate_parse tokens) refl e }
    go (Err k) cut e = absurd cc

-- a written model is accepted as the model that its names name, where it has no fault
accepted-as : ((m : WrittenModel) → first_fault m ≡ None → (g : EventGraph) × Accepted m g) → (m : WrittenModel) (g : EventGraph) → first_fault m ≡ None → numbered m ≡ Some g → Accepted m g
accepted-as accepts m g none is =
    let (h, accepted) = accepts m none in
    let same : ◌≡◌ {A = Option EventGraph} (Some h) (Some g) = sym accepted.numbers ∙ is in
    let one : h ≡ g = cc in
    subst (Accepted m) one accepted

pub document_read : ((m : WrittenModel) → first_fault m ≡ None → (g : EventGraph) × Accepted m g) → {text : List ℕ} {tokens left last : List Lexeme} {first second : WrittenModel} {applications : List RuleApplication} {g h : EventGraph}
    → length text ≤ DOCUMENT_MAX → tokens_of text ≡ Ok tokens
    → text_and_rest tokens ≡ took first left → too_deep_at OPENINGS_MAX (front_to_end tokens) ≡ None → text_and_rest left ≡ took second last → too_deep_at OPENINGS_MAX (front_to_end left) ≡ None → certificate_parse last ≡ took applications []
    → first_fault first ≡ None → numbered first ≡ Some g → first_fault second ≡ None → numbered second ≡ Some h → ReadsDocument text g applications h
document_read accepts {text} {tokens} {left} {last} {first} {second} {applications} {g} {h} fits cut reads_first few_first reads_second few_second reads_certificate none_first is_first none_second is_second = record {
  fits = fits;
  first = first;
  second = second;
  spells = record {
    tokens = tokens;
    cut = cut;
    after_first = left;
    begins = record { derived = read-is_spelled tokens first left reads_first; few_openings = none-is_few OPENINGS_MAX (front_to_end tokens) few_first };
    after_second = last;
    goes_on = record { derived = read-is_spelled left second last reads_second; few_openings = none-is_few OPENINGS_MAX (front_to_end left) few_second };
    ends = all-is_spelled certificate_format last applications [] reads_certificate;
  };
  first_accepted = accepted-as accepts first g none_first is_first;
  second_accepted = accepted-as accepts second h none_second is_second;
}
