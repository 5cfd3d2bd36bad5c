-- The answer of a call that reads a certificate is right: what it read is one, and where it stopped none goes on.
use Rattle.std.proofs.Common.{◌≡◌, ℕ, Bool, true, false, List, [], ◌∷◌, ◌++◌, map, refl, subst}
use Rattle.std.specs.Prelude.{Result, Ok, Err, IfOk}
use Rattle.std.proofs.lemmas.List.{map-id}
use Rattle.model_core.specs.declared.application.Application.{Application}
use Rattle.model_core.specs.Rules.Reduction.{RuleApplication}
use Rattle.model_core.specs.Text.Lexing.{Lexeme}
use Rattle.model_core.specs.Text.FirstWrong.{wrong_place}
use Rattle.model_core.specs.Text.Format.{AName, Many}
use Rattle.model_core.specs.Text.CertificateText.{plain_name_format, prune_format, settle_format, drop_format, merge_format, slice_format, application_format, certificate_format, IsCertificate, IsNoCertificateAt}
use Rattle.model_core.specs.Code.Views.{application_of}
use Rattle.text_laws.specs.FirstTokens.{nullable, first_sorts, begins_as, begins_among}
use Rattle.text_laws.specs.FormatReader.{Parse, took, and_next, with_front, whole_read}
use Rattle.text_laws.specs.LanguageReader.{level_lookahead, language_reader}
use Rattle.text_laws.proofs.Formats.OneTokenDecides.{certificate-fine}
use Rattle.text_laws.proofs.Formats.TextLaws.{all-is_spelled, all-is_wrong}
use Rattle.model_lex.specs.declared.parse_error.ParseError.TheVariants as errors
use Rattle.model_read.specs.declared.stop.Stop.{Stop}
use Rattle.model_read.specs.declared.stop.Stop.TheVariants as stops
use Rattle.model_read.specs.ReadCalls.{Stops, Returned, placed_at}
use Rattle.text_laws.proofs.ReadLoop.{begins-one, goes_on, ends, is_done}

-- ---- names and applications have a token at least

pub name-some : nullable plain_name_format ≡ false
unfolding plain_name_format
name-some = refl

pub application-some : nullable application_format ≡ false
unfolding plain_name_format prune_format settle_format drop_format merge_format slice_format application_format
application-some = refl

-- ---- names, which are read as they are

pub name-begins : (tokens : List Lexeme) (b : Bool) → begins_as AName tokens ≡ b → begins_among (first_sorts level_lookahead plain_name_format) tokens ≡ b
unfolding plain_name_format
name-begins tokens b e = begins-one AName tokens b e

pub name-goes_on : (names : List (List ℕ)) (name : List ℕ) (tokens left : List Lexeme) (total : Parse (List (List ℕ))) → begins_as AName tokens ≡ true
    → language_reader plain_name_format tokens ≡ took name left → with_front names (language_reader (Many plain_name_format) tokens) ≡ total → with_front (names ++ name ∷ []) (language_reader (Many plain_name_format) left) ≡ total
name-goes_on names name tokens left total begun e so_far =
    subst (λ (l : List (List ℕ)). with_front l (language_reader (Many plain_name_format) left) ≡ total) (map-id (names ++ name ∷ []))
    (goes_on (λ (n : List ℕ). n) plain_name_format name-some names name tokens left total (name-begins tokens true begun) e
    (rw (map-id names) so_far))

pub name-ends : (names : List (List ℕ)) (tokens rest : List Lexeme) (total : Parse (List (List ℕ))) (error : Stop) → begins_as AName tokens ≡ true
    → Stops error rest (language_reader plain_name_format tokens) → with_front names (language_reader (Many plain_name_format) tokens) ≡ total → Stops error rest total
name-ends names tokens rest total error begun e so_far =
    λ is. ends (λ (n : List ℕ). n) plain_name_format name-some names tokens rest total (name-begins tokens true begun) (rw (map-id names) so_far) (e is)

pub name-done : (names : List (List ℕ)) (tokens : List Lexeme) (total : Parse (List (List ℕ))) → begins_as AName tokens ≡ false
    → with_front names (language_reader (Many plain_name_format) tokens) ≡ total → total ≡ took names tokens
name-done names tokens total stop so_far =
    subst (λ (l : List (List ℕ)). total ≡ took l tokens) (map-id names) (is_done (λ (n : List ℕ). n) plain_name_format name-some names tokens total (name-begins tokens false stop) (rw (map-id names) so_far))

-- ---- the whole

abbrev certificate_read : List Lexeme → Parse (List RuleApplication)
certificate_read tokens = and_next whole_read (language_reader certificate_format tokens)

pub certificate-ok : (tokens left : List Lexeme) (place : ℕ) (r : Result (List Application) Stop) → Returned (map application_of) r left (certificate_read tokens) → IfOk (placed_at place r) (λ applications. IsCertificate tokens (map application_of applications))
certificate-ok tokens left place (Ok applications) g = all-is_spelled certificate_format tokens (map application_of applications) left g
certificate-ok tokens left place (Err stops.Unexpected) g = tt
certificate-ok tokens left place (Err stops.NoMemory) g = tt

pub certificate-unexpected : (text : List ℕ) (tokens left : List Lexeme) (r : Result (List Application) Stop) (at : ℕ) → Returned (map application_of) r left (certificate_read tokens) → placed_at (wrong_place text left) r ≡ Err (errors.Unexpected at) → IsNoCertificateAt text tokens at
certificate-unexpected text tokens left (Ok applications) at g e = absurd cc
certificate-unexpected text tokens left (Err stops.Unexpected) at g e =
    let same : wrong_place text left ≡ at = cc in
    subst (λ (n : ℕ). IsNoCertificateAt text tokens n) same (all-is_wrong certificate_format certificate-fine text tokens left (g refl))
certificate-unexpected text tokens left (Err stops.NoMemory) at g e = absurd cc

pub certificate-never_deep : (place : ℕ) (r : Result (List Application) Stop) (at : ℕ) → placed_at place r ≡ Err (errors.TooDeep at) → ⊥
certificate-never_deep place (Ok applications) at e = cc
certificate-never_deep place (Err stops.Unexpected) at e = cc
certificate-never_deep place (Err stops.NoMemory) at e = cc
