-- A snapshot's text as computed, and by its grammar.
use Rattle.std.proofs.Common.{◌≡◌, ℕ, List, refl, subst}
use Rattle.std.specs.Prelude.{Some, Result, Ok, Err}
use Rattle.model_core.specs.Text.Lexing.{Lexeme, tokens_of}
use Rattle.model_core.specs.Text.FirstWrong.{wrong_place}
use Rattle.model_core.specs.Text.SnapshotGrammar.{WrittenSnapshot, snapshot_format, IsNoSnapshotAt}
use Rattle.text_laws.specs.FormatReader.{Parse, and_next, whole_read}
use Rattle.text_laws.specs.LanguageReader.{language_reader}
use Rattle.text_laws.proofs.Formats.TextLaws.{all-is_wrong}
use Rattle.worked_runs.specs.GrammarTexts.{place_stuck}
use Rattle.worked_runs.specs.SnapshotTexts.{IsNoSnapshotText, snapshot_stuck}
use Rattle.text_laws.proofs.Formats.OneTokenDecides.{snapshot-fine}

abbrev snapshot_parse : List Lexeme → Parse WrittenSnapshot
snapshot_parse tokens = and_next whole_read (language_reader snapshot_format tokens)

stuck_at : (text : List ℕ) (tokens : List Lexeme) (at : ℕ) (r : Parse WrittenSnapshot) → snapshot_parse tokens ≡ r → place_stuck text r ≡ Some at → IsNoSnapshotAt text tokens at
stuck_at text tokens at (Ok r) same e = absurd cc
stuck_at text tokens at (Err rest) same e = let is : wrong_place text rest ≡ at = cc in subst (λ k. IsNoSnapshotAt text tokens k) is (all-is_wrong snapshot_format snapshot-fine text tokens rest same)

pub no_snapshot : {text : List ℕ} {at : ℕ} → snapshot_stuck text (tokens_of text) ≡ Some at → IsNoSnapshotText text at
no_snapshot {text} {at} e = go (tokens_of text) refl e
  where
    go : (r : Result (List Lexeme) ℕ) → tokens_of text ≡ r → snapshot_stuck text r ≡ Some at → IsNoSnapshotText text at
    go (Ok tokens) cut e = record { tokens = tokens; cut = cut; wrong = stuck_at text tokens at (snapshot_parse tokens) refl e }
    go (Err k) cut e = absurd cc
