-- A draw that was read, from its target and its source.
use Rattle.std.proofs.Common.{◌≡◌, ℕ, Bool, true, false, cond, List, [], ◌∷◌, ◌++◌, Option, Some, refl}
use Rattle.model_core.specs.declared.model.Kind.{Kind}
use Rattle.model_core.specs.declared.model.Kind.TheVariants as kinds
use Rattle.model_core.specs.declared.token.Symbol.TheVariants as symbols
use Rattle.model_core.specs.declared.token.Word.TheVariants as words
use Rattle.model_core.specs.EventGraph as graph
use Rattle.model_core.specs.Text.Lexing.{Lexeme}
use Rattle.model_core.specs.Text.Written as written
use Rattle.model_core.specs.Text.Format.{AWord, reserved, mark, sort_of}
use Rattle.model_core.specs.Text.Language.{target_format, change_format}
use Rattle.model_core.specs.Text.Numbering as numbering
use Rattle.model_core.specs.Static.Kinds.{kinds_differ}
use Rattle.model_core.specs.Static.Meanings.{Meaning}
use Rattle.model_core.specs.Static.RuleTable.{kind_mismatch}
use Rattle.model_core.specs.Static.PartFaults.{target_kind, target_faults, source_faults, change_faults}
use Rattle.text_laws.specs.FirstTokens.{begins_as}
use Rattle.text_laws.specs.FormatReader.{took}
use Rattle.text_laws.specs.LanguageReader.{language_reader}
use Rattle.text_laws.proofs.Formats.TokenSorts.{same_sort-true}
use Rattle.static_laws.proofs.StaticTwins.Twins.{both_empty}
use Rattle.one_pass.specs.Inner.AllFaults.{all_change_faults}
use Rattle.one_pass.specs.Inner.ReadParts.{ReadSure}
use Rattle.one_pass.specs.Inner.ReadTargets.{ReadTarget}
use Rattle.one_pass.specs.Inner.ReadSources.{ReadSource}
use Rattle.one_pass.proofs.AnyOrder.{unless-none}
use Rattle.one_pass.proofs.RowsInTurn.{stands_first}

no_set : (tokens : List Lexeme) → begins_as (AWord words.Draw) tokens ≡ true → begins_as (AWord words.Set) tokens ≡ false
no_set [] e = refl
no_set (t ∷ tokens) e = let sort : sort_of t.kind ≡ AWord words.Draw = same_sort-true (sort_of t.kind) (AWord words.Draw) e in rw sort refl

module _ (means : List ℕ → Option Meaning) where
  pub draw_read : (is_two : Bool) (at s : ℕ) (before c1 c2 c3 after : List Lexeme) (x : graph.Location) (kind : Option Kind) (n : ℕ) (y : graph.Choice)
      → language_reader (reserved words.Draw) before ≡ took at c1 → ReadTarget means (language_reader target_format c1) c2 x kind → kinds_differ (Some kinds.Range) kind ≡ false
      → ReadSource means c2 c3 n y → language_reader (mark symbols.Semicolon) c3 ≡ took s after
      → ReadSure change_format means (all_change_faults is_two means) numbering.change before after (graph.Draw x n y)
  unfolding change_format
  draw_read is_two at s before c1 c2 c3 after x kind n y word target same source ends =
      let t = target.written in
      let from = source.written in
      let mismatch = kind_mismatch (Some kinds.Range) (target_kind means t) t.name.at in
      let fits : mismatch ≡ [] = rw (← target.target.has_kind, same) refl in
      record {
        written = written.Draw at t from.stream from.choice;
        read = rw (no_set before (stands_first (AWord words.Draw) (λ t. t.from) before c1 at word), word, target.is_read, source.read, ends) refl;
        unbroken = both_empty (change_faults means (written.Draw at t from.stream from.choice)) (cond is_two [] [])
            (both_empty (target_faults means t ++ mismatch) (source_faults means from.stream from.choice) (both_empty (target_faults means t) mismatch target.target.unbroken fits) source.source.unbroken)
            (unless-none is_two);
        numbers = λ d p. rw (target.target.numbers d p, source.source.is_stream, source.source.numbers d p) refl;
      }
