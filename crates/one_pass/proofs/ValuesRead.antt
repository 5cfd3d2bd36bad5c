-- Values that are read and checked one after another.
use Rattle.std.proofs.Common.{◌≡◌, ℕ, true, false, ◌+◌, List, [], ◌∷◌, ◌++◌, length, map, Option, None, refl, sym, ap, ◌∙◌}
use Rattle.std.proofs.lemmas.List.{map-id, length-append}
use Rattle.model_core.specs.declared.model.Kind.{Kind}
use Rattle.model_core.specs.declared.token.Symbol.TheVariants.{Comma}
use Rattle.model_core.specs.EventGraph as graph
use Rattle.model_core.specs.Text.Lexing.{Lexeme}
use Rattle.model_core.specs.Text.Format.{Yields, Many, ASymbol, mark, ◌<*>◌, ◌*>◌, separated}
use Rattle.model_core.specs.Text.Written.{WrittenExpression}
use Rattle.model_core.specs.Text.Expressions.{LanguageFormat, expression_format}
use Rattle.model_core.specs.Text.Numbering.{each_numbered, expression}
use Rattle.model_core.specs.Static.Meanings.{Meaning}
use Rattle.model_core.specs.Static.RuleTable.{value_count}
use Rattle.model_core.specs.Static.PartFaults.{expression_faults, kind_faults, operand_faults, values_faults}
use Rattle.text_laws.specs.FirstTokens.{begins_as}
use Rattle.text_laws.specs.FormatReader.{took, with_front}
use Rattle.text_laws.specs.LanguageReader.{language_reader}
use Rattle.model_core.proofs.EmptyLists.{left_empty, right_empty}
use Rattle.static_laws.proofs.StaticTwins.RowTwins.{same_count}
use Rattle.static_laws.proofs.StaticTwins.Twins.{both_empty}
use Rattle.text_laws.proofs.ReadLoop.{begins-one, goes_on, is_done, front-none}
use Rattle.static_laws.specs.Checked.{NumberedAs}
use Rattle.static_laws.specs.Wanted.{wanted}
use Rattle.static_laws.proofs.ListChecks.{one_numbered_more}
use Rattle.one_pass.specs.Inner.ReadParts.{ReadSure}
use Rattle.one_pass.specs.Inner.ReadValues.{fitting_faults}
use Rattle.one_pass.proofs.WholeReads.{applied}

abbrev next_format : LanguageFormat WrittenExpression
next_format = mark Comma *> expression_format

module _ (means : List ℕ → Option Meaning) where
  values-push : (ks : List (Option Kind)) (es : List WrittenExpression) (e : WrittenExpression) → values_faults means ks es ≡ [] → operand_faults means (wanted ks (length es)) e ≡ [] → values_faults means ks (es ++ e ∷ []) ≡ []
  values-push [] [] e h k = both_empty (expression_faults means e) [] (left_empty (expression_faults means e) (kind_faults means None e) k) refl
  values-push (w ∷ ks) [] e h k = both_empty (operand_faults means w e) [] k refl
  values-push [] (f ∷ es) e h k =
      both_empty (expression_faults means f) (values_faults means [] (es ++ e ∷ [])) (left_empty (expression_faults means f) (values_faults means [] es) h) (values-push [] es e (right_empty (expression_faults means f) (values_faults means [] es) h) k)
  values-push (w ∷ ks) (f ∷ es) e h k =
      both_empty (operand_faults means w f) (values_faults means ks (es ++ e ∷ [])) (left_empty (operand_faults means w f) (values_faults means ks es) h) (values-push ks es e (right_empty (operand_faults means w f) (values_faults means ks es) h) k)

  module _ (kinds : List (Option Kind)) where
    -- values of these kinds, as far as both lists go
    pub record AreValues (es : List WrittenExpression) (xs : List graph.Expression) : Type 0 where
      pub unbroken : values_faults means kinds es ≡ []
      pub numbers : NumberedAs means (λ d. each_numbered (expression d) es) xs
      pub counted : length es ≡ length xs

    one-more : (es : List WrittenExpression) (xs : List graph.Expression) (e : WrittenExpression) (x : graph.Expression) → AreValues es xs → operand_faults means (wanted kinds (length xs)) e ≡ [] → NumberedAs means (λ d. expression d e) x
        → AreValues (es ++ e ∷ []) (xs ++ x ∷ [])
    one-more es xs e x are fits numbers = record {
      unbroken = values-push kinds es e are.unbroken (rw are.counted fits);
      numbers = λ d p. one_numbered_more (expression d) es e xs x (are.numbers d p) (numbers d p);
      counted = length-append es (e ∷ []) ∙ ap (λ n. n + 1) are.counted ∙ sym (length-append xs (x ∷ []));
    }

    -- the first value and those after commas that were read, of those that come
    pub record ListedSoFar (before now : List Lexeme) (xs : List graph.Expression) : Type 0 where
      pub first : WrittenExpression
      pub between : List Lexeme
      pub first_read : language_reader expression_format before ≡ took first between
      pub seen : List WrittenExpression
      pub read : with_front (map (λ w. w) seen) (language_reader (Many next_format) now) ≡ language_reader (Many next_format) between
      pub values : AreValues (first ∷ seen) xs

    pub one_listed : (before now : List Lexeme) (x : graph.Expression) → ReadSure expression_format means (operand_faults means (wanted kinds 0)) expression before now x → ListedSoFar before now (x ∷ [])
    one_listed before now x r = record {
      first = r.written;
      between = now;
      first_read = r.read;
      seen = [];
      read = front-none (language_reader (Many next_format) now);
      values = one-more [] [] r.written x (record { unbroken = refl; numbers = λ d p. refl; counted = refl }) r.unbroken r.numbers;
    }

    pub one_more_listed : (before now later : List Lexeme) (xs after : List graph.Expression) (x : graph.Expression) → begins_as (ASymbol Comma) now ≡ true → after ≡ xs ++ x ∷ [] → ListedSoFar before now xs
        → ReadSure next_format means (operand_faults means (wanted kinds (length xs))) expression now later x → ListedSoFar before later after
    one_more_listed before now later xs after x begun put so_far r = record {
      first = so_far.first;
      between = so_far.between;
      first_read = so_far.first_read;
      seen = so_far.seen ++ r.written ∷ [];
      read = goes_on (λ w. w) next_format refl so_far.seen r.written now later (language_reader (Many next_format) so_far.between) (begins-one (ASymbol Comma) now true begun) r.read so_far.read;
      values = rw put (one-more (so_far.first ∷ so_far.seen) xs r.written x so_far.values r.unbroken r.numbers);
    }

    pub all_listed : (before now : List Lexeme) (xs : List graph.Expression) → begins_as (ASymbol Comma) now ≡ false → length xs ≡ length kinds → ListedSoFar before now xs
        → ReadSure (separated expression_format) means (fitting_faults means kinds) (λ d. each_numbered (expression d)) before now xs
    all_listed before now xs stop count so_far = record {
      written = so_far.first ∷ so_far.seen;
      read = applied (Yields (λ x ys. x ∷ ys) <*> expression_format) (Many next_format) before so_far.between now (λ ys. so_far.first ∷ ys) so_far.seen
          (applied (Yields (λ x ys. x ∷ ys)) expression_format before before so_far.between (λ x ys. x ∷ ys) so_far.first refl so_far.first_read)
          (is_done (λ w. w) next_format refl so_far.seen now (language_reader (Many next_format) so_far.between) (begins-one (ASymbol Comma) now false stop) so_far.read ∙ ap (λ ws. took ws now) (map-id so_far.seen));
      unbroken = both_empty (value_count (length kinds) (length (so_far.first ∷ so_far.seen)) 0) (values_faults means kinds (so_far.first ∷ so_far.seen)) ((same_count (length kinds) (length (so_far.first ∷ so_far.seen)) 0).1 (sym (so_far.values.counted ∙ count))) so_far.values.unbroken;
      numbers = so_far.values.numbers;
    }
