-- A change that was read, from its targets and its values.
use Rattle.std.proofs.Common.{◌≡◌, ℕ, ◌≤◌, Bool, true, false, cond, List, [], ◌∷◌, ◌++◌, length, map, Option, refl, sym, ap, ◌∙◌, subst, arith}
use Rattle.std.specs.List.{flat_map}
use Rattle.std.proofs.lemmas.List.{length-map}
use Rattle.sig_base.specs.declared.limits.TheConstants.{TARGETS_MAX, TARGETS_MAX_VERSION_1}
use Rattle.model_core.specs.declared.model.Kind.{Kind}
use Rattle.model_core.specs.declared.token.Symbol.TheVariants as symbols
use Rattle.model_core.specs.declared.token.Word.TheVariants as words
use Rattle.model_core.specs.EventGraph as graph
use Rattle.model_core.specs.Text.Lexing.{Lexeme}
use Rattle.model_core.specs.Text.Written as written
use Rattle.model_core.specs.Text.Written.{WrittenExpression, WrittenTarget}
use Rattle.model_core.specs.Text.Format.{AWord, reserved, mark, separated}
use Rattle.model_core.specs.Text.Expressions.{expression_format}
use Rattle.model_core.specs.Text.Language.{target_format, change_format}
use Rattle.model_core.specs.Text.Numbering as numbering
use Rattle.model_core.specs.Text.Numbering.{each_numbered, location}
use Rattle.model_core.specs.Static.Meanings.{Meaning}
use Rattle.model_core.specs.Static.RuleTable.{value_count, too_many}
use Rattle.model_core.specs.Static.PartFaults.{target_kind, target_faults, values_faults, change_faults}
use Rattle.model_core.specs.Static.VersionFaults.{target_faults_version_1}
use Rattle.text_laws.specs.FormatReader.{took}
use Rattle.text_laws.specs.LanguageReader.{language_reader}
use Rattle.model_core.proofs.EmptyLists.{left_empty, right_empty}
use Rattle.static_laws.proofs.StaticTwins.RowTwins.{same_count, few}
use Rattle.static_laws.proofs.StaticTwins.Twins.{both_empty}
use Rattle.static_laws.specs.Checked.{NumberedAs}
use Rattle.one_pass.specs.Inner.AllFaults.{all_change_faults}
use Rattle.one_pass.specs.Inner.ReadParts.{ReadSure}
use Rattle.one_pass.specs.Inner.ReadRows.{AllAre, ReadRow}
use Rattle.one_pass.specs.Inner.ReadTargets.{IsTarget}
use Rattle.one_pass.specs.Inner.ReadValues.{fitting_faults}
use Rattle.one_pass.proofs.RowsInTurn.{stands_first}

module _ (means : List ℕ → Option Meaning) where
  -- targets without faults, of these numbers and kinds
  record FineTargets (ts : List WrittenTarget) (xs : List graph.Location) (ks : List (Option Kind)) : Type 0 where
    pub unbroken : flat_map (target_faults means) ts ≡ []
    pub numbers : NumberedAs means (λ d. each_numbered (location d) ts) xs
    pub have_kinds : ks ≡ map (target_kind means) ts

  fine_targets : (ts : List WrittenTarget) (xs : List graph.Location) (ks : List (Option Kind)) → AllAre (IsTarget means) ts xs ks → FineTargets ts xs ks
  fine_targets [] [] [] a = record { unbroken = refl; numbers = λ d p. refl; have_kinds = refl }
  fine_targets [] [] (k ∷ ks) a = absurd a
  fine_targets [] (x ∷ xs) ks a = absurd a
  fine_targets (t ∷ ts) [] ks a = absurd a
  fine_targets (t ∷ ts) (x ∷ xs) [] a = absurd a
  fine_targets (t ∷ ts) (x ∷ xs) (k ∷ ks) a =
      let others = fine_targets ts xs ks a.1 in
      record {
        unbroken = both_empty (target_faults means t) (flat_map (target_faults means) ts) a.0.unbroken others.unbroken;
        numbers = λ d p. rw (a.0.numbers d p, others.numbers d p) refl;
        have_kinds = rw (← a.0.has_kind, ← others.have_kinds) refl;
      }

  set_unbroken : (at : ℕ) (ts : List WrittenTarget) (es : List WrittenExpression) → length ts ≡ length es → length ts ≤ TARGETS_MAX → flat_map (target_faults means) ts ≡ [] → values_faults means (map (target_kind means) ts) es ≡ []
      → change_faults means (written.Set at ts es) ≡ []
  set_unbroken at ts es same some targets values =
      let counted : value_count (length ts) (length es) at ≡ [] = (same_count (length ts) (length es) at).1 same in
      let short : too_many TARGETS_MAX (map (λ (t : WrittenTarget). t.at) ts) ≡ [] = (few TARGETS_MAX (map (λ (t : WrittenTarget). t.at) ts)).1 (subst (λ n. n ≤ TARGETS_MAX) (sym (length-map ts (λ (t : WrittenTarget). t.at))) some) in
      both_empty (value_count (length ts) (length es) at ++ too_many TARGETS_MAX (map (λ (t : WrittenTarget). t.at) ts) ++ flat_map (target_faults means) ts) (values_faults means (map (target_kind means) ts) es)
      (both_empty (value_count (length ts) (length es) at ++ too_many TARGETS_MAX (map (λ (t : WrittenTarget). t.at) ts)) (flat_map (target_faults means) ts)
      (both_empty (value_count (length ts) (length es) at) (too_many TARGETS_MAX (map (λ (t : WrittenTarget). t.at) ts)) counted short) targets) values

  -- no more targets than the version of the text allows
  targets_within : (is_two : Bool) (n : ℕ) → n ≤ cond is_two TARGETS_MAX TARGETS_MAX_VERSION_1 → n ≤ TARGETS_MAX
  targets_within true n h = h
  targets_within false n h = omega arith

  targets_later : (is_two : Bool) (ts : List WrittenTarget) → length ts ≤ cond is_two TARGETS_MAX TARGETS_MAX_VERSION_1 → cond is_two [] (too_many TARGETS_MAX_VERSION_1 (map (λ (t : WrittenTarget). t.at) ts)) ≡ []
  targets_later true ts h = refl
  targets_later false ts h = (few TARGETS_MAX_VERSION_1 (map (λ (t : WrittenTarget). t.at) ts)).1 (subst (λ n. n ≤ TARGETS_MAX_VERSION_1) (sym (length-map ts (λ (t : WrittenTarget). t.at))) h)

  pub set_read : (is_two : Bool) (at b s : ℕ) (before c1 c2 c3 c4 after : List Lexeme) (xs : List graph.Location) (ys : List graph.Expression) (ks : List (Option Kind))
      → language_reader (reserved words.Set) before ≡ took at c1 → ReadRow (separated target_format) (IsTarget means) c1 c2 xs ks → language_reader (mark symbols.Becomes) c2 ≡ took b c3
      → ReadSure (separated expression_format) means (fitting_faults means ks) (λ d. each_numbered (numbering.expression d)) c3 c4 ys → language_reader (mark symbols.Semicolon) c4 ≡ took s after → length ks ≤ cond is_two TARGETS_MAX TARGETS_MAX_VERSION_1
      → ReadSure change_format means (all_change_faults is_two means) numbering.change before after (graph.Set xs ys)
  unfolding change_format
  set_read is_two at b s before c1 c2 c3 c4 after xs ys ks word targets becomes values ends some =
      let t = fine_targets targets.written xs ks targets.all in
      let many : length ks ≡ length targets.written = ap length t.have_kinds ∙ length-map targets.written (target_kind means) in
      let counted : value_count (length ks) (length values.written) 0 ≡ [] = left_empty (value_count (length ks) (length values.written) 0) (values_faults means ks values.written) values.unbroken in
      let fit : values_faults means ks values.written ≡ [] = right_empty (value_count (length ks) (length values.written) 0) (values_faults means ks values.written) values.unbroken in
      let same : length ks ≡ length values.written = (same_count (length ks) (length values.written) 0).0 counted in
      record {
        written = written.Set at targets.written values.written;
        read = rw (stands_first (AWord words.Set) (λ t. t.from) before c1 at word, word, targets.read, becomes, values.read, ends) refl;
        unbroken = both_empty (change_faults means (written.Set at targets.written values.written)) (cond is_two [] (target_faults_version_1 (written.Set at targets.written values.written)))
            (set_unbroken at targets.written values.written (sym many ∙ same) (subst (λ n. n ≤ TARGETS_MAX) many (targets_within is_two (length ks) some)) t.unbroken (rw t.have_kinds at fit))
            (targets_later is_two targets.written (subst (λ n. n ≤ cond is_two TARGETS_MAX TARGETS_MAX_VERSION_1) many some));
        numbers = λ d p. rw (t.numbers d p, values.numbers d p) refl;
      }
