-- The canonical text of a spellable model spells a written model of that model.
use Rattle.std.proofs.Common.{◌≡◌, ℕ, ◌+◌, List, [], ◌∷◌, ◌++◌, length, map, refl, sym, ap, ◌∙◌, subst, append-nil}
use Rattle.std.proofs.lemmas.List.{append_cancel_right}
use Rattle.std.specs.Prelude.{Option, Some, None, Ok, codes}
use Rattle.std.specs.List.{AllByRecursion}
use Rattle.sig_base.specs.declared.limits.TheConstants.{OPENINGS_MAX}
use Rattle.model_core.specs.declared.token.Word.TheVariants as words
use Rattle.model_core.specs.EventGraph.{Variable, WeightTable, EventVertex, EventGraph}
use Rattle.model_core.specs.Text.Written.{WrittenName, WrittenVariable, WrittenTable, WrittenVertex, WrittenModel}
use Rattle.model_core.specs.Text.Numbering as numbering
use Rattle.model_core.specs.Text.Numbering.{numbered}
use Rattle.model_core.specs.Text.Canonical.{canonical, variable_line, table_line, vertex_lines}
use Rattle.model_core.specs.Text.VersionNeeded.{needs_version_two}
use Rattle.model_core.specs.Text.Spellable.{extent, IsSpellable, ReadsBack, SpellableVariable, SpellableTable, SpellableVertex, BeginsAsWritten}
use Rattle.model_core.specs.Static.WrittenByKind.{IsWrittenByKind, VariablesByKind}
use Rattle.model_core.specs.Text.Language.{VersionLine, text_written, text_format}
use Rattle.model_core.specs.Text.ModelText.{SpellsText}
use Rattle.model_core.specs.Text.Lexing.{Lexeme, tokens_of}
use Rattle.model_core.specs.Text.Openings.{front_to_end, HasFewOpenings}
use Rattle.model_core.specs.Text.DocumentText.{BeginsWithModel}
use Rattle.static_laws.specs.FitsVersion.{FitsVersion}
use Rattle.text_laws.specs.OpeningCount.{deep_from}
use Rattle.text_laws.proofs.Formats.EndWord.{front-is_text}
use Rattle.text_laws.proofs.OpeningLaws.{deep-is_counted, none-is_few}
use Rattle.round_trip.proofs.TokenSteps.{Lexes, Lexes-nil, Lexes-text, tokens_from_Lexes}
use Rattle.round_trip.proofs.Writing.{Writes, Any, Takes, takes, writes-then, writes-made, writes-before, blank_after, feed_after}
use Rattle.round_trip.proofs.OneToken.{a_word, writes-name, semicolon_text}
use Rattle.round_trip.proofs.ExpressionText.{is_word}
use Rattle.round_trip.proofs.ListText.{Pairs, each-is, pairs-into, lines-write, some_lines-write}
use Rattle.round_trip.proofs.ModelNames.{Named, names_of, named-by}
use Rattle.round_trip.proofs.DeclarationText.{IsVariable, variable-writes, IsTable, table-writes, IsWatch, watch-writes}
use Rattle.round_trip.proofs.VersionText.{IsVersion, version-writes, version-fits}
use Rattle.round_trip.proofs.VertexText.{IsVertex, vertex-writes}

-- written names side by side
names-same : {X W : Type 0} (name : X → List ℕ) (called : W → List ℕ) (xs : List X) (ws : List W) → Pairs (λ x w. called w ≡ name x) xs ws → map called ws ≡ map name xs
names-same name called [] [] h = refl
names-same name called [] (w ∷ ws) h = absurd h
names-same name called (x ∷ xs) [] h = absurd h
names-same name called (x ∷ xs) (w ∷ ws) h = λ i. h.0 i ∷ names-same name called xs ws h.1 i

both : {X : Type 0} (P Q : X → Type 0) (xs : List X) → AllByRecursion P xs → AllByRecursion Q xs → AllByRecursion (λ x. P x × Q x) xs
both P Q [] p q = tt
both P Q (x ∷ xs) p q = ((p.0, q.0), both P Q xs p.1 q.1)

each_by_kind : (vs : List Variable) (ws : List WrittenVariable) → Pairs IsVariable vs ws → AllByRecursion IsWrittenByKind ws
each_by_kind vs [] h = tt
each_by_kind [] (w ∷ ws) h = absurd h
each_by_kind (v ∷ vs) (w ∷ ws) h = (h.0.1, each_by_kind vs ws h.1)

module _ (g : EventGraph) (h : IsSpellable g) (back : ReadsBack g) where
  abbrev named : Named g (names_of g)
  named = named-by g h back

  IsModel : WrittenModel → Type 0
  IsModel w = (numbered w ≡ Some g) × VariablesByKind w × FitsVersion w.version g

  model_so : (line : Option VersionLine) → IsVersion (needs_version_two g) line → (at : ℕ) (n : WrittenName) (vs : List WrittenVariable) (ts : List WrittenTable) (o : Option (List WrittenName)) (ws : List WrittenVertex) (end_at : ℕ) → n.name ≡ g.name
      → Pairs IsVariable g.variables vs → Pairs IsTable g.tables ts → IsWatch g (names_of g) named g.watch o → Pairs (IsVertex g (names_of g) named) g.vertices ws
      → IsModel (text_written line at n vs ts o ws end_at)
  unfolding IsModel
  model_so line says at n vs ts o ws end_at called v t watched x =
      let variables : map (λ (w : WrittenVariable). w.name.name) vs ≡ map (λ (y : Variable). y.name) g.variables = names-same (λ (y : Variable). y.name) (λ (w : WrittenVariable). w.name.name) g.variables vs (pairs-into IsVariable _ (λ y w k. k.0) g.variables vs v) in
      let tables : map (λ (w : WrittenTable). w.name.name) ts ≡ map (λ (y : WeightTable). y.name) g.tables = names-same (λ (y : WeightTable). y.name) (λ (w : WrittenTable). w.name.name) g.tables ts (pairs-into IsTable _ (λ y w k. k.0) g.tables ts t) in
      let vertices : map (λ (w : WrittenVertex). w.name.name) ws ≡ map (λ (y : EventVertex). y.name) g.vertices = names-same (λ (y : EventVertex). y.name) (λ (w : WrittenVertex). w.name.name) g.vertices ws (pairs-into (IsVertex g (names_of g) named) _ (λ y w k. k.0) g.vertices ws x) in (
        rw (
          each-is numbering.variable g.variables vs (pairs-into IsVariable _ (λ y w k. k.2) g.variables vs v),
          each-is numbering.table g.tables ts (pairs-into IsTable _ (λ y w k. k.1) g.tables ts t),
          variables,
          tables,
          vertices,
          watched,
          each-is (numbering.vertex (names_of g)) g.vertices ws (pairs-into (IsVertex g (names_of g) named) _ (λ y w k. k.1) g.vertices ws x),
          called,
        ) refl,
        each_by_kind g.variables vs v,
        version-fits g line says,
      )

  text-writes : Writes text_format (canonical g) Any OPENINGS_MAX OPENINGS_MAX IsModel
  unfolding text_format
  text-writes =
      writes-then (writes-then (writes-then (writes-then (writes-then (writes-before (writes-then (writes-then (writes-made text_written
      {J = Takes (λ at. Unit {0}) (Takes (λ n. n.name ≡ g.name) (Takes (Pairs IsVariable g.variables) (Takes (Pairs IsTable g.tables) (Takes (IsWatch g (names_of g) named g.watch) (Takes (Pairs (IsVertex g (names_of g) named) g.vertices) (Takes (λ at. Unit {0}) IsModel))))))}
      (version-writes (needs_version_two g)) (λ line says. takes (λ at u. takes (λ n called. takes (λ vs v. takes (λ ts t. takes (λ o w. takes (λ ws x. takes (λ e u. model_so line says at n vs ts o ws e called v t w x)))))))))
      (λ rest i. tt) (blank_after (λ rest. refl) (a_word 109 (codes "odel") words.Model (is_word refl refl refl) refl)))
      (λ rest i. tt) (writes-name g.name h.name))
      (λ rest i. refl) (feed_after {F = Any} (λ rest. tt) semicolon_text))
      (λ rest i. tt) (lines-write variable_line (λ v. SpellableVariable v × BeginsAsWritten v.kind v.initial) IsVariable variable-writes g.variables (both SpellableVariable (λ v. BeginsAsWritten v.kind v.initial) g.variables h.variables back.begins)))
      (λ rest i. tt) (lines-write table_line SpellableTable IsTable table-writes g.tables h.tables))
      (λ rest i. tt) (watch-writes g (names_of g) named g.watch h.watch))
      (λ rest i. tt) (some_lines-write (vertex_lines g) (SpellableVertex (extent g)) (IsVertex g (names_of g) named) (vertex-writes g (names_of g) named) g.vertices h.has_vertex h.vertices))
      (λ rest i. tt) (feed_after (λ rest. refl) (a_word 101 (codes "nd") words.End (is_word refl refl refl) refl))

  pub canonical-spells : (w : WrittenModel) × SpellsText (canonical g) w × (numbered w ≡ Some g) × VariablesByKind w × FitsVersion w.version g
  unfolding IsModel
  canonical-spells =
      let whole = text-writes.run 0 in
      let tokens = whole.1 ++ [] in (
        whole.0,
        record {
          tokens = tokens;
          cut = tokens_from_Lexes (canonical g) tokens (Lexes-text 0 (canonical g ++ []) (canonical g) tokens (append-nil (canonical g)) (whole.4 [] [] tt (Lexes-nil (0 + length (canonical g)))));
          derived = (whole.3 []).1;
          few_openings = none-is_few OPENINGS_MAX tokens (deep-is_counted OPENINGS_MAX tokens ∙ (whole.3 []).0);
        },
        whole.2.0,
        whole.2.1,
        whole.2.2,
      )

  -- the model's text is at the front of any text whose other tokens are known
  pub canonical-before : (rest : List ℕ) (left : List Lexeme) → Lexes (0 + length (canonical g)) rest left → (w : WrittenModel) × (tokens : List Lexeme) × (tokens_of (canonical g ++ rest) ≡ Ok tokens) × BeginsWithModel tokens w left × (numbered w ≡ Some g) × VariablesByKind w × FitsVersion w.version g
  unfolding IsModel
  canonical-before rest left lexed =
      let whole = text-writes.run 0 in
      let own = whole.1 in
      let derived = (whole.3 left).1 in
      let front : own ≡ front_to_end (own ++ left) = append_cancel_right own (front_to_end (own ++ left)) left (front-is_text (own ++ left) whole.0 left derived).0 in
      let none : deep_from OPENINGS_MAX OPENINGS_MAX own ≡ None = ap (deep_from OPENINGS_MAX OPENINGS_MAX) (sym (append-nil own)) ∙ (whole.3 []).0 in (
        whole.0,
        own ++ left,
        tokens_from_Lexes (canonical g ++ rest) (own ++ left) (whole.4 rest left tt lexed),
        record { derived = derived; few_openings = subst (HasFewOpenings OPENINGS_MAX) front (none-is_few OPENINGS_MAX own (deep-is_counted OPENINGS_MAX own ∙ none)) },
        whole.2.0,
        whole.2.1,
        whole.2.2,
      )
