-- An edge without faults, from its parts.
use Rattle.std.proofs.Common.{◌≡◌, ℕ, pos, Bool, true, false, cond, List, [], ◌++◌, length, Option, Some, None, refl, ap, ◌∙◌}
use Rattle.std.specs.Option.{option_map}
use Rattle.std.specs.Prelude.{nat_eq, not}
use Rattle.model_core.specs.declared.model.Kind.{Kind}
use Rattle.model_core.specs.declared.model.Kind.TheVariants as kinds
use Rattle.model_core.specs.declared.token.Word.TheVariants as words
use Rattle.model_core.specs.declared.token.Symbol.TheVariants as symbols
use Rattle.model_core.specs.declared.static_kind.StaticKind.TheVariants as rules
use Rattle.model_core.specs.EventGraph as graph
use Rattle.model_core.specs.Text.Lexing.{Lexeme}
use Rattle.model_core.specs.Text.Format.{AWord, Yields, reserved, mark, any_name, any_number, ◌<*>◌, ◌<*◌, ◌*>◌, maybe}
use Rattle.model_core.specs.Text.Written as written
use Rattle.model_core.specs.Text.Written.{WrittenExpression, WrittenNumber, WrittenDelay, WrittenEdgeKind}
use Rattle.model_core.specs.Text.Expressions.{LanguageFormat, expression_format}
use Rattle.model_core.specs.Text.Language.{edge_written, values_format, when_format, delay_format, timing_format, schedule_format, urgent_format, edge_format}
use Rattle.model_core.specs.Text.Numbering as numbering
use Rattle.model_core.specs.Text.Numbering.{written_or, declared_place, each_numbered, expression, natural}
use Rattle.model_core.specs.Static.FaultOrder.{fault_where}
use Rattle.model_core.specs.Static.Meanings.{Meaning, AsVertex}
use Rattle.model_core.specs.Static.RuleTable.{value_count, version_needed}
use Rattle.model_core.specs.Static.PartFaults.{if_written, written_items, use_faults, operand_faults, values_faults, count_faults, priority_faults, carried_faults, source_faults, delay_faults, schedule_faults, target_takes, edge_faults}
use Rattle.model_core.specs.Static.VersionFaults.{delay_faults_version_1}
use Rattle.text_laws.specs.FirstTokens.{begins_as}
use Rattle.text_laws.specs.FormatReader.{took}
use Rattle.text_laws.specs.LanguageReader.{language_reader}
use Rattle.text_laws.proofs.DelayForms.{drawn_form, fixed_form}
use Rattle.model_core.proofs.EmptyLists.{left_empty, right_empty}
use Rattle.static_laws.proofs.StaticTwins.Twins.{both_empty}
use Rattle.static_laws.specs.Checked.{NumberedAs}
use Rattle.static_laws.proofs.Checks.{two_numbered, four_numbered}
use Rattle.one_pass.specs.Inner.AllFaults.{all_delay_faults, all_edge_faults}
use Rattle.one_pass.specs.Inner.ReadParts.{ReadSure}
use Rattle.one_pass.specs.Inner.ReadCarried.{ReadCarried}
use Rattle.one_pass.specs.Inner.ReadSources.{ReadSource}
use Rattle.one_pass.proofs.AnyOrder.{unless-none}

two-read : {A B W : Type 0} (h : A → B → W) (p1 : LanguageFormat A) (p2 : LanguageFormat B) (t0 t1 t2 : List Lexeme) (a : A) (b : B)
    → language_reader p1 t0 ≡ took a t1 → language_reader p2 t1 ≡ took b t2 → language_reader (Yields h <*> p1 <*> p2) t0 ≡ took (h a b) t2
two-read h p1 p2 t0 t1 t2 a b e1 e2 = rw (e1, e2) refl

four-read : {A B C D W S : Type 0} (h : A → B → C → D → W) (p1 : LanguageFormat A) (p2 : LanguageFormat B) (p3 : LanguageFormat C) (p4 : LanguageFormat D) (p5 : LanguageFormat S) (t0 t1 t2 t3 t4 t5 : List Lexeme) (a : A) (b : B) (c : C) (d : D) (s : S)
    → language_reader p1 t0 ≡ took a t1 → language_reader p2 t1 ≡ took b t2 → language_reader p3 t2 ≡ took c t3 → language_reader p4 t3 ≡ took d t4 → language_reader p5 t4 ≡ took s t5
    → language_reader (Yields h <*> p1 <*> p2 <*> p3 <*> p4 <* p5) t0 ≡ took (h a b c d) t5
four-read h p1 p2 p3 p4 p5 t0 t1 t2 t3 t4 t5 a b c d s e1 e2 e3 e4 e5 = rw (e1, e2, e3, e4, e5) refl

five-read : {A B C D E W S : Type 0} (h : A → B → C → D → E → W) (p1 : LanguageFormat A) (p2 : LanguageFormat B) (p3 : LanguageFormat C) (p4 : LanguageFormat D) (p5 : LanguageFormat E) (p6 : LanguageFormat S) (t0 t1 t2 t3 t4 t5 t6 : List Lexeme) (a : A) (b : B) (c : C) (d : D) (e : E) (s : S)
    → language_reader p1 t0 ≡ took a t1 → language_reader p2 t1 ≡ took b t2 → language_reader p3 t2 ≡ took c t3 → language_reader p4 t3 ≡ took d t4 → language_reader p5 t4 ≡ took e t5 → language_reader p6 t5 ≡ took s t6
    → language_reader (Yields h <*> p1 <*> p2 <*> p3 <*> p4 <*> p5 <* p6) t0 ≡ took (h a b c d e) t6
five-read h p1 p2 p3 p4 p5 p6 t0 t1 t2 t3 t4 t5 t6 a b c d e s e1 e2 e3 e4 e5 e6 = rw (e1, e2, e3, e4, e5, e6) refl

-- no fault at one byte means none at another
elsewhere : (b : Bool) (at : ℕ) → fault_where b rules.ValueCount 0 ≡ [] → fault_where b rules.ValueCount at ≡ []
elsewhere true at e = cc
elsewhere false at e = refl

module _ (means : List ℕ → Option Meaning) (taken : List (List (Option Kind))) where
  edge-unbroken : (before after : List Lexeme) (k : ℕ) (xs : List graph.Expression) (c : ReadCarried means taken before after k xs) (kind : WrittenEdgeKind) (at : ℕ) (condition : Option WrittenExpression)
      → ((wanted given place : ℕ) → count_faults kind wanted given place ≡ value_count wanted given place) → schedule_faults means taken kind ≡ [] → if_written (operand_faults means (Some kinds.Truth)) condition ≡ []
      → edge_faults means taken (edge_written kind at c.name c.given.written condition) ≡ []
  edge-unbroken before after k xs c kind at condition counts timing holds =
      let e = edge_written kind at c.name c.given.written condition in
      let es = written_items c.given.written in
      let count = value_count (length c.kinds) (length es) 0 in
      let fits : value_count (length c.kinds) (length es) c.name.at ≡ [] = elsewhere (not (nat_eq (length c.kinds) (length es))) c.name.at (left_empty count (values_faults means c.kinds es) c.given.unbroken) in
      let values : carried_faults means taken e (Some c.kinds) ≡ [] =
      both_empty (count_faults kind (length c.kinds) (length es) c.name.at) (values_faults means c.kinds es) (rw counts fits) (right_empty count (values_faults means c.kinds es) c.given.unbroken) in
      let carried : carried_faults means taken e (target_takes means taken (means c.name.name)) ≡ [] = rw c.takes values in
      both_empty (use_faults means AsVertex c.name ++ carried_faults means taken e (target_takes means taken (means c.name.name)) ++ schedule_faults means taken kind) (if_written (operand_faults means (Some kinds.Truth)) condition)
      (both_empty (use_faults means AsVertex c.name ++ carried_faults means taken e (target_takes means taken (means c.name.name))) (schedule_faults means taken kind)
      (both_empty (use_faults means AsVertex c.name) (carried_faults means taken e (target_takes means taken (means c.name.name))) c.vertex.unbroken carried) timing) holds

  edge-numbers : (before after : List Lexeme) (k : ℕ) (xs : List graph.Expression) (c : ReadCarried means taken before after k xs) (kind : WrittenEdgeKind) (at : ℕ) (condition : Option WrittenExpression) (f : graph.EdgeKind) (y : graph.Expression)
      → NumberedAs means (λ d. numbering.edge_kind d kind) f → NumberedAs means (λ d. written_or (expression d) (graph.Truth true) condition) y
      → NumberedAs means (λ d. numbering.edge d (edge_written kind at c.name c.given.written condition)) (record { target = k; values = xs; condition = y; kind = f })
  edge-numbers before after k xs c kind at condition f y timing holds =
      four_numbered means (λ (a : ℕ) (b : List graph.Expression) (z : graph.Expression) (g : graph.EdgeKind). record { target = a; values = b; condition = z; kind = g })
      (λ d. declared_place c.name.name d.vertices) (λ d. written_or (each_numbered (expression d)) [] c.given.written) (λ d. written_or (expression d) (graph.Truth true) condition) (λ d. numbering.edge_kind d kind)
      c.vertex.numbers c.given.numbers holds timing

  -- the delay of an edge, and its form in a text that isn't of version 2
  pub fixed_read : (is_two : Bool) (before after : List Lexeme) (x : graph.Expression) → begins_as (AWord words.Draw) before ≡ false → ReadSure expression_format means (operand_faults means (Some kinds.Range)) expression before after x
      → ReadSure delay_format means (all_delay_faults is_two means taken) numbering.delay before after (graph.Fixed x)
  fixed_read is_two before after x other r = record {
    written = written.Fixed r.written;
    read = fixed_form before other ∙ rw r.read refl;
    unbroken = both_empty (operand_faults means (Some kinds.Range) r.written) (cond is_two [] []) r.unbroken (unless-none is_two);
    numbers = λ d p. ap (option_map graph.Fixed) (r.numbers d p);
  }

  pub drawn_read : (is_two : Bool) → is_two ≡ true → (at : ℕ) (before between after : List Lexeme) (n : ℕ) (y : graph.Choice) → begins_as (AWord words.Draw) before ≡ true → language_reader (reserved words.Draw) before ≡ took at between → ReadSource means between after n y
      → ReadSure delay_format means (all_delay_faults is_two means taken) numbering.delay before after (graph.Drawn n y)
  drawn_read is_two two at before between after n y begun word source = record {
    written = written.Drawn at source.written.stream source.written.choice;
    read = drawn_form before begun ∙ rw (word, source.read) refl;
    unbroken = both_empty (source_faults means source.written.stream source.written.choice) (cond is_two [] (version_needed at)) source.source.unbroken (rw two refl);
    numbers = λ d p. rw (source.source.is_stream, source.source.numbers d p) refl;
  }

  -- the faults of a delay, and those of an edge that has it
  record DelayUnbroken (is_two : Bool) (w : Option WrittenDelay) (p : Option WrittenNumber) : Type 0 where
    pub in_any : if_written (delay_faults means taken) w ≡ []
    pub later : cond is_two [] (delay_faults_version_1 (written.Schedule w p)) ≡ []

  delay_unbroken : (is_two : Bool) (w : Option WrittenDelay) (p : Option WrittenNumber) → if_written (all_delay_faults is_two means taken) w ≡ [] → DelayUnbroken is_two w p
  delay_unbroken is_two None p e = record { in_any = refl; later = unless-none is_two }
  delay_unbroken is_two (Some (written.Fixed x)) p e = record { in_any = left_empty (operand_faults means (Some kinds.Range) x) (cond is_two [] []) e; later = unless-none is_two }
  delay_unbroken is_two (Some (written.Drawn at s x)) p e = record {
    in_any = left_empty (source_faults means s x) (cond is_two [] (version_needed at)) e;
    later = right_empty (source_faults means s x) (cond is_two [] (version_needed at)) e;
  }

  pub schedule_read : (is_two : Bool) (at semicolon : ℕ) (t0 t1 t2 t3 t4 t5 t6 : List Lexeme) (k p : ℕ) (xs : List graph.Expression) (x : graph.Delay) (y : graph.Expression)
      → language_reader (reserved words.Schedule) t0 ≡ took at t1
      → ReadCarried means taken t1 t2 k xs
      → ReadSure (maybe (reserved words.After *> delay_format)) means (if_written (all_delay_faults is_two means taken)) (λ d. written_or (numbering.delay d) (graph.Fixed (graph.Number (pos 0)))) t2 t3 x
      → ReadSure (maybe (reserved words.Priority *> any_number)) means (if_written priority_faults) (λ d. written_or natural 5) t3 t4 p
      → ReadSure (maybe when_format) means (if_written (operand_faults means (Some kinds.Truth))) (λ d. written_or (expression d) (graph.Truth true)) t4 t5 y
      → language_reader (mark symbols.Semicolon) t5 ≡ took semicolon t6
      → ReadSure schedule_format means (all_edge_faults is_two means taken) numbering.edge t0 t6 (record { target = k; values = xs; condition = y; kind = graph.Schedule x p })
  unfolding schedule_format timing_format
  schedule_read is_two at semicolon t0 t1 t2 t3 t4 t5 t6 k p xs x y begun c delay priority condition closed =
      let kind = written.Schedule delay.written priority.written in
      let timing = delay_unbroken is_two delay.written priority.written delay.unbroken in
      let e = edge_written kind at c.name c.given.written condition.written in
      record {
        written = e;
        read = five-read (λ at' target values kind' condition'. edge_written kind' at' target values condition') (reserved words.Schedule) any_name (maybe values_format) timing_format (maybe when_format) (mark symbols.Semicolon)
            t0 t1 c.between t2 t4 t5 t6 at c.name c.given.written kind condition.written semicolon begun c.named c.given.read
            (two-read (λ d q. written.Schedule d q) (maybe (reserved words.After *> delay_format)) (maybe (reserved words.Priority *> any_number)) t2 t3 t4 delay.written priority.written delay.read priority.read)
            condition.read closed;
        unbroken = both_empty (edge_faults means taken e) (cond is_two [] (delay_faults_version_1 kind))
            (edge-unbroken t1 t2 k xs c kind at condition.written (λ wanted given place. refl)
            (both_empty (if_written (delay_faults means taken) delay.written) (if_written priority_faults priority.written) timing.in_any priority.unbroken) condition.unbroken)
            timing.later;
        numbers = edge-numbers t1 t2 k xs c kind at condition.written (graph.Schedule x p) y
            (two_numbered means graph.Schedule (λ d. written_or (numbering.delay d) (graph.Fixed (graph.Number (pos 0))) delay.written) (λ d. written_or natural 5 priority.written) delay.numbers priority.numbers) condition.numbers;
      }

  pub urgent_read : (is_two : Bool) (at semicolon : ℕ) (t0 t1 t2 t3 t4 : List Lexeme) (k : ℕ) (xs : List graph.Expression) (y : graph.Expression)
      → language_reader (reserved words.Urgent) t0 ≡ took at t1
      → ReadCarried means taken t1 t2 k xs
      → ReadSure (maybe when_format) means (if_written (operand_faults means (Some kinds.Truth))) (λ d. written_or (expression d) (graph.Truth true)) t2 t3 y
      → language_reader (mark symbols.Semicolon) t3 ≡ took semicolon t4
      → ReadSure urgent_format means (all_edge_faults is_two means taken) numbering.edge t0 t4 (record { target = k; values = xs; condition = y; kind = graph.Urgent })
  unfolding urgent_format
  urgent_read is_two at semicolon t0 t1 t2 t3 t4 k xs y begun c condition closed = record {
    written = edge_written written.Urgent at c.name c.given.written condition.written;
    read = four-read (edge_written written.Urgent) (reserved words.Urgent) any_name (maybe values_format) (maybe when_format) (mark symbols.Semicolon)
        t0 t1 c.between t2 t3 t4 at c.name c.given.written condition.written semicolon begun c.named c.given.read condition.read closed;
    unbroken = both_empty (edge_faults means taken (edge_written written.Urgent at c.name c.given.written condition.written)) (cond is_two [] [])
        (edge-unbroken t1 t2 k xs c written.Urgent at condition.written (λ wanted given place. refl) refl condition.unbroken) (unless-none is_two);
    numbers = edge-numbers t1 t2 k xs c written.Urgent at condition.written graph.Urgent y (λ d p. refl) condition.numbers;
  }

  -- the word with which an edge begins decides its form
  pub first_form : (is_two : Bool) (before after : List Lexeme) (e : graph.EventEdge) → begins_as (AWord words.Schedule) before ≡ true
      → ReadSure schedule_format means (all_edge_faults is_two means taken) numbering.edge before after e → ReadSure edge_format means (all_edge_faults is_two means taken) numbering.edge before after e
  unfolding edge_format schedule_format
  first_form is_two before after e begun r = record { written = r.written; read = rw begun r.read; unbroken = r.unbroken; numbers = r.numbers }

  pub second_form : (is_two : Bool) (before after : List Lexeme) (e : graph.EventEdge) → begins_as (AWord words.Schedule) before ≡ false → begins_as (AWord words.Urgent) before ≡ true
      → ReadSure urgent_format means (all_edge_faults is_two means taken) numbering.edge before after e → ReadSure edge_format means (all_edge_faults is_two means taken) numbering.edge before after e
  unfolding edge_format schedule_format urgent_format
  second_form is_two before after e other begun r = record { written = r.written; read = rw (other, begun) r.read; unbroken = r.unbroken; numbers = r.numbers }
