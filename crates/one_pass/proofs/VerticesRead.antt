-- A vertex that was read, from the parts of it that were read, and the vertices of a model.
use Rattle.std.proofs.Common.{◌≡◌, ℕ, ◌≤◌, Bool, true, cond, List, [], ◌++◌, length, map, Option, refl, ap, ◌∙◌, subst, sym}
use Rattle.std.specs.List.{flat_map}
use Rattle.std.proofs.lemmas.List.{length-map, append-nil}
use Rattle.sig_base.specs.declared.limits.TheConstants.{CHANGES_MAX, EDGES_MAX}
use Rattle.model_core.specs.declared.model.Kind.{Kind}
use Rattle.model_core.specs.EventGraph as graph
use Rattle.model_core.specs.Text.Lexing.{Lexeme}
use Rattle.model_core.specs.Text.Written.{WrittenEdge, WrittenVertex}
use Rattle.model_core.specs.Text.Language.{vertex_format}
use Rattle.model_core.specs.Text.Numbering as numbering
use Rattle.model_core.specs.Text.Numbering.{each_numbered, written_or}
use Rattle.model_core.specs.Static.FaultOrder.{StaticFault, earliest_fault}
use Rattle.model_core.specs.Static.Meanings.{Meaning}
use Rattle.model_core.specs.Static.RuleTable.{name_too_long, too_many}
use Rattle.model_core.specs.Static.PartFaults.{written_items, change_place, change_faults, edge_faults, parameters_faults, vertex_faults}
use Rattle.model_core.specs.Static.VersionFaults.{target_faults_version_1, delay_faults_version_1, vertex_faults_version_1}
use Rattle.text_laws.specs.FirstTokens.{first_sorts, begins_among}
use Rattle.text_laws.specs.FormatReader.{took}
use Rattle.text_laws.specs.LanguageReader.{level_lookahead, language_reader}
use Rattle.text_laws.specs.SomeTokens.{vertex-some}
use Rattle.model_read.specs.Beginnings.{with_body, vertex_beginning}
use Rattle.static_laws.specs.Checked.{CheckedPart}
use Rattle.static_laws.proofs.Checks.{both, made, three_numbered}
use Rattle.static_laws.proofs.LeftOut.{each_numbered-items}
use Rattle.static_laws.proofs.StaticTwins.RowTwins.{few}
use Rattle.one_pass.specs.Inner.AllFaults.{parameter_faults_version_1, all_beginning_faults, all_change_faults, all_edge_faults, all_vertex_faults}
use Rattle.one_pass.specs.Inner.ReadParts.{ReadParts, ReadBody, ReadVertex, ReadVertices, BeginAlike, AllBeginAlike}
use Rattle.one_pass.proofs.AnyOrder.{SameFirst, same_first-both, same_first-exchanged, checked_as, unless-append, each_then_others}
use Rattle.one_pass.proofs.WholeReads.{vertex-read, some-read}

-- a list within its limit has no fault
none_too_many : {W B : Type 0} (limit : ℕ) (at : W → ℕ) (ws : List W) (xs : List B) → length ws ≡ length xs → length xs ≤ limit → too_many limit (map at ws) ≡ []
none_too_many limit at ws xs counted within = (few limit (map at ws)).1 (subst (λ n. n ≤ limit) (sym (length-map ws at ∙ counted)) within)

module _ (is_two : Bool) (means : List ℕ → Option Meaning) (taken : List (List (Option Kind))) where
  -- the faults of a vertex in the order in which they are found
  abbrev found_in : WrittenVertex → List StaticFault
  found_in v = (all_beginning_faults is_two means v ++ flat_map (all_change_faults is_two means) v.changes) ++ flat_map (all_edge_faults is_two means taken) v.edges

  found-same : (v : WrittenVertex) → too_many CHANGES_MAX (map change_place v.changes) ≡ [] → too_many EDGES_MAX (map (λ (e : WrittenEdge). e.at) v.edges) ≡ [] → SameFirst (found_in v) (all_vertex_faults is_two means taken v)
  found-same v changes_within edges_within = λ t.
      let beginning = name_too_long v.name ++ parameters_faults means [] (written_items v.parameters) in
      let parameters = parameter_faults_version_1 (written_items v.parameters) in
      let changes = flat_map (change_faults means) v.changes in
      let targets = flat_map target_faults_version_1 v.changes in
      let edges = flat_map (edge_faults means taken) v.edges in
      let delays = flat_map (λ (e : WrittenEdge). delay_faults_version_1 e.kind) v.edges in
      let in_changes : SameFirst (flat_map (all_change_faults is_two means) v.changes) (changes ++ cond is_two [] targets) = each_then_others is_two (change_faults means) target_faults_version_1 v.changes in
      let in_edges : SameFirst (flat_map (all_edge_faults is_two means taken) v.edges) (edges ++ cond is_two [] delays) = each_then_others is_two (edge_faults means taken) (λ (e : WrittenEdge). delay_faults_version_1 e.kind) v.edges in
      let begun = all_beginning_faults is_two means v in
      let later = cond is_two [] parameters ++ cond is_two [] targets in
      let any : (beginning ++ changes) ++ edges ≡ vertex_faults means taken v = rw (changes_within, edges_within, append-nil, append-nil) refl in
      let others : later ++ cond is_two [] delays ≡ cond is_two [] (vertex_faults_version_1 v) = ap (λ fs. fs ++ cond is_two [] delays) (unless-append is_two parameters targets) ∙ unless-append is_two (parameters ++ targets) delays in
      same_first-both (begun ++ flat_map (all_change_faults is_two means) v.changes) ((beginning ++ changes) ++ later) (flat_map (all_edge_faults is_two means taken) v.edges) (edges ++ cond is_two [] delays)
      (λ u. same_first-both begun begun (flat_map (all_change_faults is_two means) v.changes) (changes ++ cond is_two [] targets) (λ w. refl) in_changes u ∙ same_first-exchanged beginning (cond is_two [] parameters) changes (cond is_two [] targets) u)
      in_edges t
      ∙ same_first-exchanged (beginning ++ changes) later edges (cond is_two [] delays) t
      ∙ ap (λ fs. earliest_fault t (fs ++ (later ++ cond is_two [] delays))) any
      ∙ ap (λ fs. earliest_fault t (vertex_faults means taken v ++ fs)) others

  pub vertex_taken : (v expected : WrittenVertex) (before between after : List Lexeme) (t0 t1 t2 : Option StaticFault) (ps : List ℕ) (xs : List graph.StateChange) (ys : List graph.EventEdge)
      → language_reader vertex_beginning before ≡ took (with_body v) between
      → BeginAlike v expected
      → CheckedPart means t0 t1 (all_beginning_faults is_two means v) (λ d. each_numbered (numbering.numbered_parameter d) (written_items v.parameters)) ps
      → ReadBody is_two means taken t1 t2 between after xs ys
      → ReadVertex is_two means taken expected t0 t2 before after (record { name = v.name.name; parameters = ps; changes = xs; edges = ys })
  vertex_taken v expected before between after t0 t1 t2 ps xs ys begun alike beginning body =
      let changes = body.changes in
      let edges = body.edges in
      let whole = with_body v changes.written edges.written in
      let checked : CheckedPart means t0 t2 (found_in whole) (λ d. numbering.vertex d whole) (record { name = v.name.name; parameters = ps; changes = xs; edges = ys })
      = made (λ h. three_numbered means (λ a b c. record { name = v.name.name; parameters = a; changes = b; edges = c })
      (λ d. written_or (each_numbered (numbering.numbered_parameter d)) [] v.parameters) (λ d. each_numbered (numbering.change d) changes.written) (λ d. each_numbered (numbering.edge d) edges.written)
      (λ d p. rw (← each_numbered-items (numbering.numbered_parameter d) v.parameters) (h.0.0 d p)) h.0.1 h.1)
      (both (both beginning changes.checked) edges.checked) in
      let same = found-same whole (none_too_many CHANGES_MAX change_place changes.written xs changes.counted body.changes_within) (none_too_many EDGES_MAX (λ (e : WrittenEdge). e.at) edges.written ys edges.counted body.edges_within) in
      record {
        part = record {
          written = whole;
          read = vertex-read v changes.written edges.written body.end_at before between body.between body.last after begun changes.read edges.read body.closed;
          checked = checked_as t0 t2 (found_in whole) (all_vertex_faults is_two means taken whole) same checked;
        };
        alike = record { at = alike.at; name = alike.name; parameters = alike.parameters };
      }

  -- vertices, one or more
  pub vertices_taken : (expected : List WrittenVertex) (t0 t1 : Option StaticFault) (before after : List Lexeme) (vs : List graph.EventVertex) → begins_among (first_sorts level_lookahead vertex_format) before ≡ true
      → (r : ReadParts vertex_format means (all_vertex_faults is_two means taken) numbering.vertex t0 t1 before after vs) → AllBeginAlike r.written expected → ReadVertices is_two means taken expected t0 t1 before after vs
  vertices_taken expected t0 t1 before after vs begun r alike = record {
    parts = record { written = r.written; read = some-read vertex_format vertex-some before begun ∙ r.read; checked = r.checked };
    alike = alike;
  }
