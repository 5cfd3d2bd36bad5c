-- A model that was read, from what comes before its vertices and from the vertices.
use Rattle.std.proofs.Common.{◌≡◌, ℕ, Bool, true, false, cond, List, [], ◌++◌, map, Option, Some, None, refl, ap, sym, ◌∙◌, append_assoc}
use Rattle.std.specs.List.{flat_map}
use Rattle.std.proofs.lemmas.List.{append-nil}
use Rattle.sig_base.specs.declared.limits.TheConstants.{TEXT_MAX}
use Rattle.model_core.specs.declared.model.Kind.{Kind}
use Rattle.model_core.specs.EventGraph as graph
use Rattle.model_core.specs.EventGraph.{EventGraph}
use Rattle.model_core.specs.Text.Canonical.{canonical}
use Rattle.model_core.specs.Text.Lexing.{Lexeme}
use Rattle.model_core.specs.Text.Written.{WrittenModel}
use Rattle.model_core.specs.Text.Numbering as numbering
use Rattle.model_core.specs.Text.Numbering.{each_numbered, written_or, declared_by, numbered}
use Rattle.model_core.specs.Static.FaultOrder.{StaticFault, earliest_fault}
use Rattle.model_core.specs.Static.Meanings.{Meaning, AsWatched}
use Rattle.model_core.specs.Static.RuleTable.{model_too_long}
use Rattle.model_core.specs.Static.PartFaults.{if_written, vertex_faults, written_items, kinds_taken, use_faults, repeated_names, variable_faults, table_faults}
use Rattle.model_core.specs.Static.VersionFaults.{is_version_two, number_faults, size_faults_version_1, vertex_faults_version_1, cells_faults, version_faults}
use Rattle.model_core.specs.Static.ModelFaults.{model_meaning, model_takes, watch_faults, faults_of_parts}
use Rattle.model_read.specs.Beginnings.{with_vertices}
use Rattle.static_laws.specs.Checked.{Checked, CheckedPart, CheckedPlain}
use Rattle.static_laws.specs.DeclaredFaults.{faults_of_declared}
use Rattle.static_laws.proofs.Checks.{both, made, after_faults}
use Rattle.static_laws.proofs.LeftOut.{each_numbered-items}
use Rattle.static_laws.proofs.NamedPlaces.{placed_as}
use Rattle.static_laws.proofs.EarliestFaults.{earliest_fault-none}
use Rattle.static_laws.proofs.WholeModel.{first_fault-in_turn, is_accepted}
use Rattle.one_pass.specs.Inner.AllFaults.{all_vertex_faults, declared_version_faults, faults_in_order}
use Rattle.one_pass.specs.Inner.ReadParts.{ReadVertices, ReadVerticesAfter, IsDecided}
use Rattle.one_pass.proofs.Alike.{same-meaning, same-takes, same-faults}
use Rattle.one_pass.proofs.AnyOrder.{SameFirst, same_first-both, same_first-exchanged, checked_as, each_then_others}

-- the model m has vertices of which what each begins with is known
pub model_taken : (m : WrittenModel) (means : List ℕ → Option Meaning) (taken : List (List (Option Kind))) (before after : List Lexeme) (t0 t1 t2 t3 t4 t5 : Option StaticFault)
    (xs : List graph.Variable) (ts : List graph.WeightTable) (ws : List graph.Watched) (vs : List graph.EventVertex)
    → means ≡ model_meaning m → taken ≡ map (kinds_taken means) m.vertices
    → t1 ≡ earliest_fault t0 (faults_of_declared m)
    → CheckedPlain t1 t2 (flat_map variable_faults m.variables) (each_numbered numbering.variable m.variables) xs
    → CheckedPlain t2 t3 (flat_map table_faults m.tables) (each_numbered numbering.table m.tables) ts
    → CheckedPart means t3 t4 (flat_map (use_faults means AsWatched) (written_items m.watch) ++ repeated_names [] (written_items m.watch)) (λ d. each_numbered (numbering.watched d) (written_items m.watch)) ws
    → ReadVertices (is_version_two m.version) means taken m.vertices t4 t5 before after vs
    → ReadVerticesAfter m t0 t5 before after (record { name = m.name.name; variables = xs; tables = ts; watch = ws; vertices = vs })
model_taken m means taken before after t0 t1 t2 t3 t4 t5 xs ts ws vs is takes head variables tables watch vertices = record {
  vertices = vertices.parts.written;
  read = vertices.parts.read;
  checked = λ end_at.
      let written = vertices.parts.written in
      let w = with_vertices m written end_at in
      let same : means ≡ model_meaning w = is ∙ sym (same-meaning m written end_at vertices.alike) in
      let kept : taken ≡ model_takes w = takes ∙ ap (λ k. map (kinds_taken k) m.vertices) is ∙ sym (same-takes m written end_at vertices.alike) in
      let declared : t1 ≡ earliest_fault t0 (faults_of_declared w) = head ∙ ap (earliest_fault t0) (sym (same-faults m written end_at vertices.alike)) in
      let watched : CheckedPart (model_meaning w) t3 t4 (watch_faults w (written_items m.watch)) (λ d. each_numbered (numbering.watched d) (written_items m.watch)) ws = rw same at watch in
      let among : CheckedPart (model_meaning w) t4 t5 (flat_map (all_vertex_faults (is_version_two m.version) (model_meaning w) (model_takes w)) written) (λ d. each_numbered (numbering.vertex d) written) vs = rw (same, kept) at vertices.parts.checked in
      made (λ h.
      let d = declared_by w in
      let names : written_or (each_numbered (numbering.watched d)) [] m.watch ≡ Some ws = sym (each_numbered-items (numbering.watched d) m.watch) ∙ h.0.1 d (placed_as w) in
      rw (h.0.0.0, h.0.0.1, names, h.1 d (placed_as w)) refl)
      (both (both (both (after_faults t0 (faults_of_declared w) declared variables) tables) watched) among);
}

-- ---- the faults that depend on the version

-- where there is no vertex, those of the declarations are all
pub version-declared : (m : WrittenModel) → m.vertices ≡ [] → version_faults m ≡ declared_version_faults m
version-declared m none =
    let sizes = flat_map size_faults_version_1 m.variables in
    ap (λ vs. if_written number_faults m.version ++ cond (is_version_two m.version) (cells_faults 0 m.variables) (sizes ++ flat_map vertex_faults_version_1 vs)) none
    ∙ ap (λ fs. if_written number_faults m.version ++ cond (is_version_two m.version) (cells_faults 0 m.variables) fs) (append-nil sizes)

version-joined : (b : Bool) (number cells sizes others : List StaticFault) → (number ++ cond b cells sizes) ++ cond b [] others ≡ number ++ cond b cells (sizes ++ others)
version-joined true number cells sizes others = append-nil (number ++ cells)
version-joined false number cells sizes others = append_assoc number sizes others

module _ (m : WrittenModel) where
  -- the order in which the reader finds the faults, and that of their definition
  in_any_order : SameFirst (declared_version_faults m ++ faults_in_order m) (faults_of_parts m ++ version_faults m)
  in_any_order = λ t.
      let b = is_version_two m.version in
      let faults = vertex_faults (model_meaning m) (model_takes m) in
      let front = faults_of_declared m ++ flat_map variable_faults m.variables ++ flat_map table_faults m.tables ++ watch_faults m (written_items m.watch) in
      let found = flat_map (all_vertex_faults b (model_meaning m) (model_takes m)) m.vertices in
      let of_vertices = flat_map faults m.vertices in
      let later = flat_map vertex_faults_version_1 m.vertices in
      let declared = declared_version_faults m in
      let joined : declared ++ cond b [] later ≡ version_faults m = version-joined b (if_written number_faults m.version) (cells_faults 0 m.variables) (flat_map size_faults_version_1 m.variables) later in
      same_first-both declared declared (front ++ found) (front ++ (of_vertices ++ cond b [] later)) (λ u. refl)
      (same_first-both front front found (of_vertices ++ cond b [] later) (λ u. refl) (each_then_others b faults vertex_faults_version_1 m.vertices)) t
      ∙ ap (λ fs. earliest_fault t (declared ++ fs)) (sym (append_assoc front of_vertices (cond b [] later)))
      ∙ same_first-exchanged [] declared (front ++ of_vertices) (cond b [] later) t
      ∙ ap (λ fs. earliest_fault t ((front ++ of_vertices) ++ fs)) joined

  first_none : (t1 t2 : Option StaticFault) → ((f : StaticFault) → t1 ≡ Some f → t2 ≡ t1) → t2 ≡ None → t1 ≡ None
  first_none None t2 some nothing = refl
  first_none (Some f) t2 some nothing = let no : Some f ≡ None = sym (some f refl) ∙ nothing in cc

  -- with the fault of the length where there is no other, the first fault is that of the model
  pub model_decided : (g : EventGraph) (t0 t1 t2 : Option StaticFault) → t0 ≡ earliest_fault None (declared_version_faults m) → Checked t0 t1 (faults_in_order m) (numbered m ≡ Some g)
      → (t1 ≡ None → t2 ≡ earliest_fault None (model_too_long TEXT_MAX (canonical g) m.end_at)) → ((f : StaticFault) → t1 ≡ Some f → t2 ≡ t1) → IsDecided m t2 g
  model_decided g t0 t1 t2 version checked none some =
      let all = faults_of_parts m ++ version_faults m in
      let whole : Checked None t1 all (numbered m ≡ Some g) = checked_as None t1 (declared_version_faults m ++ faults_in_order m) all in_any_order (after_faults None (declared_version_faults m) version checked) in
      let is_first = first_fault-in_turn m g t1 t2 whole none some in
      record {
        is_first = is_first;
        accepted = λ nothing. is_accepted m g (λ e. whole.unbroken (earliest_fault-none all (sym whole.earliest ∙ first_none t1 t2 some nothing))) (sym is_first ∙ nothing);
      }
