-- All faults of a part: those that any text has, and after them those that only a text of version 2 may have.
use Rattle.std.specs.Prelude.{ℕ, Bool, cond, List, [], ◌++◌, map, Option, Some, None}
use Rattle.std.specs.List.{flat_map}
use Rattle.sig_base.specs.declared.limits.TheConstants.{PARAMETERS_MAX_VERSION_1}
use Rattle.model_core.specs.declared.model.Kind.{Kind}
use Rattle.model_core.specs.Text.Written as written
use Rattle.model_core.specs.Text.Written.{WrittenName, WrittenChange, WrittenDelay, WrittenEdge, WrittenVertex, WrittenModel}
use Rattle.model_core.specs.Static.FaultOrder.{StaticFault}
use Rattle.model_core.specs.Static.Meanings.{Meaning}
use Rattle.model_core.specs.Static.RuleTable.{name_too_long, too_many}
use Rattle.model_core.specs.Static.PartFaults.{if_written, written_items, change_faults, delay_faults, edge_faults, parameters_faults, vertex_faults, variable_faults, table_faults}
use Rattle.model_core.specs.Static.VersionFaults.{is_version_two, number_faults, size_faults_version_1, target_faults_version_1, delay_faults_version_1, vertex_faults_version_1, cells_faults}
use Rattle.model_core.specs.Static.ModelFaults.{model_meaning, model_takes, watch_faults}
use Rattle.static_laws.specs.DeclaredFaults.{faults_of_declared}

-- what a list of names breaks as the parameters of a vertex of version 1
abbrev pub parameter_faults_version_1 : List WrittenName → List StaticFault
parameter_faults_version_1 names = too_many PARAMETERS_MAX_VERSION_1 (map (λ (n : WrittenName). n.at) names)

-- in a text that is of version 2 or isn't, where names mean this
module _ (is_two : Bool) (means : List ℕ → Option Meaning) where
  abbrev pub all_change_faults : WrittenChange → List StaticFault
  all_change_faults c = change_faults means c ++ cond is_two [] (target_faults_version_1 c)

  -- what comes before the changes of a vertex
  abbrev pub all_beginning_faults : WrittenVertex → List StaticFault
  all_beginning_faults v =
      name_too_long v.name
      ++ parameters_faults means [] (written_items v.parameters)
      ++ cond is_two [] (parameter_faults_version_1 (written_items v.parameters))

  -- the vertices take parameters of these kinds
  module _ (taken : List (List (Option Kind))) where
    abbrev pub all_delay_faults : WrittenDelay → List StaticFault
    all_delay_faults w = delay_faults means taken w ++ cond is_two [] (delay_faults_version_1 (written.Schedule (Some w) None))

    abbrev pub all_edge_faults : WrittenEdge → List StaticFault
    all_edge_faults e = edge_faults means taken e ++ cond is_two [] (delay_faults_version_1 e.kind)

    abbrev pub all_vertex_faults : WrittenVertex → List StaticFault
    all_vertex_faults v = vertex_faults means taken v ++ cond is_two [] (vertex_faults_version_1 v)

-- what the version of a model breaks by itself, and in its variables
abbrev pub declared_version_faults : WrittenModel → List StaticFault
declared_version_faults m = if_written number_faults m.version ++ cond (is_version_two m.version) (cells_faults 0 m.variables) (flat_map size_faults_version_1 m.variables)

-- the other faults of a model, but for the length of its text, in the order in which they are found
abbrev pub faults_in_order : WrittenModel → List StaticFault
faults_in_order m =
    faults_of_declared m
    ++ flat_map variable_faults m.variables
    ++ flat_map table_faults m.tables
    ++ watch_faults m (written_items m.watch)
    ++ flat_map (all_vertex_faults (is_version_two m.version) (model_meaning m) (model_takes m)) m.vertices
