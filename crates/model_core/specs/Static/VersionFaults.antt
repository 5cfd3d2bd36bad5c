-- The static rules that depend on the version of a text. One of version 2 keeps the limit on the cells of all arrays together;
-- any other keeps the limits of version 1 beside those that every text keeps, and draws no delay.
use Rattle.std.specs.Prelude.{ℕ, ◌+◌, pos, Bool, true, false, cond, nat_le, nat_lt, List, [], ◌∷◌, ◌++◌, map, Option, Some}
use Rattle.std.specs.List.{flat_map}
use Rattle.std.specs.Option.{option_map_or}
use Rattle.sig_base.specs.declared.limits.TheConstants.{ARRAY_CELLS_MAX, ARRAY_CELLS_MAX_VERSION_1, CELLS_MAX, PARAMETERS_MAX_VERSION_1, TARGETS_MAX_VERSION_1}
use Rattle.model_core.specs.declared.static_kind.StaticKind.TheVariants as rules
use Rattle.model_core.specs.Text.Numbering.{natural, written_or}
use Rattle.model_core.specs.Text.Written as written
use Rattle.model_core.specs.Text.Written.{WrittenName, WrittenNumber, WrittenVariable, WrittenTarget, WrittenChange, WrittenEdgeKind, WrittenEdge, WrittenVertex, WrittenModel}
use Rattle.model_core.specs.Static.FaultOrder.{StaticFault, fault_where}
use Rattle.model_core.specs.Static.RuleTable.{is_between, certain_value, number_too_large, size_outside, version_unknown, version_needed, too_many}
use Rattle.model_core.specs.Static.PartFaults.{if_written, written_items}

-- a text is of version 2 where it says so
abbrev pub is_version_two : Option WrittenNumber → Bool
is_version_two version = option_map_or (λ n. is_between (pos 2) (pos 2) (certain_value n)) version false

-- what the number of a version breaks: it is too large for a number, or no version that there is
abbrev pub number_faults : WrittenNumber → List StaticFault
number_faults n = number_too_large n ++ version_unknown n

-- ---- version 1

abbrev pub size_faults_version_1 : WrittenVariable → List StaticFault
size_faults_version_1 v = if_written (size_outside ARRAY_CELLS_MAX_VERSION_1) v.size

abbrev pub target_faults_version_1 : WrittenChange → List StaticFault
target_faults_version_1 (written.Set at targets values) = too_many TARGETS_MAX_VERSION_1 (map (λ (t : WrittenTarget). t.at) targets)
target_faults_version_1 (written.Draw at target stream choice) = []

-- no edge draws its delay
abbrev pub delay_faults_version_1 : WrittenEdgeKind → List StaticFault
delay_faults_version_1 (written.Schedule (Some (written.Drawn at stream choice)) priority) = version_needed at
delay_faults_version_1 kind = []

abbrev pub vertex_faults_version_1 : WrittenVertex → List StaticFault
vertex_faults_version_1 v =
    too_many PARAMETERS_MAX_VERSION_1 (map (λ (n : WrittenName). n.at) (written_items v.parameters))
    ++ flat_map target_faults_version_1 v.changes
    ++ flat_map (λ (e : WrittenEdge). delay_faults_version_1 e.kind) v.edges

abbrev pub faults_version_1 : WrittenModel → List StaticFault
faults_version_1 m = flat_map size_faults_version_1 m.variables ++ flat_map vertex_faults_version_1 m.vertices

-- ---- version 2

-- the cells that count among those of all arrays: those of an array that is within the limit on one
abbrev pub counted_cells : WrittenVariable → ℕ
counted_cells v = option_map_or (λ n. cond (nat_le n ARRAY_CELLS_MAX) n 0) (written_or natural 0 v.size) 0

-- the first array that passes the limit on the cells of all together, where so many cells come before these
abbrev pub cells_faults : ℕ → List WrittenVariable → List StaticFault
cells_faults before [] = []
cells_faults before (v ∷ vs) = cond (nat_lt CELLS_MAX (before + counted_cells v)) (fault_where true rules.TooMany v.at) (cells_faults (before + counted_cells v) vs)

-- ---- the whole

abbrev pub version_faults : WrittenModel → List StaticFault
version_faults m = if_written number_faults m.version ++ cond (is_version_two m.version) (cells_faults 0 m.variables) (faults_version_1 m)
