-- The text of the uses in a model: a line for each variable.
use Rattle.std.specs.Prelude.{ℕ, Bool, true, false, List, [], ◌∷◌, ◌++◌, length, codes}
use Rattle.std.specs.List.{range_with_len, flat_map}
use Rattle.model_core.specs.EventGraph.{EventGraph}
use Rattle.model_core.specs.Rules.Uses.{VariableUses, uses_of}
use Rattle.model_core.specs.Text.Canonical.{variable_name, vertex_name}

-- the names of vertices with a comma between two, or a dash where there are none
abbrev pub users_text : EventGraph → List ℕ → List ℕ
users_text g [] = codes "-"
users_text g (v ∷ vs) = vertex_name g v ++ flat_map (λ w. codes "," ++ vertex_name g w) vs

abbrev pub yes_or_no : Bool → List ℕ
yes_or_no true = codes "yes"
yes_or_no false = codes "no"

-- the line of the variable at a place, with its uses
abbrev pub uses_line : EventGraph → ℕ → VariableUses → List ℕ
uses_line g v u = variable_name g v ++ codes " readers " ++ users_text g u.readers ++ codes " writers " ++ users_text g u.writers ++ codes " watched " ++ yes_or_no u.watched ++ codes "\n"

-- for each variable, in the order of declaration
abbrev pub uses_text : EventGraph → List ℕ
uses_text g = flat_map (λ v. uses_line g v (uses_of g v)) (range_with_len 0 (length g.variables))
