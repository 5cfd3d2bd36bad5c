-- The text of the conflicts in a model: a line for each pair.
use Rattle.std.specs.Prelude.{ℕ, Bool, cond, List, [], ◌∷◌, ◌++◌, codes}
use Rattle.std.specs.List.{flat_map}
use Rattle.model_core.specs.EventGraph.{EventGraph}
use Rattle.model_core.specs.Text.Canonical.{vertex_name}
use Rattle.model_core.specs.declared.reasons.Reasons.{Reasons}
use Rattle.model_core.specs.declared.reasons.Pair.{Pair}
use Rattle.model_core.specs.Conflicts.ConflictPairs.{conflict_pairs}

-- the name of a reason that holds
abbrev pub reason_if : Bool → List ℕ → List (List ℕ)
reason_if holds name = cond holds (name ∷ []) []

-- with a comma between two
abbrev pub with_commas : List (List ℕ) → List ℕ
with_commas [] = []
with_commas (name ∷ names) = name ++ flat_map (λ n. codes "," ++ n) names

-- the names of the reasons that hold
abbrev pub reasons_text : Reasons → List ℕ
reasons_text r =
    with_commas
    (reason_if r.variables (codes "variables") ++ reason_if r.streams (codes "streams") ++ reason_if r.cancels (codes "cancels"))

-- the names of both vertices, and the reasons
abbrev pub conflict_line : EventGraph → Pair → List ℕ
conflict_line g p = vertex_name g p.a ++ codes " " ++ vertex_name g p.b ++ codes " " ++ reasons_text p.reasons ++ codes "\n"

abbrev pub conflict_text : EventGraph → List ℕ
conflict_text g = flat_map (conflict_line g) (conflict_pairs g)
