-- The cells of a state in range.
use Rattle.std.proofs.Common.{◌≡◌, ℕ, ◌<◌, ℤ, pos, negsuc, nat_lt, Bool, true, false, cond, length, Ok, refl, arith, IsTrue}
use Rattle.std.proofs.lemmas.Bool.Decides.{nat_tests}
use Rattle.std.proofs.lemmas.List.{length-map}
use Rattle.model_core.specs.declared.model.Model.{Model}
use Rattle.model_core.specs.EventGraph.{EventGraph}
use Rattle.model_core.specs.Run.State.{State, Place, variable_at, cell_count, in_range, cells_of}
use Rattle.model_core.specs.Run.Value.{OrFault, indexed}
use Rattle.model_core.specs.Code.Views.{graph_of, variable_of}
use Rattle.run_laws.proofs.InRange.{cells_are_declared}

-- an index below an array's size
indexed-below : (g : EventGraph) (v i : ℕ) (p : Place) (b : Bool) (none : OrFault Place) → nat_lt i (variable_at g v).size ≡ b → none ≡ indexed g v (negsuc 0)
    → Ok p ≡ cond b (Ok (record { variable = v; index = i })) none → (p.variable ≡ v) × (p.index < cell_count (variable_at g v))
indexed-below g v i p true none t n e =
    let here : Place = record { variable = v; index = i } in
    let same : p ≡ here = cc in
    let below : i < (variable_at g v).size = grind (arith, nat_tests, t) in
    rw same (refl, omega (arith, below))
indexed-below g v i p false none t n e = cc

-- the place of a cell that is indexed is that of a cell
pub indexed_is_declared : (g : EventGraph) (v : ℕ) (i : ℤ) (p : Place) → Ok p ≡ indexed g v i → (p.variable ≡ v) × (p.index < cell_count (variable_at g v))
indexed_is_declared g v (pos i) p e = indexed-below g v i p _ (indexed g v (negsuc 0)) refl refl e
indexed_is_declared g v (negsuc i) p e = cc

-- a declared cell is there
pub declared_is_there : (m : Model) (s : State) (v i : ℕ) → IsTrue (in_range (graph_of m) s) → v < length m.vars → i < cell_count (variable_at (graph_of m) v) → i < length (cells_of s v)
declared_is_there m s v i inside below declared =
    omega (arith, declared, cells_are_declared (graph_of m) s v inside (omega (arith, below, length-map m.vars variable_of)))

pub scalar_is_there : (m : Model) (s : State) (v : ℕ) → IsTrue (in_range (graph_of m) s) → v < length m.vars → 0 < length (cells_of s v)
scalar_is_there m s v inside below = declared_is_there m s v 0 inside below (omega arith)

pub indexed_is_there : (m : Model) (s : State) (v : ℕ) (i : ℤ) (k : ℕ) → IsTrue (in_range (graph_of m) s) → v < length m.vars → (let r : OrFault Place = Ok (record { variable = v; index = k }) in r ≡ indexed (graph_of m) v i) → k < length (cells_of s v)
indexed_is_there m s v i k inside below e = declared_is_there m s v k inside below (indexed_is_declared (graph_of m) v i (record { variable = v; index = k }) e).1
