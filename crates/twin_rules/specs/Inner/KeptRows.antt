-- One vertex beside another one, compared by what is kept of both.
use Rattle.std.specs.Prelude.{◌≡◌, ℕ, Bool, false, not, ◌&&◌, ◌||◌, ◌==◌, List, slice_get}
use Rattle.model_core.specs.EventGraph.{EventGraph}
use Rattle.twin_rules.specs.declared.vertex_fingerprint.VertexFingerprint.{VertexFingerprint}
use Rattle.twin_rules.specs.declared.later_candidates.Row.{Row}
use Rattle.twin_rules.specs.Inner.ComparedPairs.{some_leads}
use Rattle.twin_rules.specs.Inner.MarkedVertices.{has_mark}

-- two vertices of which this is kept may be alike; `leads` says whether the first leads to one of the two
abbrev pub fingerprints_agree : VertexFingerprint → VertexFingerprint → Bool → Bool
fingerprints_agree own other leads = own.doing == other.doing && (own.aims == other.aims || leads) && not own.barred && not other.barred

-- it is the row of the vertex at this place
pub record IsRow (g : EventGraph) (table : List VertexFingerprint) (keep : ℕ) (row : Row) : Type 0 where
  pub print : row.print ≡ slice_get table keep
  pub leads : (v : ℕ) → has_mark row.leads v ≡ false → some_leads g keep v ≡ false
  pub loops : row.loops ≡ false → some_leads g keep keep ≡ false
