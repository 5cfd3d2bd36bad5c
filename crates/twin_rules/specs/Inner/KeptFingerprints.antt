-- What is kept of the vertices while twins are fused.
use Rattle.std.specs.Prelude.{◌≡◌, ℕ, ◌==◌, Bool, false, List, length, Some, None, slice_get}
use Rattle.std.specs.Option.{option_map_or}
use Rattle.sig_base.specs.declared.limits.TheConstants.{VERTICES_MAX}
use Rattle.model_core.specs.EventGraph.{EventGraph}
use Rattle.model_core.specs.Run.Step.{vertex_at}
use Rattle.twin_rules.specs.declared.vertex_fingerprint.VertexFingerprint.{VertexFingerprint}
use Rattle.twin_rules.specs.Inner.ComparedPairs.{has_changed}
use Rattle.twin_rules.specs.Inner.Fingerprints.{half, vertex_fingerprint, targets_fingerprint}
use Rattle.twin_rules.specs.Inner.MarkedVertices.{is_barred}

-- the number of the vertex at this place; all vertices of which nothing is kept have one number
abbrev pub number_in : List VertexFingerprint → ℕ → ℕ
number_in table v = option_map_or (λ (p : VertexFingerprint). p.number) (slice_get table v) VERTICES_MAX

-- the print of the targets of the vertex's edges
abbrev pub targets_fingerprint_at : EventGraph → List VertexFingerprint → ℕ → ℕ
targets_fingerprint_at g table x = half (targets_fingerprint (number_in table) (vertex_at g x).edges)

-- it is what is kept of the vertex at this place, but that its aims may be old
pub record IsFingerprintBut (g : EventGraph) (table : List VertexFingerprint) (aims_hold : Type 0) (x : ℕ) (p : VertexFingerprint) : Type 0 where
  pub doing : p.doing ≡ half (vertex_fingerprint (vertex_at g x))
  pub barred : p.barred ≡ is_barred g x
  pub aims : aims_hold → p.aims ≡ targets_fingerprint_at g table x

-- it is what is kept of each vertex
abbrev pub AreFingerprints : EventGraph → List VertexFingerprint → Type 0
AreFingerprints g table = (x : ℕ) (p : VertexFingerprint) → slice_get table x ≡ Some p → IsFingerprintBut g table (Unit {0}) x p

-- it is, but that the aims of those that have changed may be old
abbrev pub AreFingerprintsBut : EventGraph → List VertexFingerprint → List Bool → Type 0
AreFingerprintsBut g table changed = (x : ℕ) (p : VertexFingerprint) → slice_get table x ≡ Some p → IsFingerprintBut g table (has_changed changed x ≡ false) x p

-- it is, but for all aims
abbrev pub AreFingerprintsOfAll : EventGraph → List VertexFingerprint → Type 0
AreFingerprintsOfAll g table = (x : ℕ) (p : VertexFingerprint) → slice_get table x ≡ Some p → (p.doing ≡ half (vertex_fingerprint (vertex_at g x))) × (p.barred ≡ is_barred g x)

-- the second list has the aims of the vertex at this place anew, and all else of the first
pub record IsRenewed (g : EventGraph) (old now : List VertexFingerprint) (place : ℕ) : Type 0 where
  pub long : length now ≡ length old
  pub others : (x : ℕ) → (x == place) ≡ false → slice_get now x ≡ slice_get old x
  pub here : (p : VertexFingerprint) → slice_get old place ≡ Some p → slice_get now place ≡ Some (record p { aims = targets_fingerprint_at g old place })
  pub beyond : slice_get old place ≡ None → slice_get now place ≡ None
