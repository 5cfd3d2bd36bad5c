-- Fingerprints of vertices don't depend on new places of the targets of edges, since each target counts by its number.
use Rattle.std.proofs.Common.{◌≡◌, ℕ, ◌==◌, false, List, [], ◌∷◌, map, refl, ap, ap₂}
use Rattle.model_core.specs.EventGraph.{EventVertex, EventEdge}
use Rattle.model_core.specs.Rules.Drop.{edge_renumbered, vertex_renumbered}
use Rattle.twin_rules.specs.Inner.Fingerprints.{mixed, list_fingerprint, change_fingerprint, edge_fingerprint, vertex_fingerprint, targets_fingerprint}
use Rattle.twin_rules.proofs.StillApart.{NoneLeads}

-- ---- the targets are left out

pub edges-print : (f : ℕ → ℕ) (es : List EventEdge) → map edge_fingerprint (map (edge_renumbered f) es) ≡ map edge_fingerprint es
edges-print f [] = refl
edges-print f (e ∷ es) = ap (λ ps. edge_fingerprint e ∷ ps) (edges-print f es)

-- the print of what a vertex does, by its parts
abbrev pub whole_print : List ℕ → List ℕ → List ℕ → ℕ
whole_print ps cs es = mixed (mixed (list_fingerprint (map (λ p. p) ps)) (list_fingerprint cs)) (list_fingerprint es)

pub print-renumbered : (f : ℕ → ℕ) (v : EventVertex) → vertex_fingerprint (vertex_renumbered f v) ≡ vertex_fingerprint v
print-renumbered f v = ap (whole_print v.parameters (map change_fingerprint v.changes)) (edges-print f v.edges)

-- ---- the targets alone

pub same-numbers : (number other : ℕ → ℕ) → ((v : ℕ) → number v ≡ other v) → (es : List EventEdge) → map (λ (e : EventEdge). number e.target) es ≡ map (λ (e : EventEdge). other e.target) es
same-numbers number other same [] = refl
same-numbers number other same (e ∷ es) = ap₂ (λ n ns. n ∷ ns) (same e.target) (same-numbers number other same es)

pub aims-same : (number other : ℕ → ℕ) → ((v : ℕ) → number v ≡ other v) → (es : List EventEdge) → targets_fingerprint number es ≡ targets_fingerprint other es
aims-same number other same es = ap list_fingerprint (same-numbers number other same es)

moved-numbers : (f number other : ℕ → ℕ) (gone : ℕ) → ((v : ℕ) → (v == gone) ≡ false → other (f v) ≡ number v) → (es : List EventEdge) → NoneLeads gone es → map (λ (e : EventEdge). other e.target) (map (edge_renumbered f) es) ≡ map (λ (e : EventEdge). number e.target) es
moved-numbers f number other gone same [] none = refl
moved-numbers f number other gone same (e ∷ es) none = ap₂ (λ n ns. n ∷ ns) (same e.target none.0) (moved-numbers f number other gone same es none.1)

pub aims-moved : (f number other : ℕ → ℕ) (gone : ℕ) → ((v : ℕ) → (v == gone) ≡ false → other (f v) ≡ number v) → (es : List EventEdge) → NoneLeads gone es → targets_fingerprint other (map (edge_renumbered f) es) ≡ targets_fingerprint number es
aims-moved f number other gone same es none = ap list_fingerprint (moved-numbers f number other gone same es none)
