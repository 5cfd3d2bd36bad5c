-- How many bytes the lines of what each vertex does have stays right where one number is counted or changed.
use Rattle.std.proofs.Common.{◌≡◌, ℕ, zero, suc, ◌==◌, Bool, true, false, List, [], ◌∷◌, slice_index_or, Option, None, refl, sym, ap, subst}
use Rattle.std.proofs.lemmas.Bool.{eqb-true}
use Rattle.model_core.specs.EventGraph.{EventGraph}
use Rattle.model_core.specs.Run.Step.{vertex_at}
use Rattle.model_core.specs.Rules.PlacedEdges.{with_place}
use Rattle.model_core.proofs.PlacesChanged.{placed-elsewhere}
use Rattle.vertex_laws.specs.BodyLines.{body_lines}
use Rattle.model_facts.specs.KnownLengths.{LengthIsRight, BodiesAreRight}
use Rattle.model_facts.specs.FactsAfterEdge.{bytes_left}

-- the numbers of more places are none
pub are-alike : (g : EventGraph) (old new : List (Option ℕ)) → ((k : ℕ) → slice_index_or new k None ≡ slice_index_or old k None) → BodiesAreRight g old → BodiesAreRight g new
are-alike g old new same are k = subst (λ (n : Option ℕ). LengthIsRight n (body_lines g (vertex_at g k))) (sym (same k)) (are k)

-- ---- one number changes

put-there : (n : Option ℕ) (k : ℕ) (bodies : List (Option ℕ)) (lines : List ℕ) → LengthIsRight n lines → LengthIsRight (slice_index_or (with_place (λ m. n) k bodies) k None) lines
put-there n k [] lines right = tt
put-there n zero (b ∷ bodies) lines right = right
put-there n (suc k) (b ∷ bodies) lines right = put-there n k bodies lines right

-- it is right of another graph, in which the other vertices have the lines that they had
pub are-put : (g h : EventGraph) (place : ℕ) (n : Option ℕ) (bodies : List (Option ℕ)) → ((k : ℕ) → (k == place) ≡ false → body_lines h (vertex_at h k) ≡ body_lines g (vertex_at g k))
    → LengthIsRight n (body_lines h (vertex_at h place)) → BodiesAreRight g bodies → BodiesAreRight h (with_place (λ m. n) place bodies)
are-put g h place n bodies same right are k = by (k == place) refl where
  by : (c : Bool) → (k == place) ≡ c → LengthIsRight (slice_index_or (with_place (λ m. n) place bodies) k None) (body_lines h (vertex_at h k))
  by true is =
      subst (λ j. LengthIsRight (slice_index_or (with_place (λ m. n) place bodies) j None) (body_lines h (vertex_at h j))) (sym (eqb-true k place is))
      (put-there n place bodies (body_lines h (vertex_at h place)) right)
  by false apart =
      subst (λ (m : Option ℕ). LengthIsRight m (body_lines h (vertex_at h k))) (sym (placed-elsewhere (λ m. n) place k bodies None apart))
      (subst (LengthIsRight (slice_index_or bodies k None)) (sym (same k apart)) (are k))

-- where a number loses bytes, it loses them in the list
pub lost-there : (gone : ℕ) (bodies : List (Option ℕ)) (vertex : ℕ) (left : Option ℕ) → left ≡ bytes_left (slice_index_or bodies vertex None) gone → with_place (λ bytes. left) vertex bodies ≡ with_place (λ bytes. bytes_left bytes gone) vertex bodies
lost-there gone [] vertex left is = refl
lost-there gone (b ∷ bodies) zero left is = ap (λ n. n ∷ bodies) is
lost-there gone (b ∷ bodies) (suc vertex) left is = ap (λ ns. b ∷ ns) (lost-there gone bodies vertex left is)
