-- What is known of the lines of what vertices do where one of them is gone.
use Rattle.std.proofs.Common.{◌≡◌, ℕ, zero, suc, List, [], ◌∷◌, length, get_or, slice_index_or, Option, None, refl, sym, subst, arith}
use Rattle.std.specs.List.{remove}
use Rattle.model_core.specs.EventGraph.{EventGraph, EventVertex}
use Rattle.model_core.specs.Run.Step.{no_vertex, vertex_at}
use Rattle.vertex_laws.specs.BodyLines.{body_lines}
use Rattle.model_facts.specs.KnownLengths.{LengthIsRight, BodiesAreRight}
use Rattle.model_facts.specs.FactsAfterDrop.{bodies_after_drop}

-- ---- places of lists that lose one

each-without : {A : Type 0} (P : A → Type 0) (xs : List A) (x : A) → ((k : ℕ) → P (slice_index_or xs k x)) → (gone k : ℕ) → P (slice_index_or (remove xs gone) k x)
each-without P [] x all zero k = all k
each-without P [] x all (suc gone) k = all k
each-without P (v ∷ xs) x all zero k = all (suc k)
each-without P (v ∷ xs) x all (suc gone) zero = all 0
each-without P (v ∷ xs) x all (suc gone) (suc k) = each-without P xs x (λ k. all (suc k)) gone k

-- what two lists have at the same places stays together where both lose a place
both-without : {A B : Type 0} (P : A → B → Type 0) (xs : List A) (ys : List B) (x : A) (y : B) → ((k : ℕ) → P (slice_index_or xs k x) (slice_index_or ys k y))
    → (gone k : ℕ) → P (slice_index_or (remove xs gone) k x) (slice_index_or (remove ys gone) k y)
both-without P [] ys x y all zero k = each-without (P x) ys y all zero k
both-without P [] ys x y all (suc gone) k = each-without (P x) ys y all (suc gone) k
both-without P (v ∷ xs) [] x y all zero k = all (suc k)
both-without P (v ∷ xs) [] x y all (suc gone) k = each-without (λ a. P a y) (v ∷ xs) x all (suc gone) k
both-without P (v ∷ xs) (w ∷ ys) x y all zero k = all (suc k)
both-without P (v ∷ xs) (w ∷ ys) x y all (suc gone) zero = all 0
both-without P (v ∷ xs) (w ∷ ys) x y all (suc gone) (suc k) = both-without P xs ys x y (λ k. all (suc k)) gone k

-- ---- numbers of bytes

pub bodies-left : (g h : EventGraph) (gone : ℕ) (bodies : List (Option ℕ)) → ((k : ℕ) → body_lines h (vertex_at h k) ≡ body_lines g (slice_index_or (remove g.vertices gone) k no_vertex))
    → BodiesAreRight g bodies → BodiesAreRight h (remove bodies gone)
bodies-left g h gone bodies same are k =
    subst (LengthIsRight (slice_index_or (remove bodies gone) k None)) (sym (same k))
    (both-without (λ (n : Option ℕ) (v : EventVertex). LengthIsRight n (body_lines g v)) bodies g.vertices None no_vertex are gone k)

-- the only one of a list
pub only : (ks : List ℕ) → length ks ≡ 1 → ks ≡ get_or ks 0 0 ∷ []
only [] one = absurd (omega (arith, one))
only (k ∷ []) one = refl
only (k ∷ j ∷ ks) one = absurd (omega (arith, one))

-- none is known where more or fewer than one go
pub none-without : (bodies : List (Option ℕ)) (ks : List ℕ) → (length ks ≡ 1 → ⊥) → bodies_after_drop bodies ks ≡ []
none-without bodies [] one = refl
none-without bodies (k ∷ []) one = absurd (one refl)
none-without bodies (k ∷ j ∷ ks) one = refl
