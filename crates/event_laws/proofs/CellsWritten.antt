-- A state in which one cell is written: that cell, and the others.
use Rattle.std.proofs.Common.{◌≡◌, ℕ, zero, suc, ◌<◌, ◌==◌, ℤ, pos, Bool, true, false, List, [], ◌∷◌, length, slice_index_or, slice_set, replicate, IsTrue, refl, ap, ◌∙◌, subst, arith}
use Rattle.std.proofs.lemmas.Bool.Decides.{nat_tests}
use lib.Pointwise.{pointwise_long}
use Rattle.model_core.specs.EventGraph.{EventGraph, Variable}
use Rattle.model_core.specs.Run.State.{State, Place, variable_at, cell_count, in_ranges, in_range, cells_of, cell_at, with_cell}
use Rattle.run_laws.proofs.InRange.{cells_are_declared}
use Rattle.run_laws.proofs.Spared.SetPlaces.{sets-spared}

set-there : {A : Type 0} (xs : List A) (k : ℕ) (x d : A) → k < length xs → slice_index_or (slice_set xs k x) k d ≡ x
set-there [] k x d below = absurd (omega (arith, below))
set-there (y ∷ xs) zero x d below = refl
set-there (y ∷ xs) (suc k) x d below = set-there xs k x d (omega (arith, below))

set-long : {A : Type 0} (xs : List A) (k : ℕ) (x : A) → length (slice_set xs k x) ≡ length xs
set-long [] k x = refl
set-long (y ∷ xs) zero x = refl
set-long (y ∷ xs) (suc k) x = ap suc (set-long xs k x)

set-elsewhere : {A : Type 0} (xs : List A) (k j : ℕ) (x d : A) → (k == j) ≡ false → slice_index_or (slice_set xs k x) j d ≡ slice_index_or xs j d
set-elsewhere xs k j x d apart = sets-spared ((k, x) ∷ []) xs j d (apart, tt)

pub same_number : (i j : ℕ) → (i == j) ≡ true → i ≡ j
same_number i j e = grind (arith, nat_tests)

pub other_number : (i j : ℕ) → (i ≡ j → ⊥) → (i == j) ≡ false
other_number i j apart = by (i == j) refl where
  by : (b : Bool) → (i == j) ≡ b → b ≡ false
  by true e = absurd (apart (same_number i j e))
  by false e = refl

-- ---- states with a list of cells for each variable

pub record IsLaidOut (g : EventGraph) (s : State) : Type 0 where
  pub there : (i : ℕ) → i < length g.variables → i < length s
  pub cells : (i : ℕ) → i < length g.variables → length (cells_of s i) ≡ cell_count (variable_at g i)

pub in_range-laid_out : (g : EventGraph) (s : State) → IsTrue (in_range g s) → IsLaidOut g s
in_range-laid_out g s inside = record {
  there = λ i below. (let same = pointwise_long (λ (v : Variable) (values : List ℤ). in_ranges (replicate (cell_count v) v) values) g.variables s inside in omega (arith, below, same));
  cells = λ i below. cells_are_declared g s i inside below;
}

module _ (g : EventGraph) (s : State) (laid : IsLaidOut g s) (p : Place) (y : ℤ) (declared : p.variable < length g.variables) where
  -- the cells of a variable that isn't written
  pub other_cells : (i : ℕ) → (p.variable == i) ≡ false → cells_of (with_cell s p y) i ≡ cells_of s i
  other_cells i apart = set-elsewhere s p.variable i (slice_set (cells_of s p.variable) p.index y) [] apart

  own_cells : cells_of (with_cell s p y) p.variable ≡ slice_set (cells_of s p.variable) p.index y
  own_cells = set-there s p.variable (slice_set (cells_of s p.variable) p.index y) [] (laid.there p.variable declared)

  pub other_variable : (i j : ℕ) → (p.variable == i) ≡ false → cell_at (with_cell s p y) (record { variable = i; index = j }) ≡ cell_at s (record { variable = i; index = j })
  other_variable i j apart = ap (λ cells. slice_index_or cells j (pos 0)) (other_cells i apart)

  pub other_index : (j : ℕ) → (p.index == j) ≡ false → cell_at (with_cell s p y) (record { variable = p.variable; index = j }) ≡ cell_at s (record { variable = p.variable; index = j })
  other_index j apart = ap (λ cells. slice_index_or cells j (pos 0)) own_cells ∙ set-elsewhere (cells_of s p.variable) p.index j y (pos 0) apart

  pub written_cell : p.index < cell_count (variable_at g p.variable) → cell_at (with_cell s p y) p ≡ y
  written_cell below =
      ap (λ cells. slice_index_or cells p.index (pos 0)) own_cells
      ∙ set-there (cells_of s p.variable) p.index y (pos 0) (let long = laid.cells p.variable declared in omega (arith, below, long))

  pub still_laid_out : IsLaidOut g (with_cell s p y)
  still_laid_out = record {
    there = λ i below. (let before = laid.there i below in let long = set-long s p.variable (slice_set (cells_of s p.variable) p.index y) in omega (arith, before, long));
    cells = λ i below. by (p.variable == i) refl below;
  } where
    by : {i : ℕ} (b : Bool) → (p.variable == i) ≡ b → i < length g.variables → length (cells_of (with_cell s p y) i) ≡ cell_count (variable_at g i)
    by {i} true e below =
        let same = same_number p.variable i e in
        subst (λ k. length (cells_of (with_cell s p y) k) ≡ cell_count (variable_at g k)) same (ap length own_cells ∙ set-long (cells_of s p.variable) p.index y ∙ laid.cells p.variable declared)
    by {i} false e below = ap length (other_cells i e) ∙ laid.cells i below
