-- Stores into a state, and those of them that are left where variables go, into what is left of the state.
use Rattle.std.proofs.Common.{◌≡◌, ℕ, zero, suc, ℤ, Bool, true, false, cond, List, [], ◌∷◌, slice_index_or, slice_set, Ok, refl, sym, ◌∙◌, ap, ap₂, subst}
use Rattle.std.specs.List.{AllByRecursion}
use Rattle.model_core.specs.EventGraph.{EventGraph, Variable}
use Rattle.model_core.specs.Run.State.{State, Place, no_variable, variable_at, cells_of, with_cell}
use Rattle.model_core.specs.Run.Value.{OrFault, ◌>>=◌, in_turn}
use Rattle.model_core.specs.Run.Changes.{kept, store}
use Rattle.model_core.specs.Rules.MarkedPlaces.{rank, marked_of, is_marked}
use Rattle.model_core.specs.Rules.Slice.{of_marked_variables}
use Rattle.model_core.proofs.Alongside.{Alongside, both_go, bind-alongside, bind-alongside-same}
use Rattle.mark_laws.proofs.Marks.{Marked, marked-placed}

pub marked_of-set : {A : Type 0} (marks : List Bool) (xs : List A) (k : ℕ) (x : A) → Marked marks k → marked_of marks (slice_set xs k x) ≡ slice_set (marked_of marks xs) (rank marks k) x
marked_of-set [] xs k x marked = cc
marked_of-set (b ∷ bs) [] k x marked = refl
marked_of-set (true ∷ bs) (y ∷ xs) zero x marked = refl
marked_of-set (false ∷ bs) (y ∷ xs) zero x marked = cc
marked_of-set (true ∷ bs) (y ∷ xs) (suc k) x marked = ap (λ ys. y ∷ ys) (marked_of-set bs xs k x marked)
marked_of-set (false ∷ bs) (y ∷ xs) (suc k) x marked = marked_of-set bs xs k x marked

pub marked_of-skip : {A : Type 0} (marks : List Bool) (xs : List A) (k : ℕ) (x : A) → is_marked marks k ≡ false → marked_of marks (slice_set xs k x) ≡ marked_of marks xs
marked_of-skip [] xs k x unmarked = refl
marked_of-skip (b ∷ bs) [] k x unmarked = refl
marked_of-skip (true ∷ bs) (y ∷ xs) zero x unmarked = cc
marked_of-skip (false ∷ bs) (y ∷ xs) zero x unmarked = refl
marked_of-skip (true ∷ bs) (y ∷ xs) (suc k) x unmarked = ap (λ ys. y ∷ ys) (marked_of-skip bs xs k x unmarked)
marked_of-skip (false ∷ bs) (y ∷ xs) (suc k) x unmarked = marked_of-skip bs xs k x unmarked

-- a place at its new number
abbrev pub place_left : List Bool → Place → Place
place_left marks p = record p { variable = rank marks p.variable }

-- the stores into marked variables, which go by their new numbers
abbrev pub stores_left : List Bool → List (Place × ℤ) → List (Place × ℤ)
stores_left marks [] = []
stores_left marks ((p, x) ∷ zs) = cond (is_marked marks p.variable) ((place_left marks p, x) ∷ stores_left marks zs) (stores_left marks zs)

-- the store doesn't fault where its variable goes
abbrev pub Storable : EventGraph → List Bool → Place × ℤ → Type 0
Storable g marks (p, x) = is_marked marks p.variable ≡ false → (y : ℤ) × (kept (variable_at g p.variable) x ≡ Ok y)

-- the one state is what is left of the other
abbrev pub StateLeft : List Bool → State → State → Type 0
StateLeft marks s t = marked_of marks s ≡ t

module _ (g : EventGraph) (marks : List Bool) where
  abbrev h : EventGraph
  h = of_marked_variables g marks

  pub variable-left : (v : ℕ) → Marked marks v → variable_at h (rank marks v) ≡ variable_at g v
  variable-left v marked = marked-placed marks g.variables v no_variable marked

  pub cells-left : (s t : State) → StateLeft marks s t → (v : ℕ) → Marked marks v → cells_of t (rank marks v) ≡ cells_of s v
  cells-left s t left v marked = ap (λ (t : State). slice_index_or t (rank marks v) []) (sym left) ∙ marked-placed marks s v [] marked

  pub store-left : (p : Place) (x : ℤ) → Marked marks p.variable → (s t : State) → StateLeft marks s t → Alongside (StateLeft marks) (store g (p, x) s) (store h (place_left marks p, x) t)
  store-left p x marked s t left =
      subst (λ (v : Variable). Alongside (StateLeft marks) (store g (p, x) s) (kept v x >>= λ y. Ok (with_cell t (place_left marks p) y))) (sym (variable-left p.variable marked))
      (bind-alongside-same (StateLeft marks) (kept (variable_at g p.variable) x) _ _ (λ y is.
      both_go (marked_of-set marks s p.variable (slice_set (cells_of s p.variable) p.index y) marked ∙ ap₂ (λ (t : State) (c : List ℤ). slice_set t (rank marks p.variable) (slice_set c p.index y)) left (sym (cells-left s t left p.variable marked)))))

  pub stores-left : (zs : List (Place × ℤ)) → AllByRecursion (Storable g marks) zs → (s t : State) → StateLeft marks s t → Alongside (StateLeft marks) (in_turn (store g) zs s) (in_turn (store h) (stores_left marks zs) t)
  stores-left [] storable s t left = both_go left
  stores-left ((p, x) ∷ zs) (now, storable) s t left = one (is_marked marks p.variable) refl (stores-left zs storable) where
    one : (b : Bool) → is_marked marks p.variable ≡ b → ((s t : State) → StateLeft marks s t → Alongside (StateLeft marks) (in_turn (store g) zs s) (in_turn (store h) (stores_left marks zs) t)) → Alongside (StateLeft marks) (in_turn (store g) ((p, x) ∷ zs) s) (in_turn (store h) (cond b ((place_left marks p, x) ∷ stores_left marks zs) (stores_left marks zs)) t)
    one true marked later = bind-alongside (StateLeft marks) (StateLeft marks) (store-left p x marked s t left) _ _ later
    one false unmarked later =
        let (y, is) = now unmarked in
        subst (λ (r : OrFault ℤ). Alongside (StateLeft marks) ((r >>= λ y. Ok (with_cell s p y)) >>= in_turn (store g) zs) (in_turn (store h) (stores_left marks zs) t)) (sym is)
        (later (with_cell s p y) t (marked_of-skip marks s p.variable _ unmarked ∙ left))
