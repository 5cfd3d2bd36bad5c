-- Values beside variables, of which some go: what is evaluated, carried and received of them.
use Rattle.std.proofs.Common.{◌≡◌, ℕ, ℤ, Bool, true, false, cond, List, [], ◌∷◌, map, zip, Ok, refl, sym, ◌∙◌, ap, ap₂, subst}
use Rattle.std.specs.List.{AllByRecursion}
use Rattle.model_core.specs.EventGraph.{EventGraph, Variable, Expression}
use Rattle.model_core.specs.Run.State.{State, Place, variable_at, scalar}
use Rattle.model_core.specs.Run.Value.{OrFault, ◌>>=◌, each, in_turn, value_of}
use Rattle.model_core.specs.Run.Changes.{kept, store}
use Rattle.model_core.specs.Run.Step.{receive}
use Rattle.model_core.specs.Rules.MarkedPlaces.{rank, is_marked}
use Rattle.model_core.specs.Rules.Uses.{variables_in}
use Rattle.model_core.specs.Rules.Slice.{expression_renumbered, items_where_marked, sliced_values, sliced_parameters, of_marked_variables}
use Rattle.model_core.proofs.Alongside.{Alongside, both_go, alongside-equal, bind-alongside, bind-alongside-same, bind-alongside-left}
use Rattle.mark_laws.proofs.Marks.{Marked}
use Rattle.model_core.proofs.EachOne.{every-map}
use Rattle.alike_laws.proofs.RenumberedValues.{HoldsSame, value-renumbered}
use Rattle.var_slicing.proofs.StoresLeft.{place_left, stores_left, Storable, StateLeft, variable-left, cells-left, stores-left}

-- an expression reads marked variables alone
abbrev pub ReadsMarked : List Bool → Expression → Type 0
ReadsMarked marks e = AllByRecursion (Marked marks) (variables_in e)

abbrev pub places_left : List Bool → List Place → List Place
places_left marks [] = []
places_left marks (p ∷ ps) = cond (is_marked marks p.variable) (place_left marks p ∷ places_left marks ps) (places_left marks ps)

pub both_marks : {A : Type 0} (marks : List Bool) (v : ℕ) → Marked marks v → is_marked marks v ≡ false → A
both_marks marks v marked unmarked = absurd (let no : true ≡ false = sym marked ∙ unmarked in let never : ⊥ = cc in never)

scalars-left : (marks : List Bool) (vs : List ℕ) → places_left marks (map scalar vs) ≡ map scalar (sliced_parameters marks vs)
scalars-left marks [] = refl
scalars-left marks (v ∷ vs) = one (is_marked marks v) (scalars-left marks vs) where
  one : (b : Bool) → places_left marks (map scalar vs) ≡ map scalar (sliced_parameters marks vs) → cond b (scalar (rank marks v) ∷ places_left marks (map scalar vs)) (places_left marks (map scalar vs)) ≡ map scalar (cond b (rank marks v ∷ sliced_parameters marks vs) (sliced_parameters marks vs))
  one true e = ap (λ ps. scalar (rank marks v) ∷ ps) e
  one false e = e

variables-scalars : (vs : List ℕ) → map (λ (p : Place). p.variable) (map scalar vs) ≡ vs
variables-scalars [] = refl
variables-scalars (v ∷ vs) = ap (λ vs. v ∷ vs) (variables-scalars vs)

zip-nothing : (ps : List Place) → zip {X = ℤ} ps [] ≡ []
zip-nothing [] = refl
zip-nothing (p ∷ ps) = refl

pub zip-left : (marks : List Bool) (ps : List Place) (xs : List ℤ) → stores_left marks (zip ps xs) ≡ zip (places_left marks ps) (items_where_marked marks (map (λ p. p.variable) ps) xs)
zip-left marks [] xs = refl
zip-left marks (p ∷ ps) [] = sym (zip-nothing (places_left marks (p ∷ ps)))
zip-left marks (p ∷ ps) (x ∷ xs) = one (is_marked marks p.variable) (zip-left marks ps xs) where
  one : (b : Bool) → stores_left marks (zip ps xs) ≡ zip (places_left marks ps) (items_where_marked marks (map (λ p. p.variable) ps) xs) → cond b ((place_left marks p, x) ∷ stores_left marks (zip ps xs)) (stores_left marks (zip ps xs)) ≡ zip (cond b (place_left marks p ∷ places_left marks ps) (places_left marks ps)) (cond b (x ∷ items_where_marked marks (map (λ p. p.variable) ps) xs) (items_where_marked marks (map (λ p. p.variable) ps) xs))
  one true e = ap (λ zs. (place_left marks p, x) ∷ zs) e
  one false e = e

-- where all of the variables are marked, all items beside them stay
pub all-items_where_marked : {A : Type 0} (marks : List Bool) (vs : List ℕ) (xs : List A) → AllByRecursion (Marked marks) vs → items_where_marked marks vs xs ≡ xs
all-items_where_marked marks [] xs all = refl
all-items_where_marked marks (v ∷ vs) [] all = refl
all-items_where_marked marks (v ∷ vs) (x ∷ xs) (now, all) =
    ap (λ b. cond b (x ∷ items_where_marked marks vs xs) (items_where_marked marks vs xs)) now ∙ ap (λ xs. x ∷ xs) (all-items_where_marked marks vs xs all)

-- values that can be stored where their variable goes
abbrev pub CanBeStored : EventGraph → List Bool → List ℕ → List ℤ → Type 0
CanBeStored g marks [] xs = Unit {0}
CanBeStored g marks (v ∷ vs) [] = Unit {0}
CanBeStored g marks (v ∷ vs) (x ∷ xs) = Storable g marks (scalar v, x) × CanBeStored g marks vs xs

pub stored-storable : (g : EventGraph) (marks : List Bool) (ps : List Place) (xs : List ℤ) → CanBeStored g marks (map (λ p. p.variable) ps) xs → AllByRecursion (Storable g marks) (zip ps xs)
stored-storable g marks [] xs fit = tt
stored-storable g marks (p ∷ ps) [] fit = tt
stored-storable g marks (p ∷ ps) (x ∷ xs) (now, fit) = (now, stored-storable g marks ps xs fit)

pub marked-stored : (g : EventGraph) (marks : List Bool) (vs : List ℕ) (xs : List ℤ) → AllByRecursion (Marked marks) vs → CanBeStored g marks vs xs
marked-stored g marks [] xs all = tt
marked-stored g marks (v ∷ vs) [] all = tt
marked-stored g marks (v ∷ vs) (x ∷ xs) (now, all) = ((λ unmarked. both_marks marks v now unmarked), marked-stored g marks vs xs all)

-- an expression has a value that can be stored in this variable
pub record IsStored (g : EventGraph) (s : State) (clk v : ℕ) (e : Expression) : Type 0 where
  pub value : ℤ
  pub valued : value_of g s clk e ≡ Ok value
  pub stored : ℤ
  pub keeps : kept (variable_at g v) value ≡ Ok stored

-- the value for a marked variable reads marked ones alone. The value for another one can be stored
abbrev pub ValuesFit : EventGraph → List Bool → State → ℕ → List ℕ → List Expression → Type 0
ValuesFit g marks s clk [] es = AllByRecursion (ReadsMarked marks) es
ValuesFit g marks s clk (v ∷ vs) [] = Unit {0}
ValuesFit g marks s clk (v ∷ vs) (e ∷ es) = (Marked marks v → ReadsMarked marks e) × (is_marked marks v ≡ false → IsStored g s clk v e) × ValuesFit g marks s clk vs es

-- values beside these variables, and what is left of them
abbrev pub ValuesKept : EventGraph → List Bool → List ℕ → List ℤ → List ℤ → Type 0
ValuesKept g marks vs xs ys = (items_where_marked marks vs xs ≡ ys) × CanBeStored g marks vs xs

module _ (g : EventGraph) (marks : List Bool) (s t : State) (left : StateLeft marks s t) (clk : ℕ) where
  abbrev h : EventGraph
  h = of_marked_variables g marks

  holds-same : (v : ℕ) → Marked marks v → HoldsSame g h (rank marks) s t v
  holds-same v marked = (cells-left g marks s t left v marked, ap (λ (v : Variable). v.size) (variable-left g marks v marked))

  pub value-left : (e : Expression) → ReadsMarked marks e → value_of h t clk (expression_renumbered (rank marks) e) ≡ value_of g s clk e
  value-left e reads = value-renumbered g h (rank marks) s t clk e (every-map (Marked marks) (HoldsSame g h (rank marks) s t) holds-same (variables_in e) reads)

  each-left : (es : List Expression) → AllByRecursion (ReadsMarked marks) es → each (value_of g s clk) es ≡ each (value_of h t clk) (map (expression_renumbered (rank marks)) es)
  each-left [] reads = refl
  each-left (e ∷ es) (now, reads) =
      ap₂ (λ (r : OrFault ℤ) (q : OrFault (List ℤ)). r >>= λ x. q >>= λ xs. Ok (x ∷ xs)) (sym (value-left e now)) (each-left es reads)

  abbrev Values : List ℕ → List ℤ → List ℤ → Type 0
  Values vs = ValuesKept g marks vs

  pub values-alongside : (vs : List ℕ) (es : List Expression) → ValuesFit g marks s clk vs es → Alongside (ValuesKept g marks vs) (each (value_of g s clk) es) (each (value_of h t clk) (sliced_values marks vs es))
  values-alongside [] es fit = alongside-equal (Values []) (λ xs. (refl, tt)) (each-left es fit)
  values-alongside (v ∷ vs) [] fit = both_go (refl, tt)
  values-alongside (v ∷ vs) (e ∷ es) (reads, quiet, fit) = one (is_marked marks v) refl (values-alongside vs es fit) where
    one : (b : Bool) → is_marked marks v ≡ b → Alongside (Values vs) (each (value_of g s clk) es) (each (value_of h t clk) (sliced_values marks vs es)) → Alongside (Values (v ∷ vs)) (each (value_of g s clk) (e ∷ es)) (each (value_of h t clk) (map (expression_renumbered (rank marks)) (cond b (e ∷ items_where_marked marks vs es) (items_where_marked marks vs es))))
    one true marked later =
        subst (λ (r : OrFault ℤ). Alongside (Values (v ∷ vs)) (each (value_of g s clk) (e ∷ es)) (r >>= λ x. each (value_of h t clk) (sliced_values marks vs es) >>= λ xs. Ok (x ∷ xs))) (sym (value-left e (reads marked)))
        (bind-alongside-same (Values (v ∷ vs)) (value_of g s clk e) _ _ (λ x is.
        bind-alongside (Values vs) (Values (v ∷ vs)) later _ _ (λ xs ys (same, stored).
        both_go (ap (λ b. cond b (x ∷ items_where_marked marks vs xs) (items_where_marked marks vs xs)) marked ∙ ap (λ ys. x ∷ ys) same, ((λ unmarked. both_marks marks v marked unmarked), stored)))))
    one false unmarked later =
        let now = quiet unmarked in
        subst (λ (r : OrFault ℤ). Alongside (Values (v ∷ vs)) (r >>= λ x. each (value_of g s clk) es >>= λ xs. Ok (x ∷ xs)) (each (value_of h t clk) (sliced_values marks vs es))) (sym now.valued)
        (bind-alongside-left (Values vs) (Values (v ∷ vs)) later _ (λ xs ys (same, stored).
        both_go (ap (λ b. cond b (now.value ∷ items_where_marked marks vs xs) (items_where_marked marks vs xs)) unmarked ∙ same, ((λ unmarked. (now.stored, now.keeps)), stored))))

  -- what is received
  pub received-alongside : (vs : List ℕ) (xs : List ℤ) → CanBeStored g marks vs xs → Alongside (StateLeft marks) (receive g vs xs s) (receive h (sliced_parameters marks vs) (items_where_marked marks vs xs) t)
  received-alongside vs xs fit =
      let named : CanBeStored g marks (map (λ (p : Place). p.variable) (map scalar vs)) xs = subst (λ vs. CanBeStored g marks vs xs) (sym (variables-scalars vs)) fit in
      let stores : stores_left marks (zip (map scalar vs) xs) ≡ zip (map scalar (sliced_parameters marks vs)) (items_where_marked marks vs xs) = zip-left marks (map scalar vs) xs ∙ ap₂ (λ ps (us : List ℕ). zip ps (items_where_marked marks us xs)) (scalars-left marks vs) (variables-scalars vs) in
      subst (λ (zs : List (Place × ℤ)). Alongside (StateLeft marks) (receive g vs xs s) (in_turn (store h) zs t)) stores
      (stores-left g marks (zip (map scalar vs) xs) (stored-storable g marks (map scalar vs) xs named) s t left)
