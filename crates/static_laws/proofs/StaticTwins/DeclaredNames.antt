-- Where no name is declared twice, names mean the places at which they are declared.
use Rattle.std.proofs.Common.{◌≡◌, ◌≢◌, ℕ, zero, suc, ◌+◌, ◌<◌, ℤ, pos, negsuc, Bool, true, not, nat_eq, List, [], ◌∷◌, ◌++◌, map, length, Option, Some, None, refl, sym, ap, subst, ◌∙◌, append_assoc, arith}
use Rattle.std.specs.Prelude.{slice_get, is_some}
use Rattle.std.specs.List.{AllByRecursion, IsDistinct}
use Rattle.std.proofs.lemmas.List.{length-map, append-nil}
use Rattle.std.proofs.lemmas.Option.{same_Some}
use Rattle.std.proofs.lemmas.Bool.Decides.{nat_tests}
use Rattle.model_core.specs.declared.model.Kind.{Kind}
use Rattle.model_core.specs.EventGraph.{Variable}
use Rattle.model_core.specs.Text.Lexing.{same_bytes}
use Rattle.model_core.specs.Text.Written as written
use Rattle.model_core.specs.Text.Written.{WrittenNumber, WrittenKind, WrittenVariable, WrittenTable, WrittenVertex, WrittenModel}
use Rattle.model_core.specs.Text.Numbering as numbering
use Rattle.model_core.specs.Text.Numbering.{◌>>=◌, each_numbered, declared_place, declared_by, natural_of}
use Rattle.model_core.specs.Static.Meanings.{declared_kind, MeansVariable, MeansTable, MeansVertex, Declaration, variable_declaration, table_declaration, vertex_declaration, declarations_from, declarations, declared_name, meaning_of}
use Rattle.model_core.specs.Static.HasKind.{IsVariable}
use Rattle.model_core.specs.Static.OwnRules.{IsShort}
use Rattle.model_core.specs.Static.WrittenByKind.{IsNoZero, IsWrittenByKind}
use Rattle.static_laws.proofs.StaticTwins.MadeOf.{of_two, of_four}
use Rattle.static_laws.proofs.NamedPlaces.{placed_as, variable_item, means_item, means_later}
use Rattle.static_laws.proofs.StaticTwins.NumberedPlaces.{name_at_place, place_within, each_at, declared_apart, distinct_front, distinct_behind, undeclared_front}
use Rattle.static_laws.proofs.StaticTwins.RepeatedNames.{names_of}
use Rattle.static_laws.proofs.StaticTwins.DeclarationTwins.{truth_variable, range_variable}
use Rattle.static_laws.proofs.StaticTwins.NamesAgree.{NamesAgree}

-- ---- a variable and what it is numbered as

record SameVariable (v : WrittenVariable) (y : Variable) : Type 0 where
  name : y.name ≡ v.name.name
  kind : y.kind ≡ declared_kind v.kind
  size : numbering.size v.size ≡ Some y.size

same_variable : (v : WrittenVariable) (kind : WrittenKind) (y : Variable) → v.kind ≡ kind → numbering.variable_of_kind v kind ≡ Some y → SameVariable v y
same_variable v written.TruthKind y k e =
    let p = of_two (truth_variable v.name.name) (numbering.size v.size) (numbering.initial v.initial) y e in
    subst (SameVariable v) p.made (record { name = refl; kind = sym (ap declared_kind k); size = p.is_a })
same_variable v (written.RangeKind lo hi clip) y k e =
    let p = of_four (range_variable v.name.name clip) (numbering.size v.size) (numbering.signed lo) (numbering.signed hi) (numbering.initial v.initial) y e in
    subst (SameVariable v) p.made (record { name = refl; kind = sym (ap declared_kind k); size = p.is_a })

pub variable_name_same : (v : WrittenVariable) (y : Variable) → numbering.variable v ≡ Some y → y.name ≡ v.name.name
variable_name_same v y e = (same_variable v v.kind y refl e).name

pub variable_size : (v : WrittenVariable) (y : Variable) → numbering.variable v ≡ Some y → numbering.size v.size ≡ Some y.size
variable_size v y e = (same_variable v v.kind y refl e).size

no_zero : (j : ℕ) → 0 < j → not (nat_eq j 0) ≡ true
no_zero j h = grind (arith, nat_tests)

-- an array is written with a size
shape_of : (s : Option WrittenNumber) (k : ℕ) → IsNoZero s → numbering.size s ≡ Some k → not (nat_eq k 0) ≡ is_some s
shape_of None k h e = ap (λ i. not (nat_eq i 0)) (sym (same_Some 0 k e))
shape_of (Some n) k h e = by_value n.value h e
  where
    by_value : (value : Option ℤ) → value ≢ Some (pos 0) → (value >>= natural_of) ≡ Some k → not (nat_eq k 0) ≡ true
    by_value None h e = cc
    by_value (Some (negsuc i)) h e = cc
    by_value (Some (pos zero)) h e = absurd (h refl)
    by_value (Some (pos (suc i))) h e = let some : suc i ≡ k = same_Some (suc i) k e in no_zero k (omega arith)

pub every_item : {A : Type 0} (P : A → Type 0) (xs : List A) (k : ℕ) (x : A) → AllByRecursion P xs → slice_get xs k ≡ Some x → P x
every_item P [] k x h e = cc
every_item P (y ∷ ys) zero x h e = subst P (same_Some y x e) h.0
every_item P (y ∷ ys) (suc k) x h e = every_item P ys k x h.1 e

-- ---- the names of a model's declarations

names_declared : {A : Type 0} (f : ℕ → A → Declaration) (named : A → List ℕ) → ((k : ℕ) (x : A) → (f k x).name.name ≡ named x) → (k : ℕ) (xs : List A) → names_of (map declared_name (declarations_from f k xs)) ≡ map named xs
names_declared f named names k [] = refl
names_declared f named names k (x ∷ xs) = ap (λ n. n ∷ names_of (map declared_name (declarations_from f (k + 1) xs))) (names k x) ∙ ap (λ ns. named x ∷ ns) (names_declared f named names (k + 1) xs)

names-append : (ds es : List Declaration) → names_of (map declared_name (ds ++ es)) ≡ names_of (map declared_name ds) ++ names_of (map declared_name es)
names-append [] es = refl
names-append (d ∷ ds) es = ap (λ ns. d.name.name ∷ ns) (names-append ds es)

module _ (m : WrittenModel) where
  abbrev variable_names : List (List ℕ)
  variable_names = map (λ (v : WrittenVariable). v.name.name) m.variables

  abbrev table_names : List (List ℕ)
  table_names = map (λ (t : WrittenTable). t.name.name) m.tables

  abbrev vertex_names : List (List ℕ)
  vertex_names = map (λ (v : WrittenVertex). v.name.name) m.vertices

  -- all declared names, in the order of the text
  pub all_names : names_of (map declared_name (declarations m)) ≡ variable_names ++ table_names ++ vertex_names
  all_names =
      names-append (declarations_from variable_declaration 0 m.variables ++ declarations_from table_declaration 0 m.tables) (declarations_from vertex_declaration 0 m.vertices)
      ∙ (λ i. (names-append (declarations_from variable_declaration 0 m.variables) (declarations_from table_declaration 0 m.tables)
      ∙ (λ j. names_declared variable_declaration (λ (v : WrittenVariable). v.name.name) (λ k v. refl) 0 m.variables j ++ names_declared table_declaration (λ (t : WrittenTable). t.name.name) (λ k t. refl) 0 m.tables j)) i
      ++ names_declared vertex_declaration (λ (v : WrittenVertex). v.name.name) (λ k v. refl) 0 m.vertices i)

  module _ (variables : List Variable) (numbered : each_numbered numbering.variable m.variables ≡ Some variables) (by_kind : AllByRecursion IsWrittenByKind m.variables)
      (distinct : IsDistinct same_bytes (variable_names ++ table_names ++ vertex_names))
      (short_variables : AllByRecursion IsShort variable_names) (short_tables : AllByRecursion IsShort table_names) (short_vertices : AllByRecursion IsShort vertex_names) where
    joined : IsDistinct same_bytes (variable_names ++ (table_names ++ vertex_names))
    joined = subst (IsDistinct same_bytes) (append_assoc variable_names table_names vertex_names) distinct

    is_variable : (name : List ℕ) (k : ℕ) (kind : Kind) (array : Bool) → meaning_of (declarations m) name ≡ Some (MeansVariable k kind array) → IsVariable variables k array kind
    is_variable name k kind array e =
        let (v, at, of_kind, shape) = variable_item m name k kind array e in
        let (y, there, is) = each_at numbering.variable m.variables variables k v numbered at in
        let s = same_variable v v.kind y refl is in
        let w = every_item IsWrittenByKind m.variables k v by_kind at in
        record { variable = y; there = there; shape = shape_of v.size y.size w.size s.size ∙ sym shape; of_kind = s.kind ∙ sym of_kind }

    -- from the three lists joined to the right
    to_right : (name : List ℕ) → meaning_of (declarations m) name ≡ meaning_of (declarations_from variable_declaration 0 m.variables ++ (declarations_from table_declaration 0 m.tables ++ declarations_from vertex_declaration 0 m.vertices)) name
    to_right name = ap (λ ds. meaning_of ds name) (append_assoc (declarations_from variable_declaration 0 m.variables) (declarations_from table_declaration 0 m.tables) (declarations_from vertex_declaration 0 m.vertices))

    no_variable : (name : List ℕ) → declared_place name variable_names ≡ None → meaning_of (declarations m) name ≡ meaning_of (declarations_from table_declaration 0 m.tables ++ declarations_from vertex_declaration 0 m.vertices) name
    no_variable name e = to_right name ∙ means_later variable_declaration (λ (v : WrittenVariable). v.name.name) (λ k v. refl) 0 m.variables _ name e

    short_at : (ns : List (List ℕ)) → AllByRecursion IsShort ns → (name : List ℕ) (k : ℕ) → declared_place name ns ≡ Some k → IsShort name
    short_at ns h name k e = every_item IsShort ns k name h (name_at_place name ns k e)

    pub names_agree : NamesAgree (meaning_of (declarations m)) (declared_by m) variables (length m.tables) (length m.vertices)
    names_agree = record {
      variable_means = λ name k kind array e. ((placed_as m).variable name k kind array e, is_variable name k kind array e);
      variable_named = λ name k e.
          let (v, there, means) = means_item variable_declaration (λ (v : WrittenVariable). v.name.name) (λ k v. refl) 0 k m.variables (declarations_from table_declaration 0 m.tables ++ declarations_from vertex_declaration 0 m.vertices) name e in
          (declared_kind v.kind, is_some v.size, to_right name ∙ means ∙ ap (λ j. Some (MeansVariable j (declared_kind v.kind) (is_some v.size))) (from_zero k), short_at variable_names short_variables name k e);
      table_means = λ name k e. let at = (placed_as m).table name k e in (at, within (λ (t : WrittenTable). t.name.name) m.tables name k at);
      table_named = λ name k e.
          let none = in_tables name k e in
          let (t, there, means) = means_item table_declaration (λ (t : WrittenTable). t.name.name) (λ k t. refl) 0 k m.tables (declarations_from vertex_declaration 0 m.vertices) name e in
          (no_variable name none ∙ means ∙ ap (λ j. Some (MeansTable j)) (from_zero k), short_at table_names short_tables name k e);
      vertex_means = λ name k e. let at = (placed_as m).vertex name k e in (at, within (λ (v : WrittenVertex). v.name.name) m.vertices name k at, (placed_as m).no_variable name k e);
      vertex_named = λ name k e.
          let none = in_vertices name k e in
          let (v, there, means) = means_item vertex_declaration (λ (v : WrittenVertex). v.name.name) (λ k v. refl) 0 k m.vertices [] name e in (
            no_variable name none.0 ∙ means_later table_declaration (λ (t : WrittenTable). t.name.name) (λ k t. refl) 0 m.tables _ name none.1
                ∙ ap (λ ds. meaning_of ds name) (sym (append-nil (declarations_from vertex_declaration 0 m.vertices))) ∙ means ∙ ap (λ j. Some (MeansVertex j)) (from_zero k),
            short_at vertex_names short_vertices name k e,
          );
    }
      where
        from_zero : (k : ℕ) → 0 + k ≡ k
        from_zero k = omega arith

        within : {A : Type 0} (named : A → List ℕ) (xs : List A) (name : List ℕ) (k : ℕ) → declared_place name (map named xs) ≡ Some k → k < length xs
        within named xs name k e = let lt = place_within name (map named xs) k e in omega (arith, length-map xs named)

        in_tables : (name : List ℕ) (k : ℕ) → declared_place name table_names ≡ Some k → declared_place name variable_names ≡ None
        in_tables name k e = declared_apart variable_names table_names name k (distinct_front (variable_names ++ table_names) vertex_names distinct) e

        in_vertices : (name : List ℕ) (k : ℕ) → declared_place name vertex_names ≡ Some k → (declared_place name variable_names ≡ None) × (declared_place name table_names ≡ None)
        in_vertices name k e = (
          undeclared_front variable_names table_names name (declared_apart (variable_names ++ table_names) vertex_names name k distinct e),
          declared_apart table_names vertex_names name k (distinct_behind variable_names (table_names ++ vertex_names) joined) e,
        )
