-- A test distinguishes the first watched thing of one model, or its first parameter, from that of the other.
use Rattle.std.proofs.Common.{◌≡◌, ℕ, pos, Bool, true, false, nat_eq, List, [], ◌∷◌, map, codes, refl, sym, ◌∙◌, ap}
use Rattle.std.specs.Ordering.{int_eq}
use lib.Pointwise.{pointwise}
use Rattle.model_core.specs.EventGraph.{EventGraph, WatchedVariable, WatchedVertex}
use Rattle.model_core.specs.Run.Same.{WatchedName, VariableNamed, VertexNamed, watched_name_of, Parameter, first_parameters}
use Rattle.worked_runs.specs.Building.{ranged}
use Rattle.worked_runs.specs.Pairs.{Apart, watching, watching_two, asking}
use Rattle.worked_runs.proofs.Looks.{apart_by_watch, apart_by_parameters}
use Rattle.worked_runs.proofs.apart.models_differ_by_declarations.Goals as goal

-- lists are different of which one begins with what passes a test, and the other doesn't
abbrev first_passes : {A : Type 0} → (A → Bool) → List A → Bool
first_passes test [] = false
first_passes test (a ∷ as_) = test a

differs : true ≡ false → ⊥
differs e = cc

differ_by : {A : Type 0} (test : A → Bool) (xs ys : List A) → first_passes test xs ≡ true → first_passes test ys ≡ false → xs ≡ ys → ⊥
differ_by test xs ys passes fails e = differs (sym passes ∙ (ap (first_passes test) e ∙ fails))

abbrev is_name : List ℕ → List ℕ → Bool
is_name a b = pointwise nat_eq a b

abbrev is_variable : List ℕ → WatchedName → Bool
is_variable name (VariableNamed n) = is_name n name
is_variable name (VertexNamed n) = false

abbrev is_vertex : List ℕ → WatchedName → Bool
is_vertex name (VariableNamed n) = false
is_vertex name (VertexNamed n) = is_name n name

differ_by_watch : (test : WatchedName → Bool) (g h : EventGraph) → first_passes test (map (watched_name_of g) g.watch) ≡ true → first_passes test (map (watched_name_of h) h.watch) ≡ false → Apart g h
differ_by_watch test g h passes fails = apart_by_watch g h (differ_by test (map (watched_name_of g) g.watch) (map (watched_name_of h) h.watch) passes fails)

differ_by_parameters : (test : Parameter → Bool) (g h : EventGraph) → first_passes test (first_parameters g) ≡ true → first_passes test (first_parameters h) ≡ false → Apart g h
differ_by_parameters test g h passes fails = apart_by_parameters g h (differ_by test (first_parameters g) (first_parameters h) passes fails)

pub returns-clause-variable_or_vertex : goal.returns-clause-variable_or_vertex
returns-clause-variable_or_vertex c =
    differ_by_watch (is_variable (codes "X")) (watching (codes "X") (codes "A") (WatchedVariable 0 ∷ [])) (watching (codes "A") (codes "X") (WatchedVertex 1 ∷ [])) refl refl

pub returns-clause-watched_variable : goal.returns-clause-watched_variable
returns-clause-watched_variable c =
    differ_by_watch (is_variable (codes "X")) (watching (codes "X") (codes "A") (WatchedVariable 0 ∷ [])) (watching (codes "Y") (codes "A") (WatchedVariable 0 ∷ [])) refl refl

pub returns-clause-watched_vertex : goal.returns-clause-watched_vertex
returns-clause-watched_vertex c =
    differ_by_watch (is_vertex (codes "A")) (watching (codes "X") (codes "A") (WatchedVertex 1 ∷ [])) (watching (codes "X") (codes "B") (WatchedVertex 1 ∷ [])) refl refl

pub returns-clause-order_of_the_watch_list : goal.returns-clause-order_of_the_watch_list
returns-clause-order_of_the_watch_list c =
    differ_by_watch (is_variable (codes "X")) (watching_two (WatchedVariable 0 ∷ WatchedVariable 1 ∷ [])) (watching_two (WatchedVariable 1 ∷ WatchedVariable 0 ∷ [])) refl refl

pub returns-clause-one_more_watched : goal.returns-clause-one_more_watched
returns-clause-one_more_watched c =
    apart_by_watch (watching_two (WatchedVariable 0 ∷ [])) (watching_two (WatchedVariable 0 ∷ WatchedVariable 1 ∷ [])) (λ e. cc)

pub returns-clause-name_of_a_parameter : goal.returns-clause-name_of_a_parameter
returns-clause-name_of_a_parameter c =
    differ_by_parameters (λ p. is_name p.name (codes "X")) (asking (ranged (codes "X") 0 9 0)) (asking (ranged (codes "Y") 0 9 0)) refl refl

pub returns-clause-least_of_a_parameter : goal.returns-clause-least_of_a_parameter
returns-clause-least_of_a_parameter c =
    differ_by_parameters (λ p. int_eq p.lo (pos 0)) (asking (ranged (codes "X") 0 9 1)) (asking (ranged (codes "X") 1 9 1)) refl refl

pub returns-clause-greatest_of_a_parameter : goal.returns-clause-greatest_of_a_parameter
returns-clause-greatest_of_a_parameter c =
    differ_by_parameters (λ p. int_eq p.hi (pos 9)) (asking (ranged (codes "X") 0 9 0)) (asking (ranged (codes "X") 0 8 0)) refl refl
