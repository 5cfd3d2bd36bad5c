-- What is read at the place of the plain urgent edge is that edge.
use denote.Bor.{Bor}
use Rattle.std.proofs.Common.{◌≡◌, ◌∙◌, ℕ, zero, suc, ◌≤◌, nat_lt, List, [], ◌∷◌, map, length, get_or, slice_get, Option, Some, None, is_some, option_map, IfSome, refl, sym, ap, arith}
use Rattle.std.proofs.lemmas.Bool.Decides.{nat_tests}
use Rattle.std.specs.Option.{option_and_then}
use Rattle.model_core.specs.declared.vertex.Edge.{Edge}
use Rattle.model_core.specs.Code.Views.{vertex_of, edge_of}
use Rattle.vertex_laws.proofs.ReadElement.{seen_at}
use Rattle.merge_rules.proofs.at_once.edge_at_once.Goals as goal

past_end : {A B : Type 0} (view : A → B) (xs : List A) (k : ℕ) → length xs ≤ k → None ≡ slice_get (map view xs) k
past_end view [] k past = refl
past_end view (x ∷ xs) zero past = absurd (omega (arith, past))
past_end view (x ∷ xs) (suc k) past = past_end view xs k (omega (arith, past))

-- what is read at a place of a list, through a view
read_through : {A B R : Type 0} (view : A → B) (now : R → A) (xs : List A) (k : ℕ) (r : Option R) → is_some r ≡ nat_lt k (length xs) → IfSome r (λ x. now x ≡ get_or xs k (now x)) → option_map (λ x. view (now x)) r ≡ slice_get (map view xs) k
read_through view now xs k None within is = past_end view xs k (grind (arith, nat_tests, within))
read_through view now xs k (Some x) within is = sym (seen_at view xs k (now x) (grind (arith, nat_tests, within)) is)

pub returns-in-Some : goal.returns-in-Some
returns-in-Some c =
    read_through edge_of (λ (x : Bor Edge). x.now) c.as_slice.result.now c.in-Some.place c.get.result c.get.ensures.lookup.0 c.get.ensures.lookup.1
    ∙ ap (λ (es : List Edge). slice_get (map edge_of es) c.in-Some.place) c.as_slice.ensures
    ∙ ap (option_and_then (slice_get (vertex_of c.args.vertex.now).edges)) (sym c.in-Some.is ∙ c.plain_urgent.ensures)

pub returns-in-None : goal.returns-in-None
returns-in-None c = ap (option_and_then (slice_get (vertex_of c.args.vertex.now).edges)) (sym c.in-None.is ∙ c.plain_urgent.ensures)
