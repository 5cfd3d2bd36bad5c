-- Edges that were renewed have the same effects at each moment.
use Rattle.std.proofs.Common.{◌≡◌, ℕ, ℤ, pos, Bool, true, false, cond, List, [], ◌∷◌, ◌++◌, map, Option, Some, refl, sym, ap, ap₂, ◌∙◌, subst}
use Rattle.std.proofs.lemmas.List.{map-append}
use Rattle.model_core.specs.Run.Value.{is_one}
use Rattle.tree_laws.specs.SumValues.{Valuation}
use Rattle.tree_laws.specs.Limits.{◌>>=◌, each_some}
use Rattle.tree_laws.specs.SumEnds.{Ground, Known}
use Rattle.tree_laws.specs.Meaning.{Meets, Holds}
use Rattle.tree_laws.specs.Trees.{CaseTree, tree_value}
use Rattle.tree_laws.specs.TreesJoined.{renewed}
use Rattle.tree_laws.specs.TreeConditions.{is_zero_tree, learned}
use Rattle.tree_laws.proofs.Gives.{Gives, gives_some, then_gives, gives_weaker, gives_cond}
use Rattle.tree_laws.proofs.CasesOfTrees.{Has}
use Rattle.tree_laws.proofs.JoinedTrees.{gives_if, one_not_none, renewed-value}
use Rattle.tree_laws.proofs.ConditionTrees.{is_zero-value, learned-value}
use Rattle.pair_laws.specs.Effects.{Effect}
use Rattle.pair_laws.specs.EdgesNow.{FormNow, Schedules, TakesNext, TakesEqual, TakesAll, effect_as, effect_at}
use Rattle.pair_laws.specs.Exchanges.{EdgeEffect, effects_made}
use Rattle.pair_laws.proofs.ExchangedEdges.{made-append}
use Rattle.event_laws.specs.EdgesMade.{EdgeTrees, ticks_of, edge_now}
use Rattle.event_laws.specs.EdgesTidied.{renewed_under, edge_renewed, edges_renewed}
use Rattle.event_laws.proofs.EdgesChange.{one-is}

-- both have one effect, or neither has one
pub record AlikeWhereHeld (a b : EdgeEffect) : Type 0 where
  pub holds : a.holds ≡ b.holds
  pub effect : a.holds ≡ true → a.effect ≡ b.effect

-- either may stand before the others
pub alike-made : (a b : EdgeEffect) → AlikeWhereHeld a b → (ks : List EdgeEffect) → effects_made (a ∷ ks) ≡ effects_made (b ∷ ks)
alike-made a b alike ks = by a.holds b.holds alike.holds alike.effect where
  by : (c d : Bool) → c ≡ d → (c ≡ true → a.effect ≡ b.effect) → cond c (a.effect ∷ effects_made ks) (effects_made ks) ≡ cond d (b.effect ∷ effects_made ks) (effects_made ks)
  by true true e same = ap (λ (f : Effect). f ∷ effects_made ks) (same refl)
  by true false e same = cc
  by false true e same = cc
  by false false e same = refl

module _ (v : Valuation) (base : Ground) (meets : Meets base v) (k : Known) (h : Holds v k) where
  each-renewed : (l : Known) → Holds v l → (ts : List CaseTree) → Gives (each_some (renewed base l) ts) (λ us. map (tree_value v) us ≡ map (tree_value v) ts)
  each-renewed l holds [] = gives_some _ _ refl
  each-renewed l holds (t ∷ ts) =
      then_gives (Has v (tree_value v t)) (λ us. map (tree_value v) us ≡ map (tree_value v) (t ∷ ts)) (renewed base l t) _ (renewed-value v base meets l holds t)
      (λ u e. then_gives (λ us. map (tree_value v) us ≡ map (tree_value v) ts) (λ us. map (tree_value v) us ≡ map (tree_value v) (t ∷ ts)) (each_some (renewed base l) ts) _ (each-renewed l holds ts)
      (λ us es. gives_some _ _ (ap₂ (λ x xs. x ∷ xs) e es)))

  -- an edge with this condition, whose delay and values have the values of these where the condition is true
  pub record IsUnder (c delay : CaseTree) (values : List CaseTree) (e f : EdgeTrees) : Type 0 where
    pub form : f.form ≡ e.form
    pub target : f.target ≡ e.target
    pub condition : f.condition ≡ c
    pub delays : is_one (tree_value v c) ≡ true → tree_value v f.delay ≡ tree_value v delay
    pub values_too : is_one (tree_value v c) ≡ true → map (tree_value v) f.values ≡ map (tree_value v) values

  pub renewed_under-is : (c delay : CaseTree) (values : List CaseTree) (e : EdgeTrees) → Gives (renewed_under base k c delay values e) (IsUnder c delay values e)
  renewed_under-is c delay values e =
      let held : Type 0 = is_one (tree_value v c) ≡ true in
      then_gives (λ l. held → Holds v l) (IsUnder c delay values e) (learned base k c) _ (gives_if (Holds v) _ (λ holds. learned-value v base meets c k h (one_not_none _ (one-is _ holds))))
      (λ l holds. then_gives (λ d. held → tree_value v d ≡ tree_value v delay) (IsUnder c delay values e) (renewed base l delay) _ (gives_if (Has v (tree_value v delay)) _ (λ is. renewed-value v base meets l (holds is) delay))
      (λ d of_d. then_gives (λ us. held → map (tree_value v) us ≡ map (tree_value v) values) (IsUnder c delay values e) (each_some (renewed base l) values) _ (gives_if (λ us. map (tree_value v) us ≡ map (tree_value v) values) _ (λ is. each-renewed l (holds is) values))
      (λ us of_us. gives_some _ _ (record { form = refl; target = refl; condition = refl; delays = of_d; values_too = of_us }))))

  module _ (clk : ℕ) where
    abbrev pub at : EdgeTrees → EdgeEffect
    at e = effect_at clk (edge_now v e)

    -- an edge at the clock, in its parts
    abbrev pub effect_of : FormNow → ℕ → ℤ → List ℤ → Effect
    effect_of form target delay values = effect_as clk (record { holds = true; form = form; target = target; delay = ticks_of delay; values = values }) form

    pub effect_in_parts : (e : EdgeTrees) → (at e).effect ≡ effect_of e.form e.target (tree_value v e.delay) (map (tree_value v) e.values)
    effect_in_parts e = by e.form where
      by : (form : FormNow) → effect_as clk (edge_now v e) form ≡ effect_of form e.target (tree_value v e.delay) (map (tree_value v) e.values)
      by (Schedules p) = refl
      by TakesNext = refl
      by TakesEqual = refl
      by TakesAll = refl

    under-alike : (c : CaseTree) (e f : EdgeTrees) → tree_value v c ≡ tree_value v e.condition → IsUnder c e.delay e.values e f → AlikeWhereHeld (at e) (at f)
    under-alike c e f same is = record {
      holds = ap is_one (sym same ∙ sym (ap (tree_value v) is.condition));
      effect = λ held. let holds : is_one (tree_value v c) ≡ true = ap is_one same ∙ held in
          effect_in_parts e
          ∙ ap (λ form. effect_of form e.target (tree_value v e.delay) (map (tree_value v) e.values)) (sym is.form)
          ∙ ap (λ target. effect_of f.form target (tree_value v e.delay) (map (tree_value v) e.values)) (sym is.target)
          ∙ ap₂ (λ d vs. effect_of f.form f.target d vs) (sym (is.delays holds)) (sym (is.values_too holds))
          ∙ sym (effect_in_parts f);
    }

    edge_renewed-made : (e : EdgeTrees) → Gives (edge_renewed base k e) (λ fs. effects_made (at e ∷ []) ≡ effects_made (map at fs))
    edge_renewed-made e =
        let Q : List EdgeTrees → Type 0 = λ fs. effects_made (at e ∷ []) ≡ effects_made (map at fs) in
        then_gives (Has v (tree_value v e.condition)) Q (renewed base k e.condition) _ (renewed-value v base meets k h e.condition)
        (λ c same. gives_cond Q (is_zero_tree c) _ _
        (λ zero. gives_some Q [] (ap (λ x. cond (is_one x) ((at e).effect ∷ []) []) (sym same ∙ is_zero-value v base meets c zero)))
        (λ other. then_gives (IsUnder c e.delay e.values e) Q (renewed_under base k c e.delay e.values e) _ (renewed_under-is c e.delay e.values e)
        (λ f is. gives_some Q (f ∷ []) (alike-made (at e) (at f) (under-alike c e f same is) []))))

    pub edges_renewed-made : (es : List EdgeTrees) → Gives (edges_renewed base k es) (λ rs. effects_made (map at es) ≡ effects_made (map at rs))
    unfolding edges_renewed
    edges_renewed-made [] = gives_some _ _ refl
    edges_renewed-made (e ∷ es) =
        then_gives (λ fs. effects_made (at e ∷ []) ≡ effects_made (map at fs)) (λ rs. effects_made (map at (e ∷ es)) ≡ effects_made (map at rs)) (edge_renewed base k e) _ (edge_renewed-made e)
        (λ one first. then_gives (λ rs. effects_made (map at es) ≡ effects_made (map at rs)) (λ rs. effects_made (map at (e ∷ es)) ≡ effects_made (map at rs)) (edges_renewed base k es) _ (edges_renewed-made es)
        (λ more others. gives_some _ _ (made-append (at e ∷ []) (map at es) ∙ ap₂ (λ x y. x ++ y) first others ∙ sym (made-append (map at one) (map at more)) ∙ ap effects_made (sym (map-append at one more)))))
