-- Edges that, ordered and joined, agree one by one have effects that agree.
use Rattle.std.proofs.Common.{◌≡◌, Bool, true, false, cond, List, [], ◌∷◌, map, refl, ap, ap₂, ◌∙◌}
use Rattle.std.specs.List.{AllByRecursion}
use Rattle.model_core.specs.Saved.DueOrder.{in_due_order}
use Rattle.pair_laws.specs.Effects.{Effect, after_effects, SameEffects, Done}
use Rattle.pair_laws.specs.Exchanges.{EdgeEffect, effects_made}
use Rattle.pair_laws.specs.Pairing.{Classes, effect_seen, TakesAwayAlone, DoneAgree}
use Rattle.pair_laws.specs.AgreeingEvents.{EdgesAgree, EdgeEffectAlone, EventsAgree}
use Rattle.pair_laws.proofs.ExchangedEdges.{tidied-same}

module _ (k l : Classes) where
  one-agrees : (a b : EdgeEffect) (fs hs : List Effect) → map (effect_seen k) fs ≡ map (effect_seen l) hs → (c d : Bool) → c ≡ d → (c ≡ true → effect_seen k a.effect ≡ effect_seen l b.effect)
      → map (effect_seen k) (cond c (a.effect ∷ fs) fs) ≡ map (effect_seen l) (cond d (b.effect ∷ hs) hs)
  one-agrees a b fs hs later true true same seen = ap₂ (λ f (rest : List Effect). f ∷ rest) (seen refl) later
  one-agrees a b fs hs later true false same seen = cc
  one-agrees a b fs hs later false true same seen = cc
  one-agrees a b fs hs later false false same seen = later

  pub effects-agree : (as_ bs : List EdgeEffect) → EdgesAgree k l as_ bs → map (effect_seen k) (effects_made as_) ≡ map (effect_seen l) (effects_made bs)
  effects-agree [] [] agree = refl
  effects-agree [] (b ∷ bs) agree = absurd agree
  effects-agree (a ∷ as_) [] agree = absurd agree
  effects-agree (a ∷ as_) (b ∷ bs) ((same, seen), agree) = one-agrees a b (effects_made as_) (effects_made bs) (effects-agree as_ bs agree) a.holds b.holds same seen

effects-alone : (k : Classes) (ks : List EdgeEffect) → AllByRecursion (EdgeEffectAlone k) ks → AllByRecursion (TakesAwayAlone k) (effects_made ks)
effects-alone k [] all = tt
effects-alone k (a ∷ ks) (alone, all) = chosen a.holds alone (effects-alone k ks all) where
  chosen : (c : Bool) → (c ≡ true → TakesAwayAlone k a.effect) → AllByRecursion (TakesAwayAlone k) (effects_made ks) → AllByRecursion (TakesAwayAlone k) (cond c (a.effect ∷ effects_made ks) (effects_made ks))
  chosen true alone later = (alone refl, later)
  chosen false alone later = later

equal-same : (fs hs : List Effect) → fs ≡ hs → SameEffects fs hs
equal-same fs hs e p = ap (λ l. in_due_order (after_effects l p)) e

pub events-agree : (k l : Classes) (d e : Done) → EventsAgree k l d e → DoneAgree k l d e
events-agree k l d e agree = record {
  states = agree.states;
  taken = agree.taken;
  first = effects_made agree.tidied;
  second = effects_made agree.tidied_too;
  by_first = λ p. equal-same d.effects (effects_made agree.edges) agree.effects p ∙ tidied-same agree.edges agree.tidied agree.tidy p;
  by_second = λ p. equal-same e.effects (effects_made agree.edges_too) agree.effects_too p ∙ tidied-same agree.edges_too agree.tidied_too agree.tidy_too p;
  seen = equal-same (map (effect_seen k) (effects_made agree.tidied)) (map (effect_seen l) (effects_made agree.tidied_too)) (effects-agree k l agree.tidied agree.tidied_too agree.agree);
  first_alone = effects-alone k agree.tidied agree.alone;
  second_alone = effects-alone l agree.tidied_too agree.alone_too;
}
