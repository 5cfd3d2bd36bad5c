-- Two events whose edges, ordered and joined, agree one by one.
use Rattle.std.specs.Prelude.{◌≡◌, true, List, [], ◌∷◌}
use Rattle.std.specs.List.{AllByRecursion}
use Rattle.pair_laws.specs.Effects.{Done}
use Rattle.pair_laws.specs.Exchanges.{EdgeEffect, effects_made, Tidied}
use Rattle.pair_laws.specs.Pairing.{Classes, effect_seen, TakesAwayAlone, StatesAgree}

-- both have an effect, which is seen as the same, or neither has one
abbrev pub EdgeEffectsAgree : Classes → Classes → EdgeEffect → EdgeEffect → Type 0
EdgeEffectsAgree k l a b = (a.holds ≡ b.holds) × (a.holds ≡ true → effect_seen k a.effect ≡ effect_seen l b.effect)

abbrev pub EdgesAgree : Classes → Classes → List EdgeEffect → List EdgeEffect → Type 0
EdgesAgree k l [] [] = Unit {0}
EdgesAgree k l [] (b ∷ bs) = ⊥
EdgesAgree k l (a ∷ as_) [] = ⊥
EdgesAgree k l (a ∷ as_) (b ∷ bs) = EdgeEffectsAgree k l a b × EdgesAgree k l as_ bs

-- where it has an effect, that takes away by class what it takes away by vertex
abbrev pub EdgeEffectAlone : Classes → EdgeEffect → Type 0
EdgeEffectAlone k a = a.holds ≡ true → TakesAwayAlone k a.effect

-- the states agree, as many words were taken, and the edges, ordered and joined on each side, agree one by one
pub record EventsAgree (k l : Classes) (d e : Done) : Type 0 where
  pub states : StatesAgree k l d.state e.state
  pub taken : d.taken ≡ e.taken
  pub edges : List EdgeEffect
  pub edges_too : List EdgeEffect
  pub effects : d.effects ≡ effects_made edges
  pub effects_too : e.effects ≡ effects_made edges_too
  pub tidied : List EdgeEffect
  pub tidied_too : List EdgeEffect
  pub tidy : Tidied edges tidied
  pub tidy_too : Tidied edges_too tidied_too
  pub agree : EdgesAgree k l tidied tidied_too
  pub alone : AllByRecursion (EdgeEffectAlone k) tidied
  pub alone_too : AllByRecursion (EdgeEffectAlone l) tidied_too
