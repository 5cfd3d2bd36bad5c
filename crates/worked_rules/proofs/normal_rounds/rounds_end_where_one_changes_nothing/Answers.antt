-- The two models differ in how many variables they have.
use Rattle.std.proofs.Common.{◌≡◌, zero, suc, length, refl, ap}
use Rattle.model_core.specs.EventGraph.{EventGraph}
use Rattle.normal_form.specs.Normal.{Round, NormalWithin, no_round_left, left_as_it_is, after_a_round}
use Rattle.worked_rules.specs.NormalModels.{with_spare_parts, plain_form}
use Rattle.worked_rules.proofs.normal_rounds.rounds_end_where_one_changes_nothing.Goals as goal

differ : with_spare_parts ≡ plain_form → ⊥
differ e = some (ap (λ (g : EventGraph). length g.variables) e)
  where
    some : suc zero ≡ zero → ⊥
    some h = cc

pub returns-clause-none_left : goal.returns-clause-none_left
returns-clause-none_left c = no_round_left

pub returns-clause-one_left : goal.returns-clause-one_left
returns-clause-one_left c = after_a_round plain_form c.a_round_has_three_parts.ensures.whole differ no_round_left

pub returns-clause-as_it_is : goal.returns-clause-as_it_is
returns-clause-as_it_is c = left_as_it_is c.a_round_has_three_parts.ensures.no_more

pub returns-clause-whole : goal.returns-clause-whole
returns-clause-whole c = after_a_round plain_form c.a_round_has_three_parts.ensures.whole differ (left_as_it_is c.a_round_has_three_parts.ensures.no_more)

pub returns-clause-not_at_once : goal.returns-clause-not_at_once
returns-clause-not_at_once c = by c.rounds_keep_the_meaning.ensures.determined c.a_round_has_three_parts.ensures.whole
  where
    by : ((g h k : EventGraph) → Round g h → Round g k → h ≡ k) → Round with_spare_parts plain_form → NormalWithin 1 with_spare_parts with_spare_parts → ⊥
    by once made (left_as_it_is a) = differ (once with_spare_parts with_spare_parts plain_form a made)
    by once made (after_a_round _ a differs no_round_left) = differs refl

pub returns-clause-not_without_a_round : goal.returns-clause-not_without_a_round
returns-clause-not_without_a_round c = λ reached. by with_spare_parts plain_form differ reached
  where
    by : (g h : EventGraph) → (g ≡ h → ⊥) → NormalWithin 0 g h → ⊥
    by g _ apart no_round_left = apart refl
